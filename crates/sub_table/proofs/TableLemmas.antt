-- A table by its numbers.
use Rattle.std.proofs.Common.{ℕ, zero, suc, ◌≡◌, ◌<◌, ◌≤◌, ◌+◌, ◌*◌, ◌/◌, ◌%◌, max, inl, inr, Bool, true, false, cond, List, Option, None, refl, sym, ◌∙◌, ap, subst, arith}
use Rattle.std.proofs.lemmas.Bool.{cases_eq, cases_Bool, cond-true, cond-false, eq-eqb, ne_eqb, eqb-true, ltb-true, lt-ltb, le-ltb, and_parts, and_from, and_left, and_right}
use Rattle.std.proofs.lemmas.Nat.{same_from_place}
use Rattle.std.proofs.lemmas.Nat.Bits.{bit_at_or, bit_at-lt}
use Rattle.std.specs.Int.{bit_at}
use Rattle.std.specs.Int.RustNames.{bit_or}
use Rattle.std.specs.Prelude.{◌==◌, ◌&&◌, ◌||◌, nat_lt, if◌then◌else◌, is_some, IsSome, unwrap_or}
use Rattle.sub_table.specs.declared.part.Part.{Part}
use Rattle.sub_table.specs.declared.part.Part.TheVariants.{Tree, Config, Runtime, Links}
use Rattle.sub_table.specs.declared.part.Widths.{Widths}
use Rattle.sub_table.specs.declared.table.SubTable.{SubTable}
use Rattle.sub_table.specs.Events.{Kept, Changes, kept_at}
use Rattle.sub_table.specs.Holders.{is_member}
use Rattle.sub_table.specs.Parts.{is_in, is_part, one_of, width_of}
use Rattle.std.proofs.Math.ListN.{get_or}
use Rattle.sub_table.specs.Table.{at, is_any, is_at, kept_of, number_of}

-- ---- numbers

abbrev pub in_range : ℕ → ℕ → Bool
in_range p i = nat_lt p 16 && nat_lt i 4096

-- what a number of a place and an id says, where both are in range
abbrev pub seen : ℕ → ℕ → Kept → Option (Option (List ℕ))
seen p i k = if in_range p i then kept_at k (number_of p i) else None

pub is_in_range : (p i : ℕ) → p < 16 → i < 4096 → in_range p i ≡ true
is_in_range p i lp li = and_from (nat_lt p 16) (nat_lt i 4096) (lt-ltb p 16 lp) (lt-ltb i 4096 li)

pub seen_inside : (p i : ℕ) (k : Kept) → p < 16 → i < 4096 → seen p i k ≡ kept_at k (number_of p i)
seen_inside p i k lp li = cond-true (in_range p i) (kept_at k (number_of p i)) None (is_in_range p i lp li)

pub seen_past : (p i : ℕ) (k : Kept) → 16 ≤ p → seen p i k ≡ None
seen_past p i k le = cond-false (in_range p i) (kept_at k (number_of p i)) None (and_left (nat_lt p 16) (nat_lt i 4096) (le-ltb p 16 le))

pub seen_behind : (p i : ℕ) (k : Kept) → 4096 ≤ i → seen p i k ≡ None
seen_behind p i k le = cond-false (in_range p i) (kept_at k (number_of p i)) None (and_right (nat_lt p 16) (nat_lt i 4096) (le-ltb i 4096 le))

same_number : (p i place id : ℕ) → i < 4096 → id < 4096 → (number_of p i == number_of place id) ≡ is_at place id p i
same_number p i place id li lid = elim (cases_eq p place) [
  | inr apart ↦ ne_eqb _ _ (λ e. apart ((same_from_place p i place id 4096 li lid e).0)) ∙ sym (and_left (p == place) (i == id) (ne_eqb p place apart))
  | inl same ↦ elim (cases_eq i id) [
    | inr apart ↦ ne_eqb _ _ (λ e. apart ((same_from_place p i place id 4096 li lid e).1)) ∙ sym (and_right (p == place) (i == id) (ne_eqb i id apart))
    | inl here ↦ eq-eqb _ _ (ap (λ (q : ℕ). q * 4096 + i) same ∙ ap (λ (j : ℕ). place * 4096 + j) here) ∙ sym (and_from (p == place) (i == id) (eq-eqb p place same) (eq-eqb i id here))
  ]
]

and_turned : (a b : Bool) → (a && b) ≡ (b && a)
and_turned true true = refl
and_turned true false = refl
and_turned false true = refl
and_turned false false = refl

-- what is out of range is no number that a call is asked for
not_at : (p i place id : ℕ) → place < 16 → id < 4096 → in_range p i ≡ false → is_at place id p i ≡ false
not_at p i place id lp li out = elim (cases_Bool (is_at place id p i)) [
  | inr apart ↦ apart
  | inl here ↦
      let both = and_parts (p == place) (i == id) here in
      let ep : p ≡ place = eqb-true p place both.0 in
      let ei : i ≡ id = eqb-true i id both.1 in
      absurd (let wrong : true ≡ false = sym (is_in_range p i (omega arith) (omega arith)) ∙ out in cc)
]

turned : (f : Option (Option (List ℕ)) → Option (Option (List ℕ))) (n m : ℕ) (a b : Bool) (k : Kept) → n ≡ m → a ≡ b → (o : ℕ)
    → (if a && (o == n) then f (kept_at k o) else kept_at k o) ≡ (if b && (o == m) then f (kept_at k o) else kept_at k o)
turned f n m a b k en eb o = ap (λ (x : Bool). cond x (f (kept_at k o)) (kept_at k o)) (ap (λ (c : Bool). c && (o == n)) eb ∙ ap (λ (q : ℕ). b && (o == q)) en)

module _ (f : Option (Option (List ℕ)) → Option (Option (List ℕ))) (before after : Kept) (named : Bool) (place id : ℕ) (lp : place < 16) (li : id < 4096) where
  -- a change of one number is a change at one place and id
  pub changed : Changes f (number_of place id) named before after
      → (p i : ℕ) → seen p i after ≡ (if is_at place id p i && named then f (seen p i before) else seen p i before)
  changed is p i = elim (cases_Bool (in_range p i)) [
    | inl inside ↦
        let n = number_of p i in
        let both = and_parts (nat_lt p 16) (nat_lt i 4096) inside in
        let below : i < 4096 = ltb-true i 4096 both.1 in
        cond-true (in_range p i) (kept_at after n) None inside
        ∙ is n
        ∙ ap (λ (b : Bool). cond b (f (kept_at before n)) (kept_at before n)) (and_turned named (n == number_of place id) ∙ ap (λ (b : Bool). b && named) (same_number p i place id below li))
        ∙ sym (ap (λ (o : Option (Option (List ℕ))). cond (is_at place id p i && named) (f o) o) (cond-true (in_range p i) (kept_at before n) None inside))
    | inr out ↦
        let o : seen p i before ≡ None = cond-false (in_range p i) (kept_at before (number_of p i)) None out in
        cond-false (in_range p i) (kept_at after (number_of p i)) None out
        ∙ sym (cond-false (is_at place id p i && named) (f (seen p i before)) (seen p i before) (and_left (is_at place id p i) named (not_at p i place id lp li out)) ∙ o)
  ]

-- the changes of the four parts are one change of the table
pub all_changed : (f : Option (Option (List ℕ)) → Option (Option (List ℕ))) (before after : SubTable) (named : Part → Bool) (place id n : ℕ) → place < 16 → id < 4096 → n ≡ number_of place id
    → (t c r l : Bool) → t ≡ named Tree → c ≡ named Config → r ≡ named Runtime → l ≡ named Links
    → Changes f n t before.tree after.tree → Changes f n c before.config after.config → Changes f n r before.runtime after.runtime → Changes f n l before.links after.links
    → (p i : ℕ) (part : Part) → at after p i part ≡ (if is_at place id p i && named part then f (at before p i part) else at before p i part)
all_changed f before after named place id n lp li en t c r l et ec er el ct cc' cr cl p i Tree =
    changed f before.tree after.tree (named Tree) place id lp li (λ o. ct o ∙ turned f n (number_of place id) t (named Tree) before.tree en et o) p i
all_changed f before after named place id n lp li en t c r l et ec er el ct cc' cr cl p i Config =
    changed f before.config after.config (named Config) place id lp li (λ o. cc' o ∙ turned f n (number_of place id) c (named Config) before.config en ec o) p i
all_changed f before after named place id n lp li en t c r l et ec er el ct cc' cr cl p i Runtime =
    changed f before.runtime after.runtime (named Runtime) place id lp li (λ o. cr o ∙ turned f n (number_of place id) r (named Runtime) before.runtime en er o) p i
all_changed f before after named place id n lp li en t c r l et ec er el ct cc' cr cl p i Links =
    changed f before.links after.links (named Links) place id lp li (λ o. cl o ∙ turned f n (number_of place id) l (named Links) before.links en el o) p i

-- ---- an event of one part

-- a part that is the one meant is subscribed
pub meant : (part other : Part) → is_part part other ≡ true → part ≡ other
meant Tree Tree e = refl
meant Config Config e = refl
meant Runtime Runtime e = refl
meant Links Links e = refl
meant Tree Config e = absurd (let wrong : false ≡ true = e in cc)
meant Tree Runtime e = absurd (let wrong : false ≡ true = e in cc)
meant Tree Links e = absurd (let wrong : false ≡ true = e in cc)
meant Config Tree e = absurd (let wrong : false ≡ true = e in cc)
meant Config Runtime e = absurd (let wrong : false ≡ true = e in cc)
meant Config Links e = absurd (let wrong : false ≡ true = e in cc)
meant Runtime Tree e = absurd (let wrong : false ≡ true = e in cc)
meant Runtime Config e = absurd (let wrong : false ≡ true = e in cc)
meant Runtime Links e = absurd (let wrong : false ≡ true = e in cc)
meant Links Tree e = absurd (let wrong : false ≡ true = e in cc)
meant Links Config e = absurd (let wrong : false ≡ true = e in cc)
meant Links Runtime e = absurd (let wrong : false ≡ true = e in cc)

pub meant_there : (t : SubTable) (place id n : ℕ) (part other : Part) (b : Bool) → place < 16 → id < 4096 → n ≡ number_of place id → IsSome (at t place id part) → b ≡ is_part part other → b ≡ true
    → IsSome (kept_at (kept_of t other) n)
meant_there t place id n part other b lp li en there is so =
    ap (λ (m : ℕ). is_some (kept_at (kept_of t other) m)) en
    ∙ ap is_some (sym (seen_inside place id (kept_of t other) lp li))
    ∙ ap (λ (q : Part). is_some (at t place id q)) (sym (meant part other (sym is ∙ so)))
    ∙ there

pub meant_short : (t : SubTable) (part other : Part) (b : Bool) (len : ℕ) → len ≤ (kept_of t part).width → b ≡ is_part part other → b ≡ true → len ≤ (kept_of t other).width
meant_short t part other b len le is so = subst (λ (q : Part). len ≤ (kept_of t q).width) (meant part other (sym is ∙ so)) le

-- ---- many unsubscribed

abbrev pub ClearedPlaces : ℕ → ℕ → SubTable → SubTable → Type 0
ClearedPlaces done id before now = (p i : ℕ) (part : Part) → at now p i part ≡ (if nat_lt p done && (i == id) then None else at before p i part)

abbrev pub ClearedIds : ℕ → ℕ → SubTable → SubTable → Type 0
ClearedIds place done before now = (p i : ℕ) (part : Part) → at now p i part ≡ (if (p == place) && nat_lt i done then None else at before p i part)

-- ---- bits of a mask

abbrev pub sum_of : Bool → Bool → Bool → Bool → ℕ
sum_of a b c d = (if a then 1 else 0) + (if b then 2 else 0) + (if c then 4 else 0) + (if d then 8 else 0)

each : (n : ℕ) (f : Part → Bool) → is_in n Tree ≡ f Tree → is_in n Config ≡ f Config → is_in n Runtime ≡ f Runtime → is_in n Links ≡ f Links → (part : Part) → is_in n part ≡ f part
each n f t c r l Tree = t
each n f t c r l Config = c
each n f t c r l Runtime = r
each n f t c r l Links = l

pub four_bits : (a b c d : Bool) (part : Part) → is_in (sum_of a b c d) part ≡ one_of a b c d part
four_bits true true true true = each 15 (one_of true true true true) refl refl refl refl
four_bits true true true false = each 7 (one_of true true true false) refl refl refl refl
four_bits true true false true = each 11 (one_of true true false true) refl refl refl refl
four_bits true true false false = each 3 (one_of true true false false) refl refl refl refl
four_bits true false true true = each 13 (one_of true false true true) refl refl refl refl
four_bits true false true false = each 5 (one_of true false true false) refl refl refl refl
four_bits true false false true = each 9 (one_of true false false true) refl refl refl refl
four_bits true false false false = each 1 (one_of true false false false) refl refl refl refl
four_bits false true true true = each 14 (one_of false true true true) refl refl refl refl
four_bits false true true false = each 6 (one_of false true true false) refl refl refl refl
four_bits false true false true = each 10 (one_of false true false true) refl refl refl refl
four_bits false true false false = each 2 (one_of false true false false) refl refl refl refl
four_bits false false true true = each 12 (one_of false false true true) refl refl refl refl
four_bits false false true false = each 4 (one_of false false true false) refl refl refl refl
four_bits false false false true = each 8 (one_of false false false true) refl refl refl refl
four_bits false false false false = each 0 (one_of false false false false) refl refl refl refl

-- ---- bits of words

or_of_bits : (x y : ℕ) → x < 2 → y < 2 → (max x y == 1) ≡ ((x == 1) || (y == 1))
or_of_bits zero zero lx ly = refl
or_of_bits zero (suc zero) lx ly = refl
or_of_bits (suc zero) zero lx ly = refl
or_of_bits (suc zero) (suc zero) lx ly = refl
or_of_bits zero (suc (suc y)) lx ly = absurd (omega arith)
or_of_bits (suc zero) (suc (suc y)) lx ly = absurd (omega arith)
or_of_bits (suc (suc x)) y lx ly = absurd (omega arith)

pub or_bit : (a b k : ℕ) → (bit_at (bit_or a b) k == 1) ≡ ((bit_at a k == 1) || (bit_at b k == 1))
or_bit a b k = ap (λ (n : ℕ). n == 1) (bit_at_or a b k) ∙ or_of_bits (bit_at a k) (bit_at b k) (bit_at-lt a k) (bit_at-lt b k)

-- ---- masks of what is subscribed

pub sums : (a b c d : Bool) (x y z w : ℕ) → x ≡ (if a then 1 else 0) → y ≡ (if b then 2 else 0) → z ≡ (if c then 4 else 0) → w ≡ (if d then 8 else 0)
    → (part : Part) → is_in (x + y + z + w) part ≡ one_of a b c d part
sums a b c d x y z w ex ey ez ew part =
    ap (λ (n : ℕ). is_in (n + y + z + w) part) ex
    ∙ ap (λ (n : ℕ). is_in ((if a then 1 else 0) + n + z + w) part) ey
    ∙ ap (λ (n : ℕ). is_in ((if a then 1 else 0) + (if b then 2 else 0) + n + w) part) ez
    ∙ ap (λ (n : ℕ). is_in ((if a then 1 else 0) + (if b then 2 else 0) + (if c then 4 else 0) + n) part) ew
    ∙ four_bits a b c d part

pub mask_is : (s : SubTable) (place id n : ℕ) → place < 16 → id < 4096 → n ≡ number_of place id → (t c r l : Bool)
    → t ≡ is_some (kept_at s.tree n) → c ≡ is_some (kept_at s.config n) → r ≡ is_some (kept_at s.runtime n) → l ≡ is_some (kept_at s.links n)
    → (part : Part) → one_of t c r l part ≡ is_some (at s place id part)
mask_is s place id n lp li en t c r l et ec er el Tree = et ∙ ap (λ (m : ℕ). is_some (kept_at s.tree m)) en ∙ ap is_some (sym (seen_inside place id s.tree lp li))
mask_is s place id n lp li en t c r l et ec er el Config = ec ∙ ap (λ (m : ℕ). is_some (kept_at s.config m)) en ∙ ap is_some (sym (seen_inside place id s.config lp li))
mask_is s place id n lp li en t c r l et ec er el Runtime = er ∙ ap (λ (m : ℕ). is_some (kept_at s.runtime m)) en ∙ ap is_some (sym (seen_inside place id s.runtime lp li))
mask_is s place id n lp li en t c r l et ec er el Links = el ∙ ap (λ (m : ℕ). is_some (kept_at s.links m)) en ∙ ap is_some (sym (seen_inside place id s.links lp li))

-- the last event by the number
pub last_is : (s : SubTable) (k : Kept) (place id n : ℕ) (part : Part) → place < 16 → id < 4096 → k ≡ kept_of s part → n ≡ number_of place id
    → unwrap_or (kept_at k n) None ≡ unwrap_or (at s place id part) None
last_is s k place id n part lp li ek en =
    ap (λ (q : Kept). unwrap_or (kept_at q n) None) ek ∙ ap (λ (m : ℕ). unwrap_or (kept_at (kept_of s part) m) None) en
    ∙ ap (λ (o : Option (Option (List ℕ))). unwrap_or o None) (sym (seen_inside place id (kept_of s part) lp li))

-- ---- words of all parts

pub word_is : (s : SubTable) (at n a b c d : ℕ) → n / 64 ≡ at → a ≡ get_or s.tree.words at 0 → b ≡ get_or s.config.words at 0 → c ≡ get_or s.runtime.words at 0 → d ≡ get_or s.links.words at 0
    → (bit_at (bit_or (bit_or (bit_or a b) c) d) (n % 64) == 1) ≡ is_any s n
word_is s at n a b c d en ea eb ec ed =
    or_bit (bit_or (bit_or a b) c) d (n % 64)
    ∙ ap (λ (x : Bool). x || (bit_at d (n % 64) == 1)) (or_bit (bit_or a b) c (n % 64) ∙ ap (λ (x : Bool). x || (bit_at c (n % 64) == 1)) (or_bit a b (n % 64)))
    ∙ ap (λ (x : Bool). x || (bit_at b (n % 64) == 1) || (bit_at c (n % 64) == 1) || (bit_at d (n % 64) == 1)) (one a s.tree.words ea)
    ∙ ap (λ (x : Bool). is_member s.tree.words n || x || (bit_at c (n % 64) == 1) || (bit_at d (n % 64) == 1)) (one b s.config.words eb)
    ∙ ap (λ (x : Bool). is_member s.tree.words n || is_member s.config.words n || x || (bit_at d (n % 64) == 1)) (one c s.runtime.words ec)
    ∙ ap (λ (x : Bool). is_member s.tree.words n || is_member s.config.words n || is_member s.runtime.words n || x) (one d s.links.words ed)
  where
    one : (w : ℕ) (words : List ℕ) → w ≡ get_or words at 0 → (bit_at w (n % 64) == 1) ≡ is_member words n
    one w words e = ap (λ (v : ℕ). bit_at v (n % 64) == 1) (e ∙ ap (λ (k : ℕ). get_or words k 0) (sym en))

-- ---- a new table

nothing_seen : (p i : ℕ) (k : Kept) → ((n : ℕ) → kept_at k n ≡ None) → seen p i k ≡ None
nothing_seen p i k none = elim (cases_Bool (in_range p i)) [
  | inl inside ↦ cond-true (in_range p i) (kept_at k (number_of p i)) None inside ∙ none (number_of p i)
  | inr out ↦ cond-false (in_range p i) (kept_at k (number_of p i)) None out
]

pub nothing_at : (s : SubTable) → ((n : ℕ) → kept_at s.tree n ≡ None) → ((n : ℕ) → kept_at s.config n ≡ None) → ((n : ℕ) → kept_at s.runtime n ≡ None) → ((n : ℕ) → kept_at s.links n ≡ None)
    → (p i : ℕ) (part : Part) → at s p i part ≡ None
nothing_at s t c r l p i Tree = nothing_seen p i s.tree t
nothing_at s t c r l p i Config = nothing_seen p i s.config c
nothing_at s t c r l p i Runtime = nothing_seen p i s.runtime r
nothing_at s t c r l p i Links = nothing_seen p i s.links l

pub first_widths : (s : SubTable) (w : Widths) → s.tree.width ≡ w.tree → s.config.width ≡ w.config → s.runtime.width ≡ w.runtime → s.links.width ≡ w.links
    → (part : Part) → (kept_of s part).width ≡ width_of w part
first_widths s w t c r l Tree = t
first_widths s w t c r l Config = c
first_widths s w t c r l Runtime = r
first_widths s w t c r l Links = l
