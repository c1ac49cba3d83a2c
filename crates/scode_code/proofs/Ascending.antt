-- The first entry of a kind, of those that ascend.
use Rattle.std.proofs.Common.{◌≡◌, ℕ, zero, suc, ◌≤◌, Bool, true, false, List, [], ◌∷◌, refl, sym, ◌∙◌, ap, subst, arith, leb-true}
use Rattle.std.specs.Prelude.{cond, find, nat_le, slice_get, Some, None}
use Rattle.std.proofs.lemmas.Bool.{and_parts}
use Rattle.scode_image.specs.declared.image.ImageEntry.{ImageEntry}
use Rattle.scode_code.specs.TableRules.{places_ascend}
use Rattle.scode_code.proofs.Places.{some_eq, none_some}

-- an entry that is among others, and is of a kind
pub record Among (p : ImageEntry → Bool) (es : List ImageEntry) (e : ImageEntry) : Type 0 where
  pub n : ℕ
  pub there : slice_get es n ≡ Some e
  pub is : p e ≡ true

among_more : (p : ImageEntry → Bool) (x : ImageEntry) (es : List ImageEntry) (e : ImageEntry) → Among p es e
    → Among p (x ∷ es) e
among_more p x es e a = record { n = suc a.n; there = a.there; is = a.is }

pub found_among : (p : ImageEntry → Bool) (es : List ImageEntry) (e : ImageEntry) → find p es ≡ Some e → Among p es e
found_among p [] e found = absurd (none_some e found)
found_among p (x ∷ es) e found = by_test (found_among p es e) (p x) refl found
  where
    by_test : (find p es ≡ Some e → Among p es e) → (b : Bool) → p x ≡ b → cond b (Some x) (find p es) ≡ Some e
        → Among p (x ∷ es) e
    by_test later true is found =
        let same : x ≡ e = some_eq x e found in
        subst (λ (y : ImageEntry). Among p (x ∷ es) y) same (record { n = 0; there = refl; is = is })
    by_test later false is found = among_more p x es e (later found)

pub none_among : (p : ImageEntry → Bool) (es : List ImageEntry) → find p es ≡ None → (n : ℕ) (e : ImageEntry)
    → slice_get es n ≡ Some e → p e ≡ false
none_among p [] none n e there = absurd (none_some e there)
none_among p (x ∷ es) none n e there = by_test (none_among p es) (p x) refl none n there
  where
    by_test : (find p es ≡ None → (n : ℕ) (e : ImageEntry) → slice_get es n ≡ Some e → p e ≡ false)
        → (b : Bool) → p x ≡ b → cond b (Some x) (find p es) ≡ None → (n : ℕ) → slice_get (x ∷ es) n ≡ Some e
        → p e ≡ false
    by_test further true is none n there = absurd (none_some x (sym none))
    by_test further false is none zero there = ap p (sym (some_eq x e there)) ∙ is
    by_test further false is none (suc n) there = further none n e there

-- all of them stand from a place on
behind : (es : List ImageEntry) (least n : ℕ) (e : ImageEntry) → places_ascend least es ≡ true
    → slice_get es n ≡ Some e → least ≤ e.place
behind [] least n e up there = absurd (none_some e there)
behind (x ∷ es) least zero e up there =
    let low : least ≤ x.place = leb-true least x.place (and_parts (nat_le least x.place) _ up).0 in
    subst (λ (y : ImageEntry). least ≤ y.place) (some_eq x e there) low
behind (x ∷ es) least (suc n) e up there =
    let p = and_parts (nat_le least x.place) (places_ascend (suc x.place) es) up in
    let low : least ≤ x.place = leb-true least x.place p.0 in
    let high : suc x.place ≤ e.place = behind es (suc x.place) n e p.1 there in
    omega (arith, low, high)

-- the first one of a kind stands before the others of it
pub found_first : (p : ImageEntry → Bool) (es : List ImageEntry) (least : ℕ) (e : ImageEntry)
    → places_ascend least es ≡ true → find p es ≡ Some e
    → (n : ℕ) (d : ImageEntry) → slice_get es n ≡ Some d → p d ≡ true → e.place ≤ d.place
found_first p [] least e up found n d there is = absurd (none_some d there)
found_first p (x ∷ es) least e up found n d there is =
    by_test (found_first p es (suc x.place) e
    (and_parts (nat_le least x.place) (places_ascend (suc x.place) es) up).1) (p x) refl found n there
  where
    up_behind : places_ascend (suc x.place) es ≡ true
    up_behind = (and_parts (nat_le least x.place) (places_ascend (suc x.place) es) up).1

    first_is : x ≡ e → (n : ℕ) → slice_get (x ∷ es) n ≡ Some d → e.place ≤ d.place
    first_is same zero there =
        let equal : x.place ≡ d.place = ap (λ (y : ImageEntry). y.place) (some_eq x d there) in
        let mine : x.place ≡ e.place = ap (λ (y : ImageEntry). y.place) same in
        omega (arith, equal, mine)
    first_is same (suc n) there =
        let high : suc x.place ≤ d.place = behind es (suc x.place) n d up_behind there in
        let mine : x.place ≡ e.place = ap (λ (y : ImageEntry). y.place) same in
        omega (arith, high, mine)

    by_test : (find p es ≡ Some e → (n : ℕ) (d : ImageEntry) → slice_get es n ≡ Some d → p d ≡ true → e.place ≤ d.place)
        → (b : Bool) → p x ≡ b → cond b (Some x) (find p es) ≡ Some e → (n : ℕ) → slice_get (x ∷ es) n ≡ Some d
        → e.place ≤ d.place
    by_test further true here found n there = first_is (some_eq x e found) n there
    by_test further false other found zero there = let wrong = ap p (some_eq x d there) in absurd cc
    by_test further false other found (suc n) there = further found n d there is
