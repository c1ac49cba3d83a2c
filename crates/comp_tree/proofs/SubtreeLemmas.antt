-- What stands at and below a component, and maps without some keys.
use Rattle.std.proofs.Common.{ℕ, zero, suc, ◌+◌, ◌-◌, ◌<◌, ◌≤◌, ◌≡◌, ◌≢◌, ◌⊎◌, inl, inr, Bool, true, false, not, cond, IsTrue, List, [], ◌∷◌, ◌++◌, length, take, drop, refl, sym, ◌∙◌, ap, subst, arith}
use Rattle.std.proofs.Math.ListN.{get_or}
use Rattle.std.specs.Prelude.{Option, Some, None, IsSome, is_some, ◌==◌, ◌||◌, All, filter}
use Rattle.std.specs.FinMap as map
use Rattle.std.specs.FinMap.{FinMap}
use Rattle.std.specs.Cmp.{nat_cmp_total}
use Rattle.std.specs.Ordering.{nat_cmp}
use Rattle.std.specs.List.{flat_map, list_any}
use Rattle.std.specs.Option.{option_and_then}
use Rattle.std.proofs.lemmas.Bool.{cases_eq}
use Rattle.std.proofs.lemmas.Bool.Decides.{nat_tests}
use Rattle.std.proofs.lemmas.List.{append_assoc, flat_map_more, length-append, length-take-le, take_more}
use Rattle.std.proofs.lemmas.List.Folds.{length-flat_map-take, list_any-append}
use Rattle.std.proofs.lemmas.List.Sums.{count_by-le-length, length-filter}
use Rattle.comp_tree.specs.Application.{ById, children_of}
use Rattle.comp_tree.specs.Edits.{without_all}
use Rattle.comp_tree.specs.Order.{down_from}
use Rattle.comp_tree.specs.Shape.{IsTree, down_by, up_by}
use Rattle.comp_tree.proofs.MapLemmas.{kept_beside, len_less, taken_out}
use Rattle.comp_tree.proofs.ShapeLemmas.{In, Once, below_once, below_up}
use Rattle.sed_value.proofs.Truths.{either_true as or_more}

-- ---- a subtree

-- it is said by children alone
pub down_is : (all : ById) (children : ℕ → List ℕ) → ((q : ℕ) → children_of all q ≡ children q) → (levels id : ℕ) → down_from all levels id ≡ down_by children levels id
unfolding down_from down_by
down_is all children same zero id = refl
down_is all children same (suc levels) id =
    ap (λ (ids : List ℕ). id ∷ ids)
    (ap (flat_map (down_from all levels)) (same id) ∙ ap (λ (f : ℕ → List ℕ). flat_map f (children id)) (λ i x. down_is all children same levels x i))

module _ (live : ℕ → Bool) (parent : ℕ → Option ℕ) (children : ℕ → List ℕ) (tree : IsTree live parent children) (id : ℕ) (there : IsTrue (live id)) where
  pub below_live : (x : ℕ) → In x (down_by children 17 id) → IsTrue (live x)
  below_live x h = let n = below_up live parent children tree 17 id x h in go n.0 n.2
    where
      go : (n : ℕ) → up_by parent n x ≡ Some id → IsTrue (live x)
      go zero up = let same : x ≡ id = cc in ap live same ∙ there
      go (suc n) up = at (parent x) refl up
        where
          at : (r : Option ℕ) → parent x ≡ r → option_and_then (up_by parent n) r ≡ Some id → IsTrue (live x)
          at None is e = absurd (let no = e in cc)
          at (Some above) is e = tree.known x above is

  pub subtree_once : Once (down_by children 17 id)
  subtree_once = let w = tree.within id there in below_once live parent children tree 17 id w.0 w.2

-- ---- numbers in a list

pub decide_in : (x : ℕ) (xs : List ℕ) → In x xs ⊎ (In x xs → ⊥)
decide_in x [] = inr (λ never. never)
decide_in x (y ∷ ys) = elim (cases_eq x y) [
  | inl e ↦ inl (inl e)
  | inr ne ↦ elim (decide_in x ys) [
    | inl h ↦ inl (inr h)
    | inr out ↦ inr (λ h. elim h [ inl e ↦ ne e | inr k ↦ out k ])
  ]
]

pub at_in : (xs : List ℕ) (k x : ℕ) → k < length xs → x ≡ get_or xs k x → In x xs
at_in [] k x lt is = absurd (omega arith)
at_in (y ∷ ys) zero x lt is = inl is
at_in (y ∷ ys) (suc k) x lt is = inr (at_in ys k x (omega arith) is)

pub any_at : (xs : List ℕ) (k d : ℕ) → k < length xs → In (get_or xs k d) xs
any_at [] k d lt = absurd (omega arith)
any_at (y ∷ ys) zero d lt = inl refl
any_at (y ∷ ys) (suc k) d lt = inr (any_at ys k d (omega arith))

pub all_of : (P : ℕ → Type 0) (xs : List ℕ) → ((x : ℕ) → In x xs → P x) → All P xs
all_of P xs each = λ k d lt. each (get_or xs k d) (any_at xs k d lt)

pub one_of : (P : ℕ → Type 0) (xs : List ℕ) (k x : ℕ) → All P xs → k < length xs → x ≡ get_or xs k x → P x
one_of P xs k x all lt is = subst P (sym is) (all k x lt)

-- the next one, and those behind it or before
pub next_at : (xs : List ℕ) (k x : ℕ) → k < length xs → x ≡ get_or xs k x → drop k xs ≡ x ∷ drop (k + 1) xs
next_at [] k x lt is = absurd (omega arith)
next_at (y ∷ ys) zero x lt is = ap (λ (z : ℕ). z ∷ ys) (sym is)
next_at (y ∷ ys) (suc k) x lt is = next_at ys k x (omega arith) is ∙ (let e : suc k + 1 ≡ suc (k + 1) = omega arith in ap (λ (n : ℕ). x ∷ drop n (y ∷ ys)) (sym e))

pub taken_next : (xs : List ℕ) (k x : ℕ) → k < length xs → x ≡ get_or xs k x → take (k + 1) xs ≡ take k xs ++ x ∷ []
taken_next xs k x lt is = take_more xs k x lt ∙ ap (λ (y : ℕ). take k xs ++ y ∷ []) (sym is)

pub take_all : (xs : List ℕ) (k : ℕ) → length xs ≤ k → take k xs ≡ xs
take_all [] zero le = refl
take_all [] (suc k) le = refl
take_all (y ∷ ys) zero le = absurd (omega arith)
take_all (y ∷ ys) (suc k) le = ap (λ (zs : List ℕ). y ∷ zs) (take_all ys k (omega arith))

-- a number stands before no place but its own
pub once_before : (xs : List ℕ) (k x : ℕ) → Once xs → k < length xs → x ≡ get_or xs k x → In x (take k xs) → ⊥
once_before [] k x once lt is h = absurd (omega arith)
once_before (y ∷ ys) zero x once lt is h = h
once_before (y ∷ ys) (suc k) x once lt is (inl e) = once.0 (subst (λ (z : ℕ). In z ys) e (at_in ys k x (omega arith) is))
once_before (y ∷ ys) (suc k) x once lt is (inr h) = once_before ys k x once.1 (omega arith) is h

same_number : (x : ℕ) → (x == x) ≡ true
same_number x = grind (arith, nat_tests)

other_number : (x y : ℕ) → y ≢ x → (y == x) ≡ false
other_number x y ne = grind (arith, nat_tests)

or_none : (a b : Bool) → b ≡ false → (a || b) ≡ a
or_none true b e = refl
or_none false b e = e

pub is_in : (x : ℕ) (xs : List ℕ) → In x xs → list_any (λ other. other == x) xs ≡ true
is_in x [] never = absurd never
is_in x (y ∷ ys) (inl e) = ap (λ (b : Bool). b || list_any (λ other. other == x) ys) (ap (λ (z : ℕ). z == x) (sym e) ∙ same_number x)
is_in x (y ∷ ys) (inr h) = or_more (y == x) (list_any (λ other. other == x) ys) (is_in x ys h)

pub is_out : (x : ℕ) (xs : List ℕ) → (In x xs → ⊥) → list_any (λ other. other == x) xs ≡ false
is_out x [] out = refl
is_out x (y ∷ ys) out =
    ap (λ (b : Bool). b || list_any (λ other. other == x) ys) (other_number x y (λ e. out (inl (sym e)))) ∙ is_out x ys (λ h. out (inr h))

-- ---- lists in a row

pub down_none : (children : ℕ → List ℕ) (levels id : ℕ) → levels ≡ 0 → down_by children levels id ≡ []
unfolding down_by
down_none children zero id e = refl
down_none children (suc levels) id e = absurd (omega arith)

pub down_more : (children : ℕ → List ℕ) (levels id : ℕ) → levels ≢ 0 → down_by children levels id ≡ id ∷ flat_map (down_by children (levels - 1)) (children id)
unfolding down_by
down_more children zero id ne = absurd (ne refl)
down_more children (suc levels) id ne = let e : suc levels - 1 ≡ levels = omega arith in ap (λ (n : ℕ). id ∷ flat_map (down_by children n) (children id)) (sym e)

pub flat_room : (f : ℕ → List ℕ) (xs : List ℕ) (k x : ℕ) → k < length xs → x ≡ get_or xs k x → length (flat_map f (take k xs)) + length (f x) ≤ length (flat_map f xs)
flat_room f xs k x lt is =
    let fits = length-flat_map-take f xs k x lt in
    let same : length (f x) ≡ length (f (get_or xs k x)) = ap (λ (z : ℕ). length (f z)) is in
    omega arith

pub flat_next : (f : ℕ → List ℕ) (front xs : List ℕ) (k x : ℕ) → k < length xs → x ≡ get_or xs k x → (front ++ flat_map f (take k xs)) ++ f x ≡ front ++ flat_map f (take (k + 1) xs)
flat_next f front xs k x lt is = flat_map_more f front (take k xs) x ∙ ap (λ (zs : List ℕ). front ++ flat_map f zs) (sym (taken_next xs k x lt is))

-- one that is gathered, and those below it, child after child
module _ (children : ℕ → List ℕ) (levels id : ℕ) (ne : levels ≢ 0) where
  pub some_room : (old : List ℕ) → length old + length (down_by children levels id) ≤ 4096 → length old < 4096
  some_room old fits =
      let whole : length (down_by children levels id) ≡ suc (length (flat_map (down_by children (levels - 1)) (children id))) = ap length (down_more children levels id ne) in
      omega arith

  pub gathered_none : (old new : List ℕ) → new ≡ old ++ id ∷ [] → children id ≡ [] → new ≡ old ++ down_by children levels id
  gathered_none old new is none = is ∙ ap (λ (xs : List ℕ). old ++ xs) (sym (down_more children levels id ne ∙ ap (λ (xs : List ℕ). id ∷ flat_map (down_by children (levels - 1)) xs) none))

  module _ (old now xs : List ℕ) (k : ℕ) (same : xs ≡ children id) (so_far : now ≡ (old ++ id ∷ []) ++ flat_map (down_by children (levels - 1)) (take k xs)) where
    pub gather_room : (x : ℕ) → k < length xs → x ≡ get_or xs k x → length old + length (down_by children levels id) ≤ 4096 → length now + length (down_by children (levels - 1) x) ≤ 4096
    gather_room x lt is few =
        let whole : length (down_by children levels id) ≡ suc (length (flat_map (down_by children (levels - 1)) xs)) =
        ap length (down_more children levels id ne ∙ ap (λ (ys : List ℕ). id ∷ flat_map (down_by children (levels - 1)) ys) (sym same))
        in
        let fits = flat_room (down_by children (levels - 1)) xs k x lt is in
        let front : length now ≡ length old + 1 + length (flat_map (down_by children (levels - 1)) (take k xs)) =
        ap length so_far ∙ length-append (old ++ id ∷ []) (flat_map (down_by children (levels - 1)) (take k xs))
        ∙ ap (λ (n : ℕ). n + length (flat_map (down_by children (levels - 1)) (take k xs))) (length-append old (id ∷ []))
        in
        omega arith

    pub gathered_all : length xs ≤ k → now ≡ old ++ down_by children levels id
    gathered_all le =
        so_far ∙ ap (λ (ys : List ℕ). (old ++ id ∷ []) ++ flat_map (down_by children (levels - 1)) ys) (take_all xs k le)
        ∙ append_assoc old (id ∷ []) (flat_map (down_by children (levels - 1)) xs)
        ∙ ap (λ (ys : List ℕ). old ++ ys) (sym (down_more children levels id ne ∙ ap (λ (ys : List ℕ). id ∷ flat_map (down_by children (levels - 1)) ys) (sym same)))

pub filter_room : (p : ℕ → Bool) (xs : List ℕ) (k most : ℕ) → k < length xs → length xs ≤ most → length (filter p (take k xs)) < most
filter_room p xs k most lt few =
    let same = length-filter p (take k xs) in
    let le = count_by-le-length p (take k xs) in
    let front = length-take-le k xs (omega arith) in
    omega arith

-- ---- maps without some keys

module _ {V : Type 0} where
  pub get-without : (ids : List ℕ) (m : FinMap nat_cmp V) (q : ℕ) → map.get (without_all ids m) q ≡ cond (not (list_any (λ other. other == q) ids)) (map.get m q) None
  get-without ids m q =
      map.get-retain_keys m (λ (id : ℕ). not (list_any (λ other. other == id) ids)) q (λ x e. ap (λ (k : ℕ). not (list_any (λ other. other == k) ids)) (sym (map.nat_cmp-IsAntisymmetric q x e)))

  pub get_gone : (ids : List ℕ) (m : FinMap nat_cmp V) (q : ℕ) → In q ids → map.get (without_all ids m) q ≡ None
  get_gone ids m q h = get-without ids m q ∙ ap (λ (b : Bool). cond (not b) (map.get m q) None) (is_in q ids h)

  pub get_stays : (ids : List ℕ) (m : FinMap nat_cmp V) (q : ℕ) → (In q ids → ⊥) → map.get (without_all ids m) q ≡ map.get m q
  get_stays ids m q out = get-without ids m q ∙ ap (λ (b : Bool). cond (not b) (map.get m q) None) (is_out q ids out)

  pub without_none : (m : FinMap nat_cmp V) → without_all [] m ≡ m
  without_none m = map.same_map nat_cmp_total map.nat_cmp-IsAntisymmetric _ _ (λ q. get-without [] m q)

  pub without_more : (ids : List ℕ) (x : ℕ) (m : FinMap nat_cmp V) → without_all (ids ++ x ∷ []) m ≡ map.remove (without_all ids m) x
  without_more ids x m =
      map.same_map nat_cmp_total map.nat_cmp-IsAntisymmetric _ _ (λ q.
      get-without (ids ++ x ∷ []) m q ∙ ap (λ (b : Bool). cond (not b) (map.get m q) None) (list_any-append (λ other. other == q) ids (x ∷ []))
      ∙ elim (cases_eq q x) [
        | inl e ↦
            ap (λ (b : Bool). cond (not b) (map.get m q) None) (or_more (list_any (λ other. other == q) ids) ((x == q) || false) (ap (λ (b : Bool). b || false) (ap (λ (k : ℕ). x == k) e ∙ same_number x)))
            ∙ sym (ap (map.get (map.remove (without_all ids m) x)) e ∙ taken_out (without_all ids m) x)
        | inr ne ↦
            ap (λ (b : Bool). cond (not b) (map.get m q) None) (or_none (list_any (λ other. other == q) ids) ((x == q) || false) (ap (λ (b : Bool). b || false) (other_number q x (λ e. ne (sym e)))))
            ∙ sym (kept_beside (without_all ids m) x q ne ∙ get-without ids m q)
      ])

  -- as many keys as there are numbers that stand once
  pub once_fits : (xs : List ℕ) (m : FinMap nat_cmp V) → Once xs → ((x : ℕ) → In x xs → IsSome (map.get m x)) → length xs ≤ map.len m
  once_fits [] m once there = omega arith
  once_fits (x ∷ xs) m once there = go (once_fits xs (map.remove m x) once.1) (map.get m x) refl
    where
      go : (((y : ℕ) → In y xs → IsSome (map.get (map.remove m x) y)) → length xs ≤ map.len (map.remove m x)) → (r : Option V) → map.get m x ≡ r → length (x ∷ xs) ≤ map.len m
      go more None e = absurd (let no : false ≡ true = sym (ap is_some e) ∙ there x (inl refl) in cc)
      go more (Some v) e =
          let less = len_less m x v e in
          let rest = more (λ y h. ap is_some (kept_beside m x y (λ same. once.0 (subst (λ (z : ℕ). In z xs) same h))) ∙ there y (inr h)) in
          omega arith
