-- Trees by their shape: what stands below an id, and that it stands there once.
use Rattle.std.proofs.Common.{ℕ, zero, suc, ◌+◌, ◌<◌, ◌≡◌, ◌≢◌, ◌⊎◌, inl, inr, Bool, true, false, IsTrue, List, [], ◌∷◌, ◌++◌, refl, sym, ◌∙◌, ap, subst, arith}
use Rattle.std.specs.Prelude.{Option, Some, None, nat_eq}
use Rattle.std.specs.List.{AllByRecursion, Contains, IsDistinct, flat_map}
use Rattle.std.specs.Option.{option_and_then}
use Rattle.std.proofs.lemmas.Bool.Decides.{nat_tests}
use Rattle.comp_tree.specs.Shape.{IsTree, down_by, up_by}

-- ---- lists

abbrev pub In : ℕ → List ℕ → Type 0
In x [] = ⊥
In x (y ∷ ys) = (x ≡ y) ⊎ In x ys

abbrev pub Once : List ℕ → Type 0
Once [] = Unit {0}
Once (x ∷ xs) = (In x xs → ⊥) × Once xs

pub in_left : (x : ℕ) (xs ys : List ℕ) → In x xs → In x (xs ++ ys)
in_left x [] ys never = absurd never
in_left x (y ∷ xs) ys (inl e) = inl e
in_left x (y ∷ xs) ys (inr h) = inr (in_left x xs ys h)

pub in_right : (x : ℕ) (xs ys : List ℕ) → In x ys → In x (xs ++ ys)
in_right x [] ys h = h
in_right x (y ∷ xs) ys h = inr (in_right x xs ys h)

pub in_cases : (x : ℕ) (xs ys : List ℕ) → In x (xs ++ ys) → In x xs ⊎ In x ys
in_cases x [] ys h = inr h
in_cases x (y ∷ xs) ys (inl e) = inl (inl e)
in_cases x (y ∷ xs) ys (inr h) = elim (in_cases x xs ys h) [ inl l ↦ inl (inr l) | inr r ↦ inr r ]

pub in_flat : (f : ℕ → List ℕ) (c x : ℕ) (cs : List ℕ) → In c cs → In x (f c) → In x (flat_map f cs)
in_flat f c x [] never h = absurd never
in_flat f c x (d ∷ cs) (inl e) h = in_left x (f d) (flat_map f cs) (subst (λ (k : ℕ). In x (f k)) e h)
in_flat f c x (d ∷ cs) (inr there) h = in_right x (f d) (flat_map f cs) (in_flat f c x cs there h)

pub flat_in : (f : ℕ → List ℕ) (x : ℕ) (cs : List ℕ) → In x (flat_map f cs) → (c : ℕ) × In c cs × In x (f c)
flat_in f x [] never = absurd never
flat_in f x (d ∷ cs) h = elim (in_cases x (f d) (flat_map f cs) h) [
  | inl here ↦ (d, inl refl, here)
  | inr later ↦ let r = flat_in f x cs later in (r.0, inr r.1, r.2)
]

pub once_append : (xs ys : List ℕ) → Once xs → Once ys → ((x : ℕ) → In x xs → In x ys → ⊥) → Once (xs ++ ys)
once_append [] ys a b apart = b
once_append (x ∷ xs) ys a b apart =
    (λ h. elim (in_cases x xs ys h) [ inl l ↦ a.0 l | inr r ↦ apart x (inl refl) r ], once_append xs ys a.1 b (λ y l r. apart y (inr l) r))

pub once_flat : (f : ℕ → List ℕ) (cs : List ℕ) → Once cs → ((c : ℕ) → In c cs → Once (f c)) → ((c d x : ℕ) → In c cs → In d cs → In x (f c) → In x (f d) → c ≡ d) → Once (flat_map f cs)
once_flat f [] once each apart = tt
once_flat f (c ∷ cs) once each apart =
    once_append (f c) (flat_map f cs) (each c (inl refl)) (once_flat f cs once.1 (λ d h. each d (inr h)) (λ d e x h k a b. apart d e x (inr h) (inr k) a b))
    (λ x here later.
    let r = flat_in f x cs later in
    let same : c ≡ r.0 = apart c r.0 x (inl refl) (inr r.1) here r.2 in
    once.0 (subst (λ (k : ℕ). In k cs) (sym same) r.1))

-- between these and the words of std
pub in_from : (xs : List ℕ) (x : ℕ) → Contains xs x → In x xs
in_from [] x h = absurd (let lt = h.1 in omega arith)
in_from (y ∷ xs) x (zero, lt, at) = inl (sym at)
in_from (y ∷ xs) x (suc k, lt, at) = inr (in_from xs x (k, omega arith, at))

pub in_to : (xs : List ℕ) (x : ℕ) → In x xs → Contains xs x
in_to [] x never = absurd never
in_to (y ∷ xs) x (inl e) = (zero, omega arith, sym e)
in_to (y ∷ xs) x (inr h) = let r = in_to xs x h in (suc r.0, let lt = r.1 in omega arith, r.2)

differs : (x y : ℕ) → x ≢ y → nat_eq x y ≡ false
differs x y ne = grind (arith, nat_tests)

apart_from : (x : ℕ) (xs : List ℕ) → (In x xs → ⊥) → AllByRecursion (λ y. nat_eq x y ≡ false) xs
apart_from x [] out = tt
apart_from x (y ∷ xs) out = (differs x y (λ e. out (inl e)), apart_from x xs (λ h. out (inr h)))

not_in : (x : ℕ) (xs : List ℕ) → AllByRecursion (λ y. nat_eq x y ≡ false) xs → In x xs → ⊥
not_in x [] all never = never
not_in x (y ∷ xs) all (inl e) = let no : nat_eq x y ≡ false = all.0 in let yes : nat_eq x y ≡ true = grind (arith, nat_tests) in absurd (cc)
not_in x (y ∷ xs) all (inr h) = not_in x xs all.1 h

pub once_to : (xs : List ℕ) → Once xs → IsDistinct nat_eq xs
unfolding IsDistinct
once_to [] once = tt
once_to (x ∷ xs) once = (apart_from x xs once.0, once_to xs once.1)

pub once_from : (xs : List ℕ) → IsDistinct nat_eq xs → Once xs
unfolding IsDistinct
once_from [] once = tt
once_from (x ∷ xs) once = (not_in x xs once.0, once_from xs once.1)

-- ---- steps up

module _ (parent : ℕ → Option ℕ) where
  pub up_next : (n id c : ℕ) → up_by parent n id ≡ Some c → up_by parent (suc n) id ≡ parent c
  up_next zero id c e = let same : id ≡ c = cc in step (parent id) ∙ ap parent same
    where
      step : (r : Option ℕ) → option_and_then (λ (x : ℕ). Some x) r ≡ r
      step None = refl
      step (Some x) = refl
  up_next (suc n) id c e = go (λ x. up_next n x c) (parent id) e
    where
      go : ((x : ℕ) → up_by parent n x ≡ Some c → up_by parent (suc n) x ≡ parent c) → (r : Option ℕ) → option_and_then (up_by parent n) r ≡ Some c → option_and_then (up_by parent (suc n)) r ≡ parent c
      go more None e = absurd (let no = e in cc)
      go more (Some x) e = more x e

  -- steps up are a step less and then one
  pub up_last : (n id x : ℕ) → up_by parent (suc n) id ≡ Some x → (c : ℕ) × (up_by parent n id ≡ Some c) × (parent c ≡ Some x)
  up_last zero id x e = go (parent id) refl e
    where
      go : (r : Option ℕ) → parent id ≡ r → option_and_then (λ (x : ℕ). Some x) r ≡ Some x → (c : ℕ) × (Some id ≡ Some c) × (parent c ≡ Some x)
      go None is e = absurd (let no = e in cc)
      go (Some y) is e = (id, refl, is ∙ e)
  up_last (suc n) id x e = go (λ y. up_last n y x) (parent id) refl e
    where
      go : ((y : ℕ) → up_by parent (suc n) y ≡ Some x → (c : ℕ) × (up_by parent n y ≡ Some c) × (parent c ≡ Some x))
          → (r : Option ℕ) → parent id ≡ r → option_and_then (up_by parent (suc n)) r ≡ Some x → (c : ℕ) × (up_by parent (suc n) id ≡ Some c) × (parent c ≡ Some x)
      go more None is e = absurd (let no = e in cc)
      go more (Some y) is e = let r = more y e in (r.0, ap (option_and_then (up_by parent n)) is ∙ r.1, r.2)

  pub up_more : (n k id c x : ℕ) → up_by parent n id ≡ Some c → up_by parent k c ≡ Some x → up_by parent (n + k) id ≡ Some x
  up_more zero k id c x a b = let same : id ≡ c = cc in let zero_more : 0 + k ≡ k = omega arith in rw zero_more (ap (up_by parent k) same ∙ b)
  up_more (suc n) k id c x a b = let next : suc n + k ≡ suc (n + k) = omega arith in rw next (go (λ y e. up_more n k y c x e b) (parent id) a)
    where
      go : ((y : ℕ) → up_by parent n y ≡ Some c → up_by parent (n + k) y ≡ Some x) → (r : Option ℕ) → option_and_then (up_by parent n) r ≡ Some c → option_and_then (up_by parent (n + k)) r ≡ Some x
      go more None e = absurd (let no = e in cc)
      go more (Some y) e = more y e

  -- there is one number of steps up to what has no parent
  pub up_once : (n k id : ℕ) → parent 0 ≡ None → up_by parent n id ≡ Some 0 → up_by parent k id ≡ Some 0 → n ≡ k
  up_once zero zero id none a b = refl
  up_once zero (suc k) id none a b =
      let zero_is : id ≡ 0 = cc in
      absurd (let no : ◌≡◌ {A = Option ℕ} None (Some 0) = sym (ap (option_and_then (up_by parent k)) (ap parent zero_is ∙ none)) ∙ b in cc)
  up_once (suc n) zero id none a b =
      let zero_is : id ≡ 0 = cc in
      absurd (let no : ◌≡◌ {A = Option ℕ} None (Some 0) = sym (ap (option_and_then (up_by parent n)) (ap parent zero_is ∙ none)) ∙ a in cc)
  up_once (suc n) (suc k) id none a b = go (λ y. up_once n k y none) (parent id) a b
    where
      go : ((y : ℕ) → up_by parent n y ≡ Some 0 → up_by parent k y ≡ Some 0 → n ≡ k) → (r : Option ℕ) → option_and_then (up_by parent n) r ≡ Some 0 → option_and_then (up_by parent k) r ≡ Some 0 → suc n ≡ suc k
      go more None e f = absurd (let no = e in cc)
      go more (Some y) e f = ap suc (more y e f)

-- ---- what stands below

module _ (live : ℕ → Bool) (parent : ℕ → Option ℕ) (children : ℕ → List ℕ) (tree : IsTree live parent children) where
  pub child_in : (id above : ℕ) → parent id ≡ Some above → In id (children above)
  child_in id above e = in_from (children above) id (tree.up id above e)

  pub in_child : (id above : ℕ) → In id (children above) → parent id ≡ Some above
  in_child id above h = tree.down id above (in_to (children above) id h)

  -- what stands below comes up in fewer steps than there are levels
  pub below_up : (k x id : ℕ) → In id (down_by children k x) → (n : ℕ) × (n < k) × (up_by parent n id ≡ Some x)
  unfolding down_by
  below_up zero x id never = absurd never
  below_up (suc k) x id (inl e) = (zero, omega arith, ap Some e)
  below_up (suc k) x id (inr h) =
      let c = flat_in (down_by children k) id (children x) h in
      let r = below_up k c.0 id c.2 in
      (suc r.0, let lt = r.1 in omega arith, up_next parent r.0 id c.0 r.2 ∙ in_child c.0 x c.1)

  pub up_below : (n k x id : ℕ) → n < k → up_by parent n id ≡ Some x → In id (down_by children k x)
  unfolding down_by
  up_below n zero x id lt e = absurd (omega arith)
  up_below zero (suc k) x id lt e = inl (let same : id ≡ x = cc in same)
  up_below (suc n) (suc k) x id lt e =
      let c = up_last parent n id x e in
      inr (in_flat (down_by children k) c.0 id (children x) (child_in c.0 x c.2) (up_below n k c.0 id (omega arith) c.1))

  depth_next : (r c x : ℕ) → up_by parent r x ≡ Some 0 → In c (children x) → up_by parent (suc r) c ≡ Some 0
  depth_next r c x e h = ap (option_and_then (up_by parent r)) (in_child c x h) ∙ e

  pub below_once : (k x r : ℕ) → up_by parent r x ≡ Some 0 → Once (down_by children k x)
  unfolding down_by
  below_once zero x r e = tt
  below_once (suc k) x r e = (
    λ h.
        let c = flat_in (down_by children k) x (children x) h in
        let n = below_up k c.0 x c.2 in
        let deep : up_by parent (n.0 + suc r) x ≡ Some 0 = up_more parent n.0 (suc r) x c.0 0 n.2 (depth_next r c.0 x e c.1) in
        let same : n.0 + suc r ≡ r = up_once parent (n.0 + suc r) r x tree.root deep e in
        omega arith,
    once_flat (down_by children k) (children x) (once_from (children x) (tree.once x)) (λ c h. below_once k c (suc r) (depth_next r c x e h))
        (λ c d y h g a b.
        let n = below_up k c y a in
        let m = below_up k d y b in
        let deep = up_more parent n.0 (suc r) y c 0 n.2 (depth_next r c x e h) in
        let also = up_more parent m.0 (suc r) y d 0 m.2 (depth_next r d x e g) in
        let same : n.0 + suc r ≡ m.0 + suc r = up_once parent (n.0 + suc r) (m.0 + suc r) y tree.root deep also in
        let steps : n.0 ≡ m.0 = omega arith in
        let both : ◌≡◌ {A = Option ℕ} (Some c) (Some d) = sym n.2 ∙ ap (λ (s : ℕ). up_by parent s y) steps ∙ m.2 in
        cc),
  )

  -- the App reaches all that is live, and nothing else
  pub all_reached : (id : ℕ) → IsTrue (live id) → In id (down_by children 17 0)
  all_reached id h = let w = tree.within id h in up_below w.0 17 0 id (let le = w.1 in omega arith) w.2

  pub only_live : (id : ℕ) → In id (down_by children 17 0) → IsTrue (live id)
  only_live id h = let r = below_up 17 0 id h in go r.0 r.2
    where
      go : (n : ℕ) → up_by parent n id ≡ Some 0 → IsTrue (live id)
      go zero e = let same : id ≡ 0 = cc in ap live same ∙ tree.app
      go (suc n) e = at (parent id) refl e
        where
          at : (r : Option ℕ) → parent id ≡ r → option_and_then (up_by parent n) r ≡ Some 0 → IsTrue (live id)
          at None is e = absurd (let no = e in cc)
          at (Some above) is e = tree.known id above is

  pub reached_once : Once (down_by children 17 0)
  reached_once = below_once 17 0 zero refl
