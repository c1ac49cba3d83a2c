-- Finite maps that a function makes of a list of keys.
use Rattle.std.proofs.Common.{◌≡◌, ◌≢◌, ℕ, zero, suc, ◌+◌, ◌<◌, List, [], ◌∷◌, ◌++◌, inl, inr, cond, true, get_or, map, length, refl, sym, ◌∙◌, ap, subst, arith}
use Rattle.std.specs.Prelude.{Some, None, is_some, sum_by, remove, All, AllPairs}
use Rattle.std.specs.FinMap as finite
use Rattle.std.specs.FinMap.{FinMap}
use Rattle.std.specs.Ordering.{nat_cmp, eq_by_cmp}
use Rattle.std.specs.Cmp.{nat_cmp_total}
use Rattle.std.proofs.lemmas.Bool.{cases_eq}
use Rattle.std.proofs.lemmas.List.{map-append}
use Rattle.std.proofs.lemmas.List.Elements.{All-head, All-tail}
use Rattle.std.proofs.lemmas.List.Sums.{sum_by-cons}
use Rattle.sed_value.proofs.Maps.{get_put, get_beside, kept_beside, taken_out, total, total_more, total_none}

module _ {V : Type 0} where
  pub same : (m n : FinMap nat_cmp V) → ((q : ℕ) → finite.get m q ≡ finite.get n q) → m ≡ n
  same m n is = finite.same_map nat_cmp_total finite.nat_cmp-IsAntisymmetric m n is

  -- what was put where nothing was, and is taken out
  out_put : (m : FinMap nat_cmp V) (k : ℕ) (x : V) → finite.get m k ≡ None → finite.remove (finite.insert m k x) k ≡ m
  out_put m k x none = same _ _ (λ q. elim (cases_eq q k) [
    | inl is ↦ ap (finite.get (finite.remove (finite.insert m k x) k)) is ∙ taken_out (finite.insert m k x) k ∙ sym none ∙ ap (finite.get m) (sym is)
    | inr ne ↦ kept_beside (finite.insert m k x) k q ne ∙ get_beside m k x q ne
  ])

  -- one is put and another taken out, in either order
  out_beside : (m : FinMap nat_cmp V) (k j : ℕ) (x : V) → k ≢ j → finite.insert (finite.remove m j) k x ≡ finite.remove (finite.insert m k x) j
  out_beside m k j x apart = same _ _ (λ q. elim (cases_eq q k) [
    | inl is ↦
        ap (finite.get (finite.insert (finite.remove m j) k x)) is ∙ get_put (finite.remove m j) k x
        ∙ sym (ap (finite.get (finite.remove (finite.insert m k x) j)) is ∙ kept_beside (finite.insert m k x) j k apart ∙ get_put m k x)
    | inr ne ↦
        get_beside (finite.remove m j) k x q ne ∙ finite.get-remove nat_cmp_total m j q
        ∙ ap (cond (eq_by_cmp nat_cmp q j) None) (sym (get_beside m k x q ne))
        ∙ sym (finite.get-remove nat_cmp_total (finite.insert m k x) j q)
  ])

pairs_tail : (x : ℕ) (xs : List ℕ) → AllPairs (λ a b. a ≢ b) (x ∷ xs) → AllPairs (λ a b. a ≢ b) xs
pairs_tail x xs apart i j d lt within = apart (suc i) (suc j) d (omega arith) (omega arith)

pairs_head : (x : ℕ) (xs : List ℕ) → AllPairs (λ a b. a ≢ b) (x ∷ xs) → All (λ y. x ≢ y) xs
pairs_head x xs apart k d within = apart 0 (suc k) d (omega arith) (omega arith)

module _ {V : Type 0} where
  abbrev pub made : (ℕ → V) → List ℕ → FinMap nat_cmp V
  made f keys = finite.from_entries (map (λ key. (key, f key)) keys)

  -- a key that is not among them
  pub made_beside : (f : ℕ → V) (keys : List ℕ) (q : ℕ) → All (λ key. q ≢ key) keys → finite.get (made f keys) q ≡ None
  made_beside f [] q none = finite.get-empty nat_cmp q
  made_beside f (x ∷ xs) q none =
      get_beside (made f xs) x (f x) q (All-head (λ key. q ≢ key) x xs none)
      ∙ made_beside f xs q (All-tail (λ key. q ≢ key) x xs none)

  -- a key that is
  pub made_at : (f : ℕ → V) (keys : List ℕ) (i : ℕ) → i < length keys → finite.get (made f keys) (get_or keys i 0) ≡ Some (f (get_or keys i 0))
  made_at f [] i within = absurd (omega arith)
  made_at f (x ∷ xs) zero within = get_put (made f xs) x (f x)
  made_at f (x ∷ xs) (suc i) within = elim (cases_eq (get_or xs i 0) x) [
    | inl is ↦
        let P : ℕ → Type 0 = λ q. finite.get (made f (x ∷ xs)) q ≡ Some (f q) in
        subst P (sym is) (get_put (made f xs) x (f x))
    | inr ne ↦ get_beside (made f xs) x (f x) (get_or xs i 0) ne ∙ made_at f xs i (omega arith)
  ]

  -- what is there under a key stands at a place of the list
  pub made_where : (f : ℕ → V) (keys : List ℕ) (q : ℕ) → is_some (finite.get (made f keys) q) ≡ true → (i : ℕ) × (i < length keys) × (get_or keys i 0 ≡ q)
  made_where f [] q there = absurd (let none = ap is_some (finite.get-empty {X = V} nat_cmp q) in cc)
  made_where f (x ∷ xs) q there = elim (cases_eq q x) [
    | inl is ↦ (0, omega arith, sym is)
    | inr ne ↦
        let (i, within, at) = made_where f xs q (sym (ap is_some (get_beside (made f xs) x (f x) q ne)) ∙ there) in
        (suc i, omega arith, at)
  ]

  pub made_same : (f g : ℕ → V) (keys : List ℕ) → All (λ key. f key ≡ g key) keys → made f keys ≡ made g keys
  made_same f g [] alike = refl
  made_same f g (x ∷ xs) alike =
      ap (λ v. finite.insert (made f xs) x v) (All-head (λ key. f key ≡ g key) x xs alike)
      ∙ ap (λ m. finite.insert m x (g x)) (made_same f g xs (All-tail (λ key. f key ≡ g key) x xs alike))

  -- with one more key
  pub made_more : (f : ℕ → V) (keys : List ℕ) (q : ℕ) → finite.get (made f keys) q ≡ None → made f (keys ++ q ∷ []) ≡ finite.insert (made f keys) q (f q)
  made_more f keys q none =
      ap finite.from_entries (map-append (λ (key : ℕ). (key, f key)) keys (q ∷ []))
      ∙ finite.from_entries_push nat_cmp_total finite.nat_cmp-IsAntisymmetric (map (λ key. (key, f key)) keys) q (f q)
      (sym (finite.get-from_entries nat_cmp_total (map (λ key. (key, f key)) keys) q) ∙ none)

  -- with one key less
  pub made_less : (f : ℕ → V) (keys : List ℕ) (i : ℕ) → i < length keys → AllPairs (λ a b. a ≢ b) keys → made f (remove keys i) ≡ finite.remove (made f keys) (get_or keys i 0)
  made_less f [] i within apart = absurd (omega arith)
  made_less f (x ∷ xs) zero within apart = sym (out_put (made f xs) x (f x) (made_beside f xs x (pairs_head x xs apart)))
  made_less f (x ∷ xs) (suc i) within apart =
      ap (λ m. finite.insert m x (f x)) (made_less f xs i (omega arith) (pairs_tail x xs apart))
      ∙ out_beside (made f xs) x (get_or xs i 0) (f x) (pairs_head x xs apart i 0 (omega arith))

  -- with another value under one key
  pub made_over : (f g : ℕ → V) (keys : List ℕ) (i : ℕ) → i < length keys → All (λ key. key ≢ get_or keys i 0 → f key ≡ g key) keys
      → made g keys ≡ finite.insert (made f keys) (get_or keys i 0) (g (get_or keys i 0))
  made_over f g keys i within alike = same _ _ (λ q. elim (cases_eq q (get_or keys i 0)) [
    | inl is ↦
        ap (finite.get (made g keys)) is ∙ made_at g keys i within
        ∙ sym (ap (finite.get (finite.insert (made f keys) (get_or keys i 0) (g (get_or keys i 0)))) is ∙ get_put (made f keys) (get_or keys i 0) (g (get_or keys i 0)))
    | inr ne ↦
        other keys (get_or keys i 0) q ne alike ∙ sym (get_beside (made f keys) (get_or keys i 0) (g (get_or keys i 0)) q ne)
  ])
    where
      other : (keys : List ℕ) (k q : ℕ) → q ≢ k → All (λ key. key ≢ k → f key ≡ g key) keys → finite.get (made g keys) q ≡ finite.get (made f keys) q
      other [] k q ne alike = refl
      other (x ∷ xs) k q ne alike =
          let rest = other xs k q ne (All-tail (λ key. key ≢ k → f key ≡ g key) x xs alike) in
          elim (cases_eq q x) [
            | inl is ↦
                ap (finite.get (made g (x ∷ xs))) is ∙ get_put (made g xs) x (g x)
                ∙ ap Some (sym (All-head (λ key. key ≢ k → f key ≡ g key) x xs alike (λ e. ne (is ∙ e))))
                ∙ sym (ap (finite.get (made f (x ∷ xs))) is ∙ get_put (made f xs) x (f x))
            | inr beside ↦ get_beside (made g xs) x (g x) q beside ∙ rest ∙ sym (get_beside (made f xs) x (f x) q beside)
          ]

  pub len-made : (f : ℕ → V) (keys : List ℕ) → AllPairs (λ a b. a ≢ b) keys → finite.len (made f keys) ≡ length keys
  len-made f [] apart = finite.len-empty nat_cmp V
  len-made f (x ∷ xs) apart =
      finite.len-insert nat_cmp_total (made f xs) x (f x)
      ∙ ap (λ b. cond b (finite.len (made f xs)) (finite.len (made f xs) + 1)) (ap is_some (made_beside f xs x (pairs_head x xs apart)))
      ∙ (let rest = len-made f xs (pairs_tail x xs apart) in omega arith)

  pub total-made : (s : V → ℕ) (f : ℕ → V) (keys : List ℕ) → AllPairs (λ a b. a ≢ b) keys → total s (made f keys) ≡ sum_by (λ key. s (f key)) keys
  total-made s f [] apart = total_none s
  total-made s f (x ∷ xs) apart =
      let next = sum_by-cons (λ key. s (f key)) x xs in
      let rest = total-made s f xs (pairs_tail x xs apart) in
      total_more s (made f xs) x (f x) (made_beside f xs x (pairs_head x xs apart)) ∙ omega arith
