-- Finite maps by numbers after a change, sums over their values, and a function applied to each value.
use Rattle.std.proofs.Common.{◌≡◌, ◌≢◌, ℕ, suc, ◌+◌, List, [], ◌∷◌, Bool, true, false, inl, inr, cond, map, length, refl, sym, ◌∙◌, ap, subst, arith}
use Rattle.std.specs.Prelude.{Option, Some, None, is_some, sum_by, ◌&&◌, T}
use Rattle.std.specs.Option.{option_map}
use Rattle.std.specs.FinMap as finite
use Rattle.std.specs.FinMap.{FinMap, find, is_sorted, put}
use Rattle.std.specs.FinMap.Entries.{below_all, by_order}
use Rattle.std.specs.declared.cmp.Ordering.{Ordering}
use Rattle.std.specs.declared.cmp.Ordering.TheVariants.{Less, Equal, Greater}
use Rattle.std.specs.Ordering.{nat_cmp, eq_by_cmp, is_eq, is_lt}
use Rattle.std.specs.Cmp.{nat_cmp_total}
use Rattle.std.proofs.lemmas.Bool.{cases_eq}
use Rattle.std.proofs.lemmas.List.Sums.{sum_by-cons}
use Rattle.sed_value.specs.Mapped.{on_values, map_values}
use Rattle.sed_value.proofs.Orders.{tied_same, tied_apart}
pub use Rattle.sed_value.proofs.Orders.{put_at as get_put, put_beside as get_beside}

module _ {V : Type 0} where
  pub taken_out : (m : FinMap nat_cmp V) (k : ℕ) → finite.get (finite.remove m k) k ≡ None
  taken_out m k = finite.get-remove nat_cmp_total m k k ∙ rw (tied_same k) refl

  pub kept_beside : (m : FinMap nat_cmp V) (k q : ℕ) → q ≢ k → finite.get (finite.remove m k) q ≡ finite.get m q
  kept_beside m k q ne = finite.get-remove nat_cmp_total m k q ∙ rw (tied_apart q k ne) refl

  -- what is taken out and put back is put over what was there
  pub put_back : (m : FinMap nat_cmp V) (k : ℕ) (x : V) → finite.insert (finite.remove m k) k x ≡ finite.insert m k x
  put_back m k x = finite.same_map nat_cmp_total finite.nat_cmp-IsAntisymmetric _ _ (λ q. elim (cases_eq q k) [
    | inl is ↦
        ap (finite.get (finite.insert (finite.remove m k) k x)) is ∙ get_put (finite.remove m k) k x
        ∙ sym (get_put m k x) ∙ ap (finite.get (finite.insert m k x)) (sym is)
    | inr ne ↦
        get_beside (finite.remove m k) k x q ne ∙ kept_beside m k q ne
        ∙ sym (get_beside m k x q ne)
  ])

  -- to put what is there changes nothing
  pub put_same : (m : FinMap nat_cmp V) (k : ℕ) (x : V) → finite.get m k ≡ Some x → finite.insert m k x ≡ m
  put_same m k x e = finite.same_map nat_cmp_total finite.nat_cmp-IsAntisymmetric _ _ (λ q. elim (cases_eq q k) [
    | inl is ↦ ap (finite.get (finite.insert m k x)) is ∙ get_put m k x ∙ sym e ∙ ap (finite.get m) (sym is)
    | inr ne ↦ get_beside m k x q ne
  ])

module _ {V : Type 0} (f : V → ℕ) where
  -- the sum over values
  abbrev pub total : FinMap nat_cmp V → ℕ
  total m = sum_by f (finite.values m)

  sum_of : List (ℕ × V) → ℕ
  sum_of es = sum_by f (map (λ (e : ℕ × V). e.1) es)

  sum_next : (e : ℕ × V) (es : List (ℕ × V)) → sum_of (e ∷ es) ≡ f e.1 + sum_of es
  unfolding sum_of
  sum_next e es = sum_by-cons f e.1 (map (λ (e : ℕ × V). e.1) es)

  sum_placed : (k : ℕ) (x : V) (e : ℕ × V) (es : List (ℕ × V)) (r : Ordering) → cond (is_eq r) (Some e.1) (find nat_cmp k es) ≡ None
      → (find nat_cmp k es ≡ None → sum_of (put nat_cmp k x es) ≡ sum_of es + f x)
      → sum_of (by_order r ((k, x) ∷ e ∷ es) ((e.0, x) ∷ es) (e ∷ put nat_cmp k x es)) ≡ sum_of (e ∷ es) + f x
  sum_placed k x e es Less none rest = sum_next (k, x) (e ∷ es) ∙ omega arith
  sum_placed k x e es Equal none rest = absurd (let never = ap is_some none in cc)
  sum_placed k x e es Greater none rest =
      let later = rest none in
      let whole = sum_next e es in
      sum_next e (put nat_cmp k x es) ∙ omega arith

  sum_put : (k : ℕ) (x : V) (es : List (ℕ × V)) → find nat_cmp k es ≡ None → sum_of (put nat_cmp k x es) ≡ sum_of es + f x
  sum_put k x [] none = sum_next (k, x) [] ∙ omega arith
  sum_put k x (e ∷ es) none = sum_placed k x e es (nat_cmp k e.0) none (sum_put k x es)

  no_entry : (es : List (ℕ × V)) → length es ≡ 0 → es ≡ []
  no_entry [] e = refl
  no_entry (x ∷ es) e = absurd (omega arith)

  pub total_none : total finite.empty ≡ 0
  total_none = ap (λ (es : List (ℕ × V)). sum_by f (map (λ (e : ℕ × V). e.1) es)) (no_entry (finite.entries (finite.empty {X = V} {R = nat_cmp})) (sym (finite.len-entries (finite.empty {X = V} {R = nat_cmp})) ∙ finite.len-empty nat_cmp V))

  -- with one more
  pub total_more : (m : FinMap nat_cmp V) (k : ℕ) (x : V) → finite.get m k ≡ None → total (finite.insert m k x) ≡ total m + f x
  unfolding sum_of
  total_more m k x none = ap sum_of (finite.entries-insert nat_cmp_total m k x) ∙ sum_put k x (finite.entries m) (sym (finite.get-entries m k) ∙ none)

  -- with another in the place of one
  pub total_over : (m : FinMap nat_cmp V) (k : ℕ) (x y : V) → finite.get m k ≡ Some x → f x ≡ f y → total (finite.insert m k y) ≡ total m
  total_over m k x y some same =
      let was : total (finite.insert (finite.remove m k) k x) ≡ total m = ap total (put_back m k x ∙ put_same m k x some) in
      let with_x = total_more (finite.remove m k) k x (taken_out m k) in
      let with_y = total_more (finite.remove m k) k y (taken_out m k) in
      let is : total (finite.insert (finite.remove m k) k y) ≡ total (finite.insert m k y) = ap total (put_back m k y) in
      omega arith

  -- with one less
  pub total_less : (m : FinMap nat_cmp V) (k : ℕ) (x : V) → finite.get m k ≡ Some x → total (finite.remove m k) + f x ≡ total m
  total_less m k x some =
      sym (total_more (finite.remove m k) k x (taken_out m k)) ∙ ap total (put_back m k x ∙ put_same m k x some)

-- ---- a function applied to each value

module _ {V W : Type 0} (f : V → W) where
  mapped_or : (b : Bool) (x : V) (r : Option V) → cond b (Some (f x)) (option_map f r) ≡ option_map f (cond b (Some x) r)
  mapped_or true x r = refl
  mapped_or false x r = refl

  find-on_values : (es : List (ℕ × V)) (q : ℕ) → find nat_cmp q (on_values f es) ≡ option_map f (find nat_cmp q es)
  find-on_values [] q = refl
  find-on_values (e ∷ es) q = ap (cond (eq_by_cmp nat_cmp q e.0) (Some (f e.1))) (find-on_values es q) ∙ mapped_or (eq_by_cmp nat_cmp q e.0) e.1 (find nat_cmp q es)

  below-on_values : (x : ℕ) (es : List (ℕ × V)) → below_all nat_cmp x (on_values f es) ≡ below_all nat_cmp x es
  below-on_values x [] = refl
  below-on_values x (e ∷ es) = ap (λ b. is_lt (nat_cmp x e.0) && b) (below-on_values x es)

  sorted-on_values : (es : List (ℕ × V)) → is_sorted nat_cmp (on_values f es) ≡ is_sorted nat_cmp es
  sorted-on_values [] = refl
  sorted-on_values (e ∷ es) = ap (λ b. b && is_sorted nat_cmp (on_values f es)) (below-on_values e.0 es) ∙ ap (λ b. below_all nat_cmp e.0 es && b) (sorted-on_values es)

  are_sorted : (m : FinMap nat_cmp V) → T (is_sorted nat_cmp (on_values f (finite.entries m)))
  are_sorted m = subst T (sym (sorted-on_values (finite.entries m))) (finite.entries_sorted m)

  pub get-map_values : (m : FinMap nat_cmp V) (q : ℕ) → finite.get (map_values f m) q ≡ option_map f (finite.get m q)
  get-map_values m q =
      finite.get-from_sorted nat_cmp (on_values f (finite.entries m)) q (are_sorted m) ∙ find-on_values (finite.entries m) q ∙ ap (option_map f) (sym (finite.get-entries m q))

  length-on_values : (es : List (ℕ × V)) → length (on_values f es) ≡ length es
  length-on_values [] = refl
  length-on_values (e ∷ es) = ap suc (length-on_values es)

  pub len-map_values : (m : FinMap nat_cmp V) → finite.len (map_values f m) ≡ finite.len m
  len-map_values m =
      finite.len-entries (map_values f m) ∙ ap length (finite.entries-from_sorted nat_cmp (on_values f (finite.entries m)) (are_sorted m))
      ∙ length-on_values (finite.entries m) ∙ sym (finite.len-entries m)

  -- a change of the map is the same change of what is mapped
  pub put-map_values : (m : FinMap nat_cmp V) (k : ℕ) (x : V)
      → map_values f (finite.insert m k x) ≡ finite.insert (map_values f m) k (f x)
  put-map_values m k x = finite.same_map nat_cmp_total finite.nat_cmp-IsAntisymmetric _ _ (λ q. elim (cases_eq q k) [
    | inl is ↦
        get-map_values (finite.insert m k x) q ∙ ap (option_map f) (ap (finite.get (finite.insert m k x)) is ∙ get_put m k x)
        ∙ sym (ap (finite.get (finite.insert (map_values f m) k (f x))) is ∙ get_put (map_values f m) k (f x))
    | inr ne ↦
        get-map_values (finite.insert m k x) q ∙ ap (option_map f) (get_beside m k x q ne)
        ∙ sym (get_beside (map_values f m) k (f x) q ne ∙ get-map_values m q)
  ])

  pub out-map_values : (m : FinMap nat_cmp V) (k : ℕ) → map_values f (finite.remove m k) ≡ finite.remove (map_values f m) k
  out-map_values m k = finite.same_map nat_cmp_total finite.nat_cmp-IsAntisymmetric _ _ (λ q. elim (cases_eq q k) [
    | inl is ↦
        get-map_values (finite.remove m k) q ∙ ap (option_map f) (ap (finite.get (finite.remove m k)) is ∙ taken_out m k)
        ∙ sym (ap (finite.get (finite.remove (map_values f m) k)) is ∙ taken_out (map_values f m) k)
    | inr ne ↦
        get-map_values (finite.remove m k) q ∙ ap (option_map f) (kept_beside m k q ne)
        ∙ sym (kept_beside (map_values f m) k q ne ∙ get-map_values m q)
  ])
