-- The live places as a map, and what one change of the slab does to it.
use Rattle.std.proofs.Common.{◌≡◌, ◌≢◌, ℕ, zero, suc, inl, inr, ◌+◌, ◌<◌, List, [], ◌∷◌, cond, get_or, map, refl, sym, ◌∙◌, ap, arith}
use Rattle.std.specs.Prelude.{Option, Some, None}
use Rattle.std.specs.Option.{option_map}
use Rattle.std.specs.FinMap as finite
use Rattle.std.specs.FinMap.{find}
use Rattle.std.specs.Ordering.{nat_cmp, eq_by_cmp}
use Rattle.std.specs.Cmp.{nat_cmp_total}
use Rattle.std.proofs.lemmas.Bool.{cases_eq}
use Rattle.slab.specs.Slab.{Slab, get, entries_from, Updates}
use Rattle.sed_engine.specs.Code.{Object}
use Rattle.sed_cells.specs.Places.{Plan}
use Rattle.sed_walker.specs.declared.component.Component.{Component}
use Rattle.sed_walker.specs.Held.{live_of, object_seen}
pub use Rattle.sed_value.proofs.Orders.{tied_same, tied_apart}

module _ (plan : Plan) where
  seen_in : List (ℕ × Component) → List (ℕ × Object)
  seen_in es = map (λ (e : ℕ × Component). (e.0, object_seen plan e.1)) es

  below_first : (n : ℕ) (xs : List (Option Component)) (q : ℕ) → q < n → find nat_cmp q (seen_in (entries_from n xs)) ≡ None
  unfolding seen_in
  below_first n [] q lt = refl
  below_first n (None ∷ xs) q lt = below_first (n + 1) xs q (omega arith)
  below_first n (Some x ∷ xs) q lt = rw (tied_apart q n (omega arith)) (below_first (n + 1) xs q (omega arith))

  found_at : (n : ℕ) (xs : List (Option Component)) (k : ℕ) → find nat_cmp (n + k) (seen_in (entries_from n xs)) ≡ option_map (object_seen plan) (get_or xs k None)
  unfolding seen_in
  found_at n [] k = refl
  found_at n (None ∷ xs) zero = below_first (n + 1) xs (n + 0) (omega arith)
  found_at n (None ∷ xs) (suc k) = let e : n + suc k ≡ (n + 1) + k = omega arith in rw e (found_at (n + 1) xs k)
  found_at n (Some x ∷ xs) zero = let e : n + 0 ≡ n = omega arith in rw (e, tied_same n) refl
  found_at n (Some x ∷ xs) (suc k) =
      let ne : n + suc k ≢ n = omega arith in
      let e : n + suc k ≡ (n + 1) + k = omega arith in
      rw (tied_apart (n + suc k) n ne) (ap (λ q. find nat_cmp q (seen_in (entries_from (n + 1) xs))) e ∙ found_at (n + 1) xs k)

  -- what is live under a key
  pub get-live : (s : Slab Component) (k : ℕ) → finite.get (live_of plan s) k ≡ option_map (object_seen plan) (get s k)
  unfolding seen_in
  get-live s k =
      finite.get-from_entries nat_cmp_total (seen_in (entries_from 0 s.slots)) k
      ∙ ap (λ q. find nat_cmp q (seen_in (entries_from 0 s.slots))) (omega arith)
      ∙ found_at 0 s.slots k

  -- a component under a key
  pub live-put : (old new : Slab Component) (k : ℕ) (c : Component) → get new k ≡ Some c → ((q : ℕ) → q ≢ k → get new q ≡ get old q)
      → live_of plan new ≡ finite.insert (live_of plan old) k (object_seen plan c)
  live-put old new k c at others =
      finite.same_map nat_cmp_total finite.nat_cmp-IsAntisymmetric _ _ (λ q.
      get-live new q ∙ step q ∙ sym (finite.get-insert nat_cmp_total (live_of plan old) k (object_seen plan c) q))
    where
      step : (q : ℕ) → option_map (object_seen plan) (get new q) ≡ cond (eq_by_cmp nat_cmp q k) (Some (object_seen plan c)) (finite.get (live_of plan old) q)
      step q = elim (cases_eq q k) [
        | inl e ↦ rw (e, at, tied_same k) refl
        | inr ne ↦ rw (tied_apart q k ne, others q ne) (sym (get-live old q))
      ]

  -- no component under it any more
  pub live-out : (old new : Slab Component) (k : ℕ) → get new k ≡ None → ((q : ℕ) → q ≢ k → get new q ≡ get old q)
      → live_of plan new ≡ finite.remove (live_of plan old) k
  live-out old new k at others =
      finite.same_map nat_cmp_total finite.nat_cmp-IsAntisymmetric _ _ (λ q.
      get-live new q ∙ step q ∙ sym (finite.get-remove nat_cmp_total (live_of plan old) k q))
    where
      step : (q : ℕ) → option_map (object_seen plan) (get new q) ≡ cond (eq_by_cmp nat_cmp q k) None (finite.get (live_of plan old) q)
      step q = elim (cases_eq q k) [
        | inl e ↦ rw (e, at, tied_same k) refl
        | inr ne ↦ rw (tied_apart q k ne, others q ne) (sym (get-live old q))
      ]

  -- what was taken out and put back changed is changed in its place
  pub live-put_back : (old mid new : Slab Component) (k j : ℕ) (c : Component) → Updates old mid k None → Updates mid new j (Some c) → j ≡ k
      → live_of plan new ≡ finite.insert (live_of plan old) k (object_seen plan c)
  live-put_back old mid new k j c out back e =
      live-put old new k c (ap (get new) (sym e) ∙ back.changed)
      (λ q ne. back.others q (λ d. ne (d ∙ e)) ∙ out.others q ne)

  pub live-same : (old new : Slab Component) → new.slots ≡ old.slots → live_of plan new ≡ live_of plan old
  live-same old new e = ap (λ (slots : List (Option Component)). finite.from_entries (map (λ (e : ℕ × Component). (e.0, object_seen plan e.1)) (entries_from 0 slots))) e
