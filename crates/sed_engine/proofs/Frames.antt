-- Frames whose locals hold values of their kinds.
use Rattle.std.proofs.Common.{◌≡◌, ◌<◌, ◌≤◌, ℕ, zero, suc, List, [], ◌∷◌, ◌++◌, length, replicate, Some, refl, sym, subst, arith}
use Rattle.std.specs.Prelude.{slice_get, slice_set}
use Rattle.std.proofs.lemmas.Option.{same_Some}
use Rattle.sed_typed.specs.declared.kind.Kind.{Kind}
use Rattle.sed_typed.specs.declared.program.Program.{Program}
use Rattle.sed_engine.specs.Values.{Val, Nothing}
use Rattle.sed_engine.proofs.Below.{absent}
use Rattle.sed_engine.proofs.Kinded.{HasKind, Held, held, zero_is}

module _ (program : Program) (class : ℕ) where
  -- a new frame: its first locals have values of these kinds, the others are not begun
  abbrev pub FrameHas : List Kind → List Val → Type 0
  FrameHas [] [] = Unit {0}
  FrameHas [] (v ∷ vs) = (v ≡ Nothing) × FrameHas [] vs
  FrameHas (k ∷ ks) [] = ⊥
  FrameHas (k ∷ ks) (v ∷ vs) = HasKind program class k v × FrameHas ks vs

  -- a frame that is running: each local holds a value of its kind, or is not begun
  abbrev pub FrameHolds : List Kind → List Val → Type 0
  FrameHolds [] vs = Unit {0}
  FrameHolds (k ∷ ks) [] = ⊥
  FrameHolds (k ∷ ks) (v ∷ vs) = Held program class k v × FrameHolds ks vs

  pub no_locals : (n : ℕ) → FrameHas [] (replicate n Nothing)
  no_locals zero = tt
  no_locals (suc n) = (refl, no_locals n)

  pub local_has : (ks : List Kind) (vs : List Val) (i : ℕ) (k : Kind) → FrameHas ks vs → slice_get ks i ≡ Some k → (v : Val) × (slice_get vs i ≡ Some v) × HasKind program class k v
  local_has [] vs i k h e = absent k e
  local_has (j ∷ ks) [] i k h e = absurd h
  local_has (j ∷ ks) (v ∷ vs) zero k h e = (v, refl, subst (λ (x : Kind). HasKind program class x v) (same_Some j k e) h.0)
  local_has (j ∷ ks) (v ∷ vs) (suc i) k h e = local_has ks vs i k h.1 e

  pub local_held : (ks : List Kind) (vs : List Val) (i : ℕ) (k : Kind) → FrameHolds ks vs → slice_get ks i ≡ Some k → (v : Val) × (slice_get vs i ≡ Some v) × Held program class k v
  local_held [] vs i k h e = absent k e
  local_held (j ∷ ks) [] i k h e = absurd h
  local_held (j ∷ ks) (v ∷ vs) zero k h e = (v, refl, subst (λ (x : Kind). Held program class x v) (same_Some j k e) h.0)
  local_held (j ∷ ks) (v ∷ vs) (suc i) k h e = local_held ks vs i k h.1 e

  pub local_set : (ks : List Kind) (vs : List Val) (i : ℕ) (k : Kind) (v : Val) → FrameHolds ks vs → slice_get ks i ≡ Some k → Held program class k v → FrameHolds ks (slice_set vs i v)
  local_set [] vs i k v h e g = tt
  local_set (j ∷ ks) [] i k v h e g = absurd h
  local_set (j ∷ ks) (u ∷ vs) zero k v h e g = (subst (λ (x : Kind). Held program class x v) (sym (same_Some j k e)) g, h.1)
  local_set (j ∷ ks) (u ∷ vs) (suc i) k v h e g = (h.0, local_set ks vs i k v h.1 e g)

  -- the next local is put
  pub local_put : (ks : List Kind) (vs : List Val) (k : Kind) (v : Val) → FrameHas ks vs → length ks < length vs → HasKind program class k v → FrameHas (ks ++ k ∷ []) (slice_set vs (length ks) v)
  local_put [] [] k v h room g = absurd (omega (arith, room))
  local_put [] (u ∷ vs) k v h room g = (g, h.1)
  local_put (j ∷ ks) [] k v h room g = absurd h
  local_put (j ∷ ks) (u ∷ vs) k v h room g = (h.0, local_put ks vs k v h.1 (omega (arith, room)) g)

  -- what is not begun may be a local of each kind
  others_held : (ks : List Kind) (vs : List Val) → FrameHas [] vs → length ks ≤ length vs → FrameHolds ks vs
  others_held [] vs h room = tt
  others_held (k ∷ ks) [] h room = absurd (omega (arith, room))
  others_held (k ∷ ks) (v ∷ vs) h room = (subst (λ (u : Val). Held program class k u) (sym h.0) (zero_is program class k), others_held ks vs h.1 (omega (arith, room)))

  -- a new frame may run with more locals
  pub frame_runs : (ks others : List Kind) (vs : List Val) → FrameHas ks vs → length (ks ++ others) ≤ length vs → FrameHolds (ks ++ others) vs
  frame_runs [] others vs h room = others_held others vs h room
  frame_runs (k ∷ ks) others [] h room = absurd h
  frame_runs (k ∷ ks) others (v ∷ vs) h room = (held program class k v h.0, frame_runs ks others vs h.1 (omega (arith, room)))
