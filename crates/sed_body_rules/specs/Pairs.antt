-- What holds of two parts holds of both together.
use Rattle.std.proofs.Common.{◌≡◌, Option, sym, subst}
use Rattle.sed_faults.specs.declared.fault.Fault.{Fault}
use Rattle.sed_terms.specs.declared.judged.Judged.{Judged}
use Rattle.sed_terms.specs.declared.judged.Judged.TheVariants.{Sound, Unknown}
use Rattle.sed_terms.specs.Faults.{least_fault, paired, IfSound}

pub both_sound : {A B : Type 0} (P : A → Type 0) (Q : B → Type 0) (x : Judged A (Option Fault))
    (y : Judged B (Option Fault))
    (r : Judged (A × B) (Option Fault)) → r ≡ paired least_fault x y
    → IfSound x P → IfSound y Q → IfSound r (λ p. P p.0 × Q p.1)
both_sound {A} {B} P Q x y r e hx hy =
    subst (λ (z : Judged (A × B) (Option Fault)). IfSound z (λ p. P p.0 × Q p.1)) (sym e) (at x y hx hy)
  where
    at : (x : Judged A (Option Fault)) (y : Judged B (Option Fault))
        → IfSound x P → IfSound y Q → IfSound (paired least_fault x y) (λ p. P p.0 × Q p.1)
    at (Sound a) (Sound b) hx hy = (hx, hy)
    at (Sound a) (Unknown g) hx hy = tt
    at (Unknown f) (Sound b) hx hy = tt
    at (Unknown f) (Unknown g) hx hy = tt

pub left_sound : {A B : Type 0} (P : A → Type 0) (x : Judged A (Option Fault)) (y : Judged B (Option Fault))
    (r : Judged (A × B) (Option Fault)) → r ≡ paired least_fault x y → IfSound x P → IfSound r (λ p. P p.0)
left_sound {A} {B} P x y r e hx =
    subst (λ (z : Judged (A × B) (Option Fault)). IfSound z (λ p. P p.0)) (sym e) (at x y hx)
  where
    at : (x : Judged A (Option Fault)) (y : Judged B (Option Fault))
        → IfSound x P → IfSound (paired least_fault x y) (λ p. P p.0)
    at (Sound a) (Sound b) hx = hx
    at (Sound a) (Unknown g) hx = tt
    at (Unknown f) (Sound b) hx = tt
    at (Unknown f) (Unknown g) hx = tt

pub right_sound : {A B : Type 0} (Q : B → Type 0) (x : Judged A (Option Fault)) (y : Judged B (Option Fault))
    (r : Judged (A × B) (Option Fault)) → r ≡ paired least_fault x y → IfSound y Q → IfSound r (λ p. Q p.1)
right_sound {A} {B} Q x y r e hy =
    subst (λ (z : Judged (A × B) (Option Fault)). IfSound z (λ p. Q p.1)) (sym e) (at x y hy)
  where
    at : (x : Judged A (Option Fault)) (y : Judged B (Option Fault))
        → IfSound y Q → IfSound (paired least_fault x y) (λ p. Q p.1)
    at (Sound a) (Sound b) hy = hy
    at (Sound a) (Unknown g) hy = tt
    at (Unknown f) (Sound b) hy = tt
    at (Unknown f) (Unknown g) hy = tt
