-- What is found with the least fault is what is found with all of them, seen by the least.
use Rattle.std.proofs.Common.{◌≡◌, Bool, true, false, List, Option, Some, None, refl, ap, ◌∙◌}
use Rattle.sed_faults.specs.declared.fault.Fault.{Fault}
use Rattle.sed_terms.specs.declared.judged.Judged.{Judged}
use Rattle.sed_terms.specs.declared.judged.Judged.TheVariants.{Sound, Unknown}
use Rattle.sed_terms.specs.Faults.{all_faults, least_fault, told, after, paired, joined, unless, some_or}
use Rattle.sed_faults.proofs.Least.{least_together}

pub after_told : {A B : Type 0} (x : Judged A (List Fault)) (y : Judged A (Option Fault)) (rule : A → Judged B (List Fault)) (rule' : A → Judged B (Option Fault)) →
    told x ≡ y → ((a : A) → told (rule a) ≡ rule' a) → told (after x rule) ≡ after y rule'
after_told {A} {B} x y rule rule' q same = at x ∙ ap (λ z. after z rule') q
  where
    at : (x : Judged A (List Fault)) → told (after x rule) ≡ after (told x) rule'
    at (Sound a) = same a
    at (Unknown f) = refl

pub paired_told : {A B : Type 0} (x : Judged A (List Fault)) (y : Judged B (List Fault)) →
    told (paired all_faults x y) ≡ paired least_fault (told x) (told y)
paired_told (Sound a) (Sound b) = refl
paired_told (Sound a) (Unknown g) = refl
paired_told (Unknown f) (Sound b) = refl
paired_told {A} {B} (Unknown f) (Unknown g) = ap (λ h. let x : Judged (A × B) (Option Fault) = Unknown h in x) (least_together f g)

pub joined_told : {A B C : Type 0} (x : Judged A (List Fault)) (y : Judged B (List Fault)) (u : Judged A (Option Fault)) (v : Judged B (Option Fault))
    (rule : A → B → Judged C (List Fault)) (rule' : A → B → Judged C (Option Fault)) →
    told x ≡ u → told y ≡ v → ((a : A) (b : B) → told (rule a b) ≡ rule' a b) → told (joined all_faults x y rule) ≡ joined least_fault u v rule'
joined_told {A} {B} {C} x y u v rule rule' q r same =
    after_told {A = A × B} {B = C} (paired all_faults x y) (paired least_fault u v) (λ p. rule p.0 p.1) (λ p. rule' p.0 p.1)
    (paired_told x y ∙ ap (λ z. paired least_fault z (told y)) q ∙ ap (λ z. paired least_fault u z) r) (λ p. same p.0 p.1)

pub unless_told : {A : Type 0} (test : Bool) (f : Fault) (a : A) → told (unless all_faults test f a) ≡ unless least_fault test f a
unless_told true f a = refl
unless_told false f a = refl

pub some_told : {A : Type 0} (f : Fault) (o : Option A) → told (some_or all_faults f o) ≡ some_or least_fault f o
some_told f (Some a) = refl
some_told f None = refl
