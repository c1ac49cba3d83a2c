-- Rules that keep the least fault find what those that keep all do, seen by the least. `Both` is the law of two lists
-- together.
use Rattle.std.proofs.Common.{◌≡◌, Bool, true, false, List, ◌++◌, Option, Some, None, refl, ap, ◌∙◌}
use Rattle.sed_faults.specs.declared.fault.Fault.{Fault}
use Rattle.sed_terms.specs.declared.judged.Judged.{Judged}
use Rattle.sed_terms.specs.declared.judged.Judged.TheVariants.{Sound, Unknown}
use Rattle.sed_terms.specs.Faults.{all_faults, least_fault, least, lesser, told, after, paired, joined, unless, some_or}

abbrev pub Both : Type 0
Both = (xs ys : List Fault) → least (xs ++ ys) ≡ lesser (least xs) (least ys)

pub after_told : {A B : Type 0} (x : Judged A (List Fault)) (y : Judged A (Option Fault)) (all : A →
    Judged B (List Fault)) (one : A → Judged B (Option Fault)) →
    told x ≡ y → ((a : A) → told (all a) ≡ one a) → told (after x all) ≡ after y one
after_told {A} {B} x y all one q same = at x ∙ ap (λ z. after z one) q
  where
    at : (x : Judged A (List Fault)) → told (after x all) ≡ after (told x) one
    at (Sound a) = same a
    at (Unknown f) = refl

pub paired_told : {A B : Type 0} → Both → (x : Judged A (List Fault)) (y : Judged B (List Fault)) →
    told (paired all_faults x y) ≡ paired least_fault (told x) (told y)
paired_told both (Sound a) (Sound b) = refl
paired_told both (Sound a) (Unknown g) = refl
paired_told both (Unknown f) (Sound b) = refl
paired_told {A} {B} both (Unknown f) (Unknown g) = ap (λ h. let x : Judged (A
    × B) (Option Fault) = Unknown h in x) (both f g)

pub joined_told : {A B C : Type 0} → Both → (x : Judged A (List Fault)) (y : Judged B (List Fault)) (u : Judged A
    (Option Fault)) (v : Judged B (Option Fault))
    (all : A → B → Judged C (List Fault)) (one : A → B → Judged C (Option Fault)) →
    told x ≡ u → told y ≡ v → ((a : A) (b : B) → told (all a b) ≡ one a b) →
    told (joined all_faults x y all) ≡ joined least_fault u v one
joined_told {A} {B} {C} both x y u v all one q r same =
    after_told {A = A × B} {B = C} (paired all_faults x y) (paired least_fault u v) (λ p. all p.0 p.1)
    (λ p. one p.0 p.1)
    (paired_told both x y ∙ ap (λ z. paired least_fault z (told y)) q
    ∙ ap (λ z. paired least_fault u z) r) (λ p. same p.0 p.1)

pub unless_told : {A : Type 0} (test : Bool) (f : Fault) (a : A) →
    told (unless all_faults test f a) ≡ unless least_fault test f a
unless_told true f a = refl
unless_told false f a = refl

pub some_told : {A : Type 0} (f : Fault) (o : Option A) → told (some_or all_faults f o) ≡ some_or least_fault f o
some_told f (Some a) = refl
some_told f None = refl
