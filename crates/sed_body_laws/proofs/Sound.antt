-- What holds of a part that is sound.
use Rattle.std.proofs.Common.{◌≡◌, Bool, true, false, List, [], ◌∷◌, ◌++◌, refl}
use Rattle.sed_faults.specs.declared.fault.Fault.{Fault}
use Rattle.sed_terms.specs.declared.judged.Judged.{Judged}
use Rattle.sed_terms.specs.declared.judged.Judged.TheVariants.{Sound, Unknown}
use Rattle.sed_terms.specs.Faults.{all_faults, after, paired, joined, unless, IfSound, Right}

pub after_sound : {A B : Type 0} (P : A → Type 0) (Q : B → Type 0) (x : Judged A (List Fault)) (rule : A →
    Judged B (List Fault)) →
    IfSound x P → ((a : A) → P a → IfSound (rule a) Q) → IfSound (after x rule) Q
after_sound P Q (Sound a) rule h next = next a h
after_sound P Q (Unknown f) rule h next = tt

pub paired_sound : {A B : Type 0} (P : A → Type 0) (Q : B →
    Type 0) (x : Judged A (List Fault)) (y : Judged B (List Fault)) →
    IfSound x P → IfSound y Q → IfSound (paired all_faults x y) (λ p. P p.0 × Q p.1)
paired_sound P Q (Sound a) (Sound b) p q = (p, q)
paired_sound P Q (Sound a) (Unknown g) p q = tt
paired_sound P Q (Unknown f) (Sound b) p q = tt
paired_sound P Q (Unknown f) (Unknown g) p q = tt

pub joined_sound : {A B C : Type 0} (P : A → Type 0) (Q : B → Type 0) (R : C →
    Type 0) (x : Judged A (List Fault)) (y : Judged B (List Fault))
    (rule : A → B → Judged C (List Fault)) → IfSound x P → IfSound y Q → ((a : A) (b : B) → P a → Q b →
    IfSound (rule a b) R) →
    IfSound (joined all_faults x y rule) R
joined_sound P Q R (Sound a) (Sound b) rule p q next = next a b p q
joined_sound P Q R (Sound a) (Unknown g) rule p q next = tt
joined_sound P Q R (Unknown f) (Sound b) rule p q next = tt
joined_sound P Q R (Unknown f) (Unknown g) rule p q next = tt

pub unless_sound : {A : Type 0} (P : A → Type 0) (test : Bool) (f : Fault) (a : A) → (test ≡ true → P a) →
    IfSound (unless all_faults test f a) P
unless_sound P true f a h = h refl
unless_sound P false f a h = tt

pub sound_weaker : {A : Type 0} (P Q : A → Type 0) (x : Judged A (List Fault)) → ((a : A) → P a → Q a) → IfSound x P →
    IfSound x Q
sound_weaker P Q (Sound a) f h = f a h
sound_weaker P Q (Unknown fs) f h = tt

pub all_known : {A : Type 0} (x : Judged A (List Fault)) → IfSound x (λ _. Unit {0})
all_known (Sound a) = tt
all_known (Unknown f) = tt

-- ---- with what is right

pub right_and_sound : {A : Type 0} (P Q R : A → Type 0) (x : Judged A (List Fault)) → ((a : A) → P a → Q a → R a) →
    Right P x → IfSound x Q → Right R x
right_and_sound P Q R (Sound a) f h g = f a h g
right_and_sound P Q R (Unknown fs) f h g = h

some_there : (xs ys : List Fault) → (xs ≡ [] → ⊥) → xs ++ ys ≡ [] → ⊥
some_there [] ys h e = h refl
some_there (x ∷ xs) ys h e = cc

-- a part of which nothing is kept, and another one
pub beside_right : {A B : Type 0} (P : B → Type 0) (x : Judged A (List Fault)) (y : Judged B (List Fault)) →
    Right (λ _. Unit {0}) x → Right P y →
    Right P (joined all_faults x y (λ a b. Sound b))
beside_right P (Sound a) (Sound b) h g = g
beside_right P (Sound a) (Unknown gs) h g = g
beside_right P (Unknown fs) (Sound b) h g = h
beside_right P (Unknown fs) (Unknown gs) h g = some_there fs gs h
