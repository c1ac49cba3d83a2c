-- What holds of what is sound, by how rules are put together.
use Rattle.std.proofs.Common.{◌≡◌, Bool, true, false, if◌then◌else◌, IfSome, Option, Some, None, refl}
use Rattle.sed_faults.specs.declared.fault.Fault.{Fault}
use Rattle.sed_terms.specs.declared.judged.Judged.{Judged}
use Rattle.sed_terms.specs.declared.judged.Judged.TheVariants.{Sound, Unknown}
use Rattle.sed_terms.specs.Faults.{Marks, IfSound, after, paired, joined, unless, some_or}

pub after_sound : {F A B : Type 0} (P : A → Type 0) (Q : B → Type 0) (x : Judged A F) (f : A → Judged B F) → IfSound x P
    → ((a : A) → P a → IfSound (f a) Q) → IfSound (after x f) Q
after_sound P Q (Sound a) f h k = k a h
after_sound P Q (Unknown g) f h k = tt

pub joined_sound : {F A B C : Type 0} (m : Marks F) (P : A → Type 0) (Q : B → Type 0) (R : C →
    Type 0) (x : Judged A F) (y : Judged B F)
    (f : A → B → Judged C F) → IfSound x P → IfSound y Q → ((a : A) (b : B) → P a → Q b → IfSound (f a b) R) →
    IfSound (joined m x y f) R
joined_sound m P Q R (Sound a) (Sound b) f h k r = r a b h k
joined_sound m P Q R (Sound a) (Unknown g) f h k r = tt
joined_sound m P Q R (Unknown g) (Sound b) f h k r = tt
joined_sound m P Q R (Unknown g) (Unknown e) f h k r = tt

pub paired_sound : {F A B : Type 0} (m : Marks F) (P : A → Type 0) (Q : B → Type 0) (x : Judged A F) (y : Judged B F)
    → IfSound x P → IfSound y Q → IfSound (paired m x y) (λ (p : A × B). P p.0 × Q p.1)
paired_sound m P Q (Sound a) (Sound b) h k = (h, k)
paired_sound m P Q (Sound a) (Unknown g) h k = tt
paired_sound m P Q (Unknown g) (Sound b) h k = tt
paired_sound m P Q (Unknown g) (Unknown e) h k = tt

pub unless_sound : {F A : Type 0} (m : Marks F) (P : A → Type 0) (test : Bool) (fault : Fault) (a : A) → (test ≡ true →
    P a)
    → IfSound (unless m test fault a) P
unless_sound m P true fault a h = h refl
unless_sound m P false fault a h = tt

pub some_sound : {F A : Type 0} (m : Marks F) (P : A → Type 0) (fault : Fault) (o : Option A) → IfSome o P →
    IfSound (some_or m fault o) P
some_sound m P fault (Some a) h = h
some_sound m P fault None h = tt

-- of whatever is sound
pub any_sound : {F A : Type 0} (x : Judged A F) → IfSound x (λ _. Unit {0})
any_sound (Sound a) = tt
any_sound (Unknown f) = tt

pub weaker : {F A : Type 0} (P Q : A → Type 0) (x : Judged A F) → ((a : A) → P a → Q a) → IfSound x P → IfSound x Q
weaker P Q (Sound a) f h = f a h
weaker P Q (Unknown g) f h = tt

pub either_sound : {F A : Type 0} (P : A → Type 0) (b : Bool) (x y : Judged A F) → (b ≡ true → IfSound x P) →
    (b ≡ false → IfSound y P)
    → IfSound (if b then x else y) P
either_sound P true x y h k = h refl
either_sound P false x y h k = k refl

pub either_some : {A : Type 0} (P : A → Type 0) (b : Bool) (x y : Option A) → (b ≡ true → IfSome x P) → (b ≡ false →
    IfSome y P)
    → IfSome (if b then x else y) P
either_some P true x y h k = h refl
either_some P false x y h k = k refl
