-- Rules that say what is typed: how they are joined.
use Rattle.std.proofs.Common.{◌≡◌, Bool, true, false, List, [], ◌∷◌, ◌++◌, Option, Some, None, IfSome, refl}
use Rattle.sed_faults.specs.declared.fault.Fault.{Fault}
use Rattle.sed_terms.specs.declared.judged.Judged.{Judged}
use Rattle.sed_terms.specs.declared.judged.Judged.TheVariants.{Sound, Unknown}
use Rattle.sed_terms.specs.Faults.{all_faults, after, joined, unless, some_or, Right}

no_more : (xs ys : List Fault) → (xs ≡ [] → ⊥) → xs ++ ys ≡ [] → ⊥
no_more [] ys h e = h refl
no_more (x ∷ xs) ys h e = cc

one_there : (f : Fault) → f ∷ [] ≡ [] → ⊥
one_there f e = cc

pub one_right : {A : Type 0} (P : A → Type 0) (f : Fault) → Right P (Unknown (f ∷ []))
one_right P f = one_there f

pub after_right : {A B : Type 0} (P : A → Type 0) (Q : B → Type 0) (x : Judged A (List Fault)) (rule : A → Judged B (List Fault)) →
    Right P x → ((a : A) → P a → Right Q (rule a)) → Right Q (after x rule)
after_right P Q (Sound a) rule h next = next a h
after_right P Q (Unknown f) rule h next = h

-- the second part need be right only beside a sound first one
pub joined_right : {A B C : Type 0} (P : A → Type 0) (Q : B → Type 0) (R : C → Type 0) (x : Judged A (List Fault)) (y : Judged B (List Fault))
    (rule : A → B → Judged C (List Fault)) → Right P x → ((a : A) → P a → Right Q y) → ((a : A) (b : B) → P a → Q b → Right R (rule a b)) →
    Right R (joined all_faults x y rule)
joined_right P Q R (Sound a) (Sound b) rule p q next = next a b p (q a p)
joined_right P Q R (Sound a) (Unknown g) rule p q next = q a p
joined_right P Q R (Unknown f) (Sound b) rule p q next = p
joined_right P Q R (Unknown f) (Unknown g) rule p q next = no_more f g p

pub unless_right : {A : Type 0} (P : A → Type 0) (test : Bool) (f : Fault) (a : A) → (test ≡ true → P a) → Right P (unless all_faults test f a)
unless_right P true f a h = h refl
unless_right P false f a h = one_there f

pub some_right : {A : Type 0} (P : A → Type 0) (f : Fault) (o : Option A) → IfSome o P → Right P (some_or all_faults f o)
some_right P f (Some a) h = h
some_right P f None h = one_there f
