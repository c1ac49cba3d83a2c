-- Faults, and what is found of a part of a text. An expression with a fault inside is unknown, and no rule speaks of
-- it: rules are written with the words of this file, which pass on what is unknown.
use Rattle.std.specs.Prelude.{◌≡◌, Bool, if◌then◌else◌, List, [], ◌∷◌, ◌++◌, Option, Some, None}
pub use Rattle.sed_faults.specs.Faults.{broken, is_before, lesser, least}
use Rattle.sed_faults.specs.declared.fault.Fault.{Fault}
use Rattle.sed_terms.specs.declared.judged.Judged.{Judged}
use Rattle.sed_terms.specs.declared.judged.Judged.TheVariants.{Sound, Unknown}

-- What is kept of faults. A part can be unknown with no fault of its own, as a use of what is declared with a fault.
pub record Marks (F : Type 0) : Type 0 where
  pub none : F
  pub one : Fault → F
  pub both : F → F → F

-- all of them, as a list
abbrev pub all_faults : Marks (List Fault)
all_faults = record { none = []; one = λ f. f ∷ []; both = λ a b. a ++ b }

-- the least of them alone
abbrev pub least_fault : Marks (Option Fault)
least_fault = record { none = None; one = λ f. Some f; both = lesser }

-- ---- how rules speak of parts

-- a rule for one part, where it is sound
abbrev pub after : {F A B : Type 0} → Judged A F → (A → Judged B F) → Judged B F
after (Sound a) rule = rule a
after (Unknown f) rule = Unknown f

-- two parts together: the faults of both
abbrev pub paired : {F A B : Type 0} → Marks F → Judged A F → Judged B F → Judged (A × B) F
paired m (Sound a) (Sound b) = Sound (a, b)
paired m (Sound a) (Unknown g) = Unknown g
paired m (Unknown f) (Sound b) = Unknown f
paired m (Unknown f) (Unknown g) = Unknown (m.both f g)

-- a rule for two parts, where both are sound
abbrev pub joined : {F A B C : Type 0} → Marks F → Judged A F → Judged B F → (A → B → Judged C F) → Judged C F
joined {F} {A} {B} {C} m x y rule = after {A = A × B} (paired m x y) (λ p. rule p.0 p.1)

-- a fault exactly where the test does not hold
abbrev pub unless : {F A : Type 0} → Marks F → Bool → Fault → A → Judged A F
unless m test fault a = if test then Sound a else Unknown (m.one fault)

-- what is there, or else a fault
abbrev pub some_or : {F A : Type 0} → Marks F → Fault → Option A → Judged A F
some_or m fault (Some a) = Sound a
some_or m fault None = Unknown (m.one fault)

-- ---- from all faults to the least

-- what is found, with the least of its faults
abbrev pub told : {A : Type 0} → Judged A (List Fault) → Judged A (Option Fault)
told (Sound a) = Sound a
told (Unknown fs) = Unknown (least fs)

-- ---- what is promised

-- of what is found, where it is sound
abbrev pub IfSound : {F A : Type 0} → Judged A F → (A → Type 0) → Type 0
IfSound (Sound a) P = P a
IfSound (Unknown f) P = Unit {0}

-- of a rule where all faults are kept: what is sound has this, and what is unknown has a fault
abbrev pub Right : {A : Type 0} → (A → Type 0) → Judged A (List Fault) → Type 0
Right P (Sound a) = P a
Right P (Unknown fs) = fs ≡ [] → ⊥
