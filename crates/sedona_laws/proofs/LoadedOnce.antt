-- What is loaded and generated: programs with short methods, or the first refusal. What the laws of loadings and of
-- compiling say of it.
use Rattle.std.proofs.Common.{◌≡◌, ℕ, List, Some, None, Option, Result, Ok, Err, refl, sym, ap, ◌∙◌, inl, inr}
use Rattle.std.specs.Prelude.{All, ◌⊎◌}
use Rattle.sed_typed.specs.declared.program.Program.{Program}
use Rattle.scode_gen.specs.Generated.{IsFirstTooLong, IsShort}
use Rattle.scode_compile.specs.Alike.{HaveSameMethods}
use Rattle.sed_outside.specs.Steps.{Read, Agree}
use Rattle.sed_outside.specs.Reads.{failed_names}
use Rattle.sed_check.specs.declared.refusal.KitsRefusal.{KitsRefusal}
use Rattle.sed_check.specs.Loading.{Told}
use Rattle.sed_check.specs.Refusals.{AreAlike, failed_in, refusal_of, failed_of as kits_failed}
use Rattle.sedona_cli.specs.declared.refusal.Refusal.{Refusal}
use Rattle.sedona_cli.specs.declared.refusal.Refusal.TheVariants.{MethodTooLong}
use Rattle.sedona_cli.specs.Refusals.{failed_of, of_kits}
use Rattle.sedona_cli.specs.Steps.{Generates}
use Rattle.sedona_laws.proofs.InputsOnce.{LoadTells, LoadsOne}
use Rattle.sedona_cli.proofs.Generated.{IsDone, IsTooLong, done_by, refused_by}
use Rattle.sed_check.specs.declared.refusal.KitsRefusal.TheVariants as kits

-- ---- one end

some_kits : (a b : KitsRefusal) → ◌≡◌ {A = Option KitsRefusal} (Some a) (Some b) → a ≡ b
some_kits a b same = cc

no_kits : (a : KitsRefusal) → ◌≡◌ {A = Option KitsRefusal} (Some a) None → ⊥
no_kits a same = cc

-- a loading has one end
abbrev pub KitsOne : (List Read → Result Program KitsRefusal → Type 0) → Type 0
KitsOne step = (reads others : List Read) (end other : Result Program KitsRefusal) → step reads end → step others other → Agree reads others
    → (reads ≡ others) × (refusal_of other ≡ refusal_of end)

-- and its programs are alike
abbrev pub KitsAlike : (List Read → Result Program KitsRefusal → Type 0) → Type 0
KitsAlike step = (reads others : List Read) (p q : Program) → step reads (Ok p) → step others (Ok q) → Agree reads others → AreAlike p q

-- programs with the same methods are refused alike
pub record RefusedAlike : Type 0 where
  pub one : (p q : Program) (n m : ℕ) → HaveSameMethods p q → IsFirstTooLong p n → IsFirstTooLong q m → n ≡ m
  pub none : (p q : Program) (n : ℕ) → HaveSameMethods p q → All (IsShort p) p.methods → IsFirstTooLong q n → ⊥

same_methods : (p q : Program) → AreAlike p q → HaveSameMethods p q
same_methods p q alike = record { bodies = alike.bodies; results = alike.results; virtual = alike.virtual }

same_back : (p q : Program) → HaveSameMethods p q → HaveSameMethods q p
same_back p q same = record { bodies = sym same.bodies; results = sym same.results; virtual = sym same.virtual }

module _ (step : List Read → Result Program KitsRefusal → Type 0) (one : KitsOne step) (alike : KitsAlike step) (refused : RefusedAlike) where
  both_refused : (reads others : List Read) (r s : Refusal) → Told {X = Program} of_kits step reads (Err r) ⊎ IsTooLong step reads r → Told {X = Program} of_kits step others (Err s) ⊎ IsTooLong step others s → Agree reads others
      → (reads ≡ others) × (r ≡ s)
  both_refused reads others r s (inl h) (inl k) agree =
      let same = one reads others (Err h.0) (Err k.0) h.1 k.1 agree in
      (same.0, h.2 ∙ ap of_kits (sym (some_kits k.0 h.0 same.1)) ∙ sym k.2)
  both_refused reads others r s (inl h) (inr k) agree = absurd (no_kits h.0 (sym (one reads others (Err h.0) (Ok k.program) h.1 k.loaded agree).1))
  both_refused reads others r s (inr h) (inl k) agree = absurd (no_kits k.0 (one reads others (Ok h.program) (Err k.0) h.loaded k.1 agree).1)
  both_refused reads others r s (inr h) (inr k) agree =
      let same = same_methods h.program k.program (alike reads others h.program k.program h.loaded k.loaded agree) in
      let numbers = refused.one h.program k.program h.number k.number same h.first k.first in (
        (one reads others (Ok h.program) (Ok k.program) h.loaded k.loaded agree).0,
        h.is ∙ ap (λ (n : ℕ). MethodTooLong n) numbers ∙ sym k.is,
      )

  go_and_stop : (reads others : List Read) (p : Program) (s : Refusal) → IsDone step reads p → Told {X = Program} of_kits step others (Err s) ⊎ IsTooLong step others s → Agree reads others → ⊥
  go_and_stop reads others p s h (inl k) agree = no_kits k.0 (one reads others (Ok p) (Err k.0) h.loaded k.1 agree).1
  go_and_stop reads others p s h (inr k) agree =
      refused.none p k.program k.number (same_methods p k.program (alike reads others p k.program h.loaded k.loaded agree)) h.short k.first

  stop_and_go : (reads others : List Read) (r : Refusal) (q : Program) → Told {X = Program} of_kits step reads (Err r) ⊎ IsTooLong step reads r → IsDone step others q → Agree reads others → ⊥
  stop_and_go reads others r q (inl h) k agree = no_kits h.0 (sym (one reads others (Err h.0) (Ok q) h.1 k.loaded agree).1)
  stop_and_go reads others r q (inr h) k agree =
      refused.none q h.program h.number (same_back h.program q (same_methods h.program q (alike reads others h.program q h.loaded k.loaded agree))) k.short h.first

  pub generates_one : LoadsOne (Generates step)
  generates_one reads others (Ok p) (Ok q) h k agree =
      let first = done_by step reads p h in
      let second = done_by step others q k in
      ((one reads others (Ok p) (Ok q) first.loaded second.loaded agree).0, alike reads others p q first.loaded second.loaded agree)
  generates_one reads others (Err r) (Err s) h k agree = both_refused reads others r s (refused_by step reads r h) (refused_by step others s k) agree
  generates_one reads others (Ok p) (Err s) h k agree = absurd (go_and_stop reads others p s (done_by step reads p h) (refused_by step others s k) agree)
  generates_one reads others (Err r) (Ok q) h k agree = absurd (stop_and_go reads others r q (refused_by step reads r h) (done_by step others q k) agree)

-- ---- the reads that failed

-- a loading tells the reads that failed
abbrev pub KitsTell : (List Read → Result Program KitsRefusal → Type 0) → Type 0
KitsTell step = (reads : List Read) (end : Result Program KitsRefusal) → step reads end → failed_names reads ≡ failed_in end

failed_kits : (r : KitsRefusal) → kits_failed r ≡ failed_of (of_kits r)
failed_kits (kits.FileFault file) = refl
failed_kits (kits.Refused file why) = refl
failed_kits (kits.Rule file at rule) = refl
failed_kits kits.Memory = refl

pub generates_tell : (step : List Read → Result Program KitsRefusal → Type 0) → KitsTell step → LoadTells (Generates step)
generates_tell step tells reads (Ok p) h = tells reads (Ok p) (done_by step reads p h).loaded
generates_tell step tells reads (Err r) h = by (refused_by step reads r h)
  where
    by : Told {X = Program} of_kits step reads (Err r) ⊎ IsTooLong step reads r → failed_names reads ≡ failed_of r
    by (inl k) = tells reads (Err k.0) k.1 ∙ failed_kits k.0 ∙ sym (ap failed_of k.2)
    by (inr k) = tells reads (Ok k.program) k.loaded ∙ sym (ap failed_of k.is)
