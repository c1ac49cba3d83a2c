-- What is loaded and generated: programs with short methods, or the first refusal. What the laws of loadings and of
-- compiling say of it.
use Rattle.std.proofs.Common.{◌≡◌, ℕ, false, List, [], ◌++◌, Result, Ok, Err, refl, sym, ap, subst, ◌∙◌, inl, inr}
use Rattle.std.specs.Prelude.{All, ◌⊎◌}
use Rattle.std.proofs.lemmas.List.{append-nil}
use Rattle.sed_typed.specs.declared.program.Program.{Program}
use Rattle.scode_gen.specs.Generated.{IsFirstTooLong, IsShort}
use Rattle.sed_outside.specs.Steps.{Read, stops, goes_on}
use Rattle.sed_check.specs.declared.refusal.KitsRefusal.{KitsRefusal}
use Rattle.sed_check.specs.Loading.{Told}
use Rattle.sedona_cli.specs.declared.refusal.Refusal.{Refusal}
use Rattle.sedona_cli.specs.declared.refusal.Refusal.TheVariants.{MethodTooLong}
use Rattle.sedona_cli.specs.Refusals.{is_of_store, of_kits}
use Rattle.sedona_cli.specs.Steps.{Generates, IsGenerated}
use Rattle.sedona_cli.proofs.Ends.{ok_err, one_refusal}
use Rattle.sedona_cli.proofs.Loadings.{LoadsEarly}
use Rattle.sed_check.specs.declared.refusal.KitsRefusal.TheVariants as kits

-- ---- what it is

-- a program is loaded, and its methods are short
pub record IsDone (step : List Read → Result Program KitsRefusal → Type 0) (reads : List Read) (p : Program) : Type 0 where
  pub loaded : step reads (Ok p)
  pub short : All (IsShort p) p.methods

-- a program is loaded, and this method is the first that is too long
pub record IsTooLong (step : List Read → Result Program KitsRefusal → Type 0) (reads : List Read) (r : Refusal) : Type 0 where
  pub program : Program
  pub number : ℕ
  pub loaded : step reads (Ok program)
  pub first : IsFirstTooLong program number
  pub is : r ≡ MethodTooLong number

all_front : (reads front back : List Read) → reads ≡ front ++ back → back ≡ [] → front ≡ reads
all_front reads front back parts none = sym (parts ∙ ap (λ (r : List Read). front ++ r) none ∙ append-nil front)

pub done_by : (step : List Read → Result Program KitsRefusal → Type 0) (reads : List Read) (p : Program) → Generates step reads (Ok p) → IsDone step reads p
done_by step reads p (stops r h e) = absurd (ok_err p r e)
done_by step reads p (goes_on f b q parts h n) = record {
  loaded = subst (λ (x : Program). step reads (Ok x)) (sym n.holds.0) (subst (λ (l : List Read). step l (Ok q)) (all_front reads f b parts n.none) h);
  short = subst (λ (x : Program). All (IsShort x) x.methods) (sym n.holds.0) n.holds.1;
}

pub refused_by : (step : List Read → Result Program KitsRefusal → Type 0) (reads : List Read) (r : Refusal) → Generates step reads (Err r) → Told {X = Program} of_kits step reads (Err r) ⊎ IsTooLong step reads r
refused_by step reads r (stops q h e) = inl (h.0, h.1, one_refusal {X = Program} r q e ∙ h.2)
refused_by step reads r (goes_on f b p parts h n) =
    inr (record {
      program = p;
      number = n.holds.0;
      loaded = subst (λ (l : List Read). step l (Ok p)) (all_front reads f b parts n.none) h;
      first = n.holds.1;
      is = n.holds.2;
    })

pub generates : (step : List Read → Result Program KitsRefusal → Type 0) (reads : List Read) (p : Program) (end : Result Program Refusal) → step reads (Ok p)
    → IsGenerated p end → Generates step reads end
generates step reads p end loaded is = goes_on reads [] p (sym (append-nil reads)) loaded (record { none = refl; holds = is })

pub unloaded : (step : List Read → Result Program KitsRefusal → Type 0) (reads : List Read) (k : KitsRefusal) → step reads (Err k) → Generates step reads (Err (of_kits k))
unloaded step reads k loaded = stops (of_kits k) (k, loaded, refl) refl

-- ---- before a store

early_kits : (r : KitsRefusal) → is_of_store (of_kits r) ≡ false
early_kits (kits.FileFault name) = refl
early_kits (kits.Refused name why) = refl
early_kits (kits.Rule name at rule) = refl
early_kits kits.Memory = refl

pub generates_early : (step : List Read → Result Program KitsRefusal → Type 0) → LoadsEarly (Generates step)
generates_early step reads r h = by (refused_by step reads r h)
  where
    by : Told {X = Program} of_kits step reads (Err r) ⊎ IsTooLong step reads r → is_of_store r ≡ false
    by (inl k) = ap is_of_store k.2 ∙ early_kits k.0
    by (inr k) = ap is_of_store k.is
