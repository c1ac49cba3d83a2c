-- The least fault of a method, as all of its faults give it. `Both` is the law of two lists together.
use Rattle.std.proofs.Common.{◌≡◌, true, List, ◌++◌, Option, refl, sym, ap, ◌∙◌}
use Rattle.sed_units.specs.declared.leaves.Param.{Param}
use Rattle.sed_names.specs.Names.{Names}
use Rattle.sed_faults.specs.Faults.{least, lesser}
use Rattle.sed_faults.specs.declared.fault.Fault.{Fault}
use Rattle.sed_terms.specs.declared.judged.Judged.{Judged}
use Rattle.sed_terms.specs.declared.judged.Judged.TheVariants.{Sound, Unknown}
use Rattle.sed_terms.specs.Faults.{all_faults, least_fault, told}
use Rattle.sed_statements.proofs.FormsTold.{free_names_told}
use Rattle.sed_statements.specs.declared.enclosing.Enclosing.{Enclosing}
use Rattle.sed_statements.specs.Methods.{beginning, judge_params}
use Rattle.sed_check.specs.Judgements.{fault_in, least_in}

abbrev pub Both : Type 0
Both = (xs ys : List Fault) → least (xs ++ ys) ≡ lesser (least xs) (least ys)

-- ---- parameters

pub params_told : Both → (n : Names) (c : Enclosing) (ps : List Param) →
    told (judge_params all_faults n c ps) ≡ judge_params least_fault n c ps
params_told both n c ps = free_names_told both n (beginning c) (Sound true) ps

-- ---- what is kept

-- the fault that is kept is the least of all
pub kept_is_least : {A : Type 0} (all : Judged A (List Fault)) (one : Judged A (Option Fault)) →
    told all ≡ one → fault_in one ≡ least_in all
kept_is_least {A} all one e = ap fault_in (sym e) ∙ by_form all
  where
    by_form : (all : Judged A (List Fault)) → fault_in (told all) ≡ least_in all
    by_form (Sound a) = refl
    by_form (Unknown fs) = refl
