use Rattle.std.proofs.Common.{sym, ap, ◌∙◌, Option}
use Rattle.sed_faults.specs.declared.fault.Fault.{Fault}
use Rattle.sed_terms.specs.declared.judged.Judged.{Judged}
use Rattle.sed_terms.specs.Term.{Term}
use Rattle.sed_check.specs.Judgements.{fault_in}
use Rattle.sed_check.proofs.Told.{kept_is_least}
use Rattle.sed_check.proofs.judgement.judgement_of.Goals as goal

pub returns-in-Unknown-clause-fault : goal.returns-in-Unknown-clause-fault
returns-in-Unknown-clause-fault c all same =
    ap (λ (j : Judged Term (Option Fault)). fault_in j) (sym c.in-Unknown.is)
    ∙ kept_is_least all c.args.judged same
