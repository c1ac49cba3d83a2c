use Rattle.std.proofs.Common.{sym, ◌∙◌}
use Rattle.sed_terms.specs.Faults.{all_faults}
use Rattle.sed_program.specs.Meaning.{names_of}
use Rattle.sed_statements.specs.Methods.{judge_params}
use Rattle.sed_check.proofs.Told.{kept_is_least}
use Rattle.sed_check.proofs.judgement.without_body.Goals as goal

pub returns-clause-fault : goal.returns-clause-fault
returns-clause-fault c =
    let names = names_of c.args.view.now.tables.now c.args.view.now.kit in
    c.fault_of.ensures
    ∙ kept_is_least (judge_params all_faults names c.args.method.now c.args.params.now) c.in_ok-judged.judged
    (c.least_fault_of_params_is_found.ensures names c.args.method.now c.args.params.now ∙ sym c.in_ok-judged.ensures)
