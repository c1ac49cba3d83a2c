use Rattle.std.proofs.Common.{◌≡◌, rules, ◌∙◌, sym, ap, FitsSigned, w32, to_z, of_z}
use Rattle.std.proofs.lemmas.Int.{to_z-of_z}
use Rattle.sed_terms.specs.Faults.{least_fault}
use Rattle.sed_statements.specs.Labels.{new_case, spelled_case}
use Rattle.sed_statements.proofs.labels.spelled_case.Goals as goal

pub returns-in-Some : goal.returns-in-Some
returns-in-Some c =
    let fits : FitsSigned w32 c.in-Some.value = search rules in
    let same : to_z w32 (of_z w32 c.in-Some.value) ≡ c.in-Some.value = to_z-of_z w32 c.in-Some.value fits in
    c.new_case.ensures ∙ ap (λ i. new_case least_fault c.args.labels.now c.args.at i) same
    ∙ sym (ap (λ o. spelled_case least_fault c.args.labels.now c.args.at o) c.in-Some.is)
