use Rattle.sed_body_laws.proofs.Bodies.{method_right, params_right}
use Rattle.sed_body_laws.proofs.laws.judged_methods_are_typed.Goals as goal

pub returns-clause-body : goal.returns-clause-body
returns-clause-body c =
    method_right c.judged_statements_are_typed.ensures
    (record {
      statement = c.scopes_count_on.ensures.statement;
      row = c.scopes_count_on.ensures.row;
      label = c.scopes_count_on.ensures.label;
    })
    c.scopes_stand_with_one_more.ensures

pub returns-clause-params : goal.returns-clause-params
returns-clause-params c = params_right
