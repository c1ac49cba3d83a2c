use Rattle.sed_statements.proofs.StatementsRight.{judged_right}
use Rattle.sed_statements.proofs.laws.judged_statements_are_typed.Goals as goal

pub returns : goal.returns
returns k c n e around s i r t p =
    judged_right c n e (record {
      expressions = λ z j u. k.judged_expressions_are_typed.ensures c n e.body z j.inside u;
      conditions = k.truth_right.ensures c i.inside.kinds;
      ints = k.wants_right.ensures c;
      places = k.placed_goes.ensures c i.inside.kinds n.below i.inside.below;
      result = r;
    }) around s i t p
