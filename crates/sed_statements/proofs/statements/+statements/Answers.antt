use Rattle.std.proofs.Common.{[], ◌∷◌, ap, ◌∙◌, arith}
use Rattle.sed_units.specs.StatementTree.{first_tree}
use Rattle.sed_units.specs.Tree.{row}
use Rattle.sed_body_rules.specs.Scope.{Scope, past, behind}
use Rattle.sed_statements.proofs.Kept.{whatever_comes}
use Rattle.sed_statements.proofs.StatementRows.{row_falls}
use Rattle.sed_statements.proofs.statements.+statements.Goals as goal

-- an item of a row is smaller than the row
pub judge_row-judge-requires : goal.judge_row-judge-requires
judge_row-judge-requires g t c =
    λ κs h. (omega (arith, row_falls c.args.all.now c.loop-s.s-index c.s-item.result c.loop-s-test.true c.s-item.is), h)

pub cases-case-requires : goal.cases-case-requires
cases-case-requires g t c =
    λ κs h. (omega (arith, row_falls c.args.all.now c.loop-k.k-index c.k-item.result c.loop-k-test.true c.k-item.is), h)

-- the locals of both branches are out of scope
pub choice_else-returns-clause-past : goal.choice_else-returns-clause-past
choice_else-returns-clause-past g t c =
    whatever_comes c.conditional.result _
    (c.in_ok-y.ensures.past ∙ ap (λ (s : Scope). past s c.args.y.now) c.in_ok-x.ensures.past)

-- the head of a `for` and its body are a row, whose locals are out of scope behind it
pub for_loop-returns-clause-past : goal.for_loop-returns-clause-past
for_loop-returns-clause-past g t c =
    whatever_comes c.repeated_for.result _
    (c.leave.ensures.row (g.N.Lookup.names c.args.within.now.names.now) c.args.scope.now
    (row (first_tree c.args.head.now.first ∷ c.args.x.now ∷ [])) c.len-mark.ensures
    (c.in_ok-x.ensures.behind
    ∙ ap (λ (s : Scope). behind (g.N.Lookup.names c.args.within.now.names.now) s c.args.x.now) c.in_ok-first.ensures.behind))
