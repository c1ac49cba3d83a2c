use Rattle.std.proofs.Common.{◌≡◌, ◌+◌, ◌*◌, [], drop}
use Rattle.sed_units.specs.Tree.{row, tree_size}
use Rattle.sed_terms.specs.declared.judged.Judged.TheVariants.{Sound}
use Rattle.sed_terms.specs.Faults.{least_fault}
use Rattle.sed_terms.specs.Term.{Absent}
use Rattle.sed_body_rules.specs.Scope.{behind_all, behind_cases}
use Rattle.sed_statements.specs.Statements.{judge_stmts, judge_cases}
use Rattle.sed_statements.proofs.statements.+statements.Given as goal

abbrev pub decreases-judge : goal.decreases-judge
decreases-judge g l = 3 * tree_size l.s.now

abbrev pub decreases-inner : goal.decreases-inner
decreases-inner g l = 3 * tree_size l.x.now + 1

abbrev pub decreases-judge_row : goal.decreases-judge_row
decreases-judge_row g l = 3 * tree_size (row l.all.now)

abbrev pub decreases-block : goal.decreases-block
decreases-block g l = 3 * tree_size (row l.all.now) + 1

abbrev pub decreases-choice : goal.decreases-choice
decreases-choice g l = 3 * tree_size l.x.now + 2

abbrev pub decreases-choice_else : goal.decreases-choice_else
decreases-choice_else g l = 3 * (tree_size l.x.now + tree_size l.y.now) + 2

abbrev pub decreases-while_loop : goal.decreases-while_loop
decreases-while_loop g l = 3 * tree_size l.x.now + 2

abbrev pub decreases-do_loop : goal.decreases-do_loop
decreases-do_loop g l = 3 * tree_size l.x.now + 2

abbrev pub decreases-for_loop : goal.decreases-for_loop
decreases-for_loop g l = 3 * tree_size l.x.now + 2

abbrev pub decreases-switch : goal.decreases-switch
decreases-switch g l = 3 * tree_size (row l.all.now) + 2

abbrev pub decreases-cases : goal.decreases-cases
decreases-cases g l = 3 * tree_size (row l.all.now) + 1

abbrev pub decreases-case : goal.decreases-case
decreases-case g l = 3 * tree_size l.k.now

abbrev pub invariant-judge_row-loop-s : goal.invariant-judge_row-loop-s
invariant-judge_row-loop-s g l = record {
  found : judge_stmts least_fault (g.N.Lookup.names l.within.names.now) l.within.method l.around l.scope l.xs (row (drop l.s-index l.all))
      ≡ judge_stmts least_fault (g.N.Lookup.names l.within.names.now) l.within.method l.around l.fn.scope (Sound Absent) (row l.all);
  behind : behind_all (g.N.Lookup.names l.within.names.now) l.scope (row (drop l.s-index l.all))
      ≡ behind_all (g.N.Lookup.names l.within.names.now) l.fn.scope (row l.all);
}

abbrev pub invariant-cases-loop-k : goal.invariant-cases-loop-k
invariant-cases-loop-k g l = record {
  found : judge_cases least_fault (g.N.Lookup.names l.within.names.now) l.within.method l.around l.scope l.labels.items l.xs (row
      (drop l.k-index l.all))
      ≡ judge_cases least_fault (g.N.Lookup.names l.within.names.now) l.within.method l.around l.fn.scope [] (Sound Absent) (row l.all);
  behind : behind_cases (g.N.Lookup.names l.within.names.now) l.scope (row (drop l.k-index l.all))
      ≡ behind_cases (g.N.Lookup.names l.within.names.now) l.fn.scope (row l.all);
}
