use Rattle.std.proofs.Common.{◌≡◌, ◌+◌, ◌*◌, drop}
use Rattle.sed_units.specs.Tree.{row, tree_size}
use Rattle.sed_terms.specs.declared.judged.Judged.TheVariants.{Sound}
use Rattle.sed_terms.specs.Faults.{least_fault}
use Rattle.sed_terms.specs.Term.{Absent}
use Rattle.sed_bodies.specs.Expressions.{judge_args, judge_links}
use Rattle.sed_bodies.proofs.+expressions.Given as goal

abbrev pub decreases-expressions::judge : goal.decreases-expressions::judge
decreases-expressions::judge g l = 3 * tree_size l.e.now

abbrev pub decreases-expressions::prefix : goal.decreases-expressions::prefix
decreases-expressions::prefix g l = 3 * tree_size l.x.now + 2

abbrev pub decreases-expressions::cast_operand : goal.decreases-expressions::cast_operand
decreases-expressions::cast_operand g l = 3 * tree_size l.x.now + 2

abbrev pub decreases-expressions::update : goal.decreases-expressions::update
decreases-expressions::update g l = 3 * tree_size l.x.now + 2

abbrev pub decreases-expressions::branches : goal.decreases-expressions::branches
decreases-expressions::branches g l = 3 * (tree_size l.x.now + tree_size l.y.now) + 1

abbrev pub decreases-expressions::conditional : goal.decreases-expressions::conditional
decreases-expressions::conditional g l = 3 * (tree_size l.t.now + (tree_size l.x.now + tree_size l.y.now)) + 2

abbrev pub decreases-expressions::assignment : goal.decreases-expressions::assignment
decreases-expressions::assignment g l = 3 * (tree_size l.x.now + tree_size l.y.now) + 2

abbrev pub decreases-calls::call : goal.decreases-calls::call
decreases-calls::call g l = 3 * tree_size (row l.args.now) + 2

abbrev pub decreases-calls::super_call : goal.decreases-calls::super_call
decreases-calls::super_call g l = 3 * tree_size (row l.args.now) + 2

abbrev pub decreases-calls::arguments : goal.decreases-calls::arguments
decreases-calls::arguments g l = 3 * tree_size (row l.args.now) + 1

abbrev pub decreases-chains::chain : goal.decreases-chains::chain
decreases-chains::chain g l = 3 * (tree_size l.x.now + tree_size (row l.steps.now)) + 2

abbrev pub decreases-chains::first : goal.decreases-chains::first
decreases-chains::first g l = 3 * (tree_size l.x.now + tree_size l.link.now) + 1

abbrev pub decreases-chains::links : goal.decreases-chains::links
decreases-chains::links g l = 3 * tree_size (row l.links.now)

abbrev pub decreases-behind::behind_class : goal.decreases-behind::behind_class
decreases-behind::behind_class g l = 3 * tree_size l.link.now

abbrev pub decreases-behind::class_method : goal.decreases-behind::class_method
decreases-behind::class_method g l = 3 * tree_size (row l.args.now) + 2

abbrev pub decreases-behind::behind_system : goal.decreases-behind::behind_system
decreases-behind::behind_system g l = 3 * tree_size l.link.now

abbrev pub decreases-behind::system_method : goal.decreases-behind::system_method
decreases-behind::system_method g l = 3 * tree_size (row l.args.now) + 2

abbrev pub decreases-steps::step : goal.decreases-steps::step
decreases-steps::step g l = 3 * tree_size l.link.now

abbrev pub decreases-steps::method : goal.decreases-steps::method
decreases-steps::method g l = 3 * tree_size (row l.args.now) + 2

abbrev pub decreases-steps::index : goal.decreases-steps::index
decreases-steps::index g l = 3 * tree_size l.y.now + 2

abbrev pub decreases-steps::operand : goal.decreases-steps::operand
decreases-steps::operand g l = 3 * tree_size l.y.now + 2

abbrev pub invariant-calls::arguments-loop-i : goal.invariant-calls::arguments-loop-i
invariant-calls::arguments-loop-i g l =
    judge_args least_fault (g.N.Lookup.names l.within.names.now) l.within.body l.within.scope.now l.at l.params l.i l.xs (row (drop l.i l.args))
    ≡ judge_args least_fault (g.N.Lookup.names l.within.names.now) l.within.body l.within.scope.now l.at l.params 0 (Sound Absent) (row l.args)

abbrev pub invariant-chains::links-loop-link : goal.invariant-chains::links-loop-link
invariant-chains::links-loop-link g l =
    judge_links least_fault (g.N.Lookup.names l.within.names.now) l.within.body l.within.scope.now l.at l.x (row (drop l.link-index l.links))
    ≡ judge_links least_fault (g.N.Lookup.names l.within.names.now) l.within.body l.within.scope.now l.at l.fn.x (row l.links)
