use Rattle.std.proofs.Common.{◌≡◌, ◌≤◌, get_or, length, subst, ap, ◌∙◌, arith}
use Rattle.std.specs.List.{enumerate_from, flat_map}
use Rattle.std.proofs.lemmas.Grind.{get_or_default_zero}
use Rattle.std.proofs.lemmas.List.{take_all}
use Rattle.std.proofs.lemmas.List.FromFn.{length-enumerate_from}
use Rattle.sed_classes.specs.Schema.{class_order}
use Rattle.sed_program.specs.Methods.{methods_in}
use Rattle.sed_check.specs.Judgements.{AreJudged}
use Rattle.sed_check.proofs.Grown.{judged_with_class}
use Rattle.sed_check.proofs.bodies.all_methods.Goals as goal

pub loop-number-init : goal.loop-number-init
loop-number-init c = c.none-bodies.ensures c.args.tables.now

pub loop-number-preserved : goal.loop-number-preserved
loop-number-preserved c =
    let units = c.args.tables.now in
    let order = c.order-order.result.now in
    let at = c.loop-number.number in
    judged_with_class units (methods_in units) order at (get_or order at 0) c.loop-number.bodies c.methods.new.bodies
    c.loop-number-test.true (get_or_default_zero order at (get_or order at 0) c.loop-number-test.true)
    c.loop-number.invariant (c.in_ok-methods.ensures {u = tt})

pub returns : goal.returns
returns c =
    let units = c.args.tables.now in
    let order = c.order-order.result.now in
    let same : order ≡ class_order units = c.order-order.ensures.order ∙ ap class_order c.ordered.ensures in
    let past : length (enumerate_from 0 order) ≤ c.loop-number.number =
    omega (arith, length-enumerate_from 0 order, c.loop-number-test.false) in
    subst (λ classes. AreJudged units (flat_map (methods_in units) classes) c.loop-number.bodies)
    (take_all c.loop-number.number (enumerate_from 0 order) past ∙ ap (enumerate_from 0) same)
    c.loop-number.invariant
