use Rattle.std.proofs.Common.{◌≡◌, ◌∙◌, ap, arith, refl, sym}
use Rattle.std.specs.FinMap.{len, len-empty}
use Rattle.std.specs.Ordering.{nat_cmp}
use Rattle.sed_engine.specs.Code.{Object}
use Rattle.sed_cycles.proofs.Running.{printed_as}
use Rattle.sed_cycles.proofs.cycles.text_of.Goals as goal

pub add_component-requires-clause-few : goal.add_component-requires-clause-few
add_component-requires-clause-few g c =
    let e : len (g.E.Engine.live c.args.engine) ≡ 0 = ap len c.requires.bare ∙ len-empty nat_cmp Object in
    grind (arith, e)

pub returns : goal.returns
returns g c =
    let begun = c.in-Ok.ensures.begun in
    let run = c.run_cycles.ensures.run _ begun in
    printed_as (g.E.Engine.meaning c.args.engine) _ _ c.args.class.0 c.args.cycles c.run_cycles.new.component.fault _ _ _
    c.in-Ok.ensures.meaning c.run_cycles.ensures.meaning c.requires.begun
    refl run.fault
    (c.in_ok-component_text.ensures _ run.object (sym run.class))
