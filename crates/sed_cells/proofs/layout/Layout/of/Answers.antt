use Rattle.std.proofs.Common.{◌+◌, ◌<◌, List, length, sym, subst, arith}
use Rattle.sed_value.specs.declared.value.Value.{Value}
use Rattle.sed_cells.specs.declared.layout.Node.{Node}
use Rattle.sed_cells.specs.Layouts.{IsGrowing, grown}
use Rattle.sed_cells.proofs.Growing.{grows}
use Rattle.sed_cells.proofs.layout.Layout.of.Goals as goal

pub loop-done-preserved : goal.loop-done-preserved
loop-done-preserved c =
    let program = c.args.program.now in
    let nodes = c.loop-done.nodes.items in
    let done = c.loop-done.done in
    let inside : done < length nodes = omega (arith, c.len.ensures, c.loop-done.nodes.ok.0) in
    let e = c.in_ok-grow.ensures in
    subst (λ (ns : List Node). IsGrowing program c.args.top ns c.grow.new.fresh (done + 1)) (sym e.nodes)
    (subst (λ (vs : List Value). IsGrowing program c.args.top (grown program nodes done) vs (done + 1)) (sym e.values)
    (grows program c.args.top nodes c.loop-done.fresh done c.loop-done.invariant inside e.room))
