use Rattle.std.proofs.Common.{map, ap, ◌∙◌}
use Rattle.node_table.specs.Marks.{with_parts}
use Rattle.node_table.proofs.PlaceLemmas.{touched_is, touched_none}
use Rattle.node_table.proofs.marks.Marks.touch.Goals as goal

pub loop-place-init : goal.loop-place-init
loop-place-init c = touched_none c.args.parts c.self.inside.places c.self.invariant

pub returns : goal.returns
returns c =
    touched_is c.args.parts c.self.inside.places c.loop-place.self-inside.places c.loop-place.place c.self.invariant c.loop-place-test.false c.loop-place.invariant
    ∙ ap (map (with_parts c.args.parts)) c.self.view_is
