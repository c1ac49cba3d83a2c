use Rattle.std.proofs.Common.{Ok, take}
use Rattle.std.specs.List.{flat_map}
use Rattle.comp_tree.specs.Held.{components_of}
use Rattle.printed_app.specs.Puts.{Puts}
use Rattle.printed_app.specs.Application.{component_text}
use Rattle.printed_app.proofs.application.put_each.Given as goal

-- the components so far
abbrev pub invariant-loop-id : goal.invariant-loop-id
invariant-loop-id g l =
    Puts g.O.Sink l.initial.out l.out
    (flat_map (component_text (g.E.Engine.meaning l.tree.engine) (components_of g.E.Engine l.tree).by_id)
    (take l.id-index l.ids)) (Ok tt)
