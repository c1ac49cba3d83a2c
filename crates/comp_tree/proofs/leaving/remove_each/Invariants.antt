use Rattle.std.proofs.Common.{◌≡◌, take}
use Rattle.comp_tree.specs.Edits.{without_all}
use Rattle.comp_tree.specs.Held.{IsPlaced, by_id_of}
use Rattle.comp_tree.specs.SameCode.{SameCode}
use Rattle.comp_tree.proofs.leaving.remove_each.Given as goal

-- those so far are gone
abbrev pub invariant-loop-id : goal.invariant-loop-id
invariant-loop-id g l = record {
  placed : IsPlaced (g.E.Engine.meaning l.engine) (g.E.Engine.live l.engine) l.nodes;
  nodes : l.nodes ≡ without_all (take l.id-index l.ids) l.fn.nodes;
  by_id : by_id_of (g.E.Engine.live l.engine) l.nodes ≡ without_all (take l.id-index l.ids) (by_id_of (g.E.Engine.live l.fn.engine) l.fn.nodes);
  statics : g.E.Engine.statics l.engine ≡ g.E.Engine.statics l.fn.engine;
  same : SameCode g.E.Engine l.fn.engine l.engine;
}
