use Rattle.std.proofs.Common.{ℕ, ◌≡◌, ◌≤◌, take}
use Rattle.comp_tree.specs.Application.{data_size_of}
use Rattle.comp_tree.specs.Held.{IsPlaced, by_id_of}
use Rattle.comp_tree.specs.Loads.{loaded}
use Rattle.comp_tree.specs.Marks.{all_parts, marks_in}
use Rattle.comp_tree.specs.SameCode.{SameCode}
use Rattle.comp_tree.proofs.loading.load_each.Given as goal

-- those so far are there, and have no more data than there may be
abbrev pub invariant-loop-entry : goal.invariant-loop-entry
invariant-loop-entry g l = record {
  placed : IsPlaced (g.E.Engine.meaning l.engine) (g.E.Engine.live l.engine) l.nodes;
  by_id : by_id_of (g.E.Engine.live l.engine) l.nodes ≡ loaded (g.E.Engine.meaning l.fn.engine) (take l.entry-index l.entries);
  fits : data_size_of (g.E.Engine.meaning l.fn.engine) (loaded (g.E.Engine.meaning l.fn.engine) (take l.entry-index l.entries)) ≤ g.E.Engine.limit l.fn.engine;
  marks : (id at : ℕ) → marks_in l.nodes id at ≡ all_parts;
  statics : g.E.Engine.statics l.engine ≡ g.E.Engine.statics l.fn.engine;
  same : SameCode g.E.Engine l.fn.engine l.engine;
}
