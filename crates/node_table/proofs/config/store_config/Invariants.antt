use Rattle.std.proofs.Common.{◌≡◌, false, drop}
use Rattle.std.specs.Prelude.{IfSome, None}
use Rattle.std.specs.FinMap as map
use Rattle.sed_typed.specs.Classes.{slots}
use Rattle.node_table.specs.Read.{refusal_after, types_in}
use Rattle.node_table.proofs.ConfigLemmas.{StoredSoFar}
use Rattle.node_table.proofs.config.store_config.Given as goal

-- the slots before this one have their values, and nothing that is left is refused
abbrev pub invariant-loop-slot : goal.invariant-loop-slot
invariant-loop-slot g l = record {
  good : refusal_after false (types_in (drop l.slot (slots (g.E.Engine.meaning l.fn.engine).schema.classes l.kind.0))) l.reader ≡ None;
  stored : IfSome (map.get (g.E.Engine.live l.fn.engine) l.place.0) (λ o. StoredSoFar (g.E.Engine.meaning l.fn.engine) (g.E.Engine.live l.fn.engine) (g.E.Engine.live l.engine) l.place.0 o l.slot (slots (g.E.Engine.meaning l.fn.engine).schema.classes l.kind.0) l.bytes l.reader);
  meaning : g.E.Engine.meaning l.engine ≡ g.E.Engine.meaning l.fn.engine;
  statics : g.E.Engine.statics l.engine ≡ g.E.Engine.statics l.fn.engine;
  limit : g.E.Engine.limit l.engine ≡ g.E.Engine.limit l.fn.engine;
  fixed : g.E.Engine.fixed l.engine ≡ g.E.Engine.fixed l.fn.engine;
}
