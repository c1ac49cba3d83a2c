use Rattle.std.proofs.Common.{◌≡◌, drop}
use Rattle.std.specs.Prelude.{IfSome}
use Rattle.std.specs.FinMap as map
use Rattle.sed_typed.specs.Classes.{slots}
use Rattle.node_table.specs.Read.{types_in}
use Rattle.node_table.specs.Values.{AreOfTypes}
use Rattle.node_table.proofs.GivenLemmas.{FilledSoFar}
use Rattle.node_table.proofs.config.store_values.Given as goal

-- the slots before this one have their values, and those that are left are of the types that are left
abbrev pub invariant-loop-slot : goal.invariant-loop-slot
invariant-loop-slot g l = record {
  typed : AreOfTypes (types_in (drop l.slot (slots (g.E.Engine.meaning l.fn.engine).schema.classes l.kind.0))) l.rest;
  stored : IfSome (map.get (g.E.Engine.live l.fn.engine) l.place.0) (λ o. FilledSoFar (g.E.Engine.meaning l.fn.engine) (g.E.Engine.live l.fn.engine) (g.E.Engine.live l.engine) l.place.0 o l.slot (slots (g.E.Engine.meaning l.fn.engine).schema.classes l.kind.0) l.values l.rest);
  meaning : g.E.Engine.meaning l.engine ≡ g.E.Engine.meaning l.fn.engine;
  statics : g.E.Engine.statics l.engine ≡ g.E.Engine.statics l.fn.engine;
  limit : g.E.Engine.limit l.engine ≡ g.E.Engine.limit l.fn.engine;
  fixed : g.E.Engine.fixed l.engine ≡ g.E.Engine.fixed l.fn.engine;
}
