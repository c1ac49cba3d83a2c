use Rattle.std.proofs.Common.{◌≡◌}
use Rattle.std.specs.Prelude.{IsSomeAnd}
use Rattle.std.specs.FinMap as map
use Rattle.sed_cycles.specs.Alone.{Alone, after_cycles}
use Rattle.sed_cycles.specs.Standing.{StandsFor}
use Rattle.sed_cycles.proofs.component.run_cycles.Given as goal

-- after so many cycles
abbrev pub invariant-loop-done : goal.invariant-loop-done
invariant-loop-done g l = record {
  so_far : (a : Alone) → StandsFor (g.E.Engine.live l.initial.engine) (g.E.Engine.statics l.initial.engine) l.initial.component a →
      StandsFor (g.E.Engine.live l.engine) (g.E.Engine.statics l.engine) l.component (after_cycles (g.E.Engine.meaning l.initial.engine) l.turns l.done a);
  live : IsSomeAnd (map.get (g.E.Engine.live l.engine) l.component.place.0) (λ o. o.class ≡ l.component.class.0);
  meaning : g.E.Engine.meaning l.engine ≡ g.E.Engine.meaning l.initial.engine;
  place : l.component.place ≡ l.initial.component.place;
  class : l.component.class ≡ l.initial.component.class;
}
