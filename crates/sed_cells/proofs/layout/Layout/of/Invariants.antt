use Rattle.sed_cells.specs.Layouts.{IsGrowing}
use Rattle.sed_cells.proofs.layout.Layout.of.Given as goal

abbrev pub invariant-loop-done : goal.invariant-loop-done
invariant-loop-done l = IsGrowing l.program l.fn.top l.nodes.items l.fresh l.done
