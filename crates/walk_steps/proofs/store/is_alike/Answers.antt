use Rattle.std.proofs.Common.{sym, ap}
use Rattle.sed_value.specs.declared.value.Value.{Value}
use Rattle.sed_value.specs.declared.value.Value.TheVariants as kept
use Rattle.sed_engine.specs.Values.{is_alike}
use Rattle.sed_cells.specs.Cells.{cell_value}
use Rattle.walk_steps.proofs.Writes.{past_get}
use Rattle.walk_steps.proofs.store.is_alike.Goals as goal

pub returns-in-None-clause-alike : goal.returns-in-None-clause-alike
returns-in-None-clause-alike c =
    ap (λ (old : Value). is_alike old (cell_value c.args.new.now)) (sym (past_get c.args.cells.now c.args.number kept.Nothing (sym c.in-None.ensures)))
