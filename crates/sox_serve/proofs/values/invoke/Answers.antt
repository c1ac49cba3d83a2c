use Rattle.std.proofs.Common.{refl}
use Rattle.sox_serve.proofs.MarkLemmas.{marks_stay}
use Rattle.sox_serve.proofs.values.invoke.Goals as goal

pub returns-then-is_save-clause-served : goal.returns-then-is_save-clause-served
returns-then-is_save-clause-served g c = c.ask_for_save.ensures c.args.turns c.args.ticks

pub returns-then-is_save-clause-marks : goal.returns-then-is_save-clause-marks
returns-then-is_save-clause-marks g c = marks_stay _ _ _ _ _ _ refl
