use Rattle.std.proofs.Common.{◌≡◌, drop}
use Rattle.sed_layout.specs.TableSteps.{named_among}
use Rattle.sed_layout.proofs.tables.named.Given as goal

abbrev pub invariant-loop-number : goal.invariant-loop-number
invariant-loop-number l = named_among l.program (drop l.number-index l.numbers) l.name ≡ named_among l.program l.numbers l.name
