use Rattle.std.proofs.Common.{◌≡◌, drop}
use Rattle.scode_code.specs.TableRules as rules
use Rattle.scode_tables.proofs.known.places_ascend.Given as goal

-- the entries that are left ascend from the least place on exactly where all do
abbrev pub invariant-loop-entry : goal.invariant-loop-entry
invariant-loop-entry l = rules.places_ascend l.least (drop l.entry-index l.entries) ≡ rules.places_ascend 0 l.entries
