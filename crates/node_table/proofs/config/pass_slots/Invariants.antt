use Rattle.std.proofs.Common.{◌≡◌, false, drop}
use Rattle.sed_typed.specs.Classes.{slots}
use Rattle.node_table.specs.Read.{refusal_after, types_in}
use Rattle.node_table.proofs.config.pass_slots.Given as goal

-- what the slots from this one on leave to be refused is what all of them do
abbrev pub invariant-loop-slot : goal.invariant-loop-slot
invariant-loop-slot l =
    refusal_after l.long (types_in (drop l.slot (slots l.schema.classes l.kind.0))) l.reader ≡ refusal_after false (types_in (slots l.schema.classes l.kind.0)) l.bytes
