use Rattle.std.proofs.Common.{◌+◌, ◌*◌, ◌≤◌, length, drop}
use Rattle.std.specs.List.{flat_map}
use Rattle.sed_wire.specs.Writing.{room}
use Rattle.comp_tree.specs.Edit.{kit_bytes}
use Rattle.app_parts.proofs.SoFar.{SoFar}
use Rattle.app_parts.proofs.kits.put_each_kit.Given as goal

-- the kits before this one are put, in no more than 29 bytes each
abbrev pub invariant-loop-kit : goal.invariant-loop-kit
invariant-loop-kit l =
    (s : SoFar l.fn.writer l.writer (flat_map kit_bytes l.kits) (flat_map kit_bytes (drop l.kit-index l.kits)))
    × (length s.front ≤ 29 * l.kit-index) × (29 * length l.kits ≤ room l.writer + 29 * l.kit-index)
