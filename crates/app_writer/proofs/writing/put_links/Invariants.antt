use Rattle.std.proofs.Common.{◌+◌, ◌*◌, ◌≤◌, length, drop}
use Rattle.std.specs.List.{flat_map}
use Rattle.sed_wire.specs.Writing.{room}
use Rattle.comp_tree.specs.Parts.{link_bytes}
use Rattle.app_parts.proofs.SoFar.{SoFar}
use Rattle.app_writer.proofs.writing.put_links.Given as goal

-- the links before this one are put, in six bytes each
abbrev pub invariant-loop-n : goal.invariant-loop-n
invariant-loop-n g l =
    SoFar l.fn.writer l.writer (flat_map link_bytes l.app.links) (flat_map link_bytes (drop l.n l.app.links))
    × (6 * length l.app.links ≤ room l.writer + 6 * l.n)
