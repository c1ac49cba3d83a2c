use Rattle.std.proofs.Common.{◌+◌, ◌*◌, ◌≤◌, length, drop}
use Rattle.std.specs.List.{flat_map}
use Rattle.sed_wire.specs.Writing.{room}
use Rattle.comp_tree.specs.Parts.{link_bytes, links_at}
use Rattle.app_parts.proofs.SoFar.{SoFar}
use Rattle.app_parts.proofs.links.put_links_at.Given as goal

-- the links before this one are put, in six bytes each
abbrev pub invariant-loop-n : goal.invariant-loop-n
invariant-loop-n g l =
    (s : SoFar l.fn.writer l.writer (flat_map link_bytes (links_at l.id.0 l.app.links)) (flat_map link_bytes (drop l.n (links_at l.id.0 l.app.links))))
    × (length s.front ≤ 6 * l.n) × (360 ≤ room l.writer + 6 * l.n)
