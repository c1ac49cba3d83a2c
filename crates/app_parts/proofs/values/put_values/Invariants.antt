use Rattle.std.proofs.Common.{◌+◌, ◌≤◌, length, drop}
use Rattle.sed_typed.specs.Classes.{slots}
use Rattle.comp_tree.specs.Application.{value_at}
use Rattle.comp_tree.specs.Held.{components_of}
use Rattle.app_parts.specs.Values.{is_told}
use Rattle.app_parts.proofs.SoFar.{SoFar}
use Rattle.app_parts.proofs.ValueLemmas.{sizes_from, values_from}
use Rattle.app_parts.proofs.values.put_values.Given as goal

-- the values before this slot are put, and with the sizes of the others take no more than those of all slots
abbrev pub invariant-loop-slot : goal.invariant-loop-slot
invariant-loop-slot g l =
    (s : SoFar l.fn.writer l.writer
    (values_from (is_told l.which) (value_at (g.E.Engine.meaning l.tree.engine) (components_of g.E.Engine l.tree).by_id l.id.0) 0 (slots (g.E.Engine.meaning l.tree.engine).schema.classes l.kind.0))
    (values_from (is_told l.which) (value_at (g.E.Engine.meaning l.tree.engine) (components_of g.E.Engine l.tree).by_id l.id.0) l.slot (drop l.slot (slots (g.E.Engine.meaning l.tree.engine).schema.classes l.kind.0))))
    × (length s.front + sizes_from (is_told l.which) (drop l.slot (slots (g.E.Engine.meaning l.tree.engine).schema.classes l.kind.0)) ≤ sizes_from (is_told l.which) (slots (g.E.Engine.meaning l.tree.engine).schema.classes l.kind.0))
