-- The tree of a statement.
use Rattle.std.specs.Prelude.{ℕ, List, Option, Some, None}
use Rattle.sed_units.specs.Tree.{Tree, Absent, Part, row, optional}
use Rattle.sed_units.specs.declared.label.Label.TheVariants as label
use Rattle.sed_units.specs.declared.statements.Form.{Form}
use Rattle.sed_units.specs.declared.statements.Form.TheVariants as form
use Rattle.sed_units.specs.declared.statements.Local.{Local}
use Rattle.sed_units.specs.declared.statements.ForHead.{ForHead}
use Rattle.sed_units.specs.declared.statements.ForFirst.{ForFirst}
use Rattle.sed_units.specs.declared.statements.ForFirst.TheVariants as first

abbrev pub local_tree : Local → Tree
local_tree l = Part (label.Local l.at l.kind l.name) (optional l.value) Absent

abbrev pub first_tree : ForFirst → Tree
first_tree first.Nothing = Absent
first_tree (first.Local l) = local_tree l
first_tree (first.Evaluate e) = e

abbrev pub for_tree : ℕ → ForHead → Tree → Tree
for_tree at head s =
    Part (label.For at) (Part label.Both (first_tree head.first) (optional head.condition))
    (Part label.Both (optional head.last) s)

abbrev pub form_tree : ℕ → Form → Tree
form_tree at (form.Block ss) = Part (label.Block at) (row ss.items) Absent
form_tree at form.Empty = Part (label.Empty at) Absent Absent
form_tree at (form.If c s) = Part (label.If at) c (Part label.Both s.value Absent)
form_tree at (form.IfElse c s t) = Part (label.If at) c (Part label.Both s.value t.value)
form_tree at (form.While c s) = Part (label.While at) c s.value
form_tree at (form.DoWhile s c) = Part (label.Do at) s.value c
form_tree at (form.For head s) = for_tree at head s.value
form_tree at (form.Switch e cs) = Part (label.Switch at) e (row cs.items)
form_tree at form.Break = Part (label.Break at) Absent Absent
form_tree at form.Continue = Part (label.Continue at) Absent Absent
form_tree at (form.Return e) = Part (label.Return at) (optional e) Absent
form_tree at (form.Local l) = local_tree l
form_tree at (form.Evaluate e) = Part (label.Evaluate at) e Absent

-- a label of a `switch`, with the statements behind it
abbrev pub case_tree : ℕ → Option Tree → List Tree → Tree
case_tree at None body = Part (label.Default at) (row body) Absent
case_tree at (Some e) body = Part (label.Case at) e (row body)
