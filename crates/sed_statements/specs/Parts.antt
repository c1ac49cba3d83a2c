-- Where an expression stands in a statement. A part that may be missing is one, or nothing.
use Rattle.std.specs.Prelude.{Bool, true, false}
use Rattle.sed_units.specs.Tree.{Tree, Absent, Part}
use Rattle.sed_units.specs.declared.label.Label.{Label}
use Rattle.sed_units.specs.declared.label.Label.TheVariants as label

abbrev pub is_expression_label : Label → Bool
is_expression_label (label.Literal l) = true
is_expression_label (label.This at) = true
is_expression_label (label.Super at id) = true
is_expression_label (label.Name id) = true
is_expression_label (label.Of kit id) = true
is_expression_label (label.Call id) = true
is_expression_label (label.Paren at) = true
is_expression_label (label.Prefix at op) = true
is_expression_label (label.Cast at kind) = true
is_expression_label (label.Chain at) = true
is_expression_label (label.Update at op) = true
is_expression_label (label.Conditional at) = true
is_expression_label (label.Assign at op) = true
is_expression_label l = false

abbrev pub is_expression : Tree → Bool
is_expression Absent = false
is_expression (Part l x y) = is_expression_label l
