-- What stands in the bodies of methods: nodes and texts.
use Rattle.std.specs.Prelude.{List, [], ◌∷◌, ◌++◌, Option, Some, None}
use Rattle.std.specs.List.{flat_map, filter_map}
use Rattle.sed_units.specs.declared.label.Label.{Label}
use Rattle.sed_units.specs.declared.label.Label.TheVariants as label
use Rattle.sed_units.specs.declared.leaves.Literal.{Literal}
use Rattle.sed_units.specs.declared.leaves.LiteralKind.{LiteralKind}
use Rattle.sed_units.specs.declared.leaves.LiteralKind.TheVariants as literal
use Rattle.sed_units.specs.declared.classes.Member.{Member}
use Rattle.sed_units.specs.Tree.{Tree, Absent, Part}
use Rattle.sed_classes.specs.Members.{form_body}

-- the nodes of a tree, each before those below it: in the order of the text, but that an operator stands before its
-- operands
abbrev pub nodes_in : Tree → List Label
nodes_in Absent = []
nodes_in (Part l a b) = l ∷ nodes_in a ++ nodes_in b

abbrev pub body_nodes : Option (List Tree) → List Label
body_nodes None = []
body_nodes (Some trees) = flat_map nodes_in trees

-- the nodes of a member's body
abbrev pub nodes_of : Member → List Label
nodes_of m = body_nodes (form_body m.form)

abbrev pub text_literal : LiteralKind → Literal → Option Literal
text_literal literal.Text l = Some l
text_literal kind l = None

abbrev pub text_in : Label → Option Literal
text_in (label.Literal l) = text_literal l.kind l
text_in l = None

-- the text literals of a member's body, in the order of the text
abbrev pub texts_of : Member → List Literal
texts_of m = filter_map text_in (nodes_of m)
