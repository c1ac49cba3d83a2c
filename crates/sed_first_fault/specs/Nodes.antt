-- What is noted of the nodes of bodies: the texts that are spelled, and where a declaration of a local passes a limit
-- on names or integers first.
use Rattle.std.specs.Prelude.{ℕ, List, [], ◌∷◌, ◌++◌, Option, Some, None}
use Rattle.std.specs.List.{flat_map}
use Rattle.sed_units.specs.declared.label.Label.{Label}
use Rattle.sed_units.specs.declared.label.Label.TheVariants as label
use Rattle.sed_units.specs.declared.leaves.Ident.{Ident}
use Rattle.sed_units.specs.declared.leaves.LiteralKind.{LiteralKind}
use Rattle.sed_units.specs.declared.leaves.LiteralKind.TheVariants as literal
use Rattle.sed_units.specs.declared.leaves.TypeRef.{TypeRef}
use Rattle.sed_units.specs.Tree.{Tree, Absent, Part}
use Rattle.sed_faults.specs.declared.fault.Fault.{Fault}
use Rattle.sed_faults.specs.Faults.{least, lesser}
use Rattle.sed_units.specs.declared.classes.Member.{Member}
use Rattle.sed_classes.specs.Bodies.{nodes_of}
use Rattle.sed_classes.specs.LimitRules.{too_long_name, too_long_in_type}
use Rattle.sed_first_fault.specs.Integers.{too_large_in_type}
use Rattle.sed_first_fault.specs.Texts.{with_literal}

-- ---- what a reader needs

-- The faults of a node as it is spelled: an identifier above 31 characters, or an integer above its bound. Those of
-- expressions are judged with them; here is what stands in the declaration of a local.
abbrev pub spelled_in_node : Label → List Fault
spelled_in_node (label.Local at type name) = too_long_in_type type ++ too_long_name name ++ too_large_in_type type
spelled_in_node l = []

-- those of the body of a member
abbrev pub spelled_faults : Member → List Fault
spelled_faults m = flat_map spelled_in_node (nodes_of m)

-- ---- what is noted on the way

pub record Noted : Type 0 where
  -- the texts so far, each once
  pub texts : List (List ℕ)
  -- the least fault so far
  pub first : Option Fault

-- with a fault that may be there
abbrev pub with_fault : Noted → Option Fault → Noted
with_fault n f = record { texts = n.texts; first = lesser n.first f }

abbrev pub with_name : Noted → Ident → Noted
with_name n id = with_fault n (least (too_long_name id))

abbrev pub with_spelled : Noted → LiteralKind → List ℕ → Noted
with_spelled n literal.Integer bytes = n
with_spelled n literal.Character bytes = n
with_spelled n literal.Text bytes = record { texts = with_literal n.texts bytes; first = n.first }
with_spelled n literal.True bytes = n
with_spelled n literal.False bytes = n
with_spelled n literal.Null bytes = n

-- a type's names
abbrev pub with_type : Noted → TypeRef → Noted
with_type n t = with_fault n (least (too_long_in_type t))

-- and its size
abbrev pub with_size : Noted → TypeRef → Noted
with_size n t = with_fault n (least (too_large_in_type t))

-- with what stands in a node itself
abbrev pub noted : Noted → Label → Noted
noted n (label.Literal l) = with_spelled n l.kind l.bytes
noted n (label.Local at type name) = with_size (with_name (with_type n type) name) type
noted n l = n

-- with what stands in a tree: in the order of the text, but that an operator stands before its operands
abbrev pub noted_in : Noted → Tree → Noted
noted_in n Absent = n
noted_in n (Part l a b) = noted_in (noted_in (noted n l) a) b

-- with what stands in a row of trees
abbrev pub noted_in_all : Noted → List Tree → Noted
noted_in_all n [] = n
noted_in_all n (t ∷ ts) = noted_in_all (noted_in n t) ts

-- and in a body, if there is one
abbrev pub noted_in_body : Noted → Option (List Tree) → Noted
noted_in_body n None = n
noted_in_body n (Some trees) = noted_in_all n trees
