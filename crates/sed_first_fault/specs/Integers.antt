-- Integers above the bounds of their forms. What stands in an expression is judged with it. The others are here:
-- values of facets, initial values, and the sizes of types.
use Rattle.std.specs.Prelude.{ℕ, Bool, false, is_none, List, [], ◌++◌, Option, Some, None}
use Rattle.std.specs.List.{flat_map}
use Rattle.sed_units.specs.declared.leaves.Facet.{Facet}
use Rattle.sed_units.specs.declared.leaves.Init.{Init}
use Rattle.sed_units.specs.declared.leaves.InitValue.{InitValue}
use Rattle.sed_units.specs.declared.leaves.InitValue.TheVariants as init
use Rattle.sed_units.specs.declared.leaves.Literal.{Literal}
use Rattle.sed_units.specs.declared.leaves.LiteralKind.{LiteralKind}
use Rattle.sed_units.specs.declared.leaves.LiteralKind.TheVariants as literal
use Rattle.sed_units.specs.declared.leaves.Param.{Param}
use Rattle.sed_units.specs.declared.leaves.Size.{Size}
use Rattle.sed_units.specs.declared.leaves.Size.TheVariants.{Parens, Brackets}
use Rattle.sed_units.specs.declared.leaves.TypeRef.{TypeRef}
use Rattle.sed_units.specs.declared.classes.Class.{Class}
use Rattle.sed_units.specs.declared.classes.Member.{Member}
use Rattle.sed_faults.specs.declared.fault.Fault.{Fault}
use Rattle.sed_faults.specs.Faults.{broken_if}
use Rattle.sed_names.specs.Spelled.{integer_of}
use Rattle.sed_classes.specs.Members.{form_params, form_value}

-- an integer literal that spells no number
abbrev pub is_above_bound : LiteralKind → List ℕ → Bool
is_above_bound literal.Integer bytes = is_none (integer_of bytes)
is_above_bound literal.Character bytes = false
is_above_bound literal.Text bytes = false
is_above_bound literal.True bytes = false
is_above_bound literal.False bytes = false
is_above_bound literal.Null bytes = false

abbrev pub too_large : Literal → List Fault
too_large l = broken_if (is_above_bound l.kind l.bytes) 21 l.at

-- ---- facets

abbrev pub too_large_value : Option Literal → List Fault
too_large_value None = []
too_large_value (Some l) = too_large l

abbrev pub too_large_in_facets : List Facet → List Fault
too_large_in_facets facets = flat_map (λ (f : Facet). too_large_value f.value) facets

-- ---- types

abbrev pub too_large_size : Option Size → List Fault
too_large_size None = []
too_large_size (Some (Parens l)) = too_large l
too_large_size (Some (Brackets l)) = too_large l

abbrev pub too_large_in_type : TypeRef → List Fault
too_large_in_type t = too_large_size t.size

-- ---- initial values

abbrev pub too_large_in_value : InitValue → List Fault
too_large_in_value (init.Literal l) = too_large l
too_large_in_value (init.Minus l) = too_large l
too_large_in_value (init.Name id) = []

abbrev pub too_large_in_init : Option Init → List Fault
too_large_in_init None = []
too_large_in_init (Some i) = too_large_in_value i.value

-- ---- declarations

abbrev pub too_large_in_params : List Param → List Fault
too_large_in_params params = flat_map (λ (p : Param). too_large_in_type p.kind) params

-- those of a member, without its body
abbrev pub too_large_in_member : Member → List Fault
too_large_in_member m =
    too_large_in_facets m.facets ++ too_large_in_type m.kind ++ too_large_in_init (form_value m.form)
    ++ too_large_in_params (form_params m.form)

-- rule 21 in all that a class declares
abbrev pub too_large_in_class : Class → List Fault
too_large_in_class c = too_large_in_facets c.facets ++ flat_map too_large_in_member c.members
