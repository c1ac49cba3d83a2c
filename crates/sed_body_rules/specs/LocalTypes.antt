-- What the types of locals and parameters stand for. They are bool, int, long, Str and classes; a byte or a short is
-- read as an int, and nothing keeps one but a field.
use Rattle.std.specs.Prelude.{ℕ, if◌then◌else◌, List, codes, Option, Some, None}
use Rattle.std.specs.Str.{bytes_eq}
use Rattle.sed_value.specs.declared.slot_type.Primitive.{Primitive}
use Rattle.sed_value.specs.declared.slot_type.Primitive.TheVariants as prim
use Rattle.sed_units.specs.declared.leaves.Base.{Base}
use Rattle.sed_units.specs.declared.leaves.Base.TheVariants as base
use Rattle.sed_units.specs.declared.leaves.Ident.{Ident}
use Rattle.sed_units.specs.declared.leaves.Size.{Size}
use Rattle.sed_units.specs.declared.leaves.TypeRef.{TypeRef}
use Rattle.sed_typed.specs.declared.kind.Kind.{Kind}
use Rattle.sed_typed.specs.declared.kind.Kind.TheVariants as kind
use Rattle.sed_typed.specs.declared.number.TypeNo.{TypeNo}
use Rattle.sed_names.specs.Names.{Names}
use Rattle.sed_body_rules.specs.declared.local.TypeMeaning.{TypeMeaning}
use Rattle.sed_body_rules.specs.declared.local.TypeMeaning.TheVariants.{Is, NoClass, Outside}

-- with a size a type is no local's
abbrev pub without_size : Kind → Option Size → TypeMeaning
without_size k None = Is k
without_size k (Some size) = Outside

abbrev pub primitive_type : Primitive → Option Size → TypeMeaning
primitive_type prim.Bool size = without_size kind.Bool size
primitive_type prim.Int size = without_size kind.Int size
primitive_type prim.Long size = without_size kind.Long size
primitive_type p size = Outside

-- a type whose name has no class is unknown, whatever its size
abbrev pub class_type : ℕ → Option TypeNo → Option Size → TypeMeaning
class_type at (Some class) size = without_size (kind.Object class) size
class_type at None size = NoClass at

-- `Str` and `Buf` are words where no kit stands before them
abbrev pub plain_type : Names → ℕ → List ℕ → Option Size → TypeMeaning
plain_type n at name size =
    if bytes_eq name (codes "Str") then without_size kind.Text size
    else if bytes_eq name (codes "Buf") then Outside
    else class_type at (n.class name) size

abbrev pub named_type : Names → ℕ → Option Ident → List ℕ → Option Size → TypeMeaning
named_type n at None name size = plain_type n at name size
named_type n at (Some kit) name size = class_type at (n.class_in kit.bytes name) size

abbrev pub based_type : Names → Base → Option Size → TypeMeaning
based_type n (base.Primitive p) size = primitive_type p size
based_type n base.Void size = Outside
based_type n (base.Named t) size = named_type n t.at t.kit t.id.bytes size

abbrev pub type_meaning : Names → TypeRef → TypeMeaning
type_meaning n t = based_type n t.base t.size

-- ---- the kind of a local

abbrev pub kind_of_meaning : TypeMeaning → Option Kind
kind_of_meaning (Is k) = Some k
kind_of_meaning m = None

-- none where its type has no meaning
abbrev pub local_kind : Names → TypeRef → Option Kind
local_kind n t = kind_of_meaning (type_meaning n t)
