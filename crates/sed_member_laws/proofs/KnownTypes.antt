-- Types that are known: each class that one names is there, and what may be a field, a parameter or a result has a
-- form or a kind.
use Rattle.std.proofs.Common.{◌≡◌, ◌<◌, ◌&&◌, ℕ, Bool, true, false, not, is_some, if◌then◌else◌, List, [], ◌∷◌, Option, Some, None, refl}
use Rattle.std.specs.Option.{option_and_then, option_map_or, option_or}
use Rattle.sed_value.specs.declared.slot_type.Primitive.{Primitive}
use Rattle.sed_units.specs.declared.leaves.Base.{Base}
use Rattle.sed_units.specs.declared.leaves.Base.TheVariants as base
use Rattle.sed_units.specs.declared.leaves.Ident.{Ident}
use Rattle.sed_units.specs.declared.leaves.Size.{Size}
use Rattle.sed_units.specs.declared.leaves.Size.TheVariants.{Parens, Brackets}
use Rattle.sed_units.specs.declared.leaves.TypeName.{TypeName}
use Rattle.sed_units.specs.declared.leaves.TypeRef.{TypeRef}
use Rattle.sed_classes.specs.declared.kit_units.KitUnits.{KitUnits}
use Rattle.sed_classes.specs.declared.source_type.SourceType.{SourceType}
use Rattle.sed_classes.specs.declared.source_type.SourceType.TheVariants as type
use Rattle.sed_classes.specs.Declarations.{all_classes}
use Rattle.sed_classes.specs.Names.{class_among, class_in, class_in_named, class_named, class_of_kit, class_of_name, depends_of, is_buffer_name, is_named, is_text_name, kit_numbered, may_name, plain_class}
use Rattle.sed_classes.specs.NameRules.{is_without_class, name_without_class, base_type_without_class, type_without_class}
use Rattle.sed_classes.specs.Types.{array_type, based_type, buffer_type, is_unknown, named_type, object_type, primitive_type, size_within, text_type, type_of, void_type}
use Rattle.sed_program.specs.Ordered.{places}
use Rattle.sed_member_laws.proofs.Empty.{not_broken}
use Rattle.sed_member_laws.proofs.Flat.{some_is}
use Rattle.sed_program.proofs.OrderLists.{position_within}

-- ---- a class that a name has is there

abbrev IsThere : List KitUnits → Option ℕ → Type 0
IsThere units None = Unit {0}
IsThere units (Some c) = c < places units

either : (units : List KitUnits) (a b : Option ℕ) → IsThere units a → IsThere units b → IsThere units (option_or a b)
either units None b p q = q
either units (Some c) b p q = p

placed_there : (units : List KitUnits) (name : List ℕ) (kit : ℕ) → IsThere units (class_in units name kit)
placed_there units name kit = by_found (class_in units name kit) refl
  where
    by_found : (o : Option ℕ) → class_in units name kit ≡ o → IsThere units o
    by_found None e = tt
    by_found (Some c) e = position_within (is_named name kit) (all_classes units) c e

named_there : (units : List KitUnits) (name kit : List ℕ) → IsThere units (class_in_named units name kit)
named_there units name kit = by_kit (kit_numbered units kit)
  where
    by_kit : (o : Option ℕ) → IsThere units (option_and_then (class_in units name) o)
    by_kit None = tt
    by_kit (Some n) = placed_there units name n

among_there : (units : List KitUnits) (name : List ℕ) (kits : List (List ℕ)) →
    IsThere units (class_among units name kits)
among_there units name [] = placed_there units name 0
among_there units name (kit ∷ kits) =
    either units (class_in_named units name kit) (class_among units name kits) (named_there units name kit)
    (among_there units name kits)

plain_there : (units : List KitUnits) (kit : ℕ) (name : List ℕ) → IsThere units (plain_class units kit name)
plain_there units kit name =
    either
    units
    (class_in units name kit)
    (class_among units name (depends_of units kit))
    (placed_there units name kit)
    (among_there units name (depends_of units kit))

kit_there : (units : List KitUnits) (kit : ℕ) (other name : List ℕ) → IsThere units (class_of_kit units kit other name)
kit_there units kit other name = by_test (may_name units kit other)
  where
    by_test : (b : Bool) → IsThere units (if b then class_in_named units name other else None)
    by_test true = named_there units name other
    by_test false = tt

name_there : (units : List KitUnits) (kit : ℕ) (o : Option Ident) (name : List ℕ) →
    IsThere units (class_named units kit o name)
name_there units kit None name = plain_there units kit name
name_there units kit (Some other) name = kit_there units kit other.bytes name

there_is : (units : List KitUnits) (o : Option ℕ) (c : ℕ) → IsThere units o → o ≡ Some c → c < places units
there_is units None c p e = cc
there_is units (Some b) c p e = let same : b ≡ c = some_is b c e in rw same at p

pub class_there : (units : List KitUnits) (kit : ℕ) (name : TypeName) (c : ℕ) → class_of_name units kit name ≡ Some c →
    c < places units
class_there units kit name c e =
    there_is units (class_named units kit name.kit name.id.bytes) c (name_there units kit name.kit name.id.bytes) e

-- ---- the types of sources

-- what is said of types of objects and of unknown ones
abbrev Said : List KitUnits → SourceType → Type 0
Said units (type.Object c) = c < places units
Said units t = Unit {0}

-- holds of a type that is no object and not unknown
abbrev Plain : SourceType → Type 0
Plain (type.Object c) = ⊥
Plain type.Unknown = ⊥
Plain t = Unit {0}

plain_said : (units : List KitUnits) (t : SourceType) → Plain t → Said units t × (is_unknown t ≡ false)
plain_said units type.Void p = (tt, refl)
plain_said units (type.Prim q) p = (tt, refl)
plain_said units type.Text p = (tt, refl)
plain_said units (type.SizedText n) p = (tt, refl)
plain_said units (type.Buf n) p = (tt, refl)
plain_said units (type.Array q n) p = (tt, refl)
plain_said units (type.Object c) p = absurd p
plain_said units type.Unknown p = absurd p
plain_said units type.Outside p = (tt, refl)

array_plain : (p : Primitive) (o : Option ℕ) → Plain (array_type p o)
array_plain p None = tt
array_plain p (Some n) = tt

primitive_plain : (p : Primitive) (size : Option Size) → Plain (primitive_type p size)
primitive_plain p None = tt
primitive_plain p (Some (Brackets l)) = array_plain p (size_within 65535 l)
primitive_plain p (Some (Parens l)) = tt

void_plain : (size : Option Size) → Plain (void_type size)
void_plain None = tt
void_plain (Some s) = tt

text_plain : (size : Option Size) → Plain (text_type size)
text_plain None = tt
text_plain (Some (Parens l)) = by_size (size_within 255 l)
  where
    by_size : (o : Option ℕ) → Plain (option_map_or type.SizedText o type.Outside)
    by_size None = tt
    by_size (Some n) = tt
text_plain (Some (Brackets l)) = tt

buffer_plain : (size : Option Size) → Plain (buffer_type size)
buffer_plain None = tt
buffer_plain (Some (Parens l)) = by_size (size_within 128 l)
  where
    by_size : (o : Option ℕ) → Plain (option_map_or type.Buf o type.Outside)
    by_size None = tt
    by_size (Some n) = tt
buffer_plain (Some (Brackets l)) = tt

object_said : (units : List KitUnits) (o : Option ℕ) (size : Option Size) → IsThere units o →
    Said units (object_type o size)
object_said units None size p = tt
object_said units (Some c) None p = p
object_said units (Some c) (Some s) p = tt

object_known : (o : Option ℕ) (size : Option Size) → is_some o ≡ true → is_unknown (object_type o size) ≡ false
object_known None size e = cc
object_known (Some c) None e = refl
object_known (Some c) (Some s) e = refl

named_said : (units : List KitUnits) (kit : ℕ) (name : TypeName) (size : Option Size) →
    Said units (named_type units kit name size)
named_said units kit name size = by_tests (is_text_name name) (is_buffer_name name)
  where
    by_tests : (a b : Bool) → Said units (if a then text_type size else if b then buffer_type size
        else object_type (class_of_name units kit name) size)
    by_tests true b = (plain_said units (text_type size) (text_plain size)).0
    by_tests false true = (plain_said units (buffer_type size) (buffer_plain size)).0
    by_tests false false =
        object_said units (class_of_name units kit name) size (name_there units kit name.kit name.id.bytes)

named_known : (units : List KitUnits) (kit : ℕ) (name : TypeName) (size : Option Size) →
    name_without_class units kit name ≡ [] →
    is_unknown (named_type units kit name size) ≡ false
named_known units kit name size e =
    by_tests (is_text_name name) (is_buffer_name name) (is_some (class_of_name units kit name)) refl (not_broken
    (is_without_class units kit name) 1 name.at e)
  where
    by_tests : (a b c : Bool) → is_some (class_of_name units kit name) ≡ c → (not a && not b && not c) ≡ false →
        is_unknown (if a then text_type size else if b then buffer_type size
        else object_type (class_of_name units kit name) size) ≡ false
    by_tests true b c s h = (plain_said units (text_type size) (text_plain size)).1
    by_tests false true c s h = (plain_said units (buffer_type size) (buffer_plain size)).1
    by_tests false false true s h = object_known (class_of_name units kit name) size s
    by_tests false false false s h = cc

pub type_said : (units : List KitUnits) (kit : ℕ) (b : Base) (size : Option Size) →
    Said units (based_type units kit b size)
type_said units kit (base.Primitive p) size = (plain_said units (primitive_type p size) (primitive_plain p size)).0
type_said units kit base.Void size = (plain_said units (void_type size) (void_plain size)).0
type_said units kit (base.Named name) size = named_said units kit name size

type_known : (units : List KitUnits) (kit : ℕ) (b : Base) (size : Option Size) →
    base_type_without_class units kit b ≡ [] →
    is_unknown (based_type units kit b size) ≡ false
type_known units kit (base.Primitive p) size e = (plain_said units (primitive_type p size) (primitive_plain p size)).1
type_known units kit base.Void size e = (plain_said units (void_type size) (void_plain size)).1
type_known units kit (base.Named name) size e = named_known units kit name size e

said_there : (units : List KitUnits) (t : SourceType) (c : ℕ) → Said units t → t ≡ type.Object c → c < places units
said_there units type.Void c p e = cc
said_there units (type.Prim q) c p e = cc
said_there units type.Text c p e = cc
said_there units (type.SizedText n) c p e = cc
said_there units (type.Buf n) c p e = cc
said_there units (type.Array q n) c p e = cc
said_there units (type.Object b) c p e = let same : b ≡ c = cc in rw same at p
said_there units type.Unknown c p e = cc
said_there units type.Outside c p e = cc

pub object_there : (units : List KitUnits) (kit : ℕ) (t : TypeRef) (c : ℕ) → type_of units kit t ≡ type.Object c →
    c < places units
object_there units kit t c e = said_there units (type_of units kit t) c (type_said units kit t.base t.size) e

pub is_known : (units : List KitUnits) (kit : ℕ) (t : TypeRef) → type_without_class units kit t ≡ [] →
    is_unknown (type_of units kit t) ≡ false
is_known units kit t e = type_known units kit t.base t.size e
