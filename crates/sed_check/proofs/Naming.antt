-- What names mean in a kit is what the program has: the classes besides, and the types of parameters.
use Rattle.std.proofs.Common.{◌≡◌, ◌<◌, ◌==◌, ◌&&◌, ℕ, Bool, true, false, if◌then◌else◌, List, [], ◌∷◌, codes, get_or, length, map, Option, Some, None, IfSome, refl, sym, ap, ◌∙◌, subst}
use Rattle.std.specs.Option.{option_and_then, option_map, option_map_or}
use Rattle.std.specs.Str.{bytes_eq}
use Rattle.std.proofs.lemmas.Option.{slice_get-get_or}
use Rattle.sed_value.specs.declared.slot_type.Primitive.{Primitive}
use Rattle.sed_value.specs.declared.slot_type.Primitive.TheVariants as prim
use Rattle.sed_units.specs.declared.leaves.Base.{Base}
use Rattle.sed_units.specs.declared.leaves.Base.TheVariants as base
use Rattle.sed_units.specs.declared.leaves.Ident.{Ident}
use Rattle.sed_units.specs.declared.leaves.Param.{Param}
use Rattle.sed_units.specs.declared.leaves.Size.{Size}
use Rattle.sed_units.specs.declared.leaves.Size.TheVariants.{Parens, Brackets}
use Rattle.sed_typed.specs.declared.kind.Kind.{Kind}
use Rattle.sed_typed.specs.declared.kind.Kind.TheVariants as kind
use Rattle.sed_typed.specs.declared.number.TypeNo.{TypeNo}
use Rattle.sed_typed.specs.declared.program.Program.{Program}
use Rattle.sed_classes.specs.declared.kit_units.KitUnits.{KitUnits}
use Rattle.sed_classes.specs.declared.source_type.SourceType.TheVariants.{Buf, Outside, SizedText}
use Rattle.sed_classes.specs.Names.{class_named, class_of_kit, is_absent, plain_class}
use Rattle.sed_classes.specs.Schema.{class_order, type_number}
use Rattle.sed_classes.specs.Types as types
use Rattle.sed_program.specs.Meaning.{names_of}
use Rattle.sed_program.specs.Types.{kind_of_type, number_of, param_kind, type_no}
use Rattle.sed_body_rules.specs.LocalTypes as locals
use Rattle.sed_body_rules.specs.LocalTypes.{kind_of_meaning, local_kind, without_size}
use Rattle.sed_body_rules.specs.declared.local.TypeMeaning.TheVariants.{Outside as NoType}
use Rattle.sed_program.specs.Ordered.{IsOrdered, places}
use Rattle.sed_program.proofs.OrderLists.{position_within}
use Rattle.sed_check.specs.Means.{Means as MeansIn}
use Rattle.sed_body_laws.specs.Bodies.{Means, context_in}

-- ---- classes

pub class_there : (units : List KitUnits) (program : Program) → IsOrdered units program → (class : Option ℕ) →
    IfSome (option_and_then (number_of units) class) (λ t. t.0 < length program.schema.classes)
class_there units program o None = tt
class_there units program o (Some c) = by_number (type_number units c) refl
  where
    by_number : (k : Option ℕ) → type_number units c ≡ k →
        IfSome (option_map type_no k) (λ t. t.0 < length program.schema.classes)
    by_number None e = tt
    by_number (Some k) e =
        let within : k < length (class_order units) = position_within (λ x. x == c) (class_order units) k e in
        let there : k < places units =
        (o.place_in k (get_or (class_order units) k 0) (slice_get-get_or (class_order units) k 0 within)).0 in
        subst (λ n. k < n) (sym o.infos_len) there

-- all that names mean, where the rest is meant in each body
pub means : (units : List KitUnits) (program : Program) (kit : ℕ) → IsOrdered units program →
    ((class : ℕ) (is_static : Bool) (locals : List Kind) (result : Kind) →
    MeansIn (context_in program class is_static locals result) (names_of units kit)) →
    Means program (names_of units kit)
means units program kit o said class is_static locals result =
    let m = said class is_static locals result in
    record {
      below = m.below;
      base = m.base;
      classes = λ name. class_there units program o (plain_class units kit name);
      classes_in = λ other name. class_there units program o (class_of_kit units kit other name);
      members = m.members;
      methods = m.methods;
      texts = m.texts;
      results = m.results;
      fields = m.fields;
      statics = m.statics;
    }

-- ---- types of parameters

no_array : (units : List KitUnits) (p : Primitive) (n : Option ℕ) → None ≡ kind_of_type units (types.array_type p n)
no_array units p None = refl
no_array units p (Some n) = refl

primitive_same : (units : List KitUnits) (p : Primitive) (s : Option Size) →
    kind_of_meaning (locals.primitive_type p s) ≡ kind_of_type units (types.primitive_type p s)
primitive_same units prim.Bool None = refl
primitive_same units prim.Byte None = refl
primitive_same units prim.Short None = refl
primitive_same units prim.Int None = refl
primitive_same units prim.Long None = refl
primitive_same units prim.Bool (Some (Parens l)) = refl
primitive_same units prim.Byte (Some (Parens l)) = refl
primitive_same units prim.Short (Some (Parens l)) = refl
primitive_same units prim.Int (Some (Parens l)) = refl
primitive_same units prim.Long (Some (Parens l)) = refl
primitive_same units prim.Bool (Some (Brackets l)) = no_array units prim.Bool (types.size_within 65535 l)
primitive_same units prim.Byte (Some (Brackets l)) = no_array units prim.Byte (types.size_within 65535 l)
primitive_same units prim.Short (Some (Brackets l)) = no_array units prim.Short (types.size_within 65535 l)
primitive_same units prim.Int (Some (Brackets l)) = no_array units prim.Int (types.size_within 65535 l)
primitive_same units prim.Long (Some (Brackets l)) = no_array units prim.Long (types.size_within 65535 l)

void_same : (units : List KitUnits) (s : Option Size) → None ≡ kind_of_type units (types.void_type s)
void_same units None = refl
void_same units (Some z) = refl

text_same : (units : List KitUnits) (s : Option Size) →
    kind_of_meaning (without_size kind.Text s) ≡ kind_of_type units (types.text_type s)
text_same units None = refl
text_same units (Some (Brackets l)) = refl
text_same units (Some (Parens l)) = by_size (types.size_within 255 l)
  where
    by_size : (n : Option ℕ) → None ≡ kind_of_type units (option_map_or SizedText n Outside)
    by_size None = refl
    by_size (Some n) = refl

buffer_same : (units : List KitUnits) (s : Option Size) → None ≡ kind_of_type units (types.buffer_type s)
buffer_same units None = refl
buffer_same units (Some (Brackets l)) = refl
buffer_same units (Some (Parens l)) = by_size (types.size_within 128 l)
  where
    by_size : (n : Option ℕ) → None ≡ kind_of_type units (option_map_or Buf n Outside)
    by_size None = refl
    by_size (Some n) = refl

object_same : (units : List KitUnits) (at : ℕ) (class : Option ℕ) (s : Option Size) →
    kind_of_meaning (locals.class_type at (option_and_then (number_of units) class) s)
    ≡ kind_of_type units (types.object_type class s)
object_same units at None s = refl
object_same units at (Some c) None = by_number (number_of units c)
  where
    by_number : (n : Option TypeNo) → kind_of_meaning (locals.class_type at n None) ≡ option_map kind.Object n
    by_number None = refl
    by_number (Some n) = refl
object_same units at (Some c) (Some z) = by_number (number_of units c)
  where
    by_number : (n : Option TypeNo) → kind_of_meaning (locals.class_type at n (Some z)) ≡ None
    by_number None = refl
    by_number (Some n) = refl

plain_same : (units : List KitUnits) (at : ℕ) (a b : Bool) (class : Option ℕ) (s : Option Size) →
    kind_of_meaning (if a then without_size kind.Text s else if b then NoType
    else locals.class_type at (option_and_then (number_of units) class) s)
    ≡ kind_of_type units (if a then types.text_type s else if b then types.buffer_type s else types.object_type class s)
plain_same units at true b class s = text_same units s
plain_same units at false true class s = buffer_same units s
plain_same units at false false class s = object_same units at class s

named_same : (units : List KitUnits) (kit at : ℕ) (k : Option Ident) (name : List ℕ) (s : Option Size) →
    kind_of_meaning (locals.named_type (names_of units kit) at k name s)
    ≡ kind_of_type units (if is_absent k && bytes_eq name (codes "Str") then types.text_type s
    else if is_absent k && bytes_eq name (codes "Buf") then types.buffer_type s
    else types.object_type (class_named units kit k name) s)
named_same units kit at None name s =
    plain_same units at (bytes_eq name (codes "Str")) (bytes_eq name (codes "Buf")) (plain_class units kit name) s
named_same units kit at (Some other) name s =
    object_same units at (class_of_kit units kit other.bytes name) s

based_same : (units : List KitUnits) (kit : ℕ) (b : Base) (s : Option Size) →
    kind_of_meaning (locals.based_type (names_of units kit) b s) ≡ kind_of_type units (types.based_type units kit b s)
based_same units kit (base.Primitive p) s = primitive_same units p s
based_same units kit base.Void s = void_same units s
based_same units kit (base.Named name) s = named_same units kit name.at name.kit name.id.bytes s

pub param_same : (units : List KitUnits) (kit : ℕ) (ps : List Param) →
    map (param_kind units kit) ps ≡ map (λ (p : Param). local_kind (names_of units kit) p.kind) ps
param_same units kit [] = refl
param_same units kit (p ∷ ps) =
    ap (λ k. k ∷ map (param_kind units kit) ps) (sym (based_same units kit p.kind.base p.kind.size))
    ∙ ap (λ ks. local_kind (names_of units kit) p.kind ∷ ks) (param_same units kit ps)
