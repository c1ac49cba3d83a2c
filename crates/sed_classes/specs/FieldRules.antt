-- Rules on fields, types of members and initial values. Each gives the faults of a member or a parameter: where it
-- breaks it.
use Rattle.std.specs.Prelude.{ℕ, Bool, true, false, not, ◌==◌, ◌&&◌, ◌||◌, ◌+◌, nat_lt, if◌then◌else◌, List, [], ◌∷◌}
use Rattle.std.specs.Prelude.{◌++◌, filter, length, is_none, Option, Some, None}
use Rattle.std.specs.List.{list_any, flat_map, enumerate_from}
use Rattle.std.specs.Option.{option_map_or}
use Rattle.sed_units.specs.declared.leaves.Init.{Init}
use Rattle.sed_units.specs.declared.leaves.ModifierWord.{ModifierWord}
use Rattle.sed_units.specs.declared.leaves.ModifierWord.TheVariants as word
use Rattle.sed_units.specs.declared.leaves.Param.{Param}
use Rattle.sed_units.specs.declared.classes.Class.{Class}
use Rattle.sed_units.specs.declared.classes.Member.{Member}
use Rattle.sed_classes.specs.declared.kit_units.KitUnits.{KitUnits}
use Rattle.sed_faults.specs.declared.fault.Fault.{Fault}
use Rattle.sed_classes.specs.declared.source_type.SourceType.{SourceType}
use Rattle.sed_classes.specs.declared.source_type.SourceType.TheVariants.{Prim, Buf}
use Rattle.sed_classes.specs.Declarations.{Declaration, class_at}
use Rattle.sed_classes.specs.SysSource.{component_class}
use Rattle.sed_classes.specs.Bases.{is_below}
use Rattle.sed_classes.specs.Types.{type_of, is_unknown, is_storable, is_void, is_field_type}
use Rattle.sed_classes.specs.Members.{has_word, is_abstract_class, is_method, is_property, is_define, is_static}
use Rattle.sed_classes.specs.Members.{overrides, form_params, form_value}
use Rattle.sed_classes.specs.Objects.{is_inline, has_field, inline_class, holds_itself}
use Rattle.sed_classes.specs.Values.{constant_of, takes, is_text_below, define_leads_back}
use Rattle.sed_faults.specs.Faults.{broken_if}

-- ---- 9: classes of inline objects

abbrev pub is_abstract_at : List KitUnits → ℕ → Bool
is_abstract_at units class = option_map_or (λ d. is_abstract_class d.class) (class_at units class) false

-- of this class there is no inline object
abbrev pub is_no_object_class : List KitUnits → ℕ → Bool
is_no_object_class units class =
    is_abstract_at units class || is_below units component_class class || not (has_field units class)
    || holds_itself units class

abbrev pub object_not_fit : List KitUnits → ℕ → Member → List Fault
object_not_fit units kit m =
    broken_if (option_map_or (is_no_object_class units) (inline_class units kit m) false) 9 m.at

-- ---- 10: types of members and parameters, and modifiers that go together

-- a field's type that is known, and is none of those of fields
abbrev pub is_no_field : SourceType → Member → Bool
is_no_field t m = not (is_method m) && not (is_property m) && not (is_unknown t) && not (is_field_type (is_inline m) t)

abbrev pub is_no_result : SourceType → Member → Bool
is_no_result t m = is_method m && not (is_unknown t) && not (is_void t) && not (is_storable t)

abbrev pub said_once : ModifierWord → Member → ℕ
said_once w m = if has_word w m.modifiers then 1 else 0

-- how many it says of the words that exclude one another, but for `static inline`
abbrev pub exclusive_count : Member → ℕ
exclusive_count m =
    said_once word.Property m + said_once word.Action m + said_once word.Define m + said_once word.Static m
    + said_once word.Inline m

abbrev pub is_static_inline : Member → Bool
is_static_inline m = is_static m && is_inline m && (exclusive_count m == 2)

-- a method is none of these, and a static one is not virtual
abbrev pub has_no_method_words : Member → Bool
has_no_method_words m =
    has_word word.Property m.modifiers || has_word word.Define m.modifiers || is_inline m
    || (is_static m && (has_word word.Virtual m.modifiers || has_word word.Abstract m.modifiers || overrides m))

abbrev pub have_words_apart : Member → Bool
have_words_apart m =
    (nat_lt 1 (exclusive_count m) && not (is_static_inline m)) || (is_method m && has_no_method_words m)

abbrev pub is_no_member : SourceType → Member → Bool
is_no_member t m = is_no_field t m || is_no_result t m || have_words_apart m

abbrev pub is_not_storable : SourceType → Bool
is_not_storable t = not (is_unknown t) && not (is_storable t)

abbrev pub member_not_fit : List KitUnits → ℕ → Member → List Fault
member_not_fit units kit m = broken_if (is_no_member (type_of units kit m.kind) m) 10 m.at

abbrev pub param_not_fit : List KitUnits → ℕ → Param → List Fault
param_not_fit units kit p = broken_if (is_not_storable (type_of units kit p.kind)) 10 p.at

-- ---- 11: initial values

-- a value that does not go to a primitive, or is too long a text for a Buf
abbrev pub is_no_value_of : List KitUnits → ℕ → Init → SourceType → Bool
is_no_value_of units class init (Prim p) = not (takes p (constant_of units class init))
is_no_value_of units class init (Buf n) = not (is_text_below n (constant_of units class init))
is_no_value_of units class init t = false

abbrev pub is_no_value : List KitUnits → ℕ → ℕ → Member → Init → Bool
is_no_value units class kit m init =
    is_inline m || is_no_value_of units class init (type_of units kit m.kind)
    || (is_define m && define_leads_back units class m)

abbrev pub value_unfit : List KitUnits → ℕ → ℕ → Member → Option Init → List Fault
value_unfit units class kit m None = broken_if (is_define m) 11 m.at
value_unfit units class kit m (Some init) = broken_if (is_no_value units class kit m init) 11 init.at

abbrev pub value_not_fit : List KitUnits → ℕ → ℕ → Member → List Fault
value_not_fit units class kit m = value_unfit units class kit m (form_value m.form)
