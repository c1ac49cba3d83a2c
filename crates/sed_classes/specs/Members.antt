-- What the members of a class are, by their words and forms.
use Rattle.std.specs.Prelude.{ℕ, Bool, true, false, not, ◌==◌, ◌&&◌, ◌||◌, List, [], ◌∷◌, map, filter, find, slice_get}
use Rattle.std.specs.Prelude.{Option, Some, None, codes}
use Rattle.std.specs.List.{list_any, filter_map, flat_map}
use Rattle.std.specs.Option.{option_map, option_map_or, option_or}
use Rattle.std.specs.Str.{bytes_eq}
use Rattle.sed_units.specs.declared.leaves.Facet.{Facet}
use Rattle.sed_units.specs.declared.leaves.Init.{Init}
use Rattle.sed_units.specs.declared.leaves.Modifier.{Modifier}
use Rattle.sed_units.specs.declared.leaves.ModifierWord.{ModifierWord}
use Rattle.sed_units.specs.declared.leaves.ModifierWord.TheVariants as word
use Rattle.sed_units.specs.declared.leaves.Param.{Param}
use Rattle.sed_units.specs.declared.classes.Class.{Class}
use Rattle.sed_units.specs.declared.classes.Member.{Member}
use Rattle.sed_units.specs.declared.classes.MemberForm.{MemberForm}
use Rattle.sed_units.specs.declared.classes.MemberForm.TheVariants as form
use Rattle.sed_units.specs.Tree.{Tree}
use Rattle.sed_classes.specs.declared.kit_units.KitUnits.{KitUnits}
use Rattle.sed_classes.specs.Declarations.{Declaration, class_at}
use Rattle.sed_classes.specs.Bases.{lineage, bases}

-- ---- words

abbrev pub word_number : ModifierWord → ℕ
word_number word.Public = 0
word_number word.Private = 1
word_number word.Protected = 2
word_number word.Internal = 3
word_number word.Abstract = 4
word_number word.Final = 5
word_number word.Static = 6
word_number word.Virtual = 7
word_number word.Override = 8
word_number word.Inline = 9
word_number word.Define = 10
word_number word.Property = 11
word_number word.Action = 12

-- a word is among the modifiers
abbrev pub has_word : ModifierWord → List Modifier → Bool
has_word w modifiers = list_any (λ m. word_number m.word == word_number w) modifiers

abbrev pub is_abstract_class : Class → Bool
is_abstract_class c = has_word word.Abstract c.modifiers

-- ---- forms

abbrev pub form_is_method : MemberForm → Bool
form_is_method (form.Method params body) = true
form_is_method (form.Field value) = false

abbrev pub form_params : MemberForm → List Param
form_params (form.Method params body) = params
form_params (form.Field value) = []

abbrev pub form_body : MemberForm → Option (List Tree)
form_body (form.Method params body) = body
form_body (form.Field value) = None

abbrev pub form_value : MemberForm → Option Init
form_value (form.Method params body) = None
form_value (form.Field value) = value

abbrev pub is_method : Member → Bool
is_method m = form_is_method m.form

abbrev pub is_property : Member → Bool
is_property m = not (is_method m) && has_word word.Property m.modifiers

-- also a field that is marked so, which breaks a rule
abbrev pub is_action : Member → Bool
is_action m = has_word word.Action m.modifiers

abbrev pub is_define : Member → Bool
is_define m = not (is_method m) && has_word word.Define m.modifiers

abbrev pub is_static : Member → Bool
is_static m = has_word word.Static m.modifiers

-- what each object of a class has a place for: neither a method nor a define nor a static
abbrev pub is_instance_field : Member → Bool
is_instance_field m = not (is_method m) && not (is_define m) && not (is_static m)

abbrev pub is_static_field : Member → Bool
is_static_field m = not (is_method m) && not (is_define m) && is_static m

-- a method that may be overridden, by its own words
abbrev pub is_open : Member → Bool
is_open m =
    is_method m
    && (has_word word.Virtual m.modifiers || has_word word.Abstract m.modifiers || has_word word.Action m.modifiers)

abbrev pub overrides : Member → Bool
overrides m = has_word word.Override m.modifiers

-- `@config`, with whatever value
abbrev pub is_config : List Facet → Bool
is_config facets = list_any (λ f. bytes_eq f.name.bytes (codes "config")) facets

-- ---- members of a class and its bases

abbrev pub members_of : List KitUnits → ℕ → List Member
members_of units class = option_map_or (λ d. d.class.members) (class_at units class) []

abbrev pub has_name : List ℕ → Member → Bool
has_name name m = bytes_eq m.name.bytes name

-- a class itself declares a member of this name
abbrev pub declares : List KitUnits → List ℕ → ℕ → Bool
declares units name class = list_any (has_name name) (members_of units class)

-- a base of the class does
abbrev pub inherits : List KitUnits → ℕ → List ℕ → Bool
inherits units class name = list_any (declares units name) (bases units class)

-- A member, with the place of the class that declares it and the number of that class's kit.
pub record Owned : Type 0 where
  pub class : ℕ
  pub kit : ℕ
  pub member : Member

abbrev pub owned : ℕ → ℕ → Member → Owned
owned class kit m = record { class = class; kit = kit; member = m }

-- the number of the kit of the class at a place
abbrev pub kit_of : List KitUnits → ℕ → ℕ
kit_of units class = option_map_or (λ d. d.kit) (class_at units class) 0

-- the first member of a name that a class itself declares
abbrev pub own_named : List KitUnits → List ℕ → ℕ → Option Owned
own_named units name class =
    option_map (owned class (kit_of units class)) (find (has_name name) (members_of units class))

-- that of the first of these classes that declares one
abbrev pub nearest_among : List KitUnits → List ℕ → List ℕ → Option Owned
nearest_among units name [] = None
nearest_among units name (class ∷ classes) = option_or (own_named units name class) (nearest_among units name classes)

-- the member that a name stands for in a class: the nearest one at or above it
abbrev pub nearest : List KitUnits → ℕ → List ℕ → Option Owned
nearest units class name = nearest_among units name (lineage units class)
