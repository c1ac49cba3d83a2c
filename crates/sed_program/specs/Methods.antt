-- The methods of a program, with their numbers and what a call must know of them.
use Rattle.std.specs.Prelude.{ℕ, ◌+◌, Bool, ◌||◌, if◌then◌else◌, List, filter, length, map, Option, Some, None}
use Rattle.std.specs.List.{enumerate_from, flat_map}
use Rattle.sed_units.specs.declared.leaves.ModifierWord.TheVariants as word
use Rattle.sed_units.specs.declared.classes.Member.{Member}
use Rattle.sed_names.specs.declared.signature.Signature.{Signature}
use Rattle.sed_classes.specs.declared.kit_units.KitUnits.{KitUnits}
use Rattle.sed_classes.specs.Members.{Owned, owned, kit_of, members_of, form_params, has_word, is_method, is_open}
use Rattle.sed_classes.specs.Members.{is_static, overrides}
use Rattle.sed_classes.specs.Schema.{class_order}
use Rattle.sed_program.specs.Fields.{before_class, place_named}
use Rattle.sed_program.specs.Types.{used_param, used_result}

-- the methods that the class at a place itself declares
abbrev pub own_methods : List KitUnits → ℕ → List Member
own_methods units class = filter is_method (members_of units class)

-- the number of a method that the class at a place declares
abbrev pub method_number : List KitUnits → ℕ → List ℕ → ℕ
method_number units class name =
    before_class (λ c. length (own_methods units c)) units class + place_named name (own_methods units class)

-- A method of a program: the number of its class in the schema, and the member that declares it.
pub record MethodAt : Type 0 where
  pub class : ℕ
  pub owned : Owned

abbrev pub methods_in : List KitUnits → ℕ × ℕ → List MethodAt
methods_in units c = map (λ m. record { class = c.0; owned = owned c.1 (kit_of units c.1) m }) (own_methods units c.1)

-- the methods of all classes, in the order of the schema
abbrev pub methods_of : List KitUnits → List MethodAt
methods_of units = flat_map (methods_in units) (enumerate_from 0 (class_order units))

-- declared virtual or abstract, an action, or a method that overrides one
abbrev pub is_virtual : Member → Bool
is_virtual m = is_open m || overrides m

-- what a call must know of a method
abbrev pub signature : List KitUnits → Owned → Signature
signature units o = record {
  number = method_number units o.class o.member.name.bytes;
  is_static = is_static o.member;
  is_abstract = has_word word.Abstract o.member.modifiers;
  params = map (used_param units o.kit o.member) (form_params o.member.form);
  result = used_result units o.kit o.member;
}

abbrev pub signature_of : List KitUnits → Owned → Option Signature
signature_of units o = if is_method o.member then Some (signature units o) else None
