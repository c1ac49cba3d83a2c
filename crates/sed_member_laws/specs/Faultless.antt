-- A member of a class that breaks no rule: each rule on members, as a test that fails.
use Rattle.std.specs.Prelude.{ℕ, ◌≡◌, Bool, false, not, ◌&&◌, ◌||◌, List, [], count_by, take, slice_get, Option, Some}
use Rattle.std.specs.List.{list_any}
use Rattle.std.specs.Option.{option_map_or}
use Rattle.sed_units.specs.declared.classes.Member.{Member}
use Rattle.sed_classes.specs.declared.kit_units.KitUnits.{KitUnits}
use Rattle.sed_classes.specs.Declarations.{Declaration, class_at}
use Rattle.sed_classes.specs.Bases.{bases}
use Rattle.sed_classes.specs.Types.{type_of}
use Rattle.sed_classes.specs.Members.{has_name, overrides, is_method, inherits}
use Rattle.sed_classes.specs.Objects.{inline_class}
use Rattle.sed_classes.specs.NameRules.{type_without_class}
use Rattle.sed_classes.specs.MemberRules.{fits_one_of, is_virtual_elsewhere, is_abstract_elsewhere, has_wrong_body}
use Rattle.sed_classes.specs.MemberRules.{is_no_slot}
use Rattle.sed_classes.specs.FieldRules.{is_no_object_class, is_no_member, value_not_fit}
use Rattle.sed_classes.specs.LimitRules.{passes, passes_at, new_virtual, one_if}
use Rattle.sed_classes.specs.Faults.{declaration_faults, params_faults}

pub record Keeps (units : List KitUnits) (class : ℕ) (d : Declaration) (i : ℕ) (m : Member) : Type 0 where
  pub known : type_without_class units d.kit m.kind ≡ []
  pub once : list_any (has_name m.name.bytes) (take i d.class.members) ≡ false
  pub inherited : (not (overrides m) && inherits units class m.name.bytes) ≡ false
  pub overriding : (overrides m && not (is_method m && list_any (fits_one_of units d.kit m) (bases units class)))
      ≡ false
  pub runnable :
      (is_method m && (is_virtual_elsewhere units class m || is_abstract_elsewhere d.class m || has_wrong_body m))
      ≡ false
  pub slot : is_no_slot units class d.kit m ≡ false
  pub fit : is_no_member (type_of units d.kit m.kind) m ≡ false
  pub params : params_faults units d.kit m ≡ []
  pub few : passes 60 (count_by is_method (take i d.class.members)) (one_if (is_method m)) ≡ false
  pub virtual : passes_at 255 new_virtual units class d i m ≡ false
  pub object : option_map_or (is_no_object_class units) (inline_class units d.kit m) false ≡ false
  pub value : value_not_fit units class d.kit m ≡ []

-- no class breaks a rule on what it declares, those of `sys` among them
pub record AreFree (units : List KitUnits) : Type 0 where
  pub free : (class : ℕ) (d : Declaration) → class_at units class ≡ Some d → declaration_faults units class d ≡ []
