-- What follows of a member of a class that breaks no rule.
use Rattle.std.proofs.Common.{◌≡◌, ℕ, false, not, ◌&&◌, ◌||◌, List, [], ◌++◌, take, slice_get, count_by, Some}
use Rattle.std.specs.List.{list_any, flat_map}
use Rattle.std.specs.Option.{option_map_or}
use Rattle.sed_units.specs.declared.classes.Member.{Member}
use Rattle.sed_faults.specs.Faults.{said_from}
use Rattle.sed_classes.specs.declared.kit_units.KitUnits.{KitUnits}
use Rattle.sed_classes.specs.Declarations.{Declaration}
use Rattle.sed_classes.specs.Bases.{bases}
use Rattle.sed_classes.specs.Types.{type_of}
use Rattle.sed_classes.specs.Members.{has_name, overrides, is_method, inherits, is_abstract_class}
use Rattle.sed_classes.specs.Objects.{inline_class}
use Rattle.sed_classes.specs.NameRules.{type_without_class}
use Rattle.sed_classes.specs.MemberRules.{name_repeated, inherited_name_taken, overrides_nothing, fits_one_of, class_not_runnable, has_abstract_method, is_virtual_elsewhere, is_abstract_elsewhere, has_wrong_body, method_not_runnable, slot_not_fit, is_no_slot}
use Rattle.sed_classes.specs.FieldRules.{is_no_object_class, is_no_member, member_not_fit, object_not_fit, value_not_fit}
use Rattle.sed_classes.specs.LimitRules.{passes, passes_at, new_virtual, one_if, too_many_types, too_many_methods, too_many_virtual, too_many_slots, too_large_config, too_large_runtime, too_much_data, too_many_statics, too_long_in_member, too_long_in_class}
use Rattle.sed_classes.specs.Faults.{declaration_faults, form_faults, count_faults, value_faults, class_form_faults, class_name_faults, member_form_faults, member_name_faults, member_word_faults, params_faults}
use Rattle.sed_member_laws.specs.Faultless.{Keeps}
use Rattle.sed_member_laws.proofs.Empty.{none_left, none_listed, none_right, none_said_first, not_broken}

three_left : {X : Type 0} (xs ys zs : List X) → (xs ++ ys) ++ zs ≡ [] → xs ≡ []
three_left xs ys zs e = none_left xs ys (none_left (xs ++ ys) zs e)

three_mid : {X : Type 0} (xs ys zs : List X) → (xs ++ ys) ++ zs ≡ [] → ys ≡ []
three_mid xs ys zs e = none_right xs ys (none_left (xs ++ ys) zs e)

pub form_none : (units : List KitUnits) (class : ℕ) (d : Declaration) → declaration_faults units class d ≡ [] →
    form_faults units class d ≡ []
form_none units class d e = three_left (form_faults units class d) (count_faults units class d)
    (value_faults units class d) e

pub count_none : (units : List KitUnits) (class : ℕ) (d : Declaration) → declaration_faults units class d ≡ [] →
    count_faults units class d ≡ []
count_none units class d e = three_mid (form_faults units class d) (count_faults units class d)
    (value_faults units class d) e

pub value_none : (units : List KitUnits) (class : ℕ) (d : Declaration) → declaration_faults units class d ≡ [] →
    value_faults units class d ≡ []
value_none units class d e = none_right (form_faults units class d
    ++ count_faults units class d) (value_faults units class d) e

-- a class that is not abstract has no abstract method
pub runnable : (units : List KitUnits) (class : ℕ) (d : Declaration) → declaration_faults units class d ≡ [] →
    (not (is_abstract_class d.class) && has_abstract_method units class) ≡ false
runnable units class d e =
    not_broken
    (not (is_abstract_class d.class) && has_abstract_method units class)
    7
    d.class.at
    (three_mid
    (class_name_faults units class d)
    (class_not_runnable units class d)
    (too_many_types d)
    (none_left
    (class_name_faults units class d ++ class_not_runnable units class d ++ too_many_types d)
    (too_long_in_class d.class)
    (none_left
    (class_form_faults units class d)
    (said_from (member_form_faults units class d) 0 d.class.members)
    (form_none units class d e))))

-- ---- members

member_none : (units : List KitUnits) (class : ℕ) (d : Declaration) (i : ℕ) (m : Member) →
    declaration_faults units class d ≡ [] →
    slice_get d.class.members i ≡ Some m → member_form_faults units class d i m ≡ []
member_none units class d i m e h =
    none_said_first
    (member_form_faults units class d)
    d.class.members
    i
    m
    (none_right (class_form_faults units class d) (said_from (member_form_faults units class d) 0 d.class.members)
    (form_none units class d e))
    h

name_none : (units : List KitUnits) (class : ℕ) (d : Declaration) (i : ℕ) (m : Member) →
    member_form_faults units class d i m ≡ [] →
    member_name_faults units class d i m ≡ []
name_none units class d i m e =
    three_left (member_name_faults units class d i m) (member_word_faults units class d m)
    (params_faults units d.kit m) e

word_none : (units : List KitUnits) (class : ℕ) (d : Declaration) (i : ℕ) (m : Member) →
    member_form_faults units class d i m ≡ [] →
    method_not_runnable units class d m ++ slot_not_fit units class d.kit m ++ member_not_fit units d.kit m ≡ []
word_none units class d i m e =
    none_left
    (method_not_runnable units class d m ++ slot_not_fit units class d.kit m ++ member_not_fit units d.kit m)
    (too_long_in_member m)
    (three_mid (member_name_faults units class d i m) (member_word_faults units class d m)
    (params_faults units d.kit m) e)

front_none : (units : List KitUnits) (class : ℕ) (d : Declaration) (i : ℕ) (m : Member) →
    member_form_faults units class d i m ≡ [] →
    type_without_class units d.kit m.kind ++ name_repeated d i m ++ inherited_name_taken units class m ≡ []
front_none units class d i m e =
    none_left
    (type_without_class units d.kit m.kind ++ name_repeated d i m ++ inherited_name_taken units class m)
    (overrides_nothing units class d.kit m)
    (name_none units class d i m e)

-- ---- counts

few_none : (units : List KitUnits) (class : ℕ) (d : Declaration) → count_faults units class d ≡ [] →
    said_from (too_many_methods d) 0 d.class.members ++ said_from (too_many_virtual units class d) 0 d.class.members
    ≡ []
few_none units class d e =
    three_left
    (said_from (too_many_methods d) 0 d.class.members ++ said_from (too_many_virtual units class d) 0 d.class.members)
    (said_from (too_many_slots units class d) 0 d.class.members)
    (said_from (too_large_config units class d) 0 d.class.members)
    (none_left
    (said_from (too_many_methods d) 0 d.class.members
    ++ said_from (too_many_virtual units class d) 0 d.class.members
    ++ said_from (too_many_slots units class d) 0 d.class.members
    ++ said_from (too_large_config units class d) 0 d.class.members)
    (said_from (too_large_runtime units class d) 0 d.class.members)
    e)

listed_none : (units : List KitUnits) (class : ℕ) (d : Declaration) → value_faults units class d ≡ [] →
    flat_map (object_not_fit units d.kit) d.class.members ++ flat_map (value_not_fit units class d.kit) d.class.members
    ≡ []
listed_none units class d e =
    three_left
    (flat_map (object_not_fit units d.kit) d.class.members
    ++ flat_map (value_not_fit units class d.kit) d.class.members)
    (said_from (too_much_data units class d) 0 d.class.members)
    (said_from (too_many_statics units class d) 0 d.class.members)
    e

-- ---- all of a member

pub kept : (units : List KitUnits) (class : ℕ) (d : Declaration) (i : ℕ) (m : Member) →
    declaration_faults units class d ≡ [] →
    slice_get d.class.members i ≡ Some m → Keeps units class d i m
kept units class d i m e h =
    let form : member_form_faults units class d i m ≡ [] = member_none units class d i m e h in
    let counts : count_faults units class d ≡ [] = count_none units class d e in
    let values : value_faults units class d ≡ [] = value_none units class d e in
    record {
      known =
          three_left
          (type_without_class units d.kit m.kind)
          (name_repeated d i m)
          (inherited_name_taken units class m)
          (front_none units class d i m form);
      once =
          not_broken
          (list_any (has_name m.name.bytes) (take i d.class.members))
          4
          m.at
          (three_mid
          (type_without_class units d.kit m.kind)
          (name_repeated d i m)
          (inherited_name_taken units class m)
          (front_none units class d i m form));
      inherited =
          not_broken
          (not (overrides m) && inherits units class m.name.bytes)
          5
          m.at
          (none_right
          (type_without_class units d.kit m.kind ++ name_repeated d i m)
          (inherited_name_taken units class m)
          (front_none units class d i m form));
      overriding =
          not_broken
          (overrides m && not (is_method m && list_any (fits_one_of units d.kit m) (bases units class)))
          6
          m.at
          (none_right
          (type_without_class units d.kit m.kind ++ name_repeated d i m ++ inherited_name_taken units class m)
          (overrides_nothing units class d.kit m)
          (name_none units class d i m form));
      runnable =
          not_broken
          (is_method m && (is_virtual_elsewhere units class m || is_abstract_elsewhere d.class m || has_wrong_body m))
          7
          m.at
          (three_left
          (method_not_runnable units class d m)
          (slot_not_fit units class d.kit m)
          (member_not_fit units d.kit m)
          (word_none units class d i m form));
      slot =
          not_broken
          (is_no_slot units class d.kit m)
          8
          m.at
          (three_mid
          (method_not_runnable units class d m)
          (slot_not_fit units class d.kit m)
          (member_not_fit units d.kit m)
          (word_none units class d i m form));
      fit =
          not_broken
          (is_no_member (type_of units d.kit m.kind) m)
          10
          m.at
          (none_right
          (method_not_runnable units class d m ++ slot_not_fit units class d.kit m)
          (member_not_fit units d.kit m)
          (word_none units class d i m form));
      params =
          none_right
          (member_name_faults units class d i m ++ member_word_faults units class d m)
          (params_faults units d.kit m)
          form;
      few =
          not_broken
          (passes 60 (count_by is_method (take i d.class.members)) (one_if (is_method m)))
          22
          m.at
          (none_said_first
          (too_many_methods d)
          d.class.members
          i
          m
          (none_left
          (said_from (too_many_methods d) 0 d.class.members)
          (said_from (too_many_virtual units class d) 0 d.class.members)
          (few_none units class d counts))
          h);
      virtual =
          not_broken
          (passes_at 255 new_virtual units class d i m)
          22
          m.at
          (none_said_first
          (too_many_virtual units class d)
          d.class.members
          i
          m
          (none_right
          (said_from (too_many_methods d) 0 d.class.members)
          (said_from (too_many_virtual units class d) 0 d.class.members)
          (few_none units class d counts))
          h);
      object =
          not_broken
          (option_map_or (is_no_object_class units) (inline_class units d.kit m) false)
          9
          m.at
          (none_listed
          (object_not_fit units d.kit)
          d.class.members
          i
          m
          (none_left
          (flat_map (object_not_fit units d.kit) d.class.members)
          (flat_map (value_not_fit units class d.kit) d.class.members)
          (listed_none units class d values))
          h);
      value =
          none_listed
          (value_not_fit units class d.kit)
          d.class.members
          i
          m
          (none_right
          (flat_map (object_not_fit units d.kit) d.class.members)
          (flat_map (value_not_fit units class d.kit) d.class.members)
          (listed_none units class d values))
          h;
    }
