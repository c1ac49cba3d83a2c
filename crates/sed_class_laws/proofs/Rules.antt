-- What a class that breaks no rule keeps, rule by rule.
use Rattle.std.proofs.Common.{◌≡◌, ◌+◌, ℕ, zero, suc, false, List, [], ◌∷◌, ◌++◌, get_or, slice_get, Some, sym, ap, ◌∙◌, arith}
use Rattle.std.specs.List.{flat_map}
use Rattle.std.specs.Option.{option_map_or}
use Rattle.std.proofs.lemmas.Option.{get_or_from_slice_get, slice_get_within}
use Rattle.sed_units.specs.declared.classes.Member.{Member}
use Rattle.sed_faults.specs.declared.fault.Fault.{Fault}
use Rattle.sed_faults.specs.Faults.{said_from}
use Rattle.sed_classes.specs.declared.kit_units.KitUnits.{KitUnits}
use Rattle.sed_classes.specs.Declarations.{Declaration}
use Rattle.sed_classes.specs.Objects.{inline_class}
use Rattle.sed_classes.specs.NameRules.{base_not_fit, base_without_class, class_name_not_free, type_without_class}
use Rattle.sed_classes.specs.MemberRules.{class_not_runnable, inherited_name_taken, method_not_runnable, name_repeated, overrides_nothing, slot_not_fit}
use Rattle.sed_classes.specs.FieldRules.{is_no_object_class, member_not_fit, object_not_fit, value_not_fit}
use Rattle.sed_classes.specs.LimitRules.{too_large_config, too_large_runtime, too_long_in_class, too_long_in_member, too_many_methods, too_many_slots, too_many_statics, too_many_types, too_many_virtual, too_much_data}
use Rattle.sed_classes.specs.Faults.{class_form_faults, class_name_faults, count_faults, declaration_faults, form_faults, member_form_faults, member_name_faults, member_word_faults, params_faults, value_faults}
use Rattle.sed_outline.proofs.Unbroken.{none_left, none_right, none_said, not_broken}

pub none_each : {X : Type 0} (f : X → List Fault) (xs : List X) (i : ℕ) (x : X) → flat_map f xs ≡ [] →
    slice_get xs i ≡ Some x → f x ≡ []
none_each f [] i x e h = cc
none_each f (y ∷ ys) zero x e h =
    let same : y ≡ x = cc in
    ap f (sym same) ∙ none_left (f y) (flat_map f ys) e
none_each f (y ∷ ys) (suc i) x e h = none_each f ys i x (none_right (f y) (flat_map f ys) e) h

pub none_numbered : {X : Type 0} (said : ℕ → X → List Fault) (xs : List X) (i : ℕ) (x : X) → said_from said 0 xs ≡ [] →
    slice_get xs i ≡ Some x → said i x ≡ []
none_numbered said xs i x e h =
    let at : 0 + i ≡ i = omega arith in
    ap (said i) (sym (get_or_from_slice_get xs i x x h))
    ∙ ap (λ n. said n (get_or xs i x)) (sym at)
    ∙ none_said said 0 xs i x e (slice_get_within xs i x h)

module _ (units : List KitUnits) (class : ℕ) (d : Declaration) (free : declaration_faults units class d ≡ []) where
  forms : form_faults units class d ≡ []
  forms =
      none_left
      (form_faults units class d)
      (count_faults units class d)
      (none_left (form_faults units class d ++ count_faults units class d) (value_faults units class d) free)

  counts : count_faults units class d ≡ []
  counts =
      none_right
      (form_faults units class d)
      (count_faults units class d)
      (none_left (form_faults units class d ++ count_faults units class d) (value_faults units class d) free)

  values : value_faults units class d ≡ []
  values = none_right (form_faults units class d ++ count_faults units class d) (value_faults units class d) free

  class_form : class_form_faults units class d ≡ []
  class_form = none_left (class_form_faults units class d) (said_from
      (member_form_faults units class d) 0 d.class.members) forms

  class_name : class_name_faults units class d ≡ []
  class_name =
      none_left
      (class_name_faults units class d)
      (class_not_runnable units class d)
      (none_left
      (class_name_faults units class d ++ class_not_runnable units class d)
      (too_many_types d)
      (none_left
      (class_name_faults units class d ++ class_not_runnable units class d ++ too_many_types d)
      (too_long_in_class d.class)
      class_form))

  pub base_known : base_without_class units d.kit d.class.base ≡ []
  base_known =
      none_left
      (base_without_class units d.kit d.class.base)
      (class_name_not_free units class d)
      (none_left
      (base_without_class units d.kit d.class.base ++ class_name_not_free units class d)
      (base_not_fit units class d)
      class_name)

  pub name_free : class_name_not_free units class d ≡ []
  name_free =
      none_right
      (base_without_class units d.kit d.class.base)
      (class_name_not_free units class d)
      (none_left
      (base_without_class units d.kit d.class.base ++ class_name_not_free units class d)
      (base_not_fit units class d)
      class_name)

  pub base_fit : base_not_fit units class d ≡ []
  base_fit =
      none_right
      (base_without_class units d.kit d.class.base ++ class_name_not_free units class d)
      (base_not_fit units class d)
      class_name

  -- ---- counts

  pub slots_few : said_from (too_many_slots units class d) 0 d.class.members ≡ []
  slots_few =
      none_right
      (said_from (too_many_methods d) 0 d.class.members ++ said_from (too_many_virtual units class d) 0 d.class.members)
      (said_from (too_many_slots units class d) 0 d.class.members)
      (none_left
      (said_from (too_many_methods d) 0 d.class.members ++ said_from (too_many_virtual units class d) 0 d.class.members
      ++ said_from (too_many_slots units class d) 0 d.class.members)
      (said_from (too_large_config units class d) 0 d.class.members)
      (none_left
      (said_from (too_many_methods d) 0 d.class.members ++ said_from (too_many_virtual units class d) 0 d.class.members
      ++ said_from (too_many_slots units class d) 0 d.class.members
      ++ said_from (too_large_config units class d) 0 d.class.members)
      (said_from (too_large_runtime units class d) 0 d.class.members)
      counts))

  pub config_small : said_from (too_large_config units class d) 0 d.class.members ≡ []
  config_small =
      none_right
      (said_from (too_many_methods d) 0 d.class.members ++ said_from (too_many_virtual units class d) 0 d.class.members
      ++ said_from (too_many_slots units class d) 0 d.class.members)
      (said_from (too_large_config units class d) 0 d.class.members)
      (none_left
      (said_from (too_many_methods d) 0 d.class.members ++ said_from (too_many_virtual units class d) 0 d.class.members
      ++ said_from (too_many_slots units class d) 0 d.class.members
      ++ said_from (too_large_config units class d) 0 d.class.members)
      (said_from (too_large_runtime units class d) 0 d.class.members)
      counts)

  pub runtime_small : said_from (too_large_runtime units class d) 0 d.class.members ≡ []
  runtime_small =
      none_right
      (said_from (too_many_methods d) 0 d.class.members ++ said_from (too_many_virtual units class d) 0 d.class.members
      ++ said_from (too_many_slots units class d) 0 d.class.members
      ++ said_from (too_large_config units class d) 0 d.class.members)
      (said_from (too_large_runtime units class d) 0 d.class.members)
      counts

  -- ---- objects and statics

  pub objects_fit : flat_map (object_not_fit units d.kit) d.class.members ≡ []
  objects_fit =
      none_left
      (flat_map (object_not_fit units d.kit) d.class.members)
      (flat_map (value_not_fit units class d.kit) d.class.members)
      (none_left
      (flat_map (object_not_fit units d.kit) d.class.members
      ++ flat_map (value_not_fit units class d.kit) d.class.members)
      (said_from (too_much_data units class d) 0 d.class.members)
      (none_left
      (flat_map (object_not_fit units d.kit) d.class.members
      ++ flat_map (value_not_fit units class d.kit) d.class.members
      ++ said_from (too_much_data units class d) 0 d.class.members)
      (said_from (too_many_statics units class d) 0 d.class.members)
      values))

  pub statics_small : said_from (too_many_statics units class d) 0 d.class.members ≡ []
  statics_small =
      none_right
      (flat_map (object_not_fit units d.kit) d.class.members
      ++ flat_map (value_not_fit units class d.kit) d.class.members
      ++ said_from (too_much_data units class d) 0 d.class.members)
      (said_from (too_many_statics units class d) 0 d.class.members)
      values

  -- ---- members

  module _ (i : ℕ) (m : Member) (at : slice_get d.class.members i ≡ Some m) where
    member : member_form_faults units class d i m ≡ []
    member =
        none_numbered
        (member_form_faults units class d)
        d.class.members
        i
        m
        (none_right (class_form_faults units class d) (said_from
        (member_form_faults units class d) 0 d.class.members) forms)
        at

    names : member_name_faults units class d i m ≡ []
    names =
        none_left
        (member_name_faults units class d i m)
        (member_word_faults units class d m)
        (none_left (member_name_faults units class d i m
        ++ member_word_faults units class d m) (params_faults units d.kit m) member)

    words : member_word_faults units class d m ≡ []
    words =
        none_right
        (member_name_faults units class d i m)
        (member_word_faults units class d m)
        (none_left (member_name_faults units class d i m
        ++ member_word_faults units class d m) (params_faults units d.kit m) member)

    pub params_none : params_faults units d.kit m ≡ []
    params_none =
        none_right
        (member_name_faults units class d i m ++ member_word_faults units class d m)
        (params_faults units d.kit m)
        member

    pub member_typed : type_without_class units d.kit m.kind ≡ []
    member_typed =
        none_left
        (type_without_class units d.kit m.kind)
        (name_repeated d i m)
        (none_left
        (type_without_class units d.kit m.kind ++ name_repeated d i m)
        (inherited_name_taken units class m)
        (none_left
        (type_without_class units d.kit m.kind ++ name_repeated d i m ++ inherited_name_taken units class m)
        (overrides_nothing units class d.kit m)
        names))

    pub name_new : name_repeated d i m ≡ []
    name_new =
        none_right
        (type_without_class units d.kit m.kind)
        (name_repeated d i m)
        (none_left
        (type_without_class units d.kit m.kind ++ name_repeated d i m)
        (inherited_name_taken units class m)
        (none_left
        (type_without_class units d.kit m.kind ++ name_repeated d i m ++ inherited_name_taken units class m)
        (overrides_nothing units class d.kit m)
        names))

    pub name_own : inherited_name_taken units class m ≡ []
    name_own =
        none_right
        (type_without_class units d.kit m.kind ++ name_repeated d i m)
        (inherited_name_taken units class m)
        (none_left
        (type_without_class units d.kit m.kind ++ name_repeated d i m ++ inherited_name_taken units class m)
        (overrides_nothing units class d.kit m)
        names)

    pub overridden : overrides_nothing units class d.kit m ≡ []
    overridden =
        none_right
        (type_without_class units d.kit m.kind ++ name_repeated d i m ++ inherited_name_taken units class m)
        (overrides_nothing units class d.kit m)
        names

    pub slot_fit : slot_not_fit units class d.kit m ≡ []
    slot_fit =
        none_right
        (method_not_runnable units class d m)
        (slot_not_fit units class d.kit m)
        (none_left
        (method_not_runnable units class d m ++ slot_not_fit units class d.kit m)
        (member_not_fit units d.kit m)
        (none_left
        (method_not_runnable units class d m ++ slot_not_fit units class d.kit m ++ member_not_fit units d.kit m)
        (too_long_in_member m)
        words))

    pub member_fit : member_not_fit units d.kit m ≡ []
    member_fit =
        none_right
        (method_not_runnable units class d m ++ slot_not_fit units class d.kit m)
        (member_not_fit units d.kit m)
        (none_left
        (method_not_runnable units class d m ++ slot_not_fit units class d.kit m ++ member_not_fit units d.kit m)
        (too_long_in_member m)
        words)

    pub object_fit : option_map_or (is_no_object_class units) (inline_class units d.kit m) false ≡ false
    object_fit =
        not_broken
        (option_map_or (is_no_object_class units) (inline_class units d.kit m) false)
        9
        m.at
        (none_each (object_not_fit units d.kit) d.class.members i m objects_fit at)
