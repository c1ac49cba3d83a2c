-- The methods of actions.
use Rattle.std.proofs.Common.{◌≡◌, ◌<◌, ◌≤◌, ◌+◌, ◌-◌, ◌==◌, ◌&&◌, ◌||◌, ℕ, zero, suc, Bool, true, false, not, nat_lt, if◌then◌else◌, List, [], ◌∷◌, ◌++◌, filter, length, map, slice_get, All, IfSome, IsSomeAnd, Option, Some, None, refl, sym, ap, ◌∙◌, subst, arith}
use Rattle.std.specs.List.{list_any, position}
use Rattle.std.specs.Option.{option_map}
use Rattle.std.specs.Str.{bytes_eq}
use Rattle.std.proofs.lemmas.Option.{get_or_from_slice_get, slice_get-get_or, slice_get_within}
use Rattle.std.proofs.lemmas.Bool.Decides.{nat_tests}
use Rattle.sed_value.specs.declared.slot_type.Primitive.{Primitive}
use Rattle.sed_value.specs.declared.slot_type.Primitive.TheVariants as prim
use Rattle.sed_units.specs.declared.leaves.ModifierWord.TheVariants as word
use Rattle.sed_units.specs.declared.leaves.Param.{Param}
use Rattle.sed_units.specs.declared.classes.Member.{Member}
use Rattle.sed_typed.specs.declared.kind.Kind.{Kind}
use Rattle.sed_typed.specs.declared.kind.Kind.TheVariants as kind
use Rattle.sed_typed.specs.declared.program.Method.{Method}
use Rattle.sed_typed.specs.declared.program.Program.{Program}
use Rattle.sed_typed.specs.declared.schema.ActionArg.{ActionArg}
use Rattle.sed_typed.specs.declared.schema.SlotForm.{SlotForm}
use Rattle.sed_typed.specs.declared.schema.SlotForm.TheVariants.{Prop, Action}
use Rattle.sed_typed.specs.declared.schema.SlotInfo.{SlotInfo}
use Rattle.sed_typed.specs.Classes as typed
use Rattle.sed_typed.specs.TypedSchema.{HasMembers, IsAction, Overrides, argument_kinds}
use Rattle.sed_faults.specs.Faults.{said_from}
use Rattle.sed_classes.specs.declared.kit_units.KitUnits.{KitUnits}
use Rattle.sed_classes.specs.declared.source_type.SourceType.{SourceType}
use Rattle.sed_classes.specs.declared.source_type.SourceType.TheVariants as type
use Rattle.sed_classes.specs.Declarations.{Declaration, all_classes, class_at}
use Rattle.sed_classes.specs.Bases.{base_of, bases, lineage}
use Rattle.sed_classes.specs.NameRules.{type_without_class}
use Rattle.sed_classes.specs.Types.{is_argument_type, is_unknown, is_void, type_of}
use Rattle.sed_classes.specs.Members.{declares, form_params, has_word, is_action, is_method, is_open, is_static, kit_of, members_of, overrides, owned}
use Rattle.sed_classes.specs.MemberRules.{are_no_arguments, is_no_action, is_no_answer, is_no_argument, is_slot_elsewhere, is_wrong_action, is_wrong_property}
use Rattle.sed_classes.specs.FieldRules.{exclusive_count, has_no_method_words, have_words_apart, is_static_inline, param_not_fit}
use Rattle.sed_classes.specs.LimitRules.{too_long_in_param, too_many_params}
use Rattle.sed_classes.specs.Slots.{action_argument, argument_of, own_slots, slots}
use Rattle.sed_classes.specs.Faults.{class_form_faults, count_faults, declaration_faults, form_faults, member_form_faults, member_name_faults, member_word_faults, param_faults, params_faults, value_faults}
use Rattle.sed_program.specs.Types.{kind_of_type, param_kind, result_kind, result_of_type}
use Rattle.sed_program.specs.Outlined.{IsHead}
use Rattle.sed_outline.proofs.Unbroken.{none_left, none_right}
use Rattle.sed_class_laws.proofs.Entry.{first_of, second_of, slot_so, words_so}
use Rattle.sed_class_laws.proofs.Known.{type_known}
use Rattle.sed_class_laws.proofs.Rules.{none_numbered, params_none, member_typed}
use Rattle.sed_program.proofs.OrderLists.{is_same, position_at}
use Rattle.sed_outline.proofs.Infos.{all_at}
use Rattle.sed_class_laws.proofs.Named.{bytes_same}

-- ---- what an action keeps

action_words : (a d s i : Bool) → (p : Bool) → a ≡ true →
    (nat_lt 1 ((if p then 1 else 0) + (if a then 1 else 0) + (if d then 1 else 0) + (if s then 1 else 0) + (if i then 1
    else 0))
    && not (s && i && (((if p then 1 else 0) + (if a then 1 else 0) + (if d then 1 else 0) + (if s then 1
    else 0) + (if i then 1 else 0)) == 2))) ≡ false →
    s ≡ false
action_words false d s i p q e = cc
action_words true d false i p q e = refl
action_words true true true true true q e = cc
action_words true true true true false q e = cc
action_words true true true false true q e = cc
action_words true true true false false q e = cc
action_words true false true true true q e = cc
action_words true false true true false q e = cc
action_words true false true false true q e = cc
action_words true false true false false q e = cc

none_unwrapped : {X : Type 0} (xs : List X) → map (λ x. Some x) xs ≡ [] → xs ≡ []
none_unwrapped [] e = refl
none_unwrapped (x ∷ xs) e = cc

one_unwrapped : {X : Type 0} (xs : List X) (y : X) → map (λ x. Some x) xs ≡ Some y ∷ [] → xs ≡ y ∷ []
one_unwrapped [] y e = cc
one_unwrapped (x ∷ []) y e = let same : x ≡ y = cc in ap (λ z. z ∷ []) same
one_unwrapped (x ∷ z ∷ zs) y e = cc

module _ (units : List KitUnits) (class : ℕ) (d : Declaration) (free : declaration_faults units class d
    ≡ []) (kit : kit_of units class ≡ d.kit)
    (i : ℕ) (m : Member) (at : slice_get d.class.members i ≡ Some m) (a : is_action m ≡ true) (method : is_method m
    ≡ true) where
  wrong_not : is_wrong_action units d.kit m ≡ false
  wrong_not = second_of (is_slot_elsewhere units class m || is_wrong_property units d.kit m)
      (is_wrong_action units d.kit m) (slot_so units class d free kit i m at)

  no_action_not : is_no_action units d.kit m ≡ false
  no_action_not = by_test (is_action m) a wrong_not
    where
      by_test : (b : Bool) → b ≡ true → (b && is_no_action units d.kit m) ≡ false → is_no_action units d.kit m ≡ false
      by_test true p e = e
      by_test false p e = cc

  static_not : is_static m ≡ false
  static_not =
      action_words
      (has_word word.Action m.modifiers)
      (has_word word.Define m.modifiers)
      (has_word word.Static m.modifiers)
      (has_word word.Inline m.modifiers)
      (has_word word.Property m.modifiers)
      a
      (first_of (nat_lt 1 (exclusive_count m) && not (is_static_inline m)) (is_method m && has_no_method_words m)
      (words_so units class d free kit i m at))

  open_so : (is_open m || overrides m) ≡ true
  open_so =
      ap (λ b. (b && (has_word word.Virtual m.modifiers || has_word word.Abstract m.modifiers || has_word word.Action m.modifiers)) || overrides m) method
      ∙ ap (λ b. (has_word word.Virtual m.modifiers || has_word word.Abstract m.modifiers || b) || overrides m) a
      ∙ any (has_word word.Virtual m.modifiers) (has_word word.Abstract m.modifiers) (overrides m)
    where
      any : (x y z : Bool) → ((x || y || true) || z) ≡ true
      any true y z = refl
      any false true z = refl
      any false false z = refl

  answer_void : result_kind units d.kit m ≡ Some kind.Void
  answer_void =
      by_type
      (type_of units d.kit m.kind)
      (type_known units d.kit m.kind (member_typed units class d free i m at))
      (first_of (is_no_answer (type_of units d.kit m.kind)) (are_no_arguments units d.kit
      (form_params m.form)) no_action_not)
    where
      by_type : (t : SourceType) → is_unknown t ≡ false → is_no_answer t ≡ false →
          result_of_type units t ≡ Some kind.Void
      by_type type.Void p e = refl
      by_type (type.Prim q) p e = cc
      by_type type.Text p e = cc
      by_type (type.SizedText n) p e = cc
      by_type (type.Buf n) p e = cc
      by_type (type.Array q n) p e = cc
      by_type (type.Object c) p e = cc
      by_type type.Unknown p e = cc
      by_type type.Outside p e = cc

  one_kind : (q : Param) → type_without_class units d.kit q.kind ≡ [] →
      is_no_argument (type_of units d.kit q.kind) ≡ false →
      (k : Kind) × (param_kind units d.kit q ≡ Some k) × (argument_kinds (argument_of (type_of units d.kit q.kind))
      ≡ k ∷ [])
  one_kind q known e = by_type (type_of units d.kit q.kind) (type_known units d.kit q.kind known) e
    where
      by_type : (t : SourceType) → is_unknown t ≡ false → is_no_argument t ≡ false →
          (k : Kind) × (kind_of_type units t ≡ Some k) × (argument_kinds (argument_of t) ≡ k ∷ [])
      by_type (type.Prim prim.Bool) p f = (kind.Bool, refl, refl)
      by_type (type.Prim prim.Byte) p f = cc
      by_type (type.Prim prim.Short) p f = cc
      by_type (type.Prim prim.Int) p f = (kind.Int, refl, refl)
      by_type (type.Prim prim.Long) p f = (kind.Long, refl, refl)
      by_type type.Void p f = cc
      by_type type.Text p f = cc
      by_type (type.SizedText n) p f = cc
      by_type (type.Buf n) p f = cc
      by_type (type.Array r n) p f = cc
      by_type (type.Object c) p f = cc
      by_type type.Unknown p f = cc
      by_type type.Outside p f = cc

  params_are : (ks : List Kind) → map (λ k. Some k) ks ≡ map (param_kind units d.kit) (form_params m.form) →
      ks ≡ argument_kinds (action_argument units d.kit (form_params m.form))
  params_are ks e =
      by_params
      (form_params m.form)
      (params_none units class d free i m at)
      (second_of (is_no_answer (type_of units d.kit m.kind)) (are_no_arguments units d.kit
      (form_params m.form)) no_action_not)
      e
    where
      by_params : (ps : List Param) → said_from (param_faults units d.kit) 0 ps ≡ [] →
          are_no_arguments units d.kit ps ≡ false →
          map (λ k. Some k) ks ≡ map (param_kind units d.kit) ps → ks ≡ argument_kinds (action_argument units d.kit ps)
      by_params [] f g h = none_unwrapped ks h
      by_params (q ∷ []) f g h =
          let first : param_faults units d.kit 0 q ≡ [] = none_numbered (param_faults units d.kit)
          (q ∷ []) 0 q f refl in
          let known : type_without_class units d.kit q.kind ≡ [] =
          none_left
          (type_without_class units d.kit q.kind)
          (param_not_fit units d.kit q)
          (none_left
          (type_without_class units d.kit q.kind ++ param_not_fit units d.kit q)
          (too_many_params 0 q)
          (none_left (type_without_class units d.kit q.kind ++ param_not_fit units d.kit q
          ++ too_many_params 0 q) (too_long_in_param q) first)) in
          let one = one_kind q known g in
          one_unwrapped ks one.0 (h ∙ ap (λ o. o ∷ []) one.1) ∙ sym one.2
      by_params (q ∷ r ∷ ps) f g h = cc

  -- the method of an action is one
  pub action_is : (n : ℕ) (x : Method) → IsHead units (record {
    class = n;
    owned = owned class
        (kit_of units class) m;
  }) x →
      IsAction (action_argument units (kit_of units class) (form_params m.form)) x
  action_is n x h =
      let answer : Some x.result ≡ Some kind.Void = h.result ∙ ap (λ k. result_kind units k m) kit ∙ answer_void in
      let void : x.result ≡ kind.Void = cc in (
        h.static ∙ static_not,
        h.virtual ∙ open_so,
        void,
        params_are x.params (h.params ∙ ap (λ k. map (param_kind units k) (form_params m.form)) kit)
            ∙ ap (λ k. argument_kinds (action_argument units k (form_params m.form))) (sym kit),
      )

-- ---- what overrides an action is one

pub action_kept : (a : ActionArg) (x y : Method) → Overrides x y → IsAction a y → IsAction a x
action_kept a x y o i = (o.instance, o.virtual, o.result ∙ i.2, o.params ∙ i.3)

-- a method of a class overrides what is found in the base
pub overriding : (program : Program) (k base : ℕ) → HasMembers program k →
    typed.base_of program.schema.classes k ≡ Some base →
    (name : List ℕ) (n j : ℕ) (y : Method) → typed.declared_method program.methods name k ≡ Some n →
    typed.find program base name ≡ Some j →
    slice_get program.methods j ≡ Some y → (x : Method) × (slice_get program.methods n ≡ Some x) × Overrides x y
overriding program k base members b name n j y e f g =
    let found = position_at (λ (m : Method). (m.class.0 == k) && bytes_eq m.name name) program.methods n e in
    let x : Method = found.0 in
    let so = both (x.class.0 == k) (bytes_eq x.name name) found.2 in
    let class : x.class.0 ≡ k = is_same x.class.0 k so.0 in
    let named : x.name ≡ name = bytes_same x.name name so.1 in
    let all : IfSome (typed.base_of program.schema.classes k) (λ c. IfSome (typed.find program c x.name) (λ m. IfSome
    (slice_get program.methods m) (Overrides x))) =
    all_at
    (λ (m : Method). m.class.0 ≡ k → IfSome (typed.base_of program.schema.classes k) (λ c. IfSome
    (typed.find program c m.name) (λ q. IfSome (slice_get program.methods q) (Overrides m))))
    program.methods
    n
    x
    found.1
    members.methods
    class in
    let one : IfSome (typed.find program base x.name) (λ m. IfSome (slice_get program.methods m) (Overrides x)) =
    subst (λ o. IfSome o (λ c. IfSome (typed.find program c x.name) (λ m. IfSome (slice_get program.methods m)
    (Overrides x)))) b all in
    let two : IfSome (slice_get program.methods j) (Overrides x) =
    subst (λ o. IfSome o (λ m. IfSome (slice_get program.methods m) (Overrides x))) (ap (typed.find program base) named
    ∙ f) one in
    (x, found.1, subst (λ o. IfSome o (Overrides x)) g two)
  where
    both : (p q : Bool) → (p && q) ≡ true → (p ≡ true) × (q ≡ true)
    both true q r = (refl, r)
    both false q r = cc
