-- Methods that override one another have one signature.
use Rattle.std.proofs.Common.{◌≡◌, ◌+◌, ◌==◌, ◌&&◌, ◌||◌, ℕ, suc, Bool, true, false, not, nat_lt, if◌then◌else◌, List, [], ◌∷◌, length, map, slice_get, Some, refl, sym, ap, ◌∙◌, subst, arith}
use Rattle.std.specs.List.{list_all, zip}
use Rattle.std.proofs.lemmas.Bool.Decides.{nat_tests}
use Rattle.sed_value.specs.declared.slot_type.Primitive.{Primitive}
use Rattle.sed_value.specs.declared.slot_type.Primitive.TheVariants as prim
use Rattle.sed_units.specs.declared.leaves.ModifierWord.TheVariants as word
use Rattle.sed_units.specs.declared.leaves.Param.{Param}
use Rattle.sed_units.specs.declared.classes.Member.{Member}
use Rattle.sed_classes.specs.declared.kit_units.KitUnits.{KitUnits}
use Rattle.sed_classes.specs.declared.source_type.SourceType.{SourceType}
use Rattle.sed_classes.specs.declared.source_type.SourceType.TheVariants as type
use Rattle.sed_classes.specs.Declarations.{Declaration}
use Rattle.sed_classes.specs.Faults.{param_faults}
use Rattle.sed_classes.specs.Members.{form_params, has_name, has_word, is_action, is_method, is_open, is_static, kit_of, members_of, overrides}
use Rattle.sed_classes.specs.MemberRules.{fits, is_same_param, same_params, same_truth}
use Rattle.sed_classes.specs.Objects.{is_inline}
use Rattle.sed_classes.specs.Types.{is_kept, is_same_type, is_storable, is_void, same_primitive, type_of}
use Rattle.sed_program.specs.Methods.{is_virtual}
use Rattle.sed_program.specs.Types.{kind_of_type, param_kind, result_kind, result_of_type}
use Rattle.sed_member_laws.specs.Faultless.{AreFree, Keeps}
use Rattle.sed_member_laws.proofs.Empty.{none_said_first}
use Rattle.sed_member_laws.proofs.Fit.{param_storable, void_or_stored, words_apart}
use Rattle.sed_member_laws.proofs.Own.{and_left, and_right, member_kept, or_left, or_right}
use Rattle.sed_member_laws.specs.Alike.{Alike}
use Rattle.std.proofs.lemmas.Bool.{eqb-true as same_number}

-- ---- equal types

same_prim : (p q : Primitive) → same_primitive p q ≡ true → p ≡ q
same_prim prim.Bool prim.Bool e = refl
same_prim prim.Byte prim.Byte e = refl
same_prim prim.Short prim.Short e = refl
same_prim prim.Int prim.Int e = refl
same_prim prim.Long prim.Long e = refl
same_prim p q e = cc

-- a type of results
abbrev pub IsResult : SourceType → Type 0
IsResult type.Void = Unit {0}
IsResult (type.Prim p) = is_kept p ≡ true
IsResult type.Text = Unit {0}
IsResult (type.SizedText n) = ⊥
IsResult (type.Buf n) = ⊥
IsResult (type.Array p n) = ⊥
IsResult (type.Object c) = Unit {0}
IsResult type.Unknown = ⊥
IsResult type.Outside = ⊥

stored_result : (t : SourceType) → is_storable t ≡ true → IsResult t
stored_result type.Void e = cc
stored_result (type.Prim p) e = e
stored_result type.Text e = tt
stored_result (type.SizedText n) e = cc
stored_result (type.Buf n) e = cc
stored_result (type.Array p n) e = cc
stored_result (type.Object c) e = tt
stored_result type.Unknown e = cc
stored_result type.Outside e = cc

void_is : (t : SourceType) → is_void t ≡ true → IsResult t
void_is type.Void e = tt
void_is (type.Prim p) e = cc
void_is type.Text e = cc
void_is (type.SizedText n) e = cc
void_is (type.Buf n) e = cc
void_is (type.Array p n) e = cc
void_is (type.Object c) e = cc
void_is type.Unknown e = cc
void_is type.Outside e = cc

same_result : (t u : SourceType) → IsResult t → IsResult u → is_same_type t u ≡ true → t ≡ u
same_result type.Void type.Void p q e = refl
same_result type.Void (type.Prim r) p q e = cc
same_result type.Void type.Text p q e = cc
same_result type.Void (type.Object c) p q e = cc
same_result (type.Prim r) type.Void p q e = cc
same_result (type.Prim r) (type.Prim s) p q e = ap type.Prim (same_prim r s e)
same_result (type.Prim r) type.Text p q e = cc
same_result (type.Prim r) (type.Object c) p q e = cc
same_result type.Text type.Void p q e = cc
same_result type.Text (type.Prim r) p q e = cc
same_result type.Text type.Text p q e = refl
same_result type.Text (type.Object c) p q e = cc
same_result (type.Object c) type.Void p q e = cc
same_result (type.Object c) (type.Prim r) p q e = cc
same_result (type.Object c) type.Text p q e = cc
same_result (type.Object c) (type.Object d) p q e = ap type.Object (same_number c d e)
same_result (type.SizedText n) u p q e = absurd p
same_result (type.Buf n) u p q e = absurd p
same_result (type.Array r n) u p q e = absurd p
same_result type.Unknown u p q e = absurd p
same_result type.Outside u p q e = absurd p
same_result t (type.SizedText n) p q e = absurd q
same_result t (type.Buf n) p q e = absurd q
same_result t (type.Array r n) p q e = absurd q
same_result t type.Unknown p q e = absurd q
same_result t type.Outside p q e = absurd q

-- ---- methods that are alike

pub alike_back : (units : List KitUnits) (a b : ℕ) (m n : Member) → Alike units a m b n → Alike units b n a m
alike_back units a b m n h = record {
  method = h.method_too;
  method_too = h.method;
  instance = h.instance_too;
  instance_too = h.instance;
  virtual = h.virtual_too;
  virtual_too = h.virtual;
  params = sym h.params;
  result = sym h.result;
}

pub alike_on : (units : List KitUnits) (a b c : ℕ) (m n x : Member) → Alike units a m b n → Alike units b n c x →
    Alike units a m c x
alike_on units a b c m n x g h = record {
  method = g.method;
  method_too = h.method_too;
  instance = g.instance;
  instance_too = h.instance_too;
  virtual = g.virtual;
  virtual_too = h.virtual_too;
  params = g.params ∙ h.params;
  result = g.result ∙ h.result;
}

-- ---- words

pub open_method : (m : Member) → is_open m ≡ true → is_method m ≡ true
open_method m e =
    and_left
    (is_method m)
    (has_word word.Virtual m.modifiers || has_word word.Abstract m.modifiers || has_word word.Action m.modifiers)
    e

-- by the words that exclude one another
action_static : (p a d s i : Bool) → a ≡ true → s ≡ true →
    (nat_lt 1 ((if p then 1 else 0) + (if a then 1 else 0) + (if d then 1 else 0) + (if s then 1 else 0) + (if i then 1
    else 0))
    && not (s && i && (((if p then 1 else 0) + (if a then 1 else 0) + (if d then 1 else 0) + (if s then 1
    else 0) + (if i then 1 else 0)) == 2)))
    ≡ true
action_static p false d s i e f = cc
action_static p true d false i e f = cc
action_static true true true true true e f = refl
action_static true true true true false e f = refl
action_static true true false true true e f = refl
action_static true true false true false e f = refl
action_static false true true true true e f = refl
action_static false true true true false e f = refl
action_static false true false true true e f = refl
action_static false true false true false e f = refl

-- a method that is open, or overrides, is not static
pub virtual_instance : (units : List KitUnits) → AreFree units → (c i : ℕ) (m : Member) →
    slice_get (members_of units c) i ≡ Some m → is_method m ≡ true →
    is_virtual m ≡ true → is_static m ≡ false
virtual_instance units f c i m e is v =
    let k = member_kept units f c i m e in
    let keeps : Keeps units c k.0 i m = k.3 in
    by_words
    (has_word word.Property m.modifiers)
    (has_word word.Action m.modifiers)
    (has_word word.Define m.modifiers)
    (is_static m)
    (is_inline m)
    (is_method m)
    (has_word word.Virtual m.modifiers)
    (has_word word.Abstract m.modifiers)
    (overrides m)
    is
    v
    (words_apart units c k.0 i m keeps)
  where
    by_words : (p a d s i b v w o : Bool) → b ≡ true → ((b && (v || w || a)) || o) ≡ true →
        ((nat_lt 1 ((if p then 1 else 0) + (if a then 1 else 0) + (if d then 1 else 0) + (if s then 1
        else 0) + (if i then 1 else 0))
        && not (s && i && (((if p then 1 else 0) + (if a then 1 else 0) + (if d then 1 else 0) + (if s then 1
        else 0) + (if i then 1 else 0)) == 2)))
        || (b && (p || d || i || (s && (v || w || o)))))
        ≡ false →
        s ≡ false
    by_words p a d false i b v w o is h g = refl
    by_words p a d true i false v w o is h g = cc
    by_words p a d true i true true w o is h g =
        let clash : (p || d || i || true) ≡ false = or_right (nat_lt 1 ((if p then 1 else 0) + (if a then 1
        else 0) + (if d then 1 else 0) + 1 + (if i then 1 else 0)) && not (i && (((if p then 1
        else 0) + (if a then 1 else 0) + (if d then 1 else 0) + 1 + (if i then 1
        else 0)) == 2))) (p || d || i || true) g in
        let last : true ≡ false = or_right (p || d || i) true clash in
        cc
    by_words p a d true i true false true o is h g =
        let clash : (p || d || i || true) ≡ false = or_right (nat_lt 1 ((if p then 1 else 0) + (if a then 1
        else 0) + (if d then 1 else 0) + 1 + (if i then 1 else 0)) && not (i && (((if p then 1
        else 0) + (if a then 1 else 0) + (if d then 1 else 0) + 1 + (if i then 1
        else 0)) == 2))) (p || d || i || true) g in
        let last : true ≡ false = or_right (p || d || i) true clash in
        cc
    by_words p a d true i true false false true is h g =
        let clash : (p || d || i || true) ≡ false = or_right (nat_lt 1 ((if p then 1 else 0) + (if a then 1
        else 0) + (if d then 1 else 0) + 1 + (if i then 1 else 0)) && not (i && (((if p then 1
        else 0) + (if a then 1 else 0) + (if d then 1 else 0) + 1 + (if i then 1
        else 0)) == 2))) (p || d || i || true) g in
        let last : true ≡ false = or_right (p || d || i) true clash in
        cc
    by_words p true d true i true false false false is h g =
        let clash : true ≡ false =
        sym (action_static p true d true i refl refl)
        ∙ or_left
        (nat_lt 1 ((if p then 1 else 0) + 1 + (if d then 1 else 0) + 1 + (if i then 1
        else 0)) && not (i && (((if p then 1 else 0) + 1 + (if d then 1 else 0) + 1 + (if i then 1 else 0)) == 2)))
        (p || d || i || false)
        g in
        cc
    by_words p false d true i true false false false is h g = cc

-- ---- parameters

same_kinds : (units : List KitUnits) (kit other : ℕ) (ps qs : List Param) →
    ((i : ℕ) (p : Param) → slice_get ps i ≡ Some p → is_storable (type_of units kit p.kind) ≡ true) →
    ((i : ℕ) (p : Param) → slice_get qs i ≡ Some p → is_storable (type_of units other p.kind) ≡ true) →
    (length ps == length qs) ≡ true → list_all (is_same_param units kit other) (zip ps qs) ≡ true →
    map (param_kind units kit) ps ≡ map (param_kind units other) qs
same_kinds units kit other [] [] s t n e = refl
same_kinds units kit other [] (q ∷ qs) s t n e = absurd (unequal (length qs) n)
  where
    unequal : (k : ℕ) → (0 == suc k) ≡ true → ⊥
    unequal k e = grind (arith, nat_tests)
same_kinds units kit other (p ∷ ps) [] s t n e = absurd (unequal (length ps) n)
  where
    unequal : (k : ℕ) → (suc k == 0) ≡ true → ⊥
    unequal k e = grind (arith, nat_tests)
same_kinds units kit other (p ∷ ps) (q ∷ qs) s t n e =
    let first : type_of units kit p.kind ≡ type_of units other q.kind =
    same_result
    (type_of units kit p.kind)
    (type_of units other q.kind)
    (stored_result (type_of units kit p.kind) (s 0 p refl))
    (stored_result (type_of units other q.kind) (t 0 q refl))
    (and_left (is_same_type (type_of units kit p.kind) (type_of units other q.kind)) (list_all
    (is_same_param units kit other) (zip ps qs)) e) in
    ap (λ k. k ∷ map (param_kind units kit) ps) (ap (kind_of_type units) first)
    ∙ ap
    (λ ks. param_kind units other q ∷ ks)
    (same_kinds
    units
    kit
    other
    ps
    qs
    (λ i x g. s (suc i) x g)
    (λ i x g. t (suc i) x g)
    (shorter (length ps) (length qs) n)
    (and_right (is_same_type (type_of units kit p.kind) (type_of units other q.kind)) (list_all
    (is_same_param units kit other) (zip ps qs)) e))
  where
    shorter : (a b : ℕ) → (suc a == suc b) ≡ true → (a == b) ≡ true
    shorter a b e = grind (arith, nat_tests)

-- ---- what overrides and what it overrides

result_fit : (units : List KitUnits) (c : ℕ) (d : Declaration) (i : ℕ) (m : Member) → Keeps units c d i m →
    is_method m ≡ true → IsResult (type_of units d.kit m.kind)
result_fit units c d i m k is = by_test (is_void (type_of units d.kit m.kind)) refl
  where
    by_test : (b : Bool) → is_void (type_of units d.kit m.kind) ≡ b → IsResult (type_of units d.kit m.kind)
    by_test true v = void_is (type_of units d.kit m.kind) v
    by_test false v = stored_result (type_of units d.kit m.kind) (void_or_stored units c d i m k is v)

params_fit : (units : List KitUnits) (c : ℕ) (d : Declaration) (i : ℕ) (m : Member) → Keeps units c d i m →
    (j : ℕ) (p : Param) → slice_get (form_params m.form) j ≡ Some p → is_storable (type_of units d.kit p.kind) ≡ true
params_fit units c d i m k j p e = param_storable units d.kit j p (none_said_first (param_faults units d.kit)
    (form_params m.form) j p k.params e)

five : (a b c d e : Bool) → (a && b && c && d && e) ≡ true → (a ≡ true) × (b ≡ true) × (d ≡ true) × (e ≡ true)
five true true true true true h = (refl, refl, refl, refl)
five true true true true false h = cc
five true true true false e h = cc
five true true false d e h = cc
five true false c d e h = cc
five false b c d e h = cc

-- an overriding method and the open one that it fits
pub fits_alike : (units : List KitUnits) → AreFree units → (c i : ℕ) (m : Member) (a j : ℕ) (n : Member) →
    slice_get (members_of units c) i ≡ Some m →
    slice_get (members_of units a) j ≡ Some n → is_method m ≡ true → overrides m ≡ true →
    fits units (kit_of units c) m (kit_of units a) n ≡ true →
    Alike units (kit_of units c) m (kit_of units a) n
fits_alike units f c i m a j n e g is o h =
    let k = member_kept units f c i m e in
    let keeps : Keeps units c k.0 i m = k.3 in
    let l = member_kept units f a j n g in
    let keeps_too : Keeps units a l.0 j n = l.3 in
    let parts = five
    (is_open n)
    (has_name m.name.bytes n)
    (same_truth (is_action m) (is_action n))
    (is_same_type (type_of units (kit_of units c) m.kind) (type_of units (kit_of units a) n.kind))
    (same_params units (kit_of units c) (form_params m.form) (kit_of units a) (form_params n.form))
    h in
    let is_too : is_method n ≡ true = open_method n parts.0 in
    let virtual : is_virtual m ≡ true = ap (λ b. is_open m || b) o ∙ either (is_open m) in
    let virtual_too : is_virtual n ≡ true = ap (λ b. b || overrides n) parts.0 in
    let types : type_of units (kit_of units c) m.kind ≡ type_of units (kit_of units a) n.kind =
    same_result
    (type_of units (kit_of units c) m.kind)
    (type_of units (kit_of units a) n.kind)
    (subst (λ kit. IsResult (type_of units kit m.kind)) (sym k.2) (result_fit units c k.0 i m keeps is))
    (subst (λ kit. IsResult (type_of units kit n.kind)) (sym l.2) (result_fit units a l.0 j n keeps_too is_too))
    parts.2 in
    record {
      method = is;
      method_too = is_too;
      instance = virtual_instance units f c i m e is virtual;
      instance_too = virtual_instance units f a j n g is_too virtual_too;
      virtual = virtual;
      virtual_too = virtual_too;
      params =
          same_kinds
          units
          (kit_of units c)
          (kit_of units a)
          (form_params m.form)
          (form_params n.form)
          (subst
          (λ kit. (x : ℕ) (p : Param) → slice_get (form_params m.form) x ≡ Some p →
          is_storable (type_of units kit p.kind) ≡ true)
          (sym k.2)
          (params_fit units c k.0 i m keeps))
          (subst
          (λ kit. (x : ℕ) (p : Param) → slice_get (form_params n.form) x ≡ Some p →
          is_storable (type_of units kit p.kind) ≡ true)
          (sym l.2)
          (params_fit units a l.0 j n keeps_too))
          (and_left
          (length (form_params m.form) == length (form_params n.form))
          (list_all (is_same_param units (kit_of units c) (kit_of units a)) (zip (form_params m.form)
          (form_params n.form)))
          parts.3)
          (and_right
          (length (form_params m.form) == length (form_params n.form))
          (list_all (is_same_param units (kit_of units c) (kit_of units a)) (zip (form_params m.form)
          (form_params n.form)))
          parts.3);
      result = ap (result_of_type units) types;
    }
  where
    either : (b : Bool) → (b || true) ≡ true
    either true = refl
    either false = refl
