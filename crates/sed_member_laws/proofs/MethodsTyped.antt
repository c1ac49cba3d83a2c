-- The methods of a program are typed, but for their bodies, and each class that is not abstract has bodies for its
-- methods.
use Rattle.std.proofs.Common.{◌≡◌, ◌<◌, ◌≤◌, ◌+◌, ◌==◌, ◌&&◌, ◌||◌, ℕ, zero, suc, Bool, true, false, not, is_some, if◌then◌else◌, List, [], ◌∷◌, ◌++◌, length, map, slice_get, All, IfSome, IsSomeAnd, Option, Some, None, refl, sym, ap, ◌∙◌, subst, arith}
use Rattle.std.specs.List.{find, list_any}
use Rattle.std.specs.Option.{option_and_then}
use Rattle.std.proofs.lemmas.List.{length-map}
use Rattle.std.proofs.lemmas.Bool.Decides.{nat_tests}
use Rattle.sed_typed.specs.declared.kind.Kind.{Kind}
use Rattle.sed_typed.specs.declared.program.Method.{Method}
use Rattle.sed_typed.specs.declared.program.Program.{Program}
use Rattle.sed_typed.specs.Classes as typed
use Rattle.sed_typed.specs.Typed.{HasBodies, IsStorable}
use Rattle.sed_typed.specs.TypedExpr.{IsKindOf}
use Rattle.sed_typed.specs.TypedSchema as schemas
use Rattle.sed_typed.specs.SysTypes.{virtual_type}
use Rattle.sed_units.specs.declared.leaves.ModifierWord.TheVariants as word
use Rattle.sed_units.specs.declared.leaves.Param.{Param}
use Rattle.sed_units.specs.declared.classes.Member.{Member}
use Rattle.sed_classes.specs.declared.kit_units.KitUnits.{KitUnits}
use Rattle.sed_classes.specs.Bases.{is_below, lineage}
use Rattle.sed_classes.specs.Declarations.{Declaration, class_at}
use Rattle.sed_classes.specs.Faults.{param_faults}
use Rattle.sed_classes.specs.LimitRules.{too_long_in_param, too_many_params}
use Rattle.sed_classes.specs.FieldRules.{param_not_fit}
use Rattle.sed_classes.specs.NameRules.{type_without_class}
use Rattle.sed_classes.specs.Members.{Owned, form_body, form_params, has_name, has_word, is_abstract_class, is_method, is_property, kit_of, members_of, nearest, overrides}
use Rattle.sed_classes.specs.MemberRules.{has_abstract_method, has_wrong_body, is_abstract_elsewhere, is_abstract_method, is_abstract_owned, is_named_abstract, is_slot_elsewhere, is_virtual_elsewhere, is_wrong_action, is_wrong_property, reaches_abstract}
use Rattle.sed_classes.specs.SysSource.{component_class, virtual_class}
use Rattle.sed_program.specs.Methods.{is_virtual, method_number}
use Rattle.sed_program.specs.Outlined.{IsOutlined, is_there}
use Rattle.sed_program.specs.Types.{param_kind, place_of}
use Rattle.sed_member_laws.specs.TypedHeads.{IsTypedHead}
use Rattle.sed_program.specs.Ordered.{IsOrdered, number, places}
use Rattle.sed_member_laws.specs.Faultless.{AreFree, Keeps}
use Rattle.sed_member_laws.proofs.Empty.{none_left, none_right, none_said_first, not_broken}
use Rattle.sed_member_laws.proofs.Flat.{behind, found_in}
use Rattle.sed_member_laws.proofs.Nearest.{nearest_found}
use Rattle.sed_member_laws.proofs.Own.{member_kept, or_left, or_right, same_name}
use Rattle.sed_member_laws.proofs.Peel.{runnable}
use Rattle.sed_member_laws.proofs.Rows.{all_from, any_false, any_in, any_true}
use Rattle.sed_member_laws.proofs.Alike.{virtual_instance}
use Rattle.sed_member_laws.proofs.MembersTyped.{by_place}
use Rattle.sed_member_laws.proofs.Behind.{From, declared_by, results_agree}
use Rattle.sed_member_laws.proofs.Declaring.{body_there, declared_at, params_there}
use Rattle.sed_member_laws.proofs.FieldsAt.{behind_it}
use Rattle.sed_member_laws.proofs.Found.{find_is}
use Rattle.sed_member_laws.proofs.Inlined.{abstract_is, below_sys, found_class, sys_virtual}
use Rattle.sed_member_laws.proofs.Placed.{some_places}
use Rattle.sed_member_laws.proofs.SysBases.{base_component, base_virtual}
use Rattle.sed_member_laws.specs.Found.{method_no}

-- ---- below the types of `sys`

-- what is below `Component` is below `Virtual`
component_virtual : (units : List KitUnits) (program : Program) → IsOrdered units program → (c : ℕ) →
    is_below units component_class c ≡ true → is_below units virtual_class c ≡ true
component_virtual units program o c e = chained (lineage units c) (any_in (λ x. x == component_class)
    (lineage units c) e)
  where
    same : (x : ℕ) → (x == 2) ≡ true → x ≡ 2
    same x h = grind (arith, nat_tests)

    chained : (cs : List ℕ) → (i : ℕ) × (x : ℕ) × (slice_get (lineage units c) i ≡ Some x) × ((x == component_class)
        ≡ true) → is_below units virtual_class c ≡ true
    chained cs found =
        let at : slice_get (lineage units c) found.0 ≡ Some 2 = found.2
        ∙ ap (λ (x : ℕ). Some x) (same found.1 found.3) in
        let rest = behind_it units program o c found.0 2 at in
        let virtual_there : slice_get (lineage units 2) 1 ≡ Some 1 =
        ap (λ l. slice_get l 1) (o.lineage_cons 2 1 (base_component units))
        ∙ ap (λ l. slice_get l 0) (o.lineage_cons 1 0 (base_virtual units)) in
        any_true
        (λ x. x == virtual_class)
        (lineage units c)
        (length rest.0 + 1)
        1
        (ap (λ l. slice_get l (length rest.0 + 1)) rest.1 ∙ behind rest.0 (lineage units 2) 1 ∙ virtual_there)
        refl

-- a method that is virtual is declared below `Virtual`
virtual_below : (units : List KitUnits) (program : Program) → AreFree units → IsOrdered units program →
    (c i : ℕ) (m : Member) → slice_get (members_of units c) i ≡ Some m →
    is_method m ≡ true → is_virtual m ≡ true → is_below units virtual_class c ≡ true
virtual_below units program f o c i m e is v =
    let k = member_kept units f c i m e in
    let keeps : Keeps units c k.0 i m = k.3 in
    by_words
    (is_method m)
    (has_word word.Virtual m.modifiers)
    (has_word word.Abstract m.modifiers)
    (has_word word.Action m.modifiers)
    (overrides m)
    (is_below units virtual_class c)
    (is_below units component_class c)
    (is_property m)
    (is_abstract_elsewhere k.0.class m || has_wrong_body m)
    is
    v
    (first_part (is_method m) (is_virtual_elsewhere units c m) (is_abstract_elsewhere k.0.class m)
    (has_wrong_body m) keeps.runnable)
    (or_left
    (is_slot_elsewhere units c m)
    (is_wrong_property units k.0.kit m)
    (or_left
    (is_slot_elsewhere units c m || is_wrong_property units k.0.kit m)
    (is_wrong_action units k.0.kit m)
    keeps.slot))
    (component_virtual units program o c)
  where
    first_part : (a b d x : Bool) → (a && (b || d || x)) ≡ false → (a && b) ≡ false
    first_part true true d x h = cc
    first_part true false d x h = refl
    first_part false b d x h = refl

    by_words : (b v w a o below component p x : Bool) → b ≡ true → ((b && (v || w || a)) || o) ≡ true →
        (b && ((v || w || o) && not below)) ≡ false → ((p || a) && not component) ≡ false → (component ≡ true →
        below ≡ true) → below ≡ true
    by_words b v w a o true component p x is h g k up = refl
    by_words false v w a o false component p x is h g k up = cc
    by_words true true w a o false component p x is h g k up = cc
    by_words true false true a o false component p x is h g k up = cc
    by_words true false false a true false component p x is h g k up = cc
    by_words true false false true false false true p x is h g k up = up refl
    by_words true false false true false false false true x is h g k up = cc
    by_words true false false true false false false false x is h g k up = cc
    by_words true false false false false false component p x is h g k up = cc

-- ---- parameters

-- the ninth would break a rule
params_few : (units : List KitUnits) → AreFree units → (c i : ℕ) (m : Member) →
    slice_get (members_of units c) i ≡ Some m → length (form_params m.form) ≤ 8
params_few units f c i m e = by_length (slice_get (form_params m.form) 8) refl
  where
    ninth : (p : Param) → slice_get (form_params m.form) 8 ≡ Some p → ⊥
    ninth p g =
        let k = member_kept units f c i m e in
        let keeps : Keeps units c k.0 i m = k.3 in
        let none : param_faults units k.0.kit 8 p ≡ [] = none_said_first (param_faults units k.0.kit)
        (form_params m.form) 8 p keeps.params g in
        let count : too_many_params 8 p ≡ [] =
        none_right
        (type_without_class units k.0.kit p.kind ++ param_not_fit units k.0.kit p)
        (too_many_params 8 p)
        (none_left
        (type_without_class units k.0.kit p.kind ++ param_not_fit units k.0.kit p ++ too_many_params 8 p)
        (too_long_in_param p)
        none) in
        let clash : true ≡ false = not_broken true 22 p.at count in
        cc

    short : (xs : List Param) → slice_get xs 8 ≡ None → length xs ≤ 8
    short xs g = past xs 8 g
      where
        past : (xs : List Param) (n : ℕ) → slice_get xs n ≡ None → length xs ≤ n
        past [] n g = omega arith
        past (x ∷ xs) zero g = cc
        past (x ∷ xs) (suc n) g = omega (arith, past xs n g)

    by_length : (r : Option Param) → slice_get (form_params m.form) 8 ≡ r → length (form_params m.form) ≤ 8
    by_length None g = short (form_params m.form) g
    by_length (Some p) g = absurd (ninth p g)

kinds_few : (ks : List Kind) (os : List (Option Kind)) → map (λ k. Some k) ks ≡ os → length ks ≡ length os
kinds_few ks os e = sym (length-map ks (λ k. Some k)) ∙ ap (λ (l : List (Option Kind)). length l) e

-- ---- methods

method_typed : (units : List KitUnits) (program : Program) → AreFree units → IsOrdered units program →
    IsOutlined units program → (n : ℕ) (m : Method) →
    slice_get program.methods n ≡ Some m → IsTypedHead program m
method_typed units program f o p n m e =
    let from : From units m = declared_by units program p n m e in
    let kept = member_kept units f from.class from.at from.member from.there in
    let keeps : Keeps units from.class kept.0 from.at from.member = kept.3 in
    let place : place_of units from.number ≡ Some from.class = from.placed in
    let inside = o.place_in from.number from.class place in
    let class : m.class.0 ≡ from.number = ap (λ t. t.0) from.head.class in
    let params : length m.params ≡ length (map (param_kind units (kit_of units from.class))
    (form_params from.member.form)) =
    kinds_few m.params (map (param_kind units (kit_of units from.class))
    (form_params from.member.form)) from.head.params in
    let count : length (map (param_kind units (kit_of units from.class)) (form_params from.member.form))
    ≡ length (form_params from.member.form) =
    length-map (form_params from.member.form) (param_kind units (kit_of units from.class)) in
    let virtual = sys_virtual units in
    record {
      class = omega (arith, class, inside.0, o.infos_len);
      params =
          all_from
          (IsStorable program)
          m.params
          (params_there units program f o from.class from.at from.member from.there m.params from.head.params);
      params_most = omega (arith, params, count, params_few units f from.class from.at from.member from.there);
      result = one_result n m e (results_agree units program f o p n);
      virtual = λ v.
          let is : is_virtual from.member ≡ true = sym from.head.virtual ∙ v in (
            from.head.static ∙ virtual_instance units f from.class from.at from.member from.there from.method is,
            ap (schemas.is_below_sys program.schema.classes virtual_type) class
                ∙ ap (λ k. schemas.is_below_sys program.schema.classes k from.number) (sym virtual.2)
                ∙ below_sys units program o 1 from.number from.class virtual.0 virtual.1 (omega
                (arith, some_places units)) virtual.3 place
                ∙ virtual_below units program f o from.class from.at from.member from.there from.method is,
          );
      no_body = λ bare.
          let none : is_some (form_body from.member.form)
          ≡ false = sym (same_some m.body (form_body from.member.form) from.head.bodied) ∙ ap is_some bare in
          let abstract : has_word word.Abstract from.member.modifiers ≡ true =
          turned
          (is_some (form_body from.member.form))
          (has_word word.Abstract from.member.modifiers)
          none
          (body_there units program f from.class from.at from.member from.there from.method) in (
            from.head.virtual ∙ is_virtual_of (is_method from.member) (has_word word.Virtual from.member.modifiers)
                (has_word word.Abstract from.member.modifiers) (has_word word.Action from.member.modifiers)
                (overrides from.member) from.method abstract,
            ap (schemas.is_abstract program.schema.classes) class
                ∙ abstract_is units program o from.number from.class kept.0 place kept.1
                ∙ abstract_class (is_method from.member) (is_virtual_elsewhere units from.class from.member)
                (has_word word.Abstract from.member.modifiers) (is_abstract_class kept.0.class)
                (has_wrong_body from.member) from.method abstract keeps.runnable,
          );
    }
  where
    one_result : (n : ℕ) (m : Method) → slice_get program.methods n ≡ Some m →
        IfSome (slice_get program.methods n) (λ (x : Method). IsKindOf program x.result) → IsKindOf program m.result
    one_result n m e h = subst (λ r. IfSome r (λ (x : Method). IsKindOf program x.result)) e h

    there_some : {X : Type 0} (u : Option X) → is_there u ≡ is_some u
    there_some None = refl
    there_some (Some x) = refl

    same_some : {X Y : Type 0} (u : Option X) (v : Option Y) → is_there u ≡ is_there v → is_some u ≡ is_some v
    same_some u v e = sym (there_some u) ∙ e ∙ there_some v

    turned : (s w : Bool) → s ≡ false → s ≡ not w → w ≡ true
    turned s true e g = refl
    turned s false e g = let clash : false ≡ true = sym e ∙ g in cc

    is_virtual_of : (b v w a o : Bool) → b ≡ true → w ≡ true → ((b && (v || w || a)) || o) ≡ true
    is_virtual_of false v w a o e g = cc
    is_virtual_of true v false a o e g = cc
    is_virtual_of true true true a o e g = refl
    is_virtual_of true false true a o e g = refl

    abstract_class : (b v w d x : Bool) → b ≡ true → w ≡ true → (b && (v || (w && not d) || x)) ≡ false → d ≡ true
    abstract_class b v w true x e g h = refl
    abstract_class false v w false x e g h = cc
    abstract_class true v false false x e g h = cc
    abstract_class true true true false x e g h = cc
    abstract_class true false true false x e g h = cc

pub methods_typed : (units : List KitUnits) (program : Program) → AreFree units → IsOrdered units program →
    IsOutlined units program → All (IsTypedHead program) program.methods
methods_typed units program f o p = all_from (IsTypedHead program) program.methods (method_typed units program f o p)

-- ---- bodies of classes that are not abstract

-- a name at or above such a class stands for no abstract method
bodied : (units : List KitUnits) (program : Program) → AreFree units → IsOrdered units program →
    IsOutlined units program → (c : ℕ) → c < places units → HasBodies program (number units c)
bodied units program f o p c h concrete n =
    subst
    (λ r. IfSome r (λ k. IsSomeAnd (slice_get program.methods k) (λ (x : Method). x.body ≡ None → ⊥)))
    (sym (find_is units program f o p (typed.method_name program n) c h))
    (by_near (nearest units c (typed.method_name program n)) refl)
  where
    name : List ℕ
    name = typed.method_name program n

    not_abstract : (d : Declaration) → class_at units c ≡ Some d → is_abstract_class d.class ≡ false
    not_abstract d at = sym (abstract_is units program o (number units c) c d (o.place_is c h) at) ∙ concrete

    none_reached : reaches_abstract units c ≡ false
    none_reached =
        let found = found_class units c h in
        or_right
        (list_any is_abstract_method (members_of units c))
        (reaches_abstract units c)
        (by_class (is_abstract_class found.0.class) (has_abstract_method units c) (not_abstract found.0 found.1)
        (runnable units c found.0 (f.free c found.0 found.1)))
      where
        by_class : (a b : Bool) → a ≡ false → (not a && b) ≡ false → b ≡ false
        by_class true b e g = cc
        by_class false b e g = g

    plain : (w : Owned) → nearest units c name ≡ Some w → (i : ℕ) →
        slice_get (members_of units w.class) i ≡ Some w.member → w.member.name.bytes ≡ name → (s : ℕ) →
        slice_get (lineage units c) s ≡ Some w.class → is_abstract_method w.member ≡ false
    plain w near i at same s above =
        sym (ap is_abstract_owned near)
        ∙ sym (ap (λ x. is_abstract_owned (nearest units c x)) same)
        ∙ any_false
        (is_named_abstract units c)
        (members_of units w.class)
        (any_false (λ b. list_any (is_named_abstract units c) (members_of units b))
        (lineage units c) none_reached s w.class above)
        i
        w.member
        at

    with_body : (w : Owned) → nearest units c name ≡ Some w → (b : Bool) → is_method w.member ≡ b →
        IfSome (if b then Some (method_number units w.class w.member.name.bytes)
        else None) (λ k. IsSomeAnd (slice_get program.methods k) (λ (x : Method). x.body ≡ None → ⊥))
    with_body w near false is = tt
    with_body w near true is =
        let stands = nearest_found units name (lineage units c) w near in
        let inside = found_in (has_name name) (members_of units w.class) w.member stands.3 in
        let same : w.member.name.bytes ≡ name = same_name w.member.name.bytes name inside.2 in
        let first : find (has_name w.member.name.bytes) (members_of units w.class)
        ≡ Some w.member = ap (λ x. find (has_name x) (members_of units w.class)) same ∙ stands.3 in
        let head = declared_at units program f o p w.class inside.0 w.member inside.1 is first in
        let concrete_one : (is_method w.member && has_word word.Abstract w.member.modifiers)
        ≡ false = plain w near inside.0 inside.1 same stands.0 stands.1 in
        let body : is_some (form_body w.member.form) ≡ true =
        body_there units program f w.class inside.0 w.member inside.1 is
        ∙ ap not (by_method (is_method w.member) (has_word word.Abstract w.member.modifiers) is concrete_one) in
        subst
        (λ r. IsSomeAnd r (λ (x : Method). x.body ≡ None → ⊥))
        (sym head.1)
        (λ none.
        let clash : false ≡ true = sym (ap is_there none) ∙ head.2.bodied ∙ there_some (form_body w.member.form)
        ∙ body in
        differ clash)
      where
        differ : false ≡ true → ⊥
        differ e = cc

        there_some : {X : Type 0} (u : Option X) → is_there u ≡ is_some u
        there_some None = refl
        there_some (Some x) = refl

        by_method : (a b : Bool) → a ≡ true → (a && b) ≡ false → b ≡ false
        by_method true b e g = g
        by_method false b e g = cc

    by_near : (r : Option Owned) → nearest units c name ≡ r →
        IfSome (option_and_then (method_no units) r) (λ k. IsSomeAnd (slice_get program.methods k) (λ
        (x : Method). x.body ≡ None → ⊥))
    by_near None near = tt
    by_near (Some w) near = with_body w near (is_method w.member) refl

pub has_bodies : (units : List KitUnits) (program : Program) → AreFree units → IsOrdered units program →
    IsOutlined units program → (k : ℕ) →
    k < length program.schema.classes → HasBodies program k
has_bodies units program f o p k h = by_place units program o (HasBodies program) (bodied units program f o p) k h
