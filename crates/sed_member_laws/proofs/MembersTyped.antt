-- The members of the classes of a program are typed.
use Rattle.std.proofs.Common.{◌≡◌, ◌<◌, ◌≤◌, ◌+◌, ℕ, suc, Bool, true, false, if◌then◌else◌, List, [], ◌∷◌, length, map, filter, slice_get, All, IfSome, Option, Some, None, refl, sym, ap, ◌∙◌, subst, arith}
use Rattle.std.specs.List.{count_by, find, list_any, sum_by}
use Rattle.std.specs.Option.{option_and_then}
use Rattle.std.proofs.lemmas.List.Sums.{sum_by-cons}
use Rattle.sed_typed.specs.declared.kind.Kind.{Kind}
use Rattle.sed_typed.specs.declared.program.Field.{Field}
use Rattle.sed_typed.specs.declared.program.Method.{Method}
use Rattle.sed_typed.specs.declared.program.Program.{Program}
use Rattle.sed_typed.specs.Classes as typed
use Rattle.sed_typed.specs.TypedSchema.{Overrides, members_above, members_named}
use Rattle.sed_units.specs.declared.classes.Member.{Member}
use Rattle.sed_classes.specs.declared.kit_units.KitUnits.{KitUnits}
use Rattle.sed_classes.specs.Bases.{base_of, bases, lineage}
use Rattle.sed_classes.specs.Members.{Owned, declares, has_name, is_instance_field, is_method, is_static_field, kit_of, members_of, nearest, nearest_among, owned}
use Rattle.sed_classes.specs.Schema.{class_order, type_number}
use Rattle.sed_program.specs.Fields.{all_fields}
use Rattle.sed_program.specs.Methods.{MethodAt, method_number}
use Rattle.sed_program.specs.Outlined.{IsHead, IsOutlined}
use Rattle.sed_program.specs.Types.{place_of}
use Rattle.sed_program.specs.Ordered.{IsOrdered, number, places}
use Rattle.sed_member_laws.specs.Faultless.{AreFree}
use Rattle.sed_member_laws.proofs.Flat.{filtered_in, found_in, some_is}
use Rattle.sed_member_laws.proofs.Nearest.{nearest_found, owned_kit}
use Rattle.sed_member_laws.proofs.Own.{found_any, name_itself, same_name}
use Rattle.sed_member_laws.proofs.Rows.{all_from, any_true}
use Rattle.sed_program.proofs.OrderLists.{count_there}
use Rattle.sed_member_laws.proofs.Alike.{alike_on}
use Rattle.sed_member_laws.proofs.Counts.{AreIn, lineage_in, members_count, members_once, none_named, sum_mapped}
use Rattle.sed_member_laws.proofs.Overriding.{OpenAt, Over, fit_of, nearest_like, over, says_override}
use Rattle.sed_member_laws.proofs.Behind.{FieldFrom, From, declared_by, field_from}
use Rattle.sed_member_laws.proofs.Climbing.{bases_cons}
use Rattle.sed_member_laws.proofs.Declaring.{declared_at, number_there}
use Rattle.sed_member_laws.proofs.FieldsAt.{instance_no_method, lineage_parts, static_no_method}
use Rattle.sed_member_laws.proofs.Found.{find_is, other_new}
use Rattle.sed_member_laws.specs.Alike.{Alike}
use Rattle.sed_member_laws.specs.Found.{method_no}

-- ---- classes and their numbers

-- what holds of the class at each place holds of each number
pub by_place : (units : List KitUnits) (program : Program) → IsOrdered units program → (P : ℕ → Type 0) → ((c : ℕ) →
    c < places units → P (number units c)) →
    (k : ℕ) → k < length program.schema.classes → P k
by_place units program o P each k h =
    let found = o.placed k (omega (arith, h, o.infos_len)) in
    subst P (number_there units program o k found.0 found.1) (each found.0 (o.place_in k found.0 found.1).1)

-- the place of a number is one
pub same_place : (units : List KitUnits) (program : Program) → IsOrdered units program → (n c b : ℕ) →
    slice_get (class_order units) n ≡ Some c → b < places units →
    n ≡ number units b → c ≡ b
same_place units program o n c b at h e = some_is c b (sym at ∙ ap (place_of units) e ∙ o.place_is b h)

-- the lineage of a class, by number
pub lineage_sum : (units : List KitUnits) (program : Program) → IsOrdered units program → (f : ℕ → ℕ) (c : ℕ) →
    c < places units →
    sum_by f (typed.lineage program.schema.classes (number units c))
    ≡ f (number units c) + sum_by (λ b. f (number units b)) (bases units c)
lineage_sum units program o f c h =
    ap (sum_by f) (o.lineage_at (number units c) c (o.place_is c h))
    ∙ sum_mapped (number units) f (lineage units c)
    ∙ ap (sum_by (λ b. f (number units b))) (lineage_parts units program o c)
    ∙ sum_by-cons (λ b. f (number units b)) c (bases units c)

pub bases_in : (units : List KitUnits) (program : Program) → IsOrdered units program → (c : ℕ) → c < places units →
    AreIn units (bases units c)
bases_in units program o c h i b e =
    lineage_in units program o c h (suc i) b (ap (λ cs. slice_get cs (suc i)) (lineage_parts units program o c) ∙ e)

-- ---- fields and statics have names of their own

-- a member that is a field stands alone, also above its class
alone : (units : List KitUnits) (program : Program) → AreFree units → IsOrdered units program →
    IsOutlined units program → (c i : ℕ) (m : Member) → c < places units →
    slice_get (members_of units c) i ≡ Some m → is_method m ≡ false →
    1 ≤ members_named program (number units c) m.name.bytes →
    members_above program (number units c) m.name.bytes ≡ 1
alone units program f o p c i m h e field one =
    lineage_sum units program o (λ b. members_named program b m.name.bytes) c h
    ∙ omega (
      arith,
      one,
      members_once units program f o p c m.name.bytes h,
      none_named units program f o p m.name.bytes (bases units c) (bases_in units program o c h)
          (other_new units f c i m e field),
    )

field_alone : (units : List KitUnits) (program : Program) → AreFree units → IsOrdered units program →
    IsOutlined units program → (q : Member → Bool) →
    ((m : Member) → q m ≡ true → is_method m ≡ false) →
    ((c : ℕ) (name : List ℕ) → c < places units → count_by (has_name name) (filter q
    (members_of units c)) ≤ members_named program (number units c) name) →
    (c : ℕ) → c < places units → All (λ (x : Field). x.class.0 ≡ number units c →
    members_above program (number units c) x.name ≡ 1) (all_fields units (λ b. filter q (members_of units b)))
field_alone units program f o p q field most c h =
    all_from
    (λ (x : Field). x.class.0 ≡ number units c → members_above program (number units c) x.name ≡ 1)
    (all_fields units (λ b. filter q (members_of units b)))
    (λ n x e same.
    let from : FieldFrom units (λ b. filter q (members_of units b)) x = field_from units (λ b. filter q
    (members_of units b)) n x e in
    let place : from.class ≡ c = same_place units program o from.number from.class c from.placed h (ap (λ
    (y : Field). y.class.0) from.is ∙ same) in
    let own = filtered_in q (members_of units from.class) from.at from.member from.there in
    let there : slice_get (members_of units c) own.0 ≡ Some from.member = ap (λ b. slice_get
    (members_of units b) own.0) (sym place) ∙ own.1 in
    let counted : 1 ≤ count_by (has_name from.member.name.bytes) (filter q (members_of units c)) =
    count_there
    (has_name from.member.name.bytes)
    (filter q (members_of units c))
    from.at
    from.member
    (ap (λ b. slice_get (filter q (members_of units b)) from.at) (sym place) ∙ from.there)
    (name_itself from.member.name.bytes) in
    let enough : count_by (has_name from.member.name.bytes) (filter q (members_of units c)) ≤ members_named program
    (number units c) from.member.name.bytes =
    most c from.member.name.bytes h in
    ap (members_above program (number units c)) (ap (λ (y : Field). y.name) (sym from.is))
    ∙ alone units program f o p c own.0 from.member h there (field from.member own.2) (omega arith))

pub fields_alone : (units : List KitUnits) (program : Program) → AreFree units → IsOrdered units program →
    IsOutlined units program → (c : ℕ) → c < places units →
    All (λ (x : Field). x.class.0 ≡ number units c → members_above program (number units c) x.name ≡ 1) program.fields
fields_alone units program f o p c h =
    subst
    (All (λ (x : Field). x.class.0 ≡ number units c → members_above program (number units c) x.name ≡ 1))
    (sym p.fields)
    (field_alone units program f o p is_instance_field instance_no_method (λ b name g. omega
    (arith, members_count units program f o p b name g)) c h)

pub statics_alone : (units : List KitUnits) (program : Program) → AreFree units → IsOrdered units program →
    IsOutlined units program → (c : ℕ) → c < places units →
    All (λ (x : Field). x.class.0 ≡ number units c → members_above program (number units c) x.name ≡ 1) program.statics
statics_alone units program f o p c h =
    subst
    (All (λ (x : Field). x.class.0 ≡ number units c → members_above program (number units c) x.name ≡ 1))
    (sym p.statics)
    (field_alone units program f o p is_static_field static_no_method (λ b name g. omega
    (arith, members_count units program f o p b name g)) c h)

-- ---- methods override what they may

-- a class above declares the name
pub above_named : (units : List KitUnits) (name : List ℕ) (cs : List ℕ) (w : Owned) →
    nearest_among units name cs ≡ Some w → list_any (declares units name) cs ≡ true
above_named units name cs w e =
    let s = nearest_found units name cs w e in
    any_true (declares units name) cs s.0 w.class s.1 (found_any (has_name name)
    (members_of units w.class) w.member s.3)

-- the nearest above is like a method that has its name
pub like_above : (units : List KitUnits) (program : Program) → AreFree units → IsOrdered units program →
    (c b i : ℕ) (m : Member) (w : Owned) → base_of units c ≡ Some b →
    slice_get (members_of units c) i ≡ Some m → nearest units b m.name.bytes ≡ Some w →
    Alike units (kit_of units c) m w.kit w.member
like_above units program f o c b i m w e at near =
    let inherited : list_any (declares units m.name.bytes) (bases units c) ≡ true =
    ap (list_any (declares units m.name.bytes)) (bases_cons units program o c b e)
    ∙ above_named units m.name.bytes (lineage units b) w near in
    let up : Over units c m = over units f c i m at (says_override units f c i m at inherited) in
    let fit = fit_of units c up.class m up.member up.fit in
    let other : OpenAt units b m.name.bytes = record {
      step = up.step;
      class = up.class;
      above = ap (λ cs. slice_get cs up.step) (sym (bases_cons units program o c b e)) ∙ up.above;
      at = up.at;
      member = up.member;
      there = up.there;
      is = fit.0;
      named = fit.1;
    } in
    alike_on units (kit_of units c) (kit_of units up.class) w.kit m up.member w.member up.alike
    (nearest_like units program f o m.name.bytes b other w near)

same_params : (units : List KitUnits) (ks js : List Kind) → map (λ k. Some k) ks ≡ map (λ k. Some k) js → ks ≡ js
same_params units [] [] e = refl
same_params units [] (j ∷ js) e = cc
same_params units (k ∷ ks) [] e = cc
same_params units (k ∷ ks) (j ∷ js) e =
    let first : k ≡ j = some_is k j (head_of e) in
    ap (λ x. x ∷ ks) first ∙ ap (λ xs. j ∷ xs) (same_params units ks js (tail_of e))
  where
    head_of : Some k ∷ map (λ x. Some x) ks ≡ Some j ∷ map (λ x. Some x) js → Some k ≡ Some j
    head_of e = cc

    tail_of : Some k ∷ map (λ x. Some x) ks ≡ Some j ∷ map (λ x. Some x) js →
        map (λ x. Some x) ks ≡ map (λ x. Some x) js
    tail_of e = cc

heads_override : (units : List KitUnits) (e d : MethodAt) (x y : Method) → IsHead units e x → IsHead units d y →
    Alike units e.owned.kit e.owned.member d.owned.kit d.owned.member → Overrides x y
heads_override units e d x y g h a = record {
  instance = g.static ∙ a.instance;
  instance_above = h.static ∙ a.instance_too;
  virtual = g.virtual ∙ a.virtual;
  virtual_above = h.virtual ∙ a.virtual_too;
  params = same_params units x.params y.params (g.params ∙ a.params ∙ sym h.params);
  result = some_is x.result y.result (g.result ∙ a.result ∙ sym h.result);
}

pub methods_fit : (units : List KitUnits) (program : Program) → AreFree units → IsOrdered units program →
    IsOutlined units program → (c : ℕ) → c < places units →
    All
    (λ (m : Method). m.class.0 ≡ number units c → IfSome (typed.base_of program.schema.classes (number units c))
    (λ base.
    IfSome (typed.find program base m.name) (λ n. IfSome (slice_get program.methods n) (Overrides m))))
    program.methods
methods_fit units program f o p c h =
    all_from
    (λ (m : Method). m.class.0 ≡ number units c → IfSome (typed.base_of program.schema.classes (number units c))
    (λ base.
    IfSome (typed.find program base m.name) (λ n. IfSome (slice_get program.methods n) (Overrides m))))
    program.methods
    (λ n m e same.
    let from : From units m = declared_by units program p n m e in
    let place : from.class ≡ c = same_place units program o from.number from.class c from.placed h (sym (ap
    (λ t. t.0) from.head.class) ∙ same) in
    subst
    (λ r. IfSome r (λ base. IfSome (typed.find program base m.name) (λ i. IfSome (slice_get program.methods i)
    (Overrides m))))
    (sym (o.base_at (number units c) c (o.place_is c h)))
    (by_base n m from place (base_of units c) refl))
  where
    over_one : (n : ℕ) (m : Method) (from : From units m) → from.class ≡ c → (b : ℕ) → base_of units c ≡ Some b →
        (w : Owned) → nearest units b m.name ≡ Some w →
        (r : Bool) → is_method w.member ≡ r →
        IfSome (if r then Some (method_number units w.class w.member.name.bytes)
        else None) (λ i. IfSome (slice_get program.methods i) (Overrides m))
    over_one n m from place b e w near false is = tt
    over_one n m from place b e w near true is =
        let named : m.name ≡ from.member.name.bytes = from.head.name in
        let near_too : nearest units b from.member.name.bytes ≡ Some w = ap (nearest units b) (sym named) ∙ near in
        let stands = nearest_found units from.member.name.bytes (lineage units b) w near_too in
        let inside = found_in (has_name from.member.name.bytes) (members_of units w.class) w.member stands.3 in
        let first : find (has_name w.member.name.bytes) (members_of units w.class) ≡ Some w.member =
        ap (λ x. find (has_name x) (members_of units w.class))
        (same_name w.member.name.bytes from.member.name.bytes inside.2) ∙ stands.3 in
        let head = declared_at units program f o p w.class inside.0 w.member inside.1 is first in
        let like : Alike units (kit_of units from.class) from.member w.kit w.member =
        like_above
        units
        program
        f
        o
        from.class
        b
        from.at
        from.member
        w
        (ap (base_of units) place ∙ e)
        from.there
        near_too in
        subst
        (λ q. IfSome q (Overrides m))
        (sym head.1)
        (heads_override
        units
        (record { class = from.number; owned = owned from.class (kit_of units from.class) from.member })
        (record { class = number units w.class; owned = owned w.class (kit_of units w.class) w.member })
        m
        head.0
        from.head
        head.2
        (subst (λ kit. Alike units (kit_of units from.class) from.member kit w.member)
        (owned_kit units from.member.name.bytes (lineage units b) w stands) like))

    by_near : (n : ℕ) (m : Method) (from : From units m) → from.class ≡ c → (b : ℕ) → base_of units c ≡ Some b →
        (r : Option Owned) → nearest units b m.name ≡ r →
        IfSome (option_and_then (method_no units) r) (λ i. IfSome (slice_get program.methods i) (Overrides m))
    by_near n m from place b e None near = tt
    by_near n m from place b e (Some w) near = over_one n m from place b e w near (is_method w.member) refl

    by_base : (n : ℕ) (m : Method) (from : From units m) → from.class ≡ c → (r : Option ℕ) → base_of units c ≡ r →
        IfSome (option_and_then (type_number units) r) (λ base. IfSome (typed.find program base m.name) (λ i. IfSome
        (slice_get program.methods i) (Overrides m)))
    by_base n m from place None e = tt
    by_base n m from place (Some b) e =
        subst
        (λ r. IfSome r (λ base. IfSome (typed.find program base m.name) (λ i. IfSome (slice_get program.methods i)
        (Overrides m))))
        (sym (o.number_is b (o.base_in c b e)))
        (subst
        (λ r. IfSome r (λ i. IfSome (slice_get program.methods i) (Overrides m)))
        (sym (find_is units program f o p m.name b (o.base_in c b e)))
        (by_near n m from place b e (nearest units b m.name) refl))
