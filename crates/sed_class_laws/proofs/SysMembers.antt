-- What the types of `sys` declare.
use Rattle.std.proofs.Common.{◌≡◌, ◌<◌, ◌≤◌, ◌+◌, ◌-◌, ◌==◌, ◌&&◌, ◌||◌, ℕ, zero, suc, Bool, true, false, not, nat_lt, if◌then◌else◌, List, [], ◌∷◌, ◌++◌, codes, filter, get_or, length, map, slice_get, All, IfSome, Option, Some, None, refl, sym, ap, ◌∙◌, subst, arith}
use Rattle.std.specs.List.{enumerate_from, filter_map, flat_map, position}
use Rattle.std.specs.Str.{bytes_eq}
use Rattle.std.specs.Option.{option_map, option_map_or}
use Rattle.std.proofs.lemmas.List.{append-nil}
use Rattle.std.proofs.lemmas.List.Elements.{All-append, All-nil, All-cons, filter-append}
use Rattle.std.proofs.lemmas.Option.{slice_get_within, get_or_from_slice_get, slice_get-get_or}
use Rattle.std.proofs.lemmas.Bool.Decides.{nat_tests}
use Rattle.sed_units.specs.declared.classes.Class.{Class}
use Rattle.sed_units.specs.declared.classes.Unit.{Unit as SourceUnit}
use Rattle.sed_units.specs.declared.classes.Member.{Member}
use Rattle.sed_typed.specs.declared.kind.Kind.{Kind}
use Rattle.sed_typed.specs.declared.kind.Kind.TheVariants as kind
use Rattle.sed_typed.specs.declared.program.Field.{Field}
use Rattle.sed_typed.specs.declared.program.Method.{Method}
use Rattle.sed_typed.specs.declared.program.Program.{Program}
use Rattle.sed_typed.specs.declared.schema.ActionArg.{ActionArg}
use Rattle.sed_typed.specs.declared.schema.ActionArg.TheVariants as argument
use Rattle.sed_typed.specs.declared.schema.ClassInfo.{ClassInfo}
use Rattle.sed_typed.specs.declared.schema.Schema.{Schema}
use Rattle.sed_typed.specs.declared.schema.SlotInfo.{SlotInfo}
use Rattle.sed_typed.specs.Classes as typed
use Rattle.sed_typed.specs.SysMembers.{AreSysMethods, HasSysMembers, IsEmptyBody, IsSysMethod, meta_field, sys_fields, sys_methods}
use Rattle.sed_typed.specs.SysTypes.{meta_slot}
use Rattle.sed_typed.specs.TypedSchema.{argument_kinds}
use Rattle.sed_typed.specs.declared.number.TypeNo.{TypeNo}
use Rattle.sed_classes.specs.declared.kit_units.KitUnits.{KitUnits}
use Rattle.sed_classes.specs.Declarations.{Declaration, all_classes, class_at, declared_in, kit_declares, kits_declare, sys_declares, text_declares}
use Rattle.sed_classes.specs.Members.{form_body, form_params, is_static, kit_of, members_of, owned}
use Rattle.sed_classes.specs.Schema.{class_info, class_infos, class_order, schema_of}
use Rattle.sed_classes.specs.Slots.{slots}
use Rattle.sed_program.specs.Types.{param_kind, place_of, result_kind, type_no}
use Rattle.sed_program.specs.Fields.{all_fields, field_of, fields_of, own_fields, own_statics, slot_no, statics_of}
use Rattle.sed_program.specs.Methods.{MethodAt, is_virtual, methods_in, methods_of, own_methods}
use Rattle.sed_program.specs.Outlined.{AreHeads, IsHead}
use Rattle.sed_outline.specs.Fits.{Unbroken}
use Rattle.sed_outline.proofs.Fitting.{found_declared}
use Rattle.sed_outline.proofs.Orders.{others}
use Rattle.sed_program.proofs.Before.{sys_numbers}
use Rattle.sed_program.proofs.OrderFields.{declared_in_class}
use Rattle.sed_program.proofs.Infos.{info_of}
use Rattle.sed_program.proofs.OrderLists.{is_itself}
use Rattle.sed_program.proofs.Order.{number_at, place_in}
use Rattle.sed_class_laws.specs.Empty.{EmptyStays}
use Rattle.sed_class_laws.proofs.Kits.{slots_2}

-- ---- the classes of `sys` are the first five

abbrev OfKits : Declaration → Type 0
OfKits d = 1 ≤ d.kit

text_later : (kit text n : ℕ) (cs : List Class) → 1 ≤ kit → All OfKits (text_declares kit text n cs)
text_later kit text n [] h = All-nil OfKits
text_later kit text n (c ∷ cs) h =
    All-cons
    OfKits
    (record { kit = kit; text = text; number = n; class = c })
    (text_declares kit text (n + 1) cs)
    h
    (text_later kit text (n + 1) cs h)

kit_later : (kit text n : ℕ) (us : List SourceUnit) → 1 ≤ kit → All OfKits (kit_declares kit text n us)
kit_later kit text n [] h = All-nil OfKits
kit_later kit text n (x ∷ xs) h =
    All-append
    OfKits
    (text_declares kit text n x.classes)
    (kit_declares kit (text + 1) (n + length x.classes) xs)
    (text_later kit text n x.classes h)
    (kit_later kit (text + 1) (n + length x.classes) xs h)

kits_later : (kit : ℕ) (ks : List KitUnits) → 1 ≤ kit → All OfKits (kits_declare kit ks)
kits_later kit [] h = All-nil OfKits
kits_later kit (k ∷ ks) h =
    All-append
    OfKits
    (kit_declares kit 0 0 k.units)
    (kits_declare (kit + 1) ks)
    (kit_later kit 0 0 k.units h)
    (kits_later (kit + 1) ks (omega (arith, h)))

sys_first : (units : List KitUnits) (class : ℕ) (d : Declaration) → class_at units class ≡ Some d → d.kit ≡ 0 →
    class < 5
sys_first units class d e zeroth = by_test (nat_lt class 5) refl
  where
    by_test : (b : Bool) → nat_lt class 5 ≡ b → class < 5
    by_test true t = grind (arith, nat_tests)
    by_test false t =
        let le : 5 ≤ class = grind (arith, nat_tests) in
        let i : ℕ = class - 5 in
        let same : 5 + i ≡ class = omega (arith, le) in
        let known = found_declared units i d (ap (class_at units) same ∙ e) in
        let kit : 1 ≤ (get_or (declared_in units) i d).kit = kits_later 1 units (omega arith) i d known.0 in
        absurd (omega (arith, kit, ap (λ (x : Declaration). x.kit) known.1, zeroth))

-- ---- fields

no_members : (units : List KitUnits) → (members_of units 0 ≡ []) × (members_of units 1 ≡ []) × (members_of units 4 ≡ [])
unfolding all_classes
no_members units = (refl, refl, refl)

sys_statics : (units : List KitUnits) → (own_statics units 0 ≡ []) × (own_statics units 1 ≡ []) × (own_statics units 2
    ≡ []) × (own_statics units 3 ≡ []) × (own_statics units 4 ≡ [])
unfolding all_classes
sys_statics units = (refl, refl, refl, refl, refl)

sys_plain : (units : List KitUnits) → (own_fields units 0 ≡ []) × (own_fields units 1 ≡ []) × (own_fields units 3
    ≡ []) × (own_fields units 4 ≡ [])
unfolding all_classes
sys_plain units = (refl, refl, refl, refl)

-- the field of `meta`, by the slots of its class
meta_so : (units : List KitUnits) (n : ℕ) (all : List SlotInfo) → slots units 2 ≡ all → all ≡ meta_slot ∷ [] →
    filter_map (field_of units n 2) (own_fields units 2) ≡ meta_field n ∷ []
unfolding all_classes
meta_so units n all e g = ap (λ xs. meta_at units n xs) (e ∙ g)
  where
    meta_at : List KitUnits → ℕ → List SlotInfo → List Field
    meta_at us k xs = record (meta_field k) {
      slot = option_map slot_no (position (λ s. bytes_eq s.name
          (codes "meta")) xs);
    } ∷ []

none_of : (units : List KitUnits) (own : ℕ → List Member) (k class : ℕ) → place_of units k ≡ Some class →
    own class ≡ [] → typed.declared_fields (all_fields units own) k ≡ []
none_of units own k class e none = declared_in_class units own k class e ∙ ap (filter_map (field_of units k class)) none

-- ---- methods

-- a head, whose body is empty where its member's is
abbrev IsBoth : List KitUnits → MethodAt → Method → Type 0
IsBoth units e m = IsHead units e m × (form_body e.owned.member.form ≡ Some [] → IsEmptyBody m.body)

abbrev AreBoth : List KitUnits → List MethodAt → List Method → Type 0
AreBoth units [] [] = Unit {0}
AreBoth units (e ∷ es) (m ∷ ms) = IsBoth units e m × AreBoth units es ms
AreBoth units es ms = ⊥

both_from : (units : List KitUnits) (es : List MethodAt) (ms : List Method) → AreHeads units es ms →
    ((i : ℕ) (e : MethodAt) (m : Method) → slice_get es i ≡ Some e → slice_get ms i ≡ Some m →
    form_body e.owned.member.form ≡ Some [] → IsEmptyBody m.body) →
    AreBoth units es ms
both_from units [] [] h g = tt
both_from units [] (m ∷ ms) h g = absurd h
both_from units (e ∷ es) [] h g = absurd h
both_from units (e ∷ es) (m ∷ ms) h g = (
  (h.0, g 0 e m refl refl),
  both_from units es ms h.1 (λ i x y p q r. g
      (suc i) x y p q r),
)

abbrev of_number : ℕ → MethodAt → Bool
of_number k e = e.class == k

abbrev of_class : ℕ → Method → Bool
of_class k m = m.class.0 == k

both_kept : (units : List KitUnits) (k : ℕ) (es : List MethodAt) (ms : List Method) → AreBoth units es ms →
    AreBoth units (filter (of_number k) es) (filter (of_class k) ms)
both_kept units k [] [] h = tt
both_kept units k [] (m ∷ ms) h = absurd h
both_kept units k (e ∷ es) [] h = absurd h
both_kept units k (e ∷ es) (m ∷ ms) h =
    subst
    (λ b. AreBoth units (filter (of_number k) (e ∷ es)) (if b then m ∷ filter (of_class k) ms
    else filter (of_class k) ms))
    (sym (ap (λ (t : TypeNo). t.0 == k) h.0.0.class))
    (by_test (of_number k e) (both_kept units k es ms h.1))
  where
    by_test : (b : Bool) → AreBoth units (filter (of_number k) es) (filter (of_class k) ms) →
        AreBoth units (if b then e ∷ filter (of_number k) es
        else filter (of_number k) es) (if b then m ∷ filter (of_class k) ms else filter (of_class k) ms)
    by_test true rest = (h.0, rest)
    by_test false rest = rest

-- ---- of one class in a row of all

abbrev at_class : List KitUnits → ℕ → ℕ → Member → MethodAt
at_class units n class m = record { class = n; owned = owned class (kit_of units class) m }

same_kept : (units : List KitUnits) (n class : ℕ) (ms : List Member) →
    filter (of_number n) (map (at_class units n class) ms) ≡ map (at_class units n class) ms
same_kept units n class [] = refl
same_kept units n class (m ∷ ms) =
    ap (λ b. if b then at_class units n class m ∷ filter (of_number n) (map (at_class units n class) ms)
    else filter (of_number n) (map (at_class units n class) ms)) (is_itself n)
    ∙ ap (λ r. at_class units n class m ∷ r) (same_kept units n class ms)

other_kept : (units : List KitUnits) (k n class : ℕ) → (n == k) ≡ false → (ms : List Member) →
    filter (of_number k) (map (at_class units n class) ms) ≡ []
other_kept units k n class e [] = refl
other_kept units k n class e (m ∷ ms) =
    ap (λ b. if b then at_class units n class m ∷ filter (of_number k) (map (at_class units n class) ms)
    else filter (of_number k) (map (at_class units n class) ms)) e
    ∙ other_kept units k n class e ms

none_later : (units : List KitUnits) (n a : ℕ) (xs : List ℕ) → n < a →
    filter (of_number n) (flat_map (methods_in units) (enumerate_from a xs)) ≡ []
none_later units n a [] h = refl
none_later units n a (x ∷ xs) h =
    let no_one : (a == n) ≡ false = grind (arith, nat_tests) in
    filter-append (of_number n) (methods_in units (a, x)) (flat_map (methods_in units) (enumerate_from (a + 1) xs))
    ∙ ap (λ r. r ++ filter (of_number n) (flat_map (methods_in units) (enumerate_from (a + 1) xs)))
    (other_kept units n a x no_one (own_methods units x))
    ∙ none_later units n (a + 1) xs (omega (arith, h))

found_methods : (units : List KitUnits) (a k class : ℕ) (xs : List ℕ) → slice_get xs k ≡ Some class →
    filter (of_number (a + k)) (flat_map (methods_in units) (enumerate_from a xs)) ≡ methods_in units (a + k, class)
found_methods units a k class [] e = cc
found_methods units a zero class (x ∷ xs) e =
    let here : a + 0 ≡ a = omega arith in
    let same : x ≡ class = cc in
    ap (λ n. filter (of_number n) (flat_map (methods_in units) (enumerate_from a (x ∷ xs)))) here
    ∙ filter-append (of_number a) (methods_in units (a, x)) (flat_map (methods_in units) (enumerate_from (a + 1) xs))
    ∙ ap (λ r. filter (of_number a) (methods_in units (a, x)) ++ r) (none_later units a (a + 1) xs (omega arith))
    ∙ append-nil (filter (of_number a) (methods_in units (a, x)))
    ∙ same_kept units a x (own_methods units x)
    ∙ ap (λ c. methods_in units (a, c)) same
    ∙ ap (λ n. methods_in units (n, class)) (sym here)
found_methods units a (suc k) class (x ∷ xs) e =
    let further : a + suc k ≡ a + 1 + k = omega arith in
    let no_one : (a == a + suc k) ≡ false = grind (arith, nat_tests) in
    filter-append (of_number (a + suc k)) (methods_in units (a, x)) (flat_map (methods_in units) (enumerate_from
    (a + 1) xs))
    ∙ ap
    (λ r. r ++ filter (of_number (a + suc k)) (flat_map (methods_in units) (enumerate_from (a + 1) xs)))
    (other_kept units (a + suc k) a x no_one (own_methods units x))
    ∙ ap (λ n. filter (of_number n) (flat_map (methods_in units) (enumerate_from (a + 1) xs))) further
    ∙ found_methods units (a + 1) k class xs e
    ∙ ap (λ n. methods_in units (n, class)) (sym further)

-- ---- methods of `sys`

-- a member that is such a method
abbrev Suits : List KitUnits → List ℕ × ActionArg → MethodAt → Type 0
Suits units want e =
    (e.owned.member.name.bytes ≡ want.0)
    × (is_static e.owned.member ≡ false)
    × (is_virtual e.owned.member ≡ true)
    × (result_kind units e.owned.kit e.owned.member ≡ Some kind.Void)
    × (map (param_kind units e.owned.kit) (form_params e.owned.member.form) ≡ map (λ k. Some k) (argument_kinds want.1))
    × (form_body e.owned.member.form ≡ Some [])

abbrev AllSuit : List KitUnits → List (List ℕ × ActionArg) → List MethodAt → Type 0
AllSuit units [] [] = Unit {0}
AllSuit units (w ∷ ws) (e ∷ es) = Suits units w e × AllSuit units ws es
AllSuit units ws es = ⊥

unwrapped : {X : Type 0} (xs ys : List X) → map (λ x. Some x) xs ≡ map (λ x. Some x) ys → xs ≡ ys
unwrapped [] [] e = refl
unwrapped [] (y ∷ ys) e = cc
unwrapped (x ∷ xs) [] e = cc
unwrapped (x ∷ xs) (y ∷ ys) e =
    let same : x ≡ y = cc in
    let rest : map (λ z. Some z) xs ≡ map (λ z. Some z) ys = cc in
    ap (λ z. z ∷ xs) same ∙ ap (λ zs. y ∷ zs) (unwrapped xs ys rest)

sys_method : (units : List KitUnits) (want : List ℕ × ActionArg) (e : MethodAt) (m : Method) → Suits units want e →
    IsBoth units e m → IsSysMethod want.0 want.1 m
sys_method units want e m s b =
    let answer : Some m.result ≡ Some kind.Void = b.0.result ∙ s.3 in
    let void : m.result ≡ kind.Void = cc in
    record {
      name_is = b.0.name ∙ s.0;
      form = (b.0.static ∙ s.1, b.0.virtual ∙ s.2, void, unwrapped m.params (argument_kinds want.1) (b.0.params ∙ s.4));
      body = b.1 s.5;
    }

all_sys : (units : List KitUnits) (wants : List (List ℕ × ActionArg)) (es : List MethodAt) (ms : List Method) →
    AllSuit units wants es → AreBoth units es ms → AreSysMethods wants ms
all_sys units [] [] [] s b = tt
all_sys units [] [] (m ∷ ms) s b = absurd b
all_sys units [] (e ∷ es) ms s b = absurd s
all_sys units (w ∷ ws) [] ms s b = absurd s
all_sys units (w ∷ ws) (e ∷ es) [] s b = absurd b
all_sys units (w ∷ ws) (e ∷ es) (m ∷ ms) s b = (sys_method units w e m s.0 b.0, all_sys units ws es ms s.1 b.1)

suits_sys : (units : List KitUnits) (n : ℕ) →
    AllSuit units (sys_methods 0) (methods_in units (n, 0))
    × AllSuit units (sys_methods 1) (methods_in units (n, 1))
    × AllSuit units (sys_methods 2) (methods_in units (n, 2))
    × AllSuit units (sys_methods 3) (methods_in units (n, 3))
    × AllSuit units (sys_methods 4) (methods_in units (n, 4))
unfolding all_classes
suits_sys units n = (
  tt,
  tt,
  (
    (refl, refl, refl, refl, refl, refl),
    (
      (refl, refl, refl, refl, refl, refl),
      (
        (refl, refl, refl, refl, refl, refl),
        ((refl, refl, refl, refl, refl, refl), tt),
      ),
    ),
  ),
  ((refl, refl, refl, refl, refl, refl), tt),
  tt,
)

-- the types of `sys` are numbered by their places
number_0 : (units : List KitUnits) (d : Declaration) → class_at units 0 ≡ Some d → d.number ≡ 0
unfolding all_classes
number_0 units d e = let same : get_or sys_declares 0 d ≡ d = cc in ap (λ (x : Declaration). x.number) (sym same)

number_1 : (units : List KitUnits) (d : Declaration) → class_at units 1 ≡ Some d → d.number ≡ 1
unfolding all_classes
number_1 units d e = let same : get_or sys_declares 1 d ≡ d = cc in ap (λ (x : Declaration). x.number) (sym same)

number_2 : (units : List KitUnits) (d : Declaration) → class_at units 2 ≡ Some d → d.number ≡ 2
unfolding all_classes
number_2 units d e = let same : get_or sys_declares 2 d ≡ d = cc in ap (λ (x : Declaration). x.number) (sym same)

number_3 : (units : List KitUnits) (d : Declaration) → class_at units 3 ≡ Some d → d.number ≡ 3
unfolding all_classes
number_3 units d e = let same : get_or sys_declares 3 d ≡ d = cc in ap (λ (x : Declaration). x.number) (sym same)

number_4 : (units : List KitUnits) (d : Declaration) → class_at units 4 ≡ Some d → d.number ≡ 4
unfolding all_classes
number_4 units d e = let same : get_or sys_declares 4 d ≡ d = cc in ap (λ (x : Declaration). x.number) (sym same)

-- ---- one class

module _ (units : List KitUnits) (u : Unbroken units) (program : Program) (f : program.fields
    ≡ fields_of units) (t : program.statics ≡ statics_of units)
    (heads : AreHeads units (methods_of units) program.methods) (empty : EmptyStays units program) where
  methods_are : (k class number : ℕ) → place_of units k ≡ Some class →
      AllSuit units (sys_methods number) (methods_in units (k, class)) →
      AreSysMethods (sys_methods number) (typed.declared_methods program.methods k)
  methods_are k class number e s =
      let same : 0 + k ≡ k = omega arith in
      let found : filter (of_number k) (methods_of units) ≡ methods_in units (k, class) =
      ap (λ n. filter (of_number n) (methods_of units)) (sym same)
      ∙ found_methods units 0 k class (class_order units) e
      ∙ ap (λ n. methods_in units (n, class)) same in
      all_sys
      units
      (sys_methods number)
      (methods_in units (k, class))
      (typed.declared_methods program.methods k)
      s
      (subst
      (λ es. AreBoth units es (typed.declared_methods program.methods k))
      found
      (both_kept units k (methods_of units) program.methods (both_from units
      (methods_of units) program.methods heads empty.empty)))

  -- the members of a class by its number in `sys`
  abbrev Members : ℕ → ℕ → Type 0
  Members k number =
      (typed.declared_fields program.fields k ≡ sys_fields number k)
      × (typed.declared_fields program.statics k ≡ [])
      × AreSysMethods (sys_methods number) (typed.declared_methods program.methods k)

  without : (k class : ℕ) → place_of units k ≡ Some class → own_statics units class ≡ [] →
      typed.declared_fields program.statics k ≡ []
  without k class e none = ap (λ fs. typed.declared_fields fs k) t ∙ none_of units (own_statics units) k class e none

  fieldless : (k class : ℕ) → place_of units k ≡ Some class → own_fields units class ≡ [] →
      typed.declared_fields program.fields k ≡ []
  fieldless k class e none = ap (λ fs. typed.declared_fields fs k) f ∙ none_of units (own_fields units) k class e none

  members_so : (k class : ℕ) → class < 5 → place_of units k ≡ Some class → Members k class
  members_so k zero h e = (
    fieldless k 0 e (sys_plain units).0,
    without k 0 e
        (sys_statics units).0,
    methods_are k 0 0 e (suits_sys units k).0,
  )
  members_so k (suc zero) h e = (
    fieldless k 1 e (sys_plain units).1,
    without k 1 e
        (sys_statics units).1,
    methods_are k 1 1 e (suits_sys units k).1,
  )
  members_so k (suc (suc zero)) h e = (
    ap (λ fs. typed.declared_fields fs k) f
        ∙ declared_in_class units (own_fields units) k 2 e
        ∙ meta_so units k (slots units 2) refl (slots_2 units u),
    without k 2 e (sys_statics units).2,
    methods_are k 2 2 e (suits_sys units k).2,
  )
  members_so k (suc (suc (suc zero))) h e = (
    fieldless k 3 e (sys_plain units).2,
    without k 3 e
        (sys_statics units).3,
    methods_are k 3 3 e (suits_sys units k).3,
  )
  members_so k (suc (suc (suc (suc zero)))) h e = (
    fieldless k 4 e (sys_plain units).3,
    without k 4 e
        (sys_statics units).4,
    methods_are k 4 4 e (suits_sys units k).4,
  )
  members_so k (suc (suc (suc (suc (suc c))))) h e = absurd (omega (arith, h))

  sys_number : (class : ℕ) (d : Declaration) → class_at units class ≡ Some d → class < 5 → d.number ≡ class
  sys_number zero d e h = number_0 units d e
  sys_number (suc zero) d e h = number_1 units d e
  sys_number (suc (suc zero)) d e h = number_2 units d e
  sys_number (suc (suc (suc zero))) d e h = number_3 units d e
  sys_number (suc (suc (suc (suc zero)))) d e h = number_4 units d e
  sys_number (suc (suc (suc (suc (suc c))))) d e h = absurd (omega (arith, h))

  module _ (s : program.schema ≡ schema_of units) where
    class_members : (k class : ℕ) (d : Declaration) → place_of units k ≡ Some class → class_at units class ≡ Some d →
        d.kit ≡ 0 → HasSysMembers program k (class_info units class d)
    class_members k class d e there zeroth =
        let h : class < 5 = sys_first units class d there zeroth in
        let so : Members k d.number = subst (Members k) (sym (sys_number class d there h)) (members_so k class h e) in
        record { fields = so.0; statics = so.1; methods = so.2 }

    pub has_sys_members : (k : ℕ) → IfSome (slice_get program.schema.classes k) (λ info. info.kit ≡ 0 →
        HasSysMembers program k info)
    has_sys_members k =
        subst
        (λ cs. IfSome (slice_get cs k) (λ info. info.kit ≡ 0 → HasSysMembers program k info))
        (sym (ap (λ (x : Schema). x.classes) s))
        (by_info (slice_get (class_infos units) k) refl)
      where
        by_info : (o : Option ClassInfo) → slice_get (class_infos units) k ≡ o → IfSome o (λ info. info.kit ≡ 0 →
            HasSysMembers program k info)
        by_info None g = tt
        by_info (Some info) g =
            let at = info_of units u k info g in
            subst
            (λ (i : ClassInfo). i.kit ≡ 0 → HasSysMembers program k i)
            (sym at.is)
            (class_members k at.class at.declared at.place at.there)
