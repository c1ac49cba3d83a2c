-- No field has the name of a method, and the counts of methods are within their bounds.
use Rattle.std.proofs.Common.{◌≡◌, ◌<◌, ◌≤◌, ◌+◌, ◌==◌, ◌&&◌, ◌||◌, ℕ, zero, suc, Bool, true, false, not, if◌then◌else◌, List, [], ◌∷◌, length, take, filter, slice_get, All, Option, Some, None, refl, sym, ap, ◌∙◌, arith}
use Rattle.std.specs.List.{count_by, find, list_any, sum_by}
use Rattle.std.specs.Option.{option_and_then, option_map, option_map_or, option_or}
use Rattle.std.proofs.lemmas.List.Sums.{sum_by-cons}
use Rattle.sed_typed.specs.declared.program.Method.{Method}
use Rattle.sed_typed.specs.declared.program.Program.{Program}
use Rattle.sed_typed.specs.Classes as typed
use Rattle.sed_typed.specs.TypedSchema.{HasMembers, fields_above, fields_named}
use Rattle.sed_typed.specs.Virtual.{AreCounted, begins_virtual, virtual_names}
use Rattle.sed_units.specs.declared.classes.Member.{Member}
use Rattle.sed_classes.specs.declared.kit_units.KitUnits.{KitUnits}
use Rattle.sed_classes.specs.Bases.{base_of, bases, lineage}
use Rattle.sed_classes.specs.Declarations.{Declaration}
use Rattle.sed_classes.specs.LimitRules.{new_virtual, one_if, own_sum, passes}
use Rattle.sed_classes.specs.Members.{Owned, declares, has_name, is_method, is_open, kit_of, members_of, nearest, nearest_among, overrides, owned}
use Rattle.sed_classes.specs.Schema.{class_order, type_number}
use Rattle.sed_program.specs.Methods.{MethodAt, is_virtual, method_number, methods_in, methods_of, own_methods}
use Rattle.sed_program.specs.Outlined.{IsOutlined}
use Rattle.sed_program.specs.Ordered.{IsOrdered, number, places}
use Rattle.sed_member_laws.specs.Faultless.{AreFree, Keeps}
use Rattle.sed_member_laws.proofs.Flat.{any_counted, count_block, count_mapped, found_filtered, found_in, none_passes, one_of, some_is}
use Rattle.sed_member_laws.proofs.Own.{member_kept, name_itself, names_once, none_any, same_name}
use Rattle.sed_member_laws.proofs.Rows.{all_from, any_true}
use Rattle.sed_program.proofs.OrderLists.{count_cons, count_there, is_itself}
use Rattle.sed_member_laws.proofs.Counts.{AreIn, fields_count, grown, lineage_in, members_once, sum_mapped, three_parts}
use Rattle.sed_member_laws.proofs.MembersTyped.{bases_in, by_place, fields_alone, like_above, lineage_sum, methods_fit, same_place, statics_alone}
use Rattle.sed_member_laws.proofs.Overriding.{Over, fit_of, over}
use Rattle.sed_member_laws.proofs.Behind.{From, declared_by}
use Rattle.sed_member_laws.proofs.Climbing.{bases_cons, bases_one, climb, nearest_cons, nearest_one}
use Rattle.sed_member_laws.proofs.FieldsAt.{lineage_parts}
use Rattle.sed_member_laws.proofs.Found.{find_is}
use Rattle.sed_member_laws.proofs.Heads.{heads_count}
use Rattle.sed_member_laws.specs.Alike.{Alike}
use Rattle.sed_member_laws.specs.Found.{method_no}

-- ---- no field has a method's name

-- over the classes at and above one
abbrev fields_over : List KitUnits → Program → List ℕ → List ℕ → ℕ
fields_over units program name cs = sum_by (λ b. fields_named program (number units b) name) cs

fields_few : (units : List KitUnits) (program : Program) → AreFree units → IsOrdered units program →
    IsOutlined units program → (c : ℕ) (name : List ℕ) → c < places units →
    fields_named program (number units c) name + count_by (has_name name) (own_methods units c) ≤ count_by
    (has_name name) (members_of units c)
fields_few units program f o p c name h =
    omega (arith, fields_count units program f o p c name h, three_parts (has_name name) (members_of units c))

-- no class declares the name
fields_none : (units : List KitUnits) (program : Program) → AreFree units → IsOrdered units program →
    IsOutlined units program → (name : List ℕ) (cs : List ℕ) → AreIn units cs →
    nearest_among units name cs ≡ None → fields_over units program name cs ≡ 0
fields_none units program f o p name [] there e = refl
fields_none units program f o p name (c ∷ cs) there e =
    by_found (λ g. fields_none units program f o p name cs (λ i b h. there (suc i) b h) g) (find (has_name name)
    (members_of units c)) refl e
  where
    by_found : (nearest_among units name cs ≡ None → fields_over units program name cs ≡ 0) → (r : Option Member) →
        find (has_name name) (members_of units c) ≡ r →
        option_or (option_map (owned c (kit_of units c)) r) (nearest_among units name cs) ≡ None →
        fields_over units program name (c ∷ cs) ≡ 0
    by_found later None s g =
        omega (
          arith,
          sum_by-cons (λ b. fields_named program (number units b) name) c cs,
          later g,
          fields_few units program f o p c name (there 0 c refl),
          any_counted (has_name name) (members_of units c) (none_any (has_name name) (members_of units c) s),
        )
    by_found later (Some m) s g = cc

-- the class's own, where its first member of the name is a method
own_none : (units : List KitUnits) (program : Program) → AreFree units → IsOrdered units program →
    IsOutlined units program → (c : ℕ) (name : List ℕ) (m : Member) → c < places units →
    find (has_name name) (members_of units c) ≡ Some m → is_method m ≡ true →
    fields_named program (number units c) name ≡ 0
own_none units program f o p c name m h e is =
    let own = found_filtered (has_name name) is_method (members_of units c) m e is in
    let at = found_in (has_name name) (members_of units c) m e in
    omega (
      arith,
      fields_few units program f o p c name h,
      names_once units f c name,
      count_there (has_name name) (own_methods units c) own.0 m own.2 at.2,
    )

-- where a name stands for a method, no field at or above the class has it
abbrev Apart : List KitUnits → Program → List ℕ → ℕ → Type 0
Apart units program name c = c < places units → (w : Owned) → nearest units c name ≡ Some w →
    is_method w.member ≡ true →
    fields_over units program name (lineage units c) ≡ 0

apart_first : (units : List KitUnits) (program : Program) → AreFree units → IsOrdered units program →
    IsOutlined units program → (name : List ℕ) (c : ℕ) → base_of units c ≡ None →
    Apart units program name c
apart_first units program f o p name c e h w near is =
    ap (fields_over units program name) (o.lineage_one c e)
    ∙ by_found (find (has_name name) (members_of units c)) refl (sym (nearest_one units program o c name e) ∙ near)
  where
    by_found : (r : Option Member) → find (has_name name) (members_of units c) ≡ r →
        option_or (option_map (owned c (kit_of units c)) r) None ≡ Some w →
        fields_over units program name (c ∷ []) ≡ 0
    by_found None s g = cc
    by_found (Some m) s g =
        let same : owned c (kit_of units c) m ≡ w = some_is (owned c (kit_of units c) m) w g in
        omega (
          arith,
          sum_by-cons (λ b. fields_named program (number units b) name) c [],
          own_none units program f o p c name m h s (ap (λ (u : Owned). is_method u.member) same ∙ is),
        )

apart_on : (units : List KitUnits) (program : Program) → AreFree units → IsOrdered units program →
    IsOutlined units program → (name : List ℕ) (c b : ℕ) → base_of units c ≡ Some b →
    Apart units program name b → Apart units program name c
apart_on units program f o p name c b e later h w near is =
    ap (fields_over units program name) (o.lineage_cons c b e)
    ∙ by_found (find (has_name name) (members_of units c)) refl (sym (nearest_cons units program o c b name e) ∙ near)
  where
    inside : b < places units
    inside = o.base_in c b e

    above : (m : Member) → find (has_name name) (members_of units c) ≡ Some m → (r : Option Owned) →
        nearest units b name ≡ r →
        fields_over units program name (lineage units b) ≡ 0
    above m s None n = fields_none units program f o p name (lineage units b) (lineage_in units program o b inside) n
    above m s (Some u) n =
        let at = found_in (has_name name) (members_of units c) m s in
        let like : Alike units (kit_of units c) m u.kit u.member =
        like_above units program f o c b at.0 m u e at.1 (ap (nearest units b) (same_name m.name.bytes name at.2)
        ∙ n) in
        later inside u n like.method_too

    by_found : (r : Option Member) → find (has_name name) (members_of units c) ≡ r →
        option_or (option_map (owned c (kit_of units c)) r) (nearest units b name) ≡ Some w →
        fields_over units program name (c ∷ lineage units b) ≡ 0
    by_found None s g =
        omega (
          arith,
          sum_by-cons (λ a. fields_named program (number units a) name) c (lineage units b),
          later inside w g is,
          fields_few units program f o p c name h,
          any_counted (has_name name) (members_of units c) (none_any (has_name name) (members_of units c) s),
        )
    by_found (Some m) s g =
        let same : owned c (kit_of units c) m ≡ w = some_is (owned c (kit_of units c) m) w g in
        omega (
          arith,
          sum_by-cons (λ a. fields_named program (number units a) name) c (lineage units b),
          own_none units program f o p c name m h s (ap (λ (u : Owned). is_method u.member) same ∙ is),
          above m s (nearest units b name) refl,
        )

apart : (units : List KitUnits) (program : Program) → AreFree units → IsOrdered units program →
    IsOutlined units program → (name : List ℕ) (c : ℕ) → Apart units program name c
apart units program f o p name c =
    climb units program o (Apart units program name) (λ b e. apart_first units program f o p name b e)
    (λ b a e later. apart_on units program f o p name b a e later) c

-- a member that is a method is the first of its name in its class
pub first_named : (units : List KitUnits) → AreFree units → (c i : ℕ) (m : Member) →
    slice_get (members_of units c) i ≡ Some m →
    find (has_name m.name.bytes) (members_of units c) ≡ Some m
first_named units f c i m e = by_found (find (has_name m.name.bytes) (members_of units c)) refl
  where
    one_named : (p : Member → Bool) (xs : List Member) (i j : ℕ) (x y : Member) → count_by p xs ≤ 1 →
        slice_get xs i ≡ Some x → p x ≡ true →
        slice_get xs j ≡ Some y → p y ≡ true → x ≡ y
    one_named p [] i j x y n e s g t = cc
    one_named p (z ∷ zs) zero zero x y n e s g t = some_is x y (sym e ∙ g)
    one_named p (z ∷ zs) zero (suc j) x y n e s g t =
        let here : one_of (p z) ≡ 1 = ap (λ w. one_of (p w)) (some_is z x e) ∙ ap one_of s in
        absurd (omega (arith, n, count_cons p z zs, here, count_there p zs j y g t))
    one_named p (z ∷ zs) (suc i) zero x y n e s g t =
        let here : one_of (p z) ≡ 1 = ap (λ w. one_of (p w)) (some_is z y g) ∙ ap one_of t in
        absurd (omega (arith, n, count_cons p z zs, here, count_there p zs i x e s))
    one_named p (z ∷ zs) (suc i) (suc j) x y n e s g t = one_named p zs i j x y (omega
        (arith, n, count_cons p z zs)) e s g t

    by_found : (r : Option Member) → find (has_name m.name.bytes) (members_of units c) ≡ r →
        find (has_name m.name.bytes) (members_of units c) ≡ Some m
    by_found None s =
        let some : list_any (has_name m.name.bytes) (members_of units c) ≡ true =
        any_true (has_name m.name.bytes) (members_of units c) i m e (name_itself m.name.bytes) in
        let clash : true ≡ false = sym some ∙ none_any (has_name m.name.bytes) (members_of units c) s in
        cc
    by_found (Some n) s =
        let at = found_in (has_name m.name.bytes) (members_of units c) n s in
        s ∙ ap Some (one_named (has_name m.name.bytes) (members_of units c) at.0 i n m
        (names_once units f c m.name.bytes) at.1 at.2 e (name_itself m.name.bytes))

nearest_own : (units : List KitUnits) (program : Program) → IsOrdered units program →
    (c : ℕ) (name : List ℕ) (m : Member) → find (has_name name) (members_of units c) ≡ Some m →
    nearest units c name ≡ Some (owned c (kit_of units c) m)
nearest_own units program o c name m e =
    ap (nearest_among units name) (lineage_parts units program o c)
    ∙ ap (λ r. option_or (option_map (owned c (kit_of units c)) r) (nearest_among units name (bases units c))) e

methods_apart : (units : List KitUnits) (program : Program) → AreFree units → IsOrdered units program →
    IsOutlined units program → (c : ℕ) → c < places units →
    All (λ (m : Method). m.class.0 ≡ number units c → fields_above program (number units c) m.name ≡ 0) program.methods
methods_apart units program f o p c h =
    all_from
    (λ (m : Method). m.class.0 ≡ number units c → fields_above program (number units c) m.name ≡ 0)
    program.methods
    (λ n m e same.
    let from : From units m = declared_by units program p n m e in
    let place : from.class ≡ c = same_place units program o from.number from.class c from.placed h (sym (ap
    (λ t. t.0) from.head.class) ∙ same) in
    let there : slice_get (members_of units c) from.at ≡ Some from.member = ap (λ b. slice_get
    (members_of units b) from.at) (sym place) ∙ from.there in
    ap (fields_above program (number units c)) from.head.name
    ∙ ap (sum_by (λ b. fields_named program b from.member.name.bytes)) (o.lineage_at (number units c) c
    (o.place_is c h))
    ∙ sum_mapped (number units) (λ b. fields_named program b from.member.name.bytes) (lineage units c)
    ∙ apart
    units
    program
    f
    o
    p
    from.member.name.bytes
    c
    h
    (owned c (kit_of units c) from.member)
    (nearest_own units program o c from.member.name.bytes from.member (first_named units f c from.at from.member there))
    from.method)

-- ---- how many methods

one_same : (b : Bool) → one_if b ≡ one_of b
one_same true = refl
one_same false = refl

methods_most : (units : List KitUnits) (program : Program) → AreFree units → IsOrdered units program →
    IsOutlined units program → (c : ℕ) → c < places units →
    count_by (λ (m : Method). m.class.0 == number units c) program.methods ≤ 60
methods_most units program f o p c h =
    let all : count_by (λ (m : Method). m.class.0 == number units c) program.methods
    ≡ count_by (λ (m : Member). number units c == number units c) (own_methods units c) =
    heads_count
    units
    (λ (m : Method). m.class.0 == number units c)
    (λ (e : MethodAt). e.class == number units c)
    (λ e m g. ap (λ t. t.0 == number units c) g.class)
    (methods_of units)
    program.methods
    p.methods
    ∙ count_block
    (methods_in units)
    (λ (e : MethodAt). e.class == number units c)
    (number units c)
    (λ e g.
    count_mapped (λ (x : Member). record { class = e.0; owned = owned e.1 (kit_of units e.1) x }) (λ
    (y : MethodAt). y.class == number units c) (own_methods units e.1)
    ∙ none_passes (λ (x : Member). e.0 == number units c) (own_methods units e.1) (λ i x k. g))
    0
    (class_order units)
    (number units c)
    c
    (o.place_is c h)
    (omega arith)
    ∙ count_mapped
    (λ (x : Member). record { class = number units c; owned = owned c (kit_of units c) x })
    (λ (y : MethodAt). y.class == number units c)
    (own_methods units c) in
    let few : 0 + sum_by (λ m. one_of (is_method m)) (members_of units c) ≤ 60 =
    grown
    60
    0
    (λ m. one_of (is_method m))
    (members_of units c)
    (λ i m e.
    let k = member_kept units f c i m e in
    let keeps : Keeps units c k.0 i m = k.3 in
    let none : (0 + count_by is_method (take i (members_of units c)))
    ≡ count_by is_method (take i (members_of units c)) = omega arith in
    ap (λ n. passes 60 n (one_of (is_method m))) none
    ∙ ap (λ (r : Option Declaration). passes 60 (count_by is_method (take i (option_map_or (λ
    (d : Declaration). d.class.members) r []))) (one_of (is_method m))) k.1
    ∙ ap (passes 60 (count_by is_method (take i k.0.class.members))) (sym (one_same (is_method m)))
    ∙ keeps.few)
    (omega arith) in
    omega (arith, all, few, all_pass (own_methods units c) (number units c), filter_count (members_of units c))
  where
    all_pass : (xs : List Member) (k : ℕ) → count_by (λ (m : Member). k == k) xs ≡ length xs
    all_pass [] k = refl
    all_pass (x ∷ xs) k = omega (
      arith,
      count_cons (λ (m : Member). k == k) x xs,
      ap one_of
          (is_itself k),
      all_pass xs k,
    )

    filter_count : (xs : List Member) → length (filter is_method xs) ≡ sum_by (λ m. one_of (is_method m)) xs
    filter_count [] = refl
    filter_count (x ∷ xs) = by_test (is_method x) refl (filter_count xs)
      where
        by_test : (b : Bool) → is_method x ≡ b → length (filter is_method xs) ≡ sum_by (λ m. one_of (is_method m)) xs →
            length (if b then x ∷ filter is_method xs else filter is_method xs)
            ≡ sum_by (λ m. one_of (is_method m)) (x ∷ xs)
        by_test true e g =
            let here : one_of (is_method x) ≡ 1 = ap one_of e in
            let more : sum_by (λ m. one_of (is_method m)) (x ∷ xs)
            ≡ one_of (is_method x) + sum_by (λ m. one_of (is_method m)) xs = sum_by-cons (λ m. one_of
            (is_method m)) x xs in
            omega arith
        by_test false e g =
            let here : one_of (is_method x) ≡ 0 = ap one_of e in
            let more : sum_by (λ m. one_of (is_method m)) (x ∷ xs)
            ≡ one_of (is_method x) + sum_by (λ m. one_of (is_method m)) xs = sum_by-cons (λ m. one_of
            (is_method m)) x xs in
            omega arith

-- ---- virtual methods

-- what a class adds, and what it comes to with its bases
abbrev own_virtual : List KitUnits → ℕ → ℕ
own_virtual units c = own_sum new_virtual units c

virtual_within : (units : List KitUnits) → AreFree units → (c : ℕ) → sum_by (own_virtual units) (bases units c) ≤ 255 →
    sum_by (own_virtual units) (bases units c) + own_virtual units c ≤ 255
virtual_within units f c le =
    grown
    255
    (sum_by (own_virtual units) (bases units c))
    (new_virtual (kit_of units c))
    (members_of units c)
    (λ i m e.
    let k = member_kept units f c i m e in
    let keeps : Keeps units c k.0 i m = k.3 in
    ap
    (λ (r : Option Declaration).
    passes
    255
    (sum_by (own_virtual units) (bases units c) + sum_by (new_virtual (kit_of units c)) (take i (option_map_or (λ
    (d : Declaration). d.class.members) r [])))
    (new_virtual (kit_of units c) m))
    k.1
    ∙ keeps.virtual)
    le

virtual_whole : (units : List KitUnits) (program : Program) → AreFree units → IsOrdered units program → (c : ℕ) →
    sum_by (own_virtual units) (bases units c) + own_virtual units c ≤ 255
virtual_whole units program f o c =
    climb
    units
    program
    o
    (λ b. sum_by (own_virtual units) (bases units b) + own_virtual units b ≤ 255)
    (λ b e. virtual_within units f b (first b e))
    (λ b a e later.
    let row : sum_by (own_virtual units) (bases units b)
    ≡ own_virtual units a + sum_by (own_virtual units) (bases units a) =
    ap (sum_by (own_virtual units)) (bases_cons units program o b a e ∙ lineage_parts units program o a)
    ∙ sum_by-cons (own_virtual units) a (bases units a) in
    virtual_within units f b (omega arith))
    c
  where
    first : (b : ℕ) → base_of units b ≡ None → sum_by (own_virtual units) (bases units b) ≤ 255
    first b e =
        let none : sum_by (own_virtual units) (bases units b)
        ≡ 0 = ap (sum_by (own_virtual units)) (bases_one units program o b e) in
        omega arith

-- a member begins a virtual method: it is virtual, and no method above has its name
abbrev new_among : List KitUnits → Program → ℕ → List ℕ → Bool
new_among units program k name =
    option_map_or (λ (n : ℕ). false) (option_and_then (λ base. typed.find program base name)
    (typed.base_of program.schema.classes k)) true

count_weighed : (p q : Member → Bool) (w : Member → ℕ) (xs : List Member) →
    ((i : ℕ) (x : Member) → slice_get xs i ≡ Some x → q x ≡ true → p x ≡ true → w x ≡ 1) →
    count_by p (filter q xs) ≤ sum_by w xs
count_weighed p q w [] h = omega arith
count_weighed p q w (x ∷ xs) h = by_test (count_weighed p q w xs (λ i y e. h (suc i) y e)) (q x) (p x) refl refl
  where
    more : sum_by w (x ∷ xs) ≡ w x + sum_by w xs
    more = sum_by-cons w x xs

    by_test : count_by p (filter q xs) ≤ sum_by w xs → (a b : Bool) → q x ≡ a → p x ≡ b →
        count_by p (if a then x ∷ filter q xs else filter q xs) ≤ sum_by w (x ∷ xs)
    by_test later false b s t = omega (arith, later, more)
    by_test later true true s t =
        let one : w x ≡ 1 = h 0 x refl s t in
        let here : one_of (p x) ≡ 1 = ap one_of t in
        omega (arith, later, more, count_cons p x (filter q xs))
    by_test later true false s t =
        let here : one_of (p x) ≡ 0 = ap one_of t in
        omega (arith, later, more, count_cons p x (filter q xs))

virtual_own : (units : List KitUnits) (program : Program) → AreFree units → IsOrdered units program →
    IsOutlined units program → (c : ℕ) → c < places units →
    count_by (begins_virtual program (number units c)) program.methods ≤ own_virtual units c
virtual_own units program f o p c h =
    let all : count_by (begins_virtual program (number units c)) program.methods
    ≡ count_by (λ (m : Member). (number units c == number units c) && is_virtual m && new_among units program
    (number units c) m.name.bytes) (own_methods units c) =
    heads_count
    units
    (begins_virtual program (number units c))
    (λ (e : MethodAt). (e.class == number units c) && is_virtual e.owned.member && new_among units program
    (number units c) e.owned.member.name.bytes)
    (λ e m g.
    ap (λ t. (t.0 == number units c) && m.is_virtual && new_among units program (number units c) m.name) g.class
    ∙ ap (λ v. (e.class == number units c) && v && new_among units program (number units c) m.name) g.virtual
    ∙ ap (λ x. (e.class == number units c) && is_virtual e.owned.member && new_among units program
    (number units c) x) g.name)
    (methods_of units)
    program.methods
    p.methods
    ∙ count_block
    (methods_in units)
    (λ (e : MethodAt). (e.class == number units c) && is_virtual e.owned.member && new_among units program
    (number units c) e.owned.member.name.bytes)
    (number units c)
    (λ e g.
    count_mapped
    (λ (x : Member). record { class = e.0; owned = owned e.1 (kit_of units e.1) x })
    (λ (y : MethodAt). (y.class == number units c) && is_virtual y.owned.member && new_among units program
    (number units c) y.owned.member.name.bytes)
    (own_methods units e.1)
    ∙ none_passes
    (λ (x : Member). (e.0 == number units c) && is_virtual x && new_among units program (number units c) x.name.bytes)
    (own_methods units e.1)
    (λ i x k. ap (λ b. b && is_virtual x && new_among units program (number units c) x.name.bytes) g))
    0
    (class_order units)
    (number units c)
    c
    (o.place_is c h)
    (omega arith)
    ∙ count_mapped
    (λ (x : Member). record { class = number units c; owned = owned c (kit_of units c) x })
    (λ (y : MethodAt). (y.class == number units c) && is_virtual y.owned.member && new_among units program
    (number units c) y.owned.member.name.bytes)
    (own_methods units c) in
    omega (
      arith,
      all,
      count_weighed
          (λ (m : Member). (number units c == number units c) && is_virtual m && new_among units program
          (number units c) m.name.bytes)
          is_method
          (new_virtual (kit_of units c))
          (members_of units c)
          (λ i m e is n. weighs i m e is n),
    )
  where
    -- the base has a method of a name that an overriding one has
    has_above : (i : ℕ) (m : Member) → slice_get (members_of units c) i ≡ Some m → overrides m ≡ true →
        (r : Option ℕ) → base_of units c ≡ r →
        option_map_or (λ (n : ℕ). false) (option_and_then (λ base. typed.find program base m.name.bytes)
        (option_and_then (type_number units) r)) true ≡ false
    has_above i m e v None s =
        let up : Over units c m = over units f c i m e v in
        let clash : None ≡ Some up.class = sym (ap (λ cs. slice_get cs up.step) (bases_one units program o c s))
        ∙ up.above in
        cc
    has_above i m e v (Some b) s =
        let up : Over units c m = over units f c i m e v in
        ap
        (λ r. option_map_or (λ (n : ℕ). false) (option_and_then (λ base. typed.find program base m.name.bytes) r) true)
        (o.number_is b (o.base_in c b s))
        ∙ ap (λ r. option_map_or (λ (n : ℕ). false) r true) (find_is units program f o p m.name.bytes b
        (o.base_in c b s))
        ∙ by_near b s up (nearest units b m.name.bytes) refl
      where
        declared_above : (b : ℕ) → base_of units c ≡ Some b → Over units c m →
            list_any (declares units m.name.bytes) (lineage units b) ≡ true
        declared_above b s up =
            any_true
            (declares units m.name.bytes)
            (lineage units b)
            up.step
            up.class
            (ap (λ cs. slice_get cs up.step) (sym (bases_cons units program o c b s)) ∙ up.above)
            (any_true (has_name m.name.bytes) (members_of units up.class) up.at up.member up.there
            (fit_of units c up.class m up.member up.fit).1)

        none_near : (cs : List ℕ) → nearest_among units m.name.bytes cs ≡ None →
            list_any (declares units m.name.bytes) cs ≡ false
        none_near [] g = refl
        none_near (a ∷ rest) g = by_own (λ k. none_near rest k) (find (has_name m.name.bytes)
            (members_of units a)) refl g
          where
            by_own : (nearest_among units m.name.bytes rest ≡ None →
                list_any (declares units m.name.bytes) rest ≡ false) → (r : Option Member) →
                find (has_name m.name.bytes) (members_of units a) ≡ r →
                option_or (option_map (owned a (kit_of units a)) r) (nearest_among units m.name.bytes rest) ≡ None →
                list_any (declares units m.name.bytes) (a ∷ rest) ≡ false
            by_own again None t k = ap (λ q. q || list_any (declares units m.name.bytes) rest) (none_any
                (has_name m.name.bytes) (members_of units a) t) ∙ again k
            by_own again (Some x) t k = cc

        by_near : (b : ℕ) → base_of units c ≡ Some b → Over units c m → (r : Option Owned) →
            nearest units b m.name.bytes ≡ r →
            option_map_or (λ (n : ℕ). false) (option_and_then (method_no units) r) true ≡ false
        by_near b s up None near = let clash : true ≡ false = sym (declared_above b s up)
            ∙ none_near (lineage units b) near in cc
        by_near b s up (Some w) near =
            let like : Alike units (kit_of units c) m w.kit w.member =
            like_above units program f o c b i m w s e near in
            ap (λ q. option_map_or (λ (n : ℕ). false) (if q then Some (method_number units w.class w.member.name.bytes)
            else None) true) like.method_too

    new_false : (i : ℕ) (m : Member) → slice_get (members_of units c) i ≡ Some m → overrides m ≡ true →
        new_among units program (number units c) m.name.bytes ≡ false
    new_false i m e v =
        ap
        (λ r. option_map_or (λ (n : ℕ). false) (option_and_then (λ base. typed.find program base m.name.bytes) r) true)
        (o.base_at (number units c) c (o.place_is c h))
        ∙ has_above i m e v (base_of units c) refl

    weighs : (i : ℕ) (m : Member) → slice_get (members_of units c) i ≡ Some m → is_method m ≡ true →
        ((number units c == number units c) && is_virtual m && new_among units program (number units c) m.name.bytes)
        ≡ true → new_virtual (kit_of units c) m ≡ 1
    weighs i m e is n = by_test (is_open m) (overrides m) refl (new_among units program
        (number units c) m.name.bytes) refl n
      where
        by_test : (a v : Bool) → overrides m ≡ v → (t : Bool) →
            new_among units program (number units c) m.name.bytes ≡ t →
            ((number units c == number units c) && (a || v) && t) ≡ true → one_if (a && not v) ≡ 1
        by_test true false s t r g = refl
        by_test false false s t r g = let clash : false ≡ true = sym (ap (λ b. b && false && t) (is_itself
            (number units c))) ∙ g in cc
        by_test a true s t r g =
            let none : t ≡ false = sym r ∙ new_false i m e s in
            let clash : false ≡ true = sym (gone (number units c == number units c) (a || true) t none) ∙ g in
            cc
          where
            gone : (x y t : Bool) → t ≡ false → (x && y && t) ≡ false
            gone true true t e = e
            gone true false t e = refl
            gone false y t e = refl

virtual_most : AreCounted → (units : List KitUnits) (program : Program) → AreFree units → IsOrdered units program →
    IsOutlined units program → (c : ℕ) → c < places units →
    length (virtual_names program (number units c)) ≤ 255
virtual_most counted units program f o p c h =
    omega (
      arith,
      counted program (number units c),
      lineage_sum units program o (λ k. count_by (begins_virtual program k) program.methods) c h,
      virtual_own units program f o p c h,
      no_more (bases units c) (bases_in units program o c h),
      virtual_whole units program f o c,
    )
  where
    no_more : (cs : List ℕ) → AreIn units cs →
        sum_by (λ b. count_by (begins_virtual program (number units b)) program.methods) cs ≤ sum_by
        (own_virtual units) cs
    no_more [] there = omega arith
    no_more (b ∷ bs) there =
        omega (
          arith,
          sum_by-cons (λ a. count_by (begins_virtual program (number units a)) program.methods) b bs,
          sum_by-cons (own_virtual units) b bs,
          virtual_own units program f o p b (there 0 b refl),
          no_more bs (λ i a g. there (suc i) a g),
        )

-- ---- all together

pub has_members : AreCounted → (units : List KitUnits) (program : Program) → AreFree units → IsOrdered units program →
    IsOutlined units program → (k : ℕ) →
    k < length program.schema.classes → HasMembers program k
has_members counted units program f o p k h =
    by_place
    units
    program
    o
    (HasMembers program)
    (λ c g. record {
      once = λ name. members_once units program f o p c name g;
      fields = fields_alone units program f o p c g;
      statics = statics_alone units program f o p c g;
      methods = methods_fit units program f o p c g;
      methods_apart = methods_apart units program f o p c g;
      methods_most = methods_most units program f o p c g;
      virtual_most = virtual_most counted units program f o p c g;
    })
    k
    h
