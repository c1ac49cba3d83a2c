-- The numbers of methods: where a method of a class stands among those of a program, and how often a name stands there.
use Rattle.std.proofs.Common.{◌≡◌, ◌<◌, ◌≤◌, ◌+◌, ◌==◌, ◌&&◌, ℕ, Bool, false, List, length, take, slice_get, position, unwrap_or, Option, Some, None, sym, ap, ◌∙◌, arith}
use Rattle.std.specs.List.{enumerate_from, sum_by, count_by}
use Rattle.std.specs.Str.{bytes_eq}
use Rattle.std.proofs.lemmas.List.{length-map}
use Rattle.std.proofs.lemmas.Option.{slice_get-map}
use Rattle.sed_typed.specs.declared.program.Method.{Method}
use Rattle.sed_typed.specs.declared.program.Program.{Program}
use Rattle.sed_typed.specs.Classes.{declared_method}
use Rattle.sed_units.specs.declared.classes.Member.{Member}
use Rattle.sed_classes.specs.declared.kit_units.KitUnits.{KitUnits}
use Rattle.sed_classes.specs.Members.{has_name, is_method, kit_of, members_of, owned}
use Rattle.sed_classes.specs.Schema.{class_order}
use Rattle.sed_program.specs.Fields.{before_class}
use Rattle.sed_program.specs.Methods.{MethodAt, method_number, methods_in, methods_of, own_methods}
use Rattle.sed_program.specs.Outlined.{IsHead, IsOutlined}
use Rattle.sed_program.specs.Ordered.{IsOrdered, number, places}
use Rattle.sed_member_laws.specs.Faultless.{AreFree}
use Rattle.sed_member_laws.proofs.Flat.{count_block, count_mapped, count_parts, count_same, flat_at, lengths, none_passes, numbered_at, numbers_taken, sum_same}
use Rattle.sed_member_laws.proofs.Own.{name_itself, names_once}
use Rattle.sed_program.proofs.OrderLists.{is_itself, once_at}
use Rattle.sed_member_laws.proofs.Heads.{head_at, heads_count}

-- ---- where a method stands

methods_before : (units : List KitUnits) (xs : List ℕ) (n : ℕ) →
    sum_by (lengths (methods_in units)) (take n (enumerate_from 0 xs))
    ≡ sum_by (λ c. length (own_methods units c)) (take n xs)
methods_before units xs n =
    sum_same
    (lengths (methods_in units))
    (λ (e : ℕ × ℕ). length (own_methods units e.1))
    (take n (enumerate_from 0 xs))
    (λ e. length-map (own_methods units e.1) (λ m. record { class = e.0; owned = owned e.1 (kit_of units e.1) m }))
    ∙ numbers_taken (λ c. length (own_methods units c)) 0 xs n

pub method_at : (units : List KitUnits) (program : Program) → IsOrdered units program → (c j : ℕ) (m : Member) →
    c < places units →
    slice_get (own_methods units c) j ≡ Some m → position (has_name m.name.bytes) (own_methods units c) ≡ Some j →
    slice_get (methods_of units) (method_number units c m.name.bytes)
    ≡ Some (record { class = number units c; owned = owned c (kit_of units c) m })
method_at units program o c j m h e p =
    let at : 0 + number units c ≡ number units c = omega arith in
    let first : slice_get (enumerate_from 0 (class_order units)) (number units c) ≡ Some (number units c, c) =
    numbered_at 0 (class_order units) (number units c) c (o.place_is c h) ∙ ap (λ n. Some (n, c)) at in
    let own : slice_get (methods_in units (number units c, c)) j
    ≡ Some (record { class = number units c; owned = owned c (kit_of units c) m }) =
    slice_get-map (λ (x : Member). record { class = number units c; owned = owned c (kit_of units c) x })
    (own_methods units c) j
    ∙ ap (option_at (number units c)) e in
    let place : method_number units c m.name.bytes ≡ sum_by (lengths (methods_in units)) (take (number units c)
    (enumerate_from 0 (class_order units))) + j =
    ap (λ n. before_class (λ b. length (own_methods units b)) units c + unwrap_or n 0) p
    ∙ sym (ap (λ n. n + j) (methods_before units (class_order units) (number units c))) in
    ap (slice_get (methods_of units)) place
    ∙ flat_at (methods_in units) (enumerate_from 0 (class_order units)) (number units c) j (number units c, c)
    (record { class = number units c; owned = owned c (kit_of units c) m }) first own
  where
    option_at : ℕ → Option Member → Option MethodAt
    option_at n None = None
    option_at n (Some x) = Some (record { class = n; owned = owned c (kit_of units c) x })

-- ---- how often a name stands among the methods of a class

abbrev pub named_in : ℕ → List ℕ → Method → Bool
named_in class name m = (m.class.0 == class) && bytes_eq m.name name

abbrev pub stands_in : ℕ → List ℕ → MethodAt → Bool
stands_in class name e = (e.class == class) && bytes_eq e.owned.member.name.bytes name

head_named : (units : List KitUnits) (class : ℕ) (name : List ℕ) (e : MethodAt) (m : Method) → IsHead units e m →
    named_in class name m ≡ stands_in class name e
head_named units class name e m h =
    ap (λ n. (n == class) && bytes_eq m.name name) (ap (λ t. t.0) h.class)
    ∙ ap (λ x. (e.class == class) && bytes_eq x name) h.name

of_class : (units : List KitUnits) (c : ℕ) (name : List ℕ) (k : ℕ) →
    count_by (stands_in k name) (methods_in units (k, c)) ≡ count_by (has_name name) (own_methods units c)
of_class units c name k =
    count_mapped (λ (x : Member). record { class = k; owned = owned c (kit_of units c) x }) (stands_in k name)
    (own_methods units c)
    ∙ count_same
    (λ (x : Member). (k == k) && has_name name x)
    (has_name name)
    (own_methods units c)
    (λ x. ap (λ b. b && has_name name x) (is_itself k))

of_others : (units : List KitUnits) (name : List ℕ) (k : ℕ) (e : ℕ × ℕ) → (e.0 == k) ≡ false →
    count_by (stands_in k name) (methods_in units e) ≡ 0
of_others units name k e h =
    count_mapped (λ (x : Member). record { class = e.0; owned = owned e.1 (kit_of units e.1) x }) (stands_in k name)
    (own_methods units e.1)
    ∙ none_passes
    (λ (x : Member). (e.0 == k) && has_name name x)
    (own_methods units e.1)
    (λ i x g. ap (λ b. b && has_name name x) h)

pub methods_named : (units : List KitUnits) (program : Program) → IsOrdered units program → IsOutlined units program →
    (c : ℕ) (name : List ℕ) →
    c < places units → count_by (named_in (number units c) name) program.methods
    ≡ count_by (has_name name) (own_methods units c)
methods_named units program o p c name h =
    heads_count
    units
    (named_in (number units c) name)
    (stands_in (number units c) name)
    (head_named units (number units c) name)
    (methods_of units)
    program.methods
    p.methods
    ∙ count_block
    (methods_in units)
    (stands_in (number units c) name)
    (number units c)
    (of_others units name (number units c))
    0
    (class_order units)
    (number units c)
    c
    (o.place_is c h)
    (omega arith)
    ∙ of_class units c name (number units c)

pub methods_once : (units : List KitUnits) → AreFree units → (c : ℕ) (name : List ℕ) →
    count_by (has_name name) (own_methods units c) ≤ 1
methods_once units f c name = omega (
  arith,
  names_once units f c name,
  count_parts (has_name name) is_method
      (members_of units c),
)

-- ---- the number of a method by its name

pub declared_is : (units : List KitUnits) (program : Program) → AreFree units → IsOrdered units program →
    IsOutlined units program → (c j : ℕ) (m : Member) →
    c < places units → slice_get (own_methods units c) j ≡ Some m →
    position (has_name m.name.bytes) (own_methods units c) ≡ Some j →
    declared_method program.methods m.name.bytes (number units c) ≡ Some (method_number units c m.name.bytes)
declared_is units program f o p c j m h e at =
    let found = head_at
    units
    (methods_of units)
    program.methods
    p.methods
    (method_number units c m.name.bytes)
    (record { class = number units c; owned = owned c (kit_of units c) m })
    (method_at units program o c j m h e at) in
    once_at
    (named_in (number units c) m.name.bytes)
    program.methods
    (method_number units c m.name.bytes)
    found.0
    (omega (arith, methods_named units program o p c m.name.bytes h, methods_once units f c m.name.bytes))
    found.1
    (head_named units (number units c) m.name.bytes (record {
      class = number units c;
      owned = owned c
          (kit_of units c) m;
    }) found.0 found.2
    ∙ ap (λ b. b && bytes_eq m.name.bytes m.name.bytes) (is_itself (number units c))
    ∙ name_itself m.name.bytes)
