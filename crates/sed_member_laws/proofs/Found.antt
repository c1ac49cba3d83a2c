-- The method that is found by its name in a class is the nearest member of that name, where that is a method.
use Rattle.std.proofs.Common.{◌≡◌, ◌<◌, ◌&&◌, ℕ, Bool, true, false, not, if◌then◌else◌, List, filter, slice_get, position, Option, Some, None, refl, sym, ap, ◌∙◌, arith}
use Rattle.std.specs.List.{find, list_any, count_by}
use Rattle.std.specs.Option.{option_and_then, option_map, option_or}
use Rattle.sed_typed.specs.declared.program.Program.{Program}
use Rattle.sed_typed.specs.Classes as typed
use Rattle.sed_units.specs.declared.classes.Member.{Member}
use Rattle.sed_classes.specs.declared.kit_units.KitUnits.{KitUnits}
use Rattle.sed_classes.specs.Bases.{bases, lineage}
use Rattle.sed_classes.specs.Members.{Owned, declares, has_name, inherits, is_method, kit_of, members_of, nearest, overrides, own_named, owned}
use Rattle.sed_classes.specs.MemberRules.{fits_one_of}
use Rattle.sed_program.specs.Methods.{method_number, own_methods}
use Rattle.sed_program.specs.Outlined.{IsOutlined}
use Rattle.sed_program.specs.Ordered.{IsOrdered, number, places}
use Rattle.sed_member_laws.specs.Faultless.{AreFree, Keeps}
use Rattle.sed_member_laws.proofs.Flat.{any_counted, count_parts, found_filtered, found_in, position_none}
use Rattle.sed_member_laws.proofs.Own.{member_kept, names_once, none_any, same_name}
use Rattle.sed_program.proofs.OrderLists.{count_there}
use Rattle.sed_member_laws.proofs.Climbing.{bases_cons, climb, find_cons, find_one, nearest_cons, nearest_one, none_among}
use Rattle.sed_member_laws.proofs.Numbers.{declared_is, methods_named, named_in}
use Rattle.sed_member_laws.specs.Found.{method_no}

-- a class has no method of a name
pub none_declared : (units : List KitUnits) (program : Program) → IsOrdered units program → IsOutlined units program →
    (c : ℕ) (name : List ℕ) →
    c < places units → count_by (has_name name) (own_methods units c) ≡ 0 →
    typed.declared_method program.methods name (number units c) ≡ None
none_declared units program o p c name h e =
    position_none (named_in (number units c) name) program.methods (methods_named units program o p c name h ∙ e)

pub no_own : (units : List KitUnits) (c : ℕ) (name : List ℕ) → find (has_name name) (members_of units c) ≡ None →
    count_by (has_name name) (own_methods units c) ≡ 0
no_own units c name e =
    omega (
      arith,
      any_counted (has_name name) (members_of units c) (none_any (has_name name) (members_of units c) e),
      count_parts (has_name name) is_method (members_of units c),
    )

-- where a name is another member's, no method of the class has it
other_own : (units : List KitUnits) → AreFree units → (c : ℕ) (name : List ℕ) (m : Member) →
    find (has_name name) (members_of units c) ≡ Some m →
    is_method m ≡ false → count_by (has_name name) (own_methods units c) ≡ 0
other_own units f c name m e field =
    let there = found_filtered (has_name name) (λ x. not (is_method x)) (members_of units c) m e (ap not field) in
    let found = found_in (has_name name) (members_of units c) m e in
    omega (
      arith,
      names_once units f c name,
      count_parts (has_name name) is_method (members_of units c),
      count_there (has_name name) (filter (λ x. not (is_method x)) (members_of units c)) there.0 m there.2 found.2,
    )

drop_not : (a b i : Bool) → a ≡ false → (not a && i) ≡ false → i ≡ false
drop_not false b i e h = h
drop_not true b i e h = cc

-- a member that is no method has no inherited name
pub other_new : (units : List KitUnits) → AreFree units → (c i : ℕ) (m : Member) →
    slice_get (members_of units c) i ≡ Some m →
    is_method m ≡ false → list_any (declares units m.name.bytes) (bases units c) ≡ false
other_new units f c i m e field =
    let k = member_kept units f c i m e in
    let keeps : Keeps units c k.0 i m = k.3 in
    let own : overrides m ≡ false = by_words (overrides m) (is_method m) (list_any (fits_one_of units k.0.kit m)
    (bases units c)) field keeps.overriding in
    drop_not (overrides m) (overrides m) (inherits units c m.name.bytes) own keeps.inherited
  where
    by_words : (a b x : Bool) → b ≡ false → (a && not (b && x)) ≡ false → a ≡ false
    by_words false b x e h = refl
    by_words true false x e h = cc
    by_words true true x e h = cc

-- what a class and its bases give together
step : (units : List KitUnits) (program : Program) → AreFree units → IsOrdered units program →
    IsOutlined units program → (c : ℕ) (name : List ℕ) →
    c < places units → (more : Option ℕ) (rest : Option Owned) → more ≡ option_and_then (method_no units) rest →
    (list_any (declares units name) (bases units c) ≡ false → rest ≡ None) →
    option_or (typed.declared_method program.methods name (number units c)) more
    ≡ option_and_then (method_no units) (option_or (own_named units name c) rest)
step units program f o p c name h more rest e none = by_found (find (has_name name) (members_of units c)) refl
  where
    mine : Option Member → Option Owned
    mine found = option_map (owned c (kit_of units c)) found

    with_own : (m : Member) → find (has_name name) (members_of units c) ≡ Some m → (i : ℕ) →
        slice_get (members_of units c) i ≡ Some m →
        m.name.bytes ≡ name → (b : Bool) → is_method m ≡ b →
        option_or (typed.declared_method program.methods name (number units c)) more
        ≡ (if is_method m then Some (method_number units c m.name.bytes) else None)
    with_own m found i at same true is =
        let own = found_filtered (has_name name) is_method (members_of units c) m found is in
        let named : position (has_name m.name.bytes) (own_methods units c) ≡ Some own.0 =
        ap (λ x. position (has_name x) (own_methods units c)) same ∙ own.1 in
        ap (λ r. option_or r more) (ap (λ x. typed.declared_method program.methods x (number units c)) (sym same)
        ∙ declared_is units program f o p c own.0 m h own.2 named)
        ∙ sym (ap (λ b. if b then Some (method_number units c m.name.bytes) else None) is)
    with_own m found i at same false is =
        let bare : rest ≡ None = none (ap (λ x. list_any (declares units x) (bases units c)) (sym same)
        ∙ other_new units f c i m at is) in
        ap (λ r. option_or r more) (none_declared units program o p c name h (other_own units f c name m found is))
        ∙ e
        ∙ ap (option_and_then (method_no units)) bare
        ∙ sym (ap (λ b. if b then Some (method_number units c m.name.bytes) else None) is)

    by_found : (r : Option Member) → find (has_name name) (members_of units c) ≡ r →
        option_or (typed.declared_method program.methods name (number units c)) more
        ≡ option_and_then (method_no units) (option_or (own_named units name c) rest)
    by_found None s =
        ap (λ r. option_or r more) (none_declared units program o p c name h (no_own units c name s))
        ∙ e
        ∙ sym (ap (λ r. option_and_then (method_no units) (option_or (mine r) rest)) s)
    by_found (Some m) s =
        let at = found_in (has_name name) (members_of units c) m s in
        with_own m s at.0 at.1 (same_name m.name.bytes name at.2) (is_method m) refl
        ∙ sym (ap (λ r. option_and_then (method_no units) (option_or (mine r) rest)) s)

pub find_is : (units : List KitUnits) (program : Program) → AreFree units → IsOrdered units program →
    IsOutlined units program → (name : List ℕ) (c : ℕ) →
    c < places units → typed.find program (number units c) name
    ≡ option_and_then (method_no units) (nearest units c name)
find_is units program f o p name c =
    climb
    units
    program
    o
    (λ b. b < places units → typed.find program (number units b) name
    ≡ option_and_then (method_no units) (nearest units b name))
    (λ b e h.
    find_one units program o b name h e
    ∙ step units program f o p b name h None None refl (λ _. refl)
    ∙ sym (ap (option_and_then (method_no units)) (nearest_one units program o b name e)))
    (λ b a e later h.
    find_cons units program o b a name h e
    ∙ step units program f o p b name h (typed.find program (number units a) name) (nearest units a name) (later
    (o.base_in b a e))
    (λ n. none_among units name (lineage units a) (sym (ap (list_any (declares units name))
    (bases_cons units program o b a e)) ∙ n))
    ∙ sym (ap (option_and_then (method_no units)) (nearest_cons units program o b a name e)))
    c
