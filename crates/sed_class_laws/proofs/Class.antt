-- A class of the program is as its bases and fields give it.
use Rattle.std.proofs.Common.{◌≡◌, ◌≢◌, ◌<◌, ◌≤◌, ◌+◌, ◌==◌, ℕ, zero, suc, Bool, true, false, if◌then◌else◌, List, [], ◌∷◌, ◌++◌, length, get_or, map, reverse, slice_get, Option, Some, None, IfSome, refl, sym, ap, ◌∙◌, subst, arith}
use Rattle.std.specs.List.{flat_map, sum_by}
use Rattle.std.specs.Option.{option_and_then, option_map, option_map_or}
use Rattle.std.proofs.lemmas.List.Sums.{sum_by-cons}
use Rattle.std.proofs.lemmas.Option.{slice_get_within}
use Rattle.sed_typed.specs.declared.program.Program.{Program}
use Rattle.sed_typed.specs.declared.number.TypeNo.{TypeNo}
use Rattle.sed_typed.specs.declared.schema.ClassInfo.{ClassInfo}
use Rattle.sed_typed.specs.declared.schema.Schema.{Schema}
use Rattle.sed_typed.specs.Classes as typed
use Rattle.sed_typed.specs.Schemas as schemas
use Rattle.sed_typed.specs.Sizes as sizes
use Rattle.sed_typed.specs.SysTypes.{app_type, component_type}
use Rattle.sed_typed.specs.TypedSchema.{Begins, HasBase, IsClass, is_below, is_below_sys, classes_named}
use Rattle.sed_classes.specs.declared.kit_units.KitUnits.{KitUnits}
use Rattle.sed_classes.specs.Declarations.{Declaration, all_classes, class_at, declared_in, sys_declares}
use Rattle.sed_classes.specs.Bases.{base_of, lineage}
use Rattle.sed_classes.specs.Objects.{data_size, holds_itself, own_size, size_within}
use Rattle.sed_classes.specs.Schema.{class_info, class_infos, schema_of, type_number}
use Rattle.sed_classes.specs.Slots.{own_slots, slots}
use Rattle.sed_program.specs.Types.{place_of, type_no}
use Rattle.sed_program.specs.Fields.{fields_of}
use Rattle.sed_outline.specs.Fits.{Unbroken}
use Rattle.sed_outline.proofs.Fitting.{fits}
use Rattle.sed_outline.proofs.Orders.{others}
use Rattle.sed_program.proofs.Before.{base_before, sys_numbers}
use Rattle.sed_program.proofs.Infos.{ClassAt, info_at, info_of, class_there}
use Rattle.sed_program.proofs.Lineages.{lineage_cons, places}
use Rattle.sed_program.proofs.Order.{number, number_at, number_is, place_in, place_is}
use Rattle.sed_program.proofs.Typed.{base_none, base_some, below_at}
use Rattle.sed_program.proofs.OrderTypes.{type_at_is}
use Rattle.sed_program.proofs.Upward.{up_cons}
use Rattle.sed_program.proofs.Within.{base_within}
use Rattle.sed_class_laws.proofs.Based.{rooted}
use Rattle.sed_class_laws.proofs.Inline.{none_in_itself}
use Rattle.sed_class_laws.proofs.Limits.{config_most, runtime_most, slots_most}
use Rattle.sed_class_laws.proofs.Named.{fresh, named_once}
use Rattle.sed_class_laws.proofs.Sizes.{data_same}
use Rattle.sed_classes.specs.Bases as sources

-- ---- the types of `sys`

module _ (units : List KitUnits) (u : Unbroken units) (d : Declaration) where
  sys_0 : schemas.type_at (class_infos units) 0 0 ≡ Some (number units 0)
  unfolding all_classes
  sys_0 = type_at_is units u 0 (get_or sys_declares 0 d) refl

  sys_1 : schemas.type_at (class_infos units) 0 1 ≡ Some (number units 1)
  unfolding all_classes
  sys_1 = type_at_is units u 1 (get_or sys_declares 1 d) refl

  sys_2 : schemas.type_at (class_infos units) 0 2 ≡ Some (number units 2)
  unfolding all_classes
  sys_2 = type_at_is units u 2 (get_or sys_declares 2 d) refl

  sys_3 : schemas.type_at (class_infos units) 0 3 ≡ Some (number units 3)
  unfolding all_classes
  sys_3 = type_at_is units u 3 (get_or sys_declares 3 d) refl

  sys_4 : schemas.type_at (class_infos units) 0 4 ≡ Some (number units 4)
  unfolding all_classes
  sys_4 = type_at_is units u 4 (get_or sys_declares 4 d) refl

first_kit : (units : List KitUnits) (x : Declaration) → class_at units 0 ≡ Some x → (x.kit ≡ 0) × (x.number ≡ 0)
unfolding all_classes
first_kit units x at =
    let same : get_or sys_declares 0 x ≡ x = cc in
    subst (λ (y : Declaration). (y.kit ≡ 0) × (y.number ≡ 0)) same (refl, refl)

-- they stand at their own numbers
pub sys_type : (units : List KitUnits) → Unbroken units → Declaration → (i : ℕ) → i < 5 →
    schemas.type_at (class_infos units) 0 i ≡ Some i
sys_type units u d zero h = sys_0 units u d ∙ ap Some (sys_numbers units u 0 h)
sys_type units u d (suc zero) h = sys_1 units u d ∙ ap Some (sys_numbers units u 1 h)
sys_type units u d (suc (suc zero)) h = sys_2 units u d ∙ ap Some (sys_numbers units u 2 h)
sys_type units u d (suc (suc (suc zero))) h = sys_3 units u d ∙ ap Some (sys_numbers units u 3 h)
sys_type units u d (suc (suc (suc (suc zero)))) h = sys_4 units u d ∙ ap Some (sys_numbers units u 4 h)
sys_type units u d (suc (suc (suc (suc (suc i))))) h = absurd (omega (arith, h))

pub sys_place : (units : List KitUnits) → Unbroken units → (i : ℕ) → i < 5 → place_of units i ≡ Some i
sys_place units u i h =
    ap (place_of units) (sym (sys_numbers units u i h)) ∙ place_is units u i (omega (arith, h, others units))

-- a class at or below a type of `sys`
pub below_sys : (units : List KitUnits) → Unbroken units → Declaration → (i k class : ℕ) → i < 5 →
    place_of units k ≡ Some class →
    is_below_sys (class_infos units) i k ≡ sources.is_below units i class
below_sys units u d i k class h e =
    ap (λ o. option_map_or (λ above. is_below (class_infos units) above k) o false) (sys_type units u d i h)
    ∙ below_at units u i k i class (sys_place units u i h) e

-- ---- a class against its base

-- a base's slots come first
pub slots_begin : (units : List KitUnits) → Unbroken units → (class base : ℕ) → base_of units class ≡ Some base →
    slots units class ≡ slots units base ++ own_slots units class
slots_begin units u class base e =
    ap (λ xs. flat_map (own_slots units) (reverse xs)) (lineage_cons units u class base e)
    ∙ up_cons (own_slots units) class (lineage units base)

pub slots_at : (units : List KitUnits) → Unbroken units → (k class : ℕ) (d : Declaration) →
    place_of units k ≡ Some class → class_at units class ≡ Some d →
    typed.slots (class_infos units) k ≡ slots units class
slots_at units u k class d e f = ap (λ o. option_map_or (λ (info : ClassInfo). info.slots) o [])
    (info_at units u k class d e f)

-- an object takes no less than one of its base
size_more : (units : List KitUnits) → Unbroken units → (class base : ℕ) → base_of units class ≡ Some base →
    data_size units base ≤ data_size units class
size_more units u class base e = by_places (places units) refl
  where
    whole : (n c : ℕ) → size_within units (suc n) c ≡ sum_by (own_size units (size_within units n)) (lineage units c)
    whole n c = ap (λ b. if b then 0 else sum_by (own_size units (size_within units n)) (lineage units c))
        (none_in_itself units u c)

    by_places : (n : ℕ) → places units ≡ n → data_size units base ≤ data_size units class
    by_places zero s = absurd (omega (arith, s, others units))
    by_places (suc n) s =
        omega (
          arith,
          ap (λ k. size_within units k base) s,
          ap (λ k. size_within units k class) s,
          whole n base,
          whole n class,
          ap (sum_by (own_size units (size_within units n))) (lineage_cons units u class base e),
          sum_by-cons (own_size units (size_within units n)) class (lineage units base),
        )

module _ (units : List KitUnits) (u : Unbroken units) (program : Program) (s : program.schema
    ≡ schema_of units) (f : program.fields ≡ fields_of units) where
  classes_are : program.schema.classes ≡ class_infos units
  classes_are = ap (λ (x : Schema). x.classes) s

  pub size_at : (k class : ℕ) → place_of units k ≡ Some class → sizes.data_size program k ≡ data_size units class
  size_at k class e =
      ap (sizes.data_size program) (sym (number_at units u k class e))
      ∙ data_same units u program s f class (place_in units u k class e).1

  module _ (k class : ℕ) (d : Declaration) (e : place_of units k ≡ Some class) (there : class_at units class
      ≡ Some d) where
    has_base : (base : ℕ) → base_of units class ≡ Some base → HasBase program k (number units base)
    has_base base b =
        let within : base < places units = base_within units class base b in
        let at : place_of units (number units base) ≡ Some base = place_is units u base within in
        let found = class_there units base within in
        record {
          before = omega (arith, base_before units u class base b, number_at units u k class e);
          no_app = λ t.
              let three : Some 3 ≡ Some (number units base) =
              sym (sys_type units u d 3 (omega arith)) ∙ ap (λ cs. schemas.type_at cs 0 3) (sym classes_are) ∙ t in
              let number_three : 3 ≡ number units base = cc in
              let some : Some base ≡ Some 3 = sym at ∙ ap (place_of units) (sym number_three)
              ∙ sys_place units u 3 (omega arith) in
              let same : base ≡ 3 = cc in
              let no : false ≡ true = sym ((rooted units u class).no_app base b) ∙ ap (λ x. x == 3) same in
              cc;
          slots = (
            own_slots units class,
            ap (λ cs. typed.slots cs k) classes_are
                ∙ slots_at units u k class d e there
                ∙ slots_begin units u class base b
                ∙ ap (λ xs. xs ++ own_slots units class) (sym (slots_at units u
                (number units base) base found.0 at found.1))
                ∙ ap (λ cs. typed.slots cs (number units base) ++ own_slots units class) (sym classes_are),
          );
          size = omega (arith, size_at (number units base) base at, size_at k class e, size_more units u class base b);
        }

    based_so : IfSome (typed.base_of program.schema.classes k) (HasBase program k)
    based_so = subst (λ o. IfSome o (HasBase program k)) (sym (ap (λ cs. typed.base_of cs k) classes_are)) (by_base
        (base_of units class) refl)
      where
        by_base : (o : Option ℕ) → base_of units class ≡ o →
            IfSome (typed.base_of (class_infos units) k) (HasBase program k)
        by_base None b = subst (λ o. IfSome o (HasBase program k)) (sym (base_none units u k class e b)) tt
        by_base (Some base) b =
            subst (λ o. IfSome o (HasBase program k)) (sym (base_some units u k class base e b)) (has_base base b)

    root : (class_info units class d).base ≡ None → (d.kit ≡ 0) × (d.number ≡ 0)
    root none = by_base (base_of units class) refl
      where
        by_base : (o : Option ℕ) → base_of units class ≡ o → (d.kit ≡ 0) × (d.number ≡ 0)
        by_base None b =
            let zeroth : class ≡ 0 = (rooted units u class).root b (place_in units u k class e).1 in
            first_kit units d (ap (class_at units) (sym zeroth) ∙ there)
        by_base (Some base) b =
            let some : (class_info units class d).base ≡ Some (type_no (number units base)) =
            ap (λ o. option_map type_no (option_and_then (type_number units) o)) b
            ∙ ap (option_map type_no) (number_is units u base (base_within units class base b)) in
            let no : None ≡ Some (type_no (number units base)) = sym none ∙ some in
            cc

    pub class_is : IsClass program k (class_info units class d)
    class_is = record {
      name_free = (fresh units u class d there).0;
      name_once = ap (λ cs. classes_named cs d.kit d.class.name.bytes) classes_are ∙ named_once units u class d there;
      based = root;
      base = based_so;
      component = sym (ap (λ cs. is_below_sys cs component_type k) classes_are
          ∙ below_sys units u d 2 k class (omega arith) e);
      size = sym (size_at k class e);
      size_most = omega (arith, (fits units u).sizes class);
      slots_most = slots_most units u class;
      config_most = config_most units u class;
      runtime_most = runtime_most units u class;
    }

  pub classes : (k : ℕ) → IfSome (slice_get program.schema.classes k) (IsClass program k)
  classes k =
      subst
      (λ cs. IfSome (slice_get cs k) (IsClass program k))
      (sym classes_are)
      (by_info (slice_get (class_infos units) k) refl)
    where
      by_info : (o : Option ClassInfo) → slice_get (class_infos units) k ≡ o → IfSome o (IsClass program k)
      by_info None e = tt
      by_info (Some info) e =
          let at = info_of units u k info e in
          subst (IsClass program k) (sym at.is) (class_is k at.class at.declared at.place at.there)
