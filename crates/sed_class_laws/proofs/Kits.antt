-- The kits of a program, and the types of `sys`.
use Rattle.std.proofs.Common.{◌≡◌, ◌<◌, ◌≤◌, ◌+◌, ◌==◌, ◌&&◌, ℕ, zero, suc, Bool, true, false, IsTrue, if◌then◌else◌, List, [], ◌∷◌, ◌++◌, codes, get_or, length, map, slice_get, Option, Some, None, All, IsSomeAnd, refl, sym, ap, ◌∙◌, subst, arith}
use Rattle.std.specs.List.{count_by, enumerate_from, flat_map, sum_by, list_any}
use Rattle.std.specs.Option.{option_and_then, option_map}
use Rattle.std.specs.Str.{bytes_eq}
use Rattle.std.proofs.lemmas.List.Elements.{All-cons, All-nil}
use Rattle.std.proofs.lemmas.Option.{slice_get-get_or, slice_get_within}
use Rattle.std.proofs.lemmas.Bool.Decides.{nat_tests}
use Rattle.sed_value.specs.Names.{is_kit_name}
use Rattle.sed_value.specs.declared.kit.KitRef.{KitRef}
use Rattle.sed_value.specs.declared.slot_type.Primitive.TheVariants as prim
use Rattle.sed_typed.specs.declared.number.TypeNo.{TypeNo}
use Rattle.sed_typed.specs.declared.schema.ClassInfo.{ClassInfo}
use Rattle.sed_typed.specs.declared.schema.SlotInfo.{SlotInfo}
use Rattle.sed_typed.specs.Schemas as schemas
use Rattle.sed_typed.specs.SysTypes.{HasSysType, HasSysTypes, IsSysType, meta_slot, save_slot}
use Rattle.sed_typed.specs.TypedSchema.{HasKits, types_at, types_of}
use Rattle.sed_classes.specs.declared.kit_units.KitUnits.{KitUnits}
use Rattle.sed_classes.specs.Declarations.{Declaration, all_classes, class_at, declared_in, sys_declares}
use Rattle.sed_classes.specs.Bases.{base_of, is_below, lineage}
use Rattle.sed_classes.specs.Members.{is_abstract_class}
use Rattle.sed_classes.specs.Objects.{data_size, own_size, size_within}
use Rattle.sed_classes.specs.Schema.{class_info, class_infos, kit_names, kit_refs, schema_of, signed_kit, type_number}
use Rattle.sed_classes.specs.Slots.{own_slots, slots}
use Rattle.sed_program.specs.Types.{place_of, type_no}
use Rattle.sed_outline.specs.Fits.{Unbroken, Written}
use Rattle.sed_outline.proofs.Bounds.{base_app, base_component, base_folder, base_obj, base_virtual}
use Rattle.sed_outline.proofs.Fitting.{fits, frees}
use Rattle.sed_outline.proofs.Infos.{all_at}
use Rattle.sed_outline.proofs.Orders.{others}
use Rattle.sed_program.proofs.Infos.{ClassAt, info_at, info_of}
use Rattle.sed_program.proofs.Kits.{kit_few, numbered, sys_five}
use Rattle.sed_program.proofs.Lineages.{lineage_cons, lineage_one, places}
use Rattle.sed_program.proofs.Order.{number, number_is}
use Rattle.sed_program.proofs.Before.{sys_numbers}
use Rattle.sed_program.proofs.OrderTypes.{type_sum, types_sum}
use Rattle.sed_class_laws.specs.Kits.{KitsNamed}
use Rattle.sed_class_laws.proofs.Class.{slots_begin, sys_place, sys_type}
use Rattle.sed_class_laws.proofs.Inline.{none_in_itself}
use Rattle.sed_program.proofs.OrderLists.{count_cons, weight}
use Rattle.sed_class_laws.proofs.Statics.{some_declaration}
use Rattle.std.specs.Prelude.{reverse}

-- ---- the names of kits

refs_len : (units : List KitUnits) → length (kit_refs units) ≡ suc (length units)
refs_len units = mapped_len (signed_kit units) 0 (kit_names units) ∙ ap suc (names_len units)
  where
    mapped_len : (f : ℕ × List ℕ → KitRef) (a : ℕ) (names : List (List ℕ)) →
        length (map f (enumerate_from a names)) ≡ length names
    mapped_len f a [] = refl
    mapped_len f a (n ∷ ns) = ap suc (mapped_len f (a + 1) ns)

    names_len : (ks : List KitUnits) → length (map (λ (k : KitUnits). k.kit) ks) ≡ length ks
    names_len [] = refl
    names_len (k ∷ ks) = ap suc (names_len ks)

all_refs : (units : List KitUnits) (P : List ℕ → Type 0) → All P (kit_names units) →
    All (λ (kit : KitRef). P kit.name) (kit_refs units)
all_refs units P h = from 0 (kit_names units) h
  where
    from : (a : ℕ) (names : List (List ℕ)) → All P names →
        All (λ (kit : KitRef). P kit.name) (map (signed_kit units) (enumerate_from a names))
    from a [] g = All-nil (λ (kit : KitRef). P kit.name)
    from a (n ∷ ns) g =
        All-cons
        (λ (kit : KitRef). P kit.name)
        (signed_kit units (a, n))
        (map (signed_kit units) (enumerate_from (a + 1) ns))
        (g 0 n (omega arith))
        (from (a + 1) ns (λ j e k. g (suc j) e (omega (arith, k))))

refs_count : (units : List KitUnits) (p : List ℕ → Bool) →
    count_by (λ (kit : KitRef). p kit.name) (kit_refs units) ≡ count_by p (kit_names units)
refs_count units p = from 0 (kit_names units)
  where
    from : (a : ℕ) (names : List (List ℕ)) → count_by (λ (kit : KitRef). p kit.name) (map (signed_kit units)
        (enumerate_from a names)) ≡ count_by p names
    from a [] = refl
    from a (n ∷ ns) =
        count_cons (λ (kit : KitRef). p kit.name) (signed_kit units (a, n)) (map (signed_kit units) (enumerate_from
        (a + 1) ns))
        ∙ ap (λ k. weight (p n) + k) (from (a + 1) ns)
        ∙ sym (count_cons p n ns)

-- ---- the types of `sys`

module _ (units : List KitUnits) (u : Unbroken units) where
  lineage_0 : lineage units 0 ≡ 0 ∷ []
  lineage_0 = lineage_one units u 0 (base_obj units)

  lineage_1 : lineage units 1 ≡ 1 ∷ 0 ∷ []
  lineage_1 = lineage_cons units u 1 0 (base_virtual units) ∙ ap (λ xs. 1 ∷ xs) lineage_0

  lineage_2 : lineage units 2 ≡ 2 ∷ 1 ∷ 0 ∷ []
  lineage_2 = lineage_cons units u 2 1 (base_component units) ∙ ap (λ xs. 2 ∷ xs) lineage_1

  lineage_3 : lineage units 3 ≡ 3 ∷ 2 ∷ 1 ∷ 0 ∷ []
  lineage_3 = lineage_cons units u 3 2 (base_app units) ∙ ap (λ xs. 3 ∷ xs) lineage_2

  lineage_4 : lineage units 4 ≡ 4 ∷ 2 ∷ 1 ∷ 0 ∷ []
  lineage_4 = lineage_cons units u 4 2 (base_folder units) ∙ ap (λ xs. 4 ∷ xs) lineage_2

  -- objects of `sys` have no objects in them
  own_sizes : (f : ℕ → ℕ) → (own_size units f 0 ≡ 0) × (own_size units f 1 ≡ 0) × (own_size units f 2
      ≡ 4) × (own_size units f 3 ≡ 0) × (own_size units f 4 ≡ 0)
  unfolding all_classes
  own_sizes f = (refl, refl, refl, refl, refl)

  sized : (class n : ℕ) (xs : List ℕ) → lineage units class ≡ xs → ((f : ℕ → ℕ) → sum_by (own_size units f) xs ≡ n) →
      data_size units class ≡ n
  sized class n xs e h = by_places (places units) refl
    where
      by_places : (k : ℕ) → places units ≡ k → data_size units class ≡ n
      by_places zero s = absurd (omega (arith, s, others units))
      by_places (suc k) s =
          ap (λ j. size_within units j class) s
          ∙ ap (λ b. if b then 0 else sum_by (own_size units (size_within units k)) (lineage units class))
          (none_in_itself units u class)
          ∙ ap (sum_by (own_size units (size_within units k))) e
          ∙ h (size_within units k)

  size_0 : data_size units 0 ≡ 0
  size_0 = sized 0 0 (0 ∷ []) lineage_0 (λ f. omega (arith, (own_sizes f).0))

  size_1 : data_size units 1 ≡ 0
  size_1 = sized 1 0 (1 ∷ 0 ∷ []) lineage_1 (λ f. omega (arith, (own_sizes f).0, (own_sizes f).1))

  size_2 : data_size units 2 ≡ 4
  size_2 = sized 2 4 (2 ∷ 1 ∷ 0 ∷ []) lineage_2 (λ f. omega (arith, (own_sizes f).0, (own_sizes f).1, (own_sizes f).2))

  size_3 : data_size units 3 ≡ 4
  size_3 = sized 3 4 (3 ∷ 2 ∷ 1 ∷ 0 ∷ []) lineage_3 (λ f. omega (
    arith,
    (own_sizes f).0,
    (own_sizes f).1,
    (own_sizes f).2,
    (own_sizes f).3,
  ))

  size_4 : data_size units 4 ≡ 4
  size_4 = sized 4 4 (4 ∷ 2 ∷ 1 ∷ 0 ∷ []) lineage_4 (λ f. omega (
    arith,
    (own_sizes f).0,
    (own_sizes f).1,
    (own_sizes f).2,
    (own_sizes f).4,
  ))

  own_slots_are : (own_slots units 0 ≡ []) × (own_slots units 1 ≡ []) × (own_slots units 2
      ≡ meta_slot ∷ []) × (own_slots units 3 ≡ save_slot ∷ []) × (own_slots units 4 ≡ [])
  unfolding all_classes
  own_slots_are = (refl, refl, refl, refl, refl)

  slots_0 : slots units 0 ≡ []
  slots_0 = ap (λ xs. flat_map (own_slots units) (reverse xs)) lineage_0 ∙ ap (λ xs. xs ++ []) own_slots_are.0

  slots_1 : slots units 1 ≡ []
  slots_1 = slots_begin units u 1 0 (base_virtual units) ∙ ap (λ xs. xs ++ own_slots units 1) slots_0 ∙ own_slots_are.1

  pub slots_2 : slots units 2 ≡ meta_slot ∷ []
  slots_2 = slots_begin units u 2 1 (base_component units) ∙ ap (λ xs. xs
      ++ own_slots units 2) slots_1 ∙ own_slots_are.2

  slots_3 : slots units 3 ≡ meta_slot ∷ save_slot ∷ []
  slots_3 = slots_begin units u 3 2 (base_app units) ∙ ap (λ xs. xs
      ++ own_slots units 3) slots_2 ∙ ap (λ xs. meta_slot ∷ xs) own_slots_are.3

  slots_4 : slots units 4 ≡ meta_slot ∷ []
  slots_4 = slots_begin units u 4 2 (base_folder units) ∙ ap (λ xs. xs
      ++ own_slots units 4) slots_2 ∙ ap (λ xs. meta_slot ∷ xs) own_slots_are.4

  -- the base of one is one
  numbered_base : (class base : ℕ) → base_of units class ≡ Some base → base < 5 → Declaration →
      option_map (λ (t : TypeNo). t.0) (option_map type_no (option_and_then (type_number units) (base_of units class)))
      ≡ schemas.type_at (class_infos units) 0 base
  numbered_base class base e h d =
      ap (λ o. option_map (λ (t : TypeNo). t.0) (option_map type_no (option_and_then (type_number units) o))) e
      ∙ ap (λ o. option_map (λ (t : TypeNo). t.0) (option_map type_no o)) (number_is units u base (omega
      (arith, h, others units)))
      ∙ ap Some (sys_numbers units u base h)
      ∙ sym (sys_type units u d base h)

  a_type : (P : ClassInfo → Type 0) (i : ℕ) (d : Declaration) → i < 5 → class_at units i ≡ Some d →
      P (class_info units i d) → HasSysType (class_infos units) i P
  a_type P i d h e p =
      subst
      (λ o. IsSomeAnd o (λ class. IsSomeAnd (slice_get (class_infos units) class) P))
      (sym (sys_type units u d i h))
      (subst (λ o. IsSomeAnd o P) (sym (info_at units u i i d (sys_place units u i h) e)) p)

  module _ (d : Declaration) where
    object : HasSysType (class_infos units) 0 (IsSysType (class_infos units) (codes "Obj") None true false 0 [])
    unfolding all_classes
    object =
        a_type
        (IsSysType (class_infos units) (codes "Obj") None true false 0 [])
        0
        (get_or sys_declares 0 d)
        (omega arith)
        refl
        (record {
          name_is = refl;
          base_is = ap (λ o. option_map (λ (t : TypeNo). t.0) (option_map type_no (option_and_then
              (type_number units) o))) (base_obj units);
          is_abstract = refl;
          is_component = ap (list_any (λ c. c == 2)) lineage_0;
          size_is = size_0;
          slots = slots_0;
        })

    virtual : HasSysType (class_infos units) 1 (IsSysType (class_infos units) (codes "Virtual")
        (Some 0) true false 0 [])
    unfolding all_classes
    virtual =
        a_type
        (IsSysType (class_infos units) (codes "Virtual") (Some 0) true false 0 [])
        1
        (get_or sys_declares 1 d)
        (omega arith)
        refl
        (record {
          name_is = refl;
          base_is = numbered_base 1 0 (base_virtual units) (omega arith) d;
          is_abstract = refl;
          is_component = ap (list_any (λ c. c == 2)) lineage_1;
          size_is = size_1;
          slots = slots_1;
        })

    component : HasSysType (class_infos units) 2 (IsSysType (class_infos units) (codes "Component")
        (Some 1) true true 4 (meta_slot ∷ []))
    unfolding all_classes
    component =
        a_type
        (IsSysType (class_infos units) (codes "Component") (Some 1) true true 4 (meta_slot ∷ []))
        2
        (get_or sys_declares 2 d)
        (omega arith)
        refl
        (record {
          name_is = refl;
          base_is = numbered_base 2 1 (base_component units) (omega arith) d;
          is_abstract = refl;
          is_component = ap (list_any (λ c. c == 2)) lineage_2;
          size_is = size_2;
          slots = slots_2;
        })

    app : HasSysType (class_infos units) 3 (IsSysType (class_infos units) (codes "App") (Some 2) false true 4
        (meta_slot ∷ save_slot ∷ []))
    unfolding all_classes
    app =
        a_type
        (IsSysType (class_infos units) (codes "App") (Some 2) false true 4 (meta_slot ∷ save_slot ∷ []))
        3
        (get_or sys_declares 3 d)
        (omega arith)
        refl
        (record {
          name_is = refl;
          base_is = numbered_base 3 2 (base_app units) (omega arith) d;
          is_abstract = refl;
          is_component = ap (list_any (λ c. c == 2)) lineage_3;
          size_is = size_3;
          slots = slots_3;
        })

    folder : HasSysType (class_infos units) 4 (IsSysType (class_infos units) (codes "Folder") (Some 2) false true 4
        (meta_slot ∷ []))
    unfolding all_classes
    folder =
        a_type
        (IsSysType (class_infos units) (codes "Folder") (Some 2) false true 4 (meta_slot ∷ []))
        4
        (get_or sys_declares 4 d)
        (omega arith)
        refl
        (record {
          name_is = refl;
          base_is = numbered_base 4 2 (base_folder units) (omega arith) d;
          is_abstract = refl;
          is_component = ap (list_any (λ c. c == 2)) lineage_4;
          size_is = size_4;
          slots = slots_4;
        })

    sys_types : HasSysTypes (class_infos units)
    sys_types = record {
      five = types_sum units u 0 ∙ sys_five units;
      object = object;
      virtual = virtual;
      component = component;
      app = app;
      folder = folder;
    }

-- ---- all together

kits_known : (units : List KitUnits) → Unbroken units → All (λ (c : ClassInfo). c.kit < length (kit_refs units))
    (class_infos units)
kits_known units u i info h =
    let at = info_of units u i (get_or (class_infos units) i info) (slice_get-get_or (class_infos units) i info h) in
    let w : Written (length units) at.declared = all_at (Written (length units))
    (all_classes units) at.class at.declared at.there (fits units u).written in
    subst (λ (c : ClassInfo). c.kit < length (kit_refs units)) (sym at.is) (omega (arith, w.kit, refs_len units))

pub has_kits : (units : List KitUnits) → Unbroken units → KitsNamed units → HasKits (schema_of units)
has_kits units u named = record {
  most = omega (arith, refs_len units, u.kits);
  sys = refl;
  names = all_refs units (λ name. IsTrue (is_kit_name name)) named.names;
  names_once = λ name. omega (arith, refs_count units (λ n. bytes_eq n name), named.once name);
  known = kits_known units u;
  numbered = λ kit number h.
      type_sum units u kit number ∙ (numbered units kit number).below (omega (arith, h, types_sum units u kit));
  types = λ kit. omega (arith, types_sum units u kit, kit_few units (frees units u.faultless) kit);
  sys_types = sys_types units u (some_declaration units);
}
