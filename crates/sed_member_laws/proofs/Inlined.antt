-- Classes of inline objects, and the slots of properties.
use Rattle.std.proofs.Common.{◌≡◌, ◌<◌, ◌+◌, ◌&&◌, ◌||◌, ℕ, zero, suc, Bool, true, false, not, if◌then◌else◌, List, [], ◌∷◌, length, reverse, slice_get, position, take, Option, Some, None, refl, sym, ap, ◌∙◌, arith}
use Rattle.std.specs.List.{filter_map, sum_by}
use Rattle.std.specs.Option.{option_map, option_map_or}
use Rattle.std.specs.Str.{bytes_eq}
use Rattle.std.proofs.lemmas.Option.{slice_get_within}
use Rattle.sed_value.specs.declared.slot_type.SlotType.{SlotType}
use Rattle.sed_value.specs.declared.slot_type.SlotType.TheVariants as slot
use Rattle.sed_typed.specs.declared.number.SlotNo.{SlotNo}
use Rattle.sed_typed.specs.declared.schema.ClassInfo.{ClassInfo}
use Rattle.sed_typed.specs.declared.schema.SlotForm.TheVariants.{Prop, Action}
use Rattle.sed_typed.specs.declared.schema.SlotInfo.{SlotInfo}
use Rattle.sed_typed.specs.declared.program.Program.{Program}
use Rattle.sed_typed.specs.Classes as typed
use Rattle.sed_typed.specs.TypedSchema as schemas
use Rattle.sed_typed.specs.Schemas.{type_at}
use Rattle.sed_typed.specs.SysTypes.{component_type}
use Rattle.sed_units.specs.declared.classes.Member.{Member}
use Rattle.sed_classes.specs.declared.kit_units.KitUnits.{KitUnits}
use Rattle.sed_classes.specs.declared.source_type.SourceType.{SourceType}
use Rattle.sed_classes.specs.declared.source_type.SourceType.TheVariants as type
use Rattle.sed_classes.specs.Bases.{is_below, lineage}
use Rattle.sed_classes.specs.Declarations.{Declaration, all_classes, class_at}
use Rattle.sed_classes.specs.FieldRules.{is_abstract_at, is_no_object_class}
use Rattle.sed_classes.specs.Members.{form_params, is_abstract_class, is_config, is_instance_field, is_method, is_property, kit_of, members_of}
use Rattle.sed_classes.specs.Objects.{declares_field, has_field, holds_itself, inline_class, is_inline, object_in}
use Rattle.sed_classes.specs.Slots.{action_argument, is_new_action, own_slots, property_shape, slot_of, slot_type, slots, with_name}
use Rattle.sed_classes.specs.SysSource.{component_class}
use Rattle.sed_classes.specs.Types.{is_property_type, type_of}
use Rattle.sed_program.specs.Fields.{field_of, own_fields, slot_no, slot_of_field}
use Rattle.sed_program.specs.Types.{place_of}
use Rattle.sed_program.specs.Ordered.{IsOrdered, number, places}
use Rattle.sed_member_laws.specs.Faultless.{AreFree, Keeps}
use Rattle.sed_member_laws.proofs.Flat.{behind, flat_at, in_front, lengths}
use Rattle.sed_member_laws.proofs.Own.{name_itself}
use Rattle.sed_member_laws.proofs.Rows.{any_in, filtered_at, given_some, position_some}
use Rattle.sed_member_laws.proofs.FieldsAt.{instance_no_method, lineage_parts, reverse_cons, total}
use Rattle.sed_member_laws.proofs.Placed.{some_places}

-- ---- the lineage of a class, turned round

pub reversed_in : (xs : List ℕ) (i x : ℕ) → slice_get xs i ≡ Some x → (k : ℕ) × (slice_get (reverse xs) k ≡ Some x)
reversed_in [] i x e = cc
reversed_in (y ∷ ys) zero x e = (
  length (reverse ys) + 0,
  ap (λ l. slice_get l (length (reverse ys) + 0)) (reverse_cons y ys)
      ∙ behind (reverse ys) (y ∷ []) 0 ∙ e,
)
reversed_in (y ∷ ys) (suc i) x e =
    let r = reversed_in ys i x e in
    (r.0, ap (λ l. slice_get l r.0) (reverse_cons y ys) ∙ in_front (reverse ys) (y ∷ []) r.0 x r.1)

-- ---- what is said of a class of inline objects

pub inline_fits : (units : List KitUnits) (c : ℕ) (d : Declaration) (i : ℕ) (m : Member) (t : ℕ) →
    Keeps units c d i m → is_method m ≡ false → is_inline m ≡ true →
    type_of units d.kit m.kind ≡ type.Object t → is_no_object_class units t ≡ false
inline_fits units c d i m t k n l e =
    sym (ap (λ o. option_map_or (is_no_object_class units) o false) is) ∙ k.object
  where
    is : inline_class units d.kit m ≡ Some t
    is =
        ap (λ b. if not b && is_inline m then object_in (type_of units d.kit m.kind) else None) n
        ∙ ap (λ b. if b then object_in (type_of units d.kit m.kind) else None) l
        ∙ ap object_in e

parts_of : (units : List KitUnits) (t : ℕ) → is_no_object_class units t ≡ false →
    (is_abstract_at units t ≡ false) × (is_below units component_class t ≡ false) × (has_field units t ≡ true)
parts_of units t e = by_tests (is_abstract_at units t) (is_below units component_class t) (has_field units t)
    (holds_itself units t) e
  where
    by_tests : (a b f h : Bool) → (a || b || not f || h) ≡ false → (a ≡ false) × (b ≡ false) × (f ≡ true)
    by_tests true b f h e = cc
    by_tests false true f h e = cc
    by_tests false false true h e = (refl, refl, refl)
    by_tests false false false h e = cc

-- the class is there
pub found_class : (units : List KitUnits) (t : ℕ) → t < places units → (d : Declaration) × (class_at units t ≡ Some d)
found_class units t h = by_list (all_classes units) t h
  where
    by_list : (xs : List Declaration) (t : ℕ) → t < length xs → (d : Declaration) × (slice_get xs t ≡ Some d)
    by_list [] t h = absurd (omega (arith, h))
    by_list (x ∷ xs) zero h = (x, refl)
    by_list (x ∷ xs) (suc t) h = by_list xs t (omega (arith, h))

pub abstract_is : (units : List KitUnits) (program : Program) → IsOrdered units program → (k t : ℕ) (d : Declaration) →
    place_of units k ≡ Some t → class_at units t ≡ Some d →
    schemas.is_abstract program.schema.classes k ≡ is_abstract_class d.class
abstract_is units program o k t d e h = ap (λ (r : Option ClassInfo). option_map_or (λ
    (x : ClassInfo). x.is_abstract) r false) (o.info_at k t d e h)

pub below_sys : (units : List KitUnits) (program : Program) → IsOrdered units program → (s k t : ℕ) (d : Declaration) →
    class_at units s ≡ Some d → s < places units → d.kit ≡ 0 →
    place_of units k ≡ Some t → schemas.is_below_sys program.schema.classes d.number k ≡ is_below units s t
below_sys units program o s k t d at h kit e =
    ap (λ n. option_map_or (λ above. schemas.is_below program.schema.classes above k)
    (type_at program.schema.classes n d.number) false) (sym kit)
    ∙ ap (λ r. option_map_or (λ above. schemas.is_below program.schema.classes above k) r false) (o.type_at_is s d at)
    ∙ o.below_at (number units s) s k t (o.place_is s h) e

-- the types of `sys`
pub sys_component : (units : List KitUnits) → (d : Declaration) × (class_at units 2 ≡ Some d) × (d.number ≡ 2) × (d.kit
    ≡ 0)
unfolding all_classes
sys_component units = (_, refl, refl, refl)

pub sys_virtual : (units : List KitUnits) → (d : Declaration) × (class_at units 1 ≡ Some d) × (d.number ≡ 1) × (d.kit
    ≡ 0)
unfolding all_classes
sys_virtual units = (_, refl, refl, refl)

-- an object of it has a field
pub field_there : (units : List KitUnits) (program : Program) → AreFree units → IsOrdered units program → (k t : ℕ) →
    place_of units k ≡ Some t → has_field units t ≡ true →
    0 < length (typed.fields program k)
field_there units program f o k t e h =
    let above = any_in (declares_field units) (lineage units t) h in
    let own = any_in is_instance_field (members_of units above.1) above.3 in
    let place = filtered_at is_instance_field (members_of units above.1) own.0 own.1 own.2 own.3 in
    let known = total units program f o is_instance_field instance_no_method
    (number units above.1) above.1 place.0 own.1 place.1 in
    let given = given_some (field_of units (number units above.1) above.1)
    (own_fields units above.1) place.0 own.1 known.0 place.1 known.1 in
    let back = reversed_in (lineage units t) above.0 above.1 above.2 in
    let index : ℕ = sum_by (lengths (λ b. filter_map (field_of units (number units b) b) (own_fields units b)))
    (take back.0 (reverse (lineage units t))) + given.0 in
    let there : slice_get (typed.fields program k) index ≡ Some known.0 =
    ap (λ l. slice_get l index) (o.fields_at k t e)
    ∙ flat_at (λ b. filter_map (field_of units (number units b) b) (own_fields units b)) (reverse
    (lineage units t)) back.0 given.0 above.1 known.0 back.1 given.1 in
    let within : index < length (typed.fields program k) = slice_get_within
    (typed.fields program k) index known.0 there in
    omega (arith, within)

pub object_fits : (units : List KitUnits) (program : Program) → AreFree units → IsOrdered units program → (t : ℕ) →
    t < places units → is_no_object_class units t ≡ false →
    (schemas.is_abstract program.schema.classes (number units t) ≡ false)
    × (schemas.is_below_sys program.schema.classes component_type (number units t) ≡ false)
    × (0 < length (typed.fields program (number units t)))
object_fits units program f o t h e =
    let parts = parts_of units t e in
    let found = found_class units t h in
    let place : place_of units (number units t) ≡ Some t = o.place_is t h in
    let component = sys_component units in (
      abstract_is units program o (number units t) t found.0 place found.1
          ∙ sym (ap (λ (r : Option Declaration). option_map_or (λ
          (d : Declaration). is_abstract_class d.class) r false) found.1)
          ∙ parts.0,
      ap (λ n. schemas.is_below_sys program.schema.classes n (number units t)) (sym component.2)
          ∙ below_sys units program o 2 (number units t) t component.0 component.1 (omega
          (arith, some_places units)) component.3 place
          ∙ parts.1,
      field_there units program f o (number units t) t place parts.2,
    )

-- ---- slots

pub property_slot : (units : List KitUnits) (program : Program) → IsOrdered units program → (c i : ℕ) (m : Member) →
    slice_get (members_of units c) i ≡ Some m →
    is_property m ≡ true → is_property_type (type_of units (kit_of units c) m.kind) ≡ true →
    (n : SlotNo) × (slot_of_field units c m ≡ Some n)
property_slot units program o c i m e p t =
    let typed_slot = slot_some (type_of units (kit_of units c) m.kind) t in
    let here : slot_of units (kit_of units c) m
    ≡ Some (record { name = m.name.bytes; config = is_config m.facets; form = Prop typed_slot.0 }) =
    ap (λ b. with_name m.name.bytes (if b then property_shape (is_config m.facets) (slot_type (type_of units
    (kit_of units c) m.kind))
    else if is_new_action m then Some (false, Action (action_argument units (kit_of units c) (form_params m.form)))
    else None)) p
    ∙ ap (λ s. with_name m.name.bytes (property_shape (is_config m.facets) s)) typed_slot.1 in
    let own = given_some (slot_of units (kit_of units c)) (members_of units c) i m
    (record { name = m.name.bytes; config = is_config m.facets; form = Prop typed_slot.0 }) e here in
    let back = reversed_in (lineage units c) 0 c (ap (λ l. slice_get l 0) (lineage_parts units program o c)) in
    let index : ℕ = sum_by (lengths (own_slots units)) (take back.0 (reverse (lineage units c))) + own.0 in
    let found = position_some
    (λ (s : SlotInfo). bytes_eq s.name m.name.bytes)
    (slots units c)
    index
    (record { name = m.name.bytes; config = is_config m.facets; form = Prop typed_slot.0 })
    (flat_at (own_slots units) (reverse (lineage units c)) back.0 own.0 c
    (record { name = m.name.bytes; config = is_config m.facets; form = Prop typed_slot.0 }) back.1 own.1)
    (name_itself m.name.bytes) in (
      slot_no found.0,
      ap (λ b. if b then option_map slot_no (position (λ (s : SlotInfo). bytes_eq s.name m.name.bytes) (slots units c))
          else None) p
          ∙ ap (option_map slot_no) found.1,
    )
  where
    slot_some : (t : SourceType) → is_property_type t ≡ true → (s : SlotType) × (slot_type t ≡ Some s)
    slot_some type.Void e = cc
    slot_some (type.Prim p) e = (slot.Prim p, refl)
    slot_some type.Text e = cc
    slot_some (type.SizedText n) e = cc
    slot_some (type.Buf n) e = (slot.Buf n, refl)
    slot_some (type.Array p n) e = cc
    slot_some (type.Object c) e = cc
    slot_some type.Unknown e = cc
    slot_some type.Outside e = cc
