-- The classes of fields that are objects lie deeper than those that have them.
use Rattle.std.proofs.Common.{◌≡◌, ◌<◌, ◌≤◌, ◌&&◌, ℕ, zero, suc, Bool, true, false, not, nat_lt, if◌then◌else◌, List, [], ◌∷◌, length, filter, reverse, slice_get, Option, Some, None, All, refl, sym, ap, ◌∙◌, subst, arith}
use Rattle.std.specs.Prelude.{unwrap_or}
use Rattle.std.specs.List.{flat_map}
use Rattle.std.specs.Option.{option_and_then, option_map}
use Rattle.std.proofs.lemmas.List.Elements.{All-nil}
use Rattle.std.proofs.lemmas.List.{append-nil}
use Rattle.std.proofs.lemmas.Option.{slice_get_past}
use Rattle.std.proofs.lemmas.Bool.Decides.{nat_tests}
use Rattle.sed_units.specs.declared.classes.Member.{Member}
use Rattle.sed_typed.specs.declared.number.TypeNo.{TypeNo}
use Rattle.sed_typed.specs.declared.program.Field.{Field}
use Rattle.sed_typed.specs.declared.program.FieldForm.{FieldForm}
use Rattle.sed_typed.specs.declared.program.FieldForm.TheVariants as form
use Rattle.sed_typed.specs.declared.program.Program.{Program}
use Rattle.sed_typed.specs.declared.schema.ClassInfo.{ClassInfo}
use Rattle.sed_typed.specs.Classes as typed
use Rattle.sed_typed.specs.TypedSchema.{LiesDeeper}
use Rattle.sed_classes.specs.declared.kit_units.KitUnits.{KitUnits}
use Rattle.sed_classes.specs.declared.source_type.SourceType.{SourceType}
use Rattle.sed_classes.specs.declared.source_type.SourceType.TheVariants as type
use Rattle.sed_classes.specs.Bases.{lineage}
use Rattle.sed_classes.specs.Types.{is_field_type, is_property_type, type_of}
use Rattle.sed_classes.specs.Members.{is_define, is_instance_field, is_method, is_property, is_static, kit_of, members_of}
use Rattle.sed_classes.specs.Objects.{has_form, inline_class, is_inline, object_in}
use Rattle.sed_classes.specs.Schema.{class_infos, class_order, schema_of}
use Rattle.sed_outline.specs.Rounds.{inline_in, inline_of, inline_own}
use Rattle.sed_program.specs.Types.{form_of, form_of_type, place_of, type_no}
use Rattle.sed_program.specs.Fields.{a_field, field_of, fields_of, own_fields}
use Rattle.sed_outline.specs.Fits.{Unbroken}
use Rattle.sed_program.proofs.Within.{Within}
use Rattle.sed_program.proofs.Lineages.{places}
use Rattle.sed_program.proofs.Order.{number, number_is, order_len, place_is, placed}
use Rattle.sed_program.proofs.Infos.{infos_len}
use Rattle.sed_program.proofs.OrderFields.{fields_at, none_behind, own_typed}
use Rattle.sed_class_laws.proofs.Has.{Has, all_found, all_up, flat_has, map_has}
use Rattle.sed_class_laws.specs.Depth.{deepest, depth_of}
use Rattle.sed_class_laws.proofs.Depth.{less_deep, type_within}

-- what a filter keeps stood in the row, and passes
pub kept_at : {X : Type 0} (p : X → Bool) (xs : List X) (i : ℕ) (x : X) → slice_get (filter p xs) i ≡ Some x →
    (j : ℕ) × (slice_get xs j ≡ Some x) × (p x ≡ true)
kept_at p [] i x e = cc
kept_at {X} p (y ∷ ys) i x e = by_test (p y) refl i e (λ k f. kept_at p ys k x f)
  where
    by_test : (b : Bool) → p y ≡ b → (k : ℕ) → slice_get (if b then y ∷ filter p ys else filter p ys) k ≡ Some x →
        ((k : ℕ) → slice_get (filter p ys) k ≡ Some x → (j : ℕ) × (slice_get ys j ≡ Some x) × (p x ≡ true)) →
        (j : ℕ) × (slice_get (y ∷ ys) j ≡ Some x) × (p x ≡ true)
    by_test true t zero f rest = let same : y ≡ x = cc in (0, f, ap p (sym same) ∙ t)
    by_test true t (suc k) f rest = let found = rest k f in (suc found.0, found.1, found.2)
    by_test false t k f rest = let found = rest k f in (suc found.0, found.1, found.2)

-- ---- a field that is an object

-- the class that it is of, and that it is inline
pub record IsObject (units : List KitUnits) (kit : ℕ) (m : Member) (t : TypeNo) : Type 0 where
  pub class : ℕ
  pub within : class < places units
  pub of_type : type_of units kit m.kind ≡ type.Object class
  pub numbered : t ≡ type_no (number units class)
  pub inline : is_inline m ≡ true
  pub plain : is_property m ≡ false

pub object_form : (units : List KitUnits) → Unbroken units → (kit : ℕ) (m : Member) (t : TypeNo) →
    form_of units kit m ≡ Some (form.Object t) → IsObject units kit m t
object_form units u kit m t e = by_form (has_form units kit m) refl e
  where
    by_words : (p i : Bool) (c : ℕ) → (if p then is_property_type (type.Object c) else is_field_type i (type.Object c))
        ≡ true → (i ≡ true) × (p ≡ false)
    by_words true i c f = cc
    by_words false i c f = (f, refl)

    by_type : (s : SourceType) → Within units (object_in s) → type_of units kit m.kind ≡ s →
        has_form units kit m ≡ true → form_of_type units s ≡ Some (form.Object t) → IsObject units kit m t
    by_type type.Void w same h f = cc
    by_type (type.Prim p) w same h f = cc
    by_type type.Text w same h f = cc
    by_type (type.SizedText n) w same h f = cc
    by_type (type.Buf n) w same h f = cc
    by_type (type.Array p n) w same h f = cc
    by_type (type.Object c) w same h f =
        let known : Some (form.Object (type_no (number units c))) ≡ Some (form.Object t) =
        sym (ap (λ o. option_map form.Object (option_map type_no o)) (number_is units u c (w c refl))) ∙ f in
        let is : type_no (number units c) ≡ t = cc in
        let words = by_words (is_property m) (is_inline m) c (sym (ap (λ x. if is_property m then is_property_type x
        else is_field_type (is_inline m) x) same) ∙ h) in
        record { class = c; within = w c refl; of_type = same; numbered = sym is; inline = words.0; plain = words.1 }
    by_type type.Unknown w same h f = cc
    by_type type.Outside w same h f = cc

    by_form : (b : Bool) → has_form units kit m ≡ b → (if b then form_of_type units (type_of units kit m.kind)
        else None) ≡ Some (form.Object t) → IsObject units kit m t
    by_form true h f = by_type (type_of units kit m.kind) (type_within units kit m.kind) refl h f
    by_form false h f = cc

pub field_parts : (units : List KitUnits) (n class : ℕ) (m : Member) (f : Field) → field_of units n class m ≡ Some f →
    (x : FieldForm) × (form_of units (kit_of units class) m ≡ Some x) × (f ≡ a_field units n class m x)
field_parts units n class m f e = by_form (form_of units (kit_of units class) m) refl e
  where
    by_form : (o : Option FieldForm) → form_of units (kit_of units class) m ≡ o →
        option_map (a_field units n class m) o ≡ Some f →
        (x : FieldForm) × (form_of units (kit_of units class) m ≡ Some x) × (f ≡ a_field units n class m x)
    by_form None h k = cc
    by_form (Some x) h k = let same : a_field units n class m x ≡ f = cc in (x, h, sym same)

no_method : (m : Member) → is_instance_field m ≡ true → is_method m ≡ false
no_method m e = by_tests (is_method m) (is_define m) (is_static m) e
  where
    by_tests : (a b c : Bool) → (not a && not b && not c) ≡ true → a ≡ false
    by_tests false b c f = refl
    by_tests true b c f = cc

-- it stands in each object of the class that declares it
inline_is : (units : List KitUnits) (kit : ℕ) (m : Member) (t : TypeNo) → is_instance_field m ≡ true →
    (o : IsObject units kit m t) → inline_of units kit m ≡ Some o.class
inline_is units kit m t i o =
    ap (λ b. if b then inline_class units kit m else None) i
    ∙ ap (λ b. if (not b && is_inline m) then object_in (type_of units kit m.kind) else None) (no_method m i)
    ∙ ap (λ b. if b then object_in (type_of units kit m.kind) else None) o.inline
    ∙ ap object_in o.of_type

-- ---- by numbers

lies_deeper : (units : List KitUnits) → Unbroken units → (k class b : ℕ) → place_of units k ≡ Some class →
    Has (lineage units class) b →
    (i : ℕ) (m : Member) (f : Field) → slice_get (own_fields units b) i ≡ Some m →
    field_of units (number units b) b m ≡ Some f → LiesDeeper (depth_of units) k f.form
lies_deeper units u k class b p l i m f at e =
    let parts = field_parts units (number units b) b m f e in
    subst (λ (x : Field). LiesDeeper (depth_of units) k x.form) (sym parts.2) (by_form parts.0 parts.1)
  where
    stands : (j : ℕ) × (slice_get (members_of units b) j ≡ Some m) × (is_instance_field m ≡ true)
    stands = kept_at is_instance_field (members_of units b) i m at

    by_form : (x : FieldForm) → form_of units (kit_of units b) m ≡ Some x → LiesDeeper (depth_of units) k x
    by_form (form.Prim q) h = tt
    by_form (form.Str n) h = tt
    by_form (form.Buf n) h = tt
    by_form (form.Array q n) h = tt
    by_form (form.Object t) h =
        let o : IsObject units (kit_of units b) m t = object_form units u (kit_of units b) m t h in
        let own : Has (inline_own units b) o.class =
        map_has (inline_of units (kit_of units b)) (members_of units b) stands.0 o.class m stands.1 (inline_is units
        (kit_of units b) m t stands.2 o) in
        let inside : Has (inline_in units class) o.class = flat_has (inline_own units)
        (lineage units class) b o.class l own in
        let less : deepest units (places units) o.class < deepest units
        (places units) class = less_deep units u class o.class inside in
        let here : depth_of units k ≡ deepest units (places units) class = ap (λ q. deepest units (places units)
        (unwrap_or q 0)) p in
        let there : depth_of units t.0 ≡ deepest units (places units) o.class =
        ap (λ (x : TypeNo). depth_of units x.0) o.numbered
        ∙ ap (λ q. deepest units (places units) (unwrap_or q 0)) (place_is units u o.class o.within) in
        omega (arith, less, here, there)

fields_deeper : (units : List KitUnits) → Unbroken units → (program : Program) → program.schema ≡ schema_of units →
    program.fields ≡ fields_of units →
    (k class : ℕ) → place_of units k ≡ Some class → All (λ f. LiesDeeper (depth_of units) k f.form)
    (typed.fields program k)
fields_deeper units u program s e k class p =
    subst
    (All (λ (f : Field). LiesDeeper (depth_of units) k f.form))
    (sym (fields_at units u program s e k class p))
    (all_up
    (λ (f : Field). LiesDeeper (depth_of units) k f.form)
    (own_typed units)
    (lineage units class)
    (λ b l.
    all_found
    (λ (f : Field). LiesDeeper (depth_of units) k f.form)
    (field_of units (number units b) b)
    (own_fields units b)
    (lies_deeper units u k class b p l)))

-- behind all numbers there is nothing
no_fields : (units : List KitUnits) → Unbroken units → (program : Program) → program.schema ≡ schema_of units →
    program.fields ≡ fields_of units →
    (k : ℕ) → places units ≤ k → typed.fields program k ≡ []
no_fields units u program s e k le =
    let base : typed.base_of (class_infos units) k ≡ None =
    ap
    (option_and_then (λ (info : ClassInfo). option_map (λ b. b.0) info.base))
    (slice_get_past (class_infos units) k (omega (arith, infos_len units u, le))) in
    ap (λ fs. flat_map (typed.declared_fields fs) (reverse (typed.lineage program.schema.classes k))) e
    ∙ ap (λ (x : _). flat_map (typed.declared_fields (fields_of units)) (reverse (typed.lineage x.classes k))) s
    ∙ climb (length (class_infos units)) base
  where
    nothing : typed.declared_fields (fields_of units) k ≡ []
    nothing = none_behind units (own_fields units) k 0 (class_order units) (omega (arith, order_len units u, le))

    climb : (n : ℕ) → typed.base_of (class_infos units) k ≡ None →
        flat_map (typed.declared_fields (fields_of units)) (reverse (typed.reached (typed.base_of
        (class_infos units)) n (Some k))) ≡ []
    climb zero b = refl
    climb (suc n) b =
        ap (λ o. flat_map (typed.declared_fields (fields_of units)) (reverse (k ∷ typed.reached (typed.base_of
        (class_infos units)) n o))) b
        ∙ ap (λ xs. flat_map (typed.declared_fields (fields_of units)) (reverse (k ∷ xs))) (none_reached n)
        ∙ append-nil (typed.declared_fields (fields_of units) k)
        ∙ nothing
      where
        none_reached : (m : ℕ) → typed.reached (typed.base_of (class_infos units)) m None ≡ []
        none_reached zero = refl
        none_reached (suc m) = refl

pub deeper : (units : List KitUnits) → Unbroken units → (program : Program) → program.schema ≡ schema_of units →
    program.fields ≡ fields_of units →
    (k : ℕ) → All (λ f. LiesDeeper (depth_of units) k f.form) (typed.fields program k)
deeper units u program s e k = by_test (nat_lt k (places units)) refl
  where
    by_test : (b : Bool) → nat_lt k (places units) ≡ b →
        All (λ f. LiesDeeper (depth_of units) k f.form) (typed.fields program k)
    by_test true t =
        let at = placed units u k (grind (arith, nat_tests)) in
        fields_deeper units u program s e k at.0 at.1
    by_test false t =
        subst
        (All (λ (f : Field). LiesDeeper (depth_of units) k f.form))
        (sym (no_fields units u program s e k (grind (arith, nat_tests))))
        (All-nil (λ (f : Field). LiesDeeper (depth_of units) k f.form))
