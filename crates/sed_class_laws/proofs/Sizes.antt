-- The data sizes of the program are those of the units.
use Rattle.std.proofs.Common.{◌≡◌, ◌<◌, ◌+◌, ℕ, zero, suc, Bool, true, false, if◌then◌else◌, List, [], ◌∷◌, length, filter, reverse, Option, Some, None, refl, sym, ap, ◌∙◌, arith}
use Rattle.std.specs.List.{filter_map, flat_map, sum_by}
use Rattle.std.specs.Option.{option_map, option_map_or}
use Rattle.std.proofs.lemmas.List.Sums.{sum_by-append, sum_by-cons}
use Rattle.sed_units.specs.declared.classes.Member.{Member}
use Rattle.sed_typed.specs.declared.program.Field.{Field}
use Rattle.sed_typed.specs.declared.program.FieldForm.{FieldForm}
use Rattle.sed_typed.specs.declared.program.FieldForm.TheVariants as form
use Rattle.sed_typed.specs.declared.program.Program.{Program}
use Rattle.sed_typed.specs.Sizes as sizes
use Rattle.sed_classes.specs.declared.kit_units.KitUnits.{KitUnits}
use Rattle.sed_classes.specs.declared.source_type.SourceType.{SourceType}
use Rattle.sed_classes.specs.declared.source_type.SourceType.TheVariants as type
use Rattle.sed_classes.specs.Bases.{lineage}
use Rattle.sed_classes.specs.Types.{type_of}
use Rattle.sed_classes.specs.Members.{is_instance_field, kit_of, members_of}
use Rattle.sed_classes.specs.Objects.{data_size, field_size, has_form, object_in, own_size, size_within, type_size}
use Rattle.sed_classes.specs.Schema.{schema_of}
use Rattle.sed_program.specs.Types.{form_of, form_of_type, type_no}
use Rattle.sed_program.specs.Fields.{a_field, field_of, fields_of, own_fields}
use Rattle.sed_outline.specs.Fits.{Unbroken}
use Rattle.sed_program.proofs.Within.{Within}
use Rattle.sed_program.proofs.Lineages.{places}
use Rattle.sed_program.proofs.Order.{number, number_is, place_is}
use Rattle.sed_program.proofs.Infos.{found_sum, infos_len, sum_same}
use Rattle.sed_program.proofs.OrderFields.{fields_at, own_typed}
use Rattle.sed_program.proofs.Upward.{up_cons}
use Rattle.sed_class_laws.proofs.Depth.{type_within}
use Rattle.sed_class_laws.proofs.Inline.{none_in_itself}

-- ---- sums

pub sum_filter : {X : Type 0} (p : X → Bool) (f : X → ℕ) (xs : List X) →
    sum_by f (filter p xs) ≡ sum_by (λ x. if p x then f x else 0) xs
sum_filter p f [] = refl
sum_filter p f (x ∷ xs) = one (p x) ∙ ap (λ n. (if p x then f x
    else 0) + n) (sum_filter p f xs) ∙ sym (sum_by-cons (λ y. if p y then f y else 0) x xs)
  where
    one : (b : Bool) → sum_by f (if b then x ∷ filter p xs else filter p xs)
        ≡ (if b then f x else 0) + sum_by f (filter p xs)
    one true = sum_by-cons f x (filter p xs)
    one false = omega arith

pub sum_up : {X : Type 0} (f : ℕ → List X) (w : X → ℕ) (xs : List ℕ) →
    sum_by w (flat_map f (reverse xs)) ≡ sum_by (λ x. sum_by w (f x)) xs
sum_up f w [] = refl
sum_up f w (x ∷ xs) =
    ap (sum_by w) (up_cons f x xs)
    ∙ sum_by-append w (flat_map f (reverse xs)) (f x)
    ∙ omega (arith, sum_up f w xs, sum_by-cons (λ y. sum_by w (f y)) x xs)

-- ---- one field

-- sizes of objects by their numbers are those by their places
abbrev pub SameSizes : List KitUnits → (ℕ → ℕ) → (ℕ → ℕ) → Type 0
SameSizes units by_number by_place = (class : ℕ) → class < places units →
    by_number (number units class) ≡ by_place class

pub form_sized : (units : List KitUnits) → Unbroken units → (f g : ℕ → ℕ) → SameSizes units f g →
    (kit : ℕ) (m : Member) →
    option_map_or (sizes.form_size f) (form_of units kit m) 0 ≡ field_size units g kit m
form_sized units u f g h kit m = by_form (has_form units kit m)
  where
    by_type : (t : SourceType) → Within units (object_in t) →
        option_map_or (sizes.form_size f) (form_of_type units t) 0 ≡ type_size g t
    by_type type.Void w = refl
    by_type (type.Prim p) w = refl
    by_type type.Text w = refl
    by_type (type.SizedText n) w = refl
    by_type (type.Buf n) w = refl
    by_type (type.Array p n) w = refl
    by_type (type.Object c) w =
        ap (λ o. option_map_or (sizes.form_size f) (option_map form.Object (option_map type_no o)) 0)
        (number_is units u c (w c refl)) ∙ h c (w c refl)
    by_type type.Unknown w = refl
    by_type type.Outside w = refl

    by_form : (b : Bool) →
        option_map_or (sizes.form_size f) (if b then form_of_type units (type_of units kit m.kind) else None) 0
        ≡ (if b then type_size g (type_of units kit m.kind) else 0)
    by_form true = by_type (type_of units kit m.kind) (type_within units kit m.kind)
    by_form false = refl

abbrev pub sized : (ℕ → ℕ) → Field → ℕ
sized f x = sizes.form_size f x.form

-- the fields among members, as the program has them
pub fields_sized : (units : List KitUnits) → Unbroken units → (f g : ℕ → ℕ) → SameSizes units f g →
    (n class : ℕ) (ms : List Member) →
    sum_by (sized f) (filter_map (field_of units n class) ms) ≡ sum_by (field_size units g (kit_of units class)) ms
fields_sized units u f g h n class ms =
    found_sum (field_of units n class) (sized f) ms
    ∙ sum_same
    (λ m. option_map_or (sized f) (field_of units n class m) 0)
    (field_size units g (kit_of units class))
    (λ m. mapped m (form_of units (kit_of units class) m) ∙ form_sized units u f g h (kit_of units class) m)
    ms
  where
    mapped : (m : Member) (o : Option FieldForm) → option_map_or (sized f) (option_map (a_field units n class m) o) 0
        ≡ option_map_or (sizes.form_size f) o 0
    mapped m None = refl
    mapped m (Some x) = refl

own_sized : (units : List KitUnits) → Unbroken units → (f g : ℕ → ℕ) → SameSizes units f g → (class : ℕ) →
    sum_by (sized f) (own_typed units class) ≡ own_size units g class
own_sized units u f g h class =
    fields_sized units u f g h (number units class) class (own_fields units class)
    ∙ sum_filter is_instance_field (field_size units g (kit_of units class)) (members_of units class)

-- ---- classes

pub within_same : (units : List KitUnits) → Unbroken units → (program : Program) → program.schema ≡ schema_of units →
    program.fields ≡ fields_of units →
    (k : ℕ) → SameSizes units (sizes.data_within program k) (size_within units k)
within_same units u program s e zero class h = refl
within_same units u program s e (suc k) class h =
    ap (sum_by (sized (sizes.data_within program k))) (fields_at units u program s e (number units class) class
    (place_is units u class h))
    ∙ sum_up (own_typed units) (sized (sizes.data_within program k)) (lineage units class)
    ∙ sum_same
    (λ b. sum_by (sized (sizes.data_within program k)) (own_typed units b))
    (own_size units (size_within units k))
    (λ b. own_sized units u (sizes.data_within program k) (size_within units k) (within_same units u program s e k) b)
    (lineage units class)
    ∙ sym (ap (λ b. if b then 0 else sum_by (own_size units (size_within units k)) (lineage units class))
    (none_in_itself units u class))

pub data_same : (units : List KitUnits) → Unbroken units → (program : Program) → program.schema ≡ schema_of units →
    program.fields ≡ fields_of units →
    SameSizes units (sizes.data_size program) (data_size units)
data_same units u program s e class h =
    let len : length program.schema.classes ≡ places units = ap (λ (x : _). length x.classes) s ∙ infos_len units u in
    ap (λ n. sizes.data_within program n (number units class)) len
    ∙ within_same units u program s e (places units) class h
