-- The classes of the schema, by their numbers.
use Rattle.std.proofs.Common.{◌≡◌, ◌<◌, ◌+◌, ℕ, zero, suc, List, [], ◌∷◌, length, slice_get, Option, Some, None, refl, sym, ap, ◌∙◌, arith}
use Rattle.std.specs.List.{cons_option, filter_map, range_with_len, sum_by}
use Rattle.std.specs.Option.{option_and_then, option_map, option_map_or}
use Rattle.std.proofs.Math.Numerals.{add-one}
use Rattle.std.proofs.lemmas.List.Sums.{sum_by-cons}
use Rattle.std.proofs.lemmas.Option.{slice_get-get_or, slice_get_within}
use Rattle.sed_typed.specs.declared.schema.ClassInfo.{ClassInfo}
use Rattle.sed_classes.specs.declared.kit_units.KitUnits.{KitUnits}
use Rattle.sed_classes.specs.Declarations.{Declaration, all_classes, class_at}
use Rattle.sed_classes.specs.Schema.{class_info, class_infos, class_order}
use Rattle.sed_program.specs.Types.{place_of}
use Rattle.sed_outline.specs.Fits.{Unbroken}
use Rattle.sed_program.proofs.Lineages.{places}
use Rattle.sed_program.proofs.Order.{order_len, order_sum, place_in, placed}

-- ---- what is found of each of a row

abbrev pub EachFound : {X Y : Type 0} → (X → Option Y) → List X → Type 0
EachFound {X} {Y} f xs = (k : ℕ) (x : X) → slice_get xs k ≡ Some x → (y : Y) × (f x ≡ Some y)

pub found_length : {X Y : Type 0} (f : X → Option Y) (xs : List X) → EachFound f xs →
    length (filter_map f xs) ≡ length xs
found_length f [] h = refl
found_length f (x ∷ xs) h =
    let there = h 0 x refl in
    ap (λ o. length (cons_option o (filter_map f xs))) there.1 ∙ ap suc (found_length f xs (λ k y e. h (suc k) y e))

pub found_at : {X Y : Type 0} (f : X → Option Y) (xs : List X) → EachFound f xs → (k : ℕ) →
    slice_get (filter_map f xs) k ≡ option_and_then f (slice_get xs k)
found_at f [] h k = refl
found_at f (x ∷ xs) h zero =
    let there = h 0 x refl in
    ap (λ o. slice_get (cons_option o (filter_map f xs)) 0) there.1 ∙ sym there.1
found_at f (x ∷ xs) h (suc k) =
    let there = h 0 x refl in
    ap (λ o. slice_get (cons_option o (filter_map f xs)) (suc k)) there.1 ∙ found_at f xs (λ k y e. h (suc k) y e) k

pub found_sum : {X Y : Type 0} (f : X → Option Y) (w : Y → ℕ) (xs : List X) →
    sum_by w (filter_map f xs) ≡ sum_by (λ x. option_map_or w (f x) 0) xs
found_sum f w [] = refl
found_sum f w (x ∷ xs) =
    one (f x)
    ∙ ap (λ n. option_map_or w (f x) 0 + n) (found_sum f w xs)
    ∙ sym (sum_by-cons (λ x. option_map_or w (f x) 0) x xs)
  where
    one : (o : Option _) → sum_by w (cons_option o (filter_map f xs)) ≡ option_map_or w o 0 + sum_by w (filter_map f xs)
    one None = omega arith
    one (Some y) = sum_by-cons w y (filter_map f xs)

-- ---- classes

pub class_there : (units : List KitUnits) (class : ℕ) → class < places units →
    (d : Declaration) × (class_at units class ≡ Some d)
class_there units class h = by_list (all_classes units) h
  where
    by_list : (xs : List Declaration) → class < length xs → (d : Declaration) × (slice_get xs class ≡ Some d)
    by_list [] l = absurd (omega (arith, l))
    by_list (x ∷ xs) l = (_, slice_get-get_or (x ∷ xs) class x l)

abbrev told : List KitUnits → ℕ → Option ClassInfo
told units class = option_map (class_info units class) (class_at units class)

each_told : (units : List KitUnits) → Unbroken units → EachFound (told units) (class_order units)
each_told units u k class e =
    let there = class_there units class (place_in units u k class e).1 in
    (class_info units class there.0, ap (option_map (class_info units class)) there.1)

pub infos_len : (units : List KitUnits) → Unbroken units → length (class_infos units) ≡ places units
infos_len units u = found_length (told units) (class_order units) (each_told units u) ∙ order_len units u

pub info_at : (units : List KitUnits) → Unbroken units → (k class : ℕ) (d : Declaration) →
    place_of units k ≡ Some class →
    class_at units class ≡ Some d → slice_get (class_infos units) k ≡ Some (class_info units class d)
info_at units u k class d e f =
    found_at (told units) (class_order units) (each_told units u) k
    ∙ ap (option_and_then (told units)) e
    ∙ ap (option_map (class_info units class)) f

-- what the schema has at a number, and of which class it is
pub record ClassAt (units : List KitUnits) (k : ℕ) (info : ClassInfo) : Type 0 where
  pub class : ℕ
  pub declared : Declaration
  pub place : place_of units k ≡ Some class
  pub there : class_at units class ≡ Some declared
  pub is : info ≡ class_info units class declared

pub info_of : (units : List KitUnits) → Unbroken units → (k : ℕ) (info : ClassInfo) →
    slice_get (class_infos units) k ≡ Some info → ClassAt units k info
info_of units u k info e =
    let h : k < places units = omega (arith, slice_get_within (class_infos units) k info e, infos_len units u) in
    let at = placed units u k h in
    let d = class_there units at.0 (place_in units u k at.0 at.1).1 in
    let some : Some info ≡ Some (class_info units at.0 d.0) = sym e ∙ info_at units u k at.0 d.0 at.1 d.1 in
    record { class = at.0; declared = d.0; place = at.1; there = d.1; is = cc }

-- ---- sums over all classes

range_shift : (f : ℕ → ℕ) (a n : ℕ) → sum_by f (range_with_len (a + 1) n) ≡ sum_by (λ x. f (suc x)) (range_with_len a n)
range_shift f a zero = refl
range_shift f a (suc n) =
    sum_by-cons f (a + 1) (range_with_len (a + 1 + 1) n)
    ∙ omega (arith, ap f (add-one a), range_shift f (a + 1) n)
    ∙ sym (sum_by-cons (λ x. f (suc x)) a (range_with_len (a + 1) n))

pub places_sum : {X : Type 0} (g : X → ℕ) (xs : List X) →
    sum_by (λ c. option_map_or g (slice_get xs c) 0) (range_with_len 0 (length xs)) ≡ sum_by g xs
places_sum g [] = refl
places_sum g (x ∷ xs) =
    sum_by-cons (λ c. option_map_or g (slice_get (x ∷ xs) c) 0) 0 (range_with_len 1 (length xs))
    ∙ ap (λ n. g x + n) (range_shift (λ c. option_map_or g (slice_get (x ∷ xs) c) 0) 0 (length xs) ∙ places_sum g xs)
    ∙ sym (sum_by-cons g x xs)

pub sum_same : {X : Type 0} (f g : X → ℕ) → ((x : X) → f x ≡ g x) → (xs : List X) → sum_by f xs ≡ sum_by g xs
sum_same f g h [] = refl
sum_same f g h (x ∷ xs) = omega (arith, sum_by-cons f x xs, sum_by-cons g x xs, h x, sum_same f g h xs)

-- what depends on a declaration alone comes to the same over the schema
pub infos_sum : (units : List KitUnits) → Unbroken units → (w : ClassInfo → ℕ) (g : Declaration → ℕ) →
    ((class : ℕ) (d : Declaration) → w (class_info units class d) ≡ g d) →
    sum_by w (class_infos units) ≡ sum_by g (all_classes units)
infos_sum units u w g h =
    found_sum (told units) w (class_order units)
    ∙ sum_same
    (λ c. option_map_or w (told units c) 0)
    (λ c. option_map_or g (class_at units c) 0)
    (λ c. one c (class_at units c))
    (class_order units)
    ∙ order_sum units u (λ c. option_map_or g (class_at units c) 0)
    ∙ places_sum g (all_classes units)
  where
    one : (c : ℕ) (o : Option Declaration) → option_map_or w (option_map (class_info units c) o) 0 ≡ option_map_or g o 0
    one c None = refl
    one c (Some d) = h c d
