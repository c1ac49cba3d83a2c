-- The rule is kept exactly where each of its stages is.
use Rattle.std.proofs.Common.{◌≡◌, ℕ, ◌+◌, ◌<◌, ◌&&◌, ◌||◌, not, nat_le, Bool, true, false, List, [], ◌∷◌, length, get_or, refl, ap, sym, ◌∙◌, arith, slice_get, Some, Result, Ok, Err}
use Rattle.std.specs.List.{list_all}
use Rattle.std.specs.Result.{IfOk}
use Rattle.std.proofs.Math.Bool.{and-false}
use Rattle.std.proofs.lemmas.Bool.{and_from, and_parts, both_ways, eq-eqb, leb-true, ltb-true}
use Rattle.scode_image.specs.declared.image.Image.{Image}
use Rattle.scode_image.specs.declared.image.ImageClass.{ImageClass}
use Rattle.scode_image.specs.declared.image.ImageField.{ImageField}
use Rattle.scode_code.specs.TableRules.{all_classes, base_stands_before, bytes_fit, class_agrees, component_has_table, field_width, fields_agree, has_class, n_is_of_form, holds_no_holder, keeps_limits, method_agrees, names_have_form, parts_are_known, slots_have_parts, sys_is_there, table_methods_fit, tables_agree, types_are_numbered}
use Rattle.scode_fields.specs.Stages.{class_is_based, class_is_laid, contents_fit, first_bytes_fit, is_laid, kit_is_there, kits_are_there, statics_are_laid}
use Rattle.scode_fields.specs.Rows.{AreLaid}
use Rattle.scode_fields.specs.Walking.{AreBased, IsOrder}
use Rattle.scode_fields.specs.Words.{fields_are_laid, object_is_there}
use Rattle.scode_fields.proofs.Counting.{classes_few}
use Rattle.scode_fields.proofs.Loops.{all_from, all_from_at, all_from_each, list_all_get}
use Rattle.scode_fields.proofs.Walks.{order_holds_none}

-- ---- truths in another order

in_pairs : (q r s : Bool) (all_q all_r all_s : Bool)
    → ((q && (r && s)) && (all_q && (all_r && all_s))) ≡ ((q && all_q) && ((r && all_r) && (s && all_s)))
in_pairs true true true true true true = refl
in_pairs true true true true true false = refl
in_pairs true true true true false true = refl
in_pairs true true true true false false = refl
in_pairs true true true false true true = refl
in_pairs true true true false true false = refl
in_pairs true true true false false true = refl
in_pairs true true true false false false = refl
in_pairs true true false true true true = refl
in_pairs true true false true true false = refl
in_pairs true true false true false true = refl
in_pairs true true false true false false = refl
in_pairs true true false false true true = refl
in_pairs true true false false true false = refl
in_pairs true true false false false true = refl
in_pairs true true false false false false = refl
in_pairs true false true true true true = refl
in_pairs true false true true true false = refl
in_pairs true false true true false true = refl
in_pairs true false true true false false = refl
in_pairs true false true false true true = refl
in_pairs true false true false true false = refl
in_pairs true false true false false true = refl
in_pairs true false true false false false = refl
in_pairs true false false true true true = refl
in_pairs true false false true true false = refl
in_pairs true false false true false true = refl
in_pairs true false false true false false = refl
in_pairs true false false false true true = refl
in_pairs true false false false true false = refl
in_pairs true false false false false true = refl
in_pairs true false false false false false = refl
in_pairs false true true true true true = refl
in_pairs false true true true true false = refl
in_pairs false true true true false true = refl
in_pairs false true true true false false = refl
in_pairs false true true false true true = refl
in_pairs false true true false true false = refl
in_pairs false true true false false true = refl
in_pairs false true true false false false = refl
in_pairs false true false true true true = refl
in_pairs false true false true true false = refl
in_pairs false true false true false true = refl
in_pairs false true false true false false = refl
in_pairs false true false false true true = refl
in_pairs false true false false true false = refl
in_pairs false true false false false true = refl
in_pairs false true false false false false = refl
in_pairs false false true true true true = refl
in_pairs false false true true true false = refl
in_pairs false false true true false true = refl
in_pairs false false true true false false = refl
in_pairs false false true false true true = refl
in_pairs false false true false true false = refl
in_pairs false false true false false true = refl
in_pairs false false true false false false = refl
in_pairs false false false true true true = refl
in_pairs false false false true true false = refl
in_pairs false false false true false true = refl
in_pairs false false false true false false = refl
in_pairs false false false false true true = refl
in_pairs false false false false true false = refl
in_pairs false false false false false true = refl
in_pairs false false false false false false = refl

behind_holder : (bytes holds slots table : Bool)
    → ((((true && (true && bytes)) && holds) && slots) && table) ≡ ((((true && true) && slots) && table) &&
    (holds && bytes))
behind_holder true true true true = refl
behind_holder true true true false = refl
behind_holder true true false true = refl
behind_holder true true false false = refl
behind_holder true false true true = refl
behind_holder true false true false = refl
behind_holder true false false true = refl
behind_holder true false false false = refl
behind_holder false true true true = refl
behind_holder false true true false = refl
behind_holder false true false true = refl
behind_holder false true false false = refl
behind_holder false false true true = refl
behind_holder false false true false = refl
behind_holder false false false true = refl
behind_holder false false false false = refl

of_class : (a laid bytes holds slots table : Bool)
    → ((((a && (laid && bytes)) && holds) && slots) && table) ≡ ((((a && laid) && slots) && table) && (holds && bytes))
of_class false laid bytes holds slots table = refl
of_class true false bytes holds slots table = refl
of_class true true bytes holds slots table = behind_holder bytes holds slots table

bytes_last : (holds contents laid bytes methods : Bool)
    → ((((holds && contents) && (laid && bytes)) && methods) && true) ≡ ((laid && methods) && (holds &&
    (contents && bytes)))
bytes_last true true true true true = refl
bytes_last true true true true false = refl
bytes_last true true true false true = refl
bytes_last true true true false false = refl
bytes_last true true false true true = refl
bytes_last true true false true false = refl
bytes_last true true false false true = refl
bytes_last true true false false false = refl
bytes_last true false true true true = refl
bytes_last true false true true false = refl
bytes_last true false true false true = refl
bytes_last true false true false false = refl
bytes_last true false false true true = refl
bytes_last true false false true false = refl
bytes_last true false false false true = refl
bytes_last true false false false false = refl
bytes_last false true true true true = refl
bytes_last false true true true false = refl
bytes_last false true true false true = refl
bytes_last false true true false false = refl
bytes_last false true false true true = refl
bytes_last false true false true false = refl
bytes_last false true false false true = refl
bytes_last false true false false false = refl
bytes_last false false true true true = refl
bytes_last false false true true false = refl
bytes_last false false true false true = refl
bytes_last false false true false false = refl
bytes_last false false false true true = refl
bytes_last false false false true false = refl
bytes_last false false false false true = refl
bytes_last false false false false false = refl

-- kits that are there are known where classes are
of_image : (known named numbered sys table kits classes holds contents laid bytes methods limits : Bool)
    → (classes ≡ true → kits ≡ true)
    → (((((((((known && named) && numbered) && sys) && table) && (classes && (holds && contents))) &&
    (laid && bytes)) && methods)
    && limits))
    ≡ (((((((known && kits) && limits) && (((named && numbered) && sys) && table)) && classes) && laid) && methods)
    && (holds && (contents && bytes)))
of_image false named numbered sys table kits classes holds contents laid bytes methods limits there = refl
of_image true named numbered sys table false false holds contents laid bytes methods limits there =
    ap (λ (b : Bool). ((b && (laid && bytes)) && methods) && limits) (and-false
    ((((true && named) && numbered) && sys) && table))
of_image true named numbered sys table false true holds contents laid bytes methods limits there =
    absurd (both_ways false refl (there refl))
of_image true named numbered sys table true classes holds contents laid bytes methods false there = and-false _
of_image true false numbered sys table true classes holds contents laid bytes methods true there = refl
of_image true true false sys table true classes holds contents laid bytes methods true there = refl
of_image true true true false table true classes holds contents laid bytes methods true there = refl
of_image true true true true false true classes holds contents laid bytes methods true there = refl
of_image true true true true true true false holds contents laid bytes methods true there = refl
of_image true true true true true true true holds contents laid bytes methods true there =
    bytes_last holds contents laid bytes methods

-- ---- tests of all classes

all_apart : {A : Type 0} (p q r : ℕ → A → Bool) (s : A → Bool)
    → ((i : ℕ) (x : A) → p i x ≡ (q i x && (r i x && s x))) → (i : ℕ) (xs : List A)
    → all_from p i xs ≡ (all_from q i xs && (all_from r i xs && list_all s xs))
all_apart p q r s same i [] = refl
all_apart p q r s same i (x ∷ xs) =
    ap (λ (b : Bool). b && all_from p (i + 1) xs) (same i x)
    ∙ ap (λ (b : Bool). (q i x && (r i x && s x)) && b) (all_apart p q r s same (i + 1) xs)
    ∙ in_pairs (q i x) (r i x) (s x) (all_from q (i + 1) xs) (all_from r (i + 1) xs) (list_all s xs)

class_by_stages : (image : Image) (class : ℕ) (c : ImageClass)
    → class_agrees image class c ≡ (class_is_laid image class c &&
    (holds_no_holder image class c && contents_fit image c))
class_by_stages image class c =
    of_class (class_is_based image class c) (fields_are_laid image (length c.contents) c.fields)
    (bytes_fit image c.fields c.contents)
    (holds_no_holder image class c) (slots_have_parts image c) (table_methods_fit image class c)

classes_by_stages : (image : Image)
    → all_classes image (class_agrees image)
    ≡ (all_classes image (class_is_laid image) && (all_classes image (holds_no_holder image) && list_all
    (contents_fit image) image.classes))
classes_by_stages image =
    all_apart (class_agrees image) (class_is_laid image) (holds_no_holder image) (contents_fit image)
    (class_by_stages image) 0
    image.classes

-- a class that is laid has its kit
laid_kit : (image : Image) (class : ℕ) (c : ImageClass) → class_is_laid image class c ≡ true
    → kit_is_there image c ≡ true
laid_kit image class c laid =
    let based = (and_parts _ _ (and_parts _ _ (and_parts _ _ laid).0).0).0 in
    let numbers = (and_parts _ _ (and_parts _ _ (and_parts _ _ (and_parts _ _ based).0).0).0).0 in
    (and_parts _ _ (and_parts _ _ (and_parts _ _ numbers).0).0).0

laid_kits : (image : Image) (i : ℕ) (cs : List ImageClass) → all_from (class_is_laid image) i cs ≡ true
    → list_all (kit_is_there image) cs ≡ true
laid_kits image i [] laid = refl
laid_kits image i (c ∷ cs) laid =
    let parts = and_parts (class_is_laid image i c) (all_from (class_is_laid image) (i + 1) cs) laid in
    and_from _ _ (laid_kit image i c parts.0) (laid_kits image (i + 1) cs parts.1)

pub agree_by_stages : (image : Image)
    → tables_agree image ≡ (is_laid image && (all_classes image (holds_no_holder image) && first_bytes_fit image))
unfolding is_laid first_bytes_fit
agree_by_stages image =
    ap (λ (classes : Bool). parts_are_known image && names_have_form image && types_are_numbered image && sys_is_there
    image
    && component_has_table image && classes
    && fields_agree image (length image.static_bytes) image.static_fields image.static_bytes
    && list_all (method_agrees image) image.methods && keeps_limits image) (classes_by_stages image)
    ∙ of_image (parts_are_known image) (names_have_form image) (types_are_numbered image) (sys_is_there image)
    (component_has_table image) (kits_are_there image) (all_classes image (class_is_laid image))
    (all_classes image (holds_no_holder image))
    (list_all (contents_fit image) image.classes) (statics_are_laid image)
    (bytes_fit image image.static_fields image.static_bytes) (list_all (method_agrees image) image.methods)
    (keeps_limits image)
    (laid_kits image 0 image.classes)

-- ---- what is known of an image that is laid

pub record Known (image : Image) : Type 0 where
  pub parts : parts_are_known image ≡ true
  pub kits : kits_are_there image ≡ true
  pub limits : keeps_limits image ≡ true
  pub classes : all_classes image (class_is_laid image) ≡ true
  pub statics : statics_are_laid image ≡ true

pub known : (image : Image) → is_laid image ≡ true → Known image
unfolding is_laid
known image laid =
    let statics = and_parts _ _ (and_parts _ _ laid).0 in
    let classes = and_parts _ _ statics.0 in
    let limits = and_parts _ _ (and_parts _ _ classes.0).0 in
    let kits = and_parts _ _ limits.0 in
    record { parts = kits.0; kits = kits.1; limits = limits.1; classes = classes.1; statics = statics.1 }

pub known_class : (image : Image) (class : ℕ) (c : ImageClass) → is_laid image ≡ true
    → slice_get image.classes class ≡ Some c
    → class_is_laid image class c ≡ true
known_class image class c laid is =
    let zeroth : class ≡ 0 + class = omega arith in
    ap (λ (n : ℕ). class_is_laid image n c) zeroth
    ∙ all_from_at (class_is_laid image) 0 image.classes class c is (known image laid).classes

pub known_bases : (image : Image) → is_laid image ≡ true → AreBased image
known_bases image laid = record {
  before = all_from_each base_stands_before 0 image.classes (λ k c is.
      let zeroth : 0 + k ≡ k = omega arith in
      let based = (and_parts _ _ (and_parts _ _ (and_parts _ _ (known_class image k c laid is)).0).0).0 in
      ap (λ (n : ℕ). base_stands_before n c) zeroth
      ∙ (and_parts _ _ (and_parts _ _ (and_parts _ _ (and_parts _ _ based).0).0).0).1);
  few = (let k = known image laid in let few = classes_few image k.kits k.limits in omega arith);
}

-- ---- fields that are laid

pub laid_fields : (image : Image) (size : ℕ) (fields : List ImageField) → fields_are_laid image size fields ≡ true
    → AreLaid image size fields
laid_fields image size fields laid = λ i d within.
    let parts = and_parts _ _ laid in
    record {
      within = leb-true _ size (list_all_get (λ (f : ImageField). nat_le
          (f.offset + field_width image f) size) fields d i within
          (and_parts _ _ parts.1).0);
      of_form = list_all_get n_is_of_form fields d i within (and_parts _ _ parts.0).1;
    }

pub object_there : (image : Image) (size : ℕ) (fields : List ImageField) → fields_are_laid image size fields ≡ true
    → (i : ℕ) (d : ImageField) → i < length fields → (get_or fields i d).form ≡ 8
    → (get_or fields i d).n < length image.classes
object_there image size fields laid i d within object =
    let all = (and_parts _ _ (and_parts _ _ (and_parts _ _ laid).0).0).0 in
    let f = get_or fields i d in
    let there = list_all_get (object_is_there image) fields d i within all in
    ltb-true f.n (length image.classes)
    (sym (ap (λ (b : Bool). not b || has_class image f.n) (eq-eqb f.form 8 object)) ∙ there)

pub class_fields_laid : (image : Image) (class : ℕ) (c : ImageClass) → is_laid image ≡ true
    → slice_get image.classes class ≡ Some c → fields_are_laid image (length c.contents) c.fields ≡ true
class_fields_laid image class c laid is =
    (and_parts _ _ (and_parts _ _ (and_parts _ _ (known_class image class c laid is)).0).0).1

-- ---- the last stage

pub agree_at_last : {E : Type 0} (image : Image) (order : List ℕ) (r : Result Bool E) → is_laid image ≡ true
    → IsOrder image order
    → IfOk r (λ fit. fit ≡ first_bytes_fit image) → IfOk r (λ agree. agree ≡ tables_agree image)
agree_at_last image order (Ok b) laid sorted fit =
    fit ∙ sym (agree_by_stages image
    ∙ ap (λ (l : Bool). l && (all_classes image (holds_no_holder image) && first_bytes_fit image)) laid
    ∙ ap (λ (h : Bool). h && first_bytes_fit image) (order_holds_none image order sorted))
agree_at_last image order (Err e) laid sorted fit = tt
