-- First bytes, class by class.
use Rattle.std.proofs.Common.{◌≡◌, ℕ, suc, ◌+◌, ◌-◌, ◌<◌, ◌≤◌, ◌&&◌, nat_lt, Bool, true, false, List, [], ◌∷◌, ◌++◌, length, get_or, set, refl, ap, sym, ◌∙◌, subst, arith, ◌⊎◌, inl, inr, slice_get, Option, Some, Result, Ok, Err, length-append}
use Rattle.std.specs.List.{list_all}
use Rattle.std.specs.Option.{option_map_or}
use Rattle.std.specs.Result.{IfOk}
use Rattle.std.proofs.Math.ListN.{length-set}
use Rattle.std.proofs.lemmas.Bool.{and_from, and_parts, cases_eq, cases_lt, ltb-true}
use Rattle.std.proofs.lemmas.List.{get_or-set_other, get_or-set_same, get_or_append_left, get_or_past, get_or_push}
use Rattle.std.proofs.lemmas.List.Folds.{list_all_at}
use Rattle.std.proofs.lemmas.Option.{get_or_from_slice_get, slice_get_within}
use Rattle.sed_value.specs.Value.{are_bytes}
use Rattle.scode_image.specs.declared.image.Image.{Image}
use Rattle.scode_image.specs.declared.image.ImageClass.{ImageClass}
use Rattle.scode_image.specs.declared.image.ImageField.{ImageField}
use Rattle.scode_code.specs.TableRules.{bytes_fit, class_is_known, object_fits}
use Rattle.scode_fields.specs.Fitting.{HasOneMore}
use Rattle.scode_fields.specs.Rows.{HasRow, HaveRows, Tells, below, fields_test, row_at}
use Rattle.scode_fields.specs.Stages.{contents_fit, first_bytes_fit, is_laid}
use Rattle.scode_fields.specs.Walking.{IsOrder, steps_to}
use Rattle.scode_fields.specs.Words.{object_width}
use Rattle.scode_fields.proofs.Loops.{list_all_get}
use Rattle.scode_fields.proofs.Staged.{class_fields_laid, known, object_there}
use Rattle.scode_fields.proofs.Walks.{field_steps, fields_at}

-- ---- bytes are small

pub small_bytes : (bytes : List ℕ) → are_bytes bytes ≡ true → (k : ℕ) → get_or bytes k 0 ≤ 255
small_bytes bytes all k =
    let h : ((k < length bytes) ⊎ (length bytes ≤ k)) = cases_lt k (length bytes) in
    elim h [
      | inl here ↦ (let b = ltb-true (get_or bytes k 0) 256 (list_all_get (λ
          (n : ℕ). nat_lt n 256) bytes 0 k here all) in omega arith)
      | inr past ↦ (let none = get_or_past bytes k 0 past in omega arith)
    ]

pub contents_small : (image : Image) (class : ℕ) (c : ImageClass) → is_laid image ≡ true
    → slice_get image.classes class ≡ Some c → are_bytes c.contents ≡ true
contents_small image class c laid is =
    let parts = (known image laid).parts in
    let classes = (and_parts _ _ (and_parts _ _ (and_parts _ _ (and_parts _ _ parts).0).0).0).0 in
    let there = slice_get_within image.classes class c is in
    let one = list_all_get class_is_known image.classes c class there classes in
    let same = get_or_from_slice_get image.classes class c c is in
    (and_parts _ _ (ap class_is_known (sym same) ∙ one)).1

pub statics_small : (image : Image) → is_laid image ≡ true → are_bytes image.static_bytes ≡ true
statics_small image laid =
    (and_parts _ _ (and_parts _ _ (and_parts _ _ (known image laid).parts).0).0).1

-- ---- one class more

width_at : (image : Image) (class : ℕ) (c : ImageClass) → slice_get image.classes class ≡ Some c
    → object_width image class ≡ length c.contents
width_at image class c is = ap (λ (o : Option ImageClass). option_map_or (λ (c : ImageClass). length c.contents) o 0) is

length_push : (rows : List (List ℕ)) (row : List ℕ) → length (rows ++ row ∷ []) ≡ length rows + 1
length_push rows row = simp length-append

told_deeper : (image : Image) (class : ℕ) (c : ImageClass) (row : List ℕ) (least : ℕ)
    → slice_get image.classes class ≡ Some c
    → ((depth : ℕ) → least ≤ depth → Tells row (fields_test depth image c.fields)) → (depth : ℕ) → least + 1 ≤ depth
    → Tells row (object_fits depth image class)
told_deeper image class c row least is tells depth deep =
    let one : suc (depth - 1) ≡ depth = omega arith in
    let t = tells (depth - 1) (omega arith) in
    subst (λ (d : ℕ). Tells row (object_fits d image class)) one (record {
      is = λ bytes spans. t.is bytes spans
          ∙ sym (ap (λ (fs : List ImageField). fields_test (depth - 1) image fs bytes) (fields_at image class c is));
    })

pub row_behind : (image : Image) (rows : List (List ℕ)) (places : List ℕ) (row : List ℕ) (class : ℕ) (c : ImageClass)
    → length places ≡ length image.classes → slice_get image.classes class ≡ Some c → length row ≡ length c.contents
    → ((depth : ℕ) → length rows ≤ depth → Tells row (fields_test depth image c.fields))
    → HasRow image (rows ++ row ∷ []) (set places class (length rows)) class
row_behind image rows places row class c long is size tells =
    let there = slice_get_within image.classes class c is in
    let at : get_or (set places class (length rows)) class 0 ≡ length rows =
    get_or-set_same places class (length rows) 0 (omega arith) in
    let push = length_push rows row in
    let same : row_at (rows ++ row ∷ []) (set places class (length rows)) class ≡ row =
    ap (λ (n : ℕ). get_or (rows ++ row ∷ []) n []) at ∙ get_or_push rows row [] (length rows) refl in
    record {
      there = omega (arith, at, push);
      long = ap length same ∙ size ∙ sym (width_at image class c is);
      tells = λ depth deep. subst (λ (r : List ℕ). Tells r (object_fits depth image class)) (sym same)
          (told_deeper image class c row (length rows) is tells depth (omega (arith, push)));
    }

rows_stay : (image : Image) (rows : List (List ℕ)) (places : List ℕ) (row : List ℕ) (class other : ℕ)
    → (other ≡ class → ⊥) → HasRow image rows places other
    → HasRow image (rows ++ row ∷ []) (set places class (length rows)) other
rows_stay image rows places row class other apart has =
    let at : get_or (set places class (length rows)) other 0 ≡ get_or places other 0 =
    get_or-set_other places class other (length rows) 0 apart in
    let push = length_push rows row in
    let there = has.there in
    let same : row_at (rows ++ row ∷ []) (set places class (length rows)) other ≡ row_at rows places other =
    ap (λ (n : ℕ). get_or (rows ++ row ∷ []) n []) at ∙ get_or_append_left rows (row ∷ []) []
    (get_or places other 0) there in
    record {
      there = omega (arith, at, push);
      long = ap length same ∙ has.long;
      tells = λ depth deep. subst (λ (r : List ℕ). Tells r (object_fits depth image other)) (sym same)
          (has.tells depth (omega (arith, push)));
    }

same_class : (image : Image) (class : ℕ) (c d : ImageClass) → slice_get image.classes class ≡ Some c
    → slice_get image.classes class ≡ Some d → d ≡ c
same_class image class c d is other = let q : ◌≡◌ {A = Option ImageClass} (Some d) (Some c) = sym other ∙ is in cc

told_fit : (image : Image) (class : ℕ) (c : ImageClass) (row : List ℕ) (least : ℕ) → is_laid image ≡ true
    → slice_get image.classes class ≡ Some c → length row ≡ length c.contents → least ≤ length image.classes
    → ((depth : ℕ) → least ≤ depth → Tells row (fields_test depth image c.fields))
    → below row c.contents ≡ contents_fit image c
told_fit image class c row least laid is size few tells =
    (tells (length image.classes) few).is c.contents
    (record { small = small_bytes c.contents (contents_small image class c laid is); long = omega arith })

pub one_more : (image : Image) (rows : List (List ℕ)) (places : List ℕ) (row : List ℕ) (class : ℕ) (c : ImageClass)
    → is_laid image ≡ true → length places ≡ length image.classes → slice_get image.classes class ≡ Some c
    → length rows < length image.classes → length row ≡ length c.contents
    → ((depth : ℕ) → length rows ≤ depth → Tells row (fields_test depth image c.fields)) → below row c.contents ≡ true
    → HasOneMore image rows places (rows ++ row ∷ []) (set places class (length rows)) class
one_more image rows places row class c laid long is few size tells fit =
    let own = row_behind image rows places row class c long is size tells in
    record {
      count = length_push rows row;
      places_long = length-set places class (length rows);
      others = λ other has. (let h : ((other ≡ class) ⊎ (other ≡ class → ⊥)) = cases_eq other class in
          elim h [
            | inl same ↦ subst (λ (n : ℕ). HasRow image (rows ++ row ∷ []) (set places class (length rows)) n)
                (sym same) own
            | inr apart ↦ rows_stay image rows places row class other apart has
          ]);
      own = own;
      fit = λ d other. ap (λ (x : ImageClass). contents_fit image x) (same_class image class c d is other)
          ∙ sym (told_fit image class c row (length rows) laid is size (omega arith) tells) ∙ fit;
    }

pub one_fails : (image : Image) (row : List ℕ) (class : ℕ) (c : ImageClass) (least : ℕ) → is_laid image ≡ true
    → slice_get image.classes class ≡ Some c → least < length image.classes → length row ≡ length c.contents
    → ((depth : ℕ) → least ≤ depth → Tells row (fields_test depth image c.fields)) → below row c.contents ≡ false
    → first_bytes_fit image ≡ false
unfolding first_bytes_fit
one_fails image row class c least laid is few size tells fails =
    let there = slice_get_within image.classes class c is in
    let same = get_or_from_slice_get image.classes class c c is in
    ap (λ (b : Bool). b && bytes_fit image image.static_fields image.static_bytes)
    (list_all_at (contents_fit image) image.classes class c there
    (ap (λ (x : ImageClass). contents_fit image x) same
    ∙ sym (told_fit image class c row least laid is size (omega arith) tells) ∙ fails))

-- ---- rows of what fields hold

pub held_rows : (image : Image) (order : List ℕ) (rows : List (List ℕ)) (places : List ℕ) (k : ℕ) (class : ℕ)
    (c : ImageClass)
    → IsOrder image order → is_laid image ≡ true → k < length order → get_or order k 0 ≡ class
    → slice_get image.classes class ≡ Some c
    → ((j : ℕ) → j < k → HasRow image rows places (get_or order j 0))
    → HaveRows image rows places c.fields
held_rows image order rows places k class c sorted laid within at is has = λ i d here object.
    let f = get_or c.fields i d in
    let fields = fields_at image class c is in
    let steps = subst (λ (fs : List ImageField). i < length fs → (get_or fs i d).form ≡ 8
    → steps_to image class (get_or fs i d).n ≡ true)
    fields (field_steps image class i d) here object in
    let there = object_there image (length c.contents) c.fields
    (class_fields_laid image class c laid is) i d here object in
    let s = sorted.in_order.behind k f.n within (ap (λ (n : ℕ). steps_to image n f.n) at ∙ steps) there in
    subst (λ (n : ℕ). HasRow image rows places n) s.is (has s.place s.before)

pub all_rows : (image : Image) (order : List ℕ) (rows : List (List ℕ)) (places : List ℕ) → IsOrder image order
    → ((j : ℕ) → j < length order → HasRow image rows places (get_or order j 0)) → (class : ℕ)
    → class < length image.classes
    → HasRow image rows places class
all_rows image order rows places sorted has class there =
    let s = sorted.all class there in
    subst (λ (n : ℕ). HasRow image rows places n) s.is (has s.place s.before)

each_class : {A : Type 0} (test : A → Bool) (xs : List A) → ((k : ℕ) (x : A) → slice_get xs k ≡ Some x → test x ≡ true)
    → list_all test xs ≡ true
each_class test [] each = refl
each_class test (x ∷ xs) each = and_from _ _ (each 0 x refl) (each_class test xs (λ k y is. each (suc k) y is))

pub all_fit : (image : Image) (order : List ℕ) → IsOrder image order
    → ((k : ℕ) (c : ImageClass) → k < length order → slice_get image.classes (get_or order k 0) ≡ Some c
    → contents_fit image c ≡ true)
    → list_all (contents_fit image) image.classes ≡ true
all_fit image order sorted fit = each_class (contents_fit image) image.classes (λ class c is.
    let s = sorted.all class (slice_get_within image.classes class c is) in
    fit s.place c s.before (ap (λ (n : ℕ). slice_get image.classes n) s.is ∙ is))

pub static_rows : (image : Image) (rows : List (List ℕ)) (places : List ℕ) → is_laid image ≡ true
    → ((class : ℕ) → class < length image.classes → HasRow image rows places class)
    → HaveRows image rows places image.static_fields
static_rows image rows places laid has = λ i d here object.
    has _ (object_there image (length image.static_bytes) image.static_fields
    (known image laid).statics i d here object)

pub statics_told : (image : Image) (row : List ℕ) (least : ℕ) → is_laid image ≡ true → least ≤ length image.classes
    → length row ≡ length image.static_bytes
    → ((depth : ℕ) → least ≤ depth → Tells row (fields_test depth image image.static_fields))
    → below row image.static_bytes ≡ bytes_fit image image.static_fields image.static_bytes
statics_told image row least laid few size tells =
    (tells (length image.classes) few).is image.static_bytes
    (record { small = small_bytes image.static_bytes (statics_small image laid); long = omega arith })

pub all_told : (image : Image) (statics : Bool) → list_all (contents_fit image) image.classes ≡ true
    → statics ≡ bytes_fit image image.static_fields image.static_bytes → statics ≡ first_bytes_fit image
unfolding first_bytes_fit
all_told image statics classes is =
    is ∙ sym (ap (λ (b : Bool). b && bytes_fit image image.static_fields image.static_bytes) classes)

pub fit_told : {E : Type 0} (image : Image) (r : Result Bool E) → list_all (contents_fit image) image.classes ≡ true
    → IfOk r (λ fit. fit ≡ bytes_fit image image.static_fields image.static_bytes)
    → IfOk r (λ fit. fit ≡ first_bytes_fit image)
fit_told image (Ok b) classes is = all_told image b classes is
fit_told image (Err e) classes is = tt

-- ---- the classes so far, and one more

pub record FitTo (image : Image) (order : List ℕ) (rows : List (List ℕ)) (places : List ℕ) (k : ℕ) : Type 0 where
  pub count : length rows ≡ k
  pub places_long : length places ≡ length image.classes
  pub has : (j : ℕ) → j < k → HasRow image rows places (get_or order j 0)
  pub fit : (j : ℕ) (c : ImageClass) → j < k → slice_get image.classes (get_or order j 0) ≡ Some c
      → contents_fit image c ≡ true

pub fit_more : (image : Image) (order : List ℕ) (rows rows_then : List (List ℕ)) (places places_then : List ℕ) (k : ℕ)
    → FitTo image order rows places k → HasOneMore image rows places rows_then places_then (get_or order k 0)
    → FitTo image order rows_then places_then (k + 1)
fit_more image order rows rows_then places places_then k before more = record {
  count = (let count = before.count in let one = more.count in omega arith);
  places_long = more.places_long ∙ before.places_long;
  has = λ j within. (let h : ((j < k) ⊎ (k ≤ j)) = cases_lt j k in
      elim h [
        | inl here ↦ more.others (get_or order j 0) (before.has j here)
        | inr last ↦ (let same : k ≡ j = omega arith in
            subst (λ (n : ℕ). HasRow image rows_then places_then (get_or order n 0)) same more.own)
      ]);
  fit = λ j c within is. (let h : ((j < k) ⊎ (k ≤ j)) = cases_lt j k in
      elim h [
        | inl here ↦ before.fit j c here is
        | inr last ↦ (let same : k ≡ j = omega arith in
            more.fit c (ap (λ (n : ℕ). slice_get image.classes (get_or order n 0)) same ∙ is))
      ]);
}
