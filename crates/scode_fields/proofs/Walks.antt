-- Steps between classes, and the orders in which each stands behind those that it leads to.
use Rattle.std.proofs.Common.{◌≡◌, ℕ, zero, suc, ◌+◌, ◌-◌, ◌<◌, ◌≤◌, ◌==◌, ◌&&◌, ◌||◌, not, Bool, true, false, cond, List, [], ◌∷◌, ◌++◌, length, get_or, set, refl, ap, sym, ◌∙◌, subst, arith, Option, Some, None, slice_get, ◌⊎◌, inl, inr, length-append, zero-add}
use Rattle.std.specs.List.{list_any, count_by}
use Rattle.std.specs.Option.{option_map_or}
use Rattle.std.proofs.lemmas.Bool.{and_from, and_parts, cases_Bool, cases_lt, cases_eq, eq-eqb, eqb-true, or_cases, or_left, or_right, both_ways, false_from_ne_true, not_from_false, ltb-true}
use Rattle.std.proofs.lemmas.List.{get_or-set_same, get_or-set_other, get_or_past, get_or_append_left, get_or_push}
use Rattle.std.proofs.lemmas.List.Sums.{sum_by-cons, sum_by-set, count_by-le-length}
use Rattle.std.proofs.lemmas.List.Folds.{list_any_at, list_all_at}
use Rattle.std.proofs.lemmas.Option.{slice_get_cases, slice_get_past, slice_get_within}
use Rattle.std.proofs.Math.ListN.{length-set, length-replicate, replicate}
use Rattle.scode_image.specs.declared.image.Image.{Image}
use Rattle.scode_image.specs.declared.image.ImageClass.{ImageClass}
use Rattle.scode_image.specs.declared.image.ImageField.{ImageField}
use Rattle.scode_code.specs.Tables.{class_fields}
use Rattle.scode_code.specs.TableRules.{all_classes, base_stands_before, holds_no_holder, leads_to, leads_within}
use Rattle.scode_fields.specs.Walking.{AreBased, Comes, GoesOn, IsCircle, IsDone, AreDone, AreOnWay, IsInOrder, IsOnWay, IsOrder, IsWalk, Stands, is_told, steps_to, unseen}
use Rattle.scode_fields.proofs.Loops.{all_from_at, all_from_each, all_from_false, list_all_each}

-- ---- some item passes

any_from : {A : Type 0} (p q : A → Bool) → ((x : A) → p x ≡ true → q x ≡ true) → (xs : List A) → list_any p xs ≡ true
    → list_any q xs ≡ true
any_from p q so [] any = any
any_from p q so (x ∷ xs) any =
    elim (or_cases (p x) (list_any p xs) any) [
      | inl here ↦ or_left (q x) (list_any q xs) (so x here)
      | inr there ↦ or_right (q x) (list_any q xs) (any_from p q so xs there)
    ]

-- where it is
pub record Passes {A : Type 0} (p : A → Bool) (xs : List A) (d : A) : Type 0 where
  pub index : ℕ
  pub within : index < length xs
  pub passes : p (get_or xs index d) ≡ true

pub any_passes : {A : Type 0} (p : A → Bool) (xs : List A) (d : A) → list_any p xs ≡ true → Passes p xs d
any_passes p [] d any = cc
any_passes p (x ∷ xs) d any =
    elim (or_cases (p x) (list_any p xs) any) [
      | inl here ↦ record { index = 0; within = omega arith; passes = here }
      | inr there ↦ (let r = any_passes p xs d there in
          record { index = suc r.index; within = (let w = r.within in omega arith); passes = r.passes })
    ]

-- ---- steps

pub field_steps : (image : Image) (class i : ℕ) (d : ImageField) → i < length (class_fields image class)
    → (get_or (class_fields image class) i d).form ≡ 8
    → steps_to image class (get_or (class_fields image class) i d).n ≡ true
field_steps image class i d within object =
    let f = get_or (class_fields image class) i d in
    or_left _ _ (list_any_at (λ (g : ImageField). (g.form == 8) && (g.n == f.n)) (class_fields image class) i d within
    (and_from _ _ (eq-eqb f.form 8 object) (eq-eqb f.n f.n refl)))

pub fields_at : (image : Image) (class : ℕ) (c : ImageClass) → slice_get image.classes class ≡ Some c
    → class_fields image class ≡ c.fields
fields_at image class c is = ap (λ (o : Option ImageClass). option_map_or (λ (c : ImageClass). c.fields) o []) is

pub base_steps : (image : Image) (class : ℕ) (c : ImageClass) → slice_get image.classes class ≡ Some c
    → steps_to image class c.base ≡ true
base_steps image class c is =
    or_right _ _ (ap (λ (o : Option ImageClass). option_map_or (λ (b : ImageClass). b.base == c.base) o false) is
    ∙ eq-eqb c.base c.base refl)

-- a step to a class is by a field or to the base
pub step_cases : (image : Image) (class to : ℕ) (c : ImageClass) (d : ImageField)
    → slice_get image.classes class ≡ Some c
    → steps_to image class to ≡ true
    → (Passes (λ (f : ImageField). (f.form == 8) && (f.n == to)) c.fields d) ⊎ (c.base ≡ to)
step_cases image class to c d is steps =
    elim (or_cases _ _ steps) [
      | inl any ↦ inl (any_passes (λ (f : ImageField). (f.form == 8) && (f.n == to)) c.fields d
          (sym (ap (λ (fs : List ImageField). list_any (λ (f : ImageField). (f.form == 8) && (f.n == to)) fs)
          (fields_at image class c is)) ∙ any))
      | inr base ↦ inr (eqb-true c.base to
          (sym (ap (λ (o : Option ImageClass). option_map_or (λ (b : ImageClass). b.base == to) o false) is) ∙ base))
    ]

-- ---- ways

pub leads_self : (image : Image) (k class : ℕ) → leads_within k image class class ≡ true
leads_self image zero class = eq-eqb class class refl
leads_self image (suc k) class = or_left _ _ (or_left _ _ (eq-eqb class class refl))

object_leads : (k : ℕ) (image : Image) (to by : ℕ) → leads_within k image to by ≡ true → (f : ImageField)
    → ((f.form == 8) && (f.n == by)) ≡ true → ((f.form == 8) && leads_within k image to f.n) ≡ true
object_leads k image to by leads f is =
    let p = and_parts (f.form == 8) (f.n == by) is in
    and_from _ _ p.0 (ap (λ (n : ℕ). leads_within k image to n) (eqb-true f.n by p.1) ∙ leads)

base_leads : (k : ℕ) (image : Image) (to by : ℕ) (c : Option ImageClass) → leads_within k image to by ≡ true
    → option_map_or (λ (c : ImageClass). c.base == by) c false ≡ true
    → option_map_or (λ (c : ImageClass). leads_within k image to c.base) c false ≡ true
base_leads k image to by None leads is = is
base_leads k image to by (Some c) leads is = ap (λ (n : ℕ). leads_within k image to n) (eqb-true c.base by is) ∙ leads

pub step_leads : (image : Image) (k from by to : ℕ) → steps_to image from by ≡ true → leads_within k image to by ≡ true
    → leads_within (suc k) image to from ≡ true
step_leads image k from by to steps leads =
    elim (or_cases _ _ steps) [
      | inl any ↦ or_left _ _ (or_right _ _ (any_from (λ (f : ImageField). (f.form == 8) && (f.n == by))
          (λ (f : ImageField). (f.form == 8) && leads_within k image to f.n) (object_leads k image to by leads)
          (class_fields image from) any))
      | inr base ↦ or_right _ _ (base_leads k image to by (slice_get image.classes from) leads base)
    ]

-- what leads on by fields or by the base
pub record LeadsOn (k : ℕ) (image : Image) (to from : ℕ) : Type 0 where
  pub by : ℕ
  pub steps : steps_to image from by ≡ true
  pub leads : leads_within k image to by ≡ true

by_field : (k : ℕ) (image : Image) (to from : ℕ) (fs : List ImageField) → fs ≡ class_fields image from
    → list_any (λ (f : ImageField). (f.form == 8) && leads_within k image to f.n) fs ≡ true → LeadsOn k image to from
by_field k image to from [] is any = cc
by_field k image to from (g ∷ gs) is any =
    let r = any_passes (λ (f : ImageField). (f.form == 8) && leads_within k image to f.n) (g ∷ gs) g any in
    let f = get_or (g ∷ gs) r.index g in
    let p = and_parts (f.form == 8) (leads_within k image to f.n) r.passes in
    record {
      by = f.n;
      steps = or_left _ _ (ap (λ (fs : List ImageField). list_any (λ (h : ImageField). (h.form == 8) &&
          (h.n == f.n)) fs) (sym is)
          ∙ list_any_at (λ (h : ImageField). (h.form == 8) && (h.n == f.n)) (g ∷ gs) r.index g r.within
          (and_from _ _ p.0 (eq-eqb f.n f.n refl)));
      leads = p.1;
    }

by_base : (k : ℕ) (image : Image) (to from : ℕ) (c : Option ImageClass) → c ≡ slice_get image.classes from
    → option_map_or (λ (c : ImageClass). leads_within k image to c.base) c false ≡ true → LeadsOn k image to from
by_base k image to from None is leads = cc
by_base k image to from (Some c) is leads = record {
  by = c.base;
  steps = base_steps image from c (sym is);
  leads = leads;
}

pub leads_cases : (image : Image) (k from to : ℕ) → leads_within (suc k) image to from ≡ true
    → (from ≡ to) ⊎ LeadsOn k image to from
leads_cases image k from to leads =
    elim (or_cases ((from == to) || list_any (λ (f : ImageField). (f.form == 8) && leads_within k image to f.n)
    (class_fields image from))
    _ leads) [
      | inl front ↦ elim (or_cases (from == to) _ front) [
        | inl same ↦ inl (eqb-true from to same)
        | inr any ↦ inr (by_field k image to from (class_fields image from) refl any)
      ]
      | inr base ↦ inr (by_base k image to from (slice_get image.classes from) refl base)
    ]

pub leads_more : (image : Image) (k from to : ℕ) → leads_within k image to from ≡ true
    → leads_within (suc k) image to from ≡ true
leads_more image zero from to leads = or_left _ _ (or_left _ _ leads)
leads_more image (suc k) from to leads =
    elim (leads_cases image k from to leads) [
      | inl same ↦ subst (λ (n : ℕ). leads_within (suc (suc k)) image n from ≡ true) same (leads_self image (suc
          (suc k)) from)
      | inr on ↦ step_leads image (suc k) from on.by to on.steps (leads_more image k on.by to on.leads)
    ]

leads_add : (image : Image) (k from to more : ℕ) → leads_within k image to from ≡ true
    → leads_within (more + k) image to from ≡ true
leads_add image k from to zero leads = subst (λ (n : ℕ). leads_within n image to from ≡ true) (omega arith) leads
leads_add image k from to (suc more) leads =
    let sum : suc (more + k) ≡ suc more + k = omega arith in
    subst (λ (n : ℕ). leads_within n image to from ≡ true) sum
    (leads_more image (more + k) from to (leads_add image k from to more leads))

pub leads_up : (image : Image) (k n from to : ℕ) → k ≤ n → leads_within k image to from ≡ true
    → leads_within n image to from ≡ true
leads_up image k n from to within leads =
    let sum : (n - k) + k ≡ n = omega arith in
    subst (λ (m : ℕ). leads_within m image to from ≡ true) sum (leads_add image k from to (n - k) leads)

-- a step more at the end
pub leads_then : (image : Image) (k from class to : ℕ) → leads_within k image class from ≡ true
    → steps_to image class to ≡ true → leads_within (suc k) image to from ≡ true
leads_then image zero from class to leads steps =
    let same = eqb-true from class leads in
    step_leads image 0 from to to (ap (λ (n : ℕ). steps_to image n to) same ∙ steps) (leads_self image 0 to)
leads_then image (suc k) from class to leads steps =
    elim (leads_cases image k from class leads) [
      | inl same ↦ step_leads image (suc k) from to to (ap (λ (n : ℕ). steps_to image n to) same ∙ steps)
          (leads_self image (suc k) to)
      | inr on ↦ step_leads image (suc k) from on.by to on.steps (leads_then image k on.by class to on.leads steps)
    ]

pub comes_up : (image : Image) (k n from to : ℕ) → k ≤ n → Comes image k from to → Comes image n from to
comes_up image k n from to within comes = record {
  by = comes.by;
  steps = comes.steps;
  leads = leads_up image k n comes.by to within comes.leads;
}

pub comes_then : (image : Image) (k from class to : ℕ) → Comes image k from class → steps_to image class to ≡ true
    → Comes image (suc k) from to
comes_then image k from class to comes steps = record {
  by = comes.by;
  steps = comes.steps;
  leads = leads_then image k comes.by class to comes.leads steps;
}

pub comes_once : (image : Image) (k from to : ℕ) → steps_to image from to ≡ true → Comes image k from to
comes_once image k from to steps = record { by = to; steps = steps; leads = leads_self image k to }

-- ---- classes that are not there

gone_steps : (image : Image) (from to : ℕ) → length image.classes ≤ from → steps_to image from to ≡ false
gone_steps image from to past =
    let none = slice_get_past image.classes from past in
    ap (λ (o : Option ImageClass). list_any (λ (f : ImageField). (f.form == 8) && (f.n == to))
    (option_map_or (λ (c : ImageClass). c.fields) o []) || option_map_or (λ
    (c : ImageClass). c.base == to) o false) none

gone_leads : (image : Image) (k from to : ℕ) → length image.classes ≤ from → leads_within k image to from ≡ true
    → from ≡ to
gone_leads image zero from to past leads = eqb-true from to leads
gone_leads image (suc k) from to past leads =
    elim (leads_cases image k from to leads) [
      | inl same ↦ same
      | inr on ↦ absurd (both_ways (steps_to image from on.by) (gone_steps image from on.by past) on.steps)
    ]

-- ---- a class that leads back to itself

no_field : ImageField
no_field = record { offset = 0; form = 0; n = 0 }

holder : (image : Image) (class : ℕ) (c : ImageClass) → slice_get image.classes class ≡ Some c → (i : ℕ)
    → i < length c.fields
    → (get_or c.fields i no_field).form ≡ 8
    → leads_within (length image.classes) image class (get_or c.fields i no_field).n ≡ true
    → all_classes image (holds_no_holder image) ≡ false
holder image class c is i within object leads =
    let f = get_or c.fields i no_field in
    let zeroth : 0 + class ≡ class = omega arith in
    all_from_false (holds_no_holder image) 0 image.classes class c is
    (ap (λ (n : ℕ). holds_no_holder image n c) zeroth
    ∙ list_all_at (λ (g : ImageField). not (g.form == 8) || not (leads_to image g.n class)) c.fields i no_field within
    (ap (λ (b : Bool). not b || not (leads_to image f.n class)) (eq-eqb f.form 8 object)
    ∙ ap (λ (b : Bool). not b) leads))

based : (image : Image) (class : ℕ) (c : ImageClass) → AreBased image → slice_get image.classes class ≡ Some c
    → (c.base ≡ 65535) ⊎ (c.base < class)
based image class c bases is =
    let zeroth : class ≡ 0 + class = omega arith in
    elim (or_cases _ _ (ap (λ (n : ℕ). base_stands_before n c) zeroth
    ∙ all_from_at base_stands_before 0 image.classes class c is bases.before)) [
      | inl none ↦ inl (eqb-true c.base 65535 none)
      | inr below ↦ inr (ltb-true c.base class below)
    ]

circle_below : (image : Image) → AreBased image → (bound m class : ℕ) → m ≡ length image.classes → class < bound
    → class < length image.classes → Comes image m class class → all_classes image (holds_no_holder image) ≡ false
circle_below image bases zero m class long below there round = absurd (omega arith)
circle_below image bases (suc bound) zero class long below there round = absurd (omega arith)
circle_below image bases (suc bound) (suc m) class long below there round =
    elim (slice_get_cases image.classes class).1 [
      | inl found ↦ elim (step_cases image class round.by found.0 no_field found.2 round.steps) [
        | inl field ↦ (let f = get_or found.0.fields field.index no_field in
            let p = and_parts (f.form == 8) (f.n == round.by) field.passes in
            holder image class found.0 found.2 field.index field.within (eqb-true f.form 8 p.0)
            (ap (λ (n : ℕ). leads_within n image class f.n) (sym long)
            ∙ ap (λ (n : ℕ). leads_within (suc m) image class n) (eqb-true f.n round.by p.1) ∙ round.leads))
        | inr base ↦ elim (based image class found.0 bases found.2) [
          | inl none ↦ (let few = bases.few in
              let same = gone_leads image (suc m) round.by class (omega arith) round.leads in absurd (omega arith))
          | inr before ↦ elim (leads_cases image m round.by class round.leads) [
            | inl same ↦ absurd (omega arith)
            | inr on ↦ circle_below image bases bound (suc m) round.by long (omega arith) (omega arith) (record {
              by = on.by;
              steps = on.steps;
              leads = leads_then image m on.by class round.by on.leads round.steps;
            })
          ]
        ]
      ]
      | inr past ↦ absurd (let w = past.0 in omega arith)
    ]

pub circle_breaks : (image : Image) → AreBased image → IsCircle image
    → all_classes image (holds_no_holder image) ≡ false
circle_breaks image bases circle =
    circle_below image bases (suc circle.class) (length image.classes) circle.class refl
    (omega arith) circle.there circle.round

-- ---- where each class stands behind those that it leads to, none leads back to itself

stays_before : (image : Image) (order : List ℕ) → IsInOrder image order → (k from to p : ℕ) → to < length image.classes
    → p < length order → get_or order p 0 ≡ from → leads_within k image to from ≡ true → Stands order (suc p) to
stays_before image order sorted zero from to p there within is leads =
    record { place = p; before = omega arith; is = is ∙ eqb-true from to leads }
stays_before image order sorted (suc k) from to p there within is leads =
    elim (leads_cases image k from to leads) [
      | inl same ↦ record { place = p; before = omega arith; is = is ∙ same }
      | inr on ↦ (let h : ((on.by < length image.classes) ⊎ (length image.classes ≤ on.by)) = cases_lt on.by
          (length image.classes) in
          elim h [
            | inl here ↦ (let j = sorted.behind p on.by within (ap (λ (n : ℕ). steps_to image n on.by) is
                ∙ on.steps) here in
                let r = stays_before image order sorted k on.by to j.place there
                (let b = j.before in omega arith) j.is on.leads in
                record { place = r.place; before = (let b = j.before in let a = r.before in omega arith); is = r.is })
            | inr past ↦ absurd (let same = gone_leads image k on.by to past on.leads in omega arith)
          ])
    ]

no_circle : (image : Image) (order : List ℕ) → IsInOrder image order → (bound p class by : ℕ) → p < bound
    → p < length order
    → get_or order p 0 ≡ class → steps_to image class by ≡ true
    → leads_within (length image.classes) image class by ≡ true → ⊥
no_circle image order sorted zero p class by below within is steps leads = absurd (omega arith)
no_circle image order sorted (suc bound) p class by below within is steps leads =
    let there : class < length image.classes = subst (λ (n : ℕ). n < length image.classes) is (sorted.there p within) in
    let h : ((by < length image.classes) ⊎ (length image.classes ≤ by)) = cases_lt by (length image.classes) in
    elim h [
      | inl here ↦ (let j = sorted.behind p by within (ap (λ (n : ℕ). steps_to image n by) is ∙ steps) here in
          let b = j.before in
          let r = stays_before image order sorted (length image.classes) by class j.place there
          (omega arith) j.is leads in
          let a = r.before in
          no_circle image order sorted bound r.place class by (omega arith) (omega arith) r.is steps leads)
      | inr past ↦ (let same = gone_leads image (length image.classes) by class past leads in omega arith)
    ]

holds_none : (image : Image) (order : List ℕ) → IsOrder image order → (class : ℕ) (c : ImageClass)
    → slice_get image.classes class ≡ Some c → holds_no_holder image class c ≡ true
holds_none image order sorted class c is =
    list_all_each (λ (f : ImageField). not (f.form == 8) || not (leads_to image f.n class)) c.fields no_field
    (λ i within.
    let f = get_or c.fields i no_field in
    let same = fields_at image class c is in
    let there = slice_get_within image.classes class c is in
    let at = sorted.all class there in
    elim (cases_Bool (f.form == 8)) [
      | inl object ↦ or_right _ _ (not_from_false _ (false_from_ne_true (leads_to image f.n class) (λ leads.
          no_circle image order sorted.in_order (suc at.place) at.place class f.n (omega arith) at.before at.is
          (or_left _ _ (ap (λ (fs : List ImageField). list_any (λ (g : ImageField). (g.form == 8) &&
          (g.n == f.n)) fs) same
          ∙ list_any_at (λ (g : ImageField). (g.form == 8) && (g.n == f.n)) c.fields i no_field within
          (and_from _ _ object (eq-eqb f.n f.n refl)))) leads)))
      | inr other ↦ or_left _ _ (not_from_false _ other)
    ])

pub order_holds_none : (image : Image) (order : List ℕ) → IsOrder image order
    → all_classes image (holds_no_holder image) ≡ true
order_holds_none image order sorted =
    all_from_each (holds_no_holder image) 0 image.classes (λ k x is.
    let zeroth : 0 + k ≡ k = omega arith in
    ap (λ (n : ℕ). holds_no_holder image n x) zeroth ∙ holds_none image order sorted k x is)

-- ---- truths that are set

told_there : (told : List Bool) (class : ℕ) → is_told told class ≡ true → class < length told
told_there told class is =
    let h : ((class < length told) ⊎ (length told ≤ class)) = cases_lt class (length told) in
    elim h [
      | inl here ↦ here
      | inr past ↦ absurd (both_ways (is_told told class) (get_or_past told class false past) is)
    ]

set_told : (told : List Bool) (class : ℕ) → class < length told → is_told (set told class true) class ≡ true
set_told told class there = get_or-set_same told class true false there

set_other : (told : List Bool) (class other : ℕ) → (other ≡ class → ⊥)
    → is_told (set told class true) other ≡ is_told told other
set_other told class other apart = get_or-set_other told class other true false apart

set_keeps : (told : List Bool) (class other : ℕ) → is_told told other ≡ true
    → is_told (set told class true) other ≡ true
set_keeps told class other is =
    let h : ((other ≡ class) ⊎ (other ≡ class → ⊥)) = cases_eq other class in
    elim h [
      | inl same ↦ ap (λ (n : ℕ). is_told (set told class true) n) same
          ∙ set_told told class (subst (λ (n : ℕ). n < length told) same (told_there told other is))
      | inr apart ↦ set_other told class other apart ∙ is
    ]

-- what is not told behind it was not told, nor is it the one that was set
unset : (told : List Bool) (class other : ℕ) → class < length told → is_told (set told class true) other ≡ false
    → (is_told told other ≡ false) × (other ≡ class → ⊥)
unset told class other there is =
    let apart : other ≡ class → ⊥ = λ same. both_ways (is_told (set told class true) other) is
    (ap (λ (n : ℕ). is_told (set told class true) n) same ∙ set_told told class there) in
    (sym (set_other told class other apart) ∙ is, apart)

unseen_set : (begun : List Bool) (class : ℕ) → class < length begun → is_told begun class ≡ false
    → unseen (set begun class true) + 1 ≡ unseen begun
unseen_set begun class there is =
    let s = sum_by-set (λ (b : Bool). cond {A = ℕ} (not b) 1 0) begun class true false there in
    let one : ◌≡◌ {A = ℕ} (cond (not (get_or begun class false)) 1 0) 1 = ap (λ (b : Bool). cond {A = ℕ}
    (not b) 1 0) is in
    omega (arith, s, one)

count_set : (done : List Bool) (class : ℕ) → class < length done → is_told done class ≡ false
    → count_by (λ (b : Bool). b) (set done class true) ≡ count_by (λ (b : Bool). b) done + 1
count_set done class there is =
    let s = sum_by-set (λ (b : Bool). cond {A = ℕ} b 1 0) done class true false there in
    let none : ◌≡◌ {A = ℕ} (cond (get_or done class false) 1 0) 0 = ap (λ (b : Bool). cond {A = ℕ} b 1 0) is in
    omega (arith, s, none)

pub unseen_falls : (begun : List Bool) (class : ℕ) → class < length begun → is_told begun class ≡ false
    → unseen (set begun class true) < unseen begun
unseen_falls begun class there is = let s = unseen_set begun class there is in omega arith

-- ---- the walk goes on

pub goes_nowhere : (begun done : List Bool) → GoesOn begun done begun done
goes_nowhere begun done = record {
  fewer = omega arith;
  begun = λ c is. is;
  done = λ c is. is;
  within = λ c is not_done. is;
  stays = λ c is not_done. not_done;
}

pub goes_further : (b0 d0 b1 d1 b2 d2 : List Bool) → GoesOn b0 d0 b1 d1 → GoesOn b1 d1 b2 d2 → GoesOn b0 d0 b2 d2
goes_further b0 d0 b1 d1 b2 d2 first then = record {
  fewer = (let f = first.fewer in let t = then.fewer in omega arith);
  begun = λ c is. then.begun c (first.begun c is);
  done = λ c is. then.done c (first.done c is);
  within = λ c is left. first.within c (then.within c is left)
      (false_from_ne_true (is_told d1 c) (λ t. both_ways (is_told d2 c) left (then.done c t)));
  stays = λ c is left. then.stays c (first.begun c is) (first.stays c is left);
}

-- those within the walk still lead there
pub way_goes_on : (image : Image) (b0 d0 b1 d1 : List Bool) (class : ℕ) → GoesOn b0 d0 b1 d1 → IsOnWay image b0 d0 class
    → IsOnWay image b1 d1 class
way_goes_on image b0 d0 b1 d1 class on way = λ g is left.
    let fewer = on.fewer in
    comes_up image (length image.classes - unseen b0) (length image.classes - unseen b1) g class (omega arith)
    (way g (on.within g is left) (false_from_ne_true (is_told d0 g) (λ t. both_ways (is_told d1 g) left (on.done g t))))

pub fields_way_goes_on : (image : Image) (b0 d0 b1 d1 : List Bool) (fields : List ImageField) → GoesOn b0 d0 b1 d1
    → AreOnWay image b0 d0 fields → AreOnWay image b1 d1 fields
fields_way_goes_on image b0 d0 b1 d1 fields on way = λ i d within object.
    way_goes_on image b0 d0 b1 d1 (get_or fields i d).n on (way i d within object)

-- ---- a class is begun

pub begun_walk : (image : Image) (begun done : List Bool) (order : List ℕ) (class : ℕ) → IsWalk image begun done order
    → IsWalk image (set begun class true) done order
begun_walk image begun done order class walk = record {
  begun_long = length-set begun class true ∙ walk.begun_long;
  done_long = walk.done_long;
  in_order = walk.in_order;
  stand = walk.stand;
  few = walk.few;
}

-- those within the walk lead to what the class leads to, and so does the class
pub begun_way : (image : Image) (begun done : List Bool) (order : List ℕ) (class to : ℕ) → IsWalk image begun done order
    → class < length image.classes → is_told begun class ≡ false → IsOnWay image begun done class
    → steps_to image class to ≡ true → IsOnWay image (set begun class true) done to
begun_way image begun done order class to walk there unseen_is way steps = λ g is left.
    let h : ((g ≡ class) ⊎ (g ≡ class → ⊥)) = cases_eq g class in
    elim h [
      | inl same ↦ comes_once image _ g to (ap (λ (n : ℕ). steps_to image n to) same ∙ steps)
      | inr apart ↦ (let long = walk.begun_long in
          let fall = unseen_set begun class (omega arith) unseen_is in
          let few = count_by-le-length not begun in
          comes_up image (suc (length image.classes - unseen begun)) (length image.classes - unseen
          (set begun class true)) g to
          (omega arith)
          (comes_then image (length image.classes - unseen begun) g class to
          (way g (sym (set_other begun class g apart) ∙ is) left) steps))
    ]

pub begun_fields_way : (image : Image) (begun done : List Bool) (order : List ℕ) (class : ℕ) (c : ImageClass)
    → IsWalk image begun done order → slice_get image.classes class ≡ Some c → is_told begun class ≡ false
    → IsOnWay image begun done class → AreOnWay image (set begun class true) done c.fields
begun_fields_way image begun done order class c walk is unseen_is way = λ i d within object.
    let same = fields_at image class c is in
    begun_way image begun done order class (get_or c.fields i d).n walk
    (slice_get_within image.classes class c is) unseen_is way
    (or_left _ _ (ap (λ (fs : List ImageField). list_any (λ (g : ImageField). (g.form == 8) && (g.n ==
    (get_or c.fields i d).n)) fs) same
    ∙ list_any_at (λ (g : ImageField). (g.form == 8) && (g.n == (get_or c.fields i d).n)) c.fields i d within
    (and_from _ _ (eq-eqb _ 8 object) (eq-eqb _ _ refl))))

-- ---- a class is done

stands_push : (order : List ℕ) (class other count most : ℕ) → count ≤ length order → count ≤ most
    → Stands order count other
    → Stands (order ++ class ∷ []) most other
stands_push order class other count most within up at = record {
  place = at.place;
  before = (let b = at.before in omega arith);
  is = (let b = at.before in get_or_append_left order (class ∷ []) 0 at.place (omega arith) ∙ at.is);
}

length_push : (order : List ℕ) (class : ℕ) → length (order ++ class ∷ []) ≡ length order + 1
length_push order class = simp length-append

-- what a class leads to is done
pub record AllDone (image : Image) (done : List Bool) (class : ℕ) : Type 0 where
  pub is : (to : ℕ) → steps_to image class to ≡ true → to < length image.classes → is_told done to ≡ true

pub all_done : (image : Image) (done : List Bool) (class : ℕ) (c : ImageClass) → slice_get image.classes class ≡ Some c
    → AreDone image done c.fields → IsDone image done c.base → AllDone image done class
all_done image done class c is fields base = record {
  is = λ to steps there. elim (step_cases image class to c no_field is steps) [
    | inl field ↦ (let f = get_or c.fields field.index no_field in
        let p = and_parts (f.form == 8) (f.n == to) field.passes in
        let same = eqb-true f.n to p.1 in
        sym (ap (λ (n : ℕ). is_told done n) same)
        ∙ fields field.index no_field field.within (eqb-true f.form 8 p.0) (omega arith))
    | inr same ↦ sym (ap (λ (n : ℕ). is_told done n) same) ∙ base (omega arith)
  ];
}

order_push : (image : Image) (begun done : List Bool) (order : List ℕ) (class : ℕ) → IsWalk image begun done order
    → class < length image.classes → AllDone image done class → IsInOrder image (order ++ class ∷ [])
order_push image begun done order class walk there all = record {
  there = λ k within. (let long = length_push order class in
      let h : ((k < length order) ⊎ (length order ≤ k)) = cases_lt k (length order) in
      elim h [
        | inl here ↦ subst (λ (n : ℕ). n < length image.classes) (sym (get_or_append_left order (class ∷ []) 0 k here))
            (walk.in_order.there k here)
        | inr past ↦ subst (λ (n : ℕ). n < length image.classes) (sym (get_or_push order class 0 k (omega arith))) there
      ]);
  behind = λ k to within steps to_there. (let long = length_push order class in
      let h : ((k < length order) ⊎ (length order ≤ k)) = cases_lt k (length order) in
      elim h [
        | inl here ↦ stands_push order class to k k (omega arith) (omega arith)
            (walk.in_order.behind k to here
            (ap (λ (n : ℕ). steps_to image n to) (sym (get_or_append_left order (class ∷ []) 0 k here))
            ∙ steps) to_there)
        | inr past ↦ stands_push order class to (length order) k (omega arith) past
            (walk.stand to (all.is to
            (ap (λ (n : ℕ). steps_to image n to) (sym (get_or_push order class 0 k (omega arith))) ∙ steps) to_there))
      ]);
}

pub done_walk : (image : Image) (begun done : List Bool) (order : List ℕ) (class : ℕ) → IsWalk image begun done order
    → class < length image.classes → is_told done class ≡ false → AllDone image done class
    → IsWalk image begun (set done class true) (order ++ class ∷ [])
done_walk image begun done order class walk there left all =
    let long = length_push order class in
    let done_long = walk.done_long in
    record {
      begun_long = walk.begun_long;
      done_long = length-set done class true ∙ walk.done_long;
      in_order = order_push image begun done order class walk there all;
      stand = λ other is. (let h : ((other ≡ class) ⊎ (other ≡ class → ⊥)) = cases_eq other class in
          elim h [
            | inl same ↦ record {
              place = length order;
              before = omega arith;
              is = get_or_push order class 0 (length order) refl ∙ sym same;
            }
            | inr apart ↦ stands_push order class other (length order) (length (order ++ class ∷ [])) (omega arith)
                (omega arith)
                (walk.stand other (sym (set_other done class other apart) ∙ is))
          ]);
      few = (let few = walk.few in let counted = count_set done class (omega arith) left in omega arith);
    }

-- the walk goes on over a class
pub done_goes_on : (b0 d0 b2 d2 : List Bool) (class : ℕ) → class < length b0 → class < length d2
    → is_told b0 class ≡ false
    → GoesOn (set b0 class true) d0 b2 d2 → GoesOn b0 d0 b2 (set d2 class true)
done_goes_on b0 d0 b2 d2 class there there_then unseen_is on = record {
  fewer = (let f = on.fewer in let s = unseen_set b0 class there unseen_is in omega arith);
  begun = λ c is. on.begun c (set_keeps b0 class c is);
  done = λ c is. set_keeps d2 class c (on.done c is);
  within = λ c is left. (let u = unset d2 class c there_then left in
      sym (set_other b0 class c u.1) ∙ on.within c is u.0);
  stays = λ c is left. (
      let apart : c ≡ class → ⊥ = λ same. both_ways (is_told b0 c) (ap (λ (n : ℕ). is_told b0 n) same ∙ unseen_is) is in
      set_other d2 class c apart ∙ on.stays c (set_keeps b0 class c is) left);
}

-- the class itself is not done before
pub still_open : (b0 d0 b2 d2 : List Bool) (class : ℕ) → class < length b0 → is_told d0 class ≡ false
    → GoesOn (set b0 class true) d0 b2 d2 → is_told d2 class ≡ false
still_open b0 d0 b2 d2 class there left on = on.stays class (set_told b0 class there) left

pub is_done_now : (done : List Bool) (class : ℕ) → class < length done → is_told (set done class true) class ≡ true
is_done_now done class there = set_told done class there

-- a class within the walk that is come to leads back to itself
pub closes : (image : Image) (begun done : List Bool) (class : ℕ) → class < length image.classes
    → is_told begun class ≡ true → is_told done class ≡ false → IsOnWay image begun done class → IsCircle image
closes image begun done class there is left way = record {
  class = class;
  there = there;
  round = comes_up image (length image.classes - unseen begun) (length image.classes) class class (omega arith)
      (way class is left);
}

-- ---- the whole walk

pub none_replicated : (n class : ℕ) → is_told (replicate n false) class ≡ false
none_replicated zero class = refl
none_replicated (suc n) zero = refl
none_replicated (suc n) (suc class) = none_replicated n class

none_counted : (n : ℕ) → count_by (λ (b : Bool). b) (replicate n false) ≡ 0
none_counted zero = refl
none_counted (suc n) = sum_by-cons (λ (b : Bool). cond {A = ℕ} b 1 0) false (replicate n false) ∙ zero-add _
    ∙ none_counted n

pub begins : (image : Image) (n : ℕ) → n ≡ length image.classes
    → IsWalk image (replicate n false) (replicate n false) []
begins image n long = record {
  begun_long = length-replicate n false ∙ long;
  done_long = length-replicate n false ∙ long;
  in_order = record {
    there = λ k within. absurd (omega arith);
    behind = λ k to within steps there. absurd
        (omega arith);
  };
  stand = λ c is. absurd (both_ways (is_told (replicate n false) c) (none_replicated n c) is);
  few = sym (none_counted n);
}

pub ends : (image : Image) (begun done : List Bool) (order : List ℕ) → IsWalk image begun done order
    → ((class : ℕ) → class < length image.classes → is_told done class ≡ true) → IsOrder image order
ends image begun done order walk all = record {
  in_order = walk.in_order;
  all = λ c there. walk.stand c (all c there);
  few = (let few = walk.few in let long = walk.done_long in let most = count_by-le-length (λ
      (b : Bool). b) done in omega arith);
}
