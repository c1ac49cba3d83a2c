-- How long the parts of a component are.
use Rattle.std.proofs.Common.{◌≡◌, ℕ, ◌+◌, ◌≤◌, ◌<◌, Bool, true, false, List, [], ◌∷◌, length, drop, filter, get_or, refl, sym, ◌∙◌, ap, subst, arith, add-one, max, min, zero, suc, ◌*◌, ◌++◌, length-append, zero-add}
use Rattle.std.specs.Prelude.{Option, Some, None, IsTrue, slice_get, sum_by, if◌then◌else◌}
use Rattle.std.specs.List.{flat_map}
use Rattle.std.specs.Option.{option_map_or}
use Rattle.std.proofs.Math.Seq.{drop-cons}
use Rattle.std.proofs.Math.ListN.{drop_of_length-le}
use Rattle.std.proofs.lemmas.List.Sums.{sum_by-cons}
use Rattle.std.proofs.lemmas.Option.{get_or_from_slice_get, slice_get_within}
use Rattle.sed_value.specs.Names.{is_name}
use Rattle.sed_typed.specs.declared.schema.ClassInfo.{ClassInfo}
use Rattle.sed_typed.specs.declared.schema.Schema.{Schema}
use Rattle.sed_typed.specs.declared.schema.SlotInfo.{SlotInfo}
use Rattle.sed_typed.specs.Classes.{slots}
use Rattle.sed_typed.specs.Sizes.{value_size}
use Rattle.sed_engine.specs.Code.{Meaning}
use Rattle.sed_engine.specs.Whole.{KeepsLimits}
use Rattle.comp_tree.specs.Parts.{class_bytes, text, u1, u2}
use Rattle.app_parts.specs.declared.values.Values.{Values}
use Rattle.app_parts.specs.Values.{is_told}
use Rattle.app_parts.specs.Longest.{longest_values, values_size}
use Rattle.app_parts.proofs.ValueLemmas.{class_short, few_bytes, name_short, sizes_from}

-- ---- the values of slots

pub sizes_are : (which : Values) (ss : List SlotInfo) → sizes_from (is_told which) ss ≡ values_size which ss
unfolding sizes_from
sizes_are which [] = refl
sizes_are which (s ∷ ss) = by (is_told which s) (sizes_are which ss)
  where
    by : (b : Bool) → sizes_from (is_told which) ss ≡ values_size which ss
        → (if b then value_size s.form else 0) + sizes_from (is_told which) ss
        ≡ sum_by (λ (s : SlotInfo). value_size s.form) (if b then s ∷ filter (is_told which) ss else filter (is_told which) ss)
    by true rest =
        let size : SlotInfo → ℕ = λ s. value_size s.form in
        ap (λ (n : ℕ). value_size s.form + n) rest ∙ sym (sum_by-cons size s (filter (is_told which) ss))
    by false rest = zero-add (sizes_from (is_told which) ss) ∙ rest

module _ (is : SlotInfo → Bool) where
  size_item : (ss : List SlotInfo) (n : ℕ) (s : SlotInfo) → n < length ss → s ≡ get_or ss n s
      → (if is s then value_size s.form else 0) + sizes_from is (drop (n + 1) ss) ≡ sizes_from is (drop n ss)
  unfolding sizes_from
  size_item ss n s within at =
      let front : drop n ss ≡ s ∷ drop (n + 1) ss =
      drop-cons ss n s within ∙ ap (λ (k : ℕ). get_or ss n s ∷ drop k ss) (sym (add-one n)) ∙ ap (λ (x : SlotInfo). x ∷ drop (n + 1) ss) (sym at) in
      sym (ap (sizes_from is) front)

  no_sizes : (ss : List SlotInfo) (n : ℕ) → length ss ≤ n → sizes_from is (drop n ss) ≡ 0
  unfolding sizes_from
  no_sizes ss n past = ap (sizes_from is) (drop_of_length-le ss past)

-- the sizes of some slots were added, and none but the first 400 bytes are counted
abbrev pub CountsSizes : Values → List SlotInfo → ℕ → ℕ → Type 0
CountsSizes which ss n size = min 400 (size + sizes_from (is_told which) (drop n ss)) ≡ min 400 (values_size which ss)

capped : (size k rest : ℕ) → min 400 (min (size + k) 400 + rest) ≡ min 400 (size + (k + rest))
capped size k rest = omega arith

pub counts-first : (which : Values) (ss : List SlotInfo) → CountsSizes which ss 0 0
counts-first which ss = ap (λ (n : ℕ). min 400 n) (zero-add (sizes_from (is_told which) ss) ∙ sizes_are which ss)

pub counts-next : (which : Values) (ss : List SlotInfo) (n size more : ℕ) (s : SlotInfo) → n < length ss → s ≡ get_or ss n s
    → more ≡ (if is_told which s then value_size s.form else 0) → CountsSizes which ss n size → CountsSizes which ss (n + 1) (min (size + more) 400)
counts-next which ss n size more s within at is counts =
    let rest = sizes_from (is_told which) (drop (n + 1) ss) in
    let first : more + rest ≡ sizes_from (is_told which) (drop n ss) = ap (λ (k : ℕ). k + rest) is ∙ size_item (is_told which) ss n s within at in
    capped size more rest ∙ ap (λ (k : ℕ). min 400 (size + k)) first ∙ counts

pub counts-last : (which : Values) (ss : List SlotInfo) (n size : ℕ) → size ≤ 400 → length ss ≤ n → CountsSizes which ss n size → size ≡ min 400 (values_size which ss)
counts-last which ss n size few past counts =
    let none = no_sizes (is_told which) ss n past in
    let all : min 400 (size + 0) ≡ min 400 (values_size which ss) = ap (λ (k : ℕ). min 400 (size + k)) (sym none) ∙ counts in
    let cap : size ≡ min 400 (size + 0) = omega (arith, few) in
    cap ∙ all

-- ---- the values of classes

-- the classes before this one have no more than this
abbrev pub IsLongest : Values → List ClassInfo → ℕ → ℕ → Type 0
IsLongest which cs n most = max most (longest_values which (drop n cs)) ≡ longest_values which cs

grouped : (most k rest : ℕ) → max (max most k) rest ≡ max most (max k rest)
grouped most k rest = omega arith

pub longest-next : (which : Values) (cs : List ClassInfo) (n most more : ℕ) (c : ClassInfo) → n < length cs → c ≡ get_or cs n c
    → more ≡ min 400 (values_size which c.slots) → IsLongest which cs n most → IsLongest which cs (n + 1) (max most more)
unfolding longest_values
longest-next which cs n most more c within at is longest =
    let front : drop n cs ≡ c ∷ drop (n + 1) cs =
    drop-cons cs n c within ∙ ap (λ (k : ℕ). get_or cs n c ∷ drop k cs) (sym (add-one n)) ∙ ap (λ (x : ClassInfo). x ∷ drop (n + 1) cs) (sym at) in
    let rest = longest_values which (drop (n + 1) cs) in
    let first : max more rest ≡ longest_values which (drop n cs) = ap (λ (k : ℕ). max k rest) is ∙ sym (ap (longest_values which) front) in
    grouped most more rest ∙ ap (λ (k : ℕ). max most k) first ∙ longest

pub longest-last : (which : Values) (cs : List ClassInfo) (n most : ℕ) → length cs ≤ n → IsLongest which cs n most → most ≡ longest_values which cs
unfolding longest_values
longest-last which cs n most past longest =
    let none : longest_values which (drop n cs) ≡ 0 = ap (longest_values which) (drop_of_length-le cs past) in
    let all : max most 0 ≡ longest_values which cs = ap (λ (k : ℕ). max most k) (sym none) ∙ longest in
    let same : most ≡ max most 0 = omega arith in
    same ∙ all

-- each class has no more than that
one_of_them : (which : Values) (cs : List ClassInfo) (n : ℕ) (c : ClassInfo) → slice_get cs n ≡ Some c → min 400 (values_size which c.slots) ≤ longest_values which cs
unfolding longest_values
one_of_them which cs n c at = by cs n (slice_get_within cs n c at) (get_or_from_slice_get cs n c c at)
  where
    by : (cs : List ClassInfo) (n : ℕ) → n < length cs → get_or cs n c ≡ c → min 400 (values_size which c.slots) ≤ longest_values which cs
    by [] n within at = absurd (omega (arith, within))
    by (x ∷ cs) zero within at =
        let here = ap (λ (x : ClassInfo). min 400 (values_size which x.slots)) at in
        omega (arith, here)
    by (x ∷ cs) (suc n) within at =
        let behind = by cs n (omega (arith, within)) at in
        omega (arith, behind)

pub fits_longest : (schema : Schema) → KeepsLimits schema → (class : ℕ) (which : Values) → values_size which (slots schema.classes class) ≤ longest_values which schema.classes
fits_longest schema keeps class which =
    by (slice_get schema.classes class) refl (subst (λ (n : ℕ). n ≤ 400) (sizes_are which (slots schema.classes class)) (few_bytes schema keeps class which))
  where
    by : (r : Option ClassInfo) → slice_get schema.classes class ≡ r → values_size which (option_map_or (λ (c : ClassInfo). c.slots) r []) ≤ 400
        → values_size which (option_map_or (λ (c : ClassInfo). c.slots) r []) ≤ longest_values which schema.classes
    by None at few = omega arith
    by (Some c) at few = let most = one_of_them which schema.classes class c at in omega (arith, few, most)

pub most_400 : (which : Values) (cs : List ClassInfo) → longest_values which cs ≤ 400
unfolding longest_values
most_400 which [] = omega arith
most_400 which (c ∷ cs) = let rest = most_400 which cs in omega (arith, rest)

-- ---- part `t`

flat-u2 : (xs : List ℕ) → length (flat_map u2 xs) ≡ 2 * length xs
flat-u2 [] = refl
flat-u2 (x ∷ xs) =
    let rest = flat-u2 xs in
    let whole = length-append (u2 x) (flat_map u2 xs) in
    omega (arith, rest, whole)

pub tree-short : (m : Meaning) (kind : ℕ) (name : List ℕ) (up count : ℕ) (children : List ℕ) → IsTrue (is_name name) → length children ≤ 200
    → length (class_bytes m kind ++ text name ++ u2 up ++ u1 255 ++ u1 count ++ flat_map u2 children) ≤ 438
tree-short m kind name up count children form few =
    let class = class_short m kind in
    let short = name_short name form in
    let l1 = length-append (class_bytes m kind ++ text name ++ u2 up ++ u1 255 ++ u1 count) (flat_map u2 children) in
    let l2 = length-append (class_bytes m kind ++ text name ++ u2 up ++ u1 255) (u1 count) in
    let l3 = length-append (class_bytes m kind ++ text name ++ u2 up) (u1 255) in
    let l4 = length-append (class_bytes m kind ++ text name) (u2 up) in
    let l5 = length-append (class_bytes m kind) (text name) in
    let l6 = length-append name (0 ∷ []) in
    let l7 = flat-u2 children in
    omega (arith, class, short, l1, l2, l3, l4, l5, l6, l7, few)
