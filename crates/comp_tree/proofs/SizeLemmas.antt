-- The sizes of classes, and the data of entries.
use Rattle.std.proofs.Common.{ℕ, zero, suc, ◌≡◌, ◌+◌, ◌≤◌, List, [], ◌∷◌, length, take, refl, sym, ◌∙◌, ap, subst, arith}
use Rattle.std.specs.Prelude.{Option, Some, None, IfSome, is_some, nat_eq, map as map_list, slice_get, sum_by}
use Rattle.std.specs.List.{IsDistinct}
use Rattle.std.specs.Option.{option_map_or}
use Rattle.std.proofs.lemmas.List.Sums.{sum_by_more}
use Rattle.sed_typed.specs.declared.schema.ClassInfo.{ClassInfo}
use Rattle.sed_engine.specs.Code.{Meaning}
use Rattle.sed_engine.specs.Whole.{HasTables}
use Rattle.comp_tree.specs.declared.loaded.Loaded.{Loaded}
use Rattle.comp_tree.specs.Application.{data_size_of}
use Rattle.comp_tree.specs.Loads.{loaded}
use Rattle.comp_tree.proofs.LoadLemmas.{all_loaded, entry_at, size_next}
use Rattle.comp_tree.proofs.TreeLemmas.{no_size}

-- ---- the size of a class

not_there : {A : Type 0} (xs : List A) (k : ℕ) → slice_get xs k ≡ None → length xs ≤ k
not_there [] k none = omega arith
not_there (x ∷ xs) zero none = absurd (let no = ap is_some none in cc)
not_there (x ∷ xs) (suc k) none = let rest = not_there xs k none in omega arith

-- what is found of a class in the schema of a code has the size that the code gives
pub size_is : (m : Meaning) → HasTables m → (class : ℕ) (found : Option ClassInfo) → found ≡ slice_get m.schema.classes class → option_map_or (λ (c : ClassInfo). c.size) found 0 ≡ m.data_size class
size_is m tables class None is = sym (tables.beyond class (not_there m.schema.classes class (sym is))).size
size_is m tables class (Some c) is = sym (subst (λ (o : Option ClassInfo). IfSome o (λ c. m.data_size class ≡ c.size)) (sym is) (tables.sizes class))

-- ---- the data of entries

module _ (m : Meaning) where
  abbrev pub size_of : Loaded → ℕ
  size_of l = m.data_size l.kind.0

  module _ (es : List Loaded) (once : IsDistinct nat_eq (map_list (λ (l : Loaded). l.id.0) es)) where
    sums_to : (k : ℕ) → k ≤ length es → data_size_of m (loaded m (take k es)) ≡ sum_by size_of (take k es)
    sums_to zero le = no_size m (loaded m (take 0 es)) refl
    sums_to (suc k) le =
        let at = entry_at es k (omega arith) in
        let more = sum_by_more size_of es k at.0 (omega arith) in
        let s : k + 1 ≡ suc k = omega arith in
        subst (λ (n : ℕ). data_size_of m (loaded m (take n es)) ≡ sum_by size_of (take n es)) s
        (size_next m es once k at.0 (omega arith) at.1 ∙ ap (λ (n : ℕ). n + size_of at.0) (sums_to k (omega arith)) ∙ ap (λ (l : Loaded). sum_by size_of (take k es) + size_of l) at.1 ∙ sym more)

    -- the components of entries with ids of their own have the data of all entries
    pub loaded_sum : data_size_of m (loaded m es) ≡ sum_by size_of es
    loaded_sum =
        let all : take (length es) es ≡ es = all_loaded es (length es) (omega arith) in
        ap (λ (xs : List Loaded). data_size_of m (loaded m xs)) (sym all) ∙ sums_to (length es) (omega arith) ∙ ap (sum_by size_of) all
