-- The limits that rows pass, and those of the application that they tell.
use Rattle.std.proofs.Common.{◌≡◌, ℕ, zero, suc, ◌≤◌, Bool, true, false, List, [], ◌∷◌, length, refl, sym, ◌∙◌, ap, arith}
use Rattle.std.specs.Prelude.{Option, Some, None, nat_lt, slice_get}
use Rattle.std.specs.List.{list_any}
use Rattle.std.proofs.lemmas.Bool.Decides.{nat_tests}
use Rattle.sed_engine.specs.Code.{Meaning}
use Rattle.comp_tree.specs.Application.{Link, data_size_of}
use Rattle.comp_tree.specs.Limits.{first_passed, limit_passed}
use Rattle.row_tree.specs.declared.tree_rows.TreeRow.{TreeRow}
use Rattle.app_front.specs.declared.rows.FileRow.{FileRow}
use Rattle.app_reader.specs.FormedFile.{tree_rows}
use Rattle.app_reader.specs.Ready.{HoldTogether, components_told, limit_told}
use Rattle.app_reader.specs.Tells.{application_of_rows}
use Rattle.app_reader.specs.declared.ready.FormedRows.{FormedRows}
use Rattle.app_reader.proofs.LimitsTold.{limits_are, passed_by}
use Rattle.sed_value.proofs.Truths.{or_left as first_false, or_right as rest_false}

-- ---- tests on lists

-- what no item passes, the one at a place doesn't
pub none_at : {A : Type 0} (p : A → Bool) (xs : List A) (k : ℕ) (x : A) → list_any p xs ≡ false → slice_get xs k ≡ Some x → p x ≡ false
none_at {A} p [] k x none at = absurd (let no : ◌≡◌ {A = Option A} None (Some x) = at in cc)
none_at {A} p (y ∷ xs) zero x none at =
    let same : y ≡ x = (let both : ◌≡◌ {A = Option A} (Some y) (Some x) = at in cc) in
    ap p (sym same) ∙ first_false (p y) (list_any p xs) none
none_at {A} p (y ∷ xs) (suc k) x none at = none_at p xs k x (rest_false (p y) (list_any p xs) none) at

-- ---- none is passed

pub none_of_six : (p q r s t u : Bool) → first_passed ((p, 1) ∷ (q, 2) ∷ (r, 3) ∷ (s, 4) ∷ (t, 5) ∷ (u, 6) ∷ []) ≡ None
    → (p ≡ false) × (q ≡ false) × (r ≡ false) × (s ≡ false) × (t ≡ false) × (u ≡ false)
none_of_six false false false false false false none = (refl, refl, refl, refl, refl, refl)
none_of_six true q r s t u none = absurd (let no : ◌≡◌ {A = Option ℕ} (Some 1) None = none in cc)
none_of_six false true r s t u none = absurd (let no : ◌≡◌ {A = Option ℕ} (Some 2) None = none in cc)
none_of_six false false true s t u none = absurd (let no : ◌≡◌ {A = Option ℕ} (Some 3) None = none in cc)
none_of_six false false false true t u none = absurd (let no : ◌≡◌ {A = Option ℕ} (Some 4) None = none in cc)
none_of_six false false false false true u none = absurd (let no : ◌≡◌ {A = Option ℕ} (Some 5) None = none in cc)
none_of_six false false false false false true none = absurd (let no : ◌≡◌ {A = Option ℕ} (Some 6) None = none in cc)

-- ---- the application's

at_most : (limit n : ℕ) → nat_lt limit n ≡ false → n ≤ limit
at_most limit n none = grind (arith, nat_tests)

module _ (m : Meaning) (limit : ℕ) (rows : FormedRows) (few : limit_told m limit rows ≡ None) where
  pub data_fits : data_size_of m (components_told m rows) ≤ limit
  data_fits = at_most limit (data_size_of m (components_told m rows)) (none_of_six _ _ _ _ _ _ few).5

  -- so by rows none is passed
  pub none_by_rows : HoldTogether m limit rows → first_passed (passed_by m limit rows.file.rows (tree_rows rows.file.rows) rows.lists rows.file.links) ≡ None
  none_by_rows held = sym (ap first_passed (limits_are m rows.file.rows rows.lists rows.file.links limit held.formed.ascend held.size)) ∙ few

-- what is told by the parts of rows that hold together is told by them
pub limit_same : (m : Meaning) (limit : ℕ) (rows : FormedRows) → HoldTogether m limit rows
    → (each : List FileRow) (tree : List TreeRow) (lists : List (List ℕ)) (links : List Link) (o : Option ℕ)
    → each ≡ rows.file.rows → tree ≡ rows.tree → lists ≡ rows.lists → links ≡ rows.file.links
    → (tree ≡ tree_rows each → length lists ≡ length each → o ≡ limit_passed m (application_of_rows m each lists links limit))
    → o ≡ limit_told m limit rows
limit_same m limit rows held each tree lists links o same same-tree same-lists same-links told =
    told (same-tree ∙ held.tree ∙ ap tree_rows (sym same)) (ap length same-lists ∙ held.size ∙ ap length (sym same))
    ∙ (λ i. limit_passed m (application_of_rows m (same i) (same-lists i) (same-links i) limit))
