-- The rows of a file, one after another by the ids, and the greatest of these.
use Rattle.std.proofs.Common.{◌≡◌, ℕ, ◌+◌, ◌<◌, ◌≤◌, Bool, true, false, cond, List, [], ◌∷◌, ◌++◌, map, refl, sym, ◌∙◌, ap, subst, arith}
use Rattle.std.specs.Prelude.{Option, Some, None, IsTrue, fold, max, is_some}
use Rattle.std.specs.Option.{option_map_or}
use Rattle.std.specs.List.{AllByRecursion, flat_map}
use Rattle.std.specs.FinMap as finite
use Rattle.std.specs.FinMap.{find}
use Rattle.std.specs.Ordering.{nat_cmp, eq_by_cmp}
use Rattle.sed_engine.specs.Code.{Meaning}
use Rattle.comp_tree.specs.Application.{ById, Component, children_of, is_live}
use Rattle.comp_tree.specs.Told.{IsGreatest}
use Rattle.app_file.specs.Rows.{row_of, rows_by}
use Rattle.app_file.specs.Text.{greatest_of, row_text}
use Rattle.comp_tree.proofs.EntriesOfMaps.{entries_are_got}
use Rattle.sed_wire.specs.declared.writer.Writer.{Writer}
use Rattle.app_parts.proofs.SoFar.{SoFar, none_yet}
use Rattle.app_writer.specs.Written.{row_at, rows_text}
use Rattle.app_writer.proofs.EntriesFrom.{entries_from, from_end, from_first, from_next, next_entry, tied_is}

-- what the row of an entry is
abbrev pub entry_text : Meaning → ById → ℕ × Component → List ℕ
entry_text m all e = row_text m (row_of m (children_of all) e.0 e.1)

-- the rows of the components from an id on
abbrev pub rows_from : Meaning → ById → ℕ → List ℕ
rows_from m all n = flat_map (entry_text m all) (entries_from n (finite.entries all))

module _ (m : Meaning) (all : ById) where
  as_rows : (es : List (ℕ × Component)) → flat_map (entry_text m all) es ≡ flat_map (row_text m) (rows_by m (children_of all) es)
  as_rows [] = refl
  as_rows (e ∷ es) = ap (λ (t : List ℕ). entry_text m all e ++ t) (as_rows es)

  pub rows-first : rows_from m all 0 ≡ rows_text m all
  rows-first = ap (flat_map (entry_text m all)) (from_first (finite.entries all)) ∙ as_rows (finite.entries all)

  of_next : (n : ℕ) (r : Option Component) (es : List (ℕ × Component))
      → option_map_or (λ (c : Component). row_text m (row_of m (children_of all) n c)) r [] ++ flat_map (entry_text m all) es ≡ flat_map (entry_text m all) (next_entry r n es)
  unfolding next_entry
  of_next n None es = refl
  of_next n (Some c) es = refl

  pub rows-next : (n : ℕ) → row_at m all n ++ rows_from m all (n + 1) ≡ rows_from m all n
  rows-next n =
      of_next n (finite.get all n) (entries_from (n + 1) (finite.entries all))
      ∙ ap (flat_map (entry_text m all)) (from_next n (finite.entries all) (finite.entries_sorted all) (finite.get all n) (sym (finite.get-entries all n)))

  each_below : (n : ℕ) (es : List (ℕ × Component)) → ((id : ℕ) → IsTrue (is_live all id) → id < n) → AllByRecursion (λ (e : ℕ × Component). finite.get all e.0 ≡ Some e.1) es
      → AllByRecursion (λ (e : ℕ × Component). e.0 < n) es
  each_below n [] above got = tt
  each_below n (e ∷ es) above got = (above e.0 (ap is_some got.0), each_below n es above got.1)

  pub rows-end : (n : ℕ) → ((id : ℕ) → IsTrue (is_live all id) → id < n) → rows_from m all n ≡ []
  rows-end n above = ap (flat_map (entry_text m all)) (from_end n (finite.entries all) (each_below n (finite.entries all) above (entries_are_got all)))

-- ---- the greatest id

fold-least : (xs : List ℕ) (a : ℕ) → a ≤ fold max a xs
fold-least [] a = omega arith
fold-least (x ∷ xs) a = let rest = fold-least xs (max a x) in omega (arith, rest)

fold-most : (es : List (ℕ × Component)) (a g : ℕ) → a ≤ g → AllByRecursion (λ (e : ℕ × Component). e.0 < g + 1) es → fold max a (map (λ (e : ℕ × Component). e.0) es) ≤ g
fold-most [] a g le each = le
fold-most (e ∷ es) a g le each = let less = each.0 in fold-most es (max a e.0) g (omega (arith, less, le)) each.1

fold-found : (es : List (ℕ × Component)) (a g : ℕ) → IsTrue (is_some (find nat_cmp g es)) → g ≤ fold max a (map (λ (e : ℕ × Component). e.0) es)
fold-found [] a g found = absurd (let no : false ≡ true = found in cc)
fold-found (e ∷ es) a g found = by_tie (λ (found : IsTrue (is_some (find nat_cmp g es))). fold-found es (max a e.0) g found) (eq_by_cmp nat_cmp g e.0) refl
  where
    by_tie : (IsTrue (is_some (find nat_cmp g es)) → g ≤ fold max (max a e.0) (map (λ (e : ℕ × Component). e.0) es)) → (b : Bool) → eq_by_cmp nat_cmp g e.0 ≡ b → g ≤ fold max (max a e.0) (map (λ (e : ℕ × Component). e.0) es)
    by_tie later true tie = let least = fold-least (map (λ (e : ℕ × Component). e.0) es) (max a e.0) in let same = tied_is g e.0 tie in omega (arith, least, same)
    by_tie later false tie = later (subst (λ (b : Bool). IsTrue (is_some (cond b (Some e.1) (find nat_cmp g es)))) tie found)

pub greatest-is : (m : Meaning) (all : ById) (g : ℕ) → IsGreatest all g → greatest_of (finite.keys all) ≡ g
greatest-is m all g is =
    let above : (id : ℕ) → IsTrue (is_live all id) → id < g + 1 = λ id live. (let le = is.greatest id live in omega (arith, le)) in
    let most = fold-most (finite.entries all) 0 g (omega arith) (each_below m all (g + 1) (finite.entries all) above (entries_are_got all)) in
    let least = fold-found (finite.entries all) 0 g (subst (λ (r : Option Component). IsTrue (is_some r)) (finite.get-entries all g) is.live) in
    omega (arith, most, least)

-- of the rows nothing is put yet
pub rows-begin : (m : Meaning) (all : ById) (w : Writer) → SoFar w w (rows_text m all) (rows_from m all 0)
rows-begin m all w = subst (SoFar w w (rows_text m all)) (sym (rows-first m all)) (none_yet w (rows_text m all))
