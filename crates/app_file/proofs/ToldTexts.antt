-- Rows that tell of an application are its text, and each text of an application is told by its rows.
use Rattle.std.proofs.Common.{◌≡◌, ℕ, inl, inr, Bool, true, false, List, [], ◌∷◌, ◌++◌, refl, sym, subst, ◌∙◌, ap}
use Rattle.std.specs.Prelude.{Some, T, map as map_list, slice_get}
use Rattle.std.specs.Option.{option_map_or}
use Rattle.std.specs.List.{AllByRecursion}
use Rattle.std.specs.FinMap as map
use Rattle.std.specs.FinMap.{is_sorted}
use Rattle.std.specs.Ordering.{nat_cmp}
use Rattle.std.proofs.lemmas.List.Elements.{All-from_recursion}
use Rattle.sed_engine.specs.Code.{Meaning}
use Rattle.comp_tree.specs.Application.{Application, Component, Link, children_of}
use Rattle.comp_tree.specs.Parts.{Kept, config_slots, values_in}
use Rattle.comp_tree.specs.Whole.{IsFormed}
use Rattle.app_file.specs.Reading.{StandsFor}
use Rattle.app_file.specs.Rows.{Row, row_of, rows_by, rows_of}
use Rattle.app_file.specs.Telling.{RowAgrees, RowsAgree, ids_of_rows, told_application, told_by, told_component, told_entries, told_text}
use Rattle.app_file.specs.Text.{HasShortNames, body_text, file_text, front_text, greatest_of}
use Rattle.comp_tree.proofs.EntriesOfMaps.{entries_are_got}
use Rattle.app_file.proofs.OneApplication.{kept_component_is, kept_is_told}
use Rattle.app_file.proofs.ToldRows.{entries_are, rows_are_told, told_is_kept}

-- ---- from rows to the application

keys_told : (m : Meaning) (children : ℕ → List ℕ) (rows : List Row) → map_list (λ (e : ℕ × Component). e.0) (told_entries m children rows) ≡ ids_of_rows rows
keys_told m children [] = refl
keys_told m children (r ∷ rows) = ap (λ (ids : List ℕ). r.id ∷ ids) (keys_told m children rows)

module _ (m : Meaning) (children : ℕ → List ℕ) (rows : List Row) (links : List Link) (limit : ℕ) (agree : RowsAgree m children rows) where
  text_told : (version : ℕ) → told_text version m rows links ≡ file_text version m (told_application m children rows links limit)
  text_told version =
      ap (λ (ids : List ℕ). front_text version m.schema.kits ++ body_text m (greatest_of ids) rows links)
      (sym (ap (map_list (λ (e : ℕ × Component). e.0)) (entries_are m children rows agree) ∙ keys_told m children rows))
      ∙ ap (λ (all : List Row). front_text version m.schema.kits ++ body_text m (greatest_of (map.keys (told_by m children rows))) all links) (sym (rows_are_told m children rows agree))

  kept_told_whole : Kept m (told_application m children rows links limit) ≡ told_application m children rows links limit
  kept_told_whole = λ i. record { components = record { by_id = told_is_kept m children rows agree i; statics = m.initial_statics; limit = limit }; links = links }

  pub stands_new : IsFormed m (told_application m children rows links limit) → StandsFor m limit (told_text 4 m rows links) (told_application m children rows links limit)
  stands_new formed = record { formed = formed; kept = kept_told_whole; under = refl; text = inl (text_told 4) }

  pub stands_old : IsFormed m (told_application m children rows links limit) → HasShortNames (told_by m children rows)
      → StandsFor m limit (told_text 3 m rows links) (told_application m children rows links limit)
  stands_old formed short = record { formed = formed; kept = kept_told_whole; under = refl; text = inr (record { text = text_told 3; short = short }) }

-- ---- from the application to its rows

module _ (m : Meaning) (a : Application) (kept : Kept m a ≡ a) where
  told_is : (id : ℕ) (c : Component) → map.get a.components.by_id id ≡ Some c → told_component m (row_of m (children_of a.components.by_id) id c) c.children ≡ c
  told_is id c got = sym (kept_component_is m a id c kept got ∙ kept_is_told m (children_of a.components.by_id) id c)

  children_by : (id : ℕ) (c : Component) → map.get a.components.by_id id ≡ Some c → children_of a.components.by_id id ≡ c.children
  children_by id c got = ap (λ r. option_map_or (λ (c : Component). c.children) r []) got

  told_again : (id : ℕ) (c : Component) → map.get a.components.by_id id ≡ Some c
      → told_component m (row_of m (children_of a.components.by_id) id c) (children_of a.components.by_id id) ≡ c
  told_again id c got = ap (told_component m (row_of m (children_of a.components.by_id) id c)) (children_by id c got) ∙ told_is id c got

  entries_again : (es : List (ℕ × Component)) → AllByRecursion (λ e. map.get a.components.by_id e.0 ≡ Some e.1) es
      → told_entries m (children_of a.components.by_id) (rows_by m (children_of a.components.by_id) es) ≡ es
  entries_again [] got = refl
  entries_again (e ∷ es) got =
      let here = told_again e.0 e.1 got.0 in
      let rest = entries_again es got.1 in
      λ i. (e.0, here i) ∷ rest i

  row_agrees : (id : ℕ) (c : Component) → map.get a.components.by_id id ≡ Some c → RowAgrees m (children_of a.components.by_id) (row_of m (children_of a.components.by_id) id c)
  row_agrees id c got = record {
    first = ap (λ cs. slice_get cs 0) (children_by id c got);
    next = refl;
    gives = ap (λ (d : Component). values_in m d (config_slots m c.class)) (told_again id c got);
  }

  each_agrees : (es : List (ℕ × Component)) → AllByRecursion (λ e. map.get a.components.by_id e.0 ≡ Some e.1) es
      → AllByRecursion (RowAgrees m (children_of a.components.by_id)) (rows_by m (children_of a.components.by_id) es)
  each_agrees [] got = tt
  each_agrees (e ∷ es) got = (row_agrees e.0 e.1 got.0, each_agrees es got.1)

  entries_same : told_entries m (children_of a.components.by_id) (rows_of m a.components.by_id) ≡ map.entries a.components.by_id
  entries_same = entries_again (map.entries a.components.by_id) (entries_are_got a.components.by_id)

  pub components_again : told_by m (children_of a.components.by_id) (rows_of m a.components.by_id) ≡ a.components.by_id
  components_again =
      map.same_entries_map _ _ (map.entries-from_sorted nat_cmp (told_entries m (children_of a.components.by_id) (rows_of m a.components.by_id))
      (subst (λ es. T (is_sorted nat_cmp es)) (sym entries_same) (map.entries_sorted a.components.by_id)) ∙ entries_same)

  pub rows_agree : RowsAgree m (children_of a.components.by_id) (rows_of m a.components.by_id)
  rows_agree = record {
    ascend = ap (is_sorted nat_cmp) entries_same ∙ is_true (is_sorted nat_cmp (map.entries a.components.by_id)) (map.entries_sorted a.components.by_id);
    each = All-from_recursion _ (rows_of m a.components.by_id) (each_agrees (map.entries a.components.by_id) (entries_are_got a.components.by_id));
    none = λ id got. ap (λ r. option_map_or (λ (c : Component). c.children) r []) (sym (ap (λ all. map.get all id) components_again) ∙ got);
  }
    where
      is_true : (b : Bool) → T b → b ≡ true
      is_true true h = refl
      is_true false h = absurd h

pub told_by_its_rows : (m : Meaning) (limit : ℕ) (bytes : List ℕ) (a : Application) → StandsFor m limit bytes a
    → told_application m (children_of a.components.by_id) (rows_of m a.components.by_id) a.links limit ≡ a
told_by_its_rows m limit bytes a is =
    let by_id = components_again m a is.kept in
    let statics : m.initial_statics ≡ a.components.statics = ap (λ (a : Application). a.components.statics) is.kept in
    λ i. record { components = record { by_id = by_id i; statics = statics i; limit = sym is.under i }; links = a.links }
