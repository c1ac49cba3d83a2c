-- A text stands for one application at most.
use Rattle.std.proofs.Common.{◌≡◌, ℕ, inl, inr, Bool, true, false, cond, IsTrue, List, [], ◌∷◌, ◌++◌, refl, sym, subst, ◌∙◌, ap, append_assoc}
use Rattle.std.specs.Prelude.{Option, Some, None, is_some, slice_get, nat_eq}
use Rattle.std.specs.Option.{option_and_then, option_map, option_map_or}
use Rattle.std.specs.List.{IsDistinct, flat_map}
use Rattle.std.specs.FinMap as map
use Rattle.std.specs.FinMap.{find}
use Rattle.std.specs.Cmp.{nat_cmp_total}
use Rattle.std.specs.Ordering.{nat_cmp, eq_by_cmp}
use Rattle.sed_value.specs.declared.value.Value.{Value}
use Rattle.sed_engine.specs.Code.{Meaning, new_object, slot_value}
use Rattle.sed_engine.specs.Whole.{HasTables}
use Rattle.comp_tree.specs.Application.{Application, ById, Component, children_of, is_live, object_of}
use Rattle.comp_tree.specs.Parts.{Kept, config_slots, kept_component, link_bytes, no_id, u1, u2, with_slots}
use Rattle.comp_tree.specs.Whole.{IsFormed}
use Rattle.app_file.specs.Reading.{StandsFor}
use Rattle.app_file.specs.Rows.{Row, behind, row_of, rows_by, rows_of, sibling_behind}
use Rattle.app_file.specs.Telling.{told_component}
use Rattle.app_file.specs.Text.{IsTextOf, file_text, front_text, body_text, greatest_of, row_text}
use Rattle.app_file.proofs.Children.{same_list}
use Rattle.app_file.proofs.EighthByte.{of_one_kind}
use Rattle.comp_tree.proofs.EntriesOfMaps.{tied_is}
use Rattle.comp_tree.proofs.MapLemmas.{get-map_values}
use Rattle.app_file.proofs.FormedRows.{contains_item, links_fit, rows_fit}
use Rattle.app_file.proofs.OneWay.{same_front}
use Rattle.app_file.proofs.ToldRows.{pairs}
use Rattle.app_file.proofs.RowsOneWay.{AreNumbered, links_are_one, rows_are_one}
use Rattle.std.proofs.lemmas.Option.{same_Some as some_is}

-- ---- a row by its id

look : ℕ → List Row → Option Row
look q [] = None
look q (r ∷ rs) = cond (eq_by_cmp nat_cmp q r.id) (Some r) (look q rs)

look_rows : (m : Meaning) (children : ℕ → List ℕ) (es : List (ℕ × Component)) (q : ℕ)
    → look q (rows_by m children es) ≡ option_map (row_of m children q) (find nat_cmp q es)
unfolding look
look_rows m children [] q = refl
look_rows m children (e ∷ es) q = by_test (eq_by_cmp nat_cmp q e.0) refl (look_rows m children es q)
  where
    by_test : (b : Bool) → eq_by_cmp nat_cmp q e.0 ≡ b → look q (rows_by m children es) ≡ option_map (row_of m children q) (find nat_cmp q es)
        → cond b (Some (row_of m children e.0 e.1)) (look q (rows_by m children es)) ≡ option_map (row_of m children q) (cond b (Some e.1) (find nat_cmp q es))
    by_test true is rest = ap (λ id. Some (row_of m children id e.1)) (sym (tied_is q e.0 is))
    by_test false is rest = rest

row_at : (m : Meaning) (all : ById) (q : ℕ) → look q (rows_of m all) ≡ option_map (row_of m (children_of all) q) (map.get all q)
row_at m all q = look_rows m (children_of all) (map.entries all) q ∙ ap (option_map (row_of m (children_of all) q)) (sym (map.get-entries all q))

-- ---- a component from its row and its children

pub kept_is_told : (m : Meaning) (children : ℕ → List ℕ) (q : ℕ) (c : Component) → kept_component m c ≡ told_component m (row_of m children q c) c.children
kept_is_told m children q c =
    ap (λ (values : List (ℕ × Value)). let k : Component = record {
      class = c.class;
      name = c.name;
      parent = c.parent;
      children = c.children;
      contents = (with_slots m values (new_object m c.class)).contents;
      fault = 0;
    } in k) (pairs (slot_value m (object_of c)) (config_slots m c.class))

pub kept_component_is : (m : Meaning) (a : Application) (q : ℕ) (c : Component) → Kept m a ≡ a → map.get a.components.by_id q ≡ Some c → c ≡ kept_component m c
kept_component_is m a q c kept got =
    let all : map.get (Kept m a).components.by_id q ≡ Some c = ap (λ (b : Application). map.get b.components.by_id q) kept ∙ got in
    let mapped : ◌≡◌ {A = Option Component} (Some c) (Some (kept_component m c)) =
    sym all ∙ get-map_values (kept_component m) a.components.by_id q ∙ ap (option_map (kept_component m)) got in
    some_is c (kept_component m c) mapped

-- ---- two applications with the same rows

module _ (m : Meaning) (a b : Application) (formed_a : IsFormed m a) (formed_b : IsFormed m b) (tables : HasTables m) (kept_a : Kept m a ≡ a) (kept_b : Kept m b ≡ b) (rows : rows_of m a.components.by_id ≡ rows_of m b.components.by_id) where
  children_a : (id : ℕ) (c : Component) → map.get a.components.by_id id ≡ Some c → children_of a.components.by_id id ≡ c.children
  children_a id c got = ap (λ r. option_map_or (λ (c : Component). c.children) r []) got

  children_b : (id : ℕ) (c : Component) → map.get b.components.by_id id ≡ Some c → children_of b.components.by_id id ≡ c.children
  children_b id c got = ap (λ r. option_map_or (λ (c : Component). c.children) r []) got

  rows_at : (q : ℕ) → option_map (row_of m (children_of a.components.by_id) q) (map.get a.components.by_id q) ≡ option_map (row_of m (children_of b.components.by_id) q) (map.get b.components.by_id q)
  rows_at q = sym (row_at m a.components.by_id q) ∙ ap (look q) rows ∙ row_at m b.components.by_id q

  -- the other component with a component's row
  other : (q : ℕ) (c : Component) → map.get a.components.by_id q ≡ Some c
      → (d : Component) × (map.get b.components.by_id q ≡ Some d) × (row_of m (children_of a.components.by_id) q c ≡ row_of m (children_of b.components.by_id) q d)
  other q c got = by_other (map.get b.components.by_id q) refl (sym (ap (option_map (row_of m (children_of a.components.by_id) q)) got) ∙ rows_at q)
    where
      by_other : (r : Option Component) → map.get b.components.by_id q ≡ r → Some (row_of m (children_of a.components.by_id) q c) ≡ option_map (row_of m (children_of b.components.by_id) q) r
          → (d : Component) × (map.get b.components.by_id q ≡ Some d) × (row_of m (children_of a.components.by_id) q c ≡ row_of m (children_of b.components.by_id) q d)
      by_other None at same = absurd (let no : ◌≡◌ {A = Option Row} (Some (row_of m (children_of a.components.by_id) q c)) None = same in cc)
      by_other (Some d) at same = (d, at, some_is _ _ same)

  live_there : (id : ℕ) → IsTrue (is_live a.components.by_id id) → (c : Component) × (map.get a.components.by_id id ≡ Some c)
  live_there id live = by_component (map.get a.components.by_id id) refl live
    where
      by_component : (r : Option Component) → map.get a.components.by_id id ≡ r → IsTrue (is_some r) → (c : Component) × (map.get a.components.by_id id ≡ Some c)
      by_component None at some = absurd (let no : false ≡ true = some in cc)
      by_component (Some c) at some = (c, at)

  next_same : (q : ℕ) (c d : Component) → map.get a.components.by_id q ≡ Some c → map.get b.components.by_id q ≡ Some d
      → (n x : ℕ) → slice_get c.children n ≡ Some x → behind x c.children ≡ behind x d.children
  next_same q c d got_c got_d n x at =
      let of_a = children_a q c got_c in
      let there = contains_item (children_of a.components.by_id q) n x (ap (λ cs. slice_get cs n) of_a ∙ at) in
      let child = live_there x (formed_a.tree.known x q (formed_a.tree.down x q there)) in
      let twin = other x child.0 child.1 in
      let parent : child.0.parent ≡ Some q = sym (ap (λ r. option_and_then (λ (c : Component). c.parent) r) child.1) ∙ formed_a.tree.down x q there in
      let same_parent : child.0.parent ≡ twin.0.parent = ap (λ (r : Row). r.parent) twin.2 in
      ap (behind x) (sym of_a)
      ∙ ap (sibling_behind (children_of a.components.by_id) x) (sym parent)
      ∙ ap (λ (r : Row). r.next_sibling) twin.2
      ∙ ap (sibling_behind (children_of b.components.by_id) x) (sym same_parent ∙ parent)
      ∙ ap (behind x) (children_b q d got_d)

  children_same : (q : ℕ) (c d : Component) → map.get a.components.by_id q ≡ Some c → map.get b.components.by_id q ≡ Some d
      → row_of m (children_of a.components.by_id) q c ≡ row_of m (children_of b.components.by_id) q d → c.children ≡ d.children
  children_same q c d got_c got_d row =
      same_list c.children d.children (subst (IsDistinct nat_eq) (children_a q c got_c) (formed_a.tree.once q)) (subst (IsDistinct nat_eq) (children_b q d got_d) (formed_b.tree.once q))
      (ap (λ (r : Row). r.first_child) row) (next_same q c d got_c got_d)

  same_component : (q : ℕ) (c d : Component) → map.get a.components.by_id q ≡ Some c → map.get b.components.by_id q ≡ Some d
      → row_of m (children_of a.components.by_id) q c ≡ row_of m (children_of b.components.by_id) q d → c ≡ d
  same_component q c d got_c got_d row =
      let children = children_same q c d got_c got_d row in
      kept_component_is m a q c kept_a got_c ∙ kept_is_told m (children_of a.components.by_id) q c
      ∙ (λ i. told_component m (row i) (children i))
      ∙ sym (kept_component_is m b q d kept_b got_d ∙ kept_is_told m (children_of b.components.by_id) q d)

  same_at : (q : ℕ) → map.get a.components.by_id q ≡ map.get b.components.by_id q
  same_at q = by_component (map.get a.components.by_id q) refl (map.get b.components.by_id q) refl
    where
      by_component : (r : Option Component) → map.get a.components.by_id q ≡ r → (s : Option Component) → map.get b.components.by_id q ≡ s
          → map.get a.components.by_id q ≡ map.get b.components.by_id q
      by_component None at None at' = at ∙ sym at'
      by_component (Some c) at s at' = let twin = other q c at in at ∙ ap Some (same_component q c twin.0 at twin.1 twin.2) ∙ sym twin.1
      by_component None at (Some d) at' =
          absurd (let no : ◌≡◌ {A = Option Row} None (Some (row_of m (children_of b.components.by_id) q d)) =
          sym (ap (option_map (row_of m (children_of a.components.by_id) q)) at) ∙ rows_at q ∙ ap (option_map (row_of m (children_of b.components.by_id) q)) at' in cc)

  pub same_components : a.components.by_id ≡ b.components.by_id
  same_components = map.same_map nat_cmp_total map.nat_cmp-IsAntisymmetric a.components.by_id b.components.by_id same_at

-- ---- two applications with the same text

body_grouped : (b c d e f : List ℕ) (a : List ℕ) → a ++ b ++ c ++ d ++ e ++ f ≡ a ++ (b ++ (c ++ (d ++ (e ++ f))))
body_grouped b c d e f a =
    append_assoc (a ++ b ++ c ++ d) e f ∙ append_assoc (a ++ b ++ c) d (e ++ f) ∙ append_assoc (a ++ b) c (d ++ (e ++ f)) ∙ append_assoc a b (c ++ (d ++ (e ++ f)))

same_parts : (m : Meaning) (v : ℕ) (a b : Application) → HasTables m → AreNumbered m → IsFormed m a → IsFormed m b → file_text v m a ≡ file_text v m b
    → (rows_of m a.components.by_id ≡ rows_of m b.components.by_id) × (a.links ≡ b.links)
same_parts m v a b tables numbered formed_a formed_b e =
    let front : List ℕ = front_text v m.schema.kits in
    let body : Application → List ℕ = λ (a : Application). body_text m (greatest_of (map.keys a.components.by_id)) (rows_of m a.components.by_id) a.links in
    let greatest : Application → List ℕ = λ (a : Application). u2 (greatest_of (map.keys a.components.by_id)) in
    let rest : Application → List ℕ = λ (a : Application).
    flat_map (row_text m) (rows_of m a.components.by_id) ++ (u2 no_id ++ (flat_map link_bytes a.links ++ (u2 no_id ++ u1 0x2e))) in
    let grouped : (a : Application) → body a ≡ greatest a ++ rest a = λ a. body_grouped (flat_map (row_text m) (rows_of m a.components.by_id)) (u2 no_id) (flat_map link_bytes a.links) (u2 no_id) (u1 0x2e) (greatest a) in
    let bodies : body a ≡ body b = (same_front front front (body a) (body b) refl e).1 in
    let rests : rest a ≡ rest b = (same_front (greatest a) (greatest b) (rest a) (rest b) refl (sym (grouped a) ∙ bodies ∙ grouped b)).1 in
    let rows = rows_are_one m tables numbered (rows_of m a.components.by_id) (rows_of m b.components.by_id)
    (flat_map link_bytes a.links ++ (u2 no_id ++ u1 0x2e)) (flat_map link_bytes b.links ++ (u2 no_id ++ u1 0x2e)) (rows_fit m tables a formed_a) (rows_fit m tables b formed_b) rests in
    let links = links_are_one a.links b.links (u1 0x2e) (u1 0x2e) (links_fit m tables a formed_a) (links_fit m tables b formed_b) rows.1 in
    (rows.0, links.0)

same_text : (m : Meaning) (v limit : ℕ) (bytes : List ℕ) (a b : Application) → HasTables m → AreNumbered m → StandsFor m limit bytes a → StandsFor m limit bytes b
    → file_text v m a ≡ file_text v m b → a ≡ b
same_text m v limit bytes a b tables numbered is_a is_b e =
    let parts = same_parts m v a b tables numbered is_a.formed is_b.formed e in
    let by_id = same_components m a b is_a.formed is_b.formed tables is_a.kept is_b.kept parts.0 in
    let statics : a.components.statics ≡ b.components.statics =
    sym (ap (λ (a : Application). a.components.statics) is_a.kept) ∙ ap (λ (a : Application). a.components.statics) is_b.kept in
    let limits : a.components.limit ≡ b.components.limit = is_a.under ∙ sym is_b.under in
    λ i. record { components = record { by_id = by_id i; statics = statics i; limit = limits i }; links = parts.1 i }

pub one_application : (m : Meaning) (limit : ℕ) (bytes : List ℕ) (a b : Application) → HasTables m → AreNumbered m → StandsFor m limit bytes a → StandsFor m limit bytes b → a ≡ b
one_application m limit bytes a b tables numbered is_a is_b = by_kind is_a.text is_b.text
  where
    by_kind : IsTextOf m a bytes → IsTextOf m b bytes → a ≡ b
    by_kind (inl new) (inl also) = same_text m 4 limit bytes a b tables numbered is_a is_b (sym new ∙ also)
    by_kind (inr old) (inr also) = same_text m 3 limit bytes a b tables numbered is_a is_b (sym old.text ∙ also.text)
    by_kind (inl new) (inr old) = absurd (of_one_kind m m a b bytes new old)
    by_kind (inr old) (inl new) = absurd (of_one_kind m m b a bytes new old)
