-- What stands behind a front, as its form spells it and as it is defined; and what is answered of it.
use Rattle.std.proofs.Common.{◌≡◌, ℕ, suc, ◌<◌, ◌≤◌, IsTrue, List, [], ◌∷◌, ◌++◌, length, refl, sym, ◌∙◌, ap, ap₂, subst, append_assoc, length-append, arith}
use Rattle.std.specs.Prelude.{Option, Some, None, IfSome, map as map_list}
use Rattle.std.specs.List.{AllByRecursion, flat_map}
use Rattle.std.proofs.lemmas.List.{append-nil}
use Rattle.std.proofs.lemmas.List.Elements.{All-from_recursion, recursion_from_All}
use Rattle.sed_value.specs.declared.slot_type.SlotType.{SlotType}
use Rattle.sed_typed.specs.Classes.{slots}
use Rattle.sed_typed.specs.declared.schema.Schema.{Schema}
use Rattle.sed_typed.specs.declared.schema.SlotInfo.{SlotInfo}
use Rattle.sed_engine.specs.Code.{Meaning}
use Rattle.sed_engine.specs.Whole.{KeepsLimits}
use Rattle.sed_wire.specs.Spelling.{can_be_held}
use Rattle.node_table.specs.Read.{CanBeHeld, config_type_of, types_in}
use Rattle.node_table.proofs.SchemaLemmas.{can_hold}
use Rattle.comp_tree.specs.Application.{Link}
use Rattle.comp_tree.specs.Parts.{class_bytes, link_bytes, no_id, u1, u2}
use Rattle.app_file.specs.Reading.{IsFront}
use Rattle.app_file.specs.Text.{body_text, front_text, row_text}
use Rattle.app_front.specs.BodyForm as form
use Rattle.app_front.specs.BodyForm.{IsBodyAnswer, ReadsNoRows, ReadsRows}
use Rattle.app_front.specs.LinkForm as link
use Rattle.app_front.specs.RowForm as row
use Rattle.app_front.specs.Rows.{AreRows, IsToldLink, IsToldRow, told_row}
use Rattle.app_front.specs.declared.rows.FileRow.{FileRow}
use Rattle.app_front.specs.declared.rows.FileRows.{FileRows}
use Rattle.app_front.proofs.EndedTexts.{ended_said, ended_spelled}
use Rattle.app_front.proofs.RowTexts.{behind_text, link_said, link_told, row_is, row_said, row_told}
use Rattle.app_front.proofs.Texts.{number_texts}
use Rattle.app_front.proofs.ValueTexts.{AreHeld}

-- ---- a reader holds the values of each class

held_in : (all : List SlotInfo) → CanBeHeld all → AreHeld (types_in all)
held_in [] can = tt
held_in (s ∷ all) can = by (config_type_of s) refl (can 0) (held_in all (λ n. can (suc n)))
  where
    by : (o : Option SlotType) → config_type_of s ≡ o → IfSome (config_type_of s) (λ t. IsTrue (can_be_held t)) → AreHeld (types_in all) → AreHeld (types_in (s ∷ all))
    by None is one others = rw is others
    by (Some t) is one others = rw is (subst (λ (o : Option SlotType). IfSome o (λ t. IsTrue (can_be_held t))) is one, others)

pub are_held : (schema : Schema) → KeepsLimits schema → (class : ℕ) → AreHeld (types_in (slots schema.classes class))
are_held schema keeps class = held_in (slots schema.classes class) (can_hold schema keeps class)

-- ---- texts of bodies

told_rows : (m : Meaning) (rows : List FileRow) → flat_map (λ r. row_text m (told_row r)) rows ≡ flat_map (row_text m) (map_list told_row rows)
told_rows m [] = refl
told_rows m (r ∷ rows) = ap (λ (t : List ℕ). row_text m (told_row r) ++ t) (told_rows m rows)

abbrev behind_number : Meaning → FileRows → List ℕ
behind_number m f =
    (flat_map (λ r. row_text m (told_row r)) f.rows ++ u2 no_id) ++ ((flat_map link_bytes f.links ++ u2 no_id) ++ u1 0x2e)

nested : (a b c d e : List ℕ) → a ++ ((b ++ c) ++ ((d ++ c) ++ e)) ≡ a ++ b ++ c ++ d ++ c ++ e
nested a b c d e = simp append_assoc

body_is : (m : Meaning) (f : FileRows) → u2 f.greatest ++ behind_number m f ≡ body_text m f.greatest (map_list told_row f.rows) f.links
body_is m f =
    ap (λ (t : List ℕ). u2 f.greatest ++ ((t ++ u2 no_id) ++ ((flat_map link_bytes f.links ++ u2 no_id) ++ u1 0x2e))) (told_rows m f.rows)
    ∙ nested (u2 f.greatest) (flat_map (row_text m) (map_list told_row f.rows)) (u2 no_id) (flat_map link_bytes f.links) (u1 0x2e)

end_texts_said : (bytes : List ℕ) → link.end.spells tt bytes → bytes ≡ u1 0x2e
unfolding link.end
end_texts_said bytes is = ((number_texts 1).said 0x2e bytes is.0).1

end_spelled : link.end.spells tt (u1 0x2e)
unfolding link.end
end_spelled = ((number_texts 1).spelled 0x2e (omega arith), refl)

record IsBody (m : Meaning) (version : ℕ) (bytes : List ℕ) (f : FileRows) : Type 0 where
  same : f.version ≡ version
  greatest : f.greatest < 65536
  rows : AllByRecursion (IsToldRow m) f.rows
  links : AllByRecursion IsToldLink f.links
  text : bytes ≡ body_text m f.greatest (map_list told_row f.rows) f.links

module _ (m : Meaning) (keeps : KeepsLimits m.schema) where
  rows_said : (n : ℕ) (rows : List FileRow) (bytes : List ℕ) → (row.rows m.schema.classes n).spells rows bytes
      → AllByRecursion (IsToldRow m) rows × (bytes ≡ flat_map (λ r. row_text m (told_row r)) rows ++ u2 no_id)
  unfolding row.rows
  rows_said n rows bytes is =
      ended_said (λ (r : FileRow). r.id.0) (row.row_behind m.schema.classes) (row.rows_begin m.schema.classes) (IsToldRow m) (λ r. row_text m (told_row r))
      (λ r is. is.id) (row_said m (are_held m.schema keeps)) (row_told m (are_held m.schema keeps)) n rows bytes is

  rows_spelled : (n : ℕ) (rows : List FileRow) → length rows < n → AllByRecursion (IsToldRow m) rows
      → (row.rows m.schema.classes n).spells rows (flat_map (λ r. row_text m (told_row r)) rows ++ u2 no_id)
  unfolding row.rows
  rows_spelled n rows few each =
      ended_spelled (λ (r : FileRow). r.id.0) (row.row_behind m.schema.classes) (row.rows_begin m.schema.classes) (IsToldRow m) (λ r. row_text m (told_row r))
      (λ r is. is.id) (row_said m (are_held m.schema keeps)) (row_told m (are_held m.schema keeps)) n rows few each

  links_said : (n : ℕ) (links : List Link) (bytes : List ℕ) → (link.links n).spells links bytes
      → AllByRecursion IsToldLink links × (bytes ≡ flat_map link_bytes links ++ u2 no_id)
  unfolding link.links
  links_said n links bytes is =
      ended_said (λ (l : Link). l.from) link.link_behind link.links_begin IsToldLink link_bytes (λ l is. is.from) link_said link_told n links bytes is

  links_spelled : (n : ℕ) (links : List Link) → length links < n → AllByRecursion IsToldLink links
      → (link.links n).spells links (flat_map link_bytes links ++ u2 no_id)
  unfolding link.links
  links_spelled n links few each =
      ended_spelled (λ (l : Link). l.from) link.link_behind link.links_begin IsToldLink link_bytes (λ l is. is.from) link_said link_told n links few each

  body_said : (version most : ℕ) (f : FileRows) (bytes : List ℕ) → (form.body m.schema.classes version most).spells f bytes → IsBody m version bytes f
  unfolding form.body
  body_said version most f bytes (a, b, (same, none), (c, d, number, (e, g, rows, (h, i, links, end, parted4), parted3), parted2), parted) =
      let greatest = (number_texts 2).said f.greatest c number in
      let told = rows_said most f.rows e rows in
      let linked = links_said most f.links h links in
      let last : g ≡ (flat_map link_bytes f.links ++ u2 no_id) ++ u1 0x2e = parted4 ∙ ap₂ (λ (x y : List ℕ). x ++ y) linked.1 (end_texts_said i end) in
      let behind : d ≡ behind_number m f = parted3 ∙ ap₂ (λ (x y : List ℕ). x ++ y) told.1 last in
      record {
        same = same;
        greatest = greatest.0;
        rows = told.0;
        links = linked.0;
        text =
            parted ∙ ap (λ (x : List ℕ). x ++ b) none ∙ parted2 ∙ ap₂ (λ (x y : List ℕ). x ++ y) greatest.1 behind ∙ body_is m f;
      }

  body_spelled : (most : ℕ) (f : FileRows) → f.greatest < 65536 → length f.rows < most → length f.links < most → AllByRecursion (IsToldRow m) f.rows → AllByRecursion IsToldLink f.links
      → (form.body m.schema.classes f.version most).spells f (body_text m f.greatest (map_list told_row f.rows) f.links)
  unfolding form.body
  body_spelled most f greatest few_rows few_links rows links =
      subst ((form.body m.schema.classes f.version most).spells f) (body_is m f) (
        [],
        u2 f.greatest ++ behind_number m f,
        (refl, refl),
        (
          u2 f.greatest,
          behind_number m f,
          (number_texts 2).spelled f.greatest greatest,
          (
            flat_map (λ r. row_text m (told_row r)) f.rows ++ u2 no_id,
            (flat_map link_bytes f.links ++ u2 no_id) ++ u1 0x2e,
            rows_spelled most f.rows few_rows rows,
            (flat_map link_bytes f.links ++ u2 no_id, u1 0x2e, links_spelled most f.links few_links links, end_spelled, refl),
            refl,
          ),
          refl,
        ),
        refl,
      )

  -- ---- there are fewer of them than bytes

  some_bytes : (n : ℕ) (t : List ℕ) → 1 ≤ length (u2 n ++ t)
  some_bytes n t = let two : length (u2 n) ≡ 2 = refl in omega (arith, length-append (u2 n) t, two)

  many : {A : Type 0} (text_of : A → List ℕ) → ((x : A) → 1 ≤ length (text_of x)) → (xs : List A) → length xs ≤ length (flat_map text_of xs)
  many text_of one [] = omega arith
  many text_of one (x ∷ xs) =
      let more = many text_of one xs in
      let here = one x in
      let both = length-append (text_of x) (flat_map text_of xs) in
      omega (arith, more, here, both)

  record AreFewer (f : FileRows) (bytes : List ℕ) : Type 0 where
    rows : length f.rows < length bytes
    links : length f.links < length bytes

  fewer : (version : ℕ) (f : FileRows) (bytes : List ℕ) → bytes ≡ front_text version m.schema.kits ++ body_text m f.greatest (map_list told_row f.rows) f.links → AreFewer f bytes
  fewer version f bytes is =
      let row_bytes = flat_map (λ r. row_text m (told_row r)) f.rows in
      let some_links = flat_map link_bytes f.links in
      let whole = ap length (is ∙ ap (λ (t : List ℕ). front_text version m.schema.kits ++ t) (sym (body_is m f))) in
      let parts = length-append (front_text version m.schema.kits) (u2 f.greatest ++ behind_number m f) in
      let number = length-append (u2 f.greatest) (behind_number m f) in
      let behind = length-append (row_bytes ++ u2 no_id) ((some_links ++ u2 no_id) ++ u1 0x2e) in
      let rows_end = length-append row_bytes (u2 no_id) in
      let last = length-append (some_links ++ u2 no_id) (u1 0x2e) in
      let links_end = length-append some_links (u2 no_id) in
      let two : length (u2 no_id) ≡ 2 = refl in
      let of_rows = many (λ r. row_text m (told_row r)) (λ r. subst (λ (t : List ℕ). 1 ≤ length t) (row_is m r) (some_bytes r.id.0 (class_bytes m r.kind.0 ++ behind_text r))) f.rows in
      let of_links = many link_bytes (λ l. some_bytes l.from (u1 l.from_slot ++ (u2 l.to ++ u1 l.to_slot))) f.links in
      record {
        rows = omega (arith, whole, parts, number, behind, rows_end, two, of_rows);
        links = omega (arith, whole, parts, number, behind, last, links_end, two, of_links);
      }

  -- ---- what is read are the rows that the bytes are

  pub rows_of_reads : (bytes : List ℕ) (f : FileRows) → ReadsRows m.schema bytes f → AreRows m bytes f
  rows_of_reads bytes f reads =
      let begun = (form.body m.schema.classes f.version (length bytes)).sound reads.rest f [] reads.found in
      let is = body_said f.version (length bytes) f begun.0 begun.1 in
      record {
        front = subst (IsFront f.version m.schema.kits bytes) (begun.2 ∙ append-nil begun.0 ∙ is.text) reads.front;
        greatest = is.greatest;
        rows = All-from_recursion (IsToldRow m) f.rows is.rows;
        links = All-from_recursion IsToldLink f.links is.links;
      }

  pub reads_of_rows : (bytes : List ℕ) (f : FileRows) → AreRows m bytes f → ReadsRows m.schema bytes f
  reads_of_rows bytes f are =
      let text = body_text m f.greatest (map_list told_row f.rows) f.links in
      let few = fewer f.version f bytes are.front.front in
      let spelled = body_spelled (length bytes) f are.greatest few.rows few.links (recursion_from_All (IsToldRow m) f.rows are.rows) (recursion_from_All IsToldLink f.links are.links) in
      record {
        rest = text;
        front = are.front;
        found =
            ap (form.body m.schema.classes f.version (length bytes)).reads (sym (append-nil text))
            ∙ (form.body m.schema.classes f.version (length bytes)).whole f text [] spelled;
      }
