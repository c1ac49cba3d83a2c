-- Rows that tell an application, and the text of the application.
use Rattle.std.proofs.Common.{◌≡◌, ◌⊎◌, inl, inr, ℕ, List, ◌++◌, refl, sym, ◌∙◌, ap, arith}
use Rattle.std.specs.Prelude.{map as map_list}
use Rattle.std.specs.FinMap as map
use Rattle.std.proofs.lemmas.List.Elements.{All-from_recursion}
use Rattle.sed_typed.specs.Spelled.{CanBeTold}
use Rattle.sed_engine.specs.Code.{Meaning}
use Rattle.sed_engine.specs.Whole.{HasTables}
use Rattle.comp_tree.specs.Application.{Application}
use Rattle.app_file.specs.Reading.{StandsFor}
use Rattle.app_file.specs.Rows.{Row, rows_of}
use Rattle.app_file.specs.Text.{HasShortNames, IsTextOf, body_text, file_text, front_text, greatest_of, old_version}
use Rattle.app_front.specs.Rows.{AreRows}
use Rattle.app_front.specs.declared.rows.FileRows.{FileRows}
use Rattle.app_reader.specs.Tells.{AreToldBy, Tells}
use Rattle.app_reader.proofs.FormedRows.{back, greatest_below, links_are_told, rows_again, rows_are_told}

pub rows_stand : (m : Meaning) (limit : ℕ) (bytes : List ℕ) (f : FileRows) (a : Application) → AreRows m bytes f → Tells m limit f a → StandsFor m limit bytes a
rows_stand m limit bytes f a are tells = record { formed = tells.formed; kept = tells.kept; under = tells.under; text = by_version are.front.known }
  where
    text : (version : ℕ) → f.version ≡ version → bytes ≡ file_text version m a
    text version is =
        are.front.front
        ∙ (λ i. front_text (is i) m.schema.kits ++ body_text m (tells.greatest i) (tells.rows i) (tells.links i))

    by_version : (f.version ≡ 4) ⊎ (f.version ≡ 3) → IsTextOf m a bytes
    by_version (inl new) = inl (text 4 new)
    by_version (inr old) = inr (record { text = text 3 old; short = tells.short old })

module _ (m : Meaning) (limit : ℕ) (bytes : List ℕ) (a : Application) (tables : HasTables m) (told : CanBeTold m.schema) (is : StandsFor m limit bytes a) where
  file_of : ℕ → FileRows
  file_of version = record {
    version = version;
    greatest = greatest_of (map.keys a.components.by_id);
    rows = map_list back (rows_of m a.components.by_id);
    links = a.links;
  }

  are_rows : (version : ℕ) → (version ≡ 4) ⊎ (version ≡ 3) → bytes ≡ file_text version m a → AreRows m bytes (file_of version)
  unfolding file_of
  are_rows version known text = record {
    front = record {
      known = known;
      few = let few = tables.limits.kits in omega (arith, few);
      names = told.names;
      checksums = told.checksums;
      front = text ∙ ap (λ (rows : List Row). front_text version m.schema.kits ++ body_text m (greatest_of (map.keys a.components.by_id)) rows a.links) (sym (rows_again (rows_of m a.components.by_id)));
    };
    greatest = greatest_below m tables told.numbers a is.formed;
    rows = All-from_recursion _ (map_list back (rows_of m a.components.by_id)) (rows_are_told m tables told.numbers a is.formed);
    links = All-from_recursion _ a.links (links_are_told m tables told.numbers a is.formed);
  }

  tells_of : (version : ℕ) → (version ≡ old_version → HasShortNames a.components.by_id) → Tells m limit (file_of version) a
  unfolding file_of
  tells_of version short = record {
    formed = is.formed;
    kept = is.kept;
    under = is.under;
    rows = rows_again (rows_of m a.components.by_id);
    links = refl;
    greatest = refl;
    short = short;
  }

  pub are_told : AreToldBy m limit bytes a
  are_told = by_text is.text
    where
      by_text : IsTextOf m a bytes → AreToldBy m limit bytes a
      by_text (inl new) = record { file = file_of 4; are = are_rows 4 (inl refl) new; tells = tells_of 4 (λ no. absurd (omega (arith, no))) }
      by_text (inr old) = record { file = file_of 3; are = are_rows 3 (inr refl) old.text; tells = tells_of 3 (λ _. old.short) }
