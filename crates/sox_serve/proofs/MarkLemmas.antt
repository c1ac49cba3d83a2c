-- A command marks at most its row, and nothing where it is refused.
use Rattle.std.proofs.Common.{◌≡◌, ℕ, List, Bool, true, false, inl, inr, refl, sym, ◌∙◌, ap, subst}
use Rattle.std.specs.Prelude.{◌==◌, not, if◌then◌else◌, IsTrue, Some, Result, Ok, Err, OnErr, MatchResult}
use Rattle.sed_value.specs.declared.refusal.Refusal.{Refusal}
use Rattle.sed_engine.specs.declared.engine.Engine.{Ghosts}
use Rattle.comp_tree.specs.Edit.{is_save}
use Rattle.comp_tree.specs.Marks.Part.{Tree, Config, Runtime}
use Rattle.link_prop.specs.Linked.{Linked, application_of}
use Rattle.link_prop.specs.Marks.{AppPart, KeepsAppMarks, is_in_row, no_links, no_marks, values_at}
use Rattle.link_prop.specs.Marks.AppPart.{OfTree, OfLinks}
use Rattle.link_prop.proofs.AppMarks.{keeps_all}
use Rattle.sox_msg.specs.Answered as told
use Rattle.sox_msg.specs.Answered.{Answered, capital_in}
use Rattle.sox_msg.specs.Command.{Asked, invoke}
use Rattle.sox_serve.specs.Replies.{reply_bytes}
use Rattle.sox_serve.specs.Marks.{KeepsRow, MarksByRow, Row, nothing, row_of}
use Rattle.sox_serve.proofs.RefusalLemmas.{first_byte}

is_false : (b : Bool) → IsTrue (not b) → b ≡ false
is_false false is = refl
is_false true is = absurd (let same : false ≡ true = is in cc)

-- nothing is in the row of nothing
none_in_row : (id : ℕ) (part : AppPart) → is_in_row no_marks no_links id part ≡ false
none_in_row id (OfTree Tree) = refl
none_in_row id (OfTree Config) = refl
none_in_row id (OfTree Runtime) = refl
none_in_row id OfLinks = refl

module _ {E : Type 0} (g : Ghosts E) (old new : Linked E) where
  -- what marks nothing keeps the marks by each row
  pub by_any_row : (row : Row) → KeepsRow g nothing old new → KeepsRow g row old new
  by_any_row row keeps = record {
    tells = keeps.tells;
    sets = λ id place part live set. elim (keeps.sets id place part live set) [
      | inl was ↦ inl was
      | inr in_row ↦ absurd (let no : true ≡ false = sym in_row ∙ none_in_row id part in cc)
    ];
    clears_none = keeps.clears_none;
  }

  -- an action that is run, and not the App's `save`
  pub run_by_row : (id slot : ℕ) (argument : List ℕ) → IsTrue (not (is_save id slot)) → KeepsAppMarks g (values_at id) no_links old new
      → KeepsRow g (row_of (application_of g old) (invoke id slot argument)) old new
  run_by_row id slot argument no_save keeps =
      let run : Row = record { own = values_at id; linked = no_links } in
      subst (λ (save : Bool). KeepsRow g (if save then nothing else run) old new) (sym (is_false (is_save id slot) no_save)) keeps

  module _ (asked : Asked) (number : ℕ) (bytes : List ℕ) where
    pub marks_nothing : KeepsRow g nothing old new → MarksByRow g old new asked number bytes
    marks_nothing keeps =
        record { row = by_any_row (row_of (application_of g old) asked) keeps; refused = λ refusal told_so. keeps }

    pub marks_stay : new ≡ old → MarksByRow g old new asked number bytes
    marks_stay same = marks_nothing (keeps_all g no_marks no_links old new same)

    -- a command that is done, of which the reply tells no refusal
    pub marks_done : (answered : Answered) → KeepsRow g (row_of (application_of g old) asked) old new
        → bytes ≡ reply_bytes number (Some answered) → (capital_in answered == 33) ≡ false → MarksByRow g old new asked number bytes
    marks_done answered keeps reply other = record {
      row = keeps;
      refused = λ refusal told_so. absurd
          (let is : (capital_in answered == 33) ≡ true = ap (λ (text : List ℕ). first_byte text == 33) (sym reply ∙ told_so) in
          let no : true ≡ false = sym is ∙ other in cc);
    }

    -- a command that is done, or refused and then leaves all
    pub marks_by_end : {T : Type 0} (end : Result T Refusal) (letter : ℕ) → KeepsRow g (row_of (application_of g old) asked) old new
        → OnErr end (new ≡ old)
        → MatchResult end (λ _. bytes ≡ reply_bytes number (Some (told.done letter))) (λ refusal. bytes ≡ reply_bytes number (Some (told.refused refusal)))
        → (letter == 33) ≡ false → MarksByRow g old new asked number bytes
    marks_by_end (Ok _) letter keeps stays reply other = marks_done (told.done letter) keeps reply other
    marks_by_end (Err refusal) letter keeps stays reply other = marks_stay stays
