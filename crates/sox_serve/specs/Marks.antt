-- What a request does to the marks of what may have changed: the row of each command.
use Rattle.std.specs.Prelude.{ℕ, ◌≡◌, Bool, if◌then◌else◌, List, Some}
use Rattle.sed_value.specs.declared.refusal.Refusal.{Refusal}
use Rattle.sed_engine.specs.declared.engine.Engine.{Ghosts}
use Rattle.comp_tree.specs.Application.{Application}
use Rattle.comp_tree.specs.Edit.{is_save}
use Rattle.comp_tree.specs.Order.{least_free, subtree}
use Rattle.link_prop.specs.Linked.{Linked, application_of}
use Rattle.link_prop.specs.Marks.{KeepsAppMarks, Parts, added_at, links_at_ends, links_of_new, links_with, no_links}
use Rattle.link_prop.specs.Marks.{no_marks, tree_above, tree_at, values_at}
use Rattle.sox_msg.specs.Answered as told
use Rattle.sox_msg.specs.Command.{Asked, add, delete, invoke, link, unlink, rename, reorder, write}
use Rattle.sox_serve.specs.Replies.{reply_bytes}
use Rattle.sox_serve.specs.Table.{link_between}

-- the marks that may be set, for every place: of parts t, c and r of each component, and of the links at it
pub record Row : Type 0 where
  pub own : ℕ → Parts
  pub linked : ℕ → Bool

-- at most the marks of a row are set, none is cleared, and one that is clear after tells that the part has the same
-- bytes
abbrev pub KeepsRow : {E : Type 0} → Ghosts E → Row → Linked E → Linked E → Type 0
KeepsRow g row before after = KeepsAppMarks g row.own row.linked before after

abbrev pub nothing : Row
nothing = record { own = no_marks; linked = no_links }

-- each command has the row of the call of its name; a read, a version, a clear, a subscribe and an unsubscribe mark
-- nothing, and neither does the App's `save`, which is only asked for
abbrev pub row_of : Application → Asked → Row
row_of a (add parent kit kind name config) =
    record {
      own = added_at parent (least_free a.components.by_id);
      linked = links_of_new (least_free a.components.by_id);
    }
row_of a (delete id) = record {
  own = tree_above a.components.by_id id;
  linked = links_with (subtree a.components.by_id id) a.links;
}
row_of a (rename id name) = record { own = tree_at id; linked = no_links }
row_of a (reorder id children) = record { own = tree_at id; linked = no_links }
row_of a (write id slot value) = record { own = values_at id; linked = no_links }
row_of a (invoke id slot argument) = if is_save id slot then nothing
    else record { own = values_at id; linked = no_links }
row_of a (link source from_slot target to_slot) =
    record { own = no_marks; linked = links_at_ends (link_between source from_slot target to_slot) }
row_of a (unlink source from_slot target to_slot) =
    record { own = no_marks; linked = links_at_ends (link_between source from_slot target to_slot) }
row_of a asked = nothing

-- a request keeps the marks by its command's row; and where its reply tells a refusal, it marks nothing
pub record MarksByRow {E : Type 0} (g : Ghosts E) (old new : Linked E)
    (asked : Asked) (number : ℕ) (bytes : List ℕ) : Type 0 where
  pub row : KeepsRow g (row_of (application_of g old) asked) old new
  pub refused : (refusal : Refusal) → bytes ≡ reply_bytes number (Some (told.refused refusal))
      → KeepsRow g nothing old new
