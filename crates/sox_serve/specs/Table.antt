-- When a command is refused, letter by letter: in the order of a row the first refusal whose condition holds is
-- given. That a request is malformed, or its letter unknown, stands before each row; want of memory behind it.
use Rattle.std.specs.Prelude.{ℕ, Bool, List, []}
use Rattle.sed_value.specs.declared.refusal.Refusal.{Refusal}
use Rattle.sed_engine.specs.Code.{Meaning}
use Rattle.comp_tree.specs.Application.{Application, Link}
use Rattle.comp_tree.specs.Refusals.{refusals_of_add, refusals_of_clear, refusals_of_delete, refusals_of_invoke}
use Rattle.comp_tree.specs.Refusals.{refusals_of_link, refusals_of_part, refusals_of_read, refusals_of_rename}
use Rattle.comp_tree.specs.Refusals.{refusals_of_reorder, refusals_of_unlink, refusals_of_write}
use Rattle.sox_msg.specs.Command.{Asked, add, read_part, delete, invoke, link, unlink, rename, reorder, read_slot}
use Rattle.sox_msg.specs.Command.{subscribe, unsubscribe, version, write, clear}

abbrev pub link_between : ℕ → ℕ → ℕ → ℕ → Link
link_between source from_slot target to_slot =
    record { from = source; from_slot = from_slot; to = target; to_slot = to_slot }

abbrev pub refusals_of : Meaning → Application → Asked → List (Bool × Refusal)
-- a: 3 4 5 6 7 8 9 10 14 15 11
refusals_of m a (add parent kit kind name config) = refusals_of_add m a.components parent kit kind name config
-- c: 3
refusals_of m a (read_part id part) = refusals_of_part a.components.by_id id
-- d: 3 22
refusals_of m a (delete id) = refusals_of_delete a.components.by_id id
-- i: 3 12 13 14 23
refusals_of m a (invoke id slot argument) = refusals_of_invoke m a.components.by_id id slot argument
-- l with `a`: 3 12 13 16 17 18 19
refusals_of m a (link source from_slot target to_slot) =
    refusals_of_link m a.components.by_id a.links (link_between source from_slot target to_slot)
-- l with `d`: 20
refusals_of m a (unlink source from_slot target to_slot) =
    refusals_of_unlink a.links (link_between source from_slot target to_slot)
-- n: 3 6 7 22
refusals_of m a (rename id name) = refusals_of_rename a.components.by_id id name
-- o: 3 21
refusals_of m a (reorder id children) = refusals_of_reorder a.components.by_id id children
-- r: 3 12 13
refusals_of m a (read_slot id slot) = refusals_of_read m a.components.by_id id slot
-- s and u: 3
refusals_of m a (subscribe id mask) = refusals_of_clear a.components.by_id id
refusals_of m a (unsubscribe id mask) = refusals_of_clear a.components.by_id id
-- v: none
refusals_of m a version = []
-- w: 3 12 13 14 15
refusals_of m a (write id slot value) = refusals_of_write m a.components.by_id id slot value
-- x: 3
refusals_of m a (clear id) = refusals_of_clear a.components.by_id id
