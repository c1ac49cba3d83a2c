-- What a command comes to: the application after it, what is asked of the node, and the reply.
use Rattle.std.specs.Prelude.{ℕ, ℤ, ◌≡◌, ◌-◌, Bool, true, false, IsTrue, IsOk, if◌then◌else◌, Option, Some, None}
use Rattle.std.specs.Prelude.{Result, Ok, Err}
use Rattle.sed_value.specs.declared.refusal.Refusal.{Refusal}
use Rattle.sed_value.specs.declared.refusal.Refusal.TheVariants.{OutOfMemory}
use Rattle.sed_engine.specs.Code.{Meaning}
use Rattle.comp_tree.specs.Application.{Application}
use Rattle.comp_tree.specs.Edit.{Command, Add, ReadPart, Delete, Invoke, Connect, Disconnect, Rename, Reorder, ReadSlot}
use Rattle.comp_tree.specs.Edit.{Subscribe, Unsubscribe, Version, Write, Clear, Edit, Edited, Reply, Added, Told}
use Rattle.comp_tree.specs.Edit.{is_save}
use Rattle.sox_msg.specs.Answered as told
use Rattle.sox_msg.specs.Answered.{Answered}
use Rattle.sox_msg.specs.Command.{Asked, add, read_part, delete, invoke, link, unlink, rename, reorder, read_slot}
use Rattle.sox_msg.specs.Command.{subscribe, unsubscribe, version, write, clear, letter_of}
use Rattle.sox_serve.specs.Table.{link_between}
use Rattle.sox_serve.specs.declared.served.Served.{Served}
use Rattle.sox_serve.specs.declared.served.Served.TheVariants as served

-- the command to the application
abbrev pub command_of : Asked → Command
command_of (add parent kit kind name config) = Add parent kit kind name config
command_of (read_part id part) = ReadPart id part
command_of (delete id) = Delete id
command_of (invoke id slot argument) = Invoke id slot argument
command_of (link source from_slot target to_slot) = Connect (link_between source from_slot target to_slot)
command_of (unlink source from_slot target to_slot) = Disconnect (link_between source from_slot target to_slot)
command_of (rename id name) = Rename id name
command_of (reorder id children) = Reorder id children
command_of (read_slot id slot) = ReadSlot id slot
command_of (subscribe id mask) = Subscribe id
command_of (unsubscribe id mask) = Unsubscribe id
command_of version = Version
command_of (write id slot value) = Write id slot value
command_of (clear id) = Clear id

-- ---- a command that is done

-- the App's `save` is invoked
abbrev pub asks_for_save : Asked → Bool
asks_for_save (invoke id slot argument) = is_save id slot
asks_for_save asked = false

-- what is asked of the node
abbrev pub served_by : Asked → Served
served_by (delete id) = served.Deleted
served_by (subscribe id mask) = served.Subscribe (record { 0 = id }) mask
served_by (unsubscribe id mask) = served.Unsubscribe (record { 0 = id }) mask
served_by asked = if asks_for_save asked then served.SaveAsked else served.Replied

-- a reply begins with the capital of the request's letter
abbrev pub capital_of : ℕ → ℕ
capital_of letter = letter - 32

-- what was asked for, of what it was asked, and else only that it is done
abbrev pub answered_by : Asked → Reply → Answered
answered_by (add parent kit kind name config) (Added id) = told.added id
answered_by (read_part id part) (Told bytes) = told.part id part bytes
answered_by (read_slot id slot) (Told bytes) = told.slot id slot bytes
answered_by version (Told bytes) = told.version bytes
answered_by asked reply = told.done (capital_of (letter_of asked))

-- ---- any command

pub record Answer : Type 0 where
  pub application : Application
  pub served : Served
  -- none where a save is asked for
  pub reply : Option Answered

abbrev pub done_with : Asked → Edited → Answer
done_with asked edited = record {
  application = edited.application;
  served = served_by asked;
  reply = if asks_for_save asked then None else Some (answered_by asked edited.reply);
}

-- nothing has changed then
abbrev pub refused_by : Application → Refusal → Answer
refused_by a refusal = record { application = a; served = served.Replied; reply = Some (told.refused refusal) }

abbrev pub answer_by : Application → Asked → Result Edited Refusal → Answer
answer_by a asked (Ok edited) = done_with asked edited
answer_by a asked (Err refusal) = refused_by a refusal

-- with so many turns for each root call, at a moment
abbrev pub answer : Meaning → Application → Asked → ℕ → ℤ → Answer
answer m a asked turns moment = answer_by a asked (Edit m a (command_of asked) turns moment)

-- ---- want of memory

-- an add and a new link alone may want memory
abbrev pub may_want_memory : Asked → Bool
may_want_memory (add parent kit kind name config) = true
may_want_memory (link source from_slot target to_slot) = true
may_want_memory asked = false

-- what they are answered in the place of being done
pub record WantsMemory (m : Meaning) (a : Application) (asked : Asked) (turns : ℕ) (moment : ℤ) (given : Answer)
    : Type 0 where
  pub may : IsTrue (may_want_memory asked)
  pub allowed : IsOk (Edit m a (command_of asked) turns moment)
  pub given_is : given ≡ refused_by a OutOfMemory
