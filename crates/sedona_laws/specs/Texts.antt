-- What two answers put, and of which text what is put is a front.
use Rattle.std.specs.Prelude.{◌≡◌, ℕ, List, [], ◌∷◌, ◌++◌, Option, Result, Ok, Err}
use Rattle.sed_outside.specs.Sink.{PutsFront, with_text}
use Rattle.sed_outside.specs.Steps.{AndThen}
use Rattle.comp_tree.specs.Application.{Application}
use Rattle.dasp_session.specs.Outbox.{AreTexts, Datagram}
use Rattle.replay_log.specs.Entry.{Entry}
use Rattle.replay_log.specs.Record.{IsRecord}
use Rattle.sed_node.specs.Replaying.{replay_text}
use Rattle.sedona_words.specs.Command.{Command, NodeAsked, Replay}
use Rattle.sedona_cli.specs.declared.refusal.Refusal.{Refusal}
use Rattle.sedona_cli.specs.Given.{GivenRecord}
use Rattle.sedona_cli.specs.Lines.{line_of, memory_line}
use Rattle.sedona_cli.specs.Outside.{Ask, Ran, Runs, reached}
use Rattle.sedona_cli.specs.Program.{Comes}
use Rattle.sedona_cli.specs.Puts.{IsOneOf, Puts}
use Rattle.sedona_cli.specs.Replay.{InputsRead, IsRunOf, OpenedBy}
use Rattle.sedona_cli.specs.Status.{number_of, status_of}

-- One text was put behind what stood there before, here and there.
pub record PutOne (before after earlier later : Option (List ℕ)) : Type 0 where
  pub text : List ℕ
  pub here : after ≡ with_text before text
  pub there : later ≡ with_text earlier text

-- ---- ends, their texts and their statuses

-- the text of an end: what is printed, or the line of the refusal
abbrev pub text_of : Result (List ℕ) Refusal → List ℕ
text_of (Ok text) = text
text_of (Err refusal) = line_of refusal

-- The status of an end: of a text 0, or 8 where the sink failed as it was put; of a refusal its own.
abbrev pub IsToldBy : Result (List ℕ) Refusal → ℕ → Type 0
IsToldBy (Ok text) status = IsOneOf (0 ∷ 8 ∷ []) status
IsToldBy (Err refusal) status = status ≡ number_of (status_of refusal)

-- ---- a replay that goes on

-- A node is run over the first entries of the record. The text of it is that of a replay which ends there.
pub record ReplaysFirst (asked : NodeAsked) (given : GivenRecord) (a : Application) (asks : List Ask)
    (end : Result (List ℕ) Refusal) : Type 0 where
  pub ran : Ran
  pub is_run : IsRunOf asked given a ran
  pub asks_are : asks ≡ Runs ran ∷ []
  pub left : List Entry
  pub entries : IsRecord given.text (ran.entries ++ left)
  pub sent : List Datagram
  pub sends : AreTexts (reached ran).sent sent
  pub end_is : end ≡ Ok (replay_text ran.code ran.setup ran.start ran.events sent)

-- What a command comes to as far as it is done: a replay over the first entries of its record, and every other command
-- over all that it does.
abbrev pub ComesSoFar : Command → List Ask → Result (List ℕ) Refusal → Type 0
ComesSoFar (Replay asked file) =
    AndThen (InputsRead asked file) (λ (given : GivenRecord).
    AndThen (OpenedBy asked given) (ReplaysFirst asked given))
ComesSoFar command = Comes command

-- ---- what is put

-- What was put is a front of the text of an end that has this status, and all of it where the sink did not fail: of the
-- end that the command comes to; with 8 of a replay, of the text of its run so far; or, with want of memory, of the
-- line of that.
pub data PutsText (command : Command) (asks : List Ask) (before after : Option (List ℕ))
    (faults_before faults_after status : ℕ) : Type 0 where
  of_end : (end : Result (List ℕ) Refusal) → Comes command asks end → IsToldBy end status
      → Puts before after faults_before faults_after (text_of end)
      → PutsText command asks before after faults_before faults_after status
  of_run : (text : List ℕ) → ComesSoFar command asks (Ok text) → status ≡ 8
      → Puts before after faults_before faults_after text
      → PutsText command asks before after faults_before faults_after status
  of_want : status ≡ 7 → Puts before after faults_before faults_after memory_line
      → PutsText command asks before after faults_before faults_after status

-- Fronts of one text were put behind what stood there before, here and there: of the text of an end that the command
-- comes to.
pub record PutFronts (command : Command) (asks : List Ask) (before after earlier later : Option (List ℕ))
    : Type 0 where
  pub end : Result (List ℕ) Refusal
  pub comes : ComesSoFar command asks end
  pub here : PutsFront before after (text_of end)
  pub there : PutsFront earlier later (text_of end)
