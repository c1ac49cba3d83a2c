-- What `replay` comes to, and what it leaves.
use Rattle.std.specs.Prelude.{◌≡◌, ◌⊎◌, ℕ, pos, List, [], ◌∷◌, ◌++◌, Option, Result, Ok}
use Rattle.sed_outside.specs.Cause.{Rose}
use Rattle.sed_outside.specs.Sink.{PutsFront, with_text}
use Rattle.sed_engine.specs.Code.{Meaning as Code}
use Rattle.comp_tree.specs.Application.{Application}
use Rattle.dasp_session.specs.declared.user.User.{User}
use Rattle.dasp_session.specs.Outbox.{AreTexts, Datagram}
use Rattle.replay_log.specs.Entry.{Entry}
use Rattle.replay_log.specs.Record.{IsRecord}
use Rattle.node_events.specs.Running.{Event, run}
use Rattle.sed_node.specs.Running.{lines_of}
use Rattle.sed_node.specs.Replaying.{end_text, replay_text}
use Rattle.sed_outside.specs.Steps.{AndThen, Decides}
use Rattle.sedona_cli.specs.Given.{GivenRecord}
use Rattle.sedona_cli.specs.declared.refusal.Refusal.{Refusal}
use Rattle.sedona_words.specs.Command.{NodeAsked}
use Rattle.sedona_cli.specs.Outside.{Ask, Ran, Runs, reached}
use Rattle.sedona_cli.specs.Nodes.{IsRunFrom, Opened}
use Rattle.sedona_cli.specs.Steps.{AfterCode, AfterRecord, AfterSecret, AfterUsers}

-- ---- what is read

-- The code is loaded, and then the users, the secret and the record are read.
abbrev pub InputsRead : NodeAsked → List ℕ → List Ask → Result GivenRecord Refusal → Type 0
InputsRead asked file =
    AndThen (AfterCode asked.code) (λ (code : Code).
    AndThen (AfterUsers asked.users) (λ (users : List User).
    AndThen (AfterSecret asked.secret) (λ (secret : List ℕ).
    AndThen (AfterRecord file) (λ (text : List ℕ).
    Decides (λ end. end ≡ Ok (record { code = code; users = users; secret = secret; text = text }))))))

-- The store that the words name is opened, over the code that was loaded.
abbrev pub OpenedBy : NodeAsked → GivenRecord → List Ask → Result Application Refusal → Type 0
OpenedBy asked given = Opened asked.store asked.limit given.code

-- ---- what is run

-- A run of the node that begins with this application at moment 0.
abbrev pub IsRunOf : NodeAsked → GivenRecord → Application → Ran → Type 0
IsRunOf asked given = IsRunFrom (pos 0) asked.turns given.code given.users given.secret

-- It is run over all entries of the record. What is printed is each datagram that was sent, the application that was
-- reached, and what the run came to.
pub record Replays (asked : NodeAsked) (given : GivenRecord) (a : Application) (asks : List Ask)
    (end : Result (List ℕ) Refusal) : Type 0 where
  pub ran : Ran
  pub is_run : IsRunOf asked given a ran
  pub asks_are : asks ≡ Runs ran ∷ []
  pub entries : IsRecord given.text ran.entries
  pub sent : List Datagram
  pub sends : AreTexts (reached ran).sent sent
  pub end_is : end ≡ Ok (replay_text ran.code ran.setup ran.start ran.events sent)

-- The sink failed a line of the last event that was handled. The lines of the earlier ones were put, and those of the
-- last one in part.
pub record FailsInEvent (ran : Ran) (put last : List ℕ) : Type 0 where
  pub earlier : List Event
  pub event : Event
  pub parted : ran.events ≡ earlier ++ event ∷ []
  pub sent : List Datagram
  pub sent_last : List Datagram
  pub sends : AreTexts (reached ran).sent (sent ++ sent_last)
  pub sends_before : AreTexts (run ran.code ran.setup ran.start earlier).sent sent
  pub put_are : put ≡ lines_of sent
  pub last_are : last ≡ lines_of sent_last

-- The sink failed what stands at the end: all entries were handled, all lines were put, and of the end a part.
pub record FailsAtEnd (ran : Ran) (left : List Entry) (put last : List ℕ) : Type 0 where
  pub all : left ≡ []
  pub sent : List Datagram
  pub sends : AreTexts (reached ran).sent sent
  pub put_are : put ≡ lines_of sent
  pub last_are : last ≡ end_text ran.code (reached ran)

-- Where the sink failed a run, with these entries left: what was put before, and what was put in part.
abbrev pub FailsAt : Ran → List Entry → List ℕ → List ℕ → Type 0
FailsAt ran left put last = FailsInEvent ran put last ⊎ FailsAtEnd ran left put last

-- It is run until the sink fails, over the first entries or over all of them.
pub record Stops (asked : NodeAsked) (given : GivenRecord) (a : Application) (asks : List Ask) (put last : List ℕ)
    : Type 0 where
  pub ran : Ran
  pub is_run : IsRunOf asked given a ran
  pub asks_are : asks ≡ Runs ran ∷ []
  pub left : List Entry
  pub entries : IsRecord given.text (ran.entries ++ left)
  pub fails : FailsAt ran left put last

-- How a run is answered: all was put, with status 0; or the sink failed, with status 8.
pub data Plays (asked : NodeAsked) (given : GivenRecord) (a : Application)
    (asks : List Ask) (before after : Option (List ℕ))
    (faults_before faults_after : ℕ) (status : ℕ) : Type 0 where
  all_put : (text : List ℕ) → Replays asked given a asks (Ok text) → status ≡ 0 → after ≡ with_text before text
      → faults_after ≡ faults_before → Plays asked given a asks before after faults_before faults_after status
  not_put : (put last : List ℕ) → Stops asked given a asks put last → status ≡ 8 → Rose faults_before faults_after
      → PutsFront (with_text before put) after last
      → Plays asked given a asks before after faults_before faults_after status

-- ---- what it comes to

abbrev pub ReplayComes : NodeAsked → List ℕ → List Ask → Result (List ℕ) Refusal → Type 0
ReplayComes asked file =
    AndThen (InputsRead asked file) (λ (given : GivenRecord).
    AndThen (OpenedBy asked given) (Replays asked given))

pub record ReplayStops (asked : NodeAsked) (file : List ℕ) (asks : List Ask) (put last : List ℕ) : Type 0 where
  pub given : GivenRecord
  pub application : Application
  pub of_inputs : List Ask
  pub of_store : List Ask
  pub of_run : List Ask
  pub asks_are : asks ≡ of_inputs ++ of_store ++ of_run
  pub reads : InputsRead asked file of_inputs (Ok given)
  pub opens : OpenedBy asked given of_store (Ok application)
  pub stops : Stops asked given application of_run put last
