-- What `run` and `boot` come to, and what they leave.
use Rattle.std.specs.Prelude.{◌≡◌, ◌⊎◌, ℕ, ℤ, Bool, true, false, List, [], ◌∷◌, Option, Some, None, IfSome, Result}
use Rattle.std.specs.Prelude.{Ok, Err}
use Rattle.std.specs.Option.{option_map}
use Rattle.sed_outside.specs.Cause.{Rose}
use Rattle.sed_outside.specs.Sink.{PutsFront, with_text}
use Rattle.sed_outside.specs.declared.files.Files.{Ghosts as FileGhosts}
use Rattle.sed_outside.specs.Clock.{Moments, later_moments, next_moment}
use Rattle.sed_outside.specs.Counts.{one_more}
use Rattle.sed_outside.specs.Link.{Bound, Binds as IsBind}
use Rattle.sed_outside.specs.Rounds.{LiveCycle, polls_at}
use Rattle.sed_outside.specs.Told.{AddsWhereTold}
use Rattle.sed_outside.specs.declared.clock.Clock.{Ghosts as ClockGhosts}
use Rattle.sed_outside.specs.declared.link.Link.{Ghosts as LinkGhosts}
use Rattle.disk_model.specs.Disk.{Meaning}
use Rattle.disk_model.specs.declared.disk.Disk.{Ghosts as DiskGhosts}
use Rattle.sed_engine.specs.Code.{Meaning as Code}
use Rattle.comp_tree.specs.Application.{Application}
use Rattle.app_file.specs.Opens.{Opens as OpensTo}
use Rattle.dasp_session.specs.declared.user.User.{User}
use Rattle.dasp_session.specs.Outbox.{Datagram}
use Rattle.sed_node.specs.Living.{AreRounds, AreTextsByEvent, IsLeft, Sleeps, offers}
use Rattle.sed_node.specs.Replaying.{end_text}
use Rattle.sed_outside.specs.Steps.{AndThen, Decides}
use Rattle.sed_outside.specs.Reads.{HasReads}
use Rattle.sedona_cli.specs.Given.{Given}
use Rattle.sedona_cli.specs.declared.refusal.Refusal.{Refusal}
use Rattle.sedona_cli.specs.declared.refusal.Refusal.TheVariants.{LinkFault}
use Rattle.sedona_words.specs.Command.{NodeAsked, RunAsked}
use Rattle.sedona_cli.specs.Lines.{line_of, memory_line}
use Rattle.sedona_cli.specs.Nodes.{IsRunFrom, LeavesStore, Opened}
use Rattle.sedona_cli.specs.Outside.{Ask, Attaches, Binds, Found, Opens, Ran, Runs, AreAsked, IsRan, of_reads, reached}
use Rattle.sedona_cli.specs.Outside.{sent_in}
use Rattle.sedona_cli.specs.Puts.{IsOneOf, Puts}
use Rattle.sedona_cli.specs.Steps.{AfterCode, AfterSecret, AfterUsers}

-- ---- what it asks, step by step

-- The kits are loaded, or the image is read, and then the users and the secret are read.
abbrev pub RunInputsRead : NodeAsked → List Ask → Result Given Refusal → Type 0
RunInputsRead asked =
    AndThen (AfterCode asked.code) (λ (code : Code).
    AndThen (AfterUsers asked.users) (λ (users : List User).
    AndThen (AfterSecret asked.secret) (λ (secret : List ℕ).
    Decides (λ end. end ≡ Ok (record { code = code; users = users; secret = secret })))))

-- The store that the words name is opened, over the code of the kits or of the image.
abbrev pub RunOpened : NodeAsked → Given → List Ask → Result Application Refusal → Type 0
RunOpened asked given = Opened asked.store asked.limit given.code

-- A port is taken, or the link fails.
abbrev pub LinkBound : ℕ → List Ask → Result (Unit {0}) Refusal → Type 0
LinkBound port asks (Ok done) = asks ≡ Binds port true ∷ []
LinkBound port asks (Err refusal) = (asks ≡ Binds port false ∷ []) × (refusal ≡ LinkFault)

-- A run of the node that begins at a moment with this application.
abbrev pub IsLiveRunOf : NodeAsked → Given → ℤ → Application → Ran → Type 0
IsLiveRunOf asked given moment = IsRunFrom moment asked.turns given.code given.users given.secret

-- The node is run, and what stands at the end of its run is printed: the application that was reached, and what the run
-- came to.
pub record Lives (asked : RunAsked) (given : Given) (a : Application) (asks : List Ask)
    (end : Result (List ℕ) Refusal) : Type 0 where
  pub moment : ℤ
  pub ran : Ran
  pub is_run : IsLiveRunOf asked.node given moment a ran
  pub asks_are : asks ≡ Runs ran ∷ []
  pub end_is : end ≡ Ok (end_text ran.code (reached ran))

-- It is run once the port is taken.
abbrev pub BindsAndLives : RunAsked → Given → Application → List Ask → Result (List ℕ) Refusal → Type 0
BindsAndLives asked given a = AndThen (LinkBound asked.port) (λ (bound : Unit {0}). Lives asked given a)

abbrev pub RunComes : RunAsked → List Ask → Result (List ℕ) Refusal → Type 0
RunComes asked =
    AndThen (RunInputsRead asked.node) (λ (given : Given).
    AndThen (RunOpened asked.node given) (BindsAndLives asked given))

-- ---- how it is answered

-- The end of a run was put, with status 0; or the sink failed, with status 8, and a front of it was put.
pub data EndsPut (text : List ℕ) (before after : Option (List ℕ)) (faults_before faults_after status : ℕ)
    : Type 0 where
  all_put : status ≡ 0 → after ≡ with_text before text → faults_after ≡ faults_before
      → EndsPut text before after faults_before faults_after status
  not_put : status ≡ 8 → Rose faults_before faults_after → PutsFront before after text
      → EndsPut text before after faults_before faults_after status

-- With its application: it was run; the link failed as its port was asked for; or memory was wanted behind that, and
-- nothing was run.
pub data AnswersLive (asked : RunAsked) (given : Given) (a : Application) (asks : List Ask)
    (before after : Option (List ℕ)) (faults_before faults_after status : ℕ) : Type 0 where
  was_run : (text : List ℕ) → BindsAndLives asked given a asks (Ok text)
      → EndsPut text before after faults_before faults_after status
      → AnswersLive asked given a asks before after faults_before faults_after status
  was_unbound : BindsAndLives asked given a asks (Err LinkFault) → status ≡ 10
      → Puts before after faults_before faults_after (line_of LinkFault)
      → AnswersLive asked given a asks before after faults_before faults_after status
  was_unready : asks ≡ Binds asked.port true ∷ [] → status ≡ 7
      → Puts before after faults_before faults_after memory_line
      → AnswersLive asked given a asks before after faults_before faults_after status

-- ---- what is asked of the link and the clock

-- the moments behind the opening one
abbrev pub behind_opening : Option Moments → Option Moments
behind_opening moments = option_map later_moments moments

-- No moment was asked of a clock, or the opening one, and no more.
abbrev pub AsksAtMostOne : {V : Type 0} → ClockGhosts V → V → V → Type 0
AsksAtMostOne C clock clock_now =
    ((C.moments clock_now ≡ C.moments clock) × (C.given clock_now ≡ C.given clock))
    ⊎ ((C.moments clock_now ≡ behind_opening (C.moments clock)) × (C.given clock_now ≡ one_more (C.given clock)))

-- No datagram was polled or offered, no sleep was asked, and no moment but at most the opening one.
pub record KeepsSilent {U V : Type 0} (L : LinkGhosts U) (C : ClockGhosts V) (link link_now : U) (clock clock_now : V)
    : Type 0 where
  pub polls : L.polls link_now ≡ L.polls link
  pub polled : L.polled link_now ≡ L.polled link
  pub offered : L.offered link_now ≡ L.offered link
  pub asked : C.asked clock_now ≡ C.asked clock
  pub moments : AsksAtMostOne C clock clock_now

-- The statuses of the refusals before the link, and those behind which its port was asked for.
abbrev pub before_link : List ℕ
before_link = 2 ∷ 3 ∷ 4 ∷ 5 ∷ 6 ∷ 9 ∷ 11 ∷ 12 ∷ []

abbrev pub at_link : List ℕ
at_link = 0 ∷ 8 ∷ 10 ∷ []

-- Where the link tells it, the port that was asked for last was taken, or was not.
abbrev pub WasTaken : Option Bound → Bool → Type 0
WasTaken bound was_taken = IfSome bound (λ last. last.taken ≡ was_taken)

-- A command with a port asks for it, once, exactly where the order comes to the link; with want of memory once or
-- never. Where all was done the port was taken, and with 10 it was not. Before the link it asks nothing of the link or
-- the clock. With want of memory, and where the port is not taken, it then hears and offers nothing, and asks for no
-- sleep; and where it is not taken, for no moment.
pub record BindsBy {U V : Type 0} (L : LinkGhosts U) (C : ClockGhosts V) (port status : ℕ) (link link_now : U)
    (clock clock_now : V) : Type 0 where
  pub never : IsOneOf before_link status → (link_now ≡ link) × (clock_now ≡ clock)
  pub once : IsOneOf at_link status → IsBind (L.bound link) (L.bound link_now) port
  pub at_most_once : status ≡ 7 → ((link_now ≡ link) × (clock_now ≡ clock))
      ⊎ (IsBind (L.bound link) (L.bound link_now) port × WasTaken (L.bound link_now) true)
  pub taken : IsOneOf (0 ∷ 8 ∷ []) status → WasTaken (L.bound link_now) true
  pub untaken : status ≡ 10 → WasTaken (L.bound link_now) false
  pub silent : IsOneOf (7 ∷ 10 ∷ []) status → KeepsSilent L C link link_now clock clock_now
  pub unasked : status ≡ 10 → clock_now ≡ clock

-- without a port it leaves both
abbrev pub AsksLink : {U V : Type 0} → LinkGhosts U → ClockGhosts V → Option ℕ → ℕ → U → U → V → V → Type 0
AsksLink L C None status link link_now clock clock_now = (link_now ≡ link) × (clock_now ≡ clock)
AsksLink L C (Some port) status link link_now clock clock_now = BindsBy L C port status link link_now clock clock_now

-- What was asked of the link and the clock: nothing, before the link was come to; the port, which was not taken; the
-- port, which was taken, and behind it memory was wanted; or all, and then this holds.
pub data AsksLive {U V : Type 0} (L : LinkGhosts U) (C : ClockGhosts V) (port status : ℕ) (link link_now : U)
    (clock clock_now : V) (Done : Type 0) : Type 0 where
  unasked : (IsOneOf at_link status → ⊥) → link_now ≡ link → clock_now ≡ clock
      → AsksLive L C port status link link_now clock clock_now Done
  unbound : status ≡ 10 → IsBind (L.bound link) (L.bound link_now) port → WasTaken (L.bound link_now) false
      → Rose (L.faults link) (L.faults link_now) → L.polls link_now ≡ L.polls link
      → L.polled link_now ≡ L.polled link → L.offered link_now ≡ L.offered link → clock_now ≡ clock
      → AsksLive L C port status link link_now clock clock_now Done
  unready : status ≡ 7 → IsBind (L.bound link) (L.bound link_now) port → WasTaken (L.bound link_now) true
      → KeepsSilent L C link link_now clock clock_now
      → AsksLive L C port status link link_now clock clock_now Done
  all_done : IsOneOf (0 ∷ 8 ∷ []) status → IsBind (L.bound link) (L.bound link_now) port
      → WasTaken (L.bound link_now) true → Done
      → AsksLive L C port status link link_now clock clock_now Done

-- ---- what it leaves

-- What is shown of a run is what stands at its end: all of it with status 0, and a front of it with status 8.
pub record ShowsEnd (ran : Ran) (before after : Option (List ℕ)) (status : ℕ) : Type 0 where
  pub front : PutsFront before after (end_text ran.code (reached ran))
  pub whole : status ≡ 0 → after ≡ with_text before (end_text ran.code (reached ran))

-- What a run over a link and a clock hears, offers and shows. The node began, at the next moment of the clock, with
-- this application. The entries of its run are those of so many cycles, each at most 16 datagrams and then a tick: over
-- the polls of the link, where these are told, and over the moments behind the opening one, where these are; and the
-- ones behind them are still to come. Each datagram that was sent was offered, in their order, and what an event sent
-- before the next poll; behind each cycle, before the next moment is asked, it slept until as many periods were over as
-- cycles were done, from the moment of the first tick on.
pub record RunsLive {U V : Type 0} (L : LinkGhosts U) (C : ClockGhosts V) (asked : RunAsked) (code : Code)
    (users : List User) (secret : List ℕ) (a : Application) (ran : Ran) (before after : Option (List ℕ)) (status : ℕ)
    (link link_now : U) (clock clock_now : V) : Type 0 where
  pub moment : ℤ
  pub moment_is : IfSome (C.moments clock) (λ to_come. moment ≡ next_moment to_come)
  pub is_run : IsRunFrom moment asked.node.turns code users secret a ran
  pub rounds : List LiveCycle
  pub rounds_are : AreRounds (L.polls link) (behind_opening (C.moments clock)) asked.cycles rounds ran.entries
  pub shows : ShowsEnd ran before after status
  pub sents : List (List Datagram)
  pub texts : AreTextsByEvent (sent_in ran) sents
  pub offered_are : AddsWhereTold (L.offered link) (L.offered link_now) (offers (polls_at (L.polled link) rounds) sents)
  pub sleeps : Sleeps (behind_opening (C.moments clock)) (one_more (C.given clock)) asked.cycles asked.period
      (C.asked clock) (C.asked clock_now)
  pub left : IsLeft asked.cycles (L.polls link) (L.polls link_now) (behind_opening (C.moments clock))
      (C.moments clock_now)

-- So it runs from a node that is ready, with the clock as it is behind the opening moment.
pub record RunsReady {T U V : Type 0} (D : DiskGhosts T) (L : LinkGhosts U) (C : ClockGhosts V) (moment : ℤ)
    (turns : ℕ) (code : Code) (users : List User) (secret : List ℕ) (a : Application) (cycles : ℕ)
    (before after : Option (List ℕ)) (faults_before faults_after status : ℕ) (link link_now : U) (clock : V)
    (disk disk_now : T) : Type 0 where
  pub ran : Ran
  pub is_run : IsRunFrom moment turns code users secret a ran
  pub is_ran : IsRan D.meaning ran disk disk_now
  pub rounds : List LiveCycle
  pub rounds_are : AreRounds (L.polls link) (C.moments clock) cycles rounds ran.entries
  pub puts : EndsPut (end_text ran.code (reached ran)) before after faults_before faults_after status
  pub sents : List (List Datagram)
  pub texts : AreTextsByEvent (sent_in ran) sents
  pub offered_are : AddsWhereTold (L.offered link) (L.offered link_now) (offers (polls_at (L.polled link) rounds) sents)

-- So it runs on a disk, with an application that is given.
pub record RunsOn {T U V : Type 0} (D : DiskGhosts T) (L : LinkGhosts U) (C : ClockGhosts V) (asked : RunAsked)
    (code : Code) (users : List User) (secret : List ℕ) (a : Application) (before after : Option (List ℕ)) (status : ℕ)
    (link link_now : U) (clock clock_now : V) (disk disk_now : T) : Type 0 where
  pub ran : Ran
  pub is_ran : IsRan D.meaning ran disk disk_now
  pub live : RunsLive L C asked code users secret a ran before after status link link_now clock clock_now

-- So it runs on the application that its store opens to. Of the disk this run was asked, and nothing but the opening of
-- its store before it.
pub record RunsKept {T U V : Type 0} (D : DiskGhosts T) (L : LinkGhosts U) (C : ClockGhosts V) (asked : RunAsked)
    (given : Given) (before after : Option (List ℕ)) (status : ℕ) (link link_now : U) (clock clock_now : V)
    (disk disk_now : T) : Type 0 where
  pub application : Application
  pub ran : Ran
  pub live : RunsLive L C asked given.code given.users given.secret application ran before after status link link_now
      clock clock_now
  pub store : LeavesStore asked.node.limit application ran (D.meaning disk) (D.meaning disk_now)
  pub payload : List ℕ
  pub asks_are : AreAsked D (Attaches asked.node.store true ∷ Opens (Found payload) ∷ Runs ran ∷ []) disk disk_now

-- So it is with what the files gave.
abbrev pub RanBy : {S T U V : Type 0} → FileGhosts S → DiskGhosts T → LinkGhosts U → ClockGhosts V → RunAsked → S → S
    → U → U → V → V → T → T → Option (List ℕ) → Option (List ℕ) → ℕ → Type 0
RanBy F D L C asked files files_now link link_now clock clock_now disk disk_now before after status =
    HasReads F files files_now (λ reads. (given : Given)
    × RunInputsRead asked.node (of_reads reads) (Ok given)
    × RunsKept D L C asked given before after status link link_now clock clock_now disk disk_now)

-- The store's file opens to no application over the code of the kits or of the image.
abbrev pub RunsNone : {S : Type 0} → FileGhosts S → NodeAsked → S → S → Meaning → Type 0
RunsNone F asked files files_now disk =
    HasReads F files files_now (λ reads. (given : Given) × RunInputsRead asked (of_reads reads) (Ok given)
    × ((a : Application) → OpensTo given.code asked.limit disk.content a → ⊥))
