-- What `boot` asks, as what `run` asks over the kits.
use Rattle.std.proofs.Common.{◌≡◌, ℕ, List, [], ◌∷◌, ◌++◌, Option, Some, Result, Ok, Err, refl, sym, ap, subst, ◌∙◌, append_assoc}
use Rattle.std.proofs.lemmas.List.{append-nil}
use Rattle.std.proofs.lemmas.Grind.{flat_map-append}
use Rattle.std.specs.Prelude.{IsSome}
use Rattle.sed_engine.specs.Code.{Meaning as Code}
use Rattle.sed_engine.specs.Program.{meaning_of}
use Rattle.sed_typed.specs.declared.program.Program.{Program}
use Rattle.comp_tree.specs.Application.{Application}
use Rattle.dasp_session.specs.declared.user.User.{User}
use Rattle.disk_model.specs.declared.disk.Disk.{Ghosts as DiskGhosts}
use Rattle.sed_outside.specs.Files.{Contents}
use Rattle.sed_outside.specs.Reads.{AreGiven, CountsMoved, HasReads, failed_name, failed_names}
use Rattle.sed_outside.specs.Steps.{Read, AndThen, Decides, stops, goes_on}
use Rattle.sed_outside.specs.declared.files.Files.{Ghosts as FileGhosts}
use Rattle.sed_outside.specs.declared.clock.Clock.{Ghosts as ClockGhosts}
use Rattle.sed_outside.specs.declared.link.Link.{Ghosts as LinkGhosts}
use Rattle.sedona_words.specs.Command.{NodeAsked, OfImage, OfKits, RunAsked}
use Rattle.sedona_cli.specs.Given.{Given}
use Rattle.sedona_cli.specs.declared.refusal.Refusal.{Refusal}
use Rattle.sedona_cli.specs.Outside.{Ask, Ran, Reads, read_of, reads_in, of_reads, AreAsked}
use Rattle.sedona_cli.specs.Run.{AsksLive, unasked, unbound, unready, all_done, BindsAndLives, LinkBound, Lives, RunComes, RunInputsRead, RunOpened, RunsKept, RunsLive}
use Rattle.sedona_cli.specs.Steps.{AfterCode, AfterSecret, AfterUsers, KitsGenerated}
use Rattle.sedona_cli.proofs.Asking.{asked_behind, both_asked, reads_asked, reads_of_reads}
use Rattle.sedona_cli.proofs.Ends.{ok_err}
use Rattle.sedona_laws.specs.Booting.{over_kits}
use Rattle.sedona_laws.proofs.ImageRead.{reading}
use Rattle.sedona_laws.proofs.Joined.{first_joined, then_other}

-- what two rows of reads gave, one behind the other
both_given : (known : Option Contents) (front back : List Read) → AreGiven known front → AreGiven known back
    → AreGiven known (front ++ back)
both_given known [] back first second = second
both_given known (read ∷ front) back first second = (first.0, both_given known front back first.1 second)

-- ---- behind the code

-- the users and the secret, with a code that is read
abbrev pub RestRead : NodeAsked → Code → List Ask → Result Given Refusal → Type 0
RestRead node code =
    AndThen (AfterUsers node.users) (λ (users : List User).
    AndThen (AfterSecret node.secret) (λ (secret : List ℕ).
    Decides (λ end. end ≡ Ok (record { code = code; users = users; secret = secret }))))

-- and then the store and the run
abbrev pub RestOpened : RunAsked → Given → List Ask → Result (List ℕ) Refusal → Type 0
RestOpened asked given = AndThen (RunOpened asked.node given) (BindsAndLives asked given)

abbrev pub RestComes : RunAsked → Code → List Ask → Result (List ℕ) Refusal → Type 0
RestComes asked code = AndThen (RestRead asked.node code) (RestOpened asked)

same_given : (a b : Given) → ◌≡◌ {A = Result Given Refusal} (Ok a) (Ok b) → a ≡ b
same_given a b same = cc

pub given_code : (node : NodeAsked) (code : Code) (asks : List Ask) (given : Given) → RestRead node code asks (Ok given) → given.code ≡ code
given_code node code asks given (stops r h e) = absurd (ok_err given r e)
given_code node code asks given (goes_on f b users parts h (stops r k e)) = absurd (ok_err given r e)
given_code node code asks given (goes_on f b users parts h (goes_on g d secret more k last)) =
    ap (λ (i : Given). i.code) (same_given given (record { code = code; users = users; secret = secret }) last.holds)

-- ---- over the kits

module _ (names : List (List ℕ)) (asked : RunAsked) where
  lives_over : (given : Given) (a : Application) (asks : List Ask) (end : Result (List ℕ) Refusal) → Lives asked given a asks end → Lives (over_kits names asked) given a asks end
  lives_over given a asks end h = record { moment = h.moment; ran = h.ran; is_run = h.is_run; asks_are = h.asks_are; end_is = h.end_is }

  bound_over : (given : Given) (a : Application) (asks : List Ask) (end : Result (List ℕ) Refusal) → BindsAndLives asked given a asks end → BindsAndLives (over_kits names asked) given a asks end
  bound_over given a asks end h = then_other (LinkBound asked.port) (λ (u : Unit {0}). Lives asked given a) (λ (u : Unit {0}). Lives (over_kits names asked) given a) (λ u. lives_over given a) asks end h

  opened_over : (given : Given) (asks : List Ask) (end : Result (List ℕ) Refusal) → RestOpened asked given asks end → RestOpened (over_kits names asked) given asks end
  opened_over given asks end h = then_other (RunOpened asked.node given) (BindsAndLives asked given) (BindsAndLives (over_kits names asked) given) (bound_over given) asks end h

  rest_over : (code : Code) (asks : List Ask) (end : Result (List ℕ) Refusal) → RestComes asked code asks end → RestComes (over_kits names asked) code asks end
  rest_over code asks end h = then_other (RestRead asked.node code) (RestOpened asked) (RestOpened (over_kits names asked)) opened_over asks end h

  -- the code of the kits, by their reads
  kits_code : (reads : List Read) (program : Program) → KitsGenerated names reads (Ok program) → AfterCode (OfKits names) (of_reads reads) (Ok (meaning_of program))
  kits_code reads program made = goes_on (of_reads reads) [] program (sym (append-nil (of_reads reads))) (reads, refl, made) (record { none = refl; holds = refl })

  -- the inputs of a node over the kits
  pub inputs_over : (reads : List Read) (program : Program) (asks : List Ask) (given : Given) → KitsGenerated names reads (Ok program) → RestRead asked.node (meaning_of program) asks (Ok given)
      → RunInputsRead (over_kits names asked).node (of_reads reads ++ asks) (Ok given)
  inputs_over reads program asks given made rest = goes_on (of_reads reads) asks (meaning_of program) refl (kits_code reads program made) rest

  -- all that it comes to
  pub run_over : (reads : List Read) (program : Program) (asks : List Ask) (end : Result (List ℕ) Refusal) → KitsGenerated names reads (Ok program) → RestComes asked (meaning_of program) asks end
      → RunComes (over_kits names asked) (of_reads reads ++ asks) end
  run_over reads program asks end made rest =
      first_joined (AfterCode (OfKits names)) (RestRead asked.node) (RestOpened (over_kits names asked)) (of_reads reads ++ asks) end
      (goes_on (of_reads reads) asks (meaning_of program) refl (kits_code reads program made) (rest_over (meaning_of program) asks end rest))

  -- a run of the node is one of the node over the kits
  module _ {T U V : Type 0} (D : DiskGhosts T) (L : LinkGhosts U) (C : ClockGhosts V) (before after : Option (List ℕ)) (status : ℕ) (link link_now : U) (clock clock_now : V) where
    live_over : (code : Code) (users : List User) (secret : List ℕ) (a : Application) (ran : Ran)
        → RunsLive L C asked code users secret a ran before after status link link_now clock clock_now → RunsLive L C (over_kits names asked) code users secret a ran before after status link link_now clock clock_now
    live_over code users secret a ran h = record {
      moment = h.moment;
      moment_is = h.moment_is;
      is_run = h.is_run;
      rounds = h.rounds;
      rounds_are = h.rounds_are;
      shows = h.shows;
      sents = h.sents;
      texts = h.texts;
      offered_are = h.offered_are;
      sleeps = h.sleeps;
      left = h.left;
    }

    pub kept_over : (given : Given) (disk disk_now : T) → RunsKept D L C asked given before after status link link_now clock clock_now disk disk_now
        → RunsKept D L C (over_kits names asked) given before after status link link_now clock clock_now disk disk_now
    kept_over given disk disk_now h = record {
      application = h.application;
      ran = h.ran;
      live = live_over given.code given.users given.secret h.application h.ran h.live;
      store = h.store;
      payload = h.payload;
      asks_are = h.asks_are;
    }

-- ---- what was asked of files and of a disk

-- the reads of the kits, and then those among the rest
pub reads_over : (kit_reads : List Read) (rest : List Ask) → reads_in (of_reads kit_reads ++ rest) ≡ kit_reads ++ reads_in rest
reads_over kit_reads rest = flat_map-append read_of (of_reads kit_reads) rest ∙ ap (λ (l : List Read). l ++ reads_in rest) (reads_of_reads kit_reads)

pub asked_over : {T : Type 0} (D : DiskGhosts T) (one : Read) (kit_reads : List Read) (asks rest : List Ask) (d e : T) → asks ≡ Reads one ∷ rest → AreAsked D asks d e → AreAsked D (of_reads kit_reads ++ rest) d e
asked_over D one kit_reads asks rest d e is asked =
    both_asked D (of_reads kit_reads) rest d d e (reads_asked D kit_reads d) (asked_behind D (one ∷ []) rest d e (subst (λ (l : List Ask). AreAsked D l d e) is asked))

-- the names of the reads that failed stay
names_over : (file text : List ℕ) (kit_reads others reads : List Read) → reads ≡ reading file (Some text) ∷ others → failed_names kit_reads ≡ [] → failed_names reads ≡ failed_names (kit_reads ++ others)
names_over file text kit_reads others reads are none =
    ap failed_names are ∙ sym (flat_map-append failed_name kit_reads others ∙ ap (λ (l : List (List ℕ)). l ++ failed_names others) none)

pub has_over : {S : Type 0} (F : FileGhosts S) (x y : S) (file text : List ℕ) (kit_reads others : List Read) (P Q : List Read → Type 0) (has : HasReads F x y P) → has.reads ≡ reading file (Some text) ∷ others
    → AreGiven (F.known x) kit_reads → failed_names kit_reads ≡ [] → Q (kit_reads ++ others) → HasReads F x y Q
has_over F x y file text kit_reads others P Q has are given none holds = record {
  reads = kit_reads ++ others;
  given = both_given (F.known x) kit_reads others given (subst (λ (l : List Read). AreGiven (F.known x) l) are has.given).1;
  counts = subst (λ (names : List (List ℕ)). CountsMoved (IsSome (F.known x)) (F.failed_reads x) (F.failed_reads y) names) (names_over file text kit_reads others has.reads are none) has.counts;
  holds = holds;
  files = has.files;
  writes = has.writes;
}

-- ---- what was asked of the link and the clock

pub live_as : {U V : Type 0} (L : LinkGhosts U) (C : ClockGhosts V) (port status : ℕ) (link link_now : U) (clock clock_now : V) (P Q : Type 0) → (P → Q)
    → AsksLive L C port status link link_now clock clock_now P → AsksLive L C port status link link_now clock clock_now Q
live_as L C port status link link_now clock clock_now P Q map (unasked not same still) = unasked not same still
live_as L C port status link link_now clock clock_now P Q map (unbound ten bind untaken rose polls polled offered still) = unbound ten bind untaken rose polls polled offered still
live_as L C port status link link_now clock clock_now P Q map (unready seven bind taken silent) = unready seven bind taken silent
live_as L C port status link link_now clock clock_now P Q map (all_done at bind taken so) = all_done at bind taken (map so)
