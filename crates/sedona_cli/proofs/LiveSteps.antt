-- The steps of `run`, put together from what its calls did.
use Rattle.std.proofs.Common.{◌≡◌, ℕ, ℤ, Bool, true, false, List, [], ◌∷◌, ◌++◌, Option, Some, Result, Ok, Err, inl, inr, refl, sym, subst, ◌∙◌, arith}
use Rattle.std.specs.Prelude.{IfSome, IsTrue, MatchBool, is_ok}
use Rattle.std.specs.Option.{option_map}
use Rattle.sed_outside.specs.declared.files.Files.{Ghosts as FileGhosts}
use Rattle.sed_outside.specs.declared.sink.Sink.{Ghosts as Sinks}
use Rattle.sed_outside.specs.declared.sink.SinkFault.{SinkFault}
use Rattle.sed_outside.specs.Clock.{Moments, later_moments, next_moment}
use Rattle.sed_outside.specs.Counts.{one_more}
use Rattle.sed_outside.specs.Link.{Bound, Binds as IsBind}
use Rattle.sed_outside.specs.Rounds.{polls_at}
use Rattle.sed_outside.specs.Told.{AddsWhereTold, Told}
use Rattle.sed_outside.specs.declared.clock.Clock.{Ghosts as ClockGhosts}
use Rattle.sed_outside.specs.declared.link.Link.{Ghosts as LinkGhosts}
use Rattle.sed_outside.specs.declared.offer.Offer.{Offer}
use Rattle.sed_outside.specs.declared.polling.Polling.{Polling}
use Rattle.sed_outside.specs.declared.sleep.Sleep.{Sleep}
use Rattle.disk_model.specs.Disk.{Elapses}
use Rattle.disk_model.specs.declared.disk.Disk.{Ghosts as DiskGhosts}
use Rattle.app_file.specs.Reading.{IsFile}
use Rattle.app_save.specs.Saving.{AllStores}
use Rattle.comp_tree.specs.Application.{Application}
use Rattle.dasp_session.specs.declared.user.User.{User}
use Rattle.sed_outside.specs.Steps.{Read, AndThen, Decides, stops, goes_on, UnlessFree}
use Rattle.sed_outside.specs.Reads.{HasReads}
use Rattle.sed_outside.proofs.Joining.{same_reads}
use Rattle.node_events.specs.Node.{Node, opened}
use Rattle.sed_node.specs.LiveText.{LivedThrough}
use Rattle.sed_node.specs.Replaying.{end_text}
use Rattle.printed_app.specs.Puts.{Puts as PutsText}
use Rattle.sed_engine.specs.declared.engine.Engine.{Ghosts}
use Rattle.sed_engine.specs.Code.{Meaning as Code}
use Rattle.sed_node.specs.Living.{AreRounds, IsLeft, Sleeps, offers}
use Rattle.sed_node.specs.Standing.{code_of, is_fixed, setup_of}
use Rattle.sed_node.specs.declared.kept.Kept.{Kept}
use Rattle.sedona_cli.specs.Given.{Given}
use Rattle.sedona_cli.specs.declared.refusal.Refusal.{Refusal}
use Rattle.sedona_cli.specs.declared.refusal.Refusal.TheVariants.{FileFault, ImageBroken, ImageRefused, MethodTooLong, Refused, Rule, SlotTooSmall, DeviceFault, StoreExists, NoStore, NoApplication, WrongKits, OverLimit, BadUsers, ShortSecret, BadRecord, LinkFault, Memory}
use Rattle.sedona_words.specs.Command.{NodeAsked, Run, RunAsked}
use Rattle.sedona_cli.specs.Lines.{line_of, memory_line}
use Rattle.sedona_cli.specs.Nodes.{IsReady, IsRunFrom, Opened}
use Rattle.sedona_cli.specs.Outside.{Ask, Attaches, Binds, Opens, Runs, Found, of_reads, reached, reads_in, AreAsked, AsksDisk, HasAsks, Spares}
use Rattle.sedona_cli.specs.Program.{ComesOrWants, IsAnswer, done, unput, refused, wanted, OrWants}
use Rattle.sedona_cli.specs.Puts.{IsOneOf, Puts}
use Rattle.sedona_cli.specs.Refusals.{is_want, is_worded}
use Rattle.sedona_cli.specs.Run.{AnswersLive, was_run, was_unbound, was_unready, AsksLive, unasked, unbound, unready, all_done, EndsPut, all_put, not_put, Lives, RanBy, RunComes, RunInputsRead, RunOpened, RunsKept, RunsLive, RunsOn, RunsReady, ShowsEnd, WasTaken, at_link}
use Rattle.sedona_cli.specs.Steps.{AfterCode, AfterSecret, AfterUsers}
use Rattle.sedona_cli.proofs.Ran.{OpensOnce}
use Rattle.sedona_cli.proofs.Asking.{both_asked, both_disk, only_reads, reads_asked, reads_before, reads_spare, same_disk, spares_behind}
use Rattle.sedona_cli.proofs.Building.{match_both}
use Rattle.sedona_cli.proofs.LiveAsked.{run_inputs_alone}
use Rattle.sedona_cli.proofs.Puts.{put_rose, put_steady, whole_front}
use Rattle.sedona_cli.proofs.Ran.{HeldRun, IsLawful, leaves_store}
use Rattle.sedona_cli.proofs.ReplayAsked.{of_open, opened_to}
use Rattle.sedona_cli.proofs.ReplaySteps.{reads_end, reads_go, reads_stop}
use Rattle.sedona_cli.proofs.StoreAsked.{last_behind, of_refusal}
use Rattle.sedona_cli.proofs.EarlyEnds.{early_link, store_link}

-- ---- what is read of the words of a node

-- what stands behind each of its files
abbrev OfSecret : Code → List User → List ℕ → List Ask → Result Given Refusal → Type 0
OfSecret p u s = Decides (λ (end : Result Given Refusal). end ≡ Ok (record { code = p; users = u; secret = s }))

abbrev OfUsers : NodeAsked → Code → List User → List Ask → Result Given Refusal → Type 0
OfUsers node p u = AndThen (AfterSecret node.secret) (OfSecret p u)

abbrev OfCode : NodeAsked → Code → List Ask → Result Given Refusal → Type 0
OfCode node p = AndThen (AfterUsers node.users) (OfUsers node p)

abbrev Reads : {T X : Type 0} → FileGhosts T → T → T → (List Ask → Result X Refusal → Type 0) → Result X Refusal → Type 0
Reads F a b S end = HasReads F a b (λ reads. UnlessFree is_want (S (of_reads reads)) end)

module _ {T : Type 0} (F : FileGhosts T) (node : NodeAsked) (x0 x1 : T) (code : Result Code Refusal) (read_code : Reads F x0 x1 (AfterCode node.code) code) where
  pub run_code_refused : (r : Refusal) → code ≡ Err r → Reads F x0 x1 (RunInputsRead node) (Err r)
  run_code_refused r is = reads_stop F x0 x1 (AfterCode node.code) (OfCode node) code r is read_code

  module _ (p : Code) (is_code : code ≡ Ok p) (x2 : T) (users : Result (List User) Refusal) (read_users : Reads F x1 x2 (AfterUsers node.users) users) where
    pub run_users_refused : (r : Refusal) → users ≡ Err r → Reads F x0 x2 (RunInputsRead node) (Err r)
    run_users_refused r is =
        reads_go F x0 x1 x2 (AfterCode node.code) (OfCode node) code p (Err r) is_code read_code
        (reads_stop F x1 x2 (AfterUsers node.users) (OfUsers node p) users r is read_users)

    module _ (u : List User) (is_users : users ≡ Ok u) (x3 : T) (secret : Result (List ℕ) Refusal) (read_secret : Reads F x2 x3 (AfterSecret node.secret) secret) where
      pub run_secret_refused : (r : Refusal) → secret ≡ Err r → Reads F x0 x3 (RunInputsRead node) (Err r)
      run_secret_refused r is =
          reads_go F x0 x1 x3 (AfterCode node.code) (OfCode node) code p (Err r) is_code read_code
          (reads_go F x1 x2 x3 (AfterUsers node.users) (OfUsers node p) users u (Err r) is_users read_users
          (reads_stop F x2 x3 (AfterSecret node.secret) (OfSecret p u) secret r is read_secret))

      pub run_all_read : (s : List ℕ) → secret ≡ Ok s → Reads F x0 x3 (RunInputsRead node) (Ok (record { code = p; users = u; secret = s }))
      run_all_read s is =
          reads_go F x0 x1 x3 (AfterCode node.code) (OfCode node) code p (Ok given) is_code read_code
          (reads_go F x1 x2 x3 (AfterUsers node.users) (OfUsers node p) users u (Ok given) is_users read_users
          (reads_go F x2 x3 x3 (AfterSecret node.secret) (OfSecret p u) secret s (Ok given) is read_secret (reads_end F x3 given)))
        where
          given : Given
          given = record { code = p; users = u; secret = s }

-- ---- a node that is ready is run

-- what stands at its end was put
pub end_put : {O : Type 0} (o : Sinks O) (out out_now : O) (text : List ℕ) (r : Result (Unit {0}) SinkFault) (u : Unit {0}) → r ≡ Ok u → PutsText o out out_now text r
    → EndsPut text (o.text out) (o.text out_now) (o.faults out) (o.faults out_now) 0
end_put o out out_now text (Ok v) u is puts = all_put refl puts.done (put_steady (o.faults out) (o.faults out_now) (Ok v) u is puts.cause)
end_put o out out_now text (Err fault) u is puts = absurd (cc)

-- the sink failed it
pub end_unput : {O : Type 0} (o : Sinks O) (out out_now : O) (text : List ℕ) (r : Result (Unit {0}) SinkFault) (f : SinkFault) → r ≡ Err f → PutsText o out out_now text r
    → EndsPut text (o.text out) (o.text out_now) (o.faults out) (o.faults out_now) 8
end_unput o out out_now text (Ok v) f is puts = absurd (cc)
end_unput o out out_now text (Err fault) f is puts = not_put refl (put_rose (o.faults out) (o.faults out_now) (Err fault) f is puts.cause) puts.front

module _ {E T U V O : Type 0} (g : Ghosts E) (o : Sinks O) (D : DiskGhosts T) (L : LinkGhosts U) (C : ClockGhosts V) (moment : ℤ) (turns : ℕ) (code : Code) (users : List User) (secret : List ℕ) (a : Application) (kept now : Kept E)
    (ready : IsReady g moment turns code users secret a kept) (cycles : ℕ) (link link_now : U) (clock : V) (out out_now : O) (d e : T) (time : Elapses (D.meaning d) (D.meaning e)) (attached : (D.meaning e).attached ≡ (D.meaning d).attached)
    (slots : IsTrue (D.meaning d).tells → AllStores (setup_of kept).slot (D.meaning d)) (stores : IsTrue (D.meaning d).tells → AllStores (setup_of kept).slot (D.meaning e)) where
  -- where it begins
  abbrev start : Node
  start = opened code (setup_of kept) a users secret moment

  abbrev IsLived : Bool → Code → Result (Unit {0}) SinkFault → Type 0
  IsLived fixed m r = LivedThrough g o D.meaning fixed m (setup_of kept) now start (L.polls link) (C.moments clock) cycles (L.polled link) (L.offered link) (L.offered link_now) out out_now d e r

  abbrev IsRunReady : ℕ → Type 0
  IsRunReady status = RunsReady D L C moment turns code users secret a cycles (o.text out) (o.text out_now) (o.faults out) (o.faults out_now) status link link_now clock d e

  runs_ready : (status : ℕ) (r : Result (Unit {0}) SinkFault) → (l : IsLived true code r)
      → EndsPut (end_text code (reached (record { code = code; setup = setup_of kept; start = start; entries = l.entries; events = l.events }))) (o.text out) (o.text out_now) (o.faults out) (o.faults out_now) status
      → IsRunReady status
  runs_ready status r l put = record {
    ran = record { code = code; setup = setup_of kept; start = start; entries = l.entries; events = l.events };
    is_run = record { code = refl; turns = ready.turns_are; start = refl };
    is_ran = record {
      time = time;
      attached = attached;
      slots = slots;
      stores = stores;
      comes = l.runs.comes;
      saved = l.runs.disk;
      files = l.runs.files;
      crashes = l.runs.crashes;
    };
    rounds = l.rounds;
    rounds_are = l.rounds_are;
    puts = put;
    sents = l.sents;
    texts = l.texts;
    offered_are = l.offered_are;
  }

  as_ready : (r : Result (Unit {0}) SinkFault) → IsLived (is_fixed g kept) (code_of g kept) r → IsLived true code r
  as_ready r l = subst (λ (b : Bool). IsLived b code r) ready.fixed (subst (λ (m : Code). IsLived (is_fixed g kept) m r) ready.code_is l)

  pub runs_done : (r : Result (Unit {0}) SinkFault) (u : Unit {0}) → r ≡ Ok u → IsLived (is_fixed g kept) (code_of g kept) r → IsRunReady 0
  runs_done r u is l = let lived = as_ready r l in runs_ready 0 r lived (end_put o out out_now _ r u is lived.puts)

  pub runs_stopped : (r : Result (Unit {0}) SinkFault) (f : SinkFault) → r ≡ Err f → IsLived (is_fixed g kept) (code_of g kept) r → IsRunReady 8
  runs_stopped r f is l = let lived = as_ready r l in runs_ready 8 r lived (end_unput o out out_now _ r f is lived.puts)

-- ---- with an application

-- a call that asked for a port tells so whether it was taken
pub so_taken : {E : Type 0} (bound : Option Bound) (r : Result (Unit {0}) E) (was_taken : Bool) → is_ok r ≡ was_taken → WasTaken bound (is_ok r) → WasTaken bound was_taken
so_taken bound r was_taken is told = subst (λ (b : Bool). WasTaken bound b) is told

-- the port was not taken
pub answers_unbound : {T : Type 0} (D : DiskGhosts T) (asked : RunAsked) (i : Given) (a : Application) (before after : Option (List ℕ)) (fb fa status : ℕ) (d : T)
    → (status ≡ of_refusal LinkFault) × Puts before after fb fa (line_of LinkFault) → AsksDisk D d d (λ asks. AnswersLive asked i a asks before after fb fa status)
answers_unbound D asked i a before after fb fa status d (ten, puts) = record {
  asks = Binds asked.port false ∷ [];
  unread = refl;
  asked = (d, refl, refl);
  holds = was_unbound (stops LinkFault (refl, refl) refl) ten puts;
}

-- want of memory takes none for its line
pub as_memory : (before after : Option (List ℕ)) (fb fa status : ℕ) (r : Refusal) → r ≡ Memory → (is_worded r ≡ false → (status ≡ of_refusal r) × Puts before after fb fa (line_of r))
    → (status ≡ of_refusal Memory) × Puts before after fb fa memory_line
as_memory before after fb fa status r is plain =
    subst (λ (x : Refusal). is_worded x ≡ false → (status ≡ of_refusal x) × Puts before after fb fa (line_of x)) is plain refl

-- memory was wanted behind it
pub answers_unready : {T : Type 0} (D : DiskGhosts T) (asked : RunAsked) (i : Given) (a : Application) (before after : Option (List ℕ)) (fb fa status : ℕ) (d : T)
    → (status ≡ of_refusal Memory) × Puts before after fb fa memory_line → AsksDisk D d d (λ asks. AnswersLive asked i a asks before after fb fa status)
answers_unready D asked i a before after fb fa status d (seven, puts) = record {
  asks = Binds asked.port true ∷ [];
  unread = refl;
  asked = (d, refl, refl);
  holds = was_unready refl seven puts;
}

module _ {T U V : Type 0} (D : DiskGhosts T) (L : LinkGhosts U) (C : ClockGhosts V) (asked : RunAsked) (moment : ℤ) (code : Code) (users : List User) (secret : List ℕ) (a : Application)
    (before after : Option (List ℕ)) (fb fa status : ℕ) (link bound link_now : U) (clock begun clock_now : V) (d e : T)
    (r : RunsReady D L C moment asked.node.turns code users secret a asked.cycles before after fb fa status bound link_now begun d e) where
  -- as it is asked
  pub answers_run : (i : Given) → code ≡ i.code → users ≡ i.users → secret ≡ i.secret → AsksDisk D d e (λ asks. AnswersLive asked i a asks before after fb fa status)
  answers_run i is_code are_users is_secret = record {
    asks = Binds asked.port true ∷ Runs r.ran ∷ [];
    unread = refl;
    asked = (d, refl, (e, r.is_ran, refl));
    holds = was_run (end_text r.ran.code (reached r.ran)) (goes_on (Binds asked.port true ∷ []) (Runs r.ran ∷ []) tt refl refl lives) r.puts;
  }
    where
      lives : Lives asked i a (Runs r.ran ∷ []) (Ok (end_text r.ran.code (reached r.ran)))
      lives = record {
        moment = moment;
        ran = r.ran;
        is_run = subst (λ (s : List ℕ). IsRunFrom moment asked.node.turns i.code i.users s a r.ran) is_secret
            (subst (λ (u : List User). IsRunFrom moment asked.node.turns i.code u secret a r.ran) are_users
            (subst (λ (m : Code). IsRunFrom moment asked.node.turns m users secret a r.ran) is_code r.is_run));
        asks_are = refl;
        end_is = refl;
      }

  ends_so : EndsPut (end_text r.ran.code (reached r.ran)) before after fb fa status → IsOneOf (0 ∷ 8 ∷ []) status
  ends_so (all_put is put steady) = inl is
  ends_so (not_put is rose front) = inr (inl is)

  shows_so : EndsPut (end_text r.ran.code (reached r.ran)) before after fb fa status → ShowsEnd r.ran before after status
  shows_so (all_put is put steady) = record { front = whole_front before after (end_text r.ran.code (reached r.ran)) put; whole = λ nought. put }
  shows_so (not_put is rose front) = record { front = front; whole = λ nought. absurd (omega (arith, is, nought)) }

  -- as it is told of the link and the clock
  pub asks_run : IsBind (L.bound link) (L.bound bound) asked.port → WasTaken (L.bound bound) true → L.polls bound ≡ L.polls link → L.polled bound ≡ L.polled link → L.offered bound ≡ L.offered link
      → IfSome (C.moments clock) (λ to_come. moment ≡ next_moment to_come) → C.moments begun ≡ option_map later_moments (C.moments clock) → C.given begun ≡ one_more (C.given clock) → C.asked begun ≡ C.asked clock
      → L.bound link_now ≡ L.bound bound
      → Sleeps (C.moments begun) (C.given begun) asked.cycles asked.period (C.asked begun) (C.asked clock_now)
      → IsLeft asked.cycles (L.polls bound) (L.polls link_now) (C.moments begun) (C.moments clock_now)
      → AsksLive L C asked.port status link link_now clock clock_now (RunsOn D L C asked code users secret a before after status link link_now clock clock_now d e)
  asks_run bind taken polls polled offered now later given slept kept sleeps left =
      all_done (ends_so r.puts) (subst (λ (b : Option Bound). IsBind (L.bound link) b asked.port) (sym kept) bind)
      (subst (λ (b : Option Bound). WasTaken b true) (sym kept) taken)
      (record {
        ran = r.ran;
        is_ran = r.is_ran;
        live = record {
          moment = moment;
          moment_is = now;
          is_run = r.is_run;
          rounds = r.rounds;
          rounds_are = subst (λ (m : Option Moments). AreRounds (L.polls link) m asked.cycles r.rounds r.ran.entries) later
              (subst (λ (p : Option (List Polling)). AreRounds p (C.moments begun) asked.cycles r.rounds r.ran.entries) polls r.rounds_are);
          shows = shows_so r.puts;
          sents = r.sents;
          texts = r.texts;
          offered_are = subst (λ (t : Option (Told Offer)). AddsWhereTold t (L.offered link_now) (offers (polls_at (L.polled link) r.rounds) r.sents)) offered
              (subst (λ (k : ℕ). AddsWhereTold (L.offered bound) (L.offered link_now) (offers (polls_at k r.rounds) r.sents)) polled r.offered_are);
          sleeps = subst (λ (m : Option Moments). Sleeps m (one_more (C.given clock)) asked.cycles asked.period (C.asked clock) (C.asked clock_now)) later
              (subst (λ (k : ℕ). Sleeps (C.moments begun) k asked.cycles asked.period (C.asked clock) (C.asked clock_now)) given
              (subst (λ (t : Option (Told Sleep)). Sleeps (C.moments begun) (C.given begun) asked.cycles asked.period t (C.asked clock_now)) slept sleeps));
          left = subst (λ (m : Option Moments). IsLeft asked.cycles (L.polls link) (L.polls link_now) m (C.moments clock_now)) later
              (subst (λ (p : Option (List Polling)). IsLeft asked.cycles p (L.polls link_now) (C.moments begun) (C.moments clock_now)) polls left);
        };
      })

-- ---- with what is read

-- what is opened, and then that
joined : (asked : RunAsked) (i : Given) (a : Application) (reads : List Read) (before after : Option (List ℕ)) (fb fa status : ℕ) (front back : List Ask) → RunInputsRead asked.node (of_reads reads) (Ok i)
    → RunOpened asked.node i front (Ok a) → AnswersLive asked i a back before after fb fa status → IsAnswer (Run asked) (of_reads reads ++ (front ++ back)) before after fb fa status
joined asked i a reads before after fb fa status front back read opens (was_run text lives (all_put is put steady)) =
    done text (goes_on (of_reads reads) (front ++ back) i refl read (goes_on front back a refl opens lives)) is put steady
joined asked i a reads before after fb fa status front back read opens (was_run text lives (not_put is rose part)) =
    unput text (goes_on (of_reads reads) (front ++ back) i refl read (goes_on front back a refl opens lives)) tt is rose part
joined asked i a reads before after fb fa status front back read opens (was_unbound lives is puts) =
    refused LinkFault (goes_on (of_reads reads) (front ++ back) i refl read (goes_on front back a refl opens lives)) is puts
joined asked i a reads before after fb fa status front back read opens (was_unready asks_are is puts) =
    wanted (spares_behind (Some asked.node.store) reads (front ++ back) spared) is puts
  where
    spared : Spares (Some asked.node.store) (front ++ back)
    spared =
        subst (λ (b : List Ask). Spares (Some asked.node.store) (front ++ b)) (sym asks_are)
        (subst (λ (f : List Ask). Spares (Some asked.node.store) (f ++ Binds asked.port true ∷ [])) (sym (opened_to asked.node.store asked.node.limit i.code front a opens).asks_are)
        (record { unwritten = refl; attached = inr (refl, refl) }))

pub live_answers : {T : Type 0} (D : DiskGhosts T) (d m e : T) (asked : RunAsked) (i : Given) (a : Application) (reads : List Read) (before after : Option (List ℕ)) (fb fa status : ℕ)
    → RunInputsRead asked.node (of_reads reads) (Ok i) → AsksDisk D d m (λ asks. RunOpened asked.node i asks (Ok a)) → AsksDisk D m e (λ asks. AnswersLive asked i a asks before after fb fa status)
    → AsksDisk D d e (λ asks. IsAnswer (Run asked) (of_reads reads ++ asks) before after fb fa status)
live_answers D d m e asked i a reads before after fb fa status read first second =
    both_disk D d m e (λ asks. RunOpened asked.node i asks (Ok a)) (λ asks. AnswersLive asked i a asks before after fb fa status) (λ asks. IsAnswer (Run asked) (of_reads reads ++ asks) before after fb fa status)
    (λ front back opens answers. joined asked i a reads before after fb fa status front back read opens answers) first second

-- it was refused at the store
refused_behind : (asked : RunAsked) (i : Given) (reads : List Read) (refusal : Refusal) (asks : List Ask) → RunInputsRead asked.node (of_reads reads) (Ok i)
    → OrWants (Some asked.node.store) (RunOpened asked.node i) asks (Err refusal) → ComesOrWants (Run asked) (of_reads reads ++ asks) (Err refusal)
refused_behind asked i reads refusal asks read held =
    match_both (is_want refusal) (Spares (Some asked.node.store) asks) (RunOpened asked.node i asks (Err refusal)) (Spares (Some asked.node.store) (of_reads reads ++ asks)) (RunComes asked (of_reads reads ++ asks) (Err refusal))
    (λ spared. spares_behind (Some asked.node.store) reads asks spared) (λ opens. goes_on (of_reads reads) asks i refl read (stops refusal opens refl)) held

pub live_refused : {T : Type 0} (D : DiskGhosts T) (d e : T) (asked : RunAsked) (i : Given) (reads : List Read) (before after : Option (List ℕ)) (fb fa status : ℕ) (refusal : Refusal)
    → RunInputsRead asked.node (of_reads reads) (Ok i) → ((asks : List Ask) → ComesOrWants (Run asked) asks (Err refusal) → IsAnswer (Run asked) asks before after fb fa status)
    → AsksDisk D d e (λ asks. OrWants (Some asked.node.store) (RunOpened asked.node i) asks (Err refusal)) → AsksDisk D d e (λ asks. IsAnswer (Run asked) (of_reads reads ++ asks) before after fb fa status)
live_refused D d e asked i reads before after fb fa status refusal read answers has =
    same_disk D d e (λ asks. OrWants (Some asked.node.store) (RunOpened asked.node i) asks (Err refusal)) (λ asks. IsAnswer (Run asked) (of_reads reads ++ asks) before after fb fa status)
    (λ asks held. answers (of_reads reads ++ asks) (refused_behind asked i reads refusal asks read held)) has

-- what was done tells something else
pub asks_so : {U V : Type 0} (L : LinkGhosts U) (C : ClockGhosts V) (port status : ℕ) (link link_now : U) (clock clock_now : V) (P Q : Type 0) → (IsOneOf (0 ∷ 8 ∷ []) status → P → Q)
    → AsksLive L C port status link link_now clock clock_now P → AsksLive L C port status link link_now clock clock_now Q
asks_so L C port status link link_now clock clock_now P Q so (unasked not same still) = unasked not same still
asks_so L C port status link link_now clock clock_now P Q so (unbound ten bind untaken rose polls polled offered still) = unbound ten bind untaken rose polls polled offered still
asks_so L C port status link link_now clock clock_now P Q so (unready seven bind taken silent) = unready seven bind taken silent
asks_so L C port status link link_now clock clock_now P Q so (all_done at bind taken done_so) = all_done at bind taken (so at done_so)

-- a run on the application that its store opens to
pub runs_kept : {T U V : Type 0} → OpensOnce → (D : DiskGhosts T) → IsLawful D → (L : LinkGhosts U) (C : ClockGhosts V) (asked : RunAsked) (i : Given) (a : Application) (code : Code) (before after : Option (List ℕ)) (status : ℕ)
    (link link_now : U) (clock clock_now : V) (d m e : T) → code ≡ i.code → AsksDisk D d m (λ asks. RunOpened asked.node i asks (Ok a))
    → RunsOn D L C asked code i.users i.secret a before after status link link_now clock clock_now m e
    → RunsKept D L C asked i before after status link link_now clock clock_now d e
runs_kept once D law L C asked i a code before after status link link_now clock clock_now d m e is_code first r =
    let to = opened_to asked.node.store asked.node.limit i.code first.asks a first.holds in
    record {
      application = a;
      ran = r.ran;
      live = subst (λ (c : Code). RunsLive L C asked c i.users i.secret a r.ran before after status link link_now clock clock_now) is_code r.live;
      store = leaves_store once D law asked.node.store asked.node.limit a r.ran d e held;
      payload = to.payload;
      asks_are = both_asked D (Attaches asked.node.store true ∷ Opens (Found to.payload) ∷ []) (Runs r.ran ∷ []) d m e
          (subst (λ (asks : List Ask). AreAsked D asks d m) to.asks_are first.asked) (e, r.is_ran, refl);
    }
  where
    held : HeldRun D asked.node.store asked.node.limit a r.ran d e
    held =
        let to = opened_to asked.node.store asked.node.limit i.code first.asks a first.holds in
        record {
          payload = to.payload;
          is_file = subst (λ (c : Code). IsFile c asked.node.limit to.payload a) (sym (r.live.is_run.code ∙ is_code)) to.is_file;
          on = record { middle = m; last = last_behind D asked.node.store (Opens (Found to.payload)) first.asks [] d m to.asks_are first.asked; run = r.is_ran };
        }

-- ---- a refusal before the link

-- of no port
seven_of : (r : Refusal) → is_want r ≡ true → of_refusal r ≡ 7
seven_of Memory is = refl
seven_of (FileFault file) is = absurd (cc)
seven_of (Refused file why) is = absurd (cc)
seven_of (Rule file at rule) is = absurd (cc)
seven_of (MethodTooLong n) is = absurd (cc)
seven_of (ImageRefused at) is = absurd (cc)
seven_of (ImageBroken method at rule) is = absurd (cc)
seven_of (SlotTooSmall needs has) is = absurd (cc)
seven_of DeviceFault is = absurd (cc)
seven_of StoreExists is = absurd (cc)
seven_of NoStore is = absurd (cc)
seven_of NoApplication is = absurd (cc)
seven_of (WrongKits kit in_file in_kits) is = absurd (cc)
seven_of (OverLimit which) is = absurd (cc)
seven_of BadUsers is = absurd (cc)
seven_of ShortSecret is = absurd (cc)
seven_of (BadRecord at) is = absurd (cc)
seven_of LinkFault is = absurd (cc)

-- where it is want of memory, or this holds of it, which tells that
unlinked : (b : Bool) (r : Refusal) (S P : Type 0) → is_want r ≡ b → (P → of_refusal r ≡ 10 → ⊥) → MatchBool b S P → of_refusal r ≡ 10 → ⊥
unlinked true r S P is not held ten = let seven = seven_of r is in absurd (omega (arith, seven, ten))
unlinked false r S P is not held ten = not held ten

pub inputs_unlinked : {S : Type 0} (F : FileGhosts S) (x y : S) (node : NodeAsked) (end : Result Given Refusal) (r : Refusal) → end ≡ Err r
    → HasReads F x y (λ reads. UnlessFree is_want (RunInputsRead node (of_reads reads)) end) → of_refusal r ≡ 10 → ⊥
inputs_unlinked F x y node end r is has ten =
    let read = subst (λ (e : Result Given Refusal). HasReads F x y (λ reads. UnlessFree is_want (RunInputsRead node (of_reads reads)) e)) is has in
    unlinked (is_want r) r (Unit {0}) (RunInputsRead node (of_reads read.reads) (Err r)) refl (λ early is_link. early_link r ((run_inputs_alone node).early (of_reads read.reads) r early) is_link) read.holds ten

pub open_unlinked : (store : List ℕ) (limit : ℕ) (code : Code) (asks : List Ask) (r : Refusal) → OrWants (Some store) (Opened store limit code) asks (Err r) → of_refusal r ≡ 10 → ⊥
open_unlinked store limit code asks r held ten =
    unlinked (is_want r) r (Spares (Some store) asks) (Opened store limit code asks (Err r)) refl
    (λ opens is. store_link _ store asks r (of_open store limit code asks [] asks [] r refl refl opens) is) held ten

-- its status is none at which the port was asked for
pub not_linked : (status : ℕ) (r : Refusal) → (IsOneOf (0 ∷ 8 ∷ []) status → ⊥) → IsOneOf (of_refusal r ∷ 7 ∷ []) status → (of_refusal r ≡ 10 → ⊥) → IsOneOf at_link status → ⊥
not_linked status r undone numbered not (inl nought) = undone (inl nought)
not_linked status r undone numbered not (inr (inl eight)) = undone (inr (inl eight))
not_linked status r undone (inl is) not (inr (inr (inl ten))) = not (sym is ∙ ten)
not_linked status r undone (inr (inl seven)) not (inr (inr (inl ten))) = absurd (omega (arith, seven, ten))
not_linked status r undone (inr (inr never)) not (inr (inr (inl ten))) = never
not_linked status r undone numbered not (inr (inr (inr never))) = never

-- ---- all of it

pub live_goes : {S T : Type 0} (F : FileGhosts S) (D : DiskGhosts T) (x y : S) (d e : T) (node : NodeAsked) (r : Result Given Refusal) (i : Given) (P : List Ask → Type 0) → r ≡ Ok i
    → HasReads F x y (λ reads. UnlessFree is_want (RunInputsRead node (of_reads reads)) r)
    → ((reads : List Read) → RunInputsRead node (of_reads reads) (Ok i) → AsksDisk D d e (λ asks. P (of_reads reads ++ asks))) → HasAsks F D x y d e P
live_goes F D x y d e node r i P is has rest =
    same_reads F x y (λ reads. UnlessFree is_want (RunInputsRead node (of_reads reads)) (Ok i)) (λ reads. (asks : List Ask) × (reads_in asks ≡ reads) × AreAsked D asks d e × P asks)
    (λ reads held.
    let more = rest reads held in (
      of_reads reads ++ more.asks,
      reads_before reads more.asks more.unread,
      both_asked D (of_reads reads) more.asks d d e (reads_asked D reads d) more.asked,
      more.holds,
    )) (subst (λ (end : Result Given Refusal). HasReads F x y (λ reads. UnlessFree is_want (RunInputsRead node (of_reads reads)) end)) is has)

pub live_unread : {S T : Type 0} (F : FileGhosts S) (D : DiskGhosts T) (x y : S) (d : T) (asked : RunAsked) (r : Result Given Refusal) (refusal : Refusal) (P : List Ask → Type 0) → r ≡ Err refusal
    → HasReads F x y (λ reads. UnlessFree is_want (RunInputsRead asked.node (of_reads reads)) r) → ((asks : List Ask) → ComesOrWants (Run asked) asks (Err refusal) → P asks) → HasAsks F D x y d d P
live_unread F D x y d asked r refusal P is has answers =
    only_reads F D x y d P
    (same_reads F x y (λ reads. UnlessFree is_want (RunInputsRead asked.node (of_reads reads)) (Err refusal)) (λ reads. P (of_reads reads))
    (λ reads held.
    answers (of_reads reads)
    (match_both (is_want refusal) (Unit {0}) (RunInputsRead asked.node (of_reads reads) (Err refusal)) (Spares (Some asked.node.store) (of_reads reads)) (RunComes asked (of_reads reads) (Err refusal))
    (λ any. reads_spare (Some asked.node.store) reads) (λ read. stops refusal read refl) held))
    (subst (λ (end : Result Given Refusal). HasReads F x y (λ reads. UnlessFree is_want (RunInputsRead asked.node (of_reads reads)) end)) is has))

-- with what the files gave
pub ran_by_files : {S T U V : Type 0} (F : FileGhosts S) (D : DiskGhosts T) (L : LinkGhosts U) (C : ClockGhosts V) (asked : RunAsked) (x y : S) (r : Result Given Refusal) (i : Given) → r ≡ Ok i
    → HasReads F x y (λ reads. UnlessFree is_want (RunInputsRead asked.node (of_reads reads)) r)
    → (link link_now : U) (clock clock_now : V) (disk disk_now : T) (before after : Option (List ℕ)) (status : ℕ) → RunsKept D L C asked i before after status link link_now clock clock_now disk disk_now
    → RanBy F D L C asked x y link link_now clock clock_now disk disk_now before after status
ran_by_files F D L C asked x y r i is has link link_now clock clock_now disk disk_now before after status kept =
    same_reads F x y (λ reads. UnlessFree is_want (RunInputsRead asked.node (of_reads reads)) (Ok i))
    (λ reads. (inputs : Given) × RunInputsRead asked.node (of_reads reads) (Ok inputs) × RunsKept D L C asked inputs before after status link link_now clock clock_now disk disk_now)
    (λ reads held. (i, held, kept))
    (subst (λ (end : Result Given Refusal). HasReads F x y (λ reads. UnlessFree is_want (RunInputsRead asked.node (of_reads reads)) end)) is has)
