-- What `replay` has asked when it ends.
use Rattle.std.proofs.Common.{◌≡◌, ℕ, true, List, [], ◌∷◌, ◌++◌, Ok, refl, sym, ap, subst, ◌∙◌, append_assoc}
use Rattle.std.proofs.lemmas.List.{append-nil}
use Rattle.comp_tree.specs.Application.{Application}
use Rattle.app_file.specs.Reading.{IsFile}
use Rattle.disk_model.specs.Disk.{Attaches as IsAttach}
use Rattle.disk_model.specs.declared.disk.Disk.{Ghosts as DiskGhosts}
use Rattle.replay_log.specs.Entry.{Entry}
use Rattle.replay_log.specs.Record.{IsRecord}
use Rattle.sed_outside.specs.Steps.{Read, stops, goes_on}
use Rattle.sedona_cli.specs.Given.{GivenRecord}
use Rattle.sedona_words.specs.Command.{NodeAsked}
use Rattle.sedona_cli.specs.Outside.{Ask, Attaches, Opens, Runs, Ran, Found, of_reads, AreAsked, IsRan}
use Rattle.sedona_cli.specs.Replay.{InputsRead, IsRunOf, ReplayComes, ReplayStops}
use Rattle.sedona_cli.proofs.Asking.{asked_behind}
use Rattle.sedona_cli.proofs.Ends.{ok_err}
use Rattle.sedona_cli.proofs.StoreAsked.{behind}
use Rattle.sedona_cli.proofs.ReplayAsked.{inputs_alone, opened_to, RanOn}
use Rattle.input_files.specs.declared.refusal.InputRefusal.TheVariants as inputs

-- a run, with what was read and opened before it
pub record RanBy (node : NodeAsked) (file : List ℕ) (asks : List Ask) : Type 0 where
  pub inputs : GivenRecord
  pub reads : List Read
  pub read : InputsRead node file (of_reads reads) (Ok inputs)
  pub application : Application
  pub payload : List ℕ
  pub is_file : IsFile inputs.code node.limit payload application
  pub ran : Ran
  pub is_run : IsRunOf node inputs application ran
  pub asks_are : asks ≡ of_reads reads ++ Attaches node.store true ∷ Opens (Found payload) ∷ Runs ran ∷ []
  pub left : List Entry
  pub entries : IsRecord inputs.text (ran.entries ++ left)

pub three : (asks front back : List Ask) (reads : List Read) (store payload : List ℕ) (ran : Ran) (of_store of_run : List Ask) → asks ≡ front ++ back → front ≡ of_reads reads → back ≡ of_store ++ of_run
    → of_store ≡ Attaches store true ∷ Opens (Found payload) ∷ [] → of_run ≡ Runs ran ∷ [] → asks ≡ of_reads reads ++ Attaches store true ∷ Opens (Found payload) ∷ Runs ran ∷ []
three asks front back reads store payload ran of_store of_run parts is more are last =
    behind asks front back reads (Attaches store true ∷ Opens (Found payload) ∷ Runs ran ∷ []) parts is
    (more ∙ ap (λ (l : List Ask). l ++ of_run) are ∙ ap (λ (l : List Ask). Attaches store true ∷ Opens (Found payload) ∷ l) last)

unfoldable pub ran_by : (node : NodeAsked) (file : List ℕ) (asks : List Ask) (text : List ℕ) → ReplayComes node file asks (Ok text) → RanBy node file asks
ran_by node file asks text (stops s read e) = absurd (ok_err text s e)
ran_by node file asks text (goes_on front back i parts read (stops s opened e)) = absurd (ok_err text s e)
ran_by node file asks text (goes_on front back i parts read (goes_on g d a more opened replays)) =
    let all = (inputs_alone node file).reads front (Ok i) read in
    let to = opened_to node.store node.limit i.code g a opened in
    record {
      inputs = i;
      reads = all.0;
      read = subst (λ (l : List Ask). InputsRead node file l (Ok i)) all.1 read;
      application = a;
      payload = to.payload;
      is_file = to.is_file;
      ran = replays.ran;
      is_run = replays.is_run;
      asks_are = three asks front back all.0 node.store to.payload replays.ran g d parts all.1 more to.asks_are replays.asks_are;
      left = [];
      entries = subst (λ (l : List Entry). IsRecord i.text l) (sym (append-nil replays.ran.entries)) replays.entries;
    }

unfoldable pub ran_until : (node : NodeAsked) (file : List ℕ) (asks : List Ask) (put last : List ℕ) → ReplayStops node file asks put last → RanBy node file asks
ran_until node file asks put last s =
    let all = (inputs_alone node file).reads s.of_inputs (Ok s.given) s.reads in
    let to = opened_to node.store node.limit s.given.code s.of_store s.application s.opens in
    record {
      inputs = s.given;
      reads = all.0;
      read = subst (λ (l : List Ask). InputsRead node file l (Ok s.given)) all.1 s.reads;
      application = s.application;
      payload = to.payload;
      is_file = to.is_file;
      ran = s.stops.ran;
      is_run = s.stops.is_run;
      asks_are = three asks s.of_inputs (s.of_store ++ s.of_run) all.0 node.store to.payload s.stops.ran s.of_store s.of_run (s.asks_are ∙ append_assoc s.of_inputs s.of_store s.of_run) all.1 refl to.asks_are s.stops.asks_are;
      left = s.stops.left;
      entries = s.stops.entries;
    }

pub record RunBehind (store : List ℕ) (asks : List Ask) : Type 0 where
  pub reads : List Read
  pub payload : List ℕ
  pub ran : Ran
  pub asks_are : asks ≡ of_reads reads ++ Attaches store true ∷ Opens (Found payload) ∷ Runs ran ∷ []

pub run_behind : (node : NodeAsked) (file : List ℕ) (asks : List Ask) → RanBy node file asks → RunBehind node.store asks
run_behind node file asks by = record { reads = by.reads; payload = by.payload; ran = by.ran; asks_are = by.asks_are }

pub ran_on : {T : Type 0} (D : DiskGhosts T) (store payload : List ℕ) (ran : Ran) (asks : List Ask) (reads : List Read) (d e : T)
    → asks ≡ of_reads reads ++ Attaches store true ∷ Opens (Found payload) ∷ Runs ran ∷ [] → AreAsked D asks d e → RanOn D store payload ran d e
ran_on D store payload ran asks reads d e is asked =
    let rest = asked_behind D reads (Attaches store true ∷ Opens (Found payload) ∷ Runs ran ∷ []) d e (subst (λ (a : List Ask). AreAsked D a d e) is asked) in
    record {
      middle = rest.2.0;
      last = record { between = rest.0; attached = rest.1; asked = rest.2.1 };
      run = subst (λ t. IsRan D.meaning ran rest.2.0 t) (sym rest.2.2.2) rest.2.2.1;
    }

-- the name is attached
pub run_attaches : {T : Type 0} (D : DiskGhosts T) (store : List ℕ) (asks : List Ask) (d e : T) → RunBehind store asks → AreAsked D asks d e → IsAttach (D.meaning d).calls (D.meaning d).attached (D.meaning e).attached store
run_attaches D store asks d e by asked =
    let on = ran_on D store by.payload by.ran asks by.reads d e by.asks_are asked in
    subst (λ now. IsAttach (D.meaning d).calls (D.meaning d).attached now store) (sym (on.run.attached ∙ on.last.asked.attached)) on.last.attached.attached
