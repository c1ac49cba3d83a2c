-- `replay` comes to one end, and tells the reads that failed; and where it was stopped, what it comes to else.
use Rattle.std.proofs.Common.{◌≡◌, ℕ, true, List, [], ◌∷◌, ◌++◌, Result, Ok, Err, refl, sym, ap, subst, ◌∙◌, inl, inr, append_assoc}
use Rattle.std.proofs.lemmas.Grind.{flat_map-append}
use Rattle.sed_engine.specs.Code.{Meaning as Code}
use Rattle.sed_typed.specs.declared.program.Program.{Program}
use Rattle.scode_image.specs.declared.image.Image.{Image}
use Rattle.comp_tree.specs.Application.{Application}
use Rattle.dasp_session.specs.declared.user.User.{User}
use Rattle.replay_log.specs.Entry.{Entry}
use Rattle.sed_node.specs.Replaying.{replay_text}
use Rattle.sed_outside.specs.Steps.{Read, AndThen, Decides, stops, goes_on, Agree}
use Rattle.sed_outside.specs.Reads.{failed_name, failed_names}
use Rattle.input_files.specs.Inputs.{CodeRead, RecordRead, SecretRead, UsersRead}
use Rattle.input_files.specs.declared.refusal.InputRefusal.{InputRefusal}
use Rattle.sedona_cli.specs.Given.{GivenRecord}
use Rattle.sedona_cli.specs.declared.refusal.Refusal.{Refusal}
use Rattle.sedona_laws.specs.Agree.{AgreeOn, Pointwise, failed_by}
use Rattle.sedona_words.specs.Command.{CodeAsked, NodeAsked, OfImage, OfKits}
use Rattle.sedona_cli.specs.Outside.{Ask, Attaches, Opens, Runs, Ran, Found, read_of, reads_in}
use Rattle.sedona_cli.specs.Refusals.{failed_of, of_inputs}
use Rattle.sedona_cli.specs.Nodes.{Opened}
use Rattle.sedona_cli.specs.Replay.{InputsRead, ReplayComes, ReplayStops, Replays}
use Rattle.sedona_cli.specs.Steps.{AfterCode, KitsGenerated, OfFiles, OfReads}
use Rattle.sedona_cli.specs.Store.{AppRead, StoreAttached, StoreOpened}
use Rattle.sedona_laws.proofs.Alike.{EndsAlike, NeverRefused, ReadsOne, attached_ends, files_alike, gives_alike, never_stops, opened_ends, read_ends, stops_once, then_alike, then_stops}
use Rattle.sedona_laws.proofs.AlikeFiles.{MeanAlike}
use Rattle.sedona_cli.proofs.Asking.{reads_of_reads}
use Rattle.sedona_cli.proofs.Ends.{err_ok}
use Rattle.sedona_laws.proofs.InputsOnce.{HasOneEnd, InputOne, InputTells, LoadTells, TellsFailed, failed_inputs, input_one}
use Rattle.sedona_cli.proofs.StoreAsked.{of_payload}

-- ---- one end

-- inputs whose codes are alike
abbrev pub InputsAlike : GivenRecord → GivenRecord → Type 0
InputsAlike i j = MeanAlike i.code j.code

-- the code of a node has one end
abbrev pub CodeOne : CodeAsked → Type 0
CodeOne code = EndsAlike (AfterCode code) (AfterCode code) MeanAlike

inputs_alike : (node : NodeAsked) (file : List ℕ) → CodeOne node.code → InputOne {X = List User} (UsersRead node.users) → InputOne {X = List ℕ} (SecretRead node.secret)
    → InputOne {X = List ℕ} (RecordRead file) → EndsAlike (InputsRead node file) (InputsRead node file) InputsAlike
inputs_alike node file code users secret text =
    then_alike _ _ MeanAlike _ _ InputsAlike code
    (λ (m n : Code) same_code. then_alike _ _ (λ (u v : List User). u ≡ v) _ _ InputsAlike (files_alike of_inputs (UsersRead node.users) (λ (u v : List User). u ≡ v) (input_one (UsersRead node.users) users))
    (λ (u v : List User) same_users. then_alike _ _ (λ (s t : List ℕ). s ≡ t) _ _ InputsAlike (files_alike of_inputs (SecretRead node.secret) (λ (s t : List ℕ). s ≡ t) (input_one (SecretRead node.secret) secret))
    (λ (s t : List ℕ) same_secret. then_alike _ _ (λ (x y : List ℕ). x ≡ y) _ _ InputsAlike (files_alike of_inputs (RecordRead file) (λ (x y : List ℕ). x ≡ y) (input_one (RecordRead file) text))
    (λ (x y : List ℕ) same_text. gives_alike InputsAlike _ _ same_code))))

pub opened_ends_alike : ReadsOne → (store : List ℕ) (limit : ℕ) (m n : Code) → MeanAlike m n → EndsAlike (Opened store limit m) (Opened store limit n) (λ (a b : Application). Unit {0})
unfolding Opened
opened_ends_alike one store limit m n alike =
    then_alike _ _ (λ (u v : Unit {0}). Unit {0}) _ _ (λ (a b : Application). Unit {0}) (attached_ends store)
    (λ (u v : Unit {0}) any. then_alike _ _ (λ (x y : List ℕ). x ≡ y) _ _ (λ (a b : Application). Unit {0}) opened_ends
    (λ (x y : List ℕ) same. read_ends one m n limit x y alike same))

never_refused : (node : NodeAsked) (i : GivenRecord) (a : Application) → NeverRefused (Replays node i a)
never_refused node i a asks r replays = err_ok r _ replays.end_is

-- what is read and opened, and then steps that are never refused
pub replay_steps_end : ReadsOne → (node : NodeAsked) (file : List ℕ) (R : GivenRecord → Application → List Ask → Result (List ℕ) Refusal → Type 0) → ((i : GivenRecord) (a : Application) → NeverRefused (R i a)) → CodeOne node.code
    → InputOne {X = List User} (UsersRead node.users) → InputOne {X = List ℕ} (SecretRead node.secret) → InputOne {X = List ℕ} (RecordRead file)
    → HasOneEnd (AndThen (InputsRead node file) (λ (i : GivenRecord). AndThen (Opened node.store node.limit i.code) (R i)))
replay_steps_end one node file R never code users secret text asks others end other agree h k =
    stops_once (AndThen (InputsRead node file) (λ (i : GivenRecord). AndThen (Opened node.store node.limit i.code) (R i))) (AndThen (InputsRead node file) (λ (i : GivenRecord). AndThen (Opened node.store node.limit i.code) (R i)))
    (then_stops _ _ InputsAlike _ _ (inputs_alike node file code users secret text)
    (λ (i j : GivenRecord) same. then_stops _ _ (λ (a b : Application). Unit {0}) _ _ (opened_ends_alike one node.store node.limit i.code j.code same)
    (λ (a b : Application) any. never_stops (R i a) (R j b) (never i a) (never j b))))
    asks others end other agree h k

pub replay_one_end : ReadsOne → (node : NodeAsked) (file : List ℕ) → CodeOne node.code → InputOne {X = List User} (UsersRead node.users)
    → InputOne {X = List ℕ} (SecretRead node.secret) → InputOne {X = List ℕ} (RecordRead file) → HasOneEnd (ReplayComes node file)
replay_one_end one node file = replay_steps_end one node file (Replays node) (never_refused node)

-- ---- the reads that failed

-- the reads that failed are those that the end tells
abbrev pub failed_end : {X : Type 0} → Result X Refusal → List (List ℕ)
failed_end (Ok x) = []
failed_end (Err r) = failed_of r

abbrev pub Tells : {X : Type 0} → (List Ask → Result X Refusal → Type 0) → Type 0
Tells {X} S = (asks : List Ask) (end : Result X Refusal) → S asks end → failed_names (reads_in asks) ≡ failed_end end

pub then_tells : {X Y : Type 0} (S : List Ask → Result X Refusal → Type 0) (N : X → List Ask → Result Y Refusal → Type 0) → Tells S → ((x : X) → Tells (N x)) → Tells (AndThen S N)
then_tells S N one next asks end (stops r h e) = one asks (Err r) h ∙ sym (ap failed_end e)
then_tells S N one next asks end (goes_on f b x parts h n) =
    ap failed_names (ap reads_in parts ∙ flat_map-append read_of f b)
    ∙ flat_map-append failed_name (reads_in f) (reads_in b)
    ∙ ap (λ (l : List (List ℕ)). l ++ failed_names (reads_in b)) (one f (Ok x) h)
    ∙ next x b end n

-- what an end of a step of files tells
abbrev pub failed_as : {E X : Type 0} → (E → Refusal) → Result X E → List (List ℕ)
failed_as told (Ok x) = []
failed_as told (Err e) = failed_of (told e)

pub files_tell : {E X : Type 0} (told : E → Refusal) (step : List Read → Result X E → Type 0) → ((reads : List Read) (end : Result X E) → step reads end → failed_names reads ≡ failed_as told end) → Tells (OfFiles told step)
files_tell told step tells asks (Ok x) h = ap failed_names (ap reads_in h.1 ∙ reads_of_reads h.0) ∙ tells h.0 (Ok x) h.2
files_tell told step tells asks (Err r) h = ap failed_names (ap reads_in h.1 ∙ reads_of_reads h.0) ∙ tells h.0 (Err h.2.0) h.2.1 ∙ sym (ap failed_of h.2.2)

pub reads_tell : (step : List Read → Result Program Refusal → Type 0) → LoadTells step → Tells (OfReads step)
reads_tell step tells asks (Ok p) h = ap failed_names (ap reads_in h.1 ∙ reads_of_reads h.0) ∙ tells h.0 (Ok p) h.2
reads_tell step tells asks (Err r) h = ap failed_names (ap reads_in h.1 ∙ reads_of_reads h.0) ∙ tells h.0 (Err r) h.2

pub input_tells : {X : Type 0} (step : List Read → Result X InputRefusal → Type 0) → InputTells step → (reads : List Read) (end : Result X InputRefusal) → step reads end → failed_names reads ≡ failed_as of_inputs end
input_tells step tells reads (Ok p) h = tells reads (Ok p) h
input_tells step tells reads (Err e) h = tells reads (Err e) h ∙ failed_inputs e

pub gives_tells : {X : Type 0} (x : X) → Tells (Decides (λ (end : Result X Refusal). end ≡ Ok x))
gives_tells x asks end h = ap (λ (l : List Ask). failed_names (reads_in l)) h.none ∙ sym (ap failed_end h.holds)

attached_tells : (store : List ℕ) → Tells (StoreAttached store)
attached_tells store asks (Ok u) h = ap (λ (l : List Ask). failed_names (reads_in l)) h
attached_tells store asks (Err r) h = ap (λ (l : List Ask). failed_names (reads_in l)) h.0 ∙ sym (ap failed_of h.1)

opened_tells : Tells StoreOpened
opened_tells asks (Ok payload) h = ap (λ (l : List Ask). failed_names (reads_in l)) h
opened_tells asks (Err r) (inl h) = ap (λ (l : List Ask). failed_names (reads_in l)) h.0 ∙ sym (ap failed_of h.1)
opened_tells asks (Err r) (inr h) = ap (λ (l : List Ask). failed_names (reads_in l)) h.0 ∙ sym (ap failed_of h.1)

payload_tells : (code : Code) (limit : ℕ) (payload : List ℕ) → Tells (AppRead code limit payload)
payload_tells code limit payload asks (Ok a) h = ap (λ (l : List Ask). failed_names (reads_in l)) h.none
payload_tells code limit payload asks (Err r) h = ap (λ (l : List Ask). failed_names (reads_in l)) h.none ∙ sym (of_payload h.holds.reading r h.holds.end_is).failed

pub open_tells : (store : List ℕ) (limit : ℕ) (code : Code) → Tells (Opened store limit code)
unfolding Opened
open_tells store limit code = then_tells _ _ (attached_tells store) (λ (u : Unit {0}). then_tells _ _ opened_tells (λ (payload : List ℕ). payload_tells code limit payload))

-- an opening asks for no file
pub open_reads : (store : List ℕ) (limit : ℕ) (code : Code) (asks : List Ask) (end : Result Application Refusal) → Opened store limit code asks end → reads_in asks ≡ []
unfolding Opened
open_reads store limit code asks end (stops r h e) = ap reads_in h.0
open_reads store limit code asks end (goes_on g d v more h (stops r (inl k) e)) = ap reads_in (more ∙ ap (λ (l : List Ask). l ++ d) h ∙ ap (λ (l : List Ask). Attaches store true ∷ l) k.0)
open_reads store limit code asks end (goes_on g d v more h (stops r (inr k) e)) = ap reads_in (more ∙ ap (λ (l : List Ask). l ++ d) h ∙ ap (λ (l : List Ask). Attaches store true ∷ l) k.0)
open_reads store limit code asks end (goes_on g d v more h (goes_on i j payload next k n)) =
    ap reads_in (more ∙ ap (λ (l : List Ask). l ++ d) h
    ∙ ap (λ (l : List Ask). Attaches store true ∷ l) (next ∙ ap (λ (l : List Ask). l ++ j) k ∙ ap (λ (l : List Ask). Opens (Found payload) ∷ l) n.none))

run_tells : (node : NodeAsked) (i : GivenRecord) (a : Application) → Tells (Replays node i a)
run_tells node i a asks end replays = ap (λ (l : List Ask). failed_names (reads_in l)) replays.asks_are ∙ sym (ap failed_end replays.end_is)

-- the code of a node tells the reads that failed
pub code_tells : ((names : List (List ℕ)) → LoadTells (KitsGenerated names)) → ((file : List ℕ) → InputTells {X = Image} (CodeRead file)) → (code : CodeAsked) → Tells (AfterCode code)
code_tells kits image (OfKits names) = then_tells _ _ (reads_tell (KitsGenerated names) (kits names)) (λ (p : Program). gives_tells _)
code_tells kits image (OfImage file) = then_tells _ _ (files_tell of_inputs (CodeRead file) (input_tells (CodeRead file) (image file))) (λ (i : Image). gives_tells _)

inputs_tell : (node : NodeAsked) (file : List ℕ) → Tells (AfterCode node.code) → InputTells {X = List User} (UsersRead node.users) → InputTells {X = List ℕ} (SecretRead node.secret)
    → InputTells {X = List ℕ} (RecordRead file) → Tells (InputsRead node file)
inputs_tell node file code users secret text =
    then_tells _ _ code
    (λ (m : Code). then_tells _ _ (files_tell of_inputs (UsersRead node.users) (input_tells (UsersRead node.users) users))
    (λ (u : List User). then_tells _ _ (files_tell of_inputs (SecretRead node.secret) (input_tells (SecretRead node.secret) secret))
    (λ (s : List ℕ). then_tells _ _ (files_tell of_inputs (RecordRead file) (input_tells (RecordRead file) text)) (λ (t : List ℕ). gives_tells _))))

pub as_told : (end : Result (List ℕ) Refusal) → failed_end end ≡ failed_by end
as_told (Ok text) = refl
as_told (Err r) = refl

pub replay_tells : (node : NodeAsked) (file : List ℕ) → Tells (AfterCode node.code) → InputTells {X = List User} (UsersRead node.users) → InputTells {X = List ℕ} (SecretRead node.secret)
    → InputTells {X = List ℕ} (RecordRead file) → TellsFailed (ReplayComes node file)
replay_tells node file code users secret text asks end h =
    then_tells (InputsRead node file) _ (inputs_tell node file code users secret text)
    (λ (i : GivenRecord). then_tells _ _ (open_tells node.store node.limit i.code) (λ (a : Application). run_tells node i a)) asks end h
    ∙ as_told end

-- ---- where it was stopped

-- what a run that was stopped comes to where the sink fails nothing
pub record StartsOf (node : NodeAsked) (file : List ℕ) (asks : List Ask) : Type 0 where
  pub more : List Ask
  pub text : List ℕ
  pub comes : ReplayComes node file more (Ok text)
  pub reads : reads_in more ≡ reads_in asks
  pub agrees : (told : List Ask) → AgreeOn asks told → AgreeOn more told

-- the same setup, with all entries and no event
abbrev all_entries : Ran → List Entry → Ran
all_entries ran entries = record { code = ran.code; setup = ran.setup; start = ran.start; entries = entries; events = [] }

other_run : (front : List Ask) (r s : Ran) (told : List Ask) → Pointwise (front ++ Runs r ∷ []) told → Pointwise (front ++ Runs s ∷ []) told
other_run [] r s [] agree = tt
other_run [] r s (t ∷ told) agree = (tt, λ same. tt)
other_run (x ∷ front) r s [] agree = tt
other_run (x ∷ front) r s (t ∷ told) agree = (agree.0, λ same. other_run front r s told (agree.1 same))

other_reads : (front : List Ask) (r s : Ran) → reads_in (front ++ Runs r ∷ []) ≡ reads_in (front ++ Runs s ∷ [])
other_reads front r s = flat_map-append read_of front (Runs r ∷ []) ∙ sym (flat_map-append read_of front (Runs s ∷ []))

pub stops_start : (node : NodeAsked) (file : List ℕ) (asks : List Ask) (put last : List ℕ) → ReplayStops node file asks put last → StartsOf node file asks
stops_start node file asks put last s = record {
  more = front ++ Runs all ∷ [];
  text = replay_text all.code all.setup all.start [] [];
  comes = goes_on s.of_inputs (s.of_store ++ Runs all ∷ []) s.given (append_assoc s.of_inputs s.of_store (Runs all ∷ [])) s.reads
      (goes_on s.of_store (Runs all ∷ []) s.application refl s.opens
      (record {
        ran = all;
        is_run = record { code = s.stops.is_run.code; turns = s.stops.is_run.turns; start = s.stops.is_run.start };
        asks_are = refl;
        entries = s.stops.entries;
        sent = [];
        sends = tt;
        end_is = refl;
      }));
  reads = other_reads front all s.stops.ran ∙ sym (ap reads_in whole);
  agrees = λ told agree.
      let here = subst (λ (l : List Ask). AgreeOn l told) whole agree in
      record {
        reads = subst (λ (l : List Read). Agree l (reads_in told)) (other_reads front s.stops.ran all) here.reads;
        rest = other_run front s.stops.ran all told here.rest;
      };
}
  where
    front : List Ask
    front = s.of_inputs ++ s.of_store

    all : Ran
    all = all_entries s.stops.ran (s.stops.ran.entries ++ s.stops.left)

    whole : asks ≡ front ++ Runs s.stops.ran ∷ []
    whole = s.asks_are ∙ ap (λ (l : List Ask). front ++ l) s.stops.asks_are
