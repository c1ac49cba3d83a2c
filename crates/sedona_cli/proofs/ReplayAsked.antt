-- What `replay` has asked when it ends.
use Rattle.std.proofs.Common.{◌≡◌, ℕ, true, false, List, [], ◌∷◌, ◌++◌, Some, Result, Ok, Err, refl, sym, ap, subst, ◌∙◌, inl, inr}
use Rattle.sed_engine.specs.Code.{Meaning as Code}
use Rattle.sed_typed.specs.declared.program.Program.{Program}
use Rattle.scode_image.specs.declared.image.Image.{Image}
use Rattle.comp_tree.specs.Application.{Application}
use Rattle.app_file.specs.Reading.{IsFile}
use Rattle.disk_model.specs.declared.disk.Disk.{Ghosts as DiskGhosts}
use Rattle.dasp_session.specs.declared.user.User.{User}
use Rattle.sed_outside.specs.Steps.{Read, AndThen, Decides, stops, goes_on}
use Rattle.input_files.specs.Inputs.{CodeRead, RecordRead, SecretRead, UsersRead}
use Rattle.input_files.specs.declared.refusal.InputRefusal.{InputRefusal}
use Rattle.sed_check.specs.Loading.{KitsLoaded}
use Rattle.sedona_cli.specs.declared.refusal.Refusal.{Refusal}
use Rattle.sedona_words.specs.Command.{CodeAsked, NodeAsked, OfImage, OfKits}
use Rattle.sedona_cli.specs.Outside.{Ask, Reads, Attaches, Opens, Ran, Found, NotAStore, Unread, of_reads, IsRan}
use Rattle.sedona_cli.specs.Refusals.{is_of_store, of_inputs}
use Rattle.sedona_cli.specs.Nodes.{Opened}
use Rattle.sedona_cli.specs.Replay.{InputsRead, ReplayComes}
use Rattle.sedona_cli.specs.Steps.{AfterCode, KitsGenerated, OfFiles, OfReads}
use Rattle.sedona_cli.proofs.Generated.{generates_early}
use Rattle.sedona_cli.proofs.Ends.{err_ok, ok_err, one_refusal}
use Rattle.sedona_cli.proofs.StoreAsked.{IsOpening, Last, StoreAsked, behind, ends_at, ends_before, ends_unattached, file_of, of_payload, two, two_stop}
use Rattle.input_files.specs.declared.refusal.InputRefusal.TheVariants as inputs

-- ---- steps that ask files alone

-- It asks for files alone, and its refusals come before a store is.
pub record FilesAlone {X : Type 0} (S : List Ask → Result X Refusal → Type 0) : Type 0 where
  pub reads : (asks : List Ask) (end : Result X Refusal) → S asks end → (reads : List Read) × (asks ≡ of_reads reads)
  pub early : (asks : List Ask) (r : Refusal) → S asks (Err r) → is_of_store r ≡ false

pub of_both : (front back : List Read) → of_reads (front ++ back) ≡ of_reads front ++ of_reads back
of_both [] back = refl
of_both (read ∷ front) back = ap (λ (l : List Ask). Reads read ∷ l) (of_both front back)

then_reads : {X Y : Type 0} (S : List Ask → Result X Refusal → Type 0) (N : X → List Ask → Result Y Refusal → Type 0) → FilesAlone S → ((x : X) → FilesAlone (N x))
    → (asks : List Ask) (end : Result Y Refusal) → AndThen S N asks end → (reads : List Read) × (asks ≡ of_reads reads)
then_reads S N one next asks end (stops r h e) = one.reads asks (Err r) h
then_reads S N one next asks end (goes_on f b x parts h n) =
    let first = one.reads f (Ok x) h in
    let second = (next x).reads b end n in
    (first.0 ++ second.0, parts ∙ ap (λ (l : List Ask). l ++ b) first.1 ∙ ap (λ (l : List Ask). of_reads first.0 ++ l) second.1 ∙ sym (of_both first.0 second.0))

then_early : {X Y : Type 0} (S : List Ask → Result X Refusal → Type 0) (N : X → List Ask → Result Y Refusal → Type 0) → FilesAlone S → ((x : X) → FilesAlone (N x))
    → (asks : List Ask) (r : Refusal) → AndThen S N asks (Err r) → is_of_store r ≡ false
then_early {X} {Y} S N one next asks r (stops q h e) = ap is_of_store (one_refusal {X = Y} r q e) ∙ one.early asks q h
then_early S N one next asks r (goes_on f b x parts h n) = (next x).early b r n

pub then_alone : {X Y : Type 0} (S : List Ask → Result X Refusal → Type 0) (N : X → List Ask → Result Y Refusal → Type 0) → FilesAlone S → ((x : X) → FilesAlone (N x)) → FilesAlone (AndThen S N)
then_alone S N one next = record { reads = then_reads S N one next; early = then_early S N one next }

pub reads_alone : {X : Type 0} (step : List Read → Result X Refusal → Type 0) → ((reads : List Read) (r : Refusal) → step reads (Err r) → is_of_store r ≡ false) → FilesAlone (OfReads step)
reads_alone step early = record { reads = λ asks end h. (h.0, h.1); early = λ asks r h. early h.0 r h.2 }

pub files_alone : {E X : Type 0} (told : E → Refusal) (step : List Read → Result X E → Type 0) → ((e : E) → is_of_store (told e) ≡ false) → FilesAlone (OfFiles told step)
files_alone told step early = record { reads = λ asks end h. (h.0, h.1); early = λ asks r h. ap is_of_store h.2.2 ∙ early h.2.0 }

pub gives_alone : {X : Type 0} (x : X) → FilesAlone (Decides (λ (end : Result X Refusal). end ≡ Ok x))
gives_alone x = record { reads = λ asks end h. ([], h.none); early = λ asks r h. absurd (err_ok r x h.holds) }

pub early_inputs : (r : InputRefusal) → is_of_store (of_inputs r) ≡ false
early_inputs (inputs.FileFault name) = refl
early_inputs inputs.BadUsers = refl
early_inputs inputs.ShortSecret = refl
early_inputs (inputs.BadRecord at) = refl
early_inputs (inputs.BadImage at) = refl
early_inputs (inputs.BrokenRule method at rule) = refl
early_inputs inputs.Memory = refl

-- the code of a node
pub code_alone : (code : CodeAsked) → FilesAlone (AfterCode code)
code_alone (OfKits names) = then_alone _ _ (reads_alone (KitsGenerated names) (generates_early (KitsLoaded names))) (λ (p : Program). gives_alone _)
code_alone (OfImage file) = then_alone _ _ (files_alone of_inputs (CodeRead file) early_inputs) (λ (i : Image). gives_alone _)

pub inputs_alone : (node : NodeAsked) (file : List ℕ) → FilesAlone (InputsRead node file)
inputs_alone node file =
    then_alone _ _ (code_alone node.code)
    (λ (code : Code). then_alone _ _ (files_alone of_inputs (UsersRead node.users) early_inputs)
    (λ (u : List User). then_alone _ _ (files_alone of_inputs (SecretRead node.secret) early_inputs)
    (λ (s : List ℕ). then_alone _ _ (files_alone of_inputs (RecordRead file) early_inputs) (λ (t : List ℕ). gives_alone _))))

-- ---- opening

-- a store that is refused, or whose payload is
pub of_open : (store : List ℕ) (limit : ℕ) (code : Code) (asks front back : List Ask) (reads : List Read) (r : Refusal) → asks ≡ front ++ back → front ≡ of_reads reads
    → Opened store limit code back (Err r) → StoreAsked IsOpening store asks (Some r)
unfolding Opened
of_open store limit code asks front back reads r parts is (stops s attached e) =
    ends_unattached reads (behind asks front back reads (Attaches store false ∷ []) parts is attached.0) (ap (λ (x : Refusal). Some x) (one_refusal {X = Application} r s e ∙ attached.1))
of_open store limit code asks front back reads r parts is (goes_on g d v second attached (stops s (inl opened) e)) =
    ends_at reads (Opens NotAStore)
    (behind asks front back reads (Attaches store true ∷ Opens NotAStore ∷ []) parts is
    (two_stop back g d (Attaches store true) (Opens NotAStore) second attached opened.0)) tt (ap (λ (x : Refusal). Some x) (one_refusal {X = Application} r s e ∙ opened.1))
of_open store limit code asks front back reads r parts is (goes_on g d v second attached (stops s (inr opened) e)) =
    ends_at reads (Opens Unread)
    (behind asks front back reads (Attaches store true ∷ Opens Unread ∷ []) parts is
    (two_stop back g d (Attaches store true) (Opens Unread) second attached opened.0)) tt (ap (λ (x : Refusal). Some x) (one_refusal {X = Application} r s e ∙ opened.1))
of_open store limit code asks front back reads r parts is (goes_on g d v second attached (goes_on h k payload third opened told)) =
    ends_at reads (Opens (Found payload))
    (behind asks front back reads (Attaches store true ∷ Opens (Found payload) ∷ []) parts is
    (two back g d h k (Attaches store true) (Opens (Found payload)) second attached third opened told.none)) tt
    (inr (r, refl, (of_payload told.holds.reading r told.holds.end_is).five))

-- one that opens to an application
pub record OpenedTo (store : List ℕ) (limit : ℕ) (code : Code) (asks : List Ask) (a : Application) : Type 0 where
  pub payload : List ℕ
  pub asks_are : asks ≡ Attaches store true ∷ Opens (Found payload) ∷ []
  pub is_file : IsFile code limit payload a

pub opened_to : (store : List ℕ) (limit : ℕ) (code : Code) (asks : List Ask) (a : Application) → Opened store limit code asks (Ok a) → OpenedTo store limit code asks a
unfolding Opened
opened_to store limit code asks a (stops s attached e) = absurd (ok_err a s e)
opened_to store limit code asks a (goes_on g d v second attached (stops s opened e)) = absurd (ok_err a s e)
opened_to store limit code asks a (goes_on g d v second attached (goes_on h k payload third opened told)) = record {
  payload = payload;
  asks_are = two asks g d h k (Attaches store true) (Opens (Found payload)) second attached third opened told.none;
  is_file = file_of code limit payload a told.holds.reading told.holds.end_is told.holds.is_read;
}

-- ---- all of it

pub replay_asked : (node : NodeAsked) (file : List ℕ) (asks : List Ask) (r : Refusal) → ReplayComes node file asks (Err r) → StoreAsked IsOpening node.store asks (Some r)
replay_asked node file asks r (stops s read e) =
    let all = (inputs_alone node file).reads asks (Err s) read in
    ends_before all.0 s all.1 (ap (λ (x : Refusal). Some x) (one_refusal {X = List ℕ} r s e)) ((inputs_alone node file).early asks s read)
replay_asked node file asks r (goes_on front back i parts read (stops s opened e)) =
    let all = (inputs_alone node file).reads front (Ok i) read in
    of_open node.store node.limit i.code asks front back all.0 r parts all.1 (subst (λ (x : Refusal). Opened node.store node.limit i.code back (Err x)) (sym (one_refusal {X = List ℕ} r s e)) opened)
replay_asked node file asks r (goes_on front back i parts read (goes_on g d a more opened replays)) = absurd (err_ok r _ replays.end_is)

-- ---- what that did to the disk

-- a name was attached, its store opened, and a node run on it
pub record RanOn {T : Type 0} (D : DiskGhosts T) (store payload : List ℕ) (ran : Ran) (d e : T) : Type 0 where
  pub middle : T
  pub last : Last D store (Opens (Found payload)) d middle
  pub run : IsRan D.meaning ran middle e
