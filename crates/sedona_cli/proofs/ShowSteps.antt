-- The steps of `show`, put together from what its calls did, and what they leave.
use Rattle.std.proofs.Common.{◌≡◌, ℕ, true, List, [], ◌∷◌, ◌++◌, Some, Result, Ok, Err, refl, sym, ap, ◌∙◌, inl, inr, arith}
use Rattle.std.specs.Prelude.{IsTrue, OnOk}
use Rattle.std.proofs.lemmas.Bool.{cases_lt}
use Rattle.std.proofs.lemmas.List.{append-nil}
use Rattle.sed_outside.specs.declared.files.Files.{Ghosts as FileGhosts}
use Rattle.disk_model.specs.declared.disk.Disk.{Ghosts as DiskGhosts}
use Rattle.app_save.specs.Saving.{SinceSync}
use Rattle.sed_outside.specs.Steps.{Read, AndThen, stops, goes_on}
use Rattle.sed_outside.specs.Reads.{HasReads}
use Rattle.sed_typed.specs.declared.program.Program.{Program}
use Rattle.sed_engine.specs.Program.{meaning_of}
use Rattle.comp_tree.specs.Application.{Application}
use Rattle.app_file.specs.Reading.{IsFile}
use Rattle.printed_app.specs.Application.{application_text}
use Rattle.sed_check.specs.Loading.{KitsLoaded}
use Rattle.sedona_cli.specs.Steps.{KitsGenerated, Prints}
use Rattle.sedona_cli.proofs.Generated.{done_by}
use Rattle.sedona_cli.specs.declared.refusal.Refusal.{Refusal}
use Rattle.sedona_words.specs.Command.{Show}
use Rattle.sedona_cli.specs.Outside.{Ask, Attaches, Opens, Found, of_reads, Spares, AsksDisk, HasAsks}
use Rattle.sedona_cli.specs.Program.{ComesOrWants, OrWants, SparesDisk}
use Rattle.sedona_cli.specs.Refusals.{is_want}
use Rattle.sedona_cli.specs.Show.{PrintedOrWants, ShowComes, ShowOf}
use Rattle.sedona_cli.specs.Store.{AppRead, IsRead, OpenedOrWants, StoreAttached, StoreOpened}
use Rattle.sedona_cli.proofs.Asking.{both_disk, spares_behind, then_disk}
use Rattle.sedona_cli.proofs.Building.{match_both}
use Rattle.sedona_cli.proofs.Ends.{ok_err}
use Rattle.sedona_cli.proofs.StoreAsked.{Last, behind, file_of, found_disk, last_behind, none_before, two}
use Rattle.sedona_cli.proofs.WithPayload.{found_spares, not_attached, not_opened}

-- what is done with a payload
abbrev Then : ℕ → Program → List ℕ → List Ask → Result (List ℕ) Refusal → Type 0
Then limit program payload = AndThen (AppRead (meaning_of program) limit payload) (λ (a : Application). Prints (application_text (meaning_of program) a))

-- it was not attached
pub unattached : {T : Type 0} (D : DiskGhosts T) (d e : T) (store : List ℕ) (limit : ℕ) (program : Program) (refusal : Refusal) → AsksDisk D d e (λ asks. StoreAttached store asks (Err refusal))
    → AsksDisk D d e (λ asks. OrWants (Some store) (ShowOf store limit program) asks (Err refusal))
unfolding ShowOf
unattached D d e store limit program refusal has = not_attached D d e store (Then limit program) refusal has

-- what opening asked ends it
pub unopened : {T : Type 0} (D : DiskGhosts T) (d e h : T) (store : List ℕ) (limit : ℕ) (program : Program) (refusal : Refusal) → AsksDisk D d e (λ asks. StoreAttached store asks (Ok tt))
    → AsksDisk D e h (λ asks. OpenedOrWants asks (Err refusal)) → AsksDisk D d h (λ asks. OrWants (Some store) (ShowOf store limit program) asks (Err refusal))
unfolding ShowOf
unopened D d e h store limit program refusal first second = not_opened D d e h store (Then limit program) refusal first second

-- the payload is read, and printed
printed_ends : (store : List ℕ) (limit : ℕ) (program : Program) (payload : List ℕ) (end : Result (List ℕ) Refusal) (front back : List Ask) → PrintedOrWants (meaning_of program) limit payload end
    → StoreAttached store front (Ok tt) → StoreOpened back (Ok payload) → OrWants (Some store) (ShowOf store limit program) (front ++ back) end
unfolding ShowOf
printed_ends store limit program payload (Ok text) front back (a, is, same) attached opened =
    goes_on front back tt refl attached
    (goes_on back [] payload (sym (append-nil back)) opened (goes_on [] [] a refl (record { none = refl; holds = is }) (record { none = refl; holds = ap Ok same })))
printed_ends store limit program payload (Err refusal) front back held attached opened =
    match_both (is_want refusal) (Unit {0}) (IsRead (meaning_of program) limit payload (Err refusal)) (Spares (Some store) (front ++ back)) _
    (λ any. found_spares store payload front back attached opened)
    (λ is. goes_on front back tt refl attached
    (goes_on back [] payload (sym (append-nil back)) opened (stops refusal (record { none = refl; holds = is }) refl))) held

pub all_shown : {T : Type 0} (D : DiskGhosts T) (d e h : T) (store : List ℕ) (limit : ℕ) (program : Program) (payload : List ℕ) (end : Result (List ℕ) Refusal) → AsksDisk D d e (λ asks. StoreAttached store asks (Ok tt))
    → AsksDisk D e h (λ asks. OpenedOrWants asks (Ok payload)) → PrintedOrWants (meaning_of program) limit payload end → AsksDisk D d h (λ asks. OrWants (Some store) (ShowOf store limit program) asks end)
all_shown D d e h store limit program payload end first second printed =
    both_disk D d e h (λ asks. StoreAttached store asks (Ok tt)) (λ asks. OpenedOrWants asks (Ok payload)) (λ asks. OrWants (Some store) (ShowOf store limit program) asks end)
    (λ front back attached opened. printed_ends store limit program payload end front back printed attached opened) first second

-- ---- the kits, and then that

joined : (names : List (List ℕ)) (store : List ℕ) (limit : ℕ) (program : Program) (end : Result (List ℕ) Refusal) (reads : List Read) (asks : List Ask)
    → KitsGenerated names reads (Ok program) → OrWants (Some store) (ShowOf store limit program) asks end → ComesOrWants (Show names store limit) (of_reads reads ++ asks) end
joined names store limit program (Ok text) reads asks loaded rest = goes_on (of_reads reads) asks program refl (reads, refl, loaded) rest
joined names store limit program (Err refusal) reads asks loaded rest =
    match_both (is_want refusal) (Spares (Some store) asks) (ShowOf store limit program asks (Err refusal)) (Spares (Some store) (of_reads reads ++ asks)) (ShowComes names store limit (of_reads reads ++ asks) (Err refusal))
    (λ spared. spares_behind (Some store) reads asks spared) (λ came. goes_on (of_reads reads) asks program refl (reads, refl, loaded) came) rest

pub show_goes : {S T : Type 0} (F : FileGhosts S) (D : DiskGhosts T) (a b : S) (d e : T) (names : List (List ℕ)) (store : List ℕ) (limit : ℕ) (program : Program) (end : Result (List ℕ) Refusal)
    → HasReads F a b (λ reads. KitsGenerated names reads (Ok program)) → AsksDisk D d e (λ asks. OrWants (Some store) (ShowOf store limit program) asks end)
    → HasAsks F D a b d e (λ asks. ComesOrWants (Show names store limit) asks end)
show_goes F D a b d e names store limit program end loaded rest =
    then_disk F D a b d e (λ reads. KitsGenerated names reads (Ok program)) (λ asks. OrWants (Some store) (ShowOf store limit program) asks end) (λ asks. ComesOrWants (Show names store limit) asks end)
    (λ reads asks held more. joined names store limit program end reads asks held more) loaded rest

-- ---- what was shown

-- a program, its payload and its application, and what was asked then
pub record Shown (names : List (List ℕ)) (store : List ℕ) (limit : ℕ) (asks : List Ask) (text : List ℕ) : Type 0 where
  pub reads : List Read
  pub program : Program
  pub loaded : KitsLoaded names reads (Ok program)
  pub payload : List ℕ
  pub asked : asks ≡ of_reads reads ++ Attaches store true ∷ Opens (Found payload) ∷ []
  pub application : Application
  pub is_file : IsFile (meaning_of program) limit payload application
  pub printed : text ≡ application_text (meaning_of program) application

ok_text : (a b : List ℕ) → ◌≡◌ {A = Result (List ℕ) Refusal} (Ok a) (Ok b) → a ≡ b
ok_text a b same = cc

pub shown_by : (names : List (List ℕ)) (store : List ℕ) (limit : ℕ) (asks : List Ask) (text : List ℕ) → ShowComes names store limit asks (Ok text) → Shown names store limit asks text
unfolding ShowOf
shown_by names store limit asks text (stops r loaded e) = absurd (ok_err text r e)
shown_by names store limit asks text (goes_on front back program parts loaded (stops r h e)) = absurd (ok_err text r e)
shown_by names store limit asks text (goes_on front back program parts loaded (goes_on g d v second attached (stops r h e))) = absurd (ok_err text r e)
shown_by names store limit asks text (goes_on front back program parts loaded (goes_on g d v second attached (goes_on h k payload third opened (stops r told e)))) = absurd (ok_err text r e)
shown_by names store limit asks text (goes_on front back program parts loaded (goes_on g d v second attached (goes_on h k payload third opened (goes_on i j a fourth told prints)))) = record {
  reads = loaded.0;
  program = program;
  loaded = (done_by (KitsLoaded names) loaded.0 program loaded.2).loaded;
  payload = payload;
  asked = behind asks front back loaded.0 (Attaches store true ∷ Opens (Found payload) ∷ []) parts loaded.1
      (two back g d h k (Attaches store true) (Opens (Found payload)) second attached third opened (none_before k i j fourth told.none ∙ prints.none));
  application = a;
  is_file = file_of (meaning_of program) limit payload a told.holds.reading told.holds.end_is told.holds.is_read;
  printed = ok_text text (application_text (meaning_of program) a) prints.holds;
}

-- from the opening's sync on a crash leaves what was opened
pub behind_sync : {T : Type 0} (D : DiskGhosts T) (store payload : List ℕ) (d e : T) → (last : Last D store (Opens (Found payload)) d e) → IsTrue (D.meaning d).tells → IsTrue (D.meaning d).tells_syncs
    → SinceSync (D.meaning d) (D.meaning e) (λ image. image ≡ (D.meaning last.between).content)
behind_sync D store payload d e last told syncs u image from to later left =
    let syncs_b : IsTrue (D.meaning last.between).tells_syncs = last.attached.time.told_syncs ∙ syncs in
    let told_b : IsTrue (D.meaning last.between).tells = last.attached.time.told ∙ told in
    elim (cases_lt u (D.meaning last.between).now) [
      | inl in_first ↦
          let past = last.asked.time.past_syncs syncs_b u (omega (arith, in_first)) in
          let none = (last.attached.syncs syncs).until u from in_first in
          absurd (omega (arith, later, past, none))
      | inr in_second ↦
          let none = (last.attached.syncs syncs).at_end in
          last.asked.since told_b syncs_b u image in_second to (omega (arith, later, none)) left
    ]

-- ---- what it leaves

pub show_spares : {S T : Type 0} (F : FileGhosts S) (D : DiskGhosts T) (x y : S) (d e : T) (names : List (List ℕ)) (store : List ℕ) (limit : ℕ) (end : Result (List ℕ) Refusal)
    → HasAsks F D x y d e (λ asks. ComesOrWants (Show names store limit) asks end) → OnOk end (SparesDisk (D.meaning d) (D.meaning e))
show_spares F D x y d e names store limit (Ok text) has =
    let s = shown_by names store limit has.holds.0 text has.holds.3 in
    found_disk D store s.payload d e (last_behind D store (Opens (Found s.payload)) has.holds.0 s.reads d e s.asked has.holds.2)
show_spares F D x y d e names store limit (Err refusal) has = tt
