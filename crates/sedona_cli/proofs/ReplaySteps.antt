-- The steps of `replay`, put together from what its calls did.
use Rattle.std.proofs.Common.{◌≡◌, ◌∙◌, ℕ, ℤ, Bool, true, false, List, [], ◌++◌, Some, Result, Ok, Err, inr, refl, sym, ap, subst, append_assoc}
use Rattle.std.specs.Prelude.{IfErr, IfOk, MatchBool, Option}
use Rattle.std.proofs.lemmas.List.{append-nil}
use Rattle.sed_typed.specs.Spelled.{CanBeTold}
use Rattle.sed_outside.specs.declared.files.Files.{Ghosts as FileGhosts}
use Rattle.disk_model.specs.declared.disk.Disk.{Ghosts as DiskGhosts}
use Rattle.app_file.specs.Reading.{IsFile}
use Rattle.disk_model.specs.Disk.{Meaning}
use Rattle.app_save.specs.Saving.{AllOpen, AllStores}
use Rattle.comp_tree.specs.Application.{Application}
use Rattle.dasp_session.specs.declared.user.User.{User}
use Rattle.sed_outside.specs.Steps.{Read, AndThen, Decides, stops, goes_on, UnlessFree}
use Rattle.sed_outside.specs.Reads.{HasReads}
use Rattle.sed_outside.proofs.Joining.{both_reads, no_reads, same_reads, unless_map}
use Rattle.input_files.specs.Refusals.{is_want as inputs_want}
use Rattle.input_files.specs.declared.refusal.InputRefusal.{InputRefusal}
use Rattle.node_events.specs.Node.{Setup, opened}
use Rattle.sed_engine.specs.declared.engine.Engine.{Ghosts}
use Rattle.sed_engine.specs.Code.{Meaning as Code}
use Rattle.sed_engine.specs.Whole.{HasTables}
use Rattle.sed_node.specs.Standing.{StandsFor, code_of, is_fixed, setup_of}
use Rattle.sed_node.specs.declared.kept.Kept.{Kept}
use Rattle.sedona_cli.specs.Given.{GivenRecord, ended_as}
use Rattle.sedona_cli.specs.declared.refusal.Refusal.{Refusal}
use Rattle.sedona_cli.specs.declared.refusal.Refusal.TheVariants.{Memory}
use Rattle.sedona_words.specs.Command.{NodeAsked, Replay}
use Rattle.sedona_cli.specs.Outside.{Ask, of_reads, reads_in, Spares, AreAsked, AsksDisk, HasAsks}
use Rattle.sedona_cli.specs.Program.{ComesOrWants, IsAnswer, done, stopped, OrWants}
use Rattle.sedona_cli.specs.Refusals.{is_want, of_inputs}
use Rattle.sedona_cli.specs.Nodes.{IsReady, Opened}
use Rattle.sedona_cli.specs.Replay.{InputsRead, OpenedBy, Plays, all_put, not_put, ReplayComes}
use Rattle.sedona_cli.specs.Steps.{AfterCode, AfterRecord, AfterSecret, AfterUsers, Meant, OfFiles, OfReads}
use Rattle.sedona_cli.specs.Store.{AppRead, IsRead, OpenedOrWants, StoreAttached, StoreOpened}
use Rattle.sedona_cli.proofs.Asking.{both_asked, both_disk, only_reads, reads_asked, reads_before, reads_spare, same_disk, spares_behind}
use Rattle.sedona_cli.proofs.Building.{either_way, match_both}
use Rattle.sedona_cli.proofs.ReplayAsked.{of_both, opened_to}
use Rattle.sedona_cli.proofs.WithPayload.{found_spares, not_attached, not_opened}
use Rattle.app_file.specs.Reading as payload_read
use Rattle.input_files.specs.declared.refusal.InputRefusal.TheVariants as inputs

-- ---- files

-- a step of reads, as one of what is asked
pub as_read : {T X : Type 0} (F : FileGhosts T) (a b : T) (step : List Read → Result X Refusal → Type 0) (end : Result X Refusal)
    → HasReads F a b (λ reads. UnlessFree is_want (step reads) end) → HasReads F a b (λ reads. UnlessFree is_want (OfReads step (of_reads reads)) end)
as_read F a b step (Ok x) has =
    same_reads F a b (λ reads. UnlessFree is_want (step reads) (Ok x)) (λ reads. UnlessFree is_want (OfReads step (of_reads reads)) (Ok x)) (λ reads held. (reads, refl, held)) has
as_read F a b step (Err r) has =
    same_reads F a b (λ reads. UnlessFree is_want (step reads) (Err r)) (λ reads. UnlessFree is_want (OfReads step (of_reads reads)) (Err r))
    (λ reads held. unless_map (is_want r) (step reads (Err r)) (OfReads step (of_reads reads) (Err r)) (λ h. (reads, refl, h)) held) has

-- an input file
pub input_given : {T X : Type 0} (F : FileGhosts T) (a b : T) (step : List Read → Result X InputRefusal → Type 0) (r : Result X InputRefusal) (x : X) → r ≡ Ok x
    → HasReads F a b (λ reads. UnlessFree inputs_want (step reads) r) → HasReads F a b (λ reads. UnlessFree is_want (OfFiles of_inputs step (of_reads reads)) (Ok x))
input_given {X = X} F a b step r x is has =
    same_reads F a b (λ reads. UnlessFree inputs_want (step reads) (Ok x)) (λ reads. UnlessFree is_want (OfFiles of_inputs step (of_reads reads)) (Ok x)) (λ reads held. (reads, refl, held))
    (subst (λ (e : Result X InputRefusal). HasReads F a b (λ reads. UnlessFree inputs_want (step reads) e)) is has)

input_end : {X : Type 0} (step : List Read → Result X InputRefusal → Type 0) (reads : List Read) (inner : InputRefusal) → UnlessFree inputs_want (step reads) (Err inner)
    → UnlessFree is_want (OfFiles of_inputs step (of_reads reads)) (Err (of_inputs inner))
input_end step reads (inputs.FileFault file) held = (reads, refl, (inputs.FileFault file, held, refl))
input_end step reads inputs.BadUsers held = (reads, refl, (inputs.BadUsers, held, refl))
input_end step reads inputs.ShortSecret held = (reads, refl, (inputs.ShortSecret, held, refl))
input_end step reads (inputs.BadRecord at) held = (reads, refl, (inputs.BadRecord at, held, refl))
input_end step reads (inputs.BadImage at) held = (reads, refl, (inputs.BadImage at, held, refl))
input_end step reads (inputs.BrokenRule method at rule) held = (reads, refl, (inputs.BrokenRule method at rule, held, refl))
input_end step reads inputs.Memory held = tt

pub input_refused : {T X : Type 0} (F : FileGhosts T) (a b : T) (step : List Read → Result X InputRefusal → Type 0) (r : Result X InputRefusal) (inner : InputRefusal) (refusal : Refusal) → r ≡ Err inner → refusal ≡ of_inputs inner
    → HasReads F a b (λ reads. UnlessFree inputs_want (step reads) r) → HasReads F a b (λ reads. UnlessFree is_want (OfFiles of_inputs step (of_reads reads)) (Err refusal))
input_refused {X = X} F a b step r inner refusal is told has =
    subst (λ (e : Refusal). HasReads F a b (λ reads. UnlessFree is_want (OfFiles {X = X} of_inputs step (of_reads reads)) (Err e))) (sym told)
    (same_reads F a b (λ reads. UnlessFree inputs_want (step reads) (Err inner)) (λ reads. UnlessFree is_want (OfFiles of_inputs step (of_reads reads)) (Err (of_inputs inner)))
    (λ reads held. input_end step reads inner held) (subst (λ (e : Result X InputRefusal). HasReads F a b (λ reads. UnlessFree inputs_want (step reads) e)) is has))

-- what reads ask, one step behind the other
pub reads_stop : {T X Y : Type 0} (F : FileGhosts T) (a b : T) (S : List Ask → Result X Refusal → Type 0) (N : X → List Ask → Result Y Refusal → Type 0) (r : Result X Refusal) (refusal : Refusal) → r ≡ Err refusal
    → HasReads F a b (λ reads. UnlessFree is_want (S (of_reads reads)) r) → HasReads F a b (λ reads. UnlessFree is_want (AndThen S N (of_reads reads)) (Err refusal))
reads_stop {X = X} F a b S N r refusal is has =
    same_reads F a b (λ reads. UnlessFree is_want (S (of_reads reads)) (Err refusal)) (λ reads. UnlessFree is_want (AndThen S N (of_reads reads)) (Err refusal))
    (λ reads held. unless_map (is_want refusal) (S (of_reads reads) (Err refusal)) (AndThen S N (of_reads reads) (Err refusal)) (λ h. stops refusal h refl) held)
    (subst (λ (e : Result X Refusal). HasReads F a b (λ reads. UnlessFree is_want (S (of_reads reads)) e)) is has)

go_end : {X Y : Type 0} (S : List Ask → Result X Refusal → Type 0) (N : X → List Ask → Result Y Refusal → Type 0) (x : X) (end : Result Y Refusal) (front back : List Read) → S (of_reads front) (Ok x)
    → UnlessFree is_want (N x (of_reads back)) end → UnlessFree is_want (AndThen S N (of_reads (front ++ back))) end
go_end S N x (Ok y) front back h n = goes_on (of_reads front) (of_reads back) x (of_both front back) h n
go_end S N x (Err r) front back h n =
    unless_map (is_want r) (N x (of_reads back) (Err r)) (AndThen S N (of_reads (front ++ back)) (Err r)) (λ m. goes_on (of_reads front) (of_reads back) x (of_both front back) h m) n

pub reads_go : {T X Y : Type 0} (F : FileGhosts T) (a b c : T) (S : List Ask → Result X Refusal → Type 0) (N : X → List Ask → Result Y Refusal → Type 0) (r : Result X Refusal) (x : X) (end : Result Y Refusal) → r ≡ Ok x
    → HasReads F a b (λ reads. UnlessFree is_want (S (of_reads reads)) r) → HasReads F b c (λ reads. UnlessFree is_want (N x (of_reads reads)) end)
    → HasReads F a c (λ reads. UnlessFree is_want (AndThen S N (of_reads reads)) end)
reads_go {X = X} F a b c S N r x end is first second =
    both_reads F a b c (λ reads. S (of_reads reads) (Ok x)) (λ reads. UnlessFree is_want (N x (of_reads reads)) end) (λ reads. UnlessFree is_want (AndThen S N (of_reads reads)) end)
    (λ front back h n. go_end S N x end front back h n) (subst (λ (e : Result X Refusal). HasReads F a b (λ reads. UnlessFree is_want (S (of_reads reads)) e)) is first) second

pub reads_end : {T X : Type 0} (F : FileGhosts T) (a : T) (x : X) → HasReads F a a (λ reads. UnlessFree is_want (Decides (λ (end : Result X Refusal). end ≡ Ok x) (of_reads reads)) (Ok x))
reads_end {X = X} F a x = no_reads F a (λ reads. UnlessFree is_want (Decides (λ (end : Result X Refusal). end ≡ Ok x) (of_reads reads)) (Ok x)) (record { none = refl; holds = refl })

-- ---- the code of a node

-- what a step ends with, told by its meaning
pub code_meant : {T X : Type 0} (F : FileGhosts T) (a b : T) (S : List Ask → Result X Refusal → Type 0) (meaning : X → Code) (r : Result X Refusal) (x : X) (m : Code) → r ≡ Ok x → m ≡ meaning x
    → HasReads F a b (λ reads. UnlessFree is_want (S (of_reads reads)) r) → HasReads F a b (λ reads. UnlessFree is_want (Meant meaning S (of_reads reads)) (Ok m))
code_meant {X = X} F a b S meaning r x m is means has =
    subst (λ (n : Code). HasReads F a b (λ reads. UnlessFree is_want (Meant meaning S (of_reads reads)) (Ok n))) (sym means)
    (reads_go F a b b S (λ (y : X). Decides (λ end. end ≡ Ok (meaning y))) r x (Ok (meaning x)) is has (reads_end F b (meaning x)))

pub code_unmeant : {T X : Type 0} (F : FileGhosts T) (a b : T) (S : List Ask → Result X Refusal → Type 0) (meaning : X → Code) (r : Result X Refusal) (refusal : Refusal) → r ≡ Err refusal
    → HasReads F a b (λ reads. UnlessFree is_want (S (of_reads reads)) r) → HasReads F a b (λ reads. UnlessFree is_want (Meant meaning S (of_reads reads)) (Err refusal))
code_unmeant {X = X} F a b S meaning r refusal is has = reads_stop F a b S (λ (y : X). Decides (λ end. end ≡ Ok (meaning y))) r refusal is has

pub code_ended : {T X : Type 0} (F : FileGhosts T) (a b : T) (S : List Ask → Result X Refusal → Type 0) (meaning : X → Code) (r : Result X Refusal)
    → HasReads F a b (λ reads. UnlessFree is_want (S (of_reads reads)) r) → HasReads F a b (λ reads. UnlessFree is_want (Meant meaning S (of_reads reads)) (ended_as meaning r))
code_ended F a b S meaning (Ok x) has = code_meant F a b S meaning (Ok x) x (meaning x) refl refl has
code_ended F a b S meaning (Err refusal) has = code_unmeant F a b S meaning (Err refusal) refusal refl has

-- ---- a payload that is read

pub certainly : (b : Bool) (S P : Type 0) → MatchBool b S P → b ≡ false → P
certainly true S P held is = absurd (cc)
certainly false S P held is = held

pub is_read_as : (code : Code) (limit : ℕ) (payload : List ℕ) → HasTables code → CanBeTold code.schema → (m : Code) (most : ℕ) (a : Application) → m ≡ code → most ≡ limit
    → IsFile m most payload a → IsRead code limit payload (Ok a)
is_read_as code limit payload tables told m most a same is_most is = record {
  tables = tables;
  told = told;
  reading = payload_read.file a;
  is_read = subst (λ (n : Code). IsFile n limit payload a) same (subst (λ (n : ℕ). IsFile m n payload a) is_most is);
  end_is = refl;
}

-- ---- a store that is opened

pub stores_open : (S : ℕ) (payload : List ℕ) (m : Meaning) → AllOpen S payload m → AllStores S m
stores_open S payload m opens c left = (opens c left).store

-- it was not attached
pub unattached : {T : Type 0} (D : DiskGhosts T) (d e : T) (store : List ℕ) (limit : ℕ) (code : Code) (refusal : Refusal) → AsksDisk D d e (λ asks. StoreAttached store asks (Err refusal))
    → AsksDisk D d e (λ asks. OrWants (Some store) (Opened store limit code) asks (Err refusal))
unfolding Opened
unattached D d e store limit code refusal has = not_attached D d e store (AppRead code limit) refusal has

-- what opening asked ends it
pub unopened : {T : Type 0} (D : DiskGhosts T) (d e h : T) (store : List ℕ) (limit : ℕ) (code : Code) (refusal : Refusal) → AsksDisk D d e (λ asks. StoreAttached store asks (Ok tt))
    → AsksDisk D e h (λ asks. OpenedOrWants asks (Err refusal)) → AsksDisk D d h (λ asks. OrWants (Some store) (Opened store limit code) asks (Err refusal))
unfolding Opened
unopened D d e h store limit code refusal first second = not_opened D d e h store (AppRead code limit) refusal first second

-- its payload is no application, or memory was wanted behind it
unread_ends : (store : List ℕ) (limit : ℕ) (code : Code) (payload : List ℕ) (refusal : Refusal) (front back : List Ask) → (is_want refusal ≡ false → IsRead code limit payload (Err refusal))
    → StoreAttached store front (Ok tt) → StoreOpened back (Ok payload) → OrWants (Some store) (Opened store limit code) (front ++ back) (Err refusal)
unfolding Opened
unread_ends store limit code payload refusal front back why attached opened =
    either_way (is_want refusal) (Spares (Some store) (front ++ back)) (Opened store limit code (front ++ back) (Err refusal)) (found_spares store payload front back attached opened)
    (λ is. goes_on front back tt refl attached (goes_on back [] payload (sym (append-nil back)) opened (record { none = refl; holds = why is })))

pub unread : {T : Type 0} (D : DiskGhosts T) (d e h : T) (store : List ℕ) (limit : ℕ) (code : Code) (payload : List ℕ) (refusal : Refusal) → AsksDisk D d e (λ asks. StoreAttached store asks (Ok tt))
    → AsksDisk D e h (λ asks. OpenedOrWants asks (Ok payload)) → (is_want refusal ≡ false → IsRead code limit payload (Err refusal))
    → AsksDisk D d h (λ asks. OrWants (Some store) (Opened store limit code) asks (Err refusal))
unread D d e h store limit code payload refusal first second why =
    both_disk D d e h (λ asks. StoreAttached store asks (Ok tt)) (λ asks. OpenedOrWants asks (Ok payload)) (λ asks. OrWants (Some store) (Opened store limit code) asks (Err refusal))
    (λ front back attached opened. unread_ends store limit code payload refusal front back why attached opened) first second

-- it is one
opened_ends : (store : List ℕ) (limit : ℕ) (code : Code) (payload : List ℕ) (a : Application) (front back : List Ask) → IsRead code limit payload (Ok a)
    → StoreAttached store front (Ok tt) → StoreOpened back (Ok payload) → Opened store limit code (front ++ back) (Ok a)
unfolding Opened
opened_ends store limit code payload a front back is attached opened =
    goes_on front back tt refl attached (goes_on back [] payload (sym (append-nil back)) opened (record { none = refl; holds = is }))

-- ---- the answer

-- a run with what was read and opened before it
joined : (node : NodeAsked) (i : GivenRecord) (a : Application) (file : List ℕ) (reads : List Read) (before after : Option (List ℕ)) (fb fa status : ℕ) (front back : List Ask) → InputsRead node file (of_reads reads) (Ok i)
    → OpenedBy node i front (Ok a) → Plays node i a back before after fb fa status → IsAnswer (Replay node file) (of_reads reads ++ (front ++ back)) before after fb fa status
joined node i a file reads before after fb fa status front back read opened (all_put text replays is put steady) =
    done text (goes_on (of_reads reads) (front ++ back) i refl read (goes_on front back a refl opened replays)) is put steady
joined node i a file reads before after fb fa status front back read opened (not_put put last stops_so is rose more) =
    stopped put last (record {
      given = i;
      application = a;
      of_inputs = of_reads reads;
      of_store = front;
      of_run = back;
      asks_are = sym (append_assoc (of_reads reads) front back);
      reads = read;
      opens = opened;
      stops = stops_so;
    }) is rose more

pub run_answers : {T : Type 0} (D : DiskGhosts T) (d m e : T) (node : NodeAsked) (i : GivenRecord) (file : List ℕ) (reads : List Read) (before after : Option (List ℕ)) (fb fa status : ℕ) (P : Application → Type 0)
    → InputsRead node file (of_reads reads) (Ok i) → AsksDisk D d m (λ asks. (a : Application) × OpenedBy node i asks (Ok a) × P a)
    → ((a : Application) → P a → AsksDisk D m e (λ asks. Plays node i a asks before after fb fa status))
    → AsksDisk D d e (λ asks. IsAnswer (Replay node file) (of_reads reads ++ asks) before after fb fa status)
run_answers D d m e node i file reads before after fb fa status P read first next =
    both_disk D d m e (λ asks. OpenedBy node i asks (Ok first.holds.0)) (λ asks. Plays node i first.holds.0 asks before after fb fa status)
    (λ asks. IsAnswer (Replay node file) (of_reads reads ++ asks) before after fb fa status)
    (λ front back opened plays. joined node i first.holds.0 file reads before after fb fa status front back read opened plays)
    (record { asks = first.asks; unread = first.unread; asked = first.asked; holds = first.holds.1 }) (next first.holds.0 first.holds.2)

-- it was refused at the store
refused_behind : (node : NodeAsked) (i : GivenRecord) (file : List ℕ) (reads : List Read) (refusal : Refusal) (asks : List Ask) → InputsRead node file (of_reads reads) (Ok i)
    → OrWants (Some node.store) (OpenedBy node i) asks (Err refusal) → ComesOrWants (Replay node file) (of_reads reads ++ asks) (Err refusal)
refused_behind node i file reads refusal asks read held =
    match_both (is_want refusal) (Spares (Some node.store) asks) (OpenedBy node i asks (Err refusal)) (Spares (Some node.store) (of_reads reads ++ asks)) (ReplayComes node file (of_reads reads ++ asks) (Err refusal))
    (λ spared. spares_behind (Some node.store) reads asks spared) (λ opened. goes_on (of_reads reads) asks i refl read (stops refusal opened refl)) held

pub refusal_answers : {T : Type 0} (D : DiskGhosts T) (d e : T) (node : NodeAsked) (i : GivenRecord) (file : List ℕ) (reads : List Read) (before after : Option (List ℕ)) (fb fa status : ℕ) (refusal : Refusal)
    → InputsRead node file (of_reads reads) (Ok i) → ((asks : List Ask) → ComesOrWants (Replay node file) asks (Err refusal) → IsAnswer (Replay node file) asks before after fb fa status)
    → AsksDisk D d e (λ asks. OrWants (Some node.store) (OpenedBy node i) asks (Err refusal)) → AsksDisk D d e (λ asks. IsAnswer (Replay node file) (of_reads reads ++ asks) before after fb fa status)
refusal_answers D d e node i file reads before after fb fa status refusal read answers has =
    same_disk D d e (λ asks. OrWants (Some node.store) (OpenedBy node i) asks (Err refusal)) (λ asks. IsAnswer (Replay node file) (of_reads reads ++ asks) before after fb fa status)
    (λ asks held. answers (of_reads reads ++ asks) (refused_behind node i file reads refusal asks read held)) has

-- with what is read first
pub replay_goes : {S T : Type 0} (F : FileGhosts S) (D : DiskGhosts T) (x y : S) (d e : T) (node : NodeAsked) (file : List ℕ) (r : Result GivenRecord Refusal) (i : GivenRecord) (P : List Ask → Type 0) → r ≡ Ok i
    → HasReads F x y (λ reads. UnlessFree is_want (InputsRead node file (of_reads reads)) r)
    → ((reads : List Read) → InputsRead node file (of_reads reads) (Ok i) → AsksDisk D d e (λ asks. P (of_reads reads ++ asks))) → HasAsks F D x y d e P
replay_goes F D x y d e node file r i P is has rest =
    same_reads F x y (λ reads. UnlessFree is_want (InputsRead node file (of_reads reads)) (Ok i)) (λ reads. (asks : List Ask) × (reads_in asks ≡ reads) × AreAsked D asks d e × P asks)
    (λ reads held.
    let more = rest reads held in (
      of_reads reads ++ more.asks,
      reads_before reads more.asks more.unread,
      both_asked D (of_reads reads) more.asks d d e (reads_asked D reads d) more.asked,
      more.holds,
    )) (subst (λ (end : Result GivenRecord Refusal). HasReads F x y (λ reads. UnlessFree is_want (InputsRead node file (of_reads reads)) end)) is has)

-- it was refused as it was read
pub replay_refused : {S T : Type 0} (F : FileGhosts S) (D : DiskGhosts T) (x y : S) (d : T) (node : NodeAsked) (file : List ℕ) (r : Result GivenRecord Refusal) (refusal : Refusal) (P : List Ask → Type 0) → r ≡ Err refusal
    → HasReads F x y (λ reads. UnlessFree is_want (InputsRead node file (of_reads reads)) r) → ((asks : List Ask) → ComesOrWants (Replay node file) asks (Err refusal) → P asks) → HasAsks F D x y d d P
replay_refused F D x y d node file r refusal P is has answers =
    only_reads F D x y d P
    (same_reads F x y (λ reads. UnlessFree is_want (InputsRead node file (of_reads reads)) (Err refusal)) (λ reads. P (of_reads reads))
    (λ reads held.
    answers (of_reads reads)
    (match_both (is_want refusal) (Unit {0}) (InputsRead node file (of_reads reads) (Err refusal)) (Spares (Some node.store) (of_reads reads)) (ReplayComes node file (of_reads reads) (Err refusal))
    (λ any. reads_spare (Some node.store) reads) (λ read. stops refusal read refl) held))
    (subst (λ (end : Result GivenRecord Refusal). HasReads F x y (λ reads. UnlessFree is_want (InputsRead node file (of_reads reads)) end)) is has))

-- ---- what is read of the words of a node

-- what stands behind each of its files
abbrev OfText : Code → List User → List ℕ → List ℕ → List Ask → Result GivenRecord Refusal → Type 0
OfText p u s t = Decides (λ (end : Result GivenRecord Refusal). end ≡ Ok (record { code = p; users = u; secret = s; text = t }))

abbrev OfSecret : List ℕ → Code → List User → List ℕ → List Ask → Result GivenRecord Refusal → Type 0
OfSecret file p u s = AndThen (AfterRecord file) (OfText p u s)

abbrev OfUsers : NodeAsked → List ℕ → Code → List User → List Ask → Result GivenRecord Refusal → Type 0
OfUsers node file p u = AndThen (AfterSecret node.secret) (OfSecret file p u)

abbrev OfCode : NodeAsked → List ℕ → Code → List Ask → Result GivenRecord Refusal → Type 0
OfCode node file p = AndThen (AfterUsers node.users) (OfUsers node file p)

abbrev Reads : {T X : Type 0} → FileGhosts T → T → T → (List Ask → Result X Refusal → Type 0) → Result X Refusal → Type 0
Reads F a b S end = HasReads F a b (λ reads. UnlessFree is_want (S (of_reads reads)) end)

module _ {T : Type 0} (F : FileGhosts T) (node : NodeAsked) (file : List ℕ) (x0 x1 : T) (code : Result Code Refusal) (read_code : Reads F x0 x1 (AfterCode node.code) code) where
  pub code_refused : (r : Refusal) → code ≡ Err r → Reads F x0 x1 (InputsRead node file) (Err r)
  code_refused r is = reads_stop F x0 x1 (AfterCode node.code) (OfCode node file) code r is read_code

  module _ (p : Code) (is_code : code ≡ Ok p) (x2 : T) (users : Result (List User) Refusal) (read_users : Reads F x1 x2 (AfterUsers node.users) users) where
    pub users_refused : (r : Refusal) → users ≡ Err r → Reads F x0 x2 (InputsRead node file) (Err r)
    users_refused r is =
        reads_go F x0 x1 x2 (AfterCode node.code) (OfCode node file) code p (Err r) is_code read_code
        (reads_stop F x1 x2 (AfterUsers node.users) (OfUsers node file p) users r is read_users)

    module _ (u : List User) (is_users : users ≡ Ok u) (x3 : T) (secret : Result (List ℕ) Refusal) (read_secret : Reads F x2 x3 (AfterSecret node.secret) secret) where
      pub secret_refused : (r : Refusal) → secret ≡ Err r → Reads F x0 x3 (InputsRead node file) (Err r)
      secret_refused r is =
          reads_go F x0 x1 x3 (AfterCode node.code) (OfCode node file) code p (Err r) is_code read_code
          (reads_go F x1 x2 x3 (AfterUsers node.users) (OfUsers node file p) users u (Err r) is_users read_users
          (reads_stop F x2 x3 (AfterSecret node.secret) (OfSecret file p u) secret r is read_secret))

      module _ (s : List ℕ) (is_secret : secret ≡ Ok s) (x4 : T) (text : Result (List ℕ) Refusal) (read_text : Reads F x3 x4 (AfterRecord file) text) where
        pub record_refused : (r : Refusal) → text ≡ Err r → Reads F x0 x4 (InputsRead node file) (Err r)
        record_refused r is =
            reads_go F x0 x1 x4 (AfterCode node.code) (OfCode node file) code p (Err r) is_code read_code
            (reads_go F x1 x2 x4 (AfterUsers node.users) (OfUsers node file p) users u (Err r) is_users read_users
            (reads_go F x2 x3 x4 (AfterSecret node.secret) (OfSecret file p u) secret s (Err r) is_secret read_secret
            (reads_stop F x3 x4 (AfterRecord file) (OfText p u s) text r is read_text)))

        pub all_read : (t : List ℕ) → text ≡ Ok t → Reads F x0 x4 (InputsRead node file) (Ok (record { code = p; users = u; secret = s; text = t }))
        all_read t is =
            reads_go F x0 x1 x4 (AfterCode node.code) (OfCode node file) code p (Ok given) is_code read_code
            (reads_go F x1 x2 x4 (AfterUsers node.users) (OfUsers node file p) users u (Ok given) is_users read_users
            (reads_go F x2 x3 x4 (AfterSecret node.secret) (OfSecret file p u) secret s (Ok given) is_secret read_secret
            (reads_go F x3 x4 x4 (AfterRecord file) (OfText p u s) text t (Ok given) is read_text (reads_end F x4 given))))
          where
            given : GivenRecord
            given = record { code = p; users = u; secret = s; text = t }

-- ---- an application that is open

-- the store that opened to it is spared
pub open_spares : (store : List ℕ) (limit : ℕ) (code : Code) (asks : List Ask) (a : Application) → Opened store limit code asks (Ok a) → Spares (Some store) asks
open_spares store limit code asks a opened =
    subst (λ (l : List Ask). Spares (Some store) l) (sym (opened_to store limit code asks a opened).asks_are) (record { unwritten = refl; attached = inr (refl, refl) })

pub app_opened : {T X : Type 0} (D : DiskGhosts T) (d e h : T) (store : List ℕ) (limit : ℕ) (code : Code) (payload : List ℕ) (app : X → Application) (r : Result X Refusal)
    → AsksDisk D d e (λ asks. StoreAttached store asks (Ok tt)) → AsksDisk D e h (λ asks. OpenedOrWants asks (Ok payload)) → IfOk r (λ x. IsRead code limit payload (Ok (app x)))
    → IfOk r (λ x. AsksDisk D d h (λ asks. Opened store limit code asks (Ok (app x))))
app_opened D d e h store limit code payload app (Ok x) first second is =
    both_disk D d e h (λ asks. StoreAttached store asks (Ok tt)) (λ asks. OpenedOrWants asks (Ok payload)) (λ asks. Opened store limit code asks (Ok (app x)))
    (λ front back attached opened. opened_ends store limit code payload (app x) front back is attached opened) first second
app_opened D d e h store limit code payload app (Err refusal) first second is = tt

pub app_refused : {T X : Type 0} (D : DiskGhosts T) (d e h : T) (store : List ℕ) (limit : ℕ) (code : Code) (payload : List ℕ) (r : Result X Refusal) → AsksDisk D d e (λ asks. StoreAttached store asks (Ok tt))
    → AsksDisk D e h (λ asks. OpenedOrWants asks (Ok payload)) → IfErr r (λ refusal. is_want refusal ≡ false → IsRead code limit payload (Err refusal))
    → IfErr r (λ refusal. AsksDisk D d h (λ asks. OrWants (Some store) (Opened store limit code) asks (Err refusal)))
app_refused D d e h store limit code payload (Ok x) first second why = tt
app_refused D d e h store limit code payload (Err refusal) first second why = unread D d e h store limit code payload refusal first second why

-- the slots of the store are those that were opened
pub same_slots : {X : Type 0} (r : Result (ℕ × X) Refusal) (slot : ℕ) (m : Meaning) → AllStores slot m → IfOk r (λ held. held.0 ≡ slot) → IfOk r (λ held. AllStores held.0 m)
same_slots (Ok held) slot m stores same = subst (λ (n : ℕ). AllStores n m) (sym same) stores
same_slots (Err refusal) slot m stores same = tt

-- ---- a node that is ready

pub is_ready : {E : Type 0} (g : Ghosts E) (given moment : ℤ) (turns asked slot : ℕ) (code : Code) (users : List User) (secret : List ℕ) (a : Application) (node : Kept E) → given ≡ moment → turns ≡ asked → code_of g node ≡ code
    → setup_of node ≡ (let s : Setup = record { turns = turns; slot = slot } in s) → is_fixed g node ≡ true
    → StandsFor g node (opened code (let s : Setup = record { turns = turns; slot = slot } in s) a users secret given) → IsReady g moment asked code users secret a node
is_ready g given moment turns asked slot code users secret a node same made is_code setup fixed stands = record {
  code_is = is_code;
  turns_are = ap (λ (s : Setup). s.turns) setup ∙ made;
  fixed = fixed;
  stands = subst (λ (t : ℤ). StandsFor g node (opened code (setup_of node) a users secret t)) same
      (subst (λ (s : Setup). StandsFor g node (opened code s a users secret given)) (sym setup) stands);
}

pub ready_of : {T E : Type 0} (D : DiskGhosts T) (d e : T) (g : Ghosts E) (moment : ℤ) (store : List ℕ) (limit : ℕ) (given : Code) (turns : ℕ) (code : Code) (users : List User) (secret : List ℕ) (a : Application)
    (r : Result (Kept E) Refusal) → AsksDisk D d e (λ asks. Opened store limit given asks (Ok a)) → code ≡ given → IfOk r (λ ready. IsReady g moment turns code users secret a ready)
    → IfOk r (λ ready. AsksDisk D d e (λ asks. (x : Application) × Opened store limit given asks (Ok x) × IsReady g moment turns given users secret x ready))
ready_of D d e g moment store limit given turns code users secret a (Ok ready) opened is_code held =
    same_disk D d e (λ asks. Opened store limit given asks (Ok a)) (λ asks. (x : Application) × Opened store limit given asks (Ok x) × IsReady g moment turns given users secret x ready)
    (λ asks opens. (a, opens, subst (λ (m : Code). IsReady g moment turns m users secret a ready) is_code held)) opened
ready_of D d e g moment store limit given turns code users secret a (Err refusal) opened is_code held = tt

pub ready_stores : {E : Type 0} (r : Result (Kept E) Refusal) (slot : ℕ) (m : Meaning) → AllStores slot m → IfOk r (λ ready. (setup_of ready).slot ≡ slot) → IfOk r (λ ready. AllStores (setup_of ready).slot m)
ready_stores (Ok ready) slot m stores same = subst (λ (n : ℕ). AllStores n m) (sym same) stores
ready_stores (Err refusal) slot m stores same = tt

-- memory was wanted for it
pub ready_wants : {T X : Type 0} (D : DiskGhosts T) (d e : T) (store : List ℕ) (limit : ℕ) (code : Code) (a : Application) (r : Result X Refusal) → AsksDisk D d e (λ asks. Opened store limit code asks (Ok a))
    → IfErr r (λ refusal. refusal ≡ Memory) → IfErr r (λ refusal. AsksDisk D d e (λ asks. OrWants (Some store) (Opened store limit code) asks (Err refusal)))
ready_wants D d e store limit code a (Ok x) opened held = tt
ready_wants D d e store limit code a (Err refusal) opened held =
    subst (λ (r : Refusal). AsksDisk D d e (λ asks. OrWants (Some store) (Opened store limit code) asks (Err r))) (sym held)
    (same_disk D d e (λ asks. Opened store limit code asks (Ok a)) (λ asks. OrWants (Some store) (Opened store limit code) asks (Err Memory)) (λ asks opens. open_spares store limit code asks a opens) opened)
