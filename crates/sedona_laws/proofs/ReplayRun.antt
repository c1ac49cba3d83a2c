-- What a replay shows and leaves, from how it was answered.
use Rattle.std.proofs.Common.{◌≡◌, ℕ, true, List, [], ◌∷◌, ◌++◌, Option, Result, Ok, Err, refl, sym, ap, subst, ◌∙◌, inl, inr, arith}
use Rattle.std.specs.Prelude.{IsTrue}
use Rattle.sed_outside.specs.Sink.{with_text, PutsFront}
use Rattle.sed_outside.specs.declared.files.Files.{Ghosts as FileGhosts}
use Rattle.disk_model.specs.Disk.{Image}
use Rattle.disk_model.specs.declared.disk.Disk.{Ghosts as DiskGhosts}
use Rattle.app_save.specs.Store.{IsStore, Opens as IsOpen}
use Rattle.app_file.specs.Reading.{IsFile}
use Rattle.comp_tree.specs.Application.{Application}
use Rattle.sed_outside.specs.Steps.{Read, stops, goes_on}
use Rattle.sed_outside.proofs.Joining.{same_reads}
use Rattle.sed_engine.specs.Code.{Meaning as Code}
use Rattle.sedona_cli.specs.Given.{GivenRecord}
use Rattle.sedona_cli.specs.declared.refusal.Refusal.{Refusal}
use Rattle.sedona_words.specs.Command.{NodeAsked, Replay}
use Rattle.sedona_cli.specs.Outside.{Ask, Attaches, Opens, Runs, Found, NotAStore, of_reads, reads_in, AreAsked, HasAsks}
use Rattle.sedona_cli.specs.Puts.{IsOneOf}
use Rattle.sedona_cli.specs.Program.{IsAnswer, done, unput, stopped, refused, wanted}
use Rattle.sedona_cli.specs.Nodes.{Opened}
use Rattle.sedona_laws.specs.Replayed.{HoldsNone, Replayed, ReplayedBy, Shows, in_full, in_part}
use Rattle.sedona_cli.specs.Replay.{InputsRead, ReplayComes, ReplayStops}
use Rattle.sedona_cli.proofs.Ran.{OpensOnce}
use Rattle.sedona_laws.proofs.Alike.{ReadsOne}
use Rattle.sedona_cli.proofs.Asking.{asked_behind, reads_before}
use Rattle.sedona_cli.proofs.Ends.{err_ok, ok_err, one_refusal}
use Rattle.sedona_cli.proofs.Ran.{HeldRun, IsLawful, leaves_store}
use Rattle.sedona_laws.proofs.ReplayRan.{RanBy, ran_by, ran_on, ran_until}
use Rattle.sedona_cli.proofs.ReplayAsked.{inputs_alone}
use Rattle.sedona_laws.proofs.ReplayEnds.{open_reads}
use Rattle.sedona_laws.proofs.ShownBy.{OpensNone, neither, none_in, undone}
use Rattle.sedona_cli.proofs.StoreAsked.{behind, last_behind, of_refusal, two, two_stop}
use Rattle.sedona_cli.proofs.EarlyEnds.{five}

-- ---- what is shown and left

module _ {T : Type 0} (once : OpensOnce) (D : DiskGhosts T) (law : IsLawful D) (node : NodeAsked) (file : List ℕ) (asks : List Ask) (by : RanBy node file asks) (d e : T) (asked : AreAsked D asks d e) where
  held : HeldRun D node.store node.limit by.application by.ran d e
  held = record {
    payload = by.payload;
    is_file = subst (λ (m : Code). IsFile m node.limit by.payload by.application) (sym by.is_run.code) by.is_file;
    on = ran_on D node.store by.payload by.ran asks by.reads d e by.asks_are asked;
  }

  pub replayed : (before after : Option (List ℕ)) (status : ℕ) → Shows by.ran by.left before after status → Replayed D node by.inputs before after status d e
  replayed before after status shows = record {
    application = by.application;
    ran = by.ran;
    is_run = by.is_run;
    left = by.left;
    entries = by.entries;
    shows = shows;
    store = leaves_store once D law node.store node.limit by.application by.ran d e held;
    payload = by.payload;
    asks_are = asked_behind D by.reads (Attaches node.store true ∷ Opens (Found by.payload) ∷ Runs by.ran ∷ []) d e (subst (λ (a : List Ask). AreAsked D a d e) by.asks_are asked);
  }

-- ---- with status 0 and 8

ok_text : (a b : List ℕ) → ◌≡◌ {A = Result (List ℕ) Refusal} (Ok a) (Ok b) → a ≡ b
ok_text a b same = cc

-- what was put is the text of the run
shows_all : (node : NodeAsked) (file : List ℕ) (asks : List Ask) (text : List ℕ) (before after : Option (List ℕ)) (status : ℕ) → status ≡ 0 → after ≡ with_text before text
    → (came : ReplayComes node file asks (Ok text)) → (let by : RanBy node file asks = ran_by node file asks text came in Shows by.ran by.left before after status)
unfolding ran_by
shows_all node file asks text before after status nought put (stops s read e) = absurd (ok_err text s e)
shows_all node file asks text before after status nought put (goes_on front back i parts read (stops s opened e)) = absurd (ok_err text s e)
shows_all node file asks text before after status nought put (goes_on front back i parts read (goes_on g d a more opened replays)) =
    in_full replays.sent refl replays.sends nought (put ∙ ap (with_text before) (ok_text text _ replays.end_is))

-- the sink failed it
shows_part : (node : NodeAsked) (file : List ℕ) (asks : List Ask) (put last : List ℕ) (before after : Option (List ℕ)) (status : ℕ) → status ≡ 8 → PutsFront (with_text before put) after last
    → (until : ReplayStops node file asks put last) → (let by : RanBy node file asks = ran_until node file asks put last until in Shows by.ran by.left before after status)
unfolding ran_until
shows_part node file asks put last before after status eight front until = in_part put last until.stops.fails eight front

its_reads : (node : NodeAsked) (file : List ℕ) (asks : List Ask) (reads : List Read) → (by : RanBy node file asks) → reads_in asks ≡ reads → by.reads ≡ reads
its_reads node file asks reads by is =
    sym (reads_before by.reads (Attaches node.store true ∷ Opens (Found by.payload) ∷ Runs by.ran ∷ []) refl) ∙ sym (ap reads_in by.asks_are) ∙ is

with_reads : (node : NodeAsked) (file : List ℕ) (asks : List Ask) (reads : List Read) → (by : RanBy node file asks) → reads_in asks ≡ reads → InputsRead node file (of_reads reads) (Ok by.inputs)
with_reads node file asks reads by is = subst (λ (r : List Read). InputsRead node file (of_reads r) (Ok by.inputs)) (its_reads node file asks reads by is) by.read

kept_by : {T : Type 0} → OpensOnce → (D : DiskGhosts T) → IsLawful D → (node : NodeAsked) (file : List ℕ) (asks : List Ask) (reads : List Read) (before after : Option (List ℕ)) (fb fa status : ℕ) (d e : T) → reads_in asks ≡ reads
    → AreAsked D asks d e → IsOneOf (0 ∷ 8 ∷ []) status → IsAnswer (Replay node file) asks before after fb fa status
    → (inputs : GivenRecord) × InputsRead node file (of_reads reads) (Ok inputs) × Replayed D node inputs before after status d e
kept_by once D law node file asks reads before after fb fa status d e is asked at (done text came nought put same) =
    let by = ran_by node file asks text came in
    (by.inputs, with_reads node file asks reads by is, replayed once D law node file asks by d e asked before after status (shows_all node file asks text before after status nought put came))
kept_by once D law node file asks reads before after fb fa status d e is asked at (unput text came at_once eight rose front) = absurd at_once
kept_by once D law node file asks reads before after fb fa status d e is asked at (stopped put last until eight rose front) =
    let by = ran_until node file asks put last until in
    (by.inputs, with_reads node file asks reads by is, replayed once D law node file asks by d e asked before after status (shows_part node file asks put last before after status eight front until))
kept_by once D law node file asks reads before after fb fa status d e is asked at (refused refusal came number puts) =
    absurd (undone refusal (subst (λ (n : ℕ). IsOneOf (0 ∷ 8 ∷ []) n) number at))
kept_by once D law node file asks reads before after fb fa status d e is asked at (wanted spared seven puts) =
    absurd (neither 7 (λ e. omega (arith, e)) (λ e. omega (arith, e)) (subst (λ (n : ℕ). IsOneOf (0 ∷ 8 ∷ []) n) seven at))

pub replayed_by : {S T : Type 0} (F : FileGhosts S) (D : DiskGhosts T) → OpensOnce → IsLawful D → (x y : S) (d e : T) (node : NodeAsked) (file : List ℕ) (before after : Option (List ℕ)) (fb fa status : ℕ)
    → IsOneOf (0 ∷ 8 ∷ []) status → HasAsks F D x y d e (λ asks. IsAnswer (Replay node file) asks before after fb fa status)
    → ReplayedBy F D node file x y d e before after status
replayed_by F D once law x y d e node file before after fb fa status at has =
    same_reads F x y _ _ (λ reads held. kept_by once D law node file held.0 reads before after fb fa status d e held.1 held.2 at held.3) has

-- ---- with status 5

pub none_of : {T : Type 0} → ReadsOne → OpensOnce → (D : DiskGhosts T) (store : List ℕ) (limit : ℕ) (code : Code) (asks front back : List Ask) (reads : List Read) (refusal : Refusal) (d e : T)
    → asks ≡ front ++ back → front ≡ of_reads reads → of_refusal refusal ≡ 5 → IsTrue (D.meaning d).tells → AreAsked D asks d e → Opened store limit code back (Err refusal)
    → OpensNone code limit (D.meaning d).content
unfolding Opened
none_of one once D store limit code asks front back reads refusal d e parts is number told asked (stops r h same) =
    absurd (let four_is_five = ap of_refusal (sym (one_refusal {X = Application} refusal r same ∙ h.1)) ∙ number in omega (arith, four_is_five))
none_of one once D store limit code asks front back reads refusal d e parts is number told asked (goes_on g k v second attached (stops r (inr h) same)) =
    absurd (let four_is_five = ap of_refusal (sym (one_refusal {X = Application} refusal r same ∙ h.1)) ∙ number in omega (arith, four_is_five))
none_of one once D store limit code asks front back reads refusal d e parts is number told asked (goes_on g k v second attached (stops r (inl h) same)) = λ a opens.
    let last = last_behind D store (Opens NotAStore) asks reads d e
    (behind asks front back reads (Attaches store true ∷ Opens NotAStore ∷ []) parts is (two_stop back g k (Attaches store true) (Opens NotAStore) second attached h.0)) asked in
    last.asked.no_store refl (last.attached.time.told ∙ told) opens.size
    (subst (λ (i : Image). IsStore opens.size i) (sym (last.attached.keeps told).content) opens.store.store)
none_of one once D store limit code asks front back reads refusal d e parts is number told asked (goes_on g k v second attached (goes_on h j payload third opened read)) =
    let last = last_behind D store (Opens (Found payload)) asks reads d e
    (behind asks front back reads (Attaches store true ∷ Opens (Found payload) ∷ []) parts is (two back g k h j (Attaches store true) (Opens (Found payload)) second attached third opened read.none)) asked in
    let held = last.asked.found payload refl (last.attached.time.told ∙ told) in
    none_in one once code limit held.0 payload (D.meaning d).content refusal (subst (λ (i : Image). IsOpen held.0 i payload) (last.attached.keeps told).content held.1) read.holds

none_by : {T : Type 0} → ReadsOne → OpensOnce → (D : DiskGhosts T) (node : NodeAsked) (file : List ℕ) (asks : List Ask) (reads : List Read) (before after : Option (List ℕ)) (fb fa status : ℕ) (d e : T)
    → reads_in asks ≡ reads → AreAsked D asks d e → status ≡ 5 → IsTrue (D.meaning d).tells → IsAnswer (Replay node file) asks before after fb fa status
    → (inputs : GivenRecord) × InputsRead node file (of_reads reads) (Ok inputs) × OpensNone inputs.code node.limit (D.meaning d).content
none_by one once D node file asks reads before after fb fa status d e is asked five_is told (done text came nought put same) = absurd (omega (arith, nought, five_is))
none_by one once D node file asks reads before after fb fa status d e is asked five_is told (unput text came at_once eight rose front) = absurd (omega (arith, eight, five_is))
none_by one once D node file asks reads before after fb fa status d e is asked five_is told (stopped put last until eight rose front) = absurd (omega (arith, eight, five_is))
none_by one once D node file asks reads before after fb fa status d e is asked five_is told (wanted spared seven puts) = absurd (omega (arith, seven, five_is))
none_by one once D node file asks reads before after fb fa status d e is asked five_is told (refused refusal (stops r read same) number puts) =
    absurd (five r ((inputs_alone node file).early asks r read) (ap of_refusal (sym (one_refusal {X = List ℕ} refusal r same)) ∙ sym number ∙ five_is))
none_by one once D node file asks reads before after fb fa status d e is asked five_is told (refused refusal (goes_on front back i parts read (goes_on g k a more opened replays)) number puts) =
    absurd (err_ok refusal _ replays.end_is)
none_by one once D node file asks reads before after fb fa status d e is asked five_is told (refused refusal (goes_on front back i parts read (stops r opened same)) number puts) =
    let all = (inputs_alone node file).reads front (Ok i) read in
    let none = none_of one once D node.store node.limit i.code asks front back all.0 r d e parts all.1 (ap of_refusal (sym (one_refusal {X = List ℕ} refusal r same)) ∙ sym number ∙ five_is) told asked opened in
    let these : all.0 ≡ reads =
    sym (reads_before all.0 back (open_reads node.store node.limit i.code back (Err r) opened))
    ∙ ap (λ (f : List Ask). reads_in (f ++ back)) (sym all.1)
    ∙ ap reads_in (sym parts)
    ∙ is
    in
    (i, subst (λ (l : List Read). InputsRead node file (of_reads l) (Ok i)) these (subst (λ (l : List Ask). InputsRead node file l (Ok i)) all.1 read), none)

pub holds_none : {S T : Type 0} (F : FileGhosts S) (D : DiskGhosts T) → ReadsOne → OpensOnce → (x y : S) (d e : T) (node : NodeAsked) (file : List ℕ) (before after : Option (List ℕ)) (fb fa status : ℕ)
    → status ≡ 5 → IsTrue (D.meaning d).tells → HasAsks F D x y d e (λ asks. IsAnswer (Replay node file) asks before after fb fa status)
    → HoldsNone F node file x y (D.meaning d)
holds_none F D one once x y d e node file before after fb fa status five_is told has =
    same_reads F x y _ _ (λ reads held. none_by one once D node file held.0 reads before after fb fa status d e held.1 held.2 five_is told held.3) has
