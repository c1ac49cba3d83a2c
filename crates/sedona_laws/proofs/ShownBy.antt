-- The steps of `show`, put together from what its calls did, and what they leave.
use Rattle.std.proofs.Common.{◌≡◌, ◌≢◌, ℕ, true, List, [], ◌∷◌, ◌++◌, Option, Ok, Err, refl, sym, ap, subst, ◌∙◌, inl, inr, arith}
use Rattle.std.specs.Prelude.{IsTrue}
use Rattle.sed_outside.specs.Sink.{with_text, PutsFront}
use Rattle.sed_outside.specs.declared.files.Files.{Ghosts as FileGhosts}
use Rattle.disk_model.specs.Disk.{Image}
use Rattle.disk_model.specs.declared.disk.Disk.{Ghosts as DiskGhosts}
use Rattle.app_save.specs.Store.{IsStore, Opens as IsOpen}
use Rattle.sed_outside.specs.Steps.{Read, stops, goes_on}
use Rattle.sed_outside.proofs.Joining.{same_reads}
use Rattle.sed_typed.specs.declared.program.Program.{Program}
use Rattle.sed_engine.specs.Code.{Meaning as Code}
use Rattle.sed_engine.specs.Program.{meaning_of}
use Rattle.comp_tree.specs.Application.{Application}
use Rattle.app_file.specs.Opens.{Opens as OpensTo}
use Rattle.app_file.specs.Reading.{IsFile, file}
use Rattle.printed_app.specs.Application.{application_text}
use Rattle.sed_check.specs.Loading.{KitsLoaded}
use Rattle.sedona_cli.proofs.Generated.{done_by, generates_early}
use Rattle.sedona_cli.specs.declared.refusal.Refusal.{Refusal}
use Rattle.sedona_cli.specs.declared.refusal.Refusal.TheVariants.{FileFault, ImageBroken, ImageRefused, MethodTooLong, Refused, Rule, SlotTooSmall, DeviceFault, StoreExists, NoStore, NoApplication, WrongKits, OverLimit, BadUsers, ShortSecret, BadRecord, LinkFault, Memory}
use Rattle.sedona_words.specs.Command.{Show}
use Rattle.sedona_cli.specs.Outside.{Ask, Attaches, Opens, Found, NotAStore, of_reads, reads_in, AreAsked, HasAsks, HoldsPayload}
use Rattle.sedona_cli.specs.Puts.{IsOneOf}
use Rattle.sedona_cli.specs.Program.{IsAnswer, done, unput, stopped, refused, wanted}
use Rattle.sedona_laws.specs.Shown.{OpensToNone, Shows, ShowsKept}
use Rattle.sedona_cli.specs.Show.{ShowOf}
use Rattle.sedona_cli.specs.Store.{IsRead, application_in}
use Rattle.sedona_cli.proofs.Ran.{OpensOnce}
use Rattle.sedona_laws.proofs.Agreeing.{one_payload}
use Rattle.sedona_cli.proofs.Asking.{reads_before}
use Rattle.sedona_laws.proofs.Alike.{ReadsOne}
use Rattle.sedona_laws.proofs.CommandEnds.{show_reads}
use Rattle.sedona_cli.proofs.Ends.{err_ok, one_refusal}
use Rattle.sedona_cli.proofs.Puts.{whole_front}
use Rattle.sedona_cli.proofs.StoreAsked.{Last, behind, last_behind, of_refusal, two, two_stop}
use Rattle.sedona_cli.proofs.EarlyEnds.{five}
use Rattle.sedona_cli.proofs.ShowSteps.{Shown, shown_by, behind_sync}

pub opens_to : (program : Program) (limit S : ℕ) (payload : List ℕ) (a : Application) (image : Image) → IsFile (meaning_of program) limit payload a → IsOpen S image payload → OpensTo (meaning_of program) limit image a
opens_to program limit S payload a image is held = record { size = S; payload = payload; store = held; file = is }

shows : {T : Type 0} (D : DiskGhosts T) (names : List (List ℕ)) (store : List ℕ) (limit : ℕ) (asks : List Ask) (text : List ℕ) (before after : Option (List ℕ)) (status : ℕ) (d e : T)
    → (s : Shown names store limit asks text) → AreAsked D asks d e → PutsFront before after text → (status ≡ 0 → after ≡ with_text before text)
    → Shows s.program limit before after status (D.meaning d) (D.meaning e) s.application
shows D names store limit asks text before after status d e s asked front whole = record {
  front = subst (λ (t : List ℕ). PutsFront before after t) s.printed front;
  whole = λ nought. whole nought ∙ ap (with_text before) s.printed;
  opens = λ told. let holds = held told in opens_to s.program limit holds.0 s.payload s.application (D.meaning d).content s.is_file (subst (λ (i : Image). IsOpen holds.0 i s.payload) (last.attached.keeps told).content holds.1);
  since = λ told syncs u image from to later left.
      let holds = held told in
      opens_to s.program limit holds.0 s.payload s.application image s.is_file
      (subst (λ (i : Image). IsOpen holds.0 i s.payload) (sym (behind_sync D store s.payload d e last told syncs u image from to later left)) holds.1);
  left = λ told image left. let holds = held told in opens_to s.program limit holds.0 s.payload s.application image s.is_file (holds.2 image left);
}
  where
    last : Last D store (Opens (Found s.payload)) d e
    last = last_behind D store (Opens (Found s.payload)) asks s.reads d e s.asked asked

    held : IsTrue (D.meaning d).tells → HoldsPayload s.payload (D.meaning last.between) (D.meaning e)
    held told = last.asked.found s.payload refl (last.attached.time.told ∙ told)

-- ---- with status 0 and 8

pub neither : (n : ℕ) → n ≢ 0 → n ≢ 8 → IsOneOf (0 ∷ 8 ∷ []) n → ⊥
neither n zero eight (inl is) = zero is
neither n zero eight (inr (inl is)) = eight is
neither n zero eight (inr (inr never)) = never

pub undone : (r : Refusal) → IsOneOf (0 ∷ 8 ∷ []) (of_refusal r) → ⊥
undone (FileFault name) = neither _ (λ e. omega (arith, e)) (λ e. omega (arith, e))
undone (Refused name why) = neither _ (λ e. omega (arith, e)) (λ e. omega (arith, e))
undone (Rule name at rule) = neither _ (λ e. omega (arith, e)) (λ e. omega (arith, e))
undone (MethodTooLong n) = neither _ (λ e. omega (arith, e)) (λ e. omega (arith, e))
undone (ImageRefused at) = neither _ (λ e. omega (arith, e)) (λ e. omega (arith, e))
undone (ImageBroken method at rule) = neither _ (λ e. omega (arith, e)) (λ e. omega (arith, e))
undone (SlotTooSmall needs has) = neither _ (λ e. omega (arith, e)) (λ e. omega (arith, e))
undone DeviceFault = neither _ (λ e. omega (arith, e)) (λ e. omega (arith, e))
undone StoreExists = neither _ (λ e. omega (arith, e)) (λ e. omega (arith, e))
undone NoStore = neither _ (λ e. omega (arith, e)) (λ e. omega (arith, e))
undone NoApplication = neither _ (λ e. omega (arith, e)) (λ e. omega (arith, e))
undone (WrongKits kit in_file in_kits) = neither _ (λ e. omega (arith, e)) (λ e. omega (arith, e))
undone BadUsers = neither _ (λ e. omega (arith, e)) (λ e. omega (arith, e))
undone ShortSecret = neither _ (λ e. omega (arith, e)) (λ e. omega (arith, e))
undone (BadRecord at) = neither _ (λ e. omega (arith, e)) (λ e. omega (arith, e))
undone LinkFault = neither _ (λ e. omega (arith, e)) (λ e. omega (arith, e))
undone (OverLimit which) = neither _ (λ e. omega (arith, e)) (λ e. omega (arith, e))
undone Memory = neither _ (λ e. omega (arith, e)) (λ e. omega (arith, e))

-- the reads that were made are those of the kits
its_reads : (names : List (List ℕ)) (store : List ℕ) (limit : ℕ) (asks : List Ask) (text : List ℕ) (reads : List Read) → (s : Shown names store limit asks text) → reads_in asks ≡ reads → s.reads ≡ reads
its_reads names store limit asks text reads s is =
    sym (reads_before s.reads (Attaches store true ∷ Opens (Found s.payload) ∷ []) refl) ∙ sym (ap reads_in s.asked) ∙ is

kept_by : {T : Type 0} (D : DiskGhosts T) (names : List (List ℕ)) (store : List ℕ) (limit : ℕ) (asks : List Ask) (reads : List Read) (before after : Option (List ℕ)) (fb fa status : ℕ) (d e : T) → reads_in asks ≡ reads
    → AreAsked D asks d e → IsOneOf (0 ∷ 8 ∷ []) status → IsAnswer (Show names store limit) asks before after fb fa status
    → (program : Program) × KitsLoaded names reads (Ok program) × (a : Application) × Shows program limit before after status (D.meaning d) (D.meaning e) a
kept_by D names store limit asks reads before after fb fa status d e is asked at (done text came nought put same) =
    let s = shown_by names store limit asks text came in (
      s.program,
      subst (λ (r : List Read). KitsLoaded names r (Ok s.program)) (its_reads names store limit asks text reads s is) s.loaded,
      s.application,
      shows D names store limit asks text before after status d e s asked (whole_front before after text put) (λ zero. put),
    )
kept_by D names store limit asks reads before after fb fa status d e is asked at (unput text came at_once eight rose front) =
    let s = shown_by names store limit asks text came in (
      s.program,
      subst (λ (r : List Read). KitsLoaded names r (Ok s.program)) (its_reads names store limit asks text reads s is) s.loaded,
      s.application,
      shows D names store limit asks text before after status d e s asked front (λ zero. absurd (omega (arith, zero, eight))),
    )
kept_by D names store limit asks reads before after fb fa status d e is asked at (stopped put last never eight rose front) = absurd never
kept_by D names store limit asks reads before after fb fa status d e is asked at (refused refusal came number puts) =
    absurd (undone refusal (subst (λ (n : ℕ). IsOneOf (0 ∷ 8 ∷ []) n) number at))
kept_by D names store limit asks reads before after fb fa status d e is asked at (wanted spared seven puts) =
    absurd (neither 7 (λ e. omega (arith, e)) (λ e. omega (arith, e)) (subst (λ (n : ℕ). IsOneOf (0 ∷ 8 ∷ []) n) seven at))

pub shows_kept : {S T : Type 0} (F : FileGhosts S) (D : DiskGhosts T) (x y : S) (d e : T) (names : List (List ℕ)) (store : List ℕ) (limit : ℕ) (before after : Option (List ℕ)) (fb fa status : ℕ)
    → IsOneOf (0 ∷ 8 ∷ []) status → HasAsks F D x y d e (λ asks. IsAnswer (Show names store limit) asks before after fb fa status)
    → ShowsKept F names limit x y (D.meaning d) (D.meaning e) before after status
shows_kept F D x y d e names store limit before after fb fa status at has =
    same_reads F x y _ _ (λ reads held. kept_by D names store limit held.0 reads before after fb fa status d e held.1 held.2 at held.3) has

-- ---- with status 5

-- no application over this code
abbrev pub OpensNone : Code → ℕ → Image → Type 0
OpensNone code limit image = (a : Application) → OpensTo code limit image a → ⊥

pub none_in : ReadsOne → OpensOnce → (code : Code) (limit S : ℕ) (payload : List ℕ) (image : Image) (r : Refusal) → IsOpen S image payload → IsRead code limit payload (Err r) → OpensNone code limit image
none_in one once code limit S payload image r held is a opens =
    let same : payload ≡ opens.payload = one_payload once S opens.size image payload opens.payload held opens.store in
    let kept : IsFile code limit payload a = subst (λ (p : List ℕ). IsFile code limit p a) (sym same) opens.file in
    err_ok r a (is.end_is ∙ ap application_in (one code limit payload is.reading (file a) is.tables is.told is.is_read kept))

none_of : {T : Type 0} → ReadsOne → OpensOnce → (D : DiskGhosts T) (store : List ℕ) (limit : ℕ) (program : Program) (asks front back : List Ask) (reads : List Read) (refusal : Refusal) (d e : T)
    → asks ≡ front ++ back → front ≡ of_reads reads → of_refusal refusal ≡ 5 → IsTrue (D.meaning d).tells → AreAsked D asks d e → ShowOf store limit program back (Err refusal)
    → OpensNone (meaning_of program) limit (D.meaning d).content
unfolding ShowOf
none_of one once D store limit program asks front back reads refusal d e parts is number told asked (stops r h same) =
    absurd (let four_is_five = ap of_refusal (sym (one_refusal refusal r same ∙ h.1)) ∙ number in omega (arith, four_is_five))
none_of one once D store limit program asks front back reads refusal d e parts is number told asked (goes_on g k v second attached (stops r (inr h) same)) =
    absurd (let four_is_five = ap of_refusal (sym (one_refusal refusal r same ∙ h.1)) ∙ number in omega (arith, four_is_five))
none_of one once D store limit program asks front back reads refusal d e parts is number told asked (goes_on g k v second attached (stops r (inl h) same)) = λ a opens.
    let last = last_behind D store (Opens NotAStore) asks reads d e
    (behind asks front back reads (Attaches store true ∷ Opens NotAStore ∷ []) parts is (two_stop back g k (Attaches store true) (Opens NotAStore) second attached h.0)) asked in
    last.asked.no_store refl (last.attached.time.told ∙ told) opens.size
    (subst (λ (i : Image). IsStore opens.size i) (sym (last.attached.keeps told).content) opens.store.store)
none_of one once D store limit program asks front back reads refusal d e parts is number told asked (goes_on g k v second attached (goes_on h j payload third opened (stops r read same))) =
    let last = last_behind D store (Opens (Found payload)) asks reads d e
    (behind asks front back reads (Attaches store true ∷ Opens (Found payload) ∷ []) parts is (two back g k h j (Attaches store true) (Opens (Found payload)) second attached third opened read.none)) asked in
    let held = last.asked.found payload refl (last.attached.time.told ∙ told) in
    none_in one once (meaning_of program) limit held.0 payload (D.meaning d).content r (subst (λ (i : Image). IsOpen held.0 i payload) (last.attached.keeps told).content held.1) read.holds
none_of one once D store limit program asks front back reads refusal d e parts is number told asked (goes_on g k v second attached (goes_on h j payload third opened (goes_on i l a fourth read prints))) =
    absurd (err_ok refusal (application_text (meaning_of program) a) prints.holds)

none_by : {T : Type 0} → ReadsOne → OpensOnce → (D : DiskGhosts T) (names : List (List ℕ)) (store : List ℕ) (limit : ℕ) (asks : List Ask) (reads : List Read) (before after : Option (List ℕ)) (fb fa status : ℕ) (d e : T)
    → reads_in asks ≡ reads → AreAsked D asks d e → status ≡ 5 → IsTrue (D.meaning d).tells → IsAnswer (Show names store limit) asks before after fb fa status
    → (program : Program) × KitsLoaded names reads (Ok program) × OpensNone (meaning_of program) limit (D.meaning d).content
none_by one once D names store limit asks reads before after fb fa status d e is asked five_is told (done text came nought put same) = absurd (omega (arith, nought, five_is))
none_by one once D names store limit asks reads before after fb fa status d e is asked five_is told (unput text came at_once eight rose front) = absurd (omega (arith, eight, five_is))
none_by one once D names store limit asks reads before after fb fa status d e is asked five_is told (stopped put last never eight rose front) = absurd never
none_by one once D names store limit asks reads before after fb fa status d e is asked five_is told (wanted spared seven puts) = absurd (omega (arith, seven, five_is))
none_by one once D names store limit asks reads before after fb fa status d e is asked five_is told (refused refusal (stops r loaded same) number puts) =
    absurd (five r (generates_early (KitsLoaded names) loaded.0 r loaded.2) (ap of_refusal (sym (one_refusal refusal r same)) ∙ sym number ∙ five_is))
none_by one once D names store limit asks reads before after fb fa status d e is asked five_is told (refused refusal (goes_on front back program parts loaded rest) number puts) =
    let none = none_of one once D store limit program asks front back loaded.0 refusal d e parts loaded.1 (sym number ∙ five_is) told asked rest in
    let same : loaded.0 ≡ reads =
    sym (reads_before loaded.0 back (show_reads store limit program back (Err refusal) rest).0)
    ∙ ap (λ (f : List Ask). reads_in (f ++ back)) (sym loaded.1)
    ∙ ap reads_in (sym parts)
    ∙ is
    in
    (program, subst (λ (l : List Read). KitsLoaded names l (Ok program)) same (done_by (KitsLoaded names) loaded.0 program loaded.2).loaded, none)

pub opens_to_none : {S T : Type 0} (F : FileGhosts S) (D : DiskGhosts T) → ReadsOne → OpensOnce → (x y : S) (d e : T) (names : List (List ℕ)) (store : List ℕ) (limit : ℕ) (before after : Option (List ℕ)) (fb fa status : ℕ)
    → status ≡ 5 → IsTrue (D.meaning d).tells → HasAsks F D x y d e (λ asks. IsAnswer (Show names store limit) asks before after fb fa status)
    → OpensToNone F names limit x y (D.meaning d)
opens_to_none F D one once x y d e names store limit before after fb fa status five_is told has =
    same_reads F x y _ _ (λ reads held. none_by one once D names store limit held.0 reads before after fb fa status d e held.1 held.2 five_is told held.3) has
