-- The steps of commands, put together from what their calls did.
use Rattle.std.proofs.Common.{◌≡◌, ◌≤◌, ◌<◌, ℕ, Bool, true, false, List, [], ◌∷◌, ◌++◌, length, Option, Some, Result, Ok, Err, refl, sym, ap, subst, ◌∙◌, inl, inr}
use Rattle.std.specs.Prelude.{IsTrue, IsOk, MatchBool, OnOk}
use Rattle.std.proofs.lemmas.List.{append-nil}
use Rattle.sed_outside.specs.declared.files.Files.{Ghosts as FileGhosts}
use Rattle.disk_model.specs.Disk.{Meaning, MarksUp}
use Rattle.disk_model.specs.declared.disk.Disk.{Ghosts as DiskGhosts}
use Rattle.app_save.specs.Saving.{AllOpen}
use Rattle.sed_outside.specs.Steps.{Read, AndThen, stops, goes_on, UnlessFree}
use Rattle.sed_outside.specs.Reads.{HasReads}
use Rattle.sed_outside.proofs.Joining.{no_reads, same_reads}
use Rattle.sed_engine.specs.Program.{meaning_of}
use Rattle.sed_typed.specs.declared.program.Program.{Program}
use Rattle.sed_check.specs.declared.refusal.KitsRefusal.{KitsRefusal}
use Rattle.sed_check.specs.Loading.{KitsLoaded}
use Rattle.sed_check.specs.Refusals.{is_want as kits_want}
use Rattle.app_writer.specs.Alone.{AllNew}
use Rattle.sedona_cli.specs.declared.refusal.Refusal.{Refusal}
use Rattle.sedona_cli.specs.declared.refusal.Refusal.TheVariants.{SlotTooSmall}
use Rattle.sedona_words.specs.Command.{New}
use Rattle.sedona_cli.specs.New.{LeavesNew, NewComes, NewOf, most_data, text_of}
use Rattle.sedona_cli.specs.Outside.{Ask, Attaches, Makes, Whole, reads_in, of_reads, Spares, AreAsked, AsksDisk, HasAsks}
use Rattle.sedona_cli.specs.Program.{ComesOrWants, OrWants}
use Rattle.sedona_cli.specs.Refusals.{is_want, of_kits}
use Rattle.sedona_cli.specs.Steps.{Generates, IsGenerated, KitsGenerated, OfReads, Prints, done_text}
use Rattle.sedona_cli.specs.Store.{StoreAttached, StoreMade}
use Rattle.sedona_cli.proofs.Asking.{reads_spare, spares_behind, then_disk, both_disk, same_disk}
use Rattle.sedona_cli.proofs.Ends.{ok_err, one_refusal}
use Rattle.sedona_cli.proofs.Generated.{done_by, generates, unloaded}
use Rattle.sedona_cli.proofs.StoreAsked.{Last, last_behind, marks_made}
use Rattle.sed_check.specs.declared.refusal.KitsRefusal.TheVariants as kits

-- ---- want of memory or not

pub either_way : (b : Bool) (S P : Type 0) → S → (b ≡ false → P) → MatchBool b S P
either_way true S P s p = s
either_way false S P s p = p refl

pub for_certain : (b : Bool) (S P : Type 0) → b ≡ false → P → MatchBool b S P
for_certain true S P is p = absurd (cc)
for_certain false S P is p = p

pub match_both : (b : Bool) (S P T Q : Type 0) → (S → T) → (P → Q) → MatchBool b S P → MatchBool b T Q
match_both true S P T Q f g s = f s
match_both false S P T Q f g p = g p

pub nothing_spared : (store : Option (List ℕ)) → Spares store []
nothing_spared store = record { unwritten = refl; attached = inl refl }

-- ---- loading

-- why a program is not loaded, or is not compiled
unloaded_end : (step : List Read → Result Program KitsRefusal → Type 0) (reads : List Read) (inner : KitsRefusal) → UnlessFree kits_want (step reads) (Err inner)
    → UnlessFree is_want (Generates step reads) (Err (of_kits inner))
unloaded_end step reads (kits.FileFault file) held = unloaded step reads (kits.FileFault file) held
unloaded_end step reads (kits.Refused file why) held = unloaded step reads (kits.Refused file why) held
unloaded_end step reads (kits.Rule file at rule) held = unloaded step reads (kits.Rule file at rule) held
unloaded_end step reads kits.Memory held = tt

pub not_loaded : {T : Type 0} (F : FileGhosts T) (a b : T) (step : List Read → Result Program KitsRefusal → Type 0) (r : Result Program KitsRefusal) (inner : KitsRefusal) (refusal : Refusal) → r ≡ Err inner → refusal ≡ of_kits inner
    → HasReads F a b (λ reads. UnlessFree kits_want (step reads) r) → HasReads F a b (λ reads. UnlessFree is_want (Generates step reads) (Err refusal))
not_loaded F a b step r inner refusal is same has =
    subst (λ (e : Refusal). HasReads F a b (λ reads. UnlessFree is_want (Generates step reads) (Err e))) (sym same)
    (same_reads F a b (λ reads. UnlessFree kits_want (step reads) (Err inner)) (λ reads. UnlessFree is_want (Generates step reads) (Err (of_kits inner))) (λ reads held. unloaded_end step reads inner held)
    (subst (λ (e : Result Program KitsRefusal). HasReads F a b (λ reads. UnlessFree kits_want (step reads) e)) is has))

generated_end : (step : List Read → Result Program KitsRefusal → Type 0) (reads : List Read) (program : Program) (end : Result Program Refusal) → step reads (Ok program) → UnlessFree is_want (IsGenerated program) end
    → UnlessFree is_want (Generates step reads) end
generated_end step reads program (Ok p) loaded held = generates step reads program (Ok p) loaded held
generated_end step reads program (Err r) loaded held =
    match_both (is_want r) (Unit {0}) (IsGenerated program (Err r)) (Unit {0}) (Generates step reads (Err r)) (λ any. tt) (λ is. generates step reads program (Err r) loaded is) held

pub is_compiled : {T : Type 0} (F : FileGhosts T) (a b : T) (step : List Read → Result Program KitsRefusal → Type 0) (r : Result Program KitsRefusal) (program : Program) (end : Result Program Refusal) → r ≡ Ok program
    → HasReads F a b (λ reads. UnlessFree kits_want (step reads) r) → UnlessFree is_want (IsGenerated program) end → HasReads F a b (λ reads. UnlessFree is_want (Generates step reads) end)
is_compiled F a b step r program end is has held =
    same_reads F a b (λ reads. UnlessFree kits_want (step reads) (Ok program)) (λ reads. UnlessFree is_want (Generates step reads) end) (λ reads loaded. generated_end step reads program end loaded held)
    (subst (λ (e : Result Program KitsRefusal). HasReads F a b (λ reads. UnlessFree kits_want (step reads) e)) is has)

-- ---- commands that read alone

-- its text is made
pub comes_done : {T : Type 0} (F : FileGhosts T) (a b : T) (step : List Read → Result Program Refusal → Type 0) (text : Program → List ℕ) (program : Program)
    (r : Result Program Refusal) (printed : List ℕ) → r ≡ Ok program → HasReads F a b (λ reads. UnlessFree is_want (step reads) r) → printed ≡ text program
    → HasReads F a b (λ reads. AndThen (OfReads step) (λ p. Prints (text p)) (of_reads reads) (Ok printed))
comes_done F a b step text program r printed is loaded made =
    same_reads F a b (λ reads. UnlessFree is_want (step reads) r) (λ reads. AndThen (OfReads step) (λ p. Prints (text p)) (of_reads reads) (Ok printed))
    (λ reads held.
    let done : step reads (Ok program) = subst (λ (e : Result Program Refusal). UnlessFree is_want (step reads) e) is held in
    goes_on (of_reads reads) [] program (sym (append-nil (of_reads reads))) (reads, refl, done) (record { none = refl; holds = ap Ok made })) loaded

-- it is refused as it is loaded
pub comes_refused : {T : Type 0} (F : FileGhosts T) (a b : T) (store : Option (List ℕ)) (step : List Read → Result Program Refusal → Type 0) (next : Program → List Ask → Result (List ℕ) Refusal → Type 0)
    (r : Result Program Refusal) (refusal : Refusal) → r ≡ Err refusal → HasReads F a b (λ reads. UnlessFree is_want (step reads) r)
    → HasReads F a b (λ reads. OrWants store (AndThen (OfReads step) next) (of_reads reads) (Err refusal))
comes_refused F a b store step next r refusal is loaded =
    same_reads F a b (λ reads. UnlessFree is_want (step reads) r) (λ reads. OrWants store (AndThen (OfReads step) next) (of_reads reads) (Err refusal))
    (λ reads held.
    match_both (is_want refusal) (Unit {0}) (step reads (Err refusal)) (Spares store (of_reads reads)) (AndThen (OfReads step) next (of_reads reads) (Err refusal))
    (λ any. reads_spare store reads) (λ told. stops refusal (reads, refl, told) refl)
    (subst (λ (e : Result Program Refusal). UnlessFree is_want (step reads) e) is held)) loaded

-- memory was wanted behind the reads
pub comes_wanting : {T : Type 0} (F : FileGhosts T) (a b : T) (store : Option (List ℕ)) (P : List Read → Type 0) → HasReads F a b P → HasReads F a b (λ reads. Spares store (of_reads reads))
comes_wanting F a b store P has = same_reads F a b P (λ reads. Spares store (of_reads reads)) (λ reads held. reads_spare store reads) has

-- nothing was asked of files either
pub no_asks : {S T : Type 0} (F : FileGhosts S) (D : DiskGhosts T) (a : S) (d : T) (P : List Ask → Type 0) → P [] → HasAsks F D a a d d P
no_asks F D a d P holds = no_reads F a (λ reads. (asks : List Ask) × (reads_in asks ≡ reads) × AreAsked D asks d d × P asks) ([], refl, refl, holds)

-- ---- attaching and making

pub attach_stops : {T : Type 0} (D : DiskGhosts T) (a b : T) (store : List ℕ) (slot : ℕ) (text : List ℕ) (refusal : Refusal) → AsksDisk D a b (λ asks. StoreAttached store asks (Err refusal))
    → AsksDisk D a b (λ asks. AndThen (StoreAttached store) (λ (attached : Unit {0}). StoreMade slot text) asks (Err refusal))
attach_stops D a b store slot text refusal has =
    same_disk D a b (λ asks. StoreAttached store asks (Err refusal)) (λ asks. AndThen (StoreAttached store) (λ (attached : Unit {0}). StoreMade slot text) asks (Err refusal))
    (λ asks held. stops refusal held refl) has

pub attach_goes : {T : Type 0} (D : DiskGhosts T) (a b c : T) (store : List ℕ) (slot : ℕ) (text : List ℕ) (end : Result (Unit {0}) Refusal) → AsksDisk D a b (λ asks. StoreAttached store asks (Ok tt))
    → AsksDisk D b c (λ asks. StoreMade slot text asks end) → AsksDisk D a c (λ asks. AndThen (StoreAttached store) (λ (attached : Unit {0}). StoreMade slot text) asks end)
attach_goes D a b c store slot text end first second =
    both_disk D a b c (λ asks. StoreAttached store asks (Ok tt)) (λ asks. StoreMade slot text asks end)
    (λ asks. AndThen (StoreAttached store) (λ (attached : Unit {0}). StoreMade slot text) asks end) (λ front back p q. goes_on front back tt refl p q) first second

-- a refusal of these is no want of memory
store_certain : (store : List ℕ) (slot : ℕ) (text : List ℕ) (asks : List Ask) (refusal : Refusal) → AndThen (StoreAttached store) (λ (attached : Unit {0}). StoreMade slot text) asks (Err refusal) → is_want refusal ≡ false
store_certain store slot text asks refusal (stops r h e) = ap is_want (one_refusal refusal r e ∙ h.1)
store_certain store slot text asks refusal (goes_on f b u parts h (inl made)) = ap is_want made.1
store_certain store slot text asks refusal (goes_on f b u parts h (inr made)) = ap is_want made.1

-- ---- with a program

-- the slot is too small, or memory was wanted
pub unmeasured : {T : Type 0} (D : DiskGhosts T) (d : T) (store : List ℕ) (slot : ℕ) (program : Program) (refusal : Refusal)
    → (is_want refusal ≡ false → (refusal ≡ SlotTooSmall (length (text_of program)) slot) × (slot < length (text_of program)))
    → AsksDisk D d d (λ asks. OrWants (Some store) (NewOf store slot program) asks (Err refusal))
unfolding NewOf
unmeasured D d store slot program refusal why = record {
  asks = [];
  unread = refl;
  asked = refl;
  holds = either_way (is_want refusal) (Spares (Some store) []) _ (nothing_spared (Some store))
      (λ is. stops refusal (record { none = refl; holds = why is }) refl);
}

-- it was refused by the disk or by what stands on it
pub unmade : {T : Type 0} (D : DiskGhosts T) (d e : T) (store : List ℕ) (slot : ℕ) (text : List ℕ) (program : Program) (refusal : Refusal) → text ≡ text_of program → length (text_of program) ≤ slot
    → AsksDisk D d e (λ asks. AndThen (StoreAttached store) (λ (attached : Unit {0}). StoreMade slot text) asks (Err refusal))
    → AsksDisk D d e (λ asks. OrWants (Some store) (NewOf store slot program) asks (Err refusal))
unfolding NewOf
unmade D d e store slot text program refusal same fits has =
    same_disk D d e (λ asks. AndThen (StoreAttached store) (λ (attached : Unit {0}). StoreMade slot text) asks (Err refusal)) _
    (λ asks held.
    for_certain (is_want refusal) (Spares (Some store) asks) _ (store_certain store slot text asks refusal held)
    (goes_on [] asks tt refl (record { none = refl; holds = fits }) (more asks (subst (λ (t : List ℕ). AndThen (StoreAttached store) (λ (attached : Unit {0}). StoreMade slot t) asks (Err refusal)) same held)))) has
  where
    more : (asks : List Ask) → AndThen (StoreAttached store) (λ (attached : Unit {0}). StoreMade slot (text_of program)) asks (Err refusal)
        → AndThen (StoreAttached store) (λ (attached : Unit {0}). AndThen (StoreMade slot (text_of program)) (λ (made : Unit {0}). Prints done_text)) asks (Err refusal)
    more asks (stops r h is) = stops r h (ap Err (one_refusal refusal r is))
    more asks (goes_on f b u parts h m) = goes_on f b u parts h (stops refusal m refl)

-- it was made
pub all_made : {T : Type 0} (D : DiskGhosts T) (d e : T) (store : List ℕ) (slot : ℕ) (text printed : List ℕ) (program : Program) → text ≡ text_of program → length (text_of program) ≤ slot → printed ≡ done_text
    → AsksDisk D d e (λ asks. AndThen (StoreAttached store) (λ (attached : Unit {0}). StoreMade slot text) asks (Ok tt))
    → AsksDisk D d e (λ asks. OrWants (Some store) (NewOf store slot program) asks (Ok printed))
unfolding NewOf
all_made D d e store slot text printed program same fits print has =
    same_disk D d e (λ asks. AndThen (StoreAttached store) (λ (attached : Unit {0}). StoreMade slot text) asks (Ok tt)) _
    (λ asks held.
    goes_on [] asks tt refl (record { none = refl; holds = fits })
    (more asks (subst (λ (t : List ℕ). AndThen (StoreAttached store) (λ (attached : Unit {0}). StoreMade slot t) asks (Ok tt)) same held))) has
  where
    more : (asks : List Ask) → AndThen (StoreAttached store) (λ (attached : Unit {0}). StoreMade slot (text_of program)) asks (Ok tt)
        → AndThen (StoreAttached store) (λ (attached : Unit {0}). AndThen (StoreMade slot (text_of program)) (λ (made : Unit {0}). Prints done_text)) asks (Ok printed)
    more asks (stops r h is) = absurd (ok_err tt r is)
    more asks (goes_on f b u parts h m) = goes_on f b u parts h (goes_on b [] tt (sym (append-nil b)) m (record { none = refl; holds = ap Ok print }))

-- what was asked then
asked_both : (store : List ℕ) (slot : ℕ) (text : List ℕ) (asks : List Ask) → AndThen (StoreAttached store) (λ (attached : Unit {0}). StoreMade slot text) asks (Ok tt)
    → asks ≡ of_reads [] ++ Attaches store true ∷ Makes slot text Whole ∷ []
asked_both store slot text asks (stops r h is) = absurd (ok_err tt r is)
asked_both store slot text asks (goes_on f b u parts h m) = parts ∙ ap (λ (l : List Ask). l ++ b) h ∙ ap (λ (l : List Ask). Attaches store true ∷ l) m

pub both_of : {T : Type 0} (D : DiskGhosts T) (d e : T) (store : List ℕ) (slot : ℕ) (text : List ℕ) → AsksDisk D d e (λ asks. AndThen (StoreAttached store) (λ (attached : Unit {0}). StoreMade slot text) asks (Ok tt))
    → Last D store (Makes slot text Whole) d e
both_of D d e store slot text has = last_behind D store (Makes slot text Whole) has.asks [] d e (asked_both store slot text has.asks has.holds) has.asked

pub made_marks : {T : Type 0} (D : DiskGhosts T) (d e : T) (store : List ℕ) (slot : ℕ) (text : List ℕ) → AsksDisk D d e (λ asks. AndThen (StoreAttached store) (λ (attached : Unit {0}). StoreMade slot text) asks (Ok tt))
    → MarksUp (D.meaning d) (D.meaning e) 1
made_marks D d e store slot text has = marks_made D store slot text d e (both_of D d e store slot text has)

pub made_opens : {T : Type 0} (D : DiskGhosts T) (d e : T) (store : List ℕ) (slot : ℕ) (text : List ℕ) → AsksDisk D d e (λ asks. AndThen (StoreAttached store) (λ (attached : Unit {0}). StoreMade slot text) asks (Ok tt))
    → IsTrue (D.meaning d).tells → AllOpen slot text (D.meaning e)
made_opens D d e store slot text has told =
    let both = both_of D d e store slot text has in
    both.asked.opens refl (both.attached.time.told ∙ told)

-- ---- the kits, and then that

joined : (names : List (List ℕ)) (store : List ℕ) (slot : ℕ) (program : Program) (end : Result (List ℕ) Refusal) (reads : List Read) (asks : List Ask)
    → KitsGenerated names reads (Ok program) → OrWants (Some store) (NewOf store slot program) asks end → ComesOrWants (New names store slot) (of_reads reads ++ asks) end
joined names store slot program (Ok text) reads asks loaded rest = goes_on (of_reads reads) asks program refl (reads, refl, loaded) rest
joined names store slot program (Err refusal) reads asks loaded rest =
    match_both (is_want refusal) (Spares (Some store) asks) (NewOf store slot program asks (Err refusal)) (Spares (Some store) (of_reads reads ++ asks)) (NewComes names store slot (of_reads reads ++ asks) (Err refusal))
    (λ spared. spares_behind (Some store) reads asks spared) (λ came. goes_on (of_reads reads) asks program refl (reads, refl, loaded) came) rest

pub new_goes : {S T : Type 0} (F : FileGhosts S) (D : DiskGhosts T) (a b : S) (d e : T) (names : List (List ℕ)) (store : List ℕ) (slot : ℕ) (program : Program) (end : Result (List ℕ) Refusal)
    → HasReads F a b (λ reads. KitsGenerated names reads (Ok program)) → AsksDisk D d e (λ asks. OrWants (Some store) (NewOf store slot program) asks end)
    → HasAsks F D a b d e (λ asks. ComesOrWants (New names store slot) asks end)
new_goes F D a b d e names store slot program end loaded rest =
    then_disk F D a b d e (λ reads. KitsGenerated names reads (Ok program)) (λ asks. OrWants (Some store) (NewOf store slot program) asks end) (λ asks. ComesOrWants (New names store slot) asks end)
    (λ reads asks held more. joined names store slot program end reads asks held more) loaded rest

pub new_leaves : {S : Type 0} (F : FileGhosts S) (a b : S) (d e : Meaning) (names : List (List ℕ)) (slot : ℕ) (program : Program) {X : Type 0} (end : Result X Refusal)
    → HasReads F a b (λ reads. KitsGenerated names reads (Ok program)) → OnOk end (MarksUp d e 1) → (IsTrue d.tells → OnOk end (AllNew slot (meaning_of program) most_data e))
    → OnOk end (LeavesNew F names slot a b d e)
new_leaves F a b d e names slot program (Ok x) loaded mark opens = record {
  mark = mark;
  store = λ told. same_reads F a b (λ reads. KitsGenerated names reads (Ok program))
      (λ reads. (p : Program) × KitsLoaded names reads (Ok p) × AllNew slot (meaning_of p) most_data e) (λ reads held. (program, (done_by (KitsLoaded names) reads program held).loaded, opens told)) loaded;
}
new_leaves F a b d e names slot program (Err refusal) loaded mark opens = tt

-- ---- results

pub on_ok_holds : {X : Type 0} (r : Result X Refusal) (P : Type 0) → IsOk r → OnOk r P → P
on_ok_holds (Ok x) P is p = p
on_ok_holds (Err refusal) P is p = absurd (cc)
