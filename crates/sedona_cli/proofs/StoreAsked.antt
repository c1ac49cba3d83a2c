-- What a command with a store has asked when it ends, and what that did to the disk.
use Rattle.std.proofs.Common.{◌≡◌, ◌≢◌, ◌⊎◌, ℕ, true, false, List, [], ◌∷◌, ◌++◌, Option, Some, None, Result, Ok, Err, refl, sym, ap, subst, ◌∙◌, inl, inr}
use Rattle.std.specs.Prelude.{IsTrue}
use Rattle.std.proofs.lemmas.List.{append-nil}
use Rattle.sed_typed.specs.declared.program.Program.{Program}
use Rattle.disk_model.specs.Disk.{Meaning, Elapses, Keeps, MarksUp}
use Rattle.disk_model.specs.declared.disk.Disk.{Ghosts as DiskGhosts}
use Rattle.sed_engine.specs.Code.{Meaning as Code}
use Rattle.comp_tree.specs.Application.{Application}
use Rattle.app_file.specs.Reading.{IsFile, IsReadAs, Reading, no_file, wrong_kits, over_limit, file}
use Rattle.sedona_cli.proofs.DiskCalls.{at_end, then_during, then_marks}
use Rattle.sed_outside.specs.Steps.{Read, stops, goes_on}
use Rattle.sedona_cli.specs.declared.refusal.Refusal.{Refusal}
use Rattle.sedona_cli.specs.declared.refusal.Refusal.TheVariants.{DeviceFault, StoreExists, NoStore, NoApplication, WrongKits, OverLimit}
use Rattle.sed_check.specs.Loading.{KitsLoaded}
use Rattle.sedona_cli.specs.New.{NewOf, NewComes, text_of}
use Rattle.sedona_cli.specs.Show.{ShowOf, ShowComes}
use Rattle.sedona_cli.specs.Store.{application_in}
use Rattle.sedona_cli.specs.Outside.{Ask, Reads, Writes, Attaches, Makes, Opens, Binds, Runs, Whole, NotEmpty, Failed, Opened, Found, NotAStore, Unread, Unheld, of_reads, Spares, AreAsked, IsAsked, IsAttached, IsOpened}
use Rattle.sedona_cli.specs.Program.{refusal_by, SparesDisk}
use Rattle.sedona_cli.specs.Refusals.{failed_of, is_of_store, is_want, is_worded}
use Rattle.sedona_cli.proofs.Generated.{generates_early}
use Rattle.sedona_cli.specs.Status.{number_of, status_of}
use Rattle.sedona_cli.proofs.Asking.{asked_behind, reads_spare, spares_behind}
use Rattle.sedona_cli.proofs.Ends.{ok_err, one_refusal, some_refusal, no_refusal, not_both, err_ok}

-- ---- what was asked

abbrev pub of_refusal : Refusal → ℕ
of_refusal r = number_of (status_of r)

-- how the last thing that is asked of a store ends it
abbrev pub EndsBy : Ask → Option Refusal → Type 0
EndsBy (Reads read) end = ⊥
EndsBy (Writes name bytes how) end = ⊥
EndsBy (Attaches name done) end = ⊥
EndsBy (Makes slot text Whole) end = end ≡ None
EndsBy (Makes slot text NotEmpty) end = end ≡ Some StoreExists
EndsBy (Makes slot text Failed) end = end ≡ Some DeviceFault
EndsBy (Opens (Found payload)) end = (end ≡ None) ⊎ ((r : Refusal) × (end ≡ Some r) × (of_refusal r ≡ 5))
EndsBy (Opens NotAStore) end = end ≡ Some NoStore
EndsBy (Opens Unread) end = end ≡ Some DeviceFault
EndsBy (Opens Unheld) end = ⊥
EndsBy (Binds port done) end = ⊥
EndsBy (Runs ran) end = ⊥

-- which of them a command asks
abbrev pub IsMaking : Ask → Type 0
IsMaking (Makes slot text how) = Unit {0}
IsMaking (Opens how) = ⊥
IsMaking (Binds port done) = ⊥
IsMaking (Attaches name done) = ⊥
IsMaking (Reads read) = ⊥
IsMaking (Writes name bytes how) = ⊥
IsMaking (Runs ran) = ⊥

abbrev pub IsOpening : Ask → Type 0
IsOpening (Opens how) = Unit {0}
IsOpening (Binds port done) = ⊥
IsOpening (Makes slot text how) = ⊥
IsOpening (Attaches name done) = ⊥
IsOpening (Reads read) = ⊥
IsOpening (Writes name bytes how) = ⊥
IsOpening (Runs ran) = ⊥

-- Behind the reads: nothing, where it is refused before the store; the name is attached; one thing more is asked too.
pub data StoreAsked (Kind : Ask → Type 0) (store : List ℕ) (asks : List Ask) (end : Option Refusal) : Type 0 where
  ends_before : (reads : List Read) (refusal : Refusal) → asks ≡ of_reads reads → end ≡ Some refusal → is_of_store refusal ≡ false → StoreAsked Kind store asks end
  ends_unattached : (reads : List Read) → asks ≡ of_reads reads ++ Attaches store false ∷ [] → end ≡ Some DeviceFault → StoreAsked Kind store asks end
  ends_at : (reads : List Read) (ask : Ask) → asks ≡ of_reads reads ++ Attaches store true ∷ ask ∷ [] → Kind ask → EndsBy ask end → StoreAsked Kind store asks end

-- reads, and then one thing and nothing more
pub behind : (asks front back : List Ask) (reads : List Read) (one : List Ask) → asks ≡ front ++ back → front ≡ of_reads reads → back ≡ one → asks ≡ of_reads reads ++ one
behind asks front back reads one parts is rest = parts ∙ ap (λ (f : List Ask). f ++ back) is ∙ ap (λ (b : List Ask). of_reads reads ++ b) rest

-- nothing, and then something
pub none_before : (asks front back : List Ask) → asks ≡ front ++ back → front ≡ [] → asks ≡ back
none_before asks front back parts none = parts ∙ ap (λ (f : List Ask). f ++ back) none

-- one thing, another, and nothing more
pub two : (asks front rest back last : List Ask) (one other : Ask) → asks ≡ front ++ rest → front ≡ one ∷ [] → rest ≡ back ++ last → back ≡ other ∷ [] → last ≡ [] → asks ≡ one ∷ other ∷ []
two asks front rest back last one other parts is more also none =
    parts ∙ ap (λ (f : List Ask). f ++ rest) is ∙ ap (λ (r : List Ask). one ∷ r) (more ∙ ap (λ (b : List Ask). b ++ last) also ∙ ap (λ (l : List Ask). other ∷ l) none)

-- the same where the last thing ends it
pub two_stop : (asks front rest : List Ask) (one other : Ask) → asks ≡ front ++ rest → front ≡ one ∷ [] → rest ≡ other ∷ [] → asks ≡ one ∷ other ∷ []
two_stop asks front rest one other parts is more = parts ∙ ap (λ (f : List Ask). f ++ rest) is ∙ ap (λ (r : List Ask). one ∷ r) more

ended : (end : Result (List ℕ) Refusal) (r s : Refusal) → end ≡ Err r → r ≡ s → refusal_by end ≡ Some s
ended end r s is same = ap refusal_by is ∙ ap (λ (x : Refusal). Some x) same

-- ---- what `new` asks

-- what stands behind the reads, with a program
of_new : (store : List ℕ) (slot : ℕ) (program : Program) (asks front back : List Ask) (reads : List Read) (end : Result (List ℕ) Refusal) → asks ≡ front ++ back → front ≡ of_reads reads
    → NewOf store slot program back end → StoreAsked IsMaking store asks (refusal_by end)
unfolding NewOf
of_new store slot program asks front back reads end parts is (stops r measured e) =
    ends_before reads r (behind asks front back reads [] parts is measured.none ∙ append-nil (of_reads reads)) (ap refusal_by e) (ap is_of_store measured.holds.0)
of_new store slot program asks front back reads end parts is (goes_on f b u first measured (stops r attached e)) =
    ends_unattached reads (behind asks front back reads (Attaches store false ∷ []) parts is (none_before back f b first measured.none ∙ attached.0)) (ended end r DeviceFault e attached.1)
of_new store slot program asks front back reads end parts is (goes_on f b u first measured (goes_on g d v second attached (stops r (inl made) e))) =
    ends_at reads (Makes slot (text_of program) NotEmpty)
    (behind asks front back reads (Attaches store true ∷ Makes slot (text_of program) NotEmpty ∷ []) parts is
    (none_before back f b first measured.none ∙ two_stop b g d (Attaches store true) (Makes slot (text_of program) NotEmpty) second attached made.0)) tt (ended end r StoreExists e made.1)
of_new store slot program asks front back reads end parts is (goes_on f b u first measured (goes_on g d v second attached (stops r (inr made) e))) =
    ends_at reads (Makes slot (text_of program) Failed)
    (behind asks front back reads (Attaches store true ∷ Makes slot (text_of program) Failed ∷ []) parts is
    (none_before back f b first measured.none ∙ two_stop b g d (Attaches store true) (Makes slot (text_of program) Failed) second attached made.0)) tt (ended end r DeviceFault e made.1)
of_new store slot program asks front back reads end parts is (goes_on f b u first measured (goes_on g d v second attached (goes_on h k w third done prints))) =
    ends_at reads (Makes slot (text_of program) Whole)
    (behind asks front back reads (Attaches store true ∷ Makes slot (text_of program) Whole ∷ []) parts is
    (none_before back f b first measured.none ∙ two b g d h k (Attaches store true) (Makes slot (text_of program) Whole) second attached third done prints.none)) tt (ap refusal_by prints.holds)

pub new_asked : (names : List (List ℕ)) (store : List ℕ) (slot : ℕ) (asks : List Ask) (end : Result (List ℕ) Refusal) → NewComes names store slot asks end → StoreAsked IsMaking store asks (refusal_by end)
new_asked names store slot asks end (stops r loaded e) =
    ends_before loaded.0 r loaded.1 (ap refusal_by e) (generates_early (KitsLoaded names) loaded.0 r loaded.2)
new_asked names store slot asks end (goes_on front back program parts loaded rest) =
    of_new store slot program asks front back loaded.0 end parts loaded.1 rest

-- ---- what `show` asks

-- the refusals of payloads
pub record OfPayload (r : Refusal) : Type 0 where
  pub five : of_refusal r ≡ 5
  pub failed : failed_of r ≡ []
  pub certain : is_want r ≡ false

pub of_payload : (reading : Reading) (r : Refusal) → Err r ≡ application_in reading → OfPayload r
of_payload no_file r is =
    let same = one_refusal r NoApplication is in
    record { five = ap of_refusal same; failed = ap failed_of same; certain = ap is_want same }
of_payload (wrong_kits place in_file in_kits) r is =
    let same = one_refusal r (WrongKits place in_file in_kits) is in
    record { five = ap of_refusal same; failed = ap failed_of same; certain = ap is_want same }
of_payload (over_limit which) r is =
    let same = one_refusal r (OverLimit which) is in
    record { five = ap of_refusal same; failed = ap failed_of same; certain = ap is_want same }
of_payload (file a) r is = absurd (err_ok r a is)

-- the application that a payload is the file of
ok_app : (a b : Application) → ◌≡◌ {A = Result Application Refusal} (Ok a) (Ok b) → a ≡ b
ok_app a b same = cc

pub file_of : (code : Code) (limit : ℕ) (payload : List ℕ) (a : Application) (reading : Reading) → Ok a ≡ application_in reading → IsReadAs code limit payload reading → IsFile code limit payload a
file_of code limit payload a no_file same is = absurd (ok_err a NoApplication same)
file_of code limit payload a (wrong_kits place in_file in_kits) same is = absurd (ok_err a (WrongKits place in_file in_kits) same)
file_of code limit payload a (over_limit which) same is = absurd (ok_err a (OverLimit which) same)
file_of code limit payload a (file b) same is = subst (λ (x : Application). IsFile code limit payload x) (sym (ok_app a b same)) is

of_show : (store : List ℕ) (limit : ℕ) (program : Program) (asks front back : List Ask) (reads : List Read) (end : Result (List ℕ) Refusal) → asks ≡ front ++ back → front ≡ of_reads reads
    → ShowOf store limit program back end → StoreAsked IsOpening store asks (refusal_by end)
unfolding ShowOf
of_show store limit program asks front back reads end parts is (stops r attached e) =
    ends_unattached reads (behind asks front back reads (Attaches store false ∷ []) parts is attached.0) (ended end r DeviceFault e attached.1)
of_show store limit program asks front back reads end parts is (goes_on g d v second attached (stops r (inl opened) e)) =
    ends_at reads (Opens NotAStore)
    (behind asks front back reads (Attaches store true ∷ Opens NotAStore ∷ []) parts is
    (two_stop back g d (Attaches store true) (Opens NotAStore) second attached opened.0)) tt (ended end r NoStore e opened.1)
of_show store limit program asks front back reads end parts is (goes_on g d v second attached (stops r (inr opened) e)) =
    ends_at reads (Opens Unread)
    (behind asks front back reads (Attaches store true ∷ Opens Unread ∷ []) parts is
    (two_stop back g d (Attaches store true) (Opens Unread) second attached opened.0)) tt (ended end r DeviceFault e opened.1)
of_show store limit program asks front back reads end parts is (goes_on g d v second attached (goes_on h k payload third opened (stops r told e))) =
    ends_at reads (Opens (Found payload))
    (behind asks front back reads (Attaches store true ∷ Opens (Found payload) ∷ []) parts is
    (two back g d h k (Attaches store true) (Opens (Found payload)) second attached third opened told.none)) tt
    (inr (r, ap refusal_by e, (of_payload told.holds.reading r told.holds.end_is).five))
of_show store limit program asks front back reads end parts is (goes_on g d v second attached (goes_on h k payload third opened (goes_on i j a fourth told prints))) =
    ends_at reads (Opens (Found payload))
    (behind asks front back reads (Attaches store true ∷ Opens (Found payload) ∷ []) parts is
    (two back g d h k (Attaches store true) (Opens (Found payload)) second attached third opened (none_before k i j fourth told.none ∙ prints.none))) tt
    (inl (ap refusal_by prints.holds))

pub show_asked : (names : List (List ℕ)) (store : List ℕ) (limit : ℕ) (asks : List Ask) (end : Result (List ℕ) Refusal) → ShowComes names store limit asks end → StoreAsked IsOpening store asks (refusal_by end)
show_asked names store limit asks end (stops r loaded e) =
    ends_before loaded.0 r loaded.1 (ap refusal_by e) (generates_early (KitsLoaded names) loaded.0 r loaded.2)
show_asked names store limit asks end (goes_on front back program parts loaded rest) =
    of_show store limit program asks front back loaded.0 end parts loaded.1 rest

-- ---- what is asked until a refusal whose line takes memory

not_worded : (refusal r : Refusal) → is_worded refusal ≡ true → ◌≡◌ {A = Option Refusal} (Some refusal) (Some r) → is_worded r ≡ false → ⊥
not_worded refusal r worded same is = not_both (is_worded refusal) worded (ap is_worded (some_refusal refusal r same) ∙ is)

-- a store that is found is spared
pub opened_spares : (store : List ℕ) (reads : List Read) (asks : List Ask) (how : Opened) → how ≢ Unread → asks ≡ of_reads reads ++ Attaches store true ∷ Opens how ∷ [] → Spares (Some store) asks
opened_spares store reads asks how not is = subst (λ (a : List Ask). Spares (Some store) a) (sym is) (spares_behind (Some store) reads (Attaches store true ∷ Opens how ∷ []) (by how not))
  where
    by : (how : Opened) → how ≢ Unread → Spares (Some store) (Attaches store true ∷ Opens how ∷ [])
    by (Found payload) not = record { unwritten = refl; attached = inr (refl, refl) }
    by NotAStore not = record { unwritten = refl; attached = inr (refl, refl) }
    by Unread not = absurd (not refl)
    by Unheld not = record { unwritten = refl; attached = inr (refl, refl) }

found_read : (payload : List ℕ) → Found payload ≢ Unread
found_read payload same = cc

pub spares_worded : (Kind : Ask → Type 0) (store : List ℕ) (asks : List Ask) (refusal : Refusal) → is_worded refusal ≡ true → StoreAsked Kind store asks (Some refusal) → Spares (Some store) asks
spares_worded Kind store asks refusal worded (ends_before reads r is e why) = subst (λ (a : List Ask). Spares (Some store) a) (sym is) (reads_spare (Some store) reads)
spares_worded Kind store asks refusal worded (ends_unattached reads is e) = absurd (not_worded refusal DeviceFault worded e refl)
spares_worded Kind store asks refusal worded (ends_at reads (Reads read) is kind e) = absurd e
spares_worded Kind store asks refusal worded (ends_at reads (Writes name bytes how) is kind e) = absurd e
spares_worded Kind store asks refusal worded (ends_at reads (Attaches name done) is kind e) = absurd e
spares_worded Kind store asks refusal worded (ends_at reads (Makes slot text Whole) is kind e) = absurd (no_refusal refusal e)
spares_worded Kind store asks refusal worded (ends_at reads (Makes slot text NotEmpty) is kind e) = absurd (not_worded refusal StoreExists worded e refl)
spares_worded Kind store asks refusal worded (ends_at reads (Makes slot text Failed) is kind e) = absurd (not_worded refusal DeviceFault worded e refl)
spares_worded Kind store asks refusal worded (ends_at reads (Opens (Found payload)) is kind e) = opened_spares store reads asks (Found payload) (found_read payload) is
spares_worded Kind store asks refusal worded (ends_at reads (Opens NotAStore) is kind e) = absurd (not_worded refusal NoStore worded e refl)
spares_worded Kind store asks refusal worded (ends_at reads (Opens Unread) is kind e) = absurd (not_worded refusal DeviceFault worded e refl)
spares_worded Kind store asks refusal worded (ends_at reads (Opens Unheld) is kind e) = absurd e
spares_worded Kind store asks refusal worded (ends_at reads (Binds port done) is kind e) = absurd e
spares_worded Kind store asks refusal worded (ends_at reads (Runs ran) is kind e) = absurd e

-- What was attached and then asked, with the disk between.
pub record Last {T : Type 0} (D : DiskGhosts T) (store : List ℕ) (ask : Ask) (d e : T) : Type 0 where
  pub between : T
  pub attached : IsAttached store true (D.meaning d) (D.meaning between)
  pub asked : IsAsked D ask between e

pub last_behind : {T : Type 0} (D : DiskGhosts T) (store : List ℕ) (ask : Ask) (asks : List Ask) (reads : List Read) (d e : T)
    → asks ≡ of_reads reads ++ Attaches store true ∷ ask ∷ [] → AreAsked D asks d e → Last D store ask d e
last_behind D store ask asks reads d e is asked =
    let rest = asked_behind D reads (Attaches store true ∷ ask ∷ []) d e (subst (λ (a : List Ask). AreAsked D a d e) is asked) in
    record {
      between = rest.0;
      attached = rest.1;
      asked = subst (λ t. IsAsked D ask rest.0 t) (sym rest.2.2) rest.2.1;
    }

pub keeps_both : (a b c : Meaning) → IsTrue a.tells → Elapses a b → Elapses b c → Keeps a b → Keeps b c → Keeps a c
keeps_both a b c told one two first second = record {
  content = second.content ∙ first.content;
  during = then_during a b c (a.leaves a.now) told one two first.during
      (λ u i from to left. at_end a b (a.leaves a.now) one first.during i (second.during u i from to left));
}

-- the disk is spared: nothing was written
pub then_spares : (store : List ℕ) (a b c : Meaning) → IsAttached store true a b → Elapses b c → SparesDisk b c → SparesDisk a c
then_spares store a b c attached time spared = record {
  keeps = λ told. keeps_both a b c told attached.time time (attached.keeps told) (spared.keeps (attached.time.told ∙ told));
  marks = then_marks a b c 0 attached.time time attached.marks spared.marks;
}

pub opened_disk : (how : Opened) (b c : Meaning) → how ≢ Unread → IsOpened how b c → SparesDisk b c
opened_disk how b c not opened = record { keeps = λ told. record { content = opened.content told not; during = opened.moments told }; marks = opened.marks }

pub found_disk : {T : Type 0} (D : DiskGhosts T) (store payload : List ℕ) (d e : T) → Last D store (Opens (Found payload)) d e → SparesDisk (D.meaning d) (D.meaning e)
found_disk D store payload d e last =
    then_spares store (D.meaning d) (D.meaning last.between) (D.meaning e) last.attached last.asked.time
    (opened_disk (Found payload) (D.meaning last.between) (D.meaning e) (found_read payload) last.asked)

pub marks_made : {T : Type 0} (D : DiskGhosts T) (store : List ℕ) (slot : ℕ) (text : List ℕ) (d e : T) → Last D store (Makes slot text Whole) d e → MarksUp (D.meaning d) (D.meaning e) 1
marks_made D store slot text d e last = then_marks (D.meaning d) (D.meaning last.between) (D.meaning e) 1 last.attached.time last.asked.time last.attached.marks last.asked.marks
