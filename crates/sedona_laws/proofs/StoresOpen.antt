-- What a status tells of the disk.
use Rattle.std.proofs.Common.{◌≡◌, ◌≢◌, ◌⊎◌, ℕ, true, false, List, [], ◌∷◌, ◌++◌, length, Option, Some, None, Result, Ok, Err, refl, sym, ap, subst, ◌∙◌, inl, inr, arith}
use Rattle.std.specs.Prelude.{IsTrue}
use Rattle.std.specs.List.{list_all}
use Rattle.sed_outside.specs.Cause.{Rose}
use Rattle.disk_model.specs.Disk.{Meaning, Attaches as IsAttach, Elapses, Keeps}
use Rattle.disk_model.specs.declared.disk.Disk.{Ghosts as DiskGhosts}
use Rattle.sedona_cli.proofs.DiskCalls.{no_time, no_marks, now_alone, then_marks, then_time}
use Rattle.sedona_cli.specs.declared.refusal.Refusal.{Refusal}
use Rattle.sedona_cli.specs.declared.refusal.Refusal.TheVariants.{DeviceFault, LinkFault}
use Rattle.sedona_words.specs.Command.{Command, Cycles, Check, Compile, Gen, New, Replay, Run, Show, output_of, port_of, store_of}
use Rattle.sedona_cli.specs.Outside.{Ask, Reads, Writes, Attaches, Makes, Opens, Binds, Runs, Whole, NotEmpty, Failed, Found, NotAStore, Unread, Unheld, Written, Unwritten, Withheld, is_of_files, names_in, of_reads, spares, Spares, AreAsked, AttachesFirst, AttachesIfAny}
use Rattle.sedona_cli.specs.Puts.{IsOneOf}
use Rattle.sedona_cli.specs.Program.{Comes, ComesUntil, IsAnswer, done, unput, stopped, refused, wanted, at_store, SparesDisk, refusal_by}
use Rattle.sedona_laws.specs.Attached.{before_store, AttachesBy, AsksStore}
use Rattle.sedona_cli.specs.Refusals.{is_of_store}
use Rattle.std.proofs.lemmas.List.{append-nil}
use Rattle.sed_outside.specs.Steps.{Read}
use Rattle.sedona_laws.specs.Files.{written_in}
use Rattle.sedona_cli.proofs.Asking.{reads_leave}
use Rattle.sedona_laws.proofs.CommandEnds.{early_alone, of_files_alone}
use Rattle.sedona_cli.proofs.Comings.{reads_alone}
use Rattle.sedona_laws.proofs.Agreeing.{NoneFailed}
use Rattle.sedona_cli.proofs.Ends.{ok_err, one_refusal, some_refusal, no_refusal}
use Rattle.sedona_laws.proofs.LiveAttached.{LiveBehind, last_unbound, live_attaches, live_behind, unbound_attaches}
use Rattle.sedona_cli.proofs.LiveAsked.{Unbound, run_asked}
use Rattle.sedona_laws.proofs.ReplayRan.{RunBehind, ran_by, ran_until, run_attaches, run_behind}
use Rattle.sedona_cli.proofs.ReplayAsked.{replay_asked}
use Rattle.sedona_cli.proofs.StoreAsked.{IsMaking, IsOpening, StoreAsked, ends_before, ends_unattached, ends_at, of_refusal, new_asked, show_asked, last_behind, keeps_both, found_disk, opened_disk}
use Rattle.sedona_laws.proofs.StoreLast.{spared_last, content_found, rose_last, rose_unattached, attach_last, attach_one}
use Rattle.sedona_cli.proofs.EarlyEnds.{late_at, four_or_five, five, early_link, store_link}

-- a number that is none of the five
not_before : (n : ℕ) → n ≢ 2 → n ≢ 3 → n ≢ 6 → n ≢ 9 → n ≢ 11 → n ≢ 12 → IsOneOf before_store n → ⊥
not_before n two three six nine eleven twelve (inl e) = two e
not_before n two three six nine eleven twelve (inr (inl e)) = three e
not_before n two three six nine eleven twelve (inr (inr (inl e))) = six e
not_before n two three six nine eleven twelve (inr (inr (inr (inl e)))) = nine e
not_before n two three six nine eleven twelve (inr (inr (inr (inr (inl e))))) = eleven e
not_before n two three six nine eleven twelve (inr (inr (inr (inr (inr (inl e)))))) = twelve e
not_before n two three six nine eleven twelve (inr (inr (inr (inr (inr (inr never)))))) = never

not_at : IsOneOf at_store 7 → ⊥
not_at (inl e) = absurd (omega (arith, e))
not_at (inr (inl e)) = absurd (omega (arith, e))
not_at (inr (inr (inl e))) = absurd (omega (arith, e))
not_at (inr (inr (inr (inl e)))) = absurd (omega (arith, e))
not_at (inr (inr (inr (inr (inl e))))) = absurd (omega (arith, e))
not_at (inr (inr (inr (inr (inr never))))) = never

-- ---- what spares a store

-- nothing is asked of a disk
pub quiet : {T : Type 0} (D : DiskGhosts T) (asks : List Ask) (d e : T) → list_all is_of_files asks ≡ true → AreAsked D asks d e → e ≡ d
quiet D [] d e none asked = asked
quiet D (Reads read ∷ asks) d e none asked = quiet D asks asked.0 e none asked.2 ∙ asked.1
quiet D (Writes name bytes how ∷ asks) d e none asked = quiet D asks asked.0 e none asked.2 ∙ asked.1
quiet D (Attaches name b ∷ asks) d e none asked = absurd (cc)
quiet D (Makes slot payload how ∷ asks) d e none asked = absurd (cc)
quiet D (Opens how ∷ asks) d e none asked = absurd (cc)
quiet D (Binds port b ∷ asks) d e none asked = absurd (cc)
quiet D (Runs ran ∷ asks) d e none asked = absurd (cc)

-- no name is attached
unattached : {T : Type 0} (D : DiskGhosts T) (asks : List Ask) (d e : T) → names_in asks ≡ [] → AreAsked D asks d e → (D.meaning e).attached ≡ (D.meaning d).attached
unattached D [] d e none asked = ap (λ t. (D.meaning t).attached) asked
unattached D (Reads read ∷ asks) d e none asked = unattached D asks asked.0 e none asked.2 ∙ ap (λ t. (D.meaning t).attached) asked.1
unattached D (Writes name bytes how ∷ asks) d e none asked = unattached D asks asked.0 e none asked.2 ∙ ap (λ t. (D.meaning t).attached) asked.1
unattached D (Attaches name b ∷ asks) d e none asked = absurd (cc)
unattached D (Makes slot payload how ∷ asks) d e none asked = unattached D asks asked.0 e none asked.2 ∙ asked.1.attached
unattached D (Opens how ∷ asks) d e none asked = unattached D asks asked.0 e none asked.2 ∙ asked.1.attached
unattached D (Binds port b ∷ asks) d e none asked = unattached D asks asked.0 e none asked.2 ∙ ap (λ t. (D.meaning t).attached) asked.1
unattached D (Runs ran ∷ asks) d e none asked = unattached D asks asked.0 e none asked.2 ∙ asked.1.attached

-- the first that is asked is that a name is attached, and no other is behind it
pub once_attached : {T : Type 0} (D : DiskGhosts T) (store : List ℕ) (asks : List Ask) (d e : T) → AttachesFirst store asks → AreAsked D asks d e
    → IsAttach (D.meaning d).calls (D.meaning d).attached (D.meaning e).attached store
once_attached D store [] d e first asked = absurd first
once_attached D store (Reads read ∷ asks) d e first asked =
    subst (λ t. IsAttach (D.meaning t).calls (D.meaning t).attached (D.meaning e).attached store) asked.1 (once_attached D store asks asked.0 e first asked.2)
once_attached D store (Writes name bytes how ∷ asks) d e first asked =
    subst (λ t. IsAttach (D.meaning t).calls (D.meaning t).attached (D.meaning e).attached store) asked.1 (once_attached D store asks asked.0 e first asked.2)
once_attached D store (Attaches name b ∷ asks) d e first asked =
    subst (λ (n : List ℕ). IsAttach (D.meaning d).calls (D.meaning d).attached (D.meaning e).attached n) first.0
    (subst (λ now. IsAttach (D.meaning d).calls (D.meaning d).attached now name) (sym (unattached D asks asked.0 e first.1 asked.2)) asked.1.attached)
once_attached D store (Makes slot payload how ∷ asks) d e first asked = absurd first
once_attached D store (Opens how ∷ asks) d e first asked = absurd first
once_attached D store (Binds port b ∷ asks) d e first asked =
    subst (λ t. IsAttach (D.meaning t).calls (D.meaning t).attached (D.meaning e).attached store) asked.1 (once_attached D store asks asked.0 e first asked.2)
once_attached D store (Runs ran ∷ asks) d e first asked = absurd first

-- ---- a disk that is spared

keeps_self : (a : Meaning) → Keeps a a
keeps_self a = record { content = refl; during = λ u i from to left. now_alone a u i from to left }

pub spares_same : {T : Type 0} (D : DiskGhosts T) (d e : T) → e ≡ d → SparesDisk (D.meaning d) (D.meaning e)
spares_same D d e same =
    subst (λ t. SparesDisk (D.meaning d) (D.meaning t)) (sym same) (record { keeps = λ told. keeps_self (D.meaning d); marks = no_marks (D.meaning d) })

pub record Spared (a b : Meaning) : Type 0 where
  pub time : Elapses a b
  pub disk : SparesDisk a b

then_spared : (a b c : Meaning) → Elapses a b → SparesDisk a b → Spared b c → Spared a c
then_spared a b c time disk rest = record {
  time = then_time a b c time rest.time;
  disk = record {
    keeps = λ told. keeps_both a b c told time rest.time (disk.keeps told) (rest.disk.keeps (time.told ∙ told));
    marks = then_marks a b c 0 time rest.time disk.marks rest.disk.marks;
  };
}

spared_all : {T : Type 0} (D : DiskGhosts T) (asks : List Ask) (d e : T) → list_all spares asks ≡ true → AreAsked D asks d e → Spared (D.meaning d) (D.meaning e)
spared_all D [] d e spared asked =
    subst (λ t. Spared (D.meaning d) (D.meaning t)) (sym asked) (record { time = no_time (D.meaning d); disk = spares_same D d d refl })
spared_all D (Reads read ∷ asks) d e spared asked = subst (λ t. Spared (D.meaning t) (D.meaning e)) asked.1 (spared_all D asks asked.0 e spared asked.2)
spared_all D (Writes name bytes Written ∷ asks) d e spared asked = absurd (cc)
spared_all D (Writes name bytes Unwritten ∷ asks) d e spared asked =
    subst (λ t. Spared (D.meaning t) (D.meaning e)) asked.1 (spared_all D asks asked.0 e spared asked.2)
spared_all D (Writes name bytes Withheld ∷ asks) d e spared asked =
    subst (λ t. Spared (D.meaning t) (D.meaning e)) asked.1 (spared_all D asks asked.0 e spared asked.2)
spared_all D (Attaches name b ∷ asks) d e spared asked =
    then_spared _ _ _ asked.1.time (record { keeps = asked.1.keeps; marks = asked.1.marks }) (spared_all D asks asked.0 e spared asked.2)
spared_all D (Makes slot payload how ∷ asks) d e spared asked = absurd (cc)
spared_all D (Opens (Found payload) ∷ asks) d e spared asked =
    then_spared _ _ _ asked.1.time (opened_disk (Found payload) _ _ (λ same. cc) asked.1) (spared_all D asks asked.0 e spared asked.2)
spared_all D (Opens NotAStore ∷ asks) d e spared asked =
    then_spared _ _ _ asked.1.time (opened_disk NotAStore _ _ (λ same. cc) asked.1) (spared_all D asks asked.0 e spared asked.2)
spared_all D (Opens Unread ∷ asks) d e spared asked = absurd (cc)
spared_all D (Opens Unheld ∷ asks) d e spared asked =
    then_spared _ _ _ asked.1.time (opened_disk Unheld _ _ (λ same. cc) asked.1) (spared_all D asks asked.0 e spared asked.2)
spared_all D (Binds port b ∷ asks) d e spared asked = subst (λ t. Spared (D.meaning t) (D.meaning e)) asked.1 (spared_all D asks asked.0 e spared asked.2)
spared_all D (Runs ran ∷ asks) d e spared asked = absurd (cc)

-- ---- the store is attached where the steps come to it

no_disk : (asks : List Ask) → (list_all is_of_files asks ≡ true) ⊎ AttachesIfAny None asks → list_all is_of_files asks ≡ true
no_disk asks (inl none) = none
no_disk asks (inr one) = absurd one

-- without a store nothing is put piece by piece
no_until : (command : Command) (asks : List Ask) (put last : List ℕ) → store_of command ≡ None → ComesUntil command asks put last → ⊥
no_until (Cycles file count) asks put last none until = until
no_until (Check names) asks put last none until = until
no_until (New names store slot) asks put last none until = until
no_until (Show names store limit) asks put last none until = until
no_until (Replay node file) asks put last none until = absurd (cc)
no_until (Run r) asks put last none until = until
no_until (Compile image names) asks put last none until = until
no_until (Gen record_asked) asks put last none until = until

-- nothing is asked of the disk where no store is named
quiet_alone : {T : Type 0} (D : DiskGhosts T) (command : Command) (asks : List Ask) (before after : Option (List ℕ)) (fb fa status : ℕ) (d e : T) → store_of command ≡ None
    → IsAnswer command asks before after fb fa status → AreAsked D asks d e → e ≡ d
quiet_alone D command asks before after fb fa status d e none (done text came is put same) asked = quiet D asks d e (of_files_alone command asks (Ok text) none came) asked
quiet_alone D command asks before after fb fa status d e none (unput text came at_once is rose front) asked = quiet D asks d e (of_files_alone command asks (Ok text) none came) asked
quiet_alone D command asks before after fb fa status d e none (stopped put last until is rose front) asked = absurd (no_until command asks put last none until)
quiet_alone D command asks before after fb fa status d e none (refused refusal came is puts) asked = quiet D asks d e (of_files_alone command asks (Err refusal) none came) asked
quiet_alone D command asks before after fb fa status d e none (wanted left is puts) asked =
    let alone = subst (λ (store : Option (List ℕ)). Spares store asks) none left in
    quiet D asks d e (no_disk asks alone.attached) asked

-- come to it
come_to : {T : Type 0} (D : DiskGhosts T) (store : List ℕ) (status : ℕ) (d e : T) → (IsOneOf before_store status → ⊥) → IsAttach (D.meaning d).calls (D.meaning d).attached (D.meaning e).attached store → AttachesBy D store status d e
come_to D store status d e not attach = record { never = λ before. absurd (not before); once = λ at. attach; at_most_once = λ is. inr attach }

not_done : (status n : ℕ) → status ≡ n → n ≢ 2 → n ≢ 3 → n ≢ 6 → n ≢ 9 → n ≢ 11 → n ≢ 12 → IsOneOf before_store status → ⊥
not_done status n is two three six nine eleven twelve one = not_before n two three six nine eleven twelve (subst (λ (k : ℕ). IsOneOf before_store k) is one)

attaches_by : {T : Type 0} (Kind : Ask → Type 0) (D : DiskGhosts T) (store : List ℕ) (status : ℕ) (asks : List Ask) (refusal : Refusal) (d e : T) → status ≡ of_refusal refusal
    → StoreAsked Kind store asks (Some refusal) → AreAsked D asks d e → AttachesBy D store status d e
attaches_by Kind D store status asks refusal d e is (ends_before reads r all same early) asked =
    let left = reads_leave D reads d e (subst (λ (a : List Ask). AreAsked D a d e) all asked) in
    record {
      never = λ b. left;
      once = λ at. absurd (late_at r early (subst (λ (k : ℕ). IsOneOf at_store k) (is ∙ ap of_refusal (some_refusal refusal r same)) at));
      at_most_once = λ b. inl left;
    }
attaches_by Kind D store status asks refusal d e is (ends_unattached reads all same) asked =
    come_to D store status d e (not_done status 4 (is ∙ ap of_refusal (some_refusal refusal DeviceFault same)) (λ e. omega (arith, e)) (λ e. omega (arith, e)) (λ e. omega (arith, e)) (λ e. omega (arith, e)) (λ e. omega (arith, e)) (λ e. omega (arith, e)))
    (attach_one D store asks reads d e all asked)
attaches_by Kind D store status asks refusal d e is (ends_at reads ask all kind ends) asked =
    come_to D store status d e (by (four_or_five ask refusal ends)) (attach_last D store ask (Some refusal) d e ends (last_behind D store ask asks reads d e all asked))
  where
    by : (of_refusal refusal ≡ 4) ⊎ (of_refusal refusal ≡ 5) → IsOneOf before_store status → ⊥
    by (inl four) = not_done status 4 (is ∙ four) (λ e. omega (arith, e)) (λ e. omega (arith, e)) (λ e. omega (arith, e)) (λ e. omega (arith, e)) (λ e. omega (arith, e)) (λ e. omega (arith, e))
    by (inr five) = not_done status 5 (is ∙ five) (λ e. omega (arith, e)) (λ e. omega (arith, e)) (λ e. omega (arith, e)) (λ e. omega (arith, e)) (λ e. omega (arith, e)) (λ e. omega (arith, e))

attaches_done : {T : Type 0} (Kind : Ask → Type 0) (D : DiskGhosts T) (store : List ℕ) (status : ℕ) (asks : List Ask) (d e : T) → (IsOneOf before_store status → ⊥)
    → StoreAsked Kind store asks None → AreAsked D asks d e → AttachesBy D store status d e
attaches_done Kind D store status asks d e not (ends_before reads r all same early) asked = absurd (no_refusal r (sym same))
attaches_done Kind D store status asks d e not (ends_unattached reads all same) asked = absurd (no_refusal DeviceFault (sym same))
attaches_done Kind D store status asks d e not (ends_at reads ask all kind ends) asked =
    come_to D store status d e not (attach_last D store ask None d e ends (last_behind D store ask asks reads d e all asked))

-- memory was wanted
attaches_wanted : {T : Type 0} (D : DiskGhosts T) (store : List ℕ) (status : ℕ) (asks : List Ask) (d e : T) → status ≡ 7 → Spares (Some store) asks → AreAsked D asks d e → AttachesBy D store status d e
attaches_wanted D store status asks d e is spared asked = record {
  never = λ b. absurd (not_done status 7 is (λ e. omega (arith, e)) (λ e. omega (arith, e)) (λ e. omega (arith, e)) (λ e. omega (arith, e)) (λ e. omega (arith, e)) (λ e. omega (arith, e)) b);
  once = λ at. absurd (not_at (subst (λ (k : ℕ). IsOneOf at_store k) is at));
  at_most_once = λ b. by spared.attached;
}
  where
    by : (list_all is_of_files asks ≡ true) ⊎ AttachesIfAny (Some store) asks → (e ≡ d) ⊎ IsAttach (D.meaning d).calls (D.meaning d).attached (D.meaning e).attached store
    by (inl none) = inl (quiet D asks d e none asked)
    by (inr one) = inr (once_attached D store asks d e one asked)

-- the status of a port that is not taken
ten_of : (store : List ℕ) (port status : ℕ) (asks : List Ask) (refusal : Refusal) → status ≡ of_refusal refusal → Unbound store port asks refusal → status ≡ 10
ten_of store port status asks refusal is by = is ∙ ap of_refusal by.is_link

run_attaches_by : {T : Type 0} (D : DiskGhosts T) (store : List ℕ) (port status : ℕ) (asks : List Ask) (refusal : Refusal) (d e : T) → status ≡ of_refusal refusal
    → StoreAsked IsOpening store asks (Some refusal) ⊎ Unbound store port asks refusal → AreAsked D asks d e → AttachesBy D store status d e
run_attaches_by D store port status asks refusal d e is (inl by) asked = attaches_by _ D store status asks refusal d e is by asked
run_attaches_by D store port status asks refusal d e is (inr by) asked =
    come_to D store status d e
    (not_done status 10 (ten_of store port status asks refusal is by) (λ e. omega (arith, e)) (λ e. omega (arith, e)) (λ e. omega (arith, e)) (λ e. omega (arith, e)) (λ e. omega (arith, e)) (λ e. omega (arith, e)))
    (unbound_attaches D store port asks refusal d e by asked)

pub asks_store : {T : Type 0} (D : DiskGhosts T) (command : Command) (asks : List Ask) (before after : Option (List ℕ)) (fb fa status : ℕ) (d e : T)
    → IsAnswer command asks before after fb fa status → AreAsked D asks d e → AsksStore D (store_of command) status d e
asks_store D (Cycles file count) asks before after fb fa status d e answer asked = quiet_alone D (Cycles file count) asks before after fb fa status d e refl answer asked
asks_store D (Check names) asks before after fb fa status d e answer asked = quiet_alone D (Check names) asks before after fb fa status d e refl answer asked
asks_store D (Compile image names) asks before after fb fa status d e answer asked = quiet_alone D (Compile image names) asks before after fb fa status d e refl answer asked
asks_store D (Gen g) asks before after fb fa status d e answer asked = quiet_alone D (Gen g) asks before after fb fa status d e refl answer asked
asks_store D (New names store slot) asks before after fb fa status d e (done text came is put same) asked =
    attaches_done _ D store status asks d e (not_done status 0 is (λ e. omega (arith, e)) (λ e. omega (arith, e)) (λ e. omega (arith, e)) (λ e. omega (arith, e)) (λ e. omega (arith, e)) (λ e. omega (arith, e))) (new_asked names store slot asks (Ok text) came) asked
asks_store D (New names store slot) asks before after fb fa status d e (unput text came at_once is rose front) asked =
    attaches_done _ D store status asks d e (not_done status 8 is (λ e. omega (arith, e)) (λ e. omega (arith, e)) (λ e. omega (arith, e)) (λ e. omega (arith, e)) (λ e. omega (arith, e)) (λ e. omega (arith, e))) (new_asked names store slot asks (Ok text) came) asked
asks_store D (New names store slot) asks before after fb fa status d e (stopped put last never is rose front) asked = absurd never
asks_store D (New names store slot) asks before after fb fa status d e (refused refusal came is puts) asked =
    attaches_by _ D store status asks refusal d e is (new_asked names store slot asks (Err refusal) came) asked
asks_store D (New names store slot) asks before after fb fa status d e (wanted spared is puts) asked = attaches_wanted D store status asks d e is spared asked
asks_store D (Show names store limit) asks before after fb fa status d e (done text came is put same) asked =
    attaches_done _ D store status asks d e (not_done status 0 is (λ e. omega (arith, e)) (λ e. omega (arith, e)) (λ e. omega (arith, e)) (λ e. omega (arith, e)) (λ e. omega (arith, e)) (λ e. omega (arith, e))) (show_asked names store limit asks (Ok text) came) asked
asks_store D (Show names store limit) asks before after fb fa status d e (unput text came at_once is rose front) asked =
    attaches_done _ D store status asks d e (not_done status 8 is (λ e. omega (arith, e)) (λ e. omega (arith, e)) (λ e. omega (arith, e)) (λ e. omega (arith, e)) (λ e. omega (arith, e)) (λ e. omega (arith, e))) (show_asked names store limit asks (Ok text) came) asked
asks_store D (Show names store limit) asks before after fb fa status d e (stopped put last never is rose front) asked = absurd never
asks_store D (Show names store limit) asks before after fb fa status d e (refused refusal came is puts) asked =
    attaches_by _ D store status asks refusal d e is (show_asked names store limit asks (Err refusal) came) asked
asks_store D (Show names store limit) asks before after fb fa status d e (wanted spared is puts) asked = attaches_wanted D store status asks d e is spared asked
asks_store D (Replay node file) asks before after fb fa status d e (done text came is put same) asked =
    come_to D node.store status d e (not_done status 0 is (λ e. omega (arith, e)) (λ e. omega (arith, e)) (λ e. omega (arith, e)) (λ e. omega (arith, e)) (λ e. omega (arith, e)) (λ e. omega (arith, e))) (run_attaches D node.store asks d e (run_behind node file asks (ran_by node file asks text came)) asked)
asks_store D (Replay node file) asks before after fb fa status d e (unput text came at_once is rose front) asked =
    come_to D node.store status d e (not_done status 8 is (λ e. omega (arith, e)) (λ e. omega (arith, e)) (λ e. omega (arith, e)) (λ e. omega (arith, e)) (λ e. omega (arith, e)) (λ e. omega (arith, e))) (run_attaches D node.store asks d e (run_behind node file asks (ran_by node file asks text came)) asked)
asks_store D (Replay node file) asks before after fb fa status d e (stopped put last until is rose front) asked =
    come_to D node.store status d e (not_done status 8 is (λ e. omega (arith, e)) (λ e. omega (arith, e)) (λ e. omega (arith, e)) (λ e. omega (arith, e)) (λ e. omega (arith, e)) (λ e. omega (arith, e))) (run_attaches D node.store asks d e (run_behind node file asks (ran_until node file asks put last until)) asked)
asks_store D (Replay node file) asks before after fb fa status d e (refused refusal came is puts) asked =
    attaches_by _ D node.store status asks refusal d e is (replay_asked node file asks refusal came) asked
asks_store D (Replay node file) asks before after fb fa status d e (wanted spared is puts) asked = attaches_wanted D node.store status asks d e is spared asked
asks_store D (Run r) asks before after fb fa status d e (done text came is put same) asked =
    come_to D r.node.store status d e (not_done status 0 is (λ e. omega (arith, e)) (λ e. omega (arith, e)) (λ e. omega (arith, e)) (λ e. omega (arith, e)) (λ e. omega (arith, e)) (λ e. omega (arith, e))) (live_attaches D r.node.store r.port asks d e (live_behind r asks text came) asked)
asks_store D (Run r) asks before after fb fa status d e (unput text came at_once is rose front) asked =
    come_to D r.node.store status d e (not_done status 8 is (λ e. omega (arith, e)) (λ e. omega (arith, e)) (λ e. omega (arith, e)) (λ e. omega (arith, e)) (λ e. omega (arith, e)) (λ e. omega (arith, e))) (live_attaches D r.node.store r.port asks d e (live_behind r asks text came) asked)
asks_store D (Run r) asks before after fb fa status d e (stopped put last never is rose front) asked = absurd never
asks_store D (Run r) asks before after fb fa status d e (refused refusal came is puts) asked =
    run_attaches_by D r.node.store r.port status asks refusal d e is (run_asked r asks refusal came) asked
asks_store D (Run r) asks before after fb fa status d e (wanted spared is puts) asked = attaches_wanted D r.node.store status asks d e is spared asked

-- ---- 4, 5 and 7

four : (r : Refusal) → is_of_store r ≡ false → of_refusal r ≡ 4 → ⊥
four r early is = late_at r early (inr (inl is))

rose_by : {T : Type 0} (Kind : Ask → Type 0) (D : DiskGhosts T) (store : List ℕ) (asks : List Ask) (refusal : Refusal) (d e : T) → of_refusal refusal ≡ 4
    → StoreAsked Kind store asks (Some refusal) → AreAsked D asks d e → Rose (D.meaning d).faults (D.meaning e).faults
rose_by Kind D store asks refusal d e is (ends_before reads r all same early) asked = absurd (four r early (ap of_refusal (sym (some_refusal refusal r same)) ∙ is))
rose_by Kind D store asks refusal d e is (ends_unattached reads all same) asked = rose_unattached D store asks reads d e all asked
rose_by Kind D store asks refusal d e is (ends_at reads ask all kind ends) asked = rose_last D store ask refusal d e ends is (last_behind D store ask asks reads d e all asked)

run_rose_by : {T : Type 0} (D : DiskGhosts T) (store : List ℕ) (port status : ℕ) (asks : List Ask) (refusal : Refusal) (d e : T) → status ≡ of_refusal refusal → status ≡ 4
    → StoreAsked IsOpening store asks (Some refusal) ⊎ Unbound store port asks refusal → AreAsked D asks d e → Rose (D.meaning d).faults (D.meaning e).faults
run_rose_by D store port status asks refusal d e is four_is (inl by) asked = rose_by _ D store asks refusal d e (sym is ∙ four_is) by asked
run_rose_by D store port status asks refusal d e is four_is (inr by) asked = absurd (let ten = ten_of store port status asks refusal is by in omega (arith, ten, four_is))

-- 4 only where the disk failed
pub device_fault : {T : Type 0} (D : DiskGhosts T) (command : Command) (asks : List Ask) (before after : Option (List ℕ)) (fb fa status : ℕ) (d e : T)
    → IsAnswer command asks before after fb fa status → AreAsked D asks d e → status ≡ 4 → Rose (D.meaning d).faults (D.meaning e).faults
device_fault D command asks before after fb fa status d e (done text came is put same) asked four_is = absurd (omega (arith, is, four_is))
device_fault D command asks before after fb fa status d e (unput text came at_once is rose front) asked four_is = absurd (omega (arith, is, four_is))
device_fault D command asks before after fb fa status d e (stopped put last until is rose front) asked four_is = absurd (omega (arith, is, four_is))
device_fault D command asks before after fb fa status d e (wanted spared is puts) asked four_is = absurd (omega (arith, is, four_is))
device_fault D (Cycles file count) asks before after fb fa status d e (refused refusal came is puts) asked four_is =
    absurd (four refusal (early_alone (Cycles file count) asks refusal refl came) (sym is ∙ four_is))
device_fault D (Check names) asks before after fb fa status d e (refused refusal came is puts) asked four_is =
    absurd (four refusal (early_alone (Check names) asks refusal refl came) (sym is ∙ four_is))
device_fault D (Compile image names) asks before after fb fa status d e (refused refusal came is puts) asked four_is =
    absurd (four refusal (early_alone (Compile image names) asks refusal refl came) (sym is ∙ four_is))
device_fault D (Gen g) asks before after fb fa status d e (refused refusal came is puts) asked four_is =
    absurd (four refusal (early_alone (Gen g) asks refusal refl came) (sym is ∙ four_is))
device_fault D (New names store slot) asks before after fb fa status d e (refused refusal came is puts) asked four_is =
    rose_by _ D store asks refusal d e (sym is ∙ four_is) (new_asked names store slot asks (Err refusal) came) asked
device_fault D (Show names store limit) asks before after fb fa status d e (refused refusal came is puts) asked four_is =
    rose_by _ D store asks refusal d e (sym is ∙ four_is) (show_asked names store limit asks (Err refusal) came) asked
device_fault D (Replay node file) asks before after fb fa status d e (refused refusal came is puts) asked four_is =
    rose_by _ D node.store asks refusal d e (sym is ∙ four_is) (replay_asked node file asks refusal came) asked
device_fault D (Run r) asks before after fb fa status d e (refused refusal came is puts) asked four_is =
    run_rose_by D r.node.store r.port status asks refusal d e is four_is (run_asked r asks refusal came) asked

found_by : {T : Type 0} (D : DiskGhosts T) (store : List ℕ) (asks : List Ask) (refusal : Refusal) (d e : T) → of_refusal refusal ≡ 5
    → StoreAsked IsMaking store asks (Some refusal) → AreAsked D asks d e → IsTrue (D.meaning d).tells → length (D.meaning d).content ≢ 0
found_by D store asks refusal d e is (ends_before reads r all same early) asked told = absurd (five r early (ap of_refusal (sym (some_refusal refusal r same)) ∙ is))
found_by D store asks refusal d e is (ends_unattached reads all same) asked told =
    absurd (let four_is_five = ap of_refusal (sym (some_refusal refusal DeviceFault same)) ∙ is in omega (arith, four_is_five))
found_by D store asks refusal d e is (ends_at reads (Reads read) all kind ends) asked told = absurd ends
found_by D store asks refusal d e is (ends_at reads (Writes name bytes how) all kind ends) asked told = absurd ends
found_by D store asks refusal d e is (ends_at reads (Attaches name b) all kind ends) asked told = absurd ends
found_by D store asks refusal d e is (ends_at reads (Makes slot text Whole) all kind ends) asked told = absurd (no_refusal refusal ends)
found_by D store asks refusal d e is (ends_at reads (Makes slot text NotEmpty) all kind ends) asked told =
    content_found D store slot text d e (last_behind D store (Makes slot text NotEmpty) asks reads d e all asked) told
found_by D store asks refusal d e is (ends_at reads (Makes slot text Failed) all kind ends) asked told =
    absurd (let four_is_five = ap of_refusal (sym (some_refusal refusal DeviceFault ends)) ∙ is in omega (arith, four_is_five))
found_by D store asks refusal d e is (ends_at reads (Opens how) all kind ends) asked told = absurd kind
found_by D store asks refusal d e is (ends_at reads (Binds port b) all kind ends) asked told = absurd kind
found_by D store asks refusal d e is (ends_at reads (Runs ran) all kind ends) asked told = absurd kind

-- 5 of `new` only where the file is not empty
pub exists : {T : Type 0} (D : DiskGhosts T) (names : List (List ℕ)) (store : List ℕ) (slot : ℕ) (asks : List Ask) (before after : Option (List ℕ)) (fb fa status : ℕ) (d e : T)
    → IsAnswer (New names store slot) asks before after fb fa status → AreAsked D asks d e → status ≡ 5 → IsTrue (D.meaning d).tells → length (D.meaning d).content ≢ 0
exists D names store slot asks before after fb fa status d e (done text came is put same) asked five_is = absurd (omega (arith, is, five_is))
exists D names store slot asks before after fb fa status d e (unput text came at_once is rose front) asked five_is = absurd (omega (arith, is, five_is))
exists D names store slot asks before after fb fa status d e (stopped put last never is rose front) asked five_is = absurd never
exists D names store slot asks before after fb fa status d e (wanted spared is puts) asked five_is = absurd (omega (arith, is, five_is))
exists D names store slot asks before after fb fa status d e (refused refusal came is puts) asked five_is =
    found_by D store asks refusal d e (sym is ∙ five_is) (new_asked names store slot asks (Err refusal) came) asked

spared_by : {T : Type 0} (Kind : Ask → Type 0) (D : DiskGhosts T) (store : List ℕ) (asks : List Ask) (refusal : Refusal) (d e : T) → (of_refusal refusal ≡ 4 → ⊥)
    → StoreAsked Kind store asks (Some refusal) → AreAsked D asks d e → SparesDisk (D.meaning d) (D.meaning e)
spared_by Kind D store asks refusal d e not (ends_before reads r all same early) asked =
    spares_same D d e (reads_leave D reads d e (subst (λ (a : List Ask). AreAsked D a d e) all asked))
spared_by Kind D store asks refusal d e not (ends_unattached reads all same) asked = absurd (not (ap of_refusal (some_refusal refusal DeviceFault same)))
spared_by Kind D store asks refusal d e not (ends_at reads ask all kind ends) asked = spared_last D store ask refusal d e ends not (last_behind D store ask asks reads d e all asked)

-- a number that is none of the three
pub none_spared : (n : ℕ) → n ≢ 5 → n ≢ 7 → n ≢ 10 → IsOneOf (5 ∷ 7 ∷ 10 ∷ []) n → ⊥
none_spared n five_not seven_not ten_not (inl is) = five_not is
none_spared n five_not seven_not ten_not (inr (inl is)) = seven_not is
none_spared n five_not seven_not ten_not (inr (inr (inl is))) = ten_not is
none_spared n five_not seven_not ten_not (inr (inr (inr never))) = never

not_four_at : (status n : ℕ) → status ≡ n → IsOneOf (5 ∷ 7 ∷ 10 ∷ []) status → n ≡ 4 → ⊥
not_four_at status n is at four_is = none_spared status (λ e. omega (arith, is, four_is, e)) (λ e. omega (arith, is, four_is, e)) (λ e. omega (arith, is, four_is, e)) at

run_spared_by : {T : Type 0} (D : DiskGhosts T) (store : List ℕ) (port : ℕ) (asks : List Ask) (refusal : Refusal) (d e : T) → (of_refusal refusal ≡ 4 → ⊥)
    → StoreAsked IsOpening store asks (Some refusal) ⊎ Unbound store port asks refusal → AreAsked D asks d e → SparesDisk (D.meaning d) (D.meaning e)
run_spared_by D store port asks refusal d e not (inl by) asked = spared_by _ D store asks refusal d e not by asked
run_spared_by D store port asks refusal d e not (inr by) asked = found_disk D store by.payload d e (last_unbound D store port asks refusal d e by asked)

-- with 5, 7 and 10 the store is as it was
pub spared : {T : Type 0} (D : DiskGhosts T) (command : Command) (asks : List Ask) (before after : Option (List ℕ)) (fb fa status : ℕ) (d e : T)
    → IsAnswer command asks before after fb fa status → AreAsked D asks d e → IsOneOf (5 ∷ 7 ∷ 10 ∷ []) status → SparesDisk (D.meaning d) (D.meaning e)
spared D command asks before after fb fa status d e (done text came is put same) asked at =
    absurd (none_spared status (λ e. omega (arith, is, e)) (λ e. omega (arith, is, e)) (λ e. omega (arith, is, e)) at)
spared D command asks before after fb fa status d e (unput text came at_once is rose front) asked at =
    absurd (none_spared status (λ e. omega (arith, is, e)) (λ e. omega (arith, is, e)) (λ e. omega (arith, is, e)) at)
spared D command asks before after fb fa status d e (stopped put last until is rose front) asked at =
    absurd (none_spared status (λ e. omega (arith, is, e)) (λ e. omega (arith, is, e)) (λ e. omega (arith, is, e)) at)
spared D command asks before after fb fa status d e (wanted left is puts) asked at = (spared_all D asks d e left.unwritten asked).disk
spared D (Cycles file count) asks before after fb fa status d e (refused refusal came is puts) asked at =
    spares_same D d e (quiet_alone D (Cycles file count) asks before after fb fa status d e refl (refused refusal came is puts) asked)
spared D (Check names) asks before after fb fa status d e (refused refusal came is puts) asked at =
    spares_same D d e (quiet_alone D (Check names) asks before after fb fa status d e refl (refused refusal came is puts) asked)
spared D (Compile image names) asks before after fb fa status d e (refused refusal came is puts) asked at =
    spares_same D d e (quiet_alone D (Compile image names) asks before after fb fa status d e refl (refused refusal came is puts) asked)
spared D (Gen g) asks before after fb fa status d e (refused refusal came is puts) asked at =
    spares_same D d e (quiet_alone D (Gen g) asks before after fb fa status d e refl (refused refusal came is puts) asked)
spared D (New names store slot) asks before after fb fa status d e (refused refusal came is puts) asked at =
    spared_by _ D store asks refusal d e (not_four_at status (of_refusal refusal) is at) (new_asked names store slot asks (Err refusal) came) asked
spared D (Show names store limit) asks before after fb fa status d e (refused refusal came is puts) asked at =
    spared_by _ D store asks refusal d e (not_four_at status (of_refusal refusal) is at) (show_asked names store limit asks (Err refusal) came) asked
spared D (Replay node file) asks before after fb fa status d e (refused refusal came is puts) asked at =
    spared_by _ D node.store asks refusal d e (not_four_at status (of_refusal refusal) is at) (replay_asked node file asks refusal came) asked
spared D (Run r) asks before after fb fa status d e (refused refusal came is puts) asked at =
    run_spared_by D r.node.store r.port asks refusal d e (not_four_at status (of_refusal refusal) is at) (run_asked r asks refusal came) asked

-- ---- no file is written

unwritten_reads : (reads : List Read) (asks : List Ask) → written_in (of_reads reads ++ asks) ≡ written_in asks
unwritten_reads [] asks = refl
unwritten_reads (read ∷ reads) asks = unwritten_reads reads asks

store_unwritten : (Kind : Ask → Type 0) (store : List ℕ) (asks : List Ask) (end : Option Refusal) → StoreAsked Kind store asks end → written_in asks ≡ []
store_unwritten Kind store asks end (ends_before reads r all same early) = ap written_in (all ∙ sym (append-nil (of_reads reads))) ∙ unwritten_reads reads []
store_unwritten Kind store asks end (ends_unattached reads all same) = ap written_in all ∙ unwritten_reads reads (Attaches store false ∷ [])
store_unwritten Kind store asks end (ends_at reads (Reads read) all kind ends) = absurd ends
store_unwritten Kind store asks end (ends_at reads (Writes name bytes how) all kind ends) = absurd ends
store_unwritten Kind store asks end (ends_at reads (Attaches name b) all kind ends) = absurd ends
store_unwritten Kind store asks end (ends_at reads (Makes slot text how) all kind ends) = ap written_in all ∙ unwritten_reads reads (Attaches store true ∷ Makes slot text how ∷ [])
store_unwritten Kind store asks end (ends_at reads (Opens how) all kind ends) = ap written_in all ∙ unwritten_reads reads (Attaches store true ∷ Opens how ∷ [])
store_unwritten Kind store asks end (ends_at reads (Binds port b) all kind ends) = absurd ends
store_unwritten Kind store asks end (ends_at reads (Runs ran) all kind ends) = absurd ends

run_unwritten : (store : List ℕ) (asks : List Ask) → RunBehind store asks → written_in asks ≡ []
run_unwritten store asks by = ap written_in by.asks_are ∙ unwritten_reads by.reads (Attaches store true ∷ Opens (Found by.payload) ∷ Runs by.ran ∷ [])

live_unwritten : (store : List ℕ) (port : ℕ) (asks : List Ask) → LiveBehind store port asks → written_in asks ≡ []
live_unwritten store port asks by = ap written_in by.asks_are ∙ unwritten_reads by.reads (Attaches store true ∷ Opens (Found by.payload) ∷ Binds port true ∷ Runs by.ran ∷ [])

refused_unwritten : (store : List ℕ) (port : ℕ) (asks : List Ask) (refusal : Refusal) → StoreAsked IsOpening store asks (Some refusal) ⊎ Unbound store port asks refusal → written_in asks ≡ []
refused_unwritten store port asks refusal (inl by) = store_unwritten _ store asks (Some refusal) by
refused_unwritten store port asks refusal (inr by) = ap written_in by.asks_are ∙ unwritten_reads by.reads (Attaches store true ∷ Opens (Found by.payload) ∷ Binds port false ∷ [])

-- by a command without an output file
pub nothing_written : (command : Command) (asks : List Ask) (end : Result (List ℕ) Refusal) → output_of command ≡ None → Comes command asks end → written_in asks ≡ []
nothing_written (Cycles file count) asks end none comes =
    let (reads, is) = reads_alone (Cycles file count) asks end tt comes in ap written_in (is ∙ sym (append-nil (of_reads reads))) ∙ unwritten_reads reads []
nothing_written (Check names) asks end none comes =
    let (reads, is) = reads_alone (Check names) asks end tt comes in ap written_in (is ∙ sym (append-nil (of_reads reads))) ∙ unwritten_reads reads []
nothing_written (New names store slot) asks end none comes = store_unwritten _ store asks (refusal_by end) (new_asked names store slot asks end comes)
nothing_written (Show names store limit) asks end none comes = store_unwritten _ store asks (refusal_by end) (show_asked names store limit asks end comes)
nothing_written (Replay node file) asks (Ok text) none comes = run_unwritten node.store asks (run_behind node file asks (ran_by node file asks text comes))
nothing_written (Replay node file) asks (Err r) none comes = store_unwritten _ node.store asks (Some r) (replay_asked node file asks r comes)
nothing_written (Run r) asks (Ok text) none comes = live_unwritten r.node.store r.port asks (live_behind r asks text comes)
nothing_written (Run r) asks (Err refusal) none comes = refused_unwritten r.node.store r.port asks refusal (run_asked r asks refusal comes)
nothing_written (Compile image names) asks end none comes = absurd (cc)
nothing_written (Gen g) asks end none comes = absurd (cc)

-- a command that puts its text piece by piece has none
pub until_no_output : (command : Command) (asks : List Ask) (put last : List ℕ) → ComesUntil command asks put last → output_of command ≡ None
until_no_output (Cycles file count) asks put last until = absurd until
until_no_output (Check names) asks put last until = absurd until
until_no_output (New names store slot) asks put last until = absurd until
until_no_output (Show names store limit) asks put last until = absurd until
until_no_output (Replay node file) asks put last until = refl
until_no_output (Run r) asks put last until = absurd until
until_no_output (Compile image names) asks put last until = absurd until
until_no_output (Gen g) asks put last until = absurd until

pub no_link : (command : Command) (asks : List Ask) (before after : Option (List ℕ)) (fb fa status : ℕ) → port_of command ≡ None → IsAnswer command asks before after fb fa status → status ≡ 10 → ⊥
no_link command asks before after fb fa status none (done text came is put same) ten = omega (arith, is, ten)
no_link command asks before after fb fa status none (unput text came at_once is rose front) ten = omega (arith, is, ten)
no_link command asks before after fb fa status none (stopped put last until is rose front) ten = omega (arith, is, ten)
no_link command asks before after fb fa status none (wanted left is puts) ten = omega (arith, is, ten)
no_link (Cycles file count) asks before after fb fa status none (refused refusal came is puts) ten = early_link refusal (early_alone (Cycles file count) asks refusal refl came) (sym is ∙ ten)
no_link (Check names) asks before after fb fa status none (refused refusal came is puts) ten = early_link refusal (early_alone (Check names) asks refusal refl came) (sym is ∙ ten)
no_link (Compile image names) asks before after fb fa status none (refused refusal came is puts) ten = early_link refusal (early_alone (Compile image names) asks refusal refl came) (sym is ∙ ten)
no_link (Gen g) asks before after fb fa status none (refused refusal came is puts) ten = early_link refusal (early_alone (Gen g) asks refusal refl came) (sym is ∙ ten)
no_link (New names store slot) asks before after fb fa status none (refused refusal came is puts) ten = store_link _ store asks refusal (new_asked names store slot asks (Err refusal) came) (sym is ∙ ten)
no_link (Show names store limit) asks before after fb fa status none (refused refusal came is puts) ten = store_link _ store asks refusal (show_asked names store limit asks (Err refusal) came) (sym is ∙ ten)
no_link (Replay node file) asks before after fb fa status none (refused refusal came is puts) ten = store_link _ node.store asks refusal (replay_asked node file asks refusal came) (sym is ∙ ten)
no_link (Run r) asks before after fb fa status none (refused refusal came is puts) ten = absurd (cc)

-- ---- nothing failed that was asked of the disk and the link

bound_behind : (reads : List Read) (asks : List Ask) → NoneFailed asks → NoneFailed (of_reads reads ++ asks)
bound_behind [] asks bound = bound
bound_behind (read ∷ reads) asks bound = bound_behind reads asks bound

bound_row : (asks more : List Ask) (reads : List Read) → asks ≡ of_reads reads ++ more → NoneFailed more → NoneFailed asks
bound_row asks more reads is bound = subst NoneFailed (sym is) (bound_behind reads more bound)

of_files_bound : (asks : List Ask) → list_all is_of_files asks ≡ true → NoneFailed asks
of_files_bound [] none = tt
of_files_bound (Reads read ∷ asks) none = of_files_bound asks none
of_files_bound (Writes name bytes how ∷ asks) none = of_files_bound asks none
of_files_bound (Attaches name b ∷ asks) none = absurd (cc)
of_files_bound (Makes slot payload how ∷ asks) none = absurd (cc)
of_files_bound (Opens how ∷ asks) none = absurd (cc)
of_files_bound (Binds port b ∷ asks) none = absurd (cc)
of_files_bound (Runs ran ∷ asks) none = absurd (cc)

store_bound : (Kind : Ask → Type 0) (store : List ℕ) (asks : List Ask) (end : Option Refusal) → (end ≡ Some DeviceFault → ⊥) → StoreAsked Kind store asks end → NoneFailed asks
store_bound Kind store asks end not (ends_before reads r all same early) = bound_row asks [] reads (all ∙ sym (append-nil (of_reads reads))) tt
store_bound Kind store asks end not (ends_unattached reads all same) = absurd (not same)
store_bound Kind store asks end not (ends_at reads (Reads read) all kind ends) = absurd ends
store_bound Kind store asks end not (ends_at reads (Writes name bytes how) all kind ends) = absurd ends
store_bound Kind store asks end not (ends_at reads (Attaches name b) all kind ends) = absurd ends
store_bound Kind store asks end not (ends_at reads (Makes slot text Whole) all kind ends) =
    bound_row asks (Attaches store true ∷ Makes slot text Whole ∷ []) reads all (refl, ((λ same. cc), tt))
store_bound Kind store asks end not (ends_at reads (Makes slot text NotEmpty) all kind ends) =
    bound_row asks (Attaches store true ∷ Makes slot text NotEmpty ∷ []) reads all (refl, ((λ same. cc), tt))
store_bound Kind store asks end not (ends_at reads (Makes slot text Failed) all kind ends) = absurd (not ends)
store_bound Kind store asks end not (ends_at reads (Opens (Found payload)) all kind ends) =
    bound_row asks (Attaches store true ∷ Opens (Found payload) ∷ []) reads all (refl, ((λ same. cc), tt))
store_bound Kind store asks end not (ends_at reads (Opens NotAStore) all kind ends) =
    bound_row asks (Attaches store true ∷ Opens NotAStore ∷ []) reads all (refl, ((λ same. cc), tt))
store_bound Kind store asks end not (ends_at reads (Opens Unread) all kind ends) = absurd (not ends)
store_bound Kind store asks end not (ends_at reads (Opens Unheld) all kind ends) = absurd ends
store_bound Kind store asks end not (ends_at reads (Binds port b) all kind ends) = absurd ends
store_bound Kind store asks end not (ends_at reads (Runs ran) all kind ends) = absurd ends

by_device : (end : Result (List ℕ) Refusal) → (end ≡ Err DeviceFault → ⊥) → refusal_by end ≡ Some DeviceFault → ⊥
by_device (Ok text) not same = no_refusal DeviceFault (sym same)
by_device (Err r) not same = not (ap Err (some_refusal r DeviceFault same))

-- of what a command comes to, but where it is told that the link or the disk failed
comes_bound : (command : Command) (asks : List Ask) (end : Result (List ℕ) Refusal) → (end ≡ Err LinkFault → ⊥) → (end ≡ Err DeviceFault → ⊥) → Comes command asks end → NoneFailed asks
comes_bound (Cycles file count) asks end not four came = of_files_bound asks (of_files_alone (Cycles file count) asks end refl came)
comes_bound (Check names) asks end not four came = of_files_bound asks (of_files_alone (Check names) asks end refl came)
comes_bound (Compile image names) asks end not four came = of_files_bound asks (of_files_alone (Compile image names) asks end refl came)
comes_bound (Gen g) asks end not four came = of_files_bound asks (of_files_alone (Gen g) asks end refl came)
comes_bound (New names store slot) asks end not four came = store_bound _ store asks (refusal_by end) (by_device end four) (new_asked names store slot asks end came)
comes_bound (Show names store limit) asks end not four came = store_bound _ store asks (refusal_by end) (by_device end four) (show_asked names store limit asks end came)
comes_bound (Replay node file) asks (Ok text) not four came =
    let by = run_behind node file asks (ran_by node file asks text came) in
    bound_row asks (Attaches node.store true ∷ Opens (Found by.payload) ∷ Runs by.ran ∷ []) by.reads by.asks_are (refl, ((λ same. cc), tt))
comes_bound (Replay node file) asks (Err refusal) not four came =
    store_bound _ node.store asks (Some refusal) (by_device (Err refusal) four) (replay_asked node file asks refusal came)
comes_bound (Run r) asks (Ok text) not four came =
    let by = live_behind r asks text came in
    bound_row asks (Attaches r.node.store true ∷ Opens (Found by.payload) ∷ Binds r.port true ∷ Runs by.ran ∷ []) by.reads by.asks_are (refl, ((λ same. cc), (refl, tt)))
comes_bound (Run r) asks (Err refusal) not four came = by (run_asked r asks refusal came)
  where
    by : StoreAsked IsOpening r.node.store asks (Some refusal) ⊎ Unbound r.node.store r.port asks refusal → NoneFailed asks
    by (inl store) = store_bound _ r.node.store asks (Some refusal) (by_device (Err refusal) four) store
    by (inr unbound) = absurd (not (ap Err unbound.is_link))

until_bound : (command : Command) (asks : List Ask) (put last : List ℕ) → ComesUntil command asks put last → NoneFailed asks
until_bound (Cycles file count) asks put last until = absurd until
until_bound (Check names) asks put last until = absurd until
until_bound (New names store slot) asks put last until = absurd until
until_bound (Show names store limit) asks put last until = absurd until
until_bound (Replay node file) asks put last until =
    let by = run_behind node file asks (ran_until node file asks put last until) in
    bound_row asks (Attaches node.store true ∷ Opens (Found by.payload) ∷ Runs by.ran ∷ []) by.reads by.asks_are (refl, ((λ same. cc), tt))
until_bound (Run r) asks put last until = absurd until
until_bound (Compile image names) asks put last until = absurd until
until_bound (Gen g) asks put last until = absurd until

-- memory was wanted, or nothing failed where it is answered neither by 10 nor by 4
pub all_bound : (command : Command) (asks : List Ask) (before after : Option (List ℕ)) (fb fa status : ℕ) → IsAnswer command asks before after fb fa status
    → (status ≡ 10 → ⊥) → (status ≡ 4 → ⊥) → (status ≡ 7) ⊎ NoneFailed asks
all_bound command asks before after fb fa status (done text came is put same) not four =
    inr (comes_bound command asks (Ok text) (λ same. ok_err text LinkFault same) (λ same. ok_err text DeviceFault same) came)
all_bound command asks before after fb fa status (unput text came at_once is rose front) not four =
    inr (comes_bound command asks (Ok text) (λ same. ok_err text LinkFault same) (λ same. ok_err text DeviceFault same) came)
all_bound command asks before after fb fa status (stopped put last until is rose front) not four = inr (until_bound command asks put last until)
all_bound command asks before after fb fa status (refused refusal came is puts) not four =
    inr (comes_bound command asks (Err refusal) (λ same. not (is ∙ ap of_refusal (one_refusal {X = List ℕ} refusal LinkFault same)))
    (λ same. four (is ∙ ap of_refusal (one_refusal {X = List ℕ} refusal DeviceFault same))) came)
all_bound command asks before after fb fa status (wanted left is puts) not four = inl is
