-- What a status tells of the link and the clock, and of what `run` leaves.
use Rattle.std.proofs.Common.{◌≡◌, ◌≢◌, ℕ, List, [], ◌∷◌, ◌++◌, Option, Ok, Err, refl, sym, ap, subst, ◌∙◌, inl, inr, arith}
use Rattle.std.specs.Prelude.{IsTrue}
use Rattle.sed_outside.specs.Cause.{Rose}
use Rattle.sed_outside.specs.declared.files.Files.{Ghosts as FileGhosts}
use Rattle.sed_outside.specs.declared.clock.Clock.{Ghosts as ClockGhosts}
use Rattle.sed_outside.specs.declared.link.Link.{Ghosts as LinkGhosts}
use Rattle.disk_model.specs.declared.disk.Disk.{Ghosts as DiskGhosts}
use Rattle.sed_outside.specs.Steps.{Read, stops, goes_on}
use Rattle.sed_outside.proofs.Joining.{same_reads}
use Rattle.sedona_cli.specs.Given.{Given}
use Rattle.sedona_words.specs.Command.{Command, Cycles, Check, Compile, Gen, New, Replay, Run, RunAsked, Show, port_of}
use Rattle.sedona_cli.specs.Outside.{Ask, of_reads, reads_in, AreAsked, HasAsks}
use Rattle.sedona_cli.specs.Program.{AsksLiveOf, IsAnswer, done, unput, stopped, refused, wanted}
use Rattle.sedona_cli.specs.Puts.{IsOneOf}
use Rattle.sedona_cli.specs.Run.{AsksLink, AsksLive, unasked, unbound, unready, all_done, BindsBy, RunInputsRead, RunsNone, at_link, before_link}
use Rattle.sedona_cli.proofs.Ran.{OpensOnce}
use Rattle.sedona_laws.proofs.Alike.{ReadsOne}
use Rattle.sedona_cli.proofs.Asking.{reads_before}
use Rattle.sedona_cli.proofs.Ends.{err_ok, one_refusal}
use Rattle.sedona_cli.proofs.LiveAsked.{run_inputs_alone}
use Rattle.sedona_laws.proofs.ReplayEnds.{open_reads}
use Rattle.sedona_laws.proofs.ReplayRun.{none_of}
use Rattle.sedona_laws.proofs.ShownBy.{OpensNone, neither}
use Rattle.sedona_cli.proofs.StoreAsked.{of_refusal}
use Rattle.sedona_cli.proofs.EarlyEnds.{five}
use Rattle.sedona_laws.proofs.StoresOpen.{no_link}

-- ---- numbers of statuses

none_before : (n : ℕ) → n ≢ 2 → n ≢ 3 → n ≢ 4 → n ≢ 5 → n ≢ 6 → n ≢ 9 → n ≢ 11 → n ≢ 12 → IsOneOf before_link n → ⊥
none_before n two three four five_not six nine eleven twelve (inl e) = two e
none_before n two three four five_not six nine eleven twelve (inr (inl e)) = three e
none_before n two three four five_not six nine eleven twelve (inr (inr (inl e))) = four e
none_before n two three four five_not six nine eleven twelve (inr (inr (inr (inl e)))) = five_not e
none_before n two three four five_not six nine eleven twelve (inr (inr (inr (inr (inl e))))) = six e
none_before n two three four five_not six nine eleven twelve (inr (inr (inr (inr (inr (inl e)))))) = nine e
none_before n two three four five_not six nine eleven twelve (inr (inr (inr (inr (inr (inr (inl e))))))) = eleven e
none_before n two three four five_not six nine eleven twelve (inr (inr (inr (inr (inr (inr (inr (inl e)))))))) = twelve e
none_before n two three four five_not six nine eleven twelve (inr (inr (inr (inr (inr (inr (inr (inr never)))))))) = never

not_before : (status n : ℕ) → status ≡ n → n ≢ 2 → n ≢ 3 → n ≢ 4 → n ≢ 5 → n ≢ 6 → n ≢ 9 → n ≢ 11 → n ≢ 12 → IsOneOf before_link status → ⊥
not_before status n is two three four five_not six nine eleven twelve at = none_before n two three four five_not six nine eleven twelve (subst (λ (k : ℕ). IsOneOf before_link k) is at)

-- what was done is none of them
done_before : (status : ℕ) → IsOneOf (0 ∷ 8 ∷ []) status → IsOneOf before_link status → ⊥
done_before status (inl is) at =
    not_before status 0 is (λ e. omega (arith, e)) (λ e. omega (arith, e)) (λ e. omega (arith, e)) (λ e. omega (arith, e)) (λ e. omega (arith, e)) (λ e. omega (arith, e)) (λ e. omega (arith, e)) (λ e. omega (arith, e)) at
done_before status (inr (inl is)) at =
    not_before status 8 is (λ e. omega (arith, e)) (λ e. omega (arith, e)) (λ e. omega (arith, e)) (λ e. omega (arith, e)) (λ e. omega (arith, e)) (λ e. omega (arith, e)) (λ e. omega (arith, e)) (λ e. omega (arith, e)) at
done_before status (inr (inr never)) at = never

done_not : (status n : ℕ) → status ≡ n → n ≢ 0 → n ≢ 8 → IsOneOf (0 ∷ 8 ∷ []) status → ⊥
done_not status n is nought eight at = neither n nought eight (subst (λ (k : ℕ). IsOneOf (0 ∷ 8 ∷ []) k) is at)

-- behind what was done the port was asked for
done_at : {status : ℕ} → IsOneOf (0 ∷ 8 ∷ []) status → IsOneOf at_link status
done_at (inl nought) = inl nought
done_at (inr (inl eight)) = inr (inl eight)
done_at (inr (inr never)) = absurd never

-- ---- the link and the clock

module _ {U V : Type 0} (L : LinkGhosts U) (C : ClockGhosts V) (port status : ℕ) (link link_now : U) (clock clock_now : V) where
  quiet : (Done : Type 0) → AsksLive L C port status link link_now clock clock_now Done → BindsBy L C port status link link_now clock clock_now
  quiet Done (unasked not same still) = record {
    never = λ before. (same, still);
    once = λ at. absurd (not at);
    at_most_once = λ seven. inl (same, still);
    taken = λ at. absurd (not (done_at at));
    untaken = λ ten. absurd (not (inr (inr (inl ten))));
    silent = λ which. record { polls = ap L.polls same; polled = ap L.polled same; offered = ap L.offered same; asked = ap C.asked still; moments = inl (ap C.moments still, ap C.given still) };
    unasked = λ ten. still;
  }
  quiet Done (unbound ten bind untaken rose polls polled offered still) = record {
    never = λ before.
        absurd (not_before status 10 ten (λ e. omega (arith, e)) (λ e. omega (arith, e)) (λ e. omega (arith, e)) (λ e. omega (arith, e)) (λ e. omega (arith, e)) (λ e. omega (arith, e)) (λ e. omega (arith, e)) (λ e. omega (arith, e)) before);
    once = λ at. bind;
    at_most_once = λ seven. absurd (omega (arith, seven, ten));
    taken = λ at. absurd (done_not status 10 ten (λ e. omega (arith, e)) (λ e. omega (arith, e)) at);
    untaken = λ again. untaken;
    silent = λ which. record { polls = polls; polled = polled; offered = offered; asked = ap C.asked still; moments = inl (ap C.moments still, ap C.given still) };
    unasked = λ again. still;
  }
  quiet Done (unready seven bind taken silent) = record {
    never = λ before.
        absurd (not_before status 7 seven (λ e. omega (arith, e)) (λ e. omega (arith, e)) (λ e. omega (arith, e)) (λ e. omega (arith, e)) (λ e. omega (arith, e)) (λ e. omega (arith, e)) (λ e. omega (arith, e)) (λ e. omega (arith, e)) before);
    once = λ at. bind;
    at_most_once = λ again. inr (bind, taken);
    taken = λ at. taken;
    untaken = λ ten. absurd (omega (arith, seven, ten));
    silent = λ which. silent;
    unasked = λ ten. absurd (omega (arith, seven, ten));
  }
  quiet Done (all_done at bind taken so) = record {
    never = λ before. absurd (done_before status at before);
    once = λ any. bind;
    at_most_once = λ seven. inr (bind, taken);
    taken = λ again. taken;
    untaken = λ ten. absurd (done_not status 10 ten (λ e. omega (arith, e)) (λ e. omega (arith, e)) at);
    silent = λ which. absurd (busy which);
    unasked = λ ten. absurd (done_not status 10 ten (λ e. omega (arith, e)) (λ e. omega (arith, e)) at);
  }
    where
      busy : IsOneOf (7 ∷ 10 ∷ []) status → ⊥
      busy (inl seven) = done_not status 7 seven (λ e. omega (arith, e)) (λ e. omega (arith, e)) at
      busy (inr (inl ten)) = done_not status 10 ten (λ e. omega (arith, e)) (λ e. omega (arith, e)) at
      busy (inr (inr never)) = never

  rose_live : (Done : Type 0) → AsksLive L C port status link link_now clock clock_now Done → status ≡ 10 → Rose (L.faults link) (L.faults link_now)
  rose_live Done (unasked not same still) ten = absurd (not (inr (inr (inl ten))))
  rose_live Done (unbound is bind untaken rose polls polled offered still) ten = rose
  rose_live Done (unready seven bind taken silent) ten = absurd (omega (arith, seven, ten))
  rose_live Done (all_done at bind taken so) ten = absurd (done_not status 10 ten (λ e. omega (arith, e)) (λ e. omega (arith, e)) at)

  pub done_live : (Done : Type 0) → AsksLive L C port status link link_now clock clock_now Done → IsOneOf (0 ∷ 8 ∷ []) status → Done
  done_live Done (unasked not same still) (inl nought) = absurd (not (inl nought))
  done_live Done (unasked not same still) (inr (inl eight)) = absurd (not (inr (inl eight)))
  done_live Done (unasked not same still) (inr (inr never)) = absurd never
  done_live Done (unbound ten bind untaken rose polls polled offered still) at = absurd (done_not status 10 ten (λ e. omega (arith, e)) (λ e. omega (arith, e)) at)
  done_live Done (unready seven bind taken silent) at = absurd (done_not status 7 seven (λ e. omega (arith, e)) (λ e. omega (arith, e)) at)
  done_live Done (all_done is bind taken so) at = so

pub asks_link : {S T U V : Type 0} (F : FileGhosts S) (D : DiskGhosts T) (L : LinkGhosts U) (C : ClockGhosts V) (command : Command) (x y : S) (link link_now : U) (clock clock_now : V) (disk disk_now : T) (before after : Option (List ℕ)) (status : ℕ)
    → AsksLiveOf F D L C command x y link link_now clock clock_now disk disk_now before after status → AsksLink L C (port_of command) status link link_now clock clock_now
asks_link F D L C (Cycles file count) x y link link_now clock clock_now disk disk_now before after status live = live
asks_link F D L C (Check names) x y link link_now clock clock_now disk disk_now before after status live = live
asks_link F D L C (New names store slot) x y link link_now clock clock_now disk disk_now before after status live = live
asks_link F D L C (Show names store limit) x y link link_now clock clock_now disk disk_now before after status live = live
asks_link F D L C (Replay node file) x y link link_now clock clock_now disk disk_now before after status live = live
asks_link F D L C (Run r) x y link link_now clock clock_now disk disk_now before after status live = quiet L C r.port status link link_now clock clock_now _ live
asks_link F D L C (Compile image names) x y link link_now clock clock_now disk disk_now before after status live = live
asks_link F D L C (Gen g) x y link link_now clock clock_now disk disk_now before after status live = live

-- 10 only where the link failed
pub link_fault : {S T U V : Type 0} (F : FileGhosts S) (D : DiskGhosts T) (L : LinkGhosts U) (C : ClockGhosts V) (command : Command) (asks : List Ask) (x y : S) (link link_now : U) (clock clock_now : V) (disk disk_now : T)
    (before after : Option (List ℕ)) (fb fa status : ℕ) → AsksLiveOf F D L C command x y link link_now clock clock_now disk disk_now before after status → IsAnswer command asks before after fb fa status → status ≡ 10
    → Rose (L.faults link) (L.faults link_now)
link_fault F D L C (Run r) asks x y link link_now clock clock_now disk disk_now before after fb fa status live answer ten = rose_live L C r.port status link link_now clock clock_now _ live ten
link_fault F D L C (Cycles file count) asks x y link link_now clock clock_now disk disk_now before after fb fa status live answer ten = absurd (no_link (Cycles file count) asks before after fb fa status refl answer ten)
link_fault F D L C (Check names) asks x y link link_now clock clock_now disk disk_now before after fb fa status live answer ten = absurd (no_link (Check names) asks before after fb fa status refl answer ten)
link_fault F D L C (New names store slot) asks x y link link_now clock clock_now disk disk_now before after fb fa status live answer ten = absurd (no_link (New names store slot) asks before after fb fa status refl answer ten)
link_fault F D L C (Show names store limit) asks x y link link_now clock clock_now disk disk_now before after fb fa status live answer ten = absurd (no_link (Show names store limit) asks before after fb fa status refl answer ten)
link_fault F D L C (Replay node file) asks x y link link_now clock clock_now disk disk_now before after fb fa status live answer ten = absurd (no_link (Replay node file) asks before after fb fa status refl answer ten)
link_fault F D L C (Compile image names) asks x y link link_now clock clock_now disk disk_now before after fb fa status live answer ten = absurd (no_link (Compile image names) asks before after fb fa status refl answer ten)
link_fault F D L C (Gen g) asks x y link link_now clock clock_now disk disk_now before after fb fa status live answer ten = absurd (no_link (Gen g) asks before after fb fa status refl answer ten)

-- ---- with status 5

none_by : {T : Type 0} → ReadsOne → OpensOnce → (D : DiskGhosts T) (asked : RunAsked) (asks : List Ask) (reads : List Read) (before after : Option (List ℕ)) (fb fa status : ℕ) (d e : T)
    → reads_in asks ≡ reads → AreAsked D asks d e → status ≡ 5 → IsTrue (D.meaning d).tells → IsAnswer (Run asked) asks before after fb fa status
    → (inputs : Given) × RunInputsRead asked.node (of_reads reads) (Ok inputs) × OpensNone inputs.code asked.node.limit (D.meaning d).content
none_by one once D asked asks reads before after fb fa status d e is went five_is told (done text came nought put same) = absurd (omega (arith, nought, five_is))
none_by one once D asked asks reads before after fb fa status d e is went five_is told (unput text came at_once eight rose front) = absurd (omega (arith, eight, five_is))
none_by one once D asked asks reads before after fb fa status d e is went five_is told (stopped put last until eight rose front) = absurd until
none_by one once D asked asks reads before after fb fa status d e is went five_is told (wanted spared seven puts) = absurd (omega (arith, seven, five_is))
none_by one once D asked asks reads before after fb fa status d e is went five_is told (refused refusal (stops r read same) number puts) =
    absurd (five r ((run_inputs_alone asked.node).early asks r read) (ap of_refusal (sym (one_refusal {X = List ℕ} refusal r same)) ∙ sym number ∙ five_is))
none_by one once D asked asks reads before after fb fa status d e is went five_is told (refused refusal (goes_on front back i parts read (goes_on g k a more opened (goes_on h j u last bound lives))) number puts) =
    absurd (err_ok refusal _ lives.end_is)
none_by one once D asked asks reads before after fb fa status d e is went five_is told (refused refusal (goes_on front back i parts read (goes_on g k a more opened (stops r bound same))) number puts) =
    absurd (let ten = ap of_refusal (sym (one_refusal {X = List ℕ} refusal r same ∙ bound.1)) ∙ sym number ∙ five_is in omega (arith, ten))
none_by one once D asked asks reads before after fb fa status d e is went five_is told (refused refusal (goes_on front back i parts read (stops r opened same)) number puts) =
    let all = (run_inputs_alone asked.node).reads front (Ok i) read in
    let none =
    none_of one once D asked.node.store asked.node.limit i.code asks front back all.0 r d e parts all.1 (ap of_refusal (sym (one_refusal {X = List ℕ} refusal r same)) ∙ sym number ∙ five_is) told went opened
    in
    let these : all.0 ≡ reads =
    sym (reads_before all.0 back (open_reads asked.node.store asked.node.limit i.code back (Err r) opened))
    ∙ ap (λ (f : List Ask). reads_in (f ++ back)) (sym all.1)
    ∙ ap reads_in (sym parts)
    ∙ is
    in
    (i, subst (λ (l : List Read). RunInputsRead asked.node (of_reads l) (Ok i)) these (subst (λ (l : List Ask). RunInputsRead asked.node l (Ok i)) all.1 read), none)

pub runs_none : {S T : Type 0} (F : FileGhosts S) (D : DiskGhosts T) → ReadsOne → OpensOnce → (x y : S) (d e : T) (asked : RunAsked) (before after : Option (List ℕ)) (fb fa status : ℕ)
    → status ≡ 5 → IsTrue (D.meaning d).tells → HasAsks F D x y d e (λ asks. IsAnswer (Run asked) asks before after fb fa status)
    → RunsNone F asked.node x y (D.meaning d)
runs_none F D one once x y d e asked before after fb fa status five_is told has =
    same_reads F x y _ _ (λ reads held. none_by one once D asked held.0 reads before after fb fa status d e held.1 held.2 five_is told held.3) has
