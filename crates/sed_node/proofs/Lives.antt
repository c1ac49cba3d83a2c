-- A run over a link and a clock, in its course.
use Rattle.std.proofs.Common.{◌≡◌, ◌∙◌, ◌≤◌, ◌+◌, ℕ, ℤ, zero, suc, Bool, List, [], ◌∷◌, ◌++◌, length, refl, sym, ap}
use Rattle.std.proofs.Common.{subst, append_assoc, arith}
use Rattle.std.specs.Prelude.{map, Option, Some, None, IfSome}
use Rattle.std.proofs.lemmas.List.{append-nil, length-append}
use Rattle.disk_model.specs.Disk.{Meaning as DiskMeaning}
use Rattle.sed_engine.specs.declared.engine.Engine.{Ghosts}
use Rattle.sed_engine.specs.Code.{Meaning}
use Rattle.sed_outside.specs.declared.datagram.Datagram.{Datagram as Heard}
use Rattle.sed_outside.specs.declared.offer.Offer.{Offer}
use Rattle.sed_outside.specs.declared.polling.Polling.{Polling}
use Rattle.sed_outside.specs.declared.sleep.Sleep.{Sleep}
use Rattle.sed_outside.specs.Clock.{Moments, next_moment}
use Rattle.sed_outside.specs.Counts.{counted, one_more}
use Rattle.sed_outside.specs.Rounds.{LiveCycle, most_polls, polls_at, sleeps_in, wake_moment}
use Rattle.sed_outside.specs.Told.{AddsWhereTold, Tells, Told}
use Rattle.replay_log.specs.Entry.{Entry}
use Rattle.dasp_session.specs.Letters.{Letter}
use Rattle.dasp_session.specs.Outbox.{AreTexts, Datagram}
use Rattle.node_events.specs.Node.{Node, Setup}
use Rattle.node_events.specs.Running.{Event, followed_by, nothing_yet, one_event, run, sent_by}
use Rattle.sed_node.specs.Living.{AreTextsByEvent, Lives, all_sent, offered_at, offers}
use Rattle.sed_node.specs.Running.{IsEnd, Runs, Steps}
use Rattle.sed_node.specs.Standing.{StandsFor}
use Rattle.sed_node.specs.declared.kept.Kept.{Kept}
use Rattle.sed_node.specs.declared.running.RunEnd.{RunEnd}
use Rattle.sed_node.proofs.Polled.{GoesOn, all_sent_more, counts_so_far, goes_none, goes_one, offers_more, polls_so_far}
use Rattle.sed_node.proofs.Polled.{sent_more, texts_by_event_more}
use Rattle.sed_node.proofs.Rounds.{InRounds, rounds_all, rounds_none}
use Rattle.sed_node.proofs.Runs.{ends_more, nothing_runs, runs_more}

-- ---- lists that are told

pub adds_none : {T : Type 0} (told : Option (Told T)) → AddsWhereTold told told []
adds_none None = tt {0}
adds_none {T} (Some told) = record {
  fresh = [];
  kept = sym (append-nil told.first);
  told = λ whole tells. subst (λ (all : List T). Tells told all) (sym (append-nil whole)) tells;
}

pub adds_both : {T : Type 0} (old middle new : Option (Told T)) (first later : List T) → AddsWhereTold old middle first
    → AddsWhereTold middle new later → AddsWhereTold old new (first ++ later)
adds_both None None None first later one other = tt {0}
adds_both None None (Some new) first later one other = absurd other
adds_both None (Some middle) new first later one other = absurd one
adds_both (Some old) None new first later one other = absurd one
adds_both (Some old) (Some middle) None first later one other = absurd other
adds_both {T} (Some old) (Some middle) (Some new) first later one other = record {
  fresh = one.fresh ++ other.fresh;
  kept = other.kept ∙ ap (λ (all : List T). all ++ other.fresh) one.kept
      ∙ append_assoc old.first one.fresh other.fresh;
  told = λ whole tells. subst (λ (all : List T). Tells new all) (append_assoc whole first later)
      (other.told (whole ++ first) (one.told whole tells));
}

-- ---- in the course of it

-- so many cycles were done and one has begun, and so many polls have been made
pub record RanLive {E D : Type 0} (g : Ghosts E) (meaning : D → DiskMeaning) (fixed : Bool) (m : Meaning) (s : Setup)
    (new : Kept E) (n : Node) (polls : Option (List Polling)) (moments : Option Moments) (cycles left : ℕ)
    (polls_now : Option (List Polling)) (moments_now : Option Moments) (to_do : ℕ) (ended : RunEnd)
    (polled polled_now : ℕ) (offered offered_now : Option (Told Offer)) (before after : D) : Type 0 where
  pub entries : List Entry
  pub rounds : List LiveCycle
  pub begun : List Heard
  pub rounds_are : InRounds polls moments cycles left polls_now moments_now to_do rounds begun entries
  pub goes : GoesOn polled (polls_so_far rounds begun) polled_now
  pub events : List Event
  pub sents : List (List Datagram)
  pub as_many : length (counts_so_far polled rounds begun) ≡ length sents
  pub texts : AreTextsByEvent (sent_by m s n events) sents
  pub runs : Runs g meaning fixed m s new n entries events (all_sent sents) before after
  pub offered_are : AddsWhereTold offered offered_now (offers (counts_so_far polled rounds begun) sents)
  pub ends : IsEnd ended (run m s n events)

pub lives_none : {E D : Type 0} (g : Ghosts E) (meaning : D → DiskMeaning) (fixed : Bool) (m : Meaning) (s : Setup)
    (kept : Kept E) (n : Node) (polls : Option (List Polling)) (moments : Option Moments) (cycles : ℕ) (ended : RunEnd)
    (polled : ℕ) (offered : Option (Told Offer)) (disk : D) → StandsFor g kept n → IsEnd ended (nothing_yet n)
    → RanLive g meaning fixed m s kept n polls moments cycles most_polls polls moments cycles ended polled polled offered
    offered disk disk
unfolding polls_at
lives_none g meaning fixed m s kept n polls moments cycles ended polled offered disk stands ends = record {
  entries = [];
  rounds = [];
  begun = [];
  rounds_are = rounds_none polls moments cycles;
  goes = goes_none polled;
  events = [];
  sents = [];
  as_many = refl;
  texts = tt {0};
  runs = nothing_runs g meaning fixed m s kept n disk stands;
  offered_are = adds_none offered;
  ends = ends;
}

-- where the round is a new one, and all cycles are to do
pub lives_first : {E D : Type 0} (g : Ghosts E) (meaning : D → DiskMeaning) (fixed : Bool) (m : Meaning) (s : Setup)
    (kept : Kept E) (n : Node) (polls : Option (List Polling)) (moments : Option Moments) (cycles round to_do : ℕ)
    (ended : RunEnd) (polled : ℕ) (offered : Option (Told Offer)) (disk : D) → round ≡ most_polls → to_do ≡ cycles
    → StandsFor g kept n → IsEnd ended (nothing_yet n)
    → RanLive g meaning fixed m s kept n polls moments cycles round polls moments to_do ended polled polled offered
    offered disk disk
lives_first g meaning fixed m s kept n polls moments cycles round to_do ended polled offered disk new all stands ends =
    subst (λ (left : ℕ). RanLive g meaning fixed m s kept n polls moments cycles left polls moments to_do ended polled
    polled offered offered disk disk) (sym new)
    (subst (λ (k : ℕ). RanLive g meaning fixed m s kept n polls moments cycles most_polls polls moments k ended polled
    polled offered offered disk disk) (sym all)
    (lives_none g meaning fixed m s kept n polls moments cycles ended polled offered disk stands ends))

-- the cycles and what has begun with one entry more, and the polls that have been made by then
pub record GoesTo (polls : Option (List Polling)) (moments : Option Moments) (cycles left : ℕ)
    (polls_now : Option (List Polling)) (moments_now : Option Moments) (to_do polled polled_now : ℕ)
    (counts : List ℕ) (entries : List Entry) : Type 0 where
  pub rounds : List LiveCycle
  pub begun : List Heard
  pub rounds_are : InRounds polls moments cycles left polls_now moments_now to_do rounds begun entries
  pub goes : GoesOn polled (polls_so_far rounds begun) polled_now
  pub some : 1 ≤ polls_so_far rounds begun
  pub counts_are : counts_so_far polled rounds begun
      ≡ counts ++ counted (polled + polls_so_far rounds begun) ∷ []

pub lives_on : (follow : (m : Meaning) (s : Setup) (n : Node) (first later : List Event)
    → run m s n (first ++ later) ≡ followed_by (run m s n first) (run m s (run m s n first).node later))
    {E D : Type 0} (g : Ghosts E) (meaning : D → DiskMeaning) (fixed : Bool) (m : Meaning) (s : Setup)
    (middle new : Kept E) (n : Node) (polls : Option (List Polling)) (moments : Option Moments)
    (cycles left left_now : ℕ) (polls_now polls_then : Option (List Polling)) (moments_now moments_then : Option Moments)
    (to_do to_do_now : ℕ) (ended ended_now : RunEnd) (polled polled_now polled_then : ℕ)
    (offered offered_now offered_then : Option (Told Offer))
    (before between after : D) (entry : Entry) (sent : List Datagram)
    (ran : RanLive g meaning fixed m s middle n polls moments cycles left polls_now moments_now to_do ended polled
    polled_now offered offered_now before between)
    → Steps g meaning fixed m s new (run m s n ran.events).node entry sent ended ended_now between after
    → (meaning between).faults ≤ (meaning after).faults
    → AddsWhereTold offered_now offered_then (map (offered_at polled_then) sent)
    → GoesTo polls moments cycles left_now polls_then moments_then to_do_now polled polled_then
    (counts_so_far polled ran.rounds ran.begun) (ran.entries ++ entry ∷ [])
    → RanLive g meaning fixed m s new n polls moments cycles left_now polls_then moments_then to_do_now ended_now polled
    polled_then offered offered_then before after
lives_on follow g meaning fixed m s middle new n polls moments cycles left left_now polls_now polls_then moments_now
    moments_then to_do to_do_now ended ended_now polled polled_now polled_then offered offered_now offered_then before
    between after entry sent ran step more adds to =
    let event = step.handles.event in
    let node = (run m s n ran.events).node in
    let counts = counts_so_far polled ran.rounds ran.begun in
    let count = counted (polled + polls_so_far to.rounds to.begun) in
    let is : polled_then ≡ count = to.goes.more to.some in
    let texts = subst (λ (out : List Datagram). AreTexts (one_event m s node event).sent out)
    (sym step.handles.sends.behind) step.handles.sends.written in
    record {
      entries = ran.entries ++ entry ∷ [];
      rounds = to.rounds;
      begun = to.begun;
      rounds_are = to.rounds_are;
      goes = to.goes;
      events = ran.events ++ event ∷ [];
      sents = ran.sents ++ sent ∷ [];
      as_many =
          let same = ran.as_many in
          let both = length-append counts (count ∷ []) in
          let all = length-append ran.sents (sent ∷ []) in
          ap length to.counts_are
          ∙ (let e : length (counts ++ count ∷ []) ≡ length (ran.sents ++ sent ∷ []) = omega (arith, same, both, all)
          in e);
      texts = subst (λ (letters : List (List Letter)). AreTextsByEvent letters (ran.sents ++ sent ∷ []))
          (sym (sent_more m s n ran.events event))
          (texts_by_event_more (sent_by m s n ran.events) ran.sents (one_event m s node event).sent sent ran.texts
          texts);
      runs = subst (λ (all : List Datagram). Runs g meaning fixed m s new n (ran.entries ++ entry ∷ [])
          (ran.events ++ event ∷ []) all before after) (all_sent_more ran.sents sent)
          (runs_more follow m s n ran.events event g meaning fixed middle new ran.entries entry (all_sent ran.sents) sent
          before between after ran.runs step.handles.is_event step.handles.may step.handles.adds_alone more
          step.handles.stands texts step.handles.disk step.handles.files);
      offered_are = subst (λ (all : List ℕ). AddsWhereTold offered offered_then (offers all (ran.sents ++ sent ∷ [])))
          (sym to.counts_are)
          (subst (λ (all : List Offer). AddsWhereTold offered offered_then all)
          (sym (offers_more counts ran.sents count sent ran.as_many))
          (adds_both offered offered_now offered_then (offers counts ran.sents) (map (offered_at count) sent)
          ran.offered_are (subst (λ (k : ℕ). AddsWhereTold offered_now offered_then (map (offered_at k) sent)) is
          adds)));
      ends = ends_more follow m s n ran.events event ended ended_now entry sent step.traps ran.ends
          step.handles.is_event texts step.handles.traps_are step.counts_are;
    }

-- all cycles are done
pub lives_all : {E D : Type 0} (g : Ghosts E) (meaning : D → DiskMeaning) (fixed : Bool) (m : Meaning) (s : Setup)
    (new : Kept E) (n : Node) (polls : Option (List Polling)) (moments : Option Moments) (cycles left : ℕ)
    (polls_now : Option (List Polling)) (moments_now : Option Moments) (to_do : ℕ) (ended : RunEnd)
    (polled polled_now : ℕ) (offered offered_now : Option (Told Offer)) (before after : D) → to_do ≡ 0
    → RanLive g meaning fixed m s new n polls moments cycles left polls_now moments_now to_do ended polled polled_now
    offered offered_now before after
    → Lives g meaning fixed m s new n polls moments cycles ended polled offered offered_now before after
lives_all g meaning fixed m s new n polls moments cycles left polls_now moments_now to_do ended polled polled_now offered
    offered_now before after none ran = record {
      entries = ran.entries;
      rounds = ran.rounds;
      rounds_are = rounds_all polls moments cycles left polls_now moments_now to_do ran.rounds ran.begun ran.entries none
          ran.rounds_are;
      events = ran.events;
      sents = ran.sents;
      texts = ran.texts;
      runs = ran.runs;
      offered_are = subst (λ (counts : List ℕ). AddsWhereTold offered offered_now (offers counts ran.sents))
          (ap (λ (begun : List Heard). counts_so_far polled ran.rounds begun) (ran.rounds_are.over none)
          ∙ append-nil (polls_at polled ran.rounds)) ran.offered_are;
      ends = ran.ends;
    }

-- ---- sleeps

abbrev pub sleep_of : ℤ → ℕ → Sleep
sleep_of moment given = record { moment = moment; given = given }

pub record Slept (moments moments_now : Option Moments) (given given_now done period : ℕ) (first : ℤ)
    (asked asked_now : Option (Told Sleep)) : Type 0 where
  pub not_yet : done ≡ 0 → moments_now ≡ moments
  pub goes : GoesOn given done given_now
  pub first_is : 1 ≤ done → IfSome moments (λ to_come. first ≡ next_moment to_come)
  pub asked_are : AddsWhereTold asked asked_now (sleeps_in first period given done)

pub slept_none : (moments : Option Moments) (given period : ℕ) (first : ℤ) (asked : Option (Told Sleep))
    → Slept moments moments given given 0 period first asked asked
unfolding sleeps_in
slept_none moments given period first asked = record {
  not_yet = λ e. refl;
  goes = goes_none given;
  first_is = λ le. absurd (omega (arith, le));
  asked_are = adds_none asked;
}

told_first : (moments moments_now : Option Moments) (ticks first_now : ℤ) → moments_now ≡ moments
    → IfSome moments_now (λ to_come. ticks ≡ next_moment to_come) → first_now ≡ ticks
    → IfSome moments (λ to_come. first_now ≡ next_moment to_come)
told_first moments moments_now ticks first_now same told is =
    subst (λ (m : Option Moments). IfSome m (λ to_come. first_now ≡ next_moment to_come)) same
    (subst (λ (t : ℤ). IfSome moments_now (λ to_come. t ≡ next_moment to_come)) (sym is) told)

-- the first one, behind none, and each later one
first_of : (moments moments_now : Option Moments) (done : ℕ) (first first_now ticks : ℤ)
    → (done ≡ 0 → moments_now ≡ moments) → (1 ≤ done → IfSome moments (λ to_come. first ≡ next_moment to_come))
    → IfSome moments_now (λ to_come. ticks ≡ next_moment to_come) → (done ≡ 0 → first_now ≡ ticks)
    → (1 ≤ done → first_now ≡ first) → IfSome moments (λ to_come. first_now ≡ next_moment to_come)
first_of moments moments_now zero first first_now ticks not_yet was told now before =
    told_first moments moments_now ticks first_now (not_yet refl) told (now refl)
first_of moments moments_now (suc done) first first_now ticks not_yet was told now before =
    subst (λ (t : ℤ). IfSome moments (λ to_come. t ≡ next_moment to_come)) (sym (before (omega arith)))
    (was (omega arith))

-- those so far, from whichever moment where there are none
sleeps_from : (done : ℕ) (first first_now : ℤ) (given period : ℕ) (asked asked_now : Option (Told Sleep))
    → (1 ≤ done → first_now ≡ first) → AddsWhereTold asked asked_now (sleeps_in first period given done)
    → AddsWhereTold asked asked_now (sleeps_in first_now period given done)
unfolding sleeps_in
sleeps_from zero first first_now given period asked asked_now before adds = adds
sleeps_from (suc done) first first_now given period asked asked_now before adds =
    subst (λ (t : ℤ). AddsWhereTold asked asked_now (sleeps_in t period given (suc done)))
    (sym (before (omega arith))) adds

pub sleeps_on : (moments moments_now moments_then : Option Moments) (given given_now given_then done period : ℕ)
    (first first_now ticks : ℤ) (asked asked_now asked_then : Option (Told Sleep))
    → Slept moments moments_now given given_now done period first asked asked_now
    → IfSome moments_now (λ to_come. ticks ≡ next_moment to_come) → (done ≡ 0 → first_now ≡ ticks)
    → (1 ≤ done → first_now ≡ first) → given_then ≡ one_more given_now
    → AddsWhereTold asked_now asked_then (sleep_of (wake_moment first_now (suc done) period) given_then ∷ [])
    → Slept moments moments_then given given_then (suc done) period first_now asked asked_then
unfolding sleeps_in
sleeps_on moments moments_now moments_then given given_now given_then done period first first_now ticks asked asked_now
    asked_then slept told now before one adds =
    let goes = goes_one given done given_now given_then slept.goes one in
    let wake = wake_moment first_now (suc done) period in
    record {
      not_yet = λ e. absurd (omega (arith, e));
      goes = goes;
      first_is = λ le. first_of moments moments_now done first first_now ticks slept.not_yet slept.first_is told now
          before;
      asked_are = adds_both asked asked_now asked_then (sleeps_in first_now period given done)
          (sleep_of wake (counted (given + suc done)) ∷ [])
          (sleeps_from done first first_now given period asked asked_now before slept.asked_are)
          (subst (λ (k : ℕ). AddsWhereTold asked_now asked_then (sleep_of wake k ∷ [])) (goes.more (omega arith)) adds);
    }
