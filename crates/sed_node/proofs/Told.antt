-- The cycles of a run over a link that tells its polls and a clock that tells its moments.
use Rattle.std.proofs.Common.{◌≡◌, ◌∙◌, ℕ, ℤ, zero, suc, List, [], ◌∷◌, Some, refl, ap}
use Rattle.std.specs.List.{flat_map}
use Rattle.sed_outside.specs.declared.datagram.Datagram.{Datagram}
use Rattle.sed_outside.specs.declared.polling.Polling.{Polling}
use Rattle.sed_outside.specs.Clock.{Moments, later_moments, next_moment}
use Rattle.sed_outside.specs.Rounds.{LiveCycle, heard, heard_in, live_cycles, most_polls, tick_moments, unheard}
use Rattle.replay_log.specs.Entry.{Entry}
use Rattle.node_events.specs.LiveEvents.{entries_in, live_events}
use Rattle.sed_node.specs.Living.{AreRounds}
use Rattle.sed_node.proofs.Rounds.{datagrams_of, moments_of}

head_of : {T : Type 0} (x y : T) (xs ys : List T) → x ∷ xs ≡ y ∷ ys → x ≡ y
head_of x y xs ys same = cc

tail_of : {T : Type 0} (x y : T) (xs ys : List T) → x ∷ xs ≡ y ∷ ys → xs ≡ ys
tail_of x y xs ys same = cc

cycle_of : (cycle : LiveCycle) (datagrams : List Datagram) (moment : ℤ) → cycle.datagrams ≡ datagrams
    → cycle.moment ≡ moment → cycle ≡ record { datagrams = datagrams; moment = moment }
cycle_of cycle datagrams moment heard given =
    let first : cycle ≡ record { datagrams = datagrams; moment = cycle.moment } =
    ap (λ (d : List Datagram). let c : LiveCycle = record { datagrams = d; moment = cycle.moment } in c) heard in
    first ∙ ap (λ (t : ℤ). let c : LiveCycle = record { datagrams = datagrams; moment = t } in c) given

-- their datagrams and their moments make the cycles
told_cycles : (n : ℕ) (polls : List Polling) (moments : Moments) (rounds : List LiveCycle)
    → datagrams_of rounds ≡ heard_in n polls → moments_of rounds ≡ tick_moments n moments
    → rounds ≡ live_cycles polls moments n
unfolding heard_in tick_moments live_cycles
told_cycles zero polls moments [] hears gives = refl
told_cycles zero polls moments (cycle ∷ rounds) hears gives = absurd (cc)
told_cycles (suc n) polls moments [] hears gives = absurd (cc)
told_cycles (suc n) polls moments (cycle ∷ rounds) hears gives =
    let polls_then = unheard most_polls polls in
    let moments_then = later_moments moments in
    let first = cycle_of cycle (heard most_polls polls) (next_moment moments)
    (head_of cycle.datagrams (heard most_polls polls) (datagrams_of rounds) (heard_in n polls_then) hears)
    (head_of cycle.moment (next_moment moments) (moments_of rounds) (tick_moments n moments_then) gives) in
    let rest = told_cycles n polls_then moments_then rounds
    (tail_of cycle.datagrams (heard most_polls polls) (datagrams_of rounds) (heard_in n polls_then) hears)
    (tail_of cycle.moment (next_moment moments) (moments_of rounds) (tick_moments n moments_then) gives) in
    ap (λ (c : LiveCycle). c ∷ rounds) first
    ∙ ap (λ (more : List LiveCycle). (let c : LiveCycle =
    record { datagrams = heard most_polls polls; moment = next_moment moments } in c) ∷ more) rest

pub told_entries : (polls : List Polling) (moments : Moments) (cycles : ℕ) (rounds : List LiveCycle)
    (entries : List Entry) → AreRounds (Some polls) (Some moments) cycles rounds entries
    → entries ≡ live_events polls moments cycles
told_entries polls moments cycles rounds entries are =
    are.entries_are ∙ ap (λ (all : List LiveCycle). flat_map entries_in all)
    (told_cycles cycles polls moments rounds are.heard_are are.moments_are)
