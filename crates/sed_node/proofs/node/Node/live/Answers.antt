use Rattle.std.proofs.Common.{◌≡◌, ◌≤◌, ◌+◌, ℕ, suc, List, [], ◌∷◌, ◌++◌, take, refl, sym, ◌∙◌, ap, subst}
use Rattle.std.proofs.Common.{rules, ℤ, FitsSigned, arith, of_z, to_z, w64}
use Rattle.std.specs.Prelude.{◌-◌, map, IfSome, Option}
use Rattle.std.proofs.lemmas.Int.{to_z-of_z}
use Rattle.sed_outside.specs.declared.addr.Addr.{Addr}
use Rattle.sed_outside.specs.declared.datagram.Datagram.{Datagram}
use Rattle.sed_outside.specs.declared.offer.Offer.{Offer}
use Rattle.sed_outside.specs.declared.polling.Polling.{Polling}
use Rattle.sed_outside.specs.declared.sleep.Sleep.{Sleep}
use Rattle.sed_outside.specs.Clock.{next_moment}
use Rattle.sed_outside.specs.Counts.{one_more}
use Rattle.sed_outside.specs.Rounds.{HearsWhereTold, LiveCycle, most_polls, sleeps_in, wake_moment}
use Rattle.sed_outside.specs.Told.{AddsWhereTold, Told}
use Rattle.app_save.specs.Saving.{AllStores}
use Rattle.replay_log.specs.Entry.{datagram, tick}
use Rattle.node_events.specs.Node.{Setup}
use Rattle.node_events.specs.Running.{run}
use Rattle.sed_node.specs.Living.{offered_at}
use Rattle.sed_node.specs.Standing.{code_of, is_fixed, setup_of}
use Rattle.sed_node.proofs.Keeping.{no_time}
use Rattle.sed_node.proofs.Leaving.{IsLeaving, leaves_all, leaves_datagram, leaves_first, leaves_tick}
use Rattle.sed_node.proofs.Lives.{Slept, lives_all, lives_first, lives_on, sleep_of, sleeps_on, slept_none}
use Rattle.sed_node.proofs.Polled.{counts_datagram, counts_tick, goes_datagram, goes_tick, some_begun, some_done}
use Rattle.sed_node.proofs.Rounds.{InRounds, rounds_datagram, rounds_tick}
use Rattle.sed_node.proofs.Runs.{elapses_both, steps_from}
use Rattle.sed_node.proofs.node.Node.live.Goals as goal

pub events-init : goal.events-init
events-init g c = record {
  most = omega arith;
  same = record { code = refl; setup = refl; fixed = refl };
  stores = rw c.self.view_is c.requires.stores;
  attached = refl;
  time = no_time (g.D.Disk.meaning c.args.disk.now);
  bound = refl;
  slept = slept_none (g.C.Clock.moments c.args.clock.now) (g.C.Clock.given c.args.clock.now) c.args.period _
      (g.C.Clock.asked c.args.clock.now);
  left = leaves_first c.args.cycles (g.L.Link.polls c.args.link.now) (g.C.Clock.moments c.args.clock.now)
      c.new-round.result (c.args.cycles - 0) c.new-round.ensures (omega arith);
  so_far = λ n stands.
      lives_first g.E.Engine g.D.Disk.meaning (is_fixed g.E.Engine c.self.inside.kept) (code_of g.E.Engine c.self.inside.kept)
      (setup_of c.self.inside.kept) c.self.inside.kept n (g.L.Link.polls c.args.link.now)
      (g.C.Clock.moments c.args.clock.now) c.args.cycles c.new-round.result (c.args.cycles - 0) _
      (g.L.Link.polled c.args.link.now) (g.L.Link.offered c.args.link.now) c.args.disk.now c.new-round.ensures (omega arith) stands
      (record { cycles = refl; taken = refl; offered_are = refl; traps = refl });
}

pub hear-requires-clause-stands : goal.hear-requires-clause-stands
hear-requires-clause-stands g c =
    (_, (c.events.invariant.so_far c.self.invariant.0 c.self.invariant.1).runs.stands)

pub hear-requires-clause-stores : goal.hear-requires-clause-stores
hear-requires-clause-stores g c = λ told.
    let before = c.events.invariant in
    subst (λ (s : Setup). AllStores s.slot (g.D.Disk.meaning c.events.disk)) (sym before.same.setup)
    (before.stores (sym before.time.told ∙ told))

pub pass-requires-clause-stands : goal.pass-requires-clause-stands
pass-requires-clause-stands g c =
    (_, (c.events.invariant.so_far c.self.invariant.0 c.self.invariant.1).runs.stands)

pub pass-requires-clause-stores : goal.pass-requires-clause-stores
pass-requires-clause-stores g c = λ told.
    let before = c.events.invariant in
    subst (λ (s : Setup). AllStores s.slot (g.D.Disk.meaning c.events.disk)) (sym before.same.setup)
    (before.stores (sym before.time.told ∙ told))

pub invariant_of-self : goal.invariant_of-self
invariant_of-self g c = (_, (c.events.invariant.so_far c.self.invariant.0 c.self.invariant.1).runs.stands)

pub returns-clause-lives : goal.returns-clause-lives
returns-clause-lives g c = rw (← c.self.view_is) (λ n stands.
    let before = c.events.invariant in
    let most = before.most in
    let over = c.events-test.false in
    let none : c.args.cycles - c.events.done ≡ 0 = omega (arith, most, over) in
    lives_all g.E.Engine g.D.Disk.meaning (is_fixed g.E.Engine c.self.inside.kept) (code_of g.E.Engine c.self.inside.kept)
    (setup_of c.self.inside.kept) c.events.self-inside.kept n (g.L.Link.polls c.args.link.now) (g.C.Clock.moments c.args.clock.now)
    c.args.cycles c.events.round (g.L.Link.polls c.events.link) (g.C.Clock.moments c.events.clock)
    (c.args.cycles - c.events.done) c.events.ended (g.L.Link.polled c.args.link.now) (g.L.Link.polled c.events.link)
    (g.L.Link.offered c.args.link.now) (g.L.Link.offered c.events.link) c.args.disk.now c.events.disk none
    (before.so_far n stands))

pub returns-clause-sleeps : goal.returns-clause-sleeps
returns-clause-sleeps g c =
    let most = c.events.invariant.most in
    let over = c.events-test.false in
    let all : c.events.done ≡ c.args.cycles = omega (arith, most, over) in
    let slept = c.events.invariant.slept in
    record {
      first = to_z w64 c.events.first-bits;
      first_is = λ some. slept.first_is (omega (arith, some, all));
      asked_are = subst (λ (k : ℕ). AddsWhereTold (g.C.Clock.asked c.args.clock.now) (g.C.Clock.asked c.events.clock)
          (sleeps_in (to_z w64 c.events.first-bits) c.args.period (g.C.Clock.given c.args.clock.now) k)) all
          slept.asked_are;
    }

pub returns-clause-left : goal.returns-clause-left
returns-clause-left g c =
    let most = c.events.invariant.most in
    let over = c.events-test.false in
    leaves_all c.args.cycles (g.L.Link.polls c.args.link.now) (g.L.Link.polls c.events.link)
    (g.C.Clock.moments c.args.clock.now) (g.C.Clock.moments c.events.clock) c.events.round
    (c.args.cycles - c.events.done) (omega (arith, most, over)) c.events.invariant.left

pub returns-clause-bound : goal.returns-clause-bound
returns-clause-bound g c = c.events.invariant.bound

pub returns-clause-same : goal.returns-clause-same
returns-clause-same g c = rw (← c.self.view_is) c.events.invariant.same

pub returns-clause-stores : goal.returns-clause-stores
returns-clause-stores g c = rw (← c.self.view_is) c.events.invariant.stores

pub returns-clause-attached : goal.returns-clause-attached
returns-clause-attached g c = c.events.invariant.attached

pub returns-clause-time : goal.returns-clause-time
returns-clause-time g c = c.events.invariant.time

pub events-smaller-in-Some : goal.events-smaller-in-Some
events-smaller-in-Some g c = let one = c.in-Some.ensures.left in omega (arith, one)

pub events-preserved-in-Some : goal.events-preserved-in-Some
events-preserved-in-Some g c =
    let before = c.events.invariant in
    let old = c.self.inside.kept in
    let m = code_of g.E.Engine old in
    let s = setup_of old in
    let same = c.hear.ensures.same in
    let less = c.events-test.true in
    let polls = g.L.Link.polls c.args.link.now in
    let moments = g.C.Clock.moments c.args.clock.now in
    let now = g.C.Clock.moments c.events.clock in
    let k = c.args.cycles - (c.events.done + 1) in
    let one_more_to_do : c.args.cycles - c.events.done ≡ suc k = omega (arith, less) in
    let bytes = take c.in-Some.len c.next.new.into in
    record {
      most = before.most;
      same = record {
        code = same.code ∙ before.same.code;
        setup = same.setup ∙ before.same.setup;
        fixed = same.fixed ∙ before.same.fixed;
      };
      stores = λ told. subst (λ (s : Setup). AllStores s.slot (g.D.Disk.meaning c.hear.new.disk)) before.same.setup
          (c.hear.ensures.stores (before.time.told ∙ told));
      attached = c.hear.ensures.attached ∙ before.attached;
      time = elapses_both (g.D.Disk.meaning c.args.disk.now) (g.D.Disk.meaning c.events.disk)
          (g.D.Disk.meaning c.hear.new.disk) before.time c.hear.ensures.time;
      bound = c.hear.ensures.bound ∙ c.next.ensures.bound ∙ before.bound;
      slept = before.slept;
      left = subst (λ (d : ℕ). IsLeaving c.args.cycles polls (g.L.Link.polls c.hear.new.link) moments now
          c.next.new.self d) (sym one_more_to_do)
          (subst (λ (then : Option (List Polling)). IsLeaving c.args.cycles polls then moments now c.next.new.self (suc k))
          (sym c.hear.ensures.polls)
          (leaves_datagram c.args.cycles polls (g.L.Link.polls c.events.link) (g.L.Link.polls c.next.new.link) moments now
          c.events.round c.next.new.self k (c.in-Some.from, c.in-Some.len) c.next.new.into
          (subst (λ (d : ℕ). IsLeaving c.args.cycles polls (g.L.Link.polls c.events.link) moments now c.events.round d)
          one_more_to_do before.left)
          (subst (λ (came : Option (Addr × ℕ)). HearsWhereTold c.events.round (g.L.Link.polls c.events.link) came
          c.next.new.into c.next.new.self (g.L.Link.polls c.next.new.link)) c.in-Some.is c.next.ensures.heard)));
      so_far = λ n stands.
          let ran = before.so_far n stands in
          let came : Datagram = record { peer = c.in-Some.from; bytes = bytes } in
          let at = g.L.Link.polled c.args.link.now in
          let polled = g.L.Link.polled c.events.link in
          let one = c.in-Some.ensures.left in
          let some : 1 ≤ c.events.round = omega (arith, one) in
          let polled_is : g.L.Link.polled c.hear.new.link ≡ one_more polled =
          c.hear.ensures.polled ∙ c.next.ensures.polled some in
          lives_on c.runs_follow_one_another.ensures g.E.Engine g.D.Disk.meaning (is_fixed g.E.Engine old) m s
          c.events.self-inside.kept c.hear.new.self n polls moments c.args.cycles c.events.round c.next.new.self
          (g.L.Link.polls c.events.link) (g.L.Link.polls c.hear.new.link) now now (c.args.cycles - c.events.done)
          (c.args.cycles - c.events.done) c.events.ended c.hear.new.ended at polled (g.L.Link.polled c.hear.new.link)
          (g.L.Link.offered c.args.link.now) (g.L.Link.offered c.events.link) (g.L.Link.offered c.hear.new.link)
          c.args.disk.now c.events.disk c.hear.new.disk (datagram c.in-Some.from bytes) c.hear.new.outbox ran
          (steps_from g.E.Engine g.D.Disk.meaning old c.events.self-inside.kept c.hear.new.self (run m s n ran.events).node
          (datagram c.in-Some.from bytes) c.hear.new.outbox c.events.ended c.hear.new.ended c.events.disk
          c.hear.new.disk before.same (c.hear.ensures.steps (run m s n ran.events).node ran.runs.stands))
          c.hear.ensures.faults
          (subst (λ (k : ℕ). AddsWhereTold (g.L.Link.offered c.events.link) (g.L.Link.offered c.hear.new.link)
          (map (offered_at k) c.hear.new.outbox)) (sym c.hear.ensures.polled)
          (subst (λ (offered : Option (Told Offer)). AddsWhereTold offered (g.L.Link.offered c.hear.new.link)
          (map (offered_at (g.L.Link.polled c.next.new.link)) c.hear.new.outbox)) c.next.ensures.offered
          c.hear.ensures.offered))
          (record {
            rounds = ran.rounds;
            begun = ran.begun ++ came ∷ [];
            rounds_are = subst (λ (d : ℕ). InRounds polls moments c.args.cycles c.next.new.self
                (g.L.Link.polls c.hear.new.link) now d ran.rounds (ran.begun ++ came ∷ [])
                (ran.entries ++ datagram c.in-Some.from bytes ∷ [])) (sym one_more_to_do)
                (subst (λ (then : Option (List Polling)). InRounds polls moments c.args.cycles c.next.new.self then now
                (suc k) ran.rounds (ran.begun ++ came ∷ []) (ran.entries ++ datagram c.in-Some.from bytes ∷ []))
                (sym c.hear.ensures.polls)
                (rounds_datagram polls moments c.args.cycles c.events.round c.next.new.self
                (g.L.Link.polls c.events.link) (g.L.Link.polls c.next.new.link) now k ran.rounds ran.begun ran.entries
                c.in-Some.from c.in-Some.len c.next.new.into one
                (subst (λ (d : ℕ). InRounds polls moments c.args.cycles c.events.round (g.L.Link.polls c.events.link) now
                d ran.rounds ran.begun ran.entries) one_more_to_do ran.rounds_are)
                (subst (λ (came : Option (Addr × ℕ)). HearsWhereTold c.events.round (g.L.Link.polls c.events.link) came
                c.next.new.into c.next.new.self (g.L.Link.polls c.next.new.link)) c.in-Some.is c.next.ensures.heard)));
            goes = goes_datagram at polled (g.L.Link.polled c.hear.new.link) ran.rounds ran.begun came ran.goes
                polled_is;
            some = some_begun ran.rounds ran.begun came;
            counts_are = counts_datagram at ran.rounds ran.begun came;
          });
    }

pub events-preserved : goal.events-preserved
events-preserved g c =
    let before = c.events.invariant in
    let old = c.self.inside.kept in
    let m = code_of g.E.Engine old in
    let s = setup_of old in
    let same = c.pass.ensures.same in
    let less = c.events-test.true in
    let polls = g.L.Link.polls c.args.link.now in
    let moments = g.C.Clock.moments c.args.clock.now in
    let now = g.C.Clock.moments c.events.clock in
    let done = c.events.done in
    let k = c.args.cycles - (done + 1) in
    let one_more_to_do : c.args.cycles - done ≡ suc k = omega (arith, less) in
    let next : done + 1 ≡ suc done = omega arith in
    let fits_ticks : FitsSigned w64 c.now-ticks.result = search rules in
    let fits_first : FitsSigned w64 c.first_of-first.result = search rules in
    let fits_wake : FitsSigned w64 c.wake.result = search rules in
    let ticks = to_z w64 (of_z w64 c.now-ticks.result) in
    let first = to_z w64 (of_z w64 c.first_of-first.result) in
    let ticks_is : ticks ≡ c.now-ticks.result = to_z-of_z w64 c.now-ticks.result fits_ticks in
    let first_is : first ≡ c.first_of-first.result = to_z-of_z w64 c.first_of-first.result fits_first in
    let asked = g.C.Clock.asked c.args.clock.now in
    let asked_now = g.C.Clock.asked c.events.clock in
    let asked_then = g.C.Clock.asked c.sleep_until.new.self in
    let given_then = g.C.Clock.given c.sleep_until.new.self in
    let wakes = to_z-of_z w64 c.wake.result fits_wake ∙ c.wake.ensures
    ∙ ap (λ (cycle : ℕ). wake_moment first cycle c.args.period) next in
    let adds : AddsWhereTold asked_now asked_then (sleep_of (wake_moment first (suc done) c.args.period) given_then ∷ [])
    = subst (λ (moment : ℤ). AddsWhereTold asked_now asked_then (sleep_of moment given_then ∷ [])) wakes
    (subst (λ (given : ℕ). AddsWhereTold asked_now asked_then
    (sleep_of (to_z w64 (of_z w64 c.wake.result)) given ∷ [])) (sym c.sleep_until.ensures.given)
    (subst (λ (told : Option (Told Sleep)). AddsWhereTold told asked_then
    (sleep_of (to_z w64 (of_z w64 c.wake.result)) (g.C.Clock.given c.now-ticks.new.self) ∷ []))
    c.now-ticks.ensures.asked c.sleep_until.ensures.asked)) in
    record {
      most = omega (arith, less);
      same = record {
        code = same.code ∙ before.same.code;
        setup = same.setup ∙ before.same.setup;
        fixed = same.fixed ∙ before.same.fixed;
      };
      stores = λ told. subst (λ (s : Setup). AllStores s.slot (g.D.Disk.meaning c.pass.new.disk)) before.same.setup
          (c.pass.ensures.stores (before.time.told ∙ told));
      attached = c.pass.ensures.attached ∙ before.attached;
      time = elapses_both (g.D.Disk.meaning c.args.disk.now) (g.D.Disk.meaning c.events.disk)
          (g.D.Disk.meaning c.pass.new.disk) before.time c.pass.ensures.time;
      bound = c.pass.ensures.bound ∙ c.next.ensures.bound ∙ before.bound;
      slept = subst (λ (cycles : ℕ). Slept moments (g.C.Clock.moments c.sleep_until.new.self)
          (g.C.Clock.given c.args.clock.now) given_then cycles c.args.period first asked asked_then) (sym next)
          (sleeps_on moments now (g.C.Clock.moments c.sleep_until.new.self) (g.C.Clock.given c.args.clock.now)
          (g.C.Clock.given c.events.clock) given_then done c.args.period (to_z w64 c.events.first-bits) first
          c.now-ticks.result asked asked_now asked_then before.slept c.now-ticks.ensures.told
          (λ none. first_is ∙ c.first_of-first.ensures.now none ∙ ticks_is)
          (λ some. first_is ∙ c.first_of-first.ensures.before some)
          (c.sleep_until.ensures.given ∙ c.now-ticks.ensures.given) adds);
      left = subst (λ (round : ℕ). IsLeaving c.args.cycles polls (g.L.Link.polls c.pass.new.link) moments
          (g.C.Clock.moments c.sleep_until.new.self) round k) (sym c.new-round-in-None.ensures)
          (subst (λ (then : Option (List Polling)). IsLeaving c.args.cycles polls then moments
          (g.C.Clock.moments c.sleep_until.new.self) most_polls k) (sym c.pass.ensures.polls)
          (leaves_tick c.args.cycles polls (g.L.Link.polls c.events.link) (g.L.Link.polls c.next.new.link) moments now
          (g.C.Clock.moments c.sleep_until.new.self) c.events.round c.next.new.self k c.next.new.into
          (subst (λ (d : ℕ). IsLeaving c.args.cycles polls (g.L.Link.polls c.events.link) moments now c.events.round d)
          one_more_to_do before.left)
          (subst (λ (came : Option (Addr × ℕ)). HearsWhereTold c.events.round (g.L.Link.polls c.events.link) came
          c.next.new.into c.next.new.self (g.L.Link.polls c.next.new.link)) c.in-None.is c.next.ensures.heard)
          (c.sleep_until.ensures.moments ∙ c.now-ticks.ensures.later)));
      so_far = λ n stands.
          let ran = before.so_far n stands in
          let cycle : LiveCycle = record { datagrams = ran.begun; moment = ticks } in
          let at = g.L.Link.polled c.args.link.now in
          let polled = g.L.Link.polled c.events.link in
          let polled_then = g.L.Link.polled c.pass.new.link in
          let moments_then = g.C.Clock.moments c.sleep_until.new.self in
          lives_on c.runs_follow_one_another.ensures g.E.Engine g.D.Disk.meaning (is_fixed g.E.Engine old) m s
          c.events.self-inside.kept c.pass.new.self n polls moments c.args.cycles c.events.round c.new-round-in-None.result
          (g.L.Link.polls c.events.link) (g.L.Link.polls c.pass.new.link) now moments_then (c.args.cycles - done) k
          c.events.ended c.pass.new.ended at polled polled_then
          (g.L.Link.offered c.args.link.now) (g.L.Link.offered c.events.link) (g.L.Link.offered c.pass.new.link)
          c.args.disk.now c.events.disk c.pass.new.disk (tick ticks) c.pass.new.outbox ran
          (steps_from g.E.Engine g.D.Disk.meaning old c.events.self-inside.kept c.pass.new.self (run m s n ran.events).node
          (tick ticks) c.pass.new.outbox c.events.ended c.pass.new.ended c.events.disk c.pass.new.disk before.same
          (c.pass.ensures.steps (run m s n ran.events).node ran.runs.stands))
          c.pass.ensures.faults
          (subst (λ (k : ℕ). AddsWhereTold (g.L.Link.offered c.events.link) (g.L.Link.offered c.pass.new.link)
          (map (offered_at k) c.pass.new.outbox)) (sym c.pass.ensures.polled)
          (subst (λ (offered : Option (Told Offer)). AddsWhereTold offered (g.L.Link.offered c.pass.new.link)
          (map (offered_at (g.L.Link.polled c.next.new.link)) c.pass.new.outbox)) c.next.ensures.offered
          c.pass.ensures.offered))
          (record {
            rounds = ran.rounds ++ cycle ∷ [];
            begun = [];
            rounds_are = subst (λ (round : ℕ). InRounds polls moments c.args.cycles round
                (g.L.Link.polls c.pass.new.link) moments_then k (ran.rounds ++ cycle ∷ []) []
                (ran.entries ++ tick ticks ∷ [])) (sym c.new-round-in-None.ensures)
                (subst (λ (then : Option (List Polling)). InRounds polls moments c.args.cycles most_polls then
                moments_then k (ran.rounds ++ cycle ∷ []) [] (ran.entries ++ tick ticks ∷ []))
                (sym c.pass.ensures.polls)
                (rounds_tick polls moments c.args.cycles c.events.round c.next.new.self (g.L.Link.polls c.events.link)
                (g.L.Link.polls c.next.new.link) now moments_then k ran.rounds ran.begun ran.entries c.next.new.into
                ticks
                (subst (λ (d : ℕ). InRounds polls moments c.args.cycles c.events.round (g.L.Link.polls c.events.link) now
                d ran.rounds ran.begun ran.entries) one_more_to_do ran.rounds_are)
                (subst (λ (came : Option (Addr × ℕ)). HearsWhereTold c.events.round (g.L.Link.polls c.events.link) came
                c.next.new.into c.next.new.self (g.L.Link.polls c.next.new.link)) c.in-None.is c.next.ensures.heard)
                (subst (λ (t : ℤ). IfSome now (λ to_come. t ≡ next_moment to_come)) (sym ticks_is)
                c.now-ticks.ensures.told)
                (c.sleep_until.ensures.moments ∙ c.now-ticks.ensures.later)));
            goes = goes_tick at polled polled_then c.events.round ran.rounds ran.begun ticks ran.goes ran.rounds_are.room
                (λ some. c.pass.ensures.polled ∙ c.next.ensures.polled some)
                (λ none. c.pass.ensures.polled ∙ c.next.ensures.unpolled none);
            some = some_done ran.rounds cycle;
            counts_are = counts_tick at ran.rounds ran.begun ticks;
          });
    }
