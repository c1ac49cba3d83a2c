use Rattle.std.proofs.Common.{◌≡◌, ℕ, true, false, length, refl, sym, ◌∙◌, ap, subst, arith}
use Rattle.sed_outside.specs.Cause.{Rose}
use Rattle.app_save.specs.Saving.{AllStores}
use Rattle.replay_log.specs.View.{entry_of}
use Rattle.node_events.specs.Node.{Setup}
use Rattle.node_events.specs.Running.{one_event, run}
use Rattle.sed_node.specs.Standing.{code_of, is_fixed, setup_of}
use Rattle.sed_node.proofs.Keeping.{no_time}
use Rattle.sed_node.proofs.Runs.{elapses_both, goes_on, nothing_ran, runs_whole, steps_from, stops_here}
use Rattle.sed_node.proofs.node.Node.run.Goals as goal

pub entries-init : goal.entries-init
entries-init g c = record {
  same = record { code = refl; setup = refl; fixed = refl };
  stores = rw c.self.view_is c.requires.stores;
  attached = refl;
  time = no_time (g.D.Disk.meaning c.args.disk.now);
  faults = refl;
  so_far = λ n stands.
      nothing_ran g.E.Engine g.D.Disk.meaning (is_fixed g.E.Engine c.self.inside.kept) (code_of g.E.Engine c.self.inside.kept)
      (setup_of c.self.inside.kept) c.self.inside.kept n c.args.records _ (g.S.Sink.text c.args.out.now) c.args.disk.now
      stands (record { cycles = refl; taken = refl; offered_are = refl; traps = refl });
}

pub step-requires-clause-stands : goal.step-requires-clause-stands
step-requires-clause-stands g c =
    (_, (c.entries.invariant.so_far c.self.invariant.0 c.self.invariant.1).all.runs.stands)

pub step-requires-clause-stores : goal.step-requires-clause-stores
step-requires-clause-stores g c = λ told.
    let before = c.entries.invariant in
    subst (λ (s : Setup). AllStores s.slot (g.D.Disk.meaning c.entries.disk)) (sym before.same.setup)
    (before.stores (sym before.time.told ∙ told))

pub entries-smaller : goal.entries-smaller
entries-smaller g c = let one_less = ap length c.in-Some.ensures.given in omega (arith, one_less)

pub entries-preserved : goal.entries-preserved
entries-preserved g c =
    let before = c.entries.invariant in
    let old = c.self.inside.kept in
    let m = code_of g.E.Engine old in
    let s = setup_of old in
    let same = c.step.ensures.same in
    record {
      same = record {
        code = same.code ∙ before.same.code;
        setup = same.setup ∙ before.same.setup;
        fixed = same.fixed ∙ before.same.fixed;
      };
      stores = λ told. subst (λ (s : Setup). AllStores s.slot (g.D.Disk.meaning c.step.new.disk)) before.same.setup
          (c.step.ensures.stores (before.time.told ∙ told));
      attached = c.step.ensures.attached ∙ before.attached;
      time = elapses_both (g.D.Disk.meaning c.args.disk.now) (g.D.Disk.meaning c.entries.disk)
          (g.D.Disk.meaning c.step.new.disk) before.time c.step.ensures.time;
      faults = c.in-Ok.ensures.cause.steady (λ e. (let no : false ≡ true = e in cc)) ∙ before.faults;
      so_far = λ n stands.
          let ran = before.so_far n stands in
          goes_on c.runs_follow_one_another.ensures g.E.Engine g.D.Disk.meaning (is_fixed g.E.Engine old) m s
          c.entries.self-inside.kept c.step.new.self n c.args.records c.entries.left c.next.new.self (entry_of c.in-Some.event)
          c.step.new.outbox c.entries.ended c.step.new.ended (g.S.Sink.text c.args.out.now)
          (g.S.Sink.text c.entries.out) (g.S.Sink.text c.step.new.out) c.args.disk.now c.entries.disk c.step.new.disk
          ran c.in-Some.ensures.given
          (steps_from g.E.Engine g.D.Disk.meaning old c.entries.self-inside.kept c.step.new.self (run m s n ran.all.events).node
          (entry_of c.in-Some.event) c.step.new.outbox c.entries.ended c.step.new.ended c.entries.disk c.step.new.disk
          before.same (c.step.ensures.steps (run m s n ran.all.events).node ran.all.runs.stands))
          c.step.ensures.faults c.in-Ok.ensures.done;
    }

pub invariant_of-self : goal.invariant_of-self
invariant_of-self g c =
    let ran = c.entries.invariant.so_far c.self.invariant.0 c.self.invariant.1 in
    let old = c.self.inside.kept in
    let n = (run (code_of g.E.Engine old) (setup_of old) c.self.invariant.0 ran.all.events).node in
    let now = c.entries.self-inside.kept in
    let handles = (c.step.ensures.steps n ran.all.runs.stands).handles in
    ((one_event (code_of g.E.Engine now) (setup_of now) n handles.event).node, handles.stands)

pub invariant_of-self-in-None : goal.invariant_of-self-in-None
invariant_of-self-in-None g c = (_, (c.entries.invariant.so_far c.self.invariant.0 c.self.invariant.1).all.runs.stands)

pub returns-in-Err-clause-stops : goal.returns-in-Err-clause-stops
returns-in-Err-clause-stops g c = rw (← c.self.view_is) (λ n stands.
    let before = c.entries.invariant in
    let old = c.self.inside.kept in
    let m = code_of g.E.Engine old in
    let s = setup_of old in
    let ran = before.so_far n stands in
    stops_here c.runs_follow_one_another.ensures g.E.Engine g.D.Disk.meaning (is_fixed g.E.Engine old) m s
    c.entries.self-inside.kept c.step.new.self n c.args.records c.entries.left c.next.new.self (entry_of c.in-Some.event)
    c.step.new.outbox c.entries.ended c.step.new.ended (g.S.Sink.text c.args.out.now)
    (g.S.Sink.text c.entries.out) (g.S.Sink.text c.step.new.out) c.args.disk.now c.entries.disk c.step.new.disk
    ran c.in-Some.ensures.given
    (steps_from g.E.Engine g.D.Disk.meaning old c.entries.self-inside.kept c.step.new.self (run m s n ran.all.events).node
    (entry_of c.in-Some.event) c.step.new.outbox c.entries.ended c.step.new.ended c.entries.disk c.step.new.disk
    before.same (c.step.ensures.steps (run m s n ran.all.events).node ran.all.runs.stands))
    c.step.ensures.faults c.in-Err.ensures.failed)

pub returns-in-Err-clause-same : goal.returns-in-Err-clause-same
returns-in-Err-clause-same g c = rw (← c.self.view_is)
    (let before = c.entries.invariant in
    let same = c.step.ensures.same in
    record {
      code = same.code ∙ before.same.code;
      setup = same.setup ∙ before.same.setup;
      fixed = same.fixed ∙ before.same.fixed;
    })

pub returns-in-Err-clause-stores : goal.returns-in-Err-clause-stores
returns-in-Err-clause-stores g c = rw (← c.self.view_is) (λ told.
    let before = c.entries.invariant in
    subst (λ (s : Setup). AllStores s.slot (g.D.Disk.meaning c.step.new.disk)) before.same.setup
    (c.step.ensures.stores (before.time.told ∙ told)))

pub returns-in-Err-clause-attached : goal.returns-in-Err-clause-attached
returns-in-Err-clause-attached g c = c.step.ensures.attached ∙ c.entries.invariant.attached

pub returns-in-Err-clause-time : goal.returns-in-Err-clause-time
returns-in-Err-clause-time g c =
    elapses_both (g.D.Disk.meaning c.args.disk.now) (g.D.Disk.meaning c.entries.disk)
    (g.D.Disk.meaning c.step.new.disk) c.entries.invariant.time c.step.ensures.time

pub returns-in-Err-clause-cause : goal.returns-in-Err-clause-cause
returns-in-Err-clause-cause g c =
    let cause = c.in-Err.ensures.cause in
    let same = c.entries.invariant.faults in
    record {
      later = (let later = cause.later in omega (arith, later, same));
      failed = λ e. subst (λ (count : ℕ). Rose count (g.S.Sink.faults c.step.new.out)) same (cause.failed e);
      steady = λ none. cause.steady none ∙ same;
    }

pub returns-in-None-clause-runs : goal.returns-in-None-clause-runs
returns-in-None-clause-runs g c = rw (← c.self.view_is) (λ n stands.
    let old = c.self.inside.kept in
    runs_whole g.E.Engine g.D.Disk.meaning (is_fixed g.E.Engine old) (code_of g.E.Engine old) (setup_of old)
    c.entries.self-inside.kept n c.args.records c.entries.left c.entries.ended (g.S.Sink.text c.args.out.now)
    (g.S.Sink.text c.entries.out) c.args.disk.now c.entries.disk (c.entries.invariant.so_far n stands)
    (c.in-None.ensures.none.0 refl))

pub returns-in-None-clause-same : goal.returns-in-None-clause-same
returns-in-None-clause-same g c = rw (← c.self.view_is) c.entries.invariant.same

pub returns-in-None-clause-stores : goal.returns-in-None-clause-stores
returns-in-None-clause-stores g c = rw (← c.self.view_is) c.entries.invariant.stores

pub returns-in-None-clause-attached : goal.returns-in-None-clause-attached
returns-in-None-clause-attached g c = c.entries.invariant.attached

pub returns-in-None-clause-time : goal.returns-in-None-clause-time
returns-in-None-clause-time g c = c.entries.invariant.time

pub returns-in-None-clause-cause : goal.returns-in-None-clause-cause
returns-in-None-clause-cause g c =
    let same = c.entries.invariant.faults in
    record {
      later = omega (arith, same);
      failed = λ e. absurd (let no : false ≡ true = e in cc);
      steady = λ none. same;
    }
