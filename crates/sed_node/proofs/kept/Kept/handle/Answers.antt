use Rattle.std.proofs.Common.{rules, ℤ, FitsSigned, w64, refl, sym, subst, arith, [], ◌∷◌}
use Rattle.comp_tree.specs.Whole.{Whole}
use Rattle.replay_log.specs.View.{entry_of}
use Rattle.replay_log.specs.declared.event.Event.{Event as Logged}
use Rattle.node_events.specs.Running.{IsEvent, comes, passes}
use Rattle.sed_node.specs.Doing.{Ticks}
use Rattle.sed_node.specs.Standing.{code_of, setup_of}
use Rattle.std.proofs.lemmas.Int.{to_z-of_z}
use Rattle.sed_node.proofs.Handled.{attached_stays, faults_later, files_of_one, listed_saved}
use Rattle.sed_node.proofs.Keeping.{no_time}
use Rattle.sed_node.proofs.kept.Kept.handle.Goals as goal

pub returns-in-Datagram-clause-handles : goal.returns-in-Datagram-clause-handles
returns-in-Datagram-clause-handles g c = λ n stands.
    let heard = c.datagram.ensures.heard in
    let d = c.datagram.ensures.delivers n heard.0 stands heard.1 in
    let m = code_of g.E.Engine c.args.self.now in
    let s = setup_of c.args.self.now in
    let event = comes c.in-Datagram.from heard.0 d.mishap in
    record {
      event = event;
      is_event = subst (λ (logged : Logged). IsEvent (entry_of logged) event) (sym c.in-Datagram.is) (refl, heard.1);
      may = d.may;
      adds_alone = d.adds_alone;
      stands = d.stands;
      sends = d.sends;
      few = (let few = d.few in omega (arith, few));
      disk = listed_saved g.D.Disk.meaning m s.slot _ c.args.disk.now c.datagram.new.disk d.disk
          c.datagram.ensures.time;
      files = files_of_one m s n event (c.texts_are_files_of_what_is_kept.ensures.file m n.application)
          (c.texts_are_files_of_what_is_kept.ensures.text m n.application) stands.is_kept.code
          (subst (Whole m) stands.holds.application stands.is_kept.whole) _
          (c.saves_are_of_what_was_reached.ensures m s n (event ∷ []));
      traps_are = refl;
    }

pub returns-in-Tick-clause-handles : goal.returns-in-Tick-clause-handles
returns-in-Tick-clause-handles g c = λ n stands.
    let fits : FitsSigned w64 c.in-Tick.ticks = search rules in
    let t = subst (λ (ticks : ℤ). Ticks g.E.Engine c.args.self.now c.tick-end.new.self n ticks c.tick-end.result.traps
    c.tick-end.new.out) (to_z-of_z w64 c.in-Tick.ticks fits) (c.tick-end.ensures.ticks n stands) in
    let event = passes c.in-Tick.ticks in
    record {
      event = event;
      is_event = subst (λ (logged : Logged). IsEvent (entry_of logged) event) (sym c.in-Tick.is) refl;
      may = tt {0};
      adds_alone = tt {0};
      stands = t.stands;
      sends = t.sends;
      few = t.few;
      disk = refl;
      files = tt {0};
      traps_are = t.traps_are;
    }

pub returns-in-Tick-clause-same : goal.returns-in-Tick-clause-same
returns-in-Tick-clause-same g c = (c.tick-end.ensures.ticks c.requires.stands.0 c.requires.stands.1).same

pub returns-in-Datagram-clause-same : goal.returns-in-Datagram-clause-same
returns-in-Datagram-clause-same g c =
    let heard = c.datagram.ensures.heard in
    (c.datagram.ensures.delivers c.requires.stands.0 heard.0 c.requires.stands.1 heard.1).same

pub returns-in-Datagram-clause-faults : goal.returns-in-Datagram-clause-faults
returns-in-Datagram-clause-faults g c =
    let heard = c.datagram.ensures.heard in
    let d = c.datagram.ensures.delivers c.requires.stands.0 heard.0 c.requires.stands.1 heard.1 in
    faults_later g.D.Disk.meaning (code_of g.E.Engine c.args.self.now) (setup_of c.args.self.now).slot _ c.args.disk.now
    c.datagram.new.disk d.disk

pub returns-in-Datagram-clause-attached : goal.returns-in-Datagram-clause-attached
returns-in-Datagram-clause-attached g c =
    let heard = c.datagram.ensures.heard in
    let d = c.datagram.ensures.delivers c.requires.stands.0 heard.0 c.requires.stands.1 heard.1 in
    attached_stays g.D.Disk.meaning (code_of g.E.Engine c.args.self.now) (setup_of c.args.self.now).slot _
    c.args.disk.now c.datagram.new.disk d.disk

pub returns-in-Tick-clause-attached : goal.returns-in-Tick-clause-attached
returns-in-Tick-clause-attached g c = refl

pub returns-in-Tick-clause-time : goal.returns-in-Tick-clause-time
returns-in-Tick-clause-time g c = no_time (g.D.Disk.meaning c.args.disk.now)

pub returns-in-Tick-clause-faults : goal.returns-in-Tick-clause-faults
returns-in-Tick-clause-faults g c = omega arith
