use Rattle.std.proofs.Common.{◌∙◌, ◌+◌, ◌%◌, ◌++◌, ℕ, length, sym, ap, IsTrue}
use Rattle.app_save.specs.Bytes.{header_bytes}
use Rattle.app_save.proofs.Moments.{then_time}
use Rattle.app_save.proofs.Stages.{throughout_first, throughout_closed, throughout_all, closed_again, filled_again}
use Rattle.app_save.proofs.Closing.{closes_none, closes_then, shut_still, shut_then, filled_still, gate_inside}
use Rattle.app_save.proofs.Ranges.{then_range, of_gate, gate_and_behind}
use Rattle.app_save.proofs.SlotWritten.{opened_done}
use Rattle.app_save.proofs.save.write_slot.Goals as goal

pub fill-requires-clause-next : goal.fill-requires-clause-next
fill-requires-clause-next g c told =
    let before : IsTrue (g.D.Disk.meaning c.args.disk.now).tells = sym c.close_gate.ensures.time.told ∙ told in
    (c.requires.ready before).there.next ∙ ap (λ (n : ℕ). (n + 1) % 3) (sym (c.in_ok-close_gate.ensures.closed before).closed.stays.generation)

pub fill-requires-clause-closed : goal.fill-requires-clause-closed
fill-requires-clause-closed g c told =
    let before : IsTrue (g.D.Disk.meaning c.args.disk.now).tells = sym c.close_gate.ensures.time.told ∙ told in
    closed_again c.args.slot c.args.place.now.newest c.args.place.now.other c.args.payload.now (g.D.Disk.meaning c.args.disk.now).content (g.D.Disk.meaning c.close_gate.new.disk) (c.in_ok-close_gate.ensures.closed before)

pub open_gate-requires-clause-filled : goal.open_gate-requires-clause-filled
open_gate-requires-clause-filled g c told =
    let between : IsTrue (g.D.Disk.meaning c.close_gate.new.disk).tells = sym c.fill.ensures.time.told ∙ told in
    filled_again c.args.slot c.args.place.now.newest c.args.place.now.other c.args.payload.now (g.D.Disk.meaning c.close_gate.new.disk).content (g.D.Disk.meaning c.fill.new.disk) (c.in_ok-fill.ensures.filled between)

pub returns-in_err-close_gate-clause-during : goal.returns-in_err-close_gate-clause-during
returns-in_err-close_gate-clause-during g c told =
    let a = g.D.Disk.meaning c.args.disk.now in
    throughout_first c.args.slot c.args.place.now.newest c.args.place.now.other c.args.payload.now a.content a (g.D.Disk.meaning c.close_gate.new.disk) (c.close_gate.ensures.during told)

pub returns-in_err-fill-clause-during : goal.returns-in_err-fill-clause-during
returns-in_err-fill-clause-during g c told =
    let a = g.D.Disk.meaning c.args.disk.now in
    let b = g.D.Disk.meaning c.close_gate.new.disk in
    let told_b : IsTrue b.tells = c.close_gate.ensures.time.told ∙ told in
    throughout_closed c.args.slot c.args.place.now.newest c.args.place.now.other c.args.payload.now a.content a b (g.D.Disk.meaning c.fill.new.disk) told c.close_gate.ensures.time c.fill.ensures.time (c.close_gate.ensures.during told) (c.in_ok-close_gate.ensures.closed told) (c.fill.ensures.during told_b)

pub returns-clause-during : goal.returns-clause-during
returns-clause-during g c told =
    let a = g.D.Disk.meaning c.args.disk.now in
    let b = g.D.Disk.meaning c.close_gate.new.disk in
    let d = g.D.Disk.meaning c.fill.new.disk in
    let told_b : IsTrue b.tells = c.close_gate.ensures.time.told ∙ told in
    let told_d : IsTrue d.tells = c.fill.ensures.time.told ∙ told_b in
    let closed = c.in_ok-close_gate.ensures.closed told in
    let both = then_time a b d c.close_gate.ensures.time c.fill.ensures.time in
    let first = throughout_closed c.args.slot c.args.place.now.newest c.args.place.now.other c.args.payload.now a.content a b d told c.close_gate.ensures.time c.fill.ensures.time (c.close_gate.ensures.during told) closed (c.fill.ensures.during told_b) in
    throughout_all c.args.slot c.args.place.now.newest c.args.place.now.other c.args.payload.now a.content a b d (g.D.Disk.meaning c.open_gate.new.disk) told c.close_gate.ensures.time c.fill.ensures.time both c.open_gate.ensures.time first closed (c.in_ok-fill.ensures.filled told_b) (c.open_gate.ensures.during told_d)

pub returns-in_err-close_gate-clause-touches : goal.returns-in_err-close_gate-clause-touches
returns-in_err-close_gate-clause-touches g c told =
    of_gate c.args.place.now.other c.args.payload.now (g.D.Disk.meaning c.args.disk.now) (g.D.Disk.meaning c.close_gate.new.disk) (c.close_gate.ensures.touches told)

pub returns-in_err-fill-clause-touches : goal.returns-in_err-fill-clause-touches
returns-in_err-fill-clause-touches g c told =
    let a = g.D.Disk.meaning c.args.disk.now in
    let b = g.D.Disk.meaning c.close_gate.new.disk in
    let told_b : IsTrue b.tells = c.close_gate.ensures.time.told ∙ told in
    gate_and_behind c.args.place.now.other c.args.payload.now a b (g.D.Disk.meaning c.fill.new.disk) told c.close_gate.ensures.time c.fill.ensures.time (c.close_gate.ensures.touches told) (c.fill.ensures.touches told_b)

pub returns-clause-touches : goal.returns-clause-touches
returns-clause-touches g c told =
    let a = g.D.Disk.meaning c.args.disk.now in
    let b = g.D.Disk.meaning c.close_gate.new.disk in
    let d = g.D.Disk.meaning c.fill.new.disk in
    let told_b : IsTrue b.tells = c.close_gate.ensures.time.told ∙ told in
    let told_d : IsTrue d.tells = c.fill.ensures.time.told ∙ told_b in
    let e = g.D.Disk.meaning c.open_gate.new.disk in
    then_range c.args.place.now.other (6 + length c.args.payload.now) a d e told (then_time a b d c.close_gate.ensures.time c.fill.ensures.time) c.open_gate.ensures.time
    (gate_and_behind c.args.place.now.other c.args.payload.now a b d told c.close_gate.ensures.time c.fill.ensures.time (c.close_gate.ensures.touches told) (c.fill.ensures.touches told_b))
    (of_gate c.args.place.now.other c.args.payload.now d e (c.open_gate.ensures.touches told_d))

pub returns-in_err-close_gate-clause-closes : goal.returns-in_err-close_gate-clause-closes
returns-in_err-close_gate-clause-closes g c told is_open =
    closes_none c.args.place.now.other (header_bytes c.args.place.now.generation (length c.args.payload.now) ++ c.args.payload.now) (g.D.Disk.meaning c.args.disk.now) (g.D.Disk.meaning c.close_gate.new.disk) c.close_gate.ensures.time (c.close_gate.ensures.touches told)

pub returns-in_err-fill-clause-closes : goal.returns-in_err-fill-clause-closes
returns-in_err-fill-clause-closes g c told is_open =
    let other = c.args.place.now.other in
    let bytes = header_bytes c.args.place.now.generation (length c.args.payload.now) ++ c.args.payload.now in
    let b = g.D.Disk.meaning c.close_gate.new.disk in
    let d = g.D.Disk.meaning c.fill.new.disk in
    let told_b : IsTrue b.tells = c.close_gate.ensures.time.told ∙ told in
    let closed = c.in_ok-close_gate.ensures.closed told in
    closes_then other bytes (g.D.Disk.meaning c.args.disk.now) b d told c.close_gate.ensures.time c.fill.ensures.time (c.close_gate.ensures.touches told)
    (shut_still other bytes (5 + length c.args.payload.now) b d closed.rests (gate_inside c.args.slot c.args.place.now.newest other b.content c.requires.slots closed.closed.stays.stands.size)
    (c.in_ok-close_gate.ensures.zero told is_open) (c.fill.ensures.touches told_b))

pub returns-clause-closes : goal.returns-clause-closes
returns-clause-closes g c told is_open =
    let other = c.args.place.now.other in
    let bytes = header_bytes c.args.place.now.generation (length c.args.payload.now) ++ c.args.payload.now in
    let b = g.D.Disk.meaning c.close_gate.new.disk in
    let d = g.D.Disk.meaning c.fill.new.disk in
    let e = g.D.Disk.meaning c.open_gate.new.disk in
    let told_b : IsTrue b.tells = c.close_gate.ensures.time.told ∙ told in
    let told_d : IsTrue d.tells = c.fill.ensures.time.told ∙ told_b in
    let closed = c.in_ok-close_gate.ensures.closed told in
    closes_then other bytes (g.D.Disk.meaning c.args.disk.now) b e told c.close_gate.ensures.time (then_time b d e c.fill.ensures.time c.open_gate.ensures.time) (c.close_gate.ensures.touches told)
    (shut_then other bytes b d e told_b c.fill.ensures.time c.open_gate.ensures.time
    (shut_still other bytes (5 + length c.args.payload.now) b d closed.rests (gate_inside c.args.slot c.args.place.now.newest other b.content c.requires.slots closed.closed.stays.stands.size)
    (c.in_ok-close_gate.ensures.zero told is_open) (c.fill.ensures.touches told_b))
    (filled_still other bytes d e (c.in_ok-fill.ensures.filled told_b).rests (c.in_ok-fill.ensures.holds told_b) (c.open_gate.ensures.touches told_d)))

pub returns-clause-holds : goal.returns-clause-holds
returns-clause-holds g c told =
    let b = g.D.Disk.meaning c.close_gate.new.disk in
    let d = g.D.Disk.meaning c.fill.new.disk in
    let told_b : IsTrue b.tells = c.close_gate.ensures.time.told ∙ told in
    let told_d : IsTrue d.tells = c.fill.ensures.time.told ∙ told_b in
    opened_done c.open_gate.result c.args.place.now.other c.args.place.now.generation c.args.payload.now d.content (g.D.Disk.meaning c.open_gate.new.disk).content
    (c.in_ok-fill.ensures.holds told_b) (c.open_gate.ensures.gate told_d) (c.open_gate.ensures.holds told_d)
