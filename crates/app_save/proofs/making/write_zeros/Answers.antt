use Rattle.std.proofs.Common.{◌∙◌, ◌<◌, ◌≤◌, ◌*◌, ℕ, List, length, take, replicate, refl, arith}
use Rattle.disk_model.specs.Disk.{Image}
use Rattle.app_save.proofs.Moments.{then_time, then_marks, then_syncs, then_during, no_time, no_marks, no_syncs, now_alone}
use Rattle.app_save.proofs.Made.{blank_further, blank_none, blank_all, zero_bytes, none_longer, piece_length, piece_fits}
use Rattle.app_save.proofs.making.write_zeros.Goals as goal

pub loop-q-init : goal.loop-q-init
loop-q-init g c =
    let a = g.D.Disk.meaning c.args.disk.now in
    record { time = no_time a; marks = no_marks a; syncs = no_syncs a; attached = refl; faults = refl; blank = λ told. blank_none c.args.len a.content (c.requires.empty told); bound = λ told short u i from to left. short i (now_alone a u i from to left) }

pub loop-q-preserved : goal.loop-q-preserved
loop-q-preserved g c =
    let a = g.D.Disk.meaning c.args.disk.now in
    let m = g.D.Disk.meaning c.loop-q.disk in
    let n = g.D.Disk.meaning c.write_at.new.self in
    let inv = c.loop-q.invariant in
    let below : 512 * c.loop-q.q < c.args.len = let t = c.loop-q-test.true in omega (arith, t) in
    let bytes : List ℕ = take c.min-size.result (replicate 512 0) in
    let room = piece_fits c.args.len c.loop-q.q c.min-size.result below c.min-size.ensures in
    let e = c.in_ok-write_at.ensures in
    record {
      time = then_time a m n inv.time e.time;
      marks = then_marks a m n 0 inv.time e.time inv.marks e.marks;
      syncs = then_syncs a m n 0 inv.time e.time inv.syncs e.syncs;
      attached = e.attached ∙ inv.attached;
      faults = e.cause.steady (λ failed. cc failed) ∙ inv.faults;
      blank = λ told.
          let writes = e.writes (inv.time.told ∙ told) in
          blank_further c.args.len c.loop-q.q bytes m.content n.content below (piece_length c.args.len c.loop-q.q c.min-size.result c.min-size.ensures ∙ c.min-size.ensures) (zero_bytes c.min-size.result) (inv.blank told) writes.torn writes.holds;
      bound = λ told short. then_during a m n (λ (i : Image). length i ≤ c.args.len) told inv.time e.time (inv.bound told short)
          (none_longer c.args.len (512 * c.loop-q.q) bytes a m n room inv.time (inv.bound told short) (e.writes (inv.time.told ∙ told)).during);
    }

pub returns-in_err-write_at-clause-bound : goal.returns-in_err-write_at-clause-bound
returns-in_err-write_at-clause-bound g c told short =
    let a = g.D.Disk.meaning c.args.disk.now in
    let m = g.D.Disk.meaning c.loop-q.disk in
    let n = g.D.Disk.meaning c.write_at.new.self in
    let inv = c.loop-q.invariant in
    let below : 512 * c.loop-q.q < c.args.len = let t = c.loop-q-test.true in omega (arith, t) in
    let bytes : List ℕ = take c.min-size.result (replicate 512 0) in
    let room = piece_fits c.args.len c.loop-q.q c.min-size.result below c.min-size.ensures in
    let e = c.write_at.ensures in
    then_during a m n (λ (i : Image). length i ≤ c.args.len) told inv.time e.time (inv.bound told short)
    (none_longer c.args.len (512 * c.loop-q.q) bytes a m n room inv.time (inv.bound told short) (e.writes (inv.time.told ∙ told)).during)

pub returns-clause-blank : goal.returns-clause-blank
returns-clause-blank g c told = blank_all c.args.len c.loop-q.q (g.D.Disk.meaning c.loop-q.disk).content c.loop-q-test.false (c.loop-q.invariant.blank told)
