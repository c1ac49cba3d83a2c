use Rattle.std.proofs.Common.{◌∙◌, ◌+◌, ◌<◌, ◌*◌, length, sym, IsTrue, refl}
use Rattle.app_save.proofs.Moments.{then_time, then_marks, no_time, no_marks, at_end}
use Rattle.app_save.proofs.Ranges.{during_none}
use Rattle.app_save.proofs.PageSteps.{so_far_none, page_size, page_bytes, page_inside, further_during, further, page_below, page_touches}
use Rattle.disk_model.specs.Disk.{During}
use Rattle.app_save.specs.Stages.{Closed}
use Rattle.app_save.proofs.pages.write_pages.Goals.{After-write_page}
use Rattle.app_save.proofs.pages.write_pages.Goals as goal

pub loop-q-init : goal.loop-q-init
loop-q-init g c =
    let a = g.D.Disk.meaning c.args.disk.now in
    record { time = no_time a; marks = no_marks a; attached = refl; faults = refl; so_far = λ told. so_far_none c.args.slot c.args.place.now.newest c.args.place.now.other c.args.payload.now a (c.requires.closed told); touches = λ told. during_none (c.args.place.now.other + 6) (length c.args.payload.now) a }

pub write_page-requires-clause-inside : goal.write_page-requires-clause-inside
write_page-requires-clause-inside g c told_m =
    let a = g.D.Disk.meaning c.args.disk.now in
    let m = g.D.Disk.meaning c.loop-q.disk in
    let inv = c.loop-q.invariant in
    let below : 512 * c.loop-q.q < length c.args.payload.now = page_below c.loop-q.q (length c.args.payload.now) c.loop-q-test.true in
    let size = page_size c.args.payload.now c.loop-q.q c.min-end.result below c.min-end.ensures in
    let bytes = page_bytes c.args.payload.now c.loop-q.q c.min-end.result below c.min-end.ensures in
    let told : IsTrue a.tells = sym inv.time.told ∙ told_m in
    page_inside c.args.slot c.args.place.now.newest c.args.place.now.other c.requires.slots c.args.payload.now c.requires.fits c.loop-q.q _ below size bytes a m m told inv.time (no_time m) (inv.so_far told) (g.met.D.Disk.is_disk c.loop-q.disk told_m)

pub loop-q-preserved : goal.loop-q-preserved
loop-q-preserved g c =
    let a = g.D.Disk.meaning c.args.disk.now in
    let m = g.D.Disk.meaning c.loop-q.disk in
    let inv = c.loop-q.invariant in
    let below : 512 * c.loop-q.q < length c.args.payload.now = page_below c.loop-q.q (length c.args.payload.now) c.loop-q-test.true in
    let size = page_size c.args.payload.now c.loop-q.q c.min-end.result below c.min-end.ensures in
    let bytes = page_bytes c.args.payload.now c.loop-q.q c.min-end.result below c.min-end.ensures in
    let n = g.D.Disk.meaning c.write_page.new.disk in
    let e = c.in_ok-write_page.ensures in
    record {
      time = then_time a m n inv.time e.time;
      marks = then_marks a m n 0 inv.time e.time inv.marks e.marks;
      attached = e.attached ∙ inv.attached;
      faults = e.cause.steady (λ failed. cc failed) ∙ inv.faults;
      so_far = λ told.
          let told_m : IsTrue m.tells = inv.time.told ∙ told in
          further c.args.slot c.args.place.now.newest c.args.place.now.other c.requires.slots c.args.payload.now c.requires.fits c.loop-q.q _ below size bytes a m n told inv.time e.time (inv.so_far told) (g.met.D.Disk.is_disk c.loop-q.disk told_m)
          c.write_page.result (c.write_page.ensures.writes told_m) (c.write_page.ensures.equal told_m) (e.writes told_m).holds;
      touches = λ told.
          let told_m : IsTrue m.tells = inv.time.told ∙ told in
          page_touches c.args.place.now.other c.args.payload.now c.loop-q.q _ below size a m n told inv.time e.time (inv.touches told) (c.write_page.ensures.writes told_m).during;
    }

-- during the page that failed
during_page : (g : _) (c : After-write_page g) → IsTrue (g.D.Disk.meaning c.args.disk.now).tells
    → During (g.D.Disk.meaning c.args.disk.now) (g.D.Disk.meaning c.write_page.new.disk) (Closed c.args.slot c.args.place.now.newest c.args.place.now.other c.args.payload.now (g.D.Disk.meaning c.args.disk.now).content)
during_page g c told =
    let a = g.D.Disk.meaning c.args.disk.now in
    let m = g.D.Disk.meaning c.loop-q.disk in
    let inv = c.loop-q.invariant in
    let below : 512 * c.loop-q.q < length c.args.payload.now = page_below c.loop-q.q (length c.args.payload.now) c.loop-q-test.true in
    let size = page_size c.args.payload.now c.loop-q.q c.min-end.result below c.min-end.ensures in
    let bytes = page_bytes c.args.payload.now c.loop-q.q c.min-end.result below c.min-end.ensures in
    let n = g.D.Disk.meaning c.write_page.new.disk in
    let e = c.write_page.ensures in
    let told_m : IsTrue m.tells = inv.time.told ∙ told in
    further_during c.args.slot c.args.place.now.newest c.args.place.now.other c.requires.slots c.args.payload.now c.requires.fits c.loop-q.q _ below size bytes a m n told inv.time e.time (inv.so_far told) (g.met.D.Disk.is_disk c.loop-q.disk told_m)
    c.write_page.result (e.writes told_m) (e.equal told_m)

pub returns-in_err-write_page-clause-during : goal.returns-in_err-write_page-clause-during
returns-in_err-write_page-clause-during g c told = during_page g (goal.at.returns-in_err-write_page-clause-during g c).After-write_page told

pub returns-in_err-write_page-clause-closed : goal.returns-in_err-write_page-clause-closed
returns-in_err-write_page-clause-closed g c told =
    let a = g.D.Disk.meaning c.args.disk.now in
    let m = g.D.Disk.meaning c.loop-q.disk in
    let n = g.D.Disk.meaning c.write_page.new.disk in
    let time = then_time a m n c.loop-q.invariant.time c.write_page.ensures.time in
    at_end a n _ time (during_page g (goal.at.returns-in_err-write_page-clause-closed g c).After-write_page told) n.content (g.met.D.Disk.is_disk c.write_page.new.disk (time.told ∙ told))

pub returns-in_err-write_page-clause-touches : goal.returns-in_err-write_page-clause-touches
returns-in_err-write_page-clause-touches g c told =
    let a = g.D.Disk.meaning c.args.disk.now in
    let m = g.D.Disk.meaning c.loop-q.disk in
    let inv = c.loop-q.invariant in
    let below : 512 * c.loop-q.q < length c.args.payload.now = page_below c.loop-q.q (length c.args.payload.now) c.loop-q-test.true in
    let size = page_size c.args.payload.now c.loop-q.q c.min-end.result below c.min-end.ensures in
    let e = c.write_page.ensures in
    let told_m : IsTrue m.tells = inv.time.told ∙ told in
    page_touches c.args.place.now.other c.args.payload.now c.loop-q.q _ below size a m (g.D.Disk.meaning c.write_page.new.disk) told inv.time e.time (inv.touches told) (e.writes told_m).during

pub returns-clause-during : goal.returns-clause-during
returns-clause-during g c told = (c.loop-q.invariant.so_far told).during

pub returns-clause-closed : goal.returns-clause-closed
returns-clause-closed g c told =
    let a = g.D.Disk.meaning c.args.disk.now in
    let m = g.D.Disk.meaning c.loop-q.disk in
    let inv = c.loop-q.invariant in
    at_end a m _ inv.time (inv.so_far told).during m.content (g.met.D.Disk.is_disk c.loop-q.disk (inv.time.told ∙ told))
