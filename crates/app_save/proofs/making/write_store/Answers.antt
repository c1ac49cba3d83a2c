use Rattle.std.proofs.Common.{◌∙◌, ◌+◌, ◌*◌, ◌≤◌, sym, subst, ℕ, length, [], ◌∷◌, IsTrue, arith}
use Rattle.disk_model.specs.Disk.{Image}
use Rattle.app_save.specs.Making.{IsBlank, NewOrNone}
use Rattle.app_save.proofs.Moments.{then_time, then_during, then_marks, then_syncs, since_none, at_end}
use Rattle.app_save.proofs.MadeSyncs.{Zeroed, zeroed, Bodied, since_header, since_payload, since_gate, made_exact, done_through}
use Rattle.app_save.proofs.Made.{made_done, none_longer}
use Rattle.app_save.proofs.making.write_store.Goals.{After-write_at, After-write_through-2}
use Rattle.app_save.proofs.making.write_store.Goals as goal

-- up to the sync of the zeros, and to that of the payload
zeros_at : (g : _) (c : After-write_at g) → IsTrue (g.D.Disk.meaning c.args.disk.now).tells → Zeroed c.args.slot (g.D.Disk.meaning c.args.disk.now) (g.D.Disk.meaning c.sync.new.self)
zeros_at g c told = zeroed c.in_ok-sync.field-0 c.args.slot (g.D.Disk.meaning c.args.disk.now) (g.D.Disk.meaning c.write_zeros.new.disk) (g.D.Disk.meaning c.sync.new.self) told
    c.write_zeros.ensures.time c.sync.ensures.time c.write_zeros.ensures.syncs (c.in_ok-write_zeros.ensures.blank told) (c.in_ok-sync.ensures.durable (c.write_zeros.ensures.time.told ∙ told)) c.in_ok-sync.ensures.syncs

body_at : (g : _) (c : After-write_through-2 g) → IsTrue (g.D.Disk.meaning c.sync.new.self).tells → Bodied c.args.payload.now c.behind_gate.result (g.D.Disk.meaning c.sync.new.self) (g.D.Disk.meaning c.write_at.new.self) (g.D.Disk.meaning c.write_through.new.disk)
body_at g c told_z =
    let told_b : IsTrue (g.D.Disk.meaning c.write_at.new.self).tells = c.write_at.ensures.time.told ∙ told_z in
    let header = c.in_ok-write_at.ensures.writes told_z in
    let lands = c.in_ok-write_through.ensures.lands told_b in
    record { told = c.write_through.ensures.time.told ∙ told_b; torn_header = header.torn; holds_header = header.holds; torn = lands.torn; holds = lands.holds; rests = lands.rests }

pub returns-clause-saved : goal.returns-clause-saved
returns-clause-saved g c told =
    let z0 = g.D.Disk.meaning c.write_zeros.new.disk in
    let z = g.D.Disk.meaning c.sync.new.self in
    let told_z0 : IsTrue z0.tells = c.write_zeros.ensures.time.told ∙ told in
    let blank = subst (λ (i : Image). IsBlank (2 * (c.args.slot + 6)) i) (sym (c.in_ok-sync.ensures.durable told_z0).kept) (c.in_ok-write_zeros.ensures.blank told) in
    let body = body_at g (goal.at.returns-clause-saved g c).After-write_through-2 (c.sync.ensures.time.told ∙ told_z0) in
    made_done c.write_through-2.result c.args.slot c.behind_gate.result c.args.payload.now z (g.D.Disk.meaning c.write_at.new.self) (g.D.Disk.meaning c.write_through.new.disk) (g.D.Disk.meaning c.write_through-2.new.disk) blank c.behind_gate.ensures.five c.requires.fits body.torn_header body.holds_header body.torn body.holds (c.write_through-2.ensures.lands body.told) c.behind_gate.ensures.len c.behind_gate.ensures.generation

pub returns-clause-bound : goal.returns-clause-bound
returns-clause-bound g c told short =
    let a = g.D.Disk.meaning c.args.disk.now in
    let z0 = g.D.Disk.meaning c.write_zeros.new.disk in
    let z = g.D.Disk.meaning c.sync.new.self in
    let b = g.D.Disk.meaning c.write_at.new.self in
    let d = g.D.Disk.meaning c.write_through.new.disk in
    let e = g.D.Disk.meaning c.write_through-2.new.disk in
    let told_z0 : IsTrue z0.tells = c.write_zeros.ensures.time.told ∙ told in
    let told_z : IsTrue z.tells = c.sync.ensures.time.told ∙ told_z0 in
    let told_b : IsTrue b.tells = c.write_at.ensures.time.told ∙ told_z in
    let told_d : IsTrue d.tells = c.write_through.ensures.time.told ∙ told_b in
    let end : ℕ = 2 * (c.args.slot + 6) in
    let five = c.behind_gate.ensures.five in
    let fits = c.requires.fits in
    let to_z = then_time a z0 z c.write_zeros.ensures.time c.sync.ensures.time in
    let to_b = then_time a z b to_z c.write_at.ensures.time in
    let to_d = then_time a b d to_b c.write_through.ensures.time in
    let zeros = c.write_zeros.ensures.bound told short in
    let synced = then_during a z0 z (λ (i : Image). length i ≤ end) told c.write_zeros.ensures.time c.sync.ensures.time zeros
    (λ u i from to left. at_end a z0 (λ (i : Image). length i ≤ end) c.write_zeros.ensures.time zeros i ((c.sync.ensures.durable told_z0).during u i from to left)) in
    let header = then_during a z b (λ (i : Image). length i ≤ end) told to_z c.write_at.ensures.time synced
    (none_longer end 1 c.behind_gate.result a z b (omega (arith, five)) to_z synced (c.write_at.ensures.writes told_z).during) in
    let body = then_during a b d (λ (i : Image). length i ≤ end) told to_b c.write_through.ensures.time header
    (none_longer end 6 c.args.payload.now a b d (omega (arith, fits)) to_b header (c.write_through.ensures.lands told_b).during) in
    then_during a d e (λ (i : Image). length i ≤ end) told to_d c.write_through-2.ensures.time body
    (none_longer end 0 (0xa5 ∷ []) a d e (omega arith) to_d body (c.write_through-2.ensures.lands told_d).during)

pub returns-clause-marks : goal.returns-clause-marks
returns-clause-marks g c =
    let a = g.D.Disk.meaning c.args.disk.now in
    let z0 = g.D.Disk.meaning c.write_zeros.new.disk in
    let z = g.D.Disk.meaning c.sync.new.self in
    let b = g.D.Disk.meaning c.write_at.new.self in
    let d = g.D.Disk.meaning c.write_through.new.disk in
    let e = g.D.Disk.meaning c.write_through-2.new.disk in
    let to_z = then_time a z0 z c.write_zeros.ensures.time c.sync.ensures.time in
    let to_b = then_time a z b to_z c.write_at.ensures.time in
    let to_d = then_time a b d to_b c.write_through.ensures.time in
    let zeros = then_marks a z0 z 0 c.write_zeros.ensures.time c.sync.ensures.time c.write_zeros.ensures.marks c.sync.ensures.marks in
    let header = then_marks a z b 0 to_z c.write_at.ensures.time zeros c.write_at.ensures.marks in
    let body = then_marks a b d 0 to_b c.write_through.ensures.time header c.write_through.ensures.marks in
    then_marks a d e 0 to_d c.write_through-2.ensures.time body c.write_through-2.ensures.marks

pub returns-in_err-write_zeros-clause-since : goal.returns-in_err-write_zeros-clause-since
returns-in_err-write_zeros-clause-since g c told told_syncs =
    since_none (g.D.Disk.meaning c.args.disk.now) (g.D.Disk.meaning c.write_zeros.new.disk) (NewOrNone c.args.slot c.args.payload.now) told_syncs c.write_zeros.ensures.syncs

pub returns-in_err-sync-clause-since : goal.returns-in_err-sync-clause-since
returns-in_err-sync-clause-since g c told told_syncs =
    let a = g.D.Disk.meaning c.args.disk.now in
    let z0 = g.D.Disk.meaning c.write_zeros.new.disk in
    let z = g.D.Disk.meaning c.sync.new.self in
    since_none a z (NewOrNone c.args.slot c.args.payload.now) told_syncs
    (then_syncs a z0 z 0 c.write_zeros.ensures.time c.sync.ensures.time c.write_zeros.ensures.syncs c.in_err-sync.ensures.syncs)

pub returns-in_err-write_at-clause-since : goal.returns-in_err-write_at-clause-since
returns-in_err-write_at-clause-since g c told told_syncs =
    let zeros = zeros_at g (goal.at.returns-in_err-write_at-clause-since g c).After-write_at told in
    since_header c.args.slot c.args.payload.now c.behind_gate.result c.requires.fits c.behind_gate.ensures.bytes _ _ _ told told_syncs zeros c.write_at.ensures.time (c.write_at.ensures.writes zeros.told).during

pub returns-in_err-write_through-clause-since : goal.returns-in_err-write_through-clause-since
returns-in_err-write_through-clause-since g c told told_syncs =
    let zeros = zeros_at g (goal.at.returns-in_err-write_through-clause-since g c).After-write_at told in
    since_payload c.args.slot c.args.payload.now c.behind_gate.result c.requires.fits c.behind_gate.ensures.bytes _ _ _ told told_syncs zeros c.write_at.ensures.time (c.write_at.ensures.writes zeros.told).during
    _ c.write_through.ensures.time (c.write_through.ensures.lands (c.write_at.ensures.time.told ∙ zeros.told)).during

pub returns-clause-since : goal.returns-clause-since
returns-clause-since g c told told_syncs =
    let zeros = zeros_at g (goal.at.returns-clause-since g c).After-write_at told in
    let body = body_at g (goal.at.returns-clause-since g c).After-write_through-2 zeros.told in
    since_gate c.args.slot c.args.payload.now c.behind_gate.result c.requires.fits c.behind_gate.ensures.bytes _ _ _ told told_syncs zeros c.write_at.ensures.time (c.write_at.ensures.writes zeros.told).during
    _ c.write_through.ensures.time (c.write_through.ensures.lands (c.write_at.ensures.time.told ∙ zeros.told)).during body _ c.write_through-2.ensures.time (c.write_through-2.ensures.lands body.told).during

pub returns-clause-exact : goal.returns-clause-exact
returns-clause-exact g c told =
    let zeros = zeros_at g (goal.at.returns-clause-exact g c).After-write_at told in
    let body = body_at g (goal.at.returns-clause-exact g c).After-write_through-2 zeros.told in
    made_exact c.write_through-2.result c.args.slot c.args.payload.now c.behind_gate.result c.requires.fits c.behind_gate.ensures.bytes _ _ _ _ zeros.is body (c.write_through-2.ensures.lands body.told)

pub returns-clause-syncs : goal.returns-clause-syncs
returns-clause-syncs g c told told_syncs =
    let z = g.D.Disk.meaning c.sync.new.self in
    let b = g.D.Disk.meaning c.write_at.new.self in
    let d = g.D.Disk.meaning c.write_through.new.disk in
    let zeros = zeros_at g (goal.at.returns-clause-syncs g c).After-write_at told in
    let body = body_at g (goal.at.returns-clause-syncs g c).After-write_through-2 zeros.told in
    done_through c.args.slot c.args.payload.now c.behind_gate.result c.requires.fits c.behind_gate.ensures.bytes _ z b told told_syncs zeros c.write_at.ensures.time (c.write_at.ensures.writes zeros.told).during
    d c.write_through.ensures.time (c.write_through.ensures.lands (c.write_at.ensures.time.told ∙ zeros.told)).during body _ c.write_through-2.ensures.time (c.write_through-2.ensures.lands body.told).during
    c.write_through-2.result (c.write_through-2.ensures.lands body.told) (then_syncs z b d 1 c.write_at.ensures.time c.write_through.ensures.time c.write_at.ensures.syncs c.in_ok-write_through.ensures.syncs) c.write_through-2.ensures.syncs
