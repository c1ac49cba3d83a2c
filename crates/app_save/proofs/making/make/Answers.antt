use Rattle.std.proofs.Common.{◌∙◌, IsTrue}
use Rattle.app_save.specs.Making.{NewOrNone, made_store, stages_made}
use Rattle.app_save.proofs.Moments.{then_time, since_self, since_none, since_later, since_kept}
use Rattle.app_save.proofs.MadeSyncs.{through_later, through_kept, leaves_kept}
use Rattle.app_save.proofs.Entries.{run_begins}
use Rattle.app_save.proofs.Made.{made_opens}
use Rattle.app_save.proofs.making.make.Goals as goal

pub returns-clause-made : goal.returns-clause-made
returns-clause-made g c told =
    let b = g.D.Disk.meaning c.size.new.self in
    let d = g.D.Disk.meaning c.write_store.new.disk in
    let told_b : IsTrue b.tells = c.size.ensures.time.told ∙ told in
    let told_d : IsTrue d.tells = c.write_store.ensures.time.told ∙ told_b in
    made_opens c.args.slot c.args.payload.now d (g.D.Disk.meaning c.acknowledge.new.self) c.requires.small (c.in_ok-write_store.ensures.saved told_b) c.acknowledge.ensures.time (c.acknowledge.ensures.keeps told_d)

pub returns-clause-run : goal.returns-clause-run
returns-clause-run g c told =
    let b = g.D.Disk.meaning c.size.new.self in
    let d = g.D.Disk.meaning c.write_store.new.disk in
    let told_b : IsTrue b.tells = c.size.ensures.time.told ∙ told in
    let told_d : IsTrue d.tells = c.write_store.ensures.time.told ∙ told_b in
    run_begins c.args.slot c.args.payload.now (g.D.Disk.meaning c.acknowledge.new.self)
    (made_opens c.args.slot c.args.payload.now d (g.D.Disk.meaning c.acknowledge.new.self) c.requires.small (c.in_ok-write_store.ensures.saved told_b) c.acknowledge.ensures.time (c.acknowledge.ensures.keeps told_d))

pub returns-clause-exact : goal.returns-clause-exact
returns-clause-exact g c told =
    let b = g.D.Disk.meaning c.size.new.self in
    let d = g.D.Disk.meaning c.write_store.new.disk in
    let told_b : IsTrue b.tells = c.size.ensures.time.told ∙ told in
    let told_d : IsTrue d.tells = c.write_store.ensures.time.told ∙ told_b in
    leaves_kept d (g.D.Disk.meaning c.acknowledge.new.self) (made_store c.args.slot c.args.payload.now) c.acknowledge.ensures.time (c.acknowledge.ensures.keeps told_d) (c.in_ok-write_store.ensures.exact told_b)

pub returns-then-payload-slot-clause-since : goal.returns-then-payload-slot-clause-since
returns-then-payload-slot-clause-since g c told told_syncs = since_self (g.D.Disk.meaning c.args.disk.now) (NewOrNone c.args.slot c.args.payload.now)

pub returns-in_err-size-clause-since : goal.returns-in_err-size-clause-since
returns-in_err-size-clause-since g c told told_syncs = since_none (g.D.Disk.meaning c.args.disk.now) (g.D.Disk.meaning c.size.new.self) (NewOrNone c.args.slot c.args.payload.now) told_syncs c.size.ensures.syncs

pub returns-then-branch-ne0-clause-since : goal.returns-then-branch-ne0-clause-since
returns-then-branch-ne0-clause-since g c told told_syncs = since_none (g.D.Disk.meaning c.args.disk.now) (g.D.Disk.meaning c.size.new.self) (NewOrNone c.args.slot c.args.payload.now) told_syncs c.size.ensures.syncs

pub returns-in_err-write_store-clause-since : goal.returns-in_err-write_store-clause-since
returns-in_err-write_store-clause-since g c told told_syncs =
    let b = g.D.Disk.meaning c.size.new.self in
    let told_b : IsTrue b.tells = c.size.ensures.time.told ∙ told in
    since_later (g.D.Disk.meaning c.args.disk.now) b (g.D.Disk.meaning c.write_store.new.disk) (NewOrNone c.args.slot c.args.payload.now) told_syncs c.size.ensures.time c.write_store.ensures.time c.size.ensures.syncs
    (c.write_store.ensures.since told_b (c.size.ensures.time.told_syncs ∙ told_syncs))

pub returns-clause-since : goal.returns-clause-since
returns-clause-since g c told told_syncs =
    let a = g.D.Disk.meaning c.args.disk.now in
    let b = g.D.Disk.meaning c.size.new.self in
    let d = g.D.Disk.meaning c.write_store.new.disk in
    let f = g.D.Disk.meaning c.acknowledge.new.self in
    let told_b : IsTrue b.tells = c.size.ensures.time.told ∙ told in
    let told_d : IsTrue d.tells = c.write_store.ensures.time.told ∙ told_b in
    let syncs_b : IsTrue b.tells_syncs = c.size.ensures.time.told_syncs ∙ told_syncs in
    since_later a b f (NewOrNone c.args.slot c.args.payload.now) told_syncs c.size.ensures.time (then_time b d f c.write_store.ensures.time c.acknowledge.ensures.time) c.size.ensures.syncs
    (since_kept b d f (NewOrNone c.args.slot c.args.payload.now) told_b syncs_b c.write_store.ensures.time c.acknowledge.ensures.time (c.write_store.ensures.since told_b syncs_b) (c.acknowledge.ensures.keeps told_d) c.acknowledge.ensures.syncs)

pub returns-clause-syncs : goal.returns-clause-syncs
returns-clause-syncs g c told told_syncs =
    let a = g.D.Disk.meaning c.args.disk.now in
    let b = g.D.Disk.meaning c.size.new.self in
    let d = g.D.Disk.meaning c.write_store.new.disk in
    let f = g.D.Disk.meaning c.acknowledge.new.self in
    let told_b : IsTrue b.tells = c.size.ensures.time.told ∙ told in
    let told_d : IsTrue d.tells = c.write_store.ensures.time.told ∙ told_b in
    let syncs_b : IsTrue b.tells_syncs = c.size.ensures.time.told_syncs ∙ told_syncs in
    let syncs_d : IsTrue d.tells_syncs = c.write_store.ensures.time.told_syncs ∙ syncs_b in
    through_later a b f (stages_made c.args.slot c.args.payload.now) told_syncs c.size.ensures.time (then_time b d f c.write_store.ensures.time c.acknowledge.ensures.time) c.size.ensures.syncs
    (through_kept d f b.now (stages_made c.args.slot c.args.payload.now) told_d syncs_d c.acknowledge.ensures.time c.acknowledge.ensures.syncs c.write_store.ensures.time.later (c.in_ok-write_store.ensures.syncs told_b syncs_b))
