use Rattle.std.proofs.Common.{◌≡◌, ◌∙◌, ◌+◌, ◌++◌, ℕ, List, length, take, drop, ap, subst, IsTrue, IfSome}
use Rattle.std.proofs.lemmas.List.{take_at}
use Rattle.app_save.specs.Store.{Opens}
use Rattle.app_save.specs.Saving.{AllOpen}
use Rattle.app_save.specs.Slots.{IsFound}
use Rattle.app_save.proofs.Entries.{run_begins}
use Rattle.app_save.proofs.Moments.{then_synced}
use Rattle.app_save.proofs.Opened.{opened, all_opened}
use Rattle.app_save.proofs.opening.open.Goals.{After-with_slot}
use Rattle.app_save.proofs.opening.open.Goals as goal

-- what is read
abbrev bytes : (g : _) → After-with_slot g → List ℕ
bytes g c = take c.in_ok-payload.payload.len (c.read.new.into ++ drop (length c.read.new.into) c.in_ok-payload.payload.items)

opens_at : (g : _) (c : After-with_slot g) → IsTrue (g.D.Disk.meaning c.args.disk.now).tells → Opens c.with_slot.result (g.D.Disk.meaning c.args.disk.now).content (bytes g c)
opens_at g c told =
    let a = g.D.Disk.meaning c.args.disk.now in
    let b = g.D.Disk.meaning c.find.new.disk in
    let settled = c.in_ok-found.ensures.settled told in
    let size : c.in_ok-payload.payload.len ≡ c.in-Some.found.len = c.in_ok-payload.ensures.len in
    let slice : length c.as_mut_slice.result.now ≡ c.in_ok-payload.payload.len = c.as_mut_slice.ensures.len in
    let kept : length c.read.new.into ≡ length c.as_mut_slice.result.now = c.read.auto.into in
    let read : bytes g c ≡ take c.in-Some.found.len (drop (c.in-Some.found.begins + 6) b.content) =
    take_at c.read.new.into (drop (length c.read.new.into) c.in_ok-payload.payload.items) c.in_ok-payload.payload.len (kept ∙ slice) ∙ c.in_ok-read.ensures.bytes (c.find.ensures.time.told ∙ told) ∙ ap (λ (n : ℕ). take n (drop (c.in-Some.found.begins + 6) b.content)) (slice ∙ size) in
    opened c.with_slot.result a.content b.content c.in-Some.found (bytes g c) (subst (λ o. IfSome o (IsFound a.content)) c.in-Some.is (c.in_ok-found.ensures.found told)) settled.kept c.with_slot.ensures read

all_open_at : (g : _) (c : After-with_slot g) → IsTrue (g.D.Disk.meaning c.args.disk.now).tells → AllOpen c.with_slot.result (bytes g c) (g.D.Disk.meaning c.read.new.self)
all_open_at g c told =
    let settled = c.in_ok-found.ensures.settled told in
    all_opened c.with_slot.result (bytes g c) (g.D.Disk.meaning c.args.disk.now).content (g.D.Disk.meaning c.find.new.disk) (g.D.Disk.meaning c.read.new.self)
    (opens_at g c told) settled.kept settled.rests c.read.ensures.time (c.read.ensures.keeps (c.find.ensures.time.told ∙ told))

pub returns-clause-opens : goal.returns-clause-opens
returns-clause-opens g c told = opens_at g (goal.at.returns-clause-opens g c).After-with_slot told

pub returns-clause-opened : goal.returns-clause-opened
returns-clause-opened g c told = all_open_at g (goal.at.returns-clause-opened g c).After-with_slot told

pub returns-clause-run : goal.returns-clause-run
returns-clause-run g c told = run_begins c.with_slot.result _ (g.D.Disk.meaning c.read.new.self) (all_open_at g (goal.at.returns-clause-run g c).After-with_slot told)

pub returns-clause-syncs : goal.returns-clause-syncs
returns-clause-syncs g c = λ not.
    then_synced (g.D.Disk.meaning c.args.disk.now) (g.D.Disk.meaning c.find.new.disk) (g.D.Disk.meaning c.read.new.self) c.find.ensures.time c.in_ok-found.ensures.syncs c.read.ensures.syncs
