use Rattle.std.proofs.Common.{ℤ, refl, subst, w64}
use Rattle.std.proofs.lemmas.Int.{to_z-of_z}
use Rattle.sub_table.specs.Link.{Link}
use Rattle.sox_msg.specs.Command.{add, delete, invoke, link, unlink, write}
use Rattle.sox_serve.specs.Marks.{MarksByRow}
use Rattle.sox_serve.specs.Serves.{Serves}
use Rattle.sox_serve.proofs.AnswerLemmas.{serves_exactly}
use Rattle.sox_serve.proofs.MarkLemmas.{marks_stay}
use Rattle.sox_serve.proofs.serving.serve_command.Goals as goal

pub returns-in-Add-clause-served : goal.returns-in-Add-clause-served
returns-in-Add-clause-served g c =
    rw c.in-Add.is (subst (λ (t : ℤ). Serves g.E.Engine c.args.app.now c.add.new.app (add c.in-Add.parent.0 c.in-Add.kit c.in-Add.kind c.in-Add.name.now c.in-Add.config.now) c.args.number c.args.turns t c.add.result c.add.new.into)
    (to_z-of_z w64 c.args.ticks c.ranges.ticks) c.add.ensures.served)

pub returns-in-Add-clause-marks : goal.returns-in-Add-clause-marks
returns-in-Add-clause-marks g c = rw c.in-Add.is c.add.ensures.marks

pub returns-in-Delete-clause-served : goal.returns-in-Delete-clause-served
returns-in-Delete-clause-served g c =
    rw c.in-Delete.is (subst (λ (t : ℤ). Serves g.E.Engine c.args.app.now c.delete.new.app (delete c.in-Delete.id.0) c.args.number c.args.turns t c.delete.result c.delete.new.into)
    (to_z-of_z w64 c.args.ticks c.ranges.ticks) (serves_exactly _ _ _ _ _ _ _ _ _ c.delete.ensures.served))

pub returns-in-Delete-clause-marks : goal.returns-in-Delete-clause-marks
returns-in-Delete-clause-marks g c = rw c.in-Delete.is c.delete.ensures.marks

pub returns-in-Invoke-clause-served : goal.returns-in-Invoke-clause-served
returns-in-Invoke-clause-served g c =
    rw c.in-Invoke.is (subst (λ (t : ℤ). Serves g.E.Engine c.args.app.now c.invoke.new.app (invoke c.in-Invoke.id.0 c.in-Invoke.slot c.in-Invoke.arg.now) c.args.number c.args.turns t c.invoke.result c.invoke.new.into)
    (to_z-of_z w64 c.args.ticks c.ranges.ticks) (serves_exactly _ _ _ _ _ _ _ _ _ c.invoke.ensures.served))

pub returns-in-Invoke-clause-marks : goal.returns-in-Invoke-clause-marks
returns-in-Invoke-clause-marks g c = rw c.in-Invoke.is c.invoke.ensures.marks

pub returns-in-Write-clause-served : goal.returns-in-Write-clause-served
returns-in-Write-clause-served g c =
    rw c.in-Write.is (subst (λ (t : ℤ). Serves g.E.Engine c.args.app.now c.write.new.app (write c.in-Write.id.0 c.in-Write.slot c.in-Write.value.now) c.args.number c.args.turns t c.write.result c.write.new.into)
    (to_z-of_z w64 c.args.ticks c.ranges.ticks) (serves_exactly _ _ _ _ _ _ _ _ _ c.write.ensures.served))

pub returns-in-Write-clause-marks : goal.returns-in-Write-clause-marks
returns-in-Write-clause-marks g c = rw c.in-Write.is c.write.ensures.marks

pub returns-in-Link-clause-served : goal.returns-in-Link-clause-served
returns-in-Link-clause-served g c =
    rw c.in-Link.is (subst (λ (l : Link). Serves g.E.Engine c.args.app.now c.link.new.app (link l.from l.from_slot l.to l.to_slot) c.args.number c.args.turns c.args.ticks c.link.result c.link.new.into)
    c.between.ensures (serves_exactly _ _ _ _ _ _ _ _ _ (c.link.ensures.served c.args.turns c.args.ticks)))

pub returns-in-Link-clause-marks : goal.returns-in-Link-clause-marks
returns-in-Link-clause-marks g c =
    rw c.in-Link.is (subst (λ (l : Link). MarksByRow g.E.Engine c.args.app.now c.link.new.app (link l.from l.from_slot l.to l.to_slot) c.args.number c.link.new.into)
    c.between.ensures c.link.ensures.marks)

pub returns-in-Unlink-clause-served : goal.returns-in-Unlink-clause-served
returns-in-Unlink-clause-served g c =
    rw c.in-Unlink.is (subst (λ (l : Link). Serves g.E.Engine c.args.app.now c.unlink.new.app (unlink l.from l.from_slot l.to l.to_slot) c.args.number c.args.turns c.args.ticks c.unlink.result c.unlink.new.into)
    c.between-in-Unlink.ensures (serves_exactly _ _ _ _ _ _ _ _ _ (c.unlink.ensures.served c.args.turns c.args.ticks)))

pub returns-in-Unlink-clause-marks : goal.returns-in-Unlink-clause-marks
returns-in-Unlink-clause-marks g c =
    rw c.in-Unlink.is (subst (λ (l : Link). MarksByRow g.E.Engine c.args.app.now c.unlink.new.app (unlink l.from l.from_slot l.to l.to_slot) c.args.number c.unlink.new.into)
    c.between-in-Unlink.ensures c.unlink.ensures.marks)

pub returns-in-Rename-clause-served : goal.returns-in-Rename-clause-served
returns-in-Rename-clause-served g c = rw c.in-Rename.is (serves_exactly _ _ _ _ _ _ _ _ _ (c.rename.ensures.served c.args.turns c.args.ticks))

pub returns-in-Rename-clause-marks : goal.returns-in-Rename-clause-marks
returns-in-Rename-clause-marks g c = rw c.in-Rename.is c.rename.ensures.marks

pub returns-in-Reorder-clause-served : goal.returns-in-Reorder-clause-served
returns-in-Reorder-clause-served g c = rw c.in-Reorder.is (serves_exactly _ _ _ _ _ _ _ _ _ (c.reorder.ensures.served c.args.turns c.args.ticks))

pub returns-in-Reorder-clause-marks : goal.returns-in-Reorder-clause-marks
returns-in-Reorder-clause-marks g c = rw c.in-Reorder.is c.reorder.ensures.marks

pub returns-in-Clear-clause-served : goal.returns-in-Clear-clause-served
returns-in-Clear-clause-served g c = rw c.in-Clear.is (serves_exactly _ _ _ _ _ _ _ _ _ (c.clear.ensures.served c.args.turns c.args.ticks))

pub returns-in-Clear-clause-marks : goal.returns-in-Clear-clause-marks
returns-in-Clear-clause-marks g c = rw c.in-Clear.is c.clear.ensures.marks

pub returns-in-ReadPart-clause-served : goal.returns-in-ReadPart-clause-served
returns-in-ReadPart-clause-served g c = rw c.in-ReadPart.is (serves_exactly _ _ _ _ _ _ _ _ _ (c.read_part.ensures c.args.turns c.args.ticks))

pub returns-in-ReadPart-clause-marks : goal.returns-in-ReadPart-clause-marks
returns-in-ReadPart-clause-marks g c = rw c.in-ReadPart.is (marks_stay g.E.Engine c.args.app.now c.args.app.now _ c.args.number c.read_part.new.into refl)

pub returns-in-ReadSlot-clause-served : goal.returns-in-ReadSlot-clause-served
returns-in-ReadSlot-clause-served g c = rw c.in-ReadSlot.is (serves_exactly _ _ _ _ _ _ _ _ _ (c.read_slot.ensures c.args.turns c.args.ticks))

pub returns-in-ReadSlot-clause-marks : goal.returns-in-ReadSlot-clause-marks
returns-in-ReadSlot-clause-marks g c = rw c.in-ReadSlot.is (marks_stay g.E.Engine c.args.app.now c.args.app.now _ c.args.number c.read_slot.new.into refl)

pub returns-in-Version-clause-served : goal.returns-in-Version-clause-served
returns-in-Version-clause-served g c = rw c.in-Version.is (serves_exactly _ _ _ _ _ _ _ _ _ (c.read_version.ensures c.args.turns c.args.ticks))

pub returns-in-Version-clause-marks : goal.returns-in-Version-clause-marks
returns-in-Version-clause-marks g c = rw c.in-Version.is (marks_stay g.E.Engine c.args.app.now c.args.app.now _ c.args.number c.read_version.new.into refl)

pub returns-in-Subscribe-clause-served : goal.returns-in-Subscribe-clause-served
returns-in-Subscribe-clause-served g c = rw c.in-Subscribe.is (serves_exactly _ _ _ _ _ _ _ _ _ (c.subscribe.ensures c.args.turns c.args.ticks))

pub returns-in-Subscribe-clause-marks : goal.returns-in-Subscribe-clause-marks
returns-in-Subscribe-clause-marks g c = rw c.in-Subscribe.is (marks_stay g.E.Engine c.args.app.now c.args.app.now _ c.args.number c.subscribe.new.into refl)

pub returns-in-Unsubscribe-clause-served : goal.returns-in-Unsubscribe-clause-served
returns-in-Unsubscribe-clause-served g c = rw c.in-Unsubscribe.is (serves_exactly _ _ _ _ _ _ _ _ _ (c.unsubscribe.ensures c.args.turns c.args.ticks))

pub returns-in-Unsubscribe-clause-marks : goal.returns-in-Unsubscribe-clause-marks
returns-in-Unsubscribe-clause-marks g c = rw c.in-Unsubscribe.is (marks_stay g.E.Engine c.args.app.now c.args.app.now _ c.args.number c.unsubscribe.new.into refl)
