use Rattle.std.proofs.Common.{subst, arith}
use Rattle.sed_wire.specs.Writing.{Appends}
use Rattle.sed_wire.proofs.WritingLemmas.{appends-none, appends-then, room-after}
use Rattle.comp_tree.specs.Parts.{u1}
use Rattle.app_parts.proofs.ValueLemmas.{class-put, no_class-put}
use Rattle.app_parts.proofs.put.put_class.Goals as goal

pub put_u1-requires-in-Some : goal.put_u1-requires-in-Some
put_u1-requires-in-Some c = omega (arith, room-after _ _ (u1 c.in-Some.kit) c.put_u1.ensures.bytes, c.requires)

pub returns-in-Some : goal.returns-in-Some
returns-in-Some c = λ m same.
    subst (Appends c.args.writer.now c.put_u1-in-Some.new.self) (class-put m c.args.schema.now c.args.kind.0 c.in-Some.kit c.in-Some.number same c.in-Some.ensures)
    (appends-then _ _ _ (u1 c.in-Some.kit) (u1 c.in-Some.number) c.put_u1.ensures.bytes c.put_u1-in-Some.ensures.bytes)

pub returns-in_default : goal.returns-in_default
returns-in_default c = λ m same.
    subst (Appends c.args.writer.now c.args.writer.now) (no_class-put m c.args.schema.now c.args.kind.0 same c.in_default.ensures) (appends-none c.args.writer.now)
