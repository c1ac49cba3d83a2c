use Rattle.std.proofs.Common.{ℕ, List, sym, subst, arith}
use Rattle.std.specs.Prelude.{IsTrue}
use Rattle.sed_value.specs.Names.{is_name}
use Rattle.sed_wire.specs.Writing.{Appends}
use Rattle.sed_wire.proofs.WritingLemmas.{appends-then}
use Rattle.comp_tree.specs.Parts.{class_bytes, text, u2}
use Rattle.app_parts.proofs.ValueLemmas.{class_short, name_short}
use Rattle.app_writer.proofs.Lengths.{head-length, room-left}
use Rattle.app_writer.proofs.row.put_head.Goals as goal

pub put_class-requires : goal.put_class-requires
put_class-requires g c =
    let start = c.requires in
    let id = room-left _ _ (u2 c.args.id.0) c.put_u2.ensures.bytes (omega (arith, start)) in
    omega (arith, start, id)

pub put_text-requires : goal.put_text-requires
put_text-requires g c =
    let m = g.E.Engine.meaning c.args.tree.now.engine in
    let start = c.requires in
    let id = room-left _ _ (u2 c.args.id.0) c.put_u2.ensures.bytes (omega (arith, start)) in
    let few = class_short m c.args.entry.now.kind.0 in
    let class = room-left _ _ (class_bytes m c.args.entry.now.kind.0) (c.put_class.ensures m (sym c.schema.ensures.same)) (omega (arith, start, id, few)) in
    let short = name_short c.as_bytes.result.now (subst (λ (n : List ℕ). IsTrue (is_name n)) (sym c.as_bytes.ensures.same) c.as_bytes.ensures.form) in
    omega (arith, start, id, few, class, short)

pub returns-clause-bytes : goal.returns-clause-bytes
returns-clause-bytes g c =
    let m = g.E.Engine.meaning c.args.tree.now.engine in
    let name = subst (λ (n : List ℕ). Appends c.put_class.new.writer c.put_text.new.writer (text n)) c.as_bytes.ensures.same c.put_text.ensures in
    appends-then _ _ _ _ _ (appends-then _ _ _ _ _ c.put_u2.ensures.bytes (c.put_class.ensures m (sym c.schema.ensures.same))) name

pub returns-clause-short : goal.returns-clause-short
returns-clause-short g c =
    let m = g.E.Engine.meaning c.args.tree.now.engine in
    let few = class_short m c.args.entry.now.kind.0 in
    let short = name_short c.args.entry.now.name c.as_bytes.ensures.form in
    let whole = head-length (u2 c.args.id.0) (class_bytes m c.args.entry.now.kind.0) c.args.entry.now.name in
    omega (arith, few, short, whole)
