use Rattle.std.proofs.Common.{arith}
use Rattle.sed_wire.proofs.WritingLemmas.{appends-then}
use Rattle.comp_tree.specs.Held.{components_of}
use Rattle.app_parts.specs.Values.{values_bytes}
use Rattle.app_parts.specs.declared.values.Values.TheVariants.{Config}
use Rattle.app_writer.specs.Written.{head_text, ids_text}
use Rattle.app_writer.proofs.Lengths.{room-left}
use Rattle.app_writer.proofs.row.put_found.Goals as goal

pub put_ids-requires : goal.put_ids-requires
put_ids-requires g c =
    let m = g.E.Engine.meaning c.args.tree.now.engine in
    let start = c.requires.room in
    let short = c.put_head.ensures.short in
    let head = room-left _ _ (head_text m c.args.id.0 c.args.entry.now) c.put_head.ensures.bytes (omega (arith, start, short)) in
    omega (arith, start, short, head)

pub put_values-requires-clause-room : goal.put_values-requires-clause-room
put_values-requires-clause-room g c =
    let m = g.E.Engine.meaning c.args.tree.now.engine in
    let start = c.requires.room in
    let short = c.put_head.ensures.short in
    let head = room-left _ _ (head_text m c.args.id.0 c.args.entry.now) c.put_head.ensures.bytes (omega (arith, start, short)) in
    let ids = room-left _ _ (ids_text c.args.entry.now.parent c.args.first_child c.args.next_sibling) c.put_ids.ensures (omega (arith, start, short, head)) in
    omega (arith, start, short, head, ids)

pub put_u1-requires : goal.put_u1-requires
put_u1-requires g c =
    let m = g.E.Engine.meaning c.args.tree.now.engine in
    let all = (components_of g.E.Engine c.args.tree.now).by_id in
    let start = c.requires.room in
    let short = c.put_head.ensures.short in
    let head = room-left _ _ (head_text m c.args.id.0 c.args.entry.now) c.put_head.ensures.bytes (omega (arith, start, short)) in
    let ids = room-left _ _ (ids_text c.args.entry.now.parent c.args.first_child c.args.next_sibling) c.put_ids.ensures (omega (arith, start, short, head)) in
    let few = c.put_values.ensures.short in
    let values = room-left _ _ (values_bytes m all c.args.id.0 c.args.entry.now.kind.0 Config) c.put_values.ensures.bytes (omega (arith, start, short, head, ids, few)) in
    omega (arith, start, short, head, ids, few, values)

pub returns : goal.returns
returns g c =
    let m = g.E.Engine.meaning c.args.tree.now.engine in
    appends-then _ _ _ _ _ (appends-then _ _ _ _ _ (appends-then _ _ _ _ _ c.put_head.ensures.bytes c.put_ids.ensures) c.put_values.ensures.bytes) c.put_u1.ensures.bytes
