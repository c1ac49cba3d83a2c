use Rattle.std.proofs.Common.{◌≡◌, ◌<◌, ◌≤◌, ◌+◌, length, drop, ap, subst, arith, length-append}
use Rattle.sed_typed.specs.declared.schema.Schema.{Schema}
use Rattle.sed_typed.specs.Classes.{slots}
use Rattle.sed_wire.specs.Writing.{Appends}
use Rattle.comp_tree.specs.Application.{value_at}
use Rattle.comp_tree.specs.Held.{components_of}
use Rattle.sed_wire.proofs.WritingLemmas.{room-after}
use Rattle.app_parts.specs.Values.{is_told, slot_bytes}
use Rattle.app_parts.proofs.Lengths.{fits_longest, most_400, sizes_are}
use Rattle.app_parts.proofs.SoFar.{all_put, length-so_far, none_yet, one_more}
use Rattle.app_parts.proofs.ValueLemmas.{few_bytes, none_behind, slot-bytes-first, slot-size-first, values_bytes-are, values_from}
use Rattle.app_parts.proofs.values.put_values.Goals as goal

pub loop-slot-init : goal.loop-slot-init
loop-slot-init g c =
    let m = g.E.Engine.meaning c.args.tree.now.engine in
    let all = (components_of g.E.Engine c.args.tree.now).by_id in
    (none_yet c.args.writer.now (values_from (is_told c.args.which) (value_at m all c.args.id.0) 0 (slots m.schema.classes c.args.kind.0)), omega arith)

pub put_slot-requires-clause-room : goal.put_slot-requires-clause-room
put_slot-requires-clause-room g c =
    let m = g.E.Engine.meaning c.args.tree.now.engine in
    let all = (components_of g.E.Engine c.args.tree.now).by_id in
    let ss = slots m.schema.classes c.args.kind.0 in
    let s = c.loop-slot.invariant in
    let count : c.slot_count-slot-end.result ≡ length ss = subst (λ (x : Schema). c.slot_count-slot-end.result ≡ length (slots x.classes c.args.kind.0)) c.schema.ensures.same c.slot_count-slot-end.ensures in
    let lt : c.loop-slot.slot < length ss = omega (arith, c.loop-slot-test.true, count) in
    let size = slot-size-first m c.args.kind.0 c.loop-slot.slot c.args.which lt in
    let less = s.1 in
    let after = room-after _ _ s.0.front s.0.put in
    let few = few_bytes m.schema c.schema.ensures.whole.tables.limits c.args.kind.0 c.args.which in
    let room = c.requires.room in
    omega (arith, size, less, after, few, room)

pub loop-slot-preserved : goal.loop-slot-preserved
loop-slot-preserved g c =
    let m = g.E.Engine.meaning c.args.tree.now.engine in
    let all = (components_of g.E.Engine c.args.tree.now).by_id in
    let ss = slots m.schema.classes c.args.kind.0 in
    let s = c.loop-slot.invariant in
    let count : c.slot_count-slot-end.result ≡ length ss = subst (λ (x : Schema). c.slot_count-slot-end.result ≡ length (slots x.classes c.args.kind.0)) c.schema.ensures.same c.slot_count-slot-end.ensures in
    let lt : c.loop-slot.slot < length ss = omega (arith, c.loop-slot-test.true, count) in
    let size = slot-size-first m c.args.kind.0 c.loop-slot.slot c.args.which lt in
    let less = s.1 in
    let piece = slot_bytes m all c.args.id.0 c.args.kind.0 c.args.which c.loop-slot.slot in
    let front = length-append s.0.front piece in
    let short = c.put_slot.ensures.short in (
      one_more _ _ _ _ _ piece (values_from (is_told c.args.which) (value_at m all c.args.id.0) (c.loop-slot.slot + 1) (drop (c.loop-slot.slot + 1) ss)) s.0 c.put_slot.ensures.bytes
          (slot-bytes-first m all c.args.id.0 c.args.kind.0 c.loop-slot.slot c.args.which lt),
      omega (arith, size, less, front, short),
    )

pub returns-clause-bytes : goal.returns-clause-bytes
returns-clause-bytes g c =
    let m = g.E.Engine.meaning c.args.tree.now.engine in
    let all = (components_of g.E.Engine c.args.tree.now).by_id in
    let ss = slots m.schema.classes c.args.kind.0 in
    let s = c.loop-slot.invariant in
    let count : c.slot_count-slot-end.result ≡ length ss = subst (λ (x : Schema). c.slot_count-slot-end.result ≡ length (slots x.classes c.args.kind.0)) c.schema.ensures.same c.slot_count-slot-end.ensures in
    let past : length ss ≤ c.loop-slot.slot = omega (arith, c.loop-slot-test.false, count) in
    subst (Appends c.args.writer.now c.loop-slot.writer) (values_bytes-are m all c.args.id.0 c.args.kind.0 c.args.which)
    (all_put _ _ _ _ s.0 (none_behind (is_told c.args.which) (value_at m all c.args.id.0) ss c.loop-slot.slot past))

pub returns-clause-sized : goal.returns-clause-sized
returns-clause-sized g c =
    let most = fits_longest (g.E.Engine.meaning c.args.tree.now.engine).schema c.schema.ensures.whole.tables.limits c.args.kind.0 c.args.which in
    let m = g.E.Engine.meaning c.args.tree.now.engine in
    let all = (components_of g.E.Engine c.args.tree.now).by_id in
    let ss = slots m.schema.classes c.args.kind.0 in
    let s = c.loop-slot.invariant in
    let count : c.slot_count-slot-end.result ≡ length ss = subst (λ (x : Schema). c.slot_count-slot-end.result ≡ length (slots x.classes c.args.kind.0)) c.schema.ensures.same c.slot_count-slot-end.ensures in
    let whole = length-so_far _ _ _ _ s.0 in
    let less = s.1 in
    let same = ap length (values_bytes-are m all c.args.id.0 c.args.kind.0 c.args.which) in
    let past : length ss ≤ c.loop-slot.slot = omega (arith, c.loop-slot-test.false, count) in
    let none = ap length (none_behind (is_told c.args.which) (value_at m all c.args.id.0) ss c.loop-slot.slot past) in
    let sizes = sizes_are c.args.which ss in
    omega (arith, whole, less, same, none, sizes, most)

pub returns-clause-short : goal.returns-clause-short
returns-clause-short g c =
    let m = g.E.Engine.meaning c.args.tree.now.engine in
    let few = most_400 c.args.which m.schema.classes in
    let sized = returns-clause-sized g c in
    omega (arith, few, sized)
