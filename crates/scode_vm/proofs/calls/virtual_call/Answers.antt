use Rattle.std.proofs.Common.{◌≡◌, ◌-◌, ◌≤◌, ◌<◌, ℕ, List, length, get_or, ap, sym, subst, ◌∙◌, arith, Some}
use Rattle.std.specs.Prelude.{slice_get}
use Rattle.std.proofs.lemmas.List.{length-map}
use Rattle.sed_engine.specs.State.{Shared}
use Rattle.scode_image.specs.declared.image.Image.{Image}
use Rattle.scode_image.specs.declared.image.ImageMethod.{ImageMethod}
use Rattle.scode_ops.specs.declared.op.Op.TheVariants as op
use Rattle.scode_code.specs.Calls.{argument_count, table_method}
use Rattle.scode_code.specs.Steps.{effect}
use Rattle.scode_mem.specs.declared.block.Block.{Block}
use Rattle.scode_cells.specs.declared.cell.Cell.{Cell}
use Rattle.scode_cells.specs.declared.cell.Cell.TheVariants as cell
use Rattle.scode_cells.specs.Frames.{Frames, running}
use Rattle.scode_vm.specs.Calling.{GoesInto, MayDoOf, zero_cell}
use Rattle.scode_vm.specs.Doings.{sharing}
use Rattle.scode_vm.proofs.DirectCalls.{zeros_long, zeros_row}
use Rattle.scode_vm.proofs.Receivers.{ClassesAre, ObjectsLead}
use Rattle.scode_vm.proofs.VirtualCalls.{Declared, Received, at_place, call_does, call_room, declared, declared_as, none_else, null_traps, received, received_as, receives}
use Rattle.scode_vm.proofs.calls.virtual_call.Goals as goal

module _ (image : Image) (class at : ℕ) (s : Frames) (turns : ℕ)
    (may : MayDoOf image (λ w. effect w (op.VirtualCall class at)) s turns) where
  abbrev shared : Shared
  shared = sharing may.contents may.statics turns may.moment

  abbrev it : (methods : List ImageMethod) (number i : ℕ) (m : ImageMethod) → table_method image class at ≡ Some number
      → methods ≡ image.methods → i ≡ number → m ≡ get_or methods i m → Declared image class at s
  it methods number i m found e f is =
      let d = declared image class at s may.class may.place shared may.typed in
      declared_as image class at s d number m found (at_place image class at s d methods number i m found e f is)

  top_is : (d : Declared image class at s) (count : ℕ) (c x : Cell) → count ≡ argument_count d.m
      → slice_get (running s).stack (count - 1) ≡ Some c → c ≡ x
      → slice_get (running s).stack (argument_count d.m - 1) ≡ Some x
  top_is d count c x e top is =
      ap (λ (n : ℕ). slice_get (running s).stack (n - 1)) (sym e) ∙ top ∙ ap Some is

  met : (objects : ObjectsLead) (classes : ClassesAre) (d : Declared image class at s) (b : Block) (offset own : ℕ)
      → slice_get (running s).stack (argument_count d.m - 1) ≡ Some (cell.Object b offset own)
      → Received image own at
  met objects classes d b offset own top =
      received image class at s may.class may.place shared objects classes d b offset own top may.typed

pub top-requires : goal.top-requires
top-requires c =
    let d = it c.args.image.now c.args.class c.args.place c.args.cells.now c.args.left.now c.requires.may
    c.as_slice.result.now c.table_method.result c.from-declared.result c.index-as_slice-declared.result
    c.table_method.ensures c.as_slice.ensures c.from-declared.ensures c.index-as_slice-declared.is in
    let count = c.argument_count-count.ensures in
    let some = d.some in
    let few = d.few in
    omega (arith, count, some, few)

pub table_method-number-requires : goal.table_method-number-requires
table_method-number-requires c =
    let d = it c.args.image.now c.args.class c.args.place c.args.cells.now c.args.left.now c.requires.may
    c.as_slice.result.now c.table_method.result c.from-declared.result c.index-as_slice-declared.result
    c.table_method.ensures c.as_slice.ensures c.from-declared.ensures c.index-as_slice-declared.is in
    let top = top_is c.args.image.now c.args.class c.args.place c.args.cells.now c.args.left.now c.requires.may d
    c.argument_count-count.result c.top.result (cell.Object c.in-Object.block c.in-Object.offset c.in-Object.own)
    c.argument_count-count.ensures c.top.ensures c.in-Object.is in
    let r = met c.args.image.now c.args.class c.args.place c.args.cells.now c.args.left.now c.requires.may
    c.cells_lead_to_parts.ensures.object c.parts_stand_inside.ensures.class d c.in-Object.block c.in-Object.offset
    c.in-Object.own top in
    (r.number, r.found)

pub bounds-zeros-from : goal.bounds-zeros-from
bounds-zeros-from c =
    let d = it c.args.image.now c.args.class c.args.place c.args.cells.now c.args.left.now c.requires.may
    c.as_slice.result.now c.table_method.result c.from-declared.result c.index-as_slice-declared.result
    c.table_method.ensures c.as_slice.ensures c.from-declared.ensures c.index-as_slice-declared.is in
    let top = top_is c.args.image.now c.args.class c.args.place c.args.cells.now c.args.left.now c.requires.may d
    c.argument_count-count.result c.top.result (cell.Object c.in-Object.block c.in-Object.offset c.in-Object.own)
    c.argument_count-count.ensures c.top.ensures c.in-Object.is in
    let r = met c.args.image.now c.args.class c.args.place c.args.cells.now c.args.left.now c.requires.may
    c.cells_lead_to_parts.ensures.object c.parts_stand_inside.ensures.class d c.in-Object.block c.in-Object.offset
    c.in-Object.own top in
    let n = received_as c.args.image.now c.in-Object.own c.args.place r c.table_method-number.result
    c.table_method-number.ensures in
    subst (λ (k : ℕ). k < length c.args.zeros.now) (sym c.from.ensures)
    (zeros_long c.args.image.now c.args.zeros.now n.number n.m c.requires.zeros n.known)

pub go_into-requires-clause-there : goal.go_into-requires-clause-there
go_into-requires-clause-there c =
    let d = it c.args.image.now c.args.class c.args.place c.args.cells.now c.args.left.now c.requires.may
    c.as_slice.result.now c.table_method.result c.from-declared.result c.index-as_slice-declared.result
    c.table_method.ensures c.as_slice.ensures c.from-declared.ensures c.index-as_slice-declared.is in
    subst (λ (k : ℕ). k ≤ length (running c.args.cells.now).stack) (sym c.argument_count-count.ensures) d.few

pub go_into-requires-clause-room : goal.go_into-requires-clause-room
go_into-requires-clause-room c = λ some deep.
    let d = it c.args.image.now c.args.class c.args.place c.args.cells.now c.args.left.now c.requires.may
    c.as_slice.result.now c.table_method.result c.from-declared.result c.index-as_slice-declared.result
    c.table_method.ensures c.as_slice.ensures c.from-declared.ensures c.index-as_slice-declared.is in
    let top = top_is c.args.image.now c.args.class c.args.place c.args.cells.now c.args.left.now c.requires.may d
    c.argument_count-count.result c.top.result (cell.Object c.in-Object.block c.in-Object.offset c.in-Object.own)
    c.argument_count-count.ensures c.top.ensures c.in-Object.is in
    let r = met c.args.image.now c.args.class c.args.place c.args.cells.now c.args.left.now c.requires.may
    c.cells_lead_to_parts.ensures.object c.parts_stand_inside.ensures.class d c.in-Object.block c.in-Object.offset
    c.in-Object.own top in
    let n = received_as c.args.image.now c.in-Object.own c.args.place r c.table_method-number.result
    c.table_method-number.ensures in
    let room = call_room c.args.image.now c.args.class c.args.place c.args.cells.now d
    c.cells_lead_to_parts.ensures.object c.parts_stand_inside.ensures.class c.in-Object.block c.in-Object.offset
    c.in-Object.own top n c.args.left.now c.requires.may some deep in
    let long : length c.as_slice-in-Object.result.now ≡ length n.m.locals =
    ap length (c.as_slice-in-Object.ensures
    ∙ zeros_row c.args.image.now c.args.zeros.now n.number c.from.result n.m c.index-zeros-from.result
    c.requires.zeros n.known c.from.ensures c.index-zeros-from.is)
    ∙ length-map n.m.locals zero_cell in
    let count = c.argument_count-count.ensures in
    (omega (arith, count, long, room.0), omega (arith, long, room.1))

pub unreachable-requires : goal.unreachable-requires
unreachable-requires c =
    let d = it c.args.image.now c.args.class c.args.place c.args.cells.now c.args.left.now c.requires.may
    c.as_slice.result.now c.table_method.result c.from-declared.result c.index-as_slice-declared.result
    c.table_method.ensures c.as_slice.ensures c.from-declared.ensures c.index-as_slice-declared.is in
    let top = top_is c.args.image.now c.args.class c.args.place c.args.cells.now c.args.left.now c.requires.may d
    c.argument_count-count.result c.top.result c.top.result c.argument_count-count.ensures c.top.ensures (λ i. c.top.result) in
    none_else c.top.result
    (receives c.args.image.now c.args.class c.args.place c.args.cells.now c.requires.may.class c.requires.may.place
    (shared c.args.image.now c.args.class c.args.place c.args.cells.now c.args.left.now c.requires.may)
    c.cells_lead_to_parts.ensures.str d c.top.result top c.requires.may.typed)
    c.in_default.not-Object c.in_default.not-Null

pub returns-in-Object : goal.returns-in-Object
returns-in-Object c = λ moment.
    let d = it c.args.image.now c.args.class c.args.place c.args.cells.now c.args.left.now c.requires.may
    c.as_slice.result.now c.table_method.result c.from-declared.result c.index-as_slice-declared.result
    c.table_method.ensures c.as_slice.ensures c.from-declared.ensures c.index-as_slice-declared.is in
    let top = top_is c.args.image.now c.args.class c.args.place c.args.cells.now c.args.left.now c.requires.may d
    c.argument_count-count.result c.top.result (cell.Object c.in-Object.block c.in-Object.offset c.in-Object.own)
    c.argument_count-count.ensures c.top.ensures c.in-Object.is in
    let r = met c.args.image.now c.args.class c.args.place c.args.cells.now c.args.left.now c.requires.may
    c.cells_lead_to_parts.ensures.object c.parts_stand_inside.ensures.class d c.in-Object.block c.in-Object.offset
    c.in-Object.own top in
    let n = received_as c.args.image.now c.in-Object.own c.args.place r c.table_method-number.result
    c.table_method-number.ensures in
    call_does c.args.image.now c.args.class c.args.place c.args.cells.now d
    c.cells_lead_to_parts.ensures.object c.parts_stand_inside.ensures.class c.in-Object.block c.in-Object.offset
    c.in-Object.own top n c.as_slice-in-Object.result.now c.args.left.now moment c.go_into.result c.go_into.new.cells
    c.go_into.new.left
    (c.as_slice-in-Object.ensures
    ∙ zeros_row c.args.image.now c.args.zeros.now n.number c.from.result n.m c.index-zeros-from.result
    c.requires.zeros n.known c.from.ensures c.index-zeros-from.is)
    c.requires.may.runs
    (subst (λ (k : ℕ). GoesInto n.number k c.as_slice-in-Object.result.now c.args.cells.now c.args.left.now
    c.go_into.result c.go_into.new.cells c.go_into.new.left) c.argument_count-count.ensures c.go_into.ensures)

pub returns-in-Null : goal.returns-in-Null
returns-in-Null c = λ moment.
    let d = it c.args.image.now c.args.class c.args.place c.args.cells.now c.args.left.now c.requires.may
    c.as_slice.result.now c.table_method.result c.from-declared.result c.index-as_slice-declared.result
    c.table_method.ensures c.as_slice.ensures c.from-declared.ensures c.index-as_slice-declared.is in
    null_traps c.args.image.now c.args.class c.args.place c.args.cells.now d c.args.left.now moment
    (top_is c.args.image.now c.args.class c.args.place c.args.cells.now c.args.left.now c.requires.may d
    c.argument_count-count.result c.top.result cell.Null c.argument_count-count.ensures c.top.ensures c.in-Null.is)
