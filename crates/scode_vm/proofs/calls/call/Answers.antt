use Rattle.std.proofs.Common.{◌≡◌, ◌≤◌, ◌<◌, ℕ, List, length, get_or, ap, sym, subst, ◌∙◌, arith, Some}
use Rattle.std.specs.Prelude.{slice_get}
use Rattle.std.proofs.lemmas.List.{length-map}
use Rattle.std.proofs.lemmas.Option.{slice_get_within}
use Rattle.scode_image.specs.declared.image.Image.{Image}
use Rattle.scode_image.specs.declared.image.ImageMethod.{ImageMethod}
use Rattle.scode_ops.specs.declared.op.Op.TheVariants as op
use Rattle.scode_code.specs.Calls.{argument_count}
use Rattle.scode_code.specs.Steps.{effect}
use Rattle.scode_cells.specs.Frames.{Frames, running}
use Rattle.scode_vm.specs.Calling.{GoesInto, MayDoOf, zero_cell}
use Rattle.scode_vm.specs.Doings.{sharing}
use Rattle.scode_vm.proofs.DirectCalls.{CallsIt, at_index, call_does, call_room, calls_it, null_traps, one_item, zeros_long, zeros_row}
use Rattle.scode_vm.proofs.calls.call.Goals as goal

-- the method that is found
it : (image : Image) (number : ℕ) (s : Frames) (turns : ℕ) → MayDoOf image (λ w. effect w (op.Call number)) s turns
    → CallsIt image number s
it image number s turns may =
    calls_it image number s may.class may.place (sharing may.contents may.statics turns may.moment) may.typed

-- is the one at the index
known : (image : Image) (number i : ℕ) (s : Frames) (turns : ℕ) (methods : List ImageMethod) (m : ImageMethod)
    → MayDoOf image (λ w. effect w (op.Call number)) s turns → methods ≡ image.methods → i ≡ number
    → m ≡ get_or methods i m → slice_get image.methods number ≡ Some m
known image number i s turns methods m may e f is =
    let here = it image number s turns may in
    at_index image.methods methods number i m e f is (slice_get_within image.methods number here.m here.known)

few : (image : Image) (number : ℕ) (s : Frames) (turns : ℕ) (m : ImageMethod)
    → MayDoOf image (λ w. effect w (op.Call number)) s turns → slice_get image.methods number ≡ Some m
    → argument_count m ≤ length (running s).stack
few image number s turns m may e =
    let here = it image number s turns may in
    subst (λ (x : ImageMethod). argument_count x ≤ length (running s).stack)
    (one_item (slice_get image.methods number) here.m m here.known e) here.few

pub receiver_is_null-requires-clause-there : goal.receiver_is_null-requires-clause-there
receiver_is_null-requires-clause-there c =
    let k = known c.args.image.now c.args.number c.from.result c.args.cells.now c.args.left.now c.as_slice.result.now
    c.index-as_slice-from.result c.requires.may c.as_slice.ensures c.from.ensures c.index-as_slice-from.is in
    subst (λ (n : ℕ). n ≤ length (running c.args.cells.now).stack) (sym c.argument_count-count.ensures)
    (few c.args.image.now c.args.number c.args.cells.now c.args.left.now c.index-as_slice-from.result c.requires.may k)

pub returns-then-receiver_is_null : goal.returns-then-receiver_is_null
returns-then-receiver_is_null c = λ moment.
    let k = known c.args.image.now c.args.number c.from.result c.args.cells.now c.args.left.now c.as_slice.result.now
    c.index-as_slice-from.result c.requires.may c.as_slice.ensures c.from.ensures c.index-as_slice-from.is in
    null_traps c.args.image.now c.args.number c.args.cells.now c.index-as_slice-from.result k
    (few c.args.image.now c.args.number c.args.cells.now c.args.left.now c.index-as_slice-from.result c.requires.may k)
    c.args.left.now moment (c.receiver_is_null.ensures.0 c.if-receiver_is_null.true)

pub bounds-zeros-from : goal.bounds-zeros-from
bounds-zeros-from c =
    let k = known c.args.image.now c.args.number c.from.result c.args.cells.now c.args.left.now c.as_slice.result.now
    c.index-as_slice-from.result c.requires.may c.as_slice.ensures c.from.ensures c.index-as_slice-from.is in
    subst (λ (n : ℕ). n < length c.args.zeros.now) (sym c.from-2.ensures)
    (zeros_long c.args.image.now c.args.zeros.now c.args.number c.index-as_slice-from.result c.requires.zeros k)

pub go_into-requires-clause-there : goal.go_into-requires-clause-there
go_into-requires-clause-there c =
    let k = known c.args.image.now c.args.number c.from.result c.args.cells.now c.args.left.now c.as_slice.result.now
    c.index-as_slice-from.result c.requires.may c.as_slice.ensures c.from.ensures c.index-as_slice-from.is in
    subst (λ (n : ℕ). n ≤ length (running c.args.cells.now).stack) (sym c.argument_count-count.ensures)
    (few c.args.image.now c.args.number c.args.cells.now c.args.left.now c.index-as_slice-from.result c.requires.may k)

pub go_into-requires-clause-room : goal.go_into-requires-clause-room
go_into-requires-clause-room c = λ some deep.
    let m : ImageMethod = c.index-as_slice-from.result in
    let s : Frames = c.args.cells.now in
    let k = known c.args.image.now c.args.number c.from.result s c.args.left.now c.as_slice.result.now m c.requires.may
    c.as_slice.ensures c.from.ensures c.index-as_slice-from.is in
    let f = few c.args.image.now c.args.number s c.args.left.now m c.requires.may k in
    let room = call_room c.args.image.now c.args.number s m k f c.args.left.now c.requires.may
    (λ null. let t = c.receiver_is_null.ensures.1 null in let n = c.if-receiver_is_null.false in cc) some deep in
    let long : length c.as_slice-2.result.now ≡ length m.locals =
    ap length (c.as_slice-2.ensures
    ∙ zeros_row c.args.image.now c.args.zeros.now c.args.number c.from-2.result m c.index-zeros-from.result
    c.requires.zeros k c.from-2.ensures c.index-zeros-from.is)
    ∙ length-map m.locals zero_cell in
    let count = c.argument_count-count.ensures in
    (omega (arith, count, long, room.0), omega (arith, long, room.1))

pub returns : goal.returns
returns c = λ moment.
    let m : ImageMethod = c.index-as_slice-from.result in
    let s : Frames = c.args.cells.now in
    let k = known c.args.image.now c.args.number c.from.result s c.args.left.now c.as_slice.result.now m c.requires.may
    c.as_slice.ensures c.from.ensures c.index-as_slice-from.is in
    call_does c.args.image.now c.args.number s m k
    (few c.args.image.now c.args.number s c.args.left.now m c.requires.may k) c.as_slice-2.result.now c.args.left.now
    moment c.go_into.result c.go_into.new.cells c.go_into.new.left
    (c.as_slice-2.ensures
    ∙ zeros_row c.args.image.now c.args.zeros.now c.args.number c.from-2.result m c.index-zeros-from.result
    c.requires.zeros k c.from-2.ensures c.index-zeros-from.is)
    c.requires.may.runs
    (λ null. let t = c.receiver_is_null.ensures.1 null in let n = c.if-receiver_is_null.false in cc)
    (subst (λ (n : ℕ). GoesInto c.args.number n c.as_slice-2.result.now s c.args.left.now c.go_into.result
    c.go_into.new.cells c.go_into.new.left) c.argument_count-count.ensures c.go_into.ensures)
