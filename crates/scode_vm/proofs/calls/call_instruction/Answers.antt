use Rattle.std.proofs.Common.{◌≡◌, ℕ, ℤ, Result, Ok, sym, subst}
use Rattle.sed_engine.specs.declared.trap.Trap.{Trap}
use Rattle.scode_image.specs.declared.image.Image.{Image}
use Rattle.scode_ops.specs.declared.op.Op.{Op}
use Rattle.scode_code.specs.Steps.{effect}
use Rattle.scode_cells.specs.Frames.{Frames}
use Rattle.scode_vm.specs.declared.course.Course.{Course}
use Rattle.scode_vm.specs.Calling.{DoesOf, MayDoOf}
use Rattle.scode_vm.proofs.calls.call_instruction.Goals as goal

-- of an instruction that is another one
same_op : (image : Image) (o i : Op) (old new : Frames) (turns : ℕ) (moment : ℤ) (result : Result Course Trap) (left : ℕ)
    → o ≡ i → DoesOf image (λ w. effect w i) old turns moment result new left
    → DoesOf image (λ w. effect w o) old turns moment result new left
same_op image o i old new turns moment result left e h =
    subst (λ (x : Op). DoesOf image (λ w. effect w x) old turns moment result new left) (sym e) h

pub return_nothing-requires : goal.return_nothing-requires
return_nothing-requires c = (
  c.args.image.now,
  c.args.left.now,
  subst (λ (x : Op). MayDoOf c.args.image.now (λ w. effect w x) c.args.cells.now c.args.left.now) c.in-Return.is
      c.requires.may,
)

pub returns-in-Call : goal.returns-in-Call
returns-in-Call c = λ moment.
    same_op c.args.image.now c.args.op _ c.args.cells.now c.call.new.cells c.args.left.now moment c.call.result
    c.call.new.left c.in-Call.is (c.call.ensures moment)

pub returns-in-VirtualCall : goal.returns-in-VirtualCall
returns-in-VirtualCall c = λ moment.
    same_op c.args.image.now c.args.op _ c.args.cells.now c.virtual_call.new.cells c.args.left.now moment
    c.virtual_call.result c.virtual_call.new.left c.in-VirtualCall.is (c.virtual_call.ensures moment)

pub returns-in-Return : goal.returns-in-Return
returns-in-Return c = λ moment.
    same_op c.args.image.now c.args.op _ c.args.cells.now c.return_nothing.new.cells c.args.left.now moment
    (Ok c.return_nothing.result) c.args.left.now c.in-Return.is
    (c.return_nothing.ensures c.args.image.now c.args.left.now moment)

pub returns-in-ReturnValue : goal.returns-in-ReturnValue
returns-in-ReturnValue c = λ moment.
    same_op c.args.image.now c.args.op _ c.args.cells.now c.return_value.new.cells c.args.left.now moment
    (Ok c.return_value.result) c.args.left.now c.in-ReturnValue.is
    (c.return_value.ensures c.args.image.now c.args.left.now moment)
