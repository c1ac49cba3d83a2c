use Rattle.std.proofs.Common.{◌≡◌, FitsSigned, Ok, sym, subst, rules}
use Rattle.std.specs.Prelude.{ℤ}
use Rattle.std.specs.Int.{w32, w64}
use Rattle.std.proofs.lemmas.Int.{to_z-of_z}
use Rattle.scode_ops.specs.declared.op.Op.{Op}
use Rattle.scode_ops.specs.declared.op.Op.TheVariants as op
use Rattle.scode_code.specs.Steps.{effect}
use Rattle.scode_cells.specs.Frames.{Frames}
use Rattle.scode_vm.specs.Doings.{Does}
use Rattle.scode_vm.proofs.locals.local_instruction.Goals as goal

-- of an instruction that is another one
same_op : (o i : Op) (old new : Frames) → o ≡ i → Does (λ w. effect w i) old (Ok tt) new
    → Does (λ w. effect w o) old (Ok tt) new
same_op o i old new e h = subst (λ (x : Op). Does (λ w. effect w x) old (Ok tt) new) (sym e) h

pub returns-in-Int : goal.returns-in-Int
returns-in-Int c =
    let fits : FitsSigned w32 c.in-Int.number = search rules in
    same_op c.args.op (op.Int c.in-Int.number) c.args.cells.now c.push_int.new.cells c.in-Int.is
    (subst (λ (n : ℤ). Does (λ w. effect w (op.Int n)) c.args.cells.now (Ok tt) c.push_int.new.cells)
    (to_z-of_z w32 c.in-Int.number fits) c.push_int.ensures)

pub returns-in-Long : goal.returns-in-Long
returns-in-Long c =
    let fits : FitsSigned w64 c.in-Long.number = search rules in
    same_op c.args.op (op.Long c.in-Long.number) c.args.cells.now c.push_long.new.cells c.in-Long.is
    (subst (λ (n : ℤ). Does (λ w. effect w (op.Long n)) c.args.cells.now (Ok tt) c.push_long.new.cells)
    (to_z-of_z w64 c.in-Long.number fits) c.push_long.ensures)

pub returns-in-Bool : goal.returns-in-Bool
returns-in-Bool c = same_op c.args.op _ c.args.cells.now c.push_bool.new.cells c.in-Bool.is c.push_bool.ensures

pub returns-in-Null : goal.returns-in-Null
returns-in-Null c = same_op c.args.op _ c.args.cells.now c.push_null.new.cells c.in-Null.is c.push_null.ensures

pub returns-in-Statics : goal.returns-in-Statics
returns-in-Statics c =
    same_op c.args.op _ c.args.cells.now c.push_statics.new.cells c.in-Statics.is c.push_statics.ensures
