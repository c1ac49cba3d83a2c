use Rattle.std.proofs.Common.{◌≡◌, ℕ, FitsSigned, Result, Ok, sym, subst, rules}
use Rattle.std.specs.Prelude.{ℤ}
use Rattle.std.specs.Int.{w64}
use Rattle.std.proofs.lemmas.Int.{to_z-of_z}
use Rattle.sed_engine.specs.declared.trap.Trap.{Trap}
use Rattle.scode_ops.specs.declared.op.Op.{Op}
use Rattle.scode_ops.specs.declared.op.Op.TheVariants as op
use Rattle.scode_code.specs.Steps.{effect}
use Rattle.scode_cells.specs.Frames.{Frames}
use Rattle.scode_vm.specs.Doings.{DoesWith}
use Rattle.scode_vm.proofs.turns.turn_instruction.Goals as goal

-- of an instruction that is another one
same_op : (o i : Op) (old new : Frames) (turns left : ℕ) (moment : ℤ) (result : Result (Unit {0}) Trap) → o ≡ i
    → DoesWith (λ w. effect w i) old turns moment result new left
    → DoesWith (λ w. effect w o) old turns moment result new left
same_op o i old new turns left moment result e h =
    subst (λ (x : Op). DoesWith (λ w. effect w x) old turns moment result new left) (sym e) h

pub returns-in-Turn : goal.returns-in-Turn
returns-in-Turn c =
    same_op c.args.op op.Turn c.args.cells.now c.args.cells.now c.args.left.now c.turn.new.left c.args.moment
    c.turn.result c.in-Turn.is (c.turn.ensures c.args.moment)

pub returns-in-Ticks : goal.returns-in-Ticks
returns-in-Ticks c =
    let fits : FitsSigned w64 c.args.moment = search rules in
    same_op c.args.op op.Ticks c.args.cells.now c.ticks.new.cells c.args.left.now c.args.left.now c.args.moment
    (Ok tt) c.in-Ticks.is
    (subst (λ (n : ℤ). DoesWith (λ w. effect w op.Ticks) c.args.cells.now c.args.left.now n (Ok tt) c.ticks.new.cells
    c.args.left.now) (to_z-of_z w64 c.args.moment fits) (c.ticks.ensures c.args.left.now))
