use Rattle.std.proofs.Common.{ℤ, FitsSigned, rules, subst}
use Rattle.std.specs.Int.{w64}
use Rattle.std.proofs.lemmas.Int.{to_z-of_z}
use Rattle.scode_code.specs.Steps.{effect}
use Rattle.scode_vm.specs.Doings.{DoesWith}
use Rattle.scode_engine.specs.Root.{rooted}
use Rattle.scode_engine.proofs.Here.{done_with, may}
use Rattle.scode_engine.proofs.groups.do_turn.Goals as goal

pub turn_instruction-requires-clause-may : goal.turn_instruction-requires-clause-may
turn_instruction-requires-clause-may c =
    may (rooted c.args.call.now) c.args.op c.args.cells.now c.args.pool.now c.args.left.now c.requires.next
    c.skip.new.cells c.skip.ensures

pub returns : goal.returns
returns c =
    let fits : FitsSigned w64 c.args.call.now.moment = search rules in
    done_with (rooted c.args.call.now) c.args.op c.args.cells.now c.args.pool.now c.args.left.now c.requires.next
    c.skip.new.cells c.skip.ensures c.going_on.result c.turn_instruction.result c.turn_instruction.new.cells
    c.turn_instruction.new.left c.going_on.ensures
    (subst (λ (n : ℤ). DoesWith (λ w. effect w c.args.op) c.skip.new.cells c.args.left.now n c.turn_instruction.result
    c.turn_instruction.new.cells c.turn_instruction.new.left) (to_z-of_z w64 c.args.call.now.moment fits)
    c.turn_instruction.ensures)
