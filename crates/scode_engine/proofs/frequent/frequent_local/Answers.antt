use Rattle.std.proofs.Common.{ℤ, FitsSigned, Ok, rules, subst, sym}
use Rattle.std.specs.Int.{w32}
use Rattle.std.proofs.lemmas.Int.{to_z-of_z}
use Rattle.scode_ops.specs.declared.op.Op.{Op}
use Rattle.scode_ops.specs.declared.op.Op.TheVariants as op
use Rattle.scode_code.specs.Steps.{effect}
use Rattle.scode_vm.specs.Doings.{Does}
use Rattle.scode_engine.proofs.frequent.frequent_local.Goals as goal

pub returns-in-Int : goal.returns-in-Int
returns-in-Int c =
    let fits : FitsSigned w32 c.in-Int.number = search rules in
    subst (λ (x : Op). Does (λ w. effect w x) c.args.cells.now (Ok tt) c.push_int.new.cells) (sym c.in-Int.is)
    (subst (λ (n : ℤ). Does (λ w. effect w (op.Int n)) c.args.cells.now (Ok tt) c.push_int.new.cells)
    (to_z-of_z w32 c.in-Int.number fits) c.push_int.ensures)
