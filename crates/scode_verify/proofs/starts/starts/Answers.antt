use Rattle.std.proofs.Common.{ℕ, ◌+◌, ◌-◌, ◌<◌, Bool, true, List, length, length-set, ap, sym, ◌∙◌, arith, Option}
use Rattle.std.specs.Option.{option_map}
use Rattle.std.proofs.Math.ListN.{set}
use Rattle.scode_ops.specs.declared.op.Op.{Op}
use Rattle.scode_verify.proofs.Marks.{marked, marks_end, marks_go_on}
use Rattle.scode_verify.proofs.starts.starts.Goals as goal

pub returns-in-None : goal.returns-in-None
returns-in-None c =
    let code = c.args.code.now in
    let none = sym c.op_at.ensures.found ∙ ap (λ (o : Option (Op × ℕ)). option_map (λ r. r.0) o) c.in-None.is in
    record {
      is = λ p. sym (marks_end c.loop.told.items (length code - c.loop.counter) c.loop.place code p none) ∙ c.loop.invariant.is p;
    }

pub loop-preserved : goal.loop-preserved
loop-preserved c =
    let code = c.args.code.now in
    let told = c.loop.told.items in
    let left = length code - (c.loop.counter + 1) in
    let some = sym c.op_at.ensures.found ∙ ap (λ (o : Option (Op × ℕ)). option_map (λ r. r.0) o) c.in-Some.is in
    let within : c.loop.place < length told = omega (arith, c.loop.invariant.long, c.in-Some.ensures.within) in
    record {
      long = omega (arith, ap length c.mark.ensures, length-set {A = Bool}, c.loop.invariant.long);
      is = λ p.
          ap (λ (t : List Bool). marked t left c.in-Some.behind code p) c.mark.ensures
          ∙ ap (λ (b : ℕ). marked (set told c.loop.place true) left b code p) c.in-Some.ensures.behind
          ∙ sym (marks_go_on told (length code) c.loop.counter c.loop.place code p c.in-Some.field-0-0 c.loop-test.true within some)
          ∙ c.loop.invariant.is p;
    }
