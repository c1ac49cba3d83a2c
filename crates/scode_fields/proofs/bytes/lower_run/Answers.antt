use Rattle.std.proofs.Common.{ℕ, ◌+◌, ap, sym, ◌∙◌, arith}
use Rattle.std.specs.Prelude.{replicate}
use Rattle.std.proofs.Math.ListN.{length-replicate}
use Rattle.std.proofs.lemmas.List.{get_or-replicate}
use Rattle.scode_fields.specs.Rows.{lowered}
use Rattle.scode_fields.proofs.Lowering.{lowers_more}
use Rattle.scode_fields.proofs.bytes.lower_run.Goals as goal

pub loop-i-preserved : goal.loop-i-preserved
loop-i-preserved c =
    let long = length-replicate c.args.count c.args.most in
    lowers_more c.args.row.now.items c.loop-i.row.items c.lower.new.row.items
    (replicate c.args.count c.args.most) c.args.from c.loop-i.i
    (omega arith) (omega arith) c.loop-i.invariant
    (c.lower.ensures ∙ ap (λ (n : ℕ). lowered c.loop-i.row.items (c.args.from + c.loop-i.i) n)
    (sym (get_or-replicate c.args.count c.loop-i.i c.args.most 0 c.loop-i-test.true)))
