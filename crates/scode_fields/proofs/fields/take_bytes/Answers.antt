use Rattle.std.proofs.Common.{◌≡◌, ℕ, subst, arith}
use Rattle.scode_fields.specs.Words.{AreTaken}
use Rattle.scode_fields.proofs.fields.take_bytes.Goals as goal

pub returns : goal.returns
returns c =
    let over : c.loop-at.at ≡ c.args.to = omega (arith, c.loop-at.auto.at-end c.requires.order) in
    subst (λ (to : ℕ). AreTaken c.args.taken.now.items c.loop-at.taken.items c.args.from to) over c.loop-at.invariant
