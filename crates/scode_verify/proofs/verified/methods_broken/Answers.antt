use Rattle.std.proofs.Common.{ap, sym, ◌∙◌, Option}
use Rattle.std.specs.Option.{option_map}
use Rattle.scode_verify.specs.declared.walk.Broken.{Broken}
use Rattle.scode_verify.specs.Words.{fault_of}
use Rattle.scode_verify.proofs.Sounds.{none_broken}
use Rattle.scode_verify.proofs.verified.methods_broken.Goals as goal

pub loop-number-preserved : goal.loop-number-preserved
loop-number-preserved c =
    sym (none_broken c.args.image.now c.loop-number.number c.as_slice-methods.result.now c.index-methods-number.result
    c.loop-number-test.true c.index-methods-number.is
    (sym c.in_ok-fault.ensures ∙ ap (λ (o : Option Broken). option_map fault_of o) c.in_default.is))
    ∙ c.loop-number.invariant
