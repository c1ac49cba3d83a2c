use Rattle.std.proofs.Common.{◌≡◌, ◌∙◌, ap, subst, sym, Result, Err, Some}
use Rattle.std.proofs.lemmas.Option.{none-some}
use Rattle.scode_image.specs.declared.image.Image.{Image}
use Rattle.scode_code.specs.Breaks.{IsFirstBroken}
use Rattle.scode_code.specs.Faults.{Broken, first_broken}
use Rattle.scode_verify.specs.Outcome.{IsOutcome}
use Rattle.scode_verify.specs.declared.verified.VerifyRefusal.{VerifyRefusal}
use Rattle.scode_compile.proofs.compiler.verified.Goals as goal

pub unreachable-requires : goal.unreachable-requires
unreachable-requires c =
    let fault = c.in-Err-Fault in
    let image : Image = c.args.image in
    let broken : Broken = record { method = fault.field-0-0; at = fault.field-0-1; rule = fault.field-0-2 } in
    let first : IsFirstBroken image broken =
    subst (λ (r : Result Image VerifyRefusal). IsOutcome image r) (fault.is ∙ ap Err fault.field-0-is) c.verify.ensures in
    let found : first_broken image ≡ Some broken = (c.first_broken_is_least.ensures image broken).1 first in
    none-some broken (sym c.requires ∙ found)
