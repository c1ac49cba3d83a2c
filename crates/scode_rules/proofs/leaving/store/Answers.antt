use Rattle.std.proofs.Common.{ap, sym, ◌∙◌, arith, Option}
use Rattle.std.specs.Option.{option_map_or}
use Rattle.scode_image.specs.declared.image.ImageKind.{ImageKind}
use Rattle.scode_code.specs.CodeRules.{with_kind}
use Rattle.scode_rules.proofs.Stacks.{kind_past}
use Rattle.scode_rules.proofs.leaving.store.Goals as goal

pub returns-else-from-len : goal.returns-else-from-len
returns-else-from-len c =
    let ls = c.args.locals.now.items in
    let i = c.in-Store.number in
    rw c.in-Store.is
    (sym (ap (λ (o : Option ImageKind). option_map_or (λ k. with_kind ls i k) o ls) (sym c.cell_at.ensures ∙ c.in-Some.is)
    ∙ kind_past ls i c.in-Some.top (omega (arith, c.args.locals.now.ok.0))))
