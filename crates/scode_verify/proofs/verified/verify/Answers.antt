use Rattle.std.proofs.Common.{ap, sym, ◌∙◌, Option}
use Rattle.scode_code.specs.Faults.{Broken}
use Rattle.scode_verify.specs.declared.verified.Found.{Found}
use Rattle.scode_verify.specs.Words.{broken_of}
use Rattle.scode_verify.proofs.verified.verify.Goals as goal

pub returns-in-Ok-Some : goal.returns-in-Ok-Some
returns-in-Ok-Some c =
    let found = c.in-Ok-Some.found in
    let b : Broken = record { method = found.method; at = found.at; rule = found.rule } in
    (c.first_broken_is_least.ensures c.args.image b).0
    (sym c.in-Ok-Some.ensures ∙ ap (λ (o : Option Found). broken_of o) c.in-Ok-Some.field-0-is)
