use Rattle.std.proofs.Common.{◌≡◌, ap, ◌∙◌}
use Rattle.sed_classes.specs.Objects.{data_size, field_size}
use Rattle.sed_outline.specs.Rounds.{capped, item}
use Rattle.sed_outline.proofs.Measures.{field_is}
use Rattle.sed_outline.proofs.measured.Measured.field_size.Goals as goal

pub returns : goal.returns
returns c =
    let found : c.field_size.result ≡ capped (field_size c.self.inside.based
    (data_size c.self.inside.based) c.args.kit c.args.member.now) =
    field_is
    c.self.inside.based
    c.deref.result.now
    c.args.kit
    c.args.member.now
    c.field_size.result
    (c.deref.ensures.value ∙ c.self.invariant.1)
    (c.field_size.ensures
    ∙ ap (λ units. capped (field_size units (item 0 c.deref.result.now) c.args.kit c.args.member.now))
    c.classes.ensures) in
    cc
