use Rattle.std.proofs.Common.{◌≡◌, ap, ◌∙◌}
use Rattle.sed_classes.specs.Objects.{data_size, data_of}
use Rattle.sed_outline.specs.Rounds.{capped, item}
use Rattle.sed_outline.proofs.Measures.{data_is}
use Rattle.sed_outline.proofs.measured.Measured.data_of.Goals as goal

pub returns : goal.returns
returns c =
    let found : c.data_of.result ≡ capped (data_of c.self.inside.based
    (data_size c.self.inside.based) c.args.kit c.args.member.now) =
    data_is
    c.self.inside.based
    c.deref.result.now
    c.args.kit
    c.args.member.now
    c.data_of.result
    (c.deref.ensures.value ∙ c.self.invariant.1)
    (c.data_of.ensures
    ∙ ap (λ units. capped (data_of units (item 0 c.deref.result.now) c.args.kit c.args.member.now))
    c.classes.ensures) in
    cc
