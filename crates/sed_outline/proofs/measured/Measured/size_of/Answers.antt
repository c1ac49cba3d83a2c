use Rattle.std.proofs.Common.{◌≡◌, ◌∙◌}
use Rattle.sed_classes.specs.Objects.{data_size}
use Rattle.sed_outline.specs.Rounds.{capped}
use Rattle.sed_outline.proofs.Measures.{size_is}
use Rattle.sed_outline.proofs.measured.Measured.size_of.Goals as goal

pub returns : goal.returns
returns c =
    let found : c.size_at.result ≡ capped (data_size c.self.inside.based c.args.class) =
    size_is
    c.self.inside.based
    c.deref.result.now
    c.args.class
    c.size_at.result
    (c.deref.ensures.value ∙ c.self.invariant.1)
    c.size_at.ensures in
    cc
