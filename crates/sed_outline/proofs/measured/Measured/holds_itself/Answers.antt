use Rattle.std.proofs.Common.{◌≡◌, false, ap, ◌∙◌}
use Rattle.sed_classes.specs.Objects.{holds_itself}
use Rattle.sed_outline.specs.Rounds.{item}
use Rattle.sed_outline.proofs.Inside.{itself_is}
use Rattle.sed_outline.proofs.measured.Measured.holds_itself.Goals as goal

pub returns : goal.returns
returns c =
    let found : c.is_known.result ≡ holds_itself c.self.inside.based c.args.class =
    c.is_known.ensures
    ∙ ap (λ r. item false r c.args.class) (c.deref.ensures.value ∙ c.self.invariant.0)
    ∙ itself_is c.self.inside.based c.args.class in
    cc
