use Rattle.std.proofs.Common.{◌≡◌, List, ℕ, subst}
use Rattle.std.specs.Prelude.{◌⊎◌}
use Rattle.kit_sources.specs.declared.refusal.SourcesRefusal.TheVariants.{Refused, Memory}
use Rattle.kit_sources.proofs.Loops.{name_is}
use Rattle.kit_sources.proofs.manifests.refused_at.Goals as goal

pub returns : goal.returns
returns c =
    subst (λ (name : List ℕ). (c.refused.result ≡ Refused name c.args.why) ⊎ (c.refused.result ≡ Memory))
    (name_is c.args.names.now c.args.at c.index-names-at.result c.as_str.result.now c.requires c.as_str.ensures.value c.index-names-at.is) c.refused.ensures
