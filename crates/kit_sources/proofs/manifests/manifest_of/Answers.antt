use Rattle.std.proofs.Common.{ap, Err}
use Rattle.kit_sources.specs.declared.refusal.Why.TheVariants as why
use Rattle.kit_sources.specs.Refusals.{IsTextManifest, IsWhyOfManifest}
use Rattle.kit_sources.proofs.Reading.{said}
use Rattle.kit_sources.proofs.manifests.manifest_of.Goals as goal

pub returns-in-Err-NotToml : goal.returns-in-Err-NotToml
returns-in-Err-NotToml c =
    said c.args.name.now (IsTextManifest c.args.text.now) (IsWhyOfManifest c.args.text.now) why.NotToml c.refused.result c.refused.ensures
    (c.in-Err-NotToml.ensures.not_toml.only (ap Err c.in-Err-NotToml.field-0-is))
