use Rattle.kit_manifest.proofs.One.{one_manifest, one_text_refusal, manifest_or_refusal}
use Rattle.kit_manifest.proofs.laws.text_is_one.Goals as goal

pub returns-clause-manifest : goal.returns-clause-manifest
returns-clause-manifest c = λ text a b first second. one_manifest text a b first second

pub returns-clause-refusal : goal.returns-clause-refusal
returns-clause-refusal c = λ text a b first second. one_text_refusal text a b first second

pub returns-clause-not_both : goal.returns-clause-not_both
returns-clause-not_both c = λ text a b first second. manifest_or_refusal text a b first second
