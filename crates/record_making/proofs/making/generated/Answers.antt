use Rattle.std.proofs.Common.{sym, subst, ◌∙◌}
use Rattle.replay_log.specs.Generated.{MayGenerate}
use Rattle.record_making.specs.Spec.{spec_with}
use Rattle.record_making.proofs.SpecLemmas.{may_generate}
use Rattle.record_making.proofs.making.generated.Goals as goal

pub record_of-requires : goal.record_of-requires
record_of-requires g c =
    let m = g.E.Engine.meaning c.args.engine in
    let whole = c.schema-whole.ensures.whole in
    let found = sym c.credential.ensures.value ∙ c.in-Some.is in
    let digests = c.wanted_digests-digests.result in
    let may = may_generate m whole.tables c.args.asked.now c.requires.asked c.args.users.now c.requires.users c.args.user.now c.in-Some.credential found digests in
    subst MayGenerate (sym (c.spec_with-spec.ensures ∙ λ i. spec_with c.args.asked.now (c.in_ok-user_name.ensures i) digests (c.in_ok-types.ensures i))) may
