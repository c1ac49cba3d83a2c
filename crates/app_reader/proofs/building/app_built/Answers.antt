use Rattle.std.proofs.Common.{◌≡◌, sym, ap, subst, ◌∙◌}
use Rattle.std.specs.Prelude.{None}
use Rattle.sed_engine.specs.Code.{Meaning}
use Rattle.comp_tree.specs.Application.{Application, ById, Components}
use Rattle.comp_tree.specs.Held.{components_of}
use Rattle.comp_tree.specs.Whole.{Whole}
use Rattle.link_prop.specs.Linked.{AreLinked, application_of}
use Rattle.app_reader.specs.Ready.{application_told, components_told, limit_told, tree_with}
use Rattle.app_reader.proofs.LimitLemmas.{limit_same}
use Rattle.app_reader.proofs.WholeLemmas.{links_told, whole_told}
use Rattle.app_reader.proofs.building.app_built.Goals as goal

pub build-requires-clause-linked : goal.build-requires-clause-linked
build-requires-clause-linked g c =
    let m = g.E.Engine.meaning c.args.engine in
    let limit = g.E.Engine.limit c.args.engine in
    let rows = c.args.rows.now in
    let held = c.requires.held in
    let tree = c.in-Ok.tree in
    let few : limit_told m limit rows ≡ None =
    sym (limit_same m limit rows held c.as_slice.result.now c.as_slice-2.result.now c.as_slice-3.result.now c.as_slice-4.result.now c.limit_passed.result
    c.as_slice.ensures c.as_slice-2.ensures c.as_slice-3.ensures c.as_slice-4.ensures c.limit_passed.ensures) ∙ c.in_default.is in
    let told = links_told m limit rows held few (c.what_passes_no_limit_is_whole.ensures.whole m) c.requires.least_limit c.requires.most_limit in
    let all : (components_of g.E.Engine tree).by_id ≡ components_told m rows = ap (λ (x : Components). x.by_id) c.in-Ok.ensures.built in
    subst (λ (n : Meaning). AreLinked n (components_of g.E.Engine tree).by_id c.as_slice-5.result.now) (sym c.in-Ok.ensures.same.meaning)
    (subst (λ (all : ById). AreLinked m all c.as_slice-5.result.now) (sym all) (subst (AreLinked m (components_told m rows)) (sym c.as_slice-5.ensures) told))

pub returns-in-Ok-build-clause-whole : goal.returns-in-Ok-build-clause-whole
returns-in-Ok-build-clause-whole g c =
    let m = g.E.Engine.meaning c.args.engine in
    let limit = g.E.Engine.limit c.args.engine in
    let rows = c.args.rows.now in
    let held = c.requires.held in
    let few : limit_told m limit rows ≡ None =
    sym (limit_same m limit rows held c.as_slice.result.now c.as_slice-2.result.now c.as_slice-3.result.now c.as_slice-4.result.now c.limit_passed.result
    c.as_slice.ensures c.as_slice-2.ensures c.as_slice-3.ensures c.as_slice-4.ensures c.limit_passed.ensures) ∙ c.in_default.is in
    let components : components_of g.E.Engine c.in-Ok-build.app.tree ≡ tree_with m.initial_statics limit (components_told m rows) =
    ap (components_of g.E.Engine) c.in-Ok-build.ensures.tree ∙ c.in-Ok.ensures.built ∙ ap (λ statics. tree_with statics limit (components_told m rows)) c.requires.statics in
    let links : c.in-Ok-build.app.links ≡ rows.file.links = c.in-Ok-build.ensures.links ∙ c.as_slice-5.ensures in
    let same : application_of g.E.Engine c.in-Ok-build.app ≡ application_told m limit rows = λ i. record { components = components i; links = links i } in
    subst (λ (a : Application). Whole m a) (sym same) (whole_told m limit rows held few (c.what_passes_no_limit_is_whole.ensures.whole m) c.requires.least_limit c.requires.most_limit)
