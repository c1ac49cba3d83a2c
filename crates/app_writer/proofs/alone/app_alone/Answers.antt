use Rattle.std.proofs.Common.{◌∙◌, ap}
use Rattle.comp_tree.specs.Held.{components_of}
use Rattle.app_writer.proofs.FirstText.{first_text}
use Rattle.app_writer.proofs.alone.app_alone.Goals as goal

pub returns-clause-text : goal.returns-clause-text
returns-clause-text g c =
    let m = g.E.Engine.meaning c.args.engine in
    let app = c.in_ok-new.field-0 in
    first_text m (g.E.Engine.meaning app.tree.engine) (components_of g.E.Engine app.tree) app.links (g.E.Engine.statics c.args.engine) (g.E.Engine.limit c.args.engine)
    (ap (λ t. g.E.Engine.meaning t.engine) c.in_ok-new.ensures.tree ∙ c.in-Ok.ensures.same.meaning)
    (ap (components_of g.E.Engine) c.in_ok-new.ensures.tree ∙ c.in-Ok.ensures.made)
    c.in_ok-new.ensures.links
