use Rattle.std.proofs.Common.{◌≡◌, length, subst, arith}
use Rattle.comp_tree.specs.Held.{Held, components_of}
use Rattle.link_prop.specs.Linked.{application_of}
use Rattle.app_writer.specs.Written.{tree_text}
use Rattle.app_writer.proofs.Lengths.{text-length}
use Rattle.app_writer.proofs.measure.text_length.Goals as goal

pub returns : goal.returns
returns g c =
    let m = g.E.Engine.meaning c.args.app.now.tree.engine in
    let whole = text-length m (application_of g.E.Engine c.args.app.now) in
    let tree = subst (λ (h : Held _). c.tree_length.result ≡ length (tree_text (g.E.Engine.meaning h.engine) (components_of g.E.Engine h).by_id)) c.tree.ensures c.tree_length.ensures.length in
    let links = c.links.ensures.count in
    omega (arith, whole, tree, links)
