use Rattle.std.proofs.Common.{◌≡◌, ◌≤◌, length, subst, sym, refl, arith}
use Rattle.sed_wire.specs.Writing.{Appends, room}
use Rattle.sed_wire.proofs.WritingLemmas.{appends-then}
use Rattle.comp_tree.specs.Held.{Held, components_of}
use Rattle.comp_tree.specs.Parts.{no_id, u2}
use Rattle.link_prop.specs.Linked.{application_of}
use Rattle.app_writer.specs.Written.{links_text, tree_text}
use Rattle.app_writer.proofs.Lengths.{links-length, room-left, text-length, text-parts}
use Rattle.app_writer.proofs.writing.put_file.Goals as goal

pub put_tree-requires : goal.put_tree-requires
put_tree-requires g c =
    let whole = text-length (g.E.Engine.meaning c.args.app.now.tree.engine) (application_of g.E.Engine c.args.app.now) in
    let fits = c.requires in
    let fitting : length (tree_text (g.E.Engine.meaning c.args.app.now.tree.engine) (components_of g.E.Engine c.args.app.now.tree).by_id) ≤ room c.args.writer.now = omega (arith, whole, fits) in
    subst (λ (h : Held _). length (tree_text (g.E.Engine.meaning h.engine) (components_of g.E.Engine h).by_id) ≤ room c.args.writer.now) (sym c.tree.ensures) fitting

pub put_links-requires : goal.put_links-requires
put_links-requires g c =
    let m = g.E.Engine.meaning c.args.app.now.tree.engine in
    let a = application_of g.E.Engine c.args.app.now in
    let whole = text-length m a in
    let fits = c.requires in
    let tree = room-left _ _ (tree_text m a.components.by_id) (subst (λ (h : Held _). Appends c.args.writer.now c.put_tree.new.writer (tree_text (g.E.Engine.meaning h.engine) (components_of g.E.Engine h).by_id)) c.tree.ensures c.put_tree.ensures) (omega (arith, whole, fits)) in
    omega (arith, whole, fits, tree)

pub put_u2-requires : goal.put_u2-requires
put_u2-requires g c =
    let m = g.E.Engine.meaning c.args.app.now.tree.engine in
    let a = application_of g.E.Engine c.args.app.now in
    let whole = text-length m a in
    let fits = c.requires in
    let tree = room-left _ _ (tree_text m a.components.by_id) (subst (λ (h : Held _). Appends c.args.writer.now c.put_tree.new.writer (tree_text (g.E.Engine.meaning h.engine) (components_of g.E.Engine h).by_id)) c.tree.ensures c.put_tree.ensures) (omega (arith, whole, fits)) in
    let many = links-length a.links in
    let links = room-left _ _ (links_text a.links) c.put_links.ensures (omega (arith, whole, fits, tree, many)) in
    omega (arith, whole, fits, tree, many, links)

pub put_u1-requires : goal.put_u1-requires
put_u1-requires g c =
    let m = g.E.Engine.meaning c.args.app.now.tree.engine in
    let a = application_of g.E.Engine c.args.app.now in
    let whole = text-length m a in
    let fits = c.requires in
    let tree = room-left _ _ (tree_text m a.components.by_id) (subst (λ (h : Held _). Appends c.args.writer.now c.put_tree.new.writer (tree_text (g.E.Engine.meaning h.engine) (components_of g.E.Engine h).by_id)) c.tree.ensures c.put_tree.ensures) (omega (arith, whole, fits)) in
    let many = links-length a.links in
    let links = room-left _ _ (links_text a.links) c.put_links.ensures (omega (arith, whole, fits, tree, many)) in
    let two : length (u2 no_id) ≡ 2 = refl in
    let none = room-left _ _ (u2 no_id) c.put_u2.ensures.bytes (omega (arith, whole, fits, tree, many, links, two)) in
    omega (arith, whole, fits, tree, many, links, two, none)

pub returns : goal.returns
returns g c =
    let m = g.E.Engine.meaning c.args.app.now.tree.engine in
    subst (Appends c.args.writer.now c.put_u1.new.self) (text-parts m (application_of g.E.Engine c.args.app.now))
    (appends-then _ _ _ _ _ (appends-then _ _ _ _ _ (appends-then _ _ _ _ _ (subst (λ (h : Held _). Appends c.args.writer.now c.put_tree.new.writer (tree_text (g.E.Engine.meaning h.engine) (components_of g.E.Engine h).by_id)) c.tree.ensures c.put_tree.ensures) c.put_links.ensures) c.put_u2.ensures.bytes) c.put_u1.ensures.bytes)
