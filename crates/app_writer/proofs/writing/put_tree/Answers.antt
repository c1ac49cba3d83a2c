use Rattle.std.proofs.Common.{arith}
use Rattle.sed_wire.proofs.WritingLemmas.{appends-then}
use Rattle.comp_tree.specs.Held.{components_of}
use Rattle.app_file.specs.Text.{front_text, version}
use Rattle.app_writer.proofs.Lengths.{components-length, room-left, tree-length}
use Rattle.app_writer.proofs.writing.put_tree.Goals as goal

pub put_front-requires-clause-room : goal.put_front-requires-clause-room
put_front-requires-clause-room g c =
    let m = g.E.Engine.meaning c.args.tree.now.engine in
    let whole = tree-length m (components_of g.E.Engine c.args.tree.now).by_id in
    let fits = c.requires in
    rw c.schema.ensures.same (omega (arith, whole, fits))

pub put_components-requires : goal.put_components-requires
put_components-requires g c =
    let m = g.E.Engine.meaning c.args.tree.now.engine in
    let all = (components_of g.E.Engine c.args.tree.now).by_id in
    let whole = tree-length m all in
    let components = components-length m all in
    let fits = c.requires in
    let front = room-left _ _ (front_text version m.schema.kits) (rw c.schema.ensures.same at c.put_front.ensures) (omega (arith, whole, fits)) in
    omega (arith, whole, components, fits, front)

pub returns : goal.returns
returns g c = appends-then _ _ _ _ _ (rw c.schema.ensures.same at c.put_front.ensures) c.put_components.ensures
