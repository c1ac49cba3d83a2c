use Rattle.std.proofs.Common.{arith, sym}
use Rattle.comp_tree.specs.Held.{components_of}
use Rattle.printed_app.proofs.Sequence.{text_is, then_put}
use Rattle.printed_app.proofs.Paths.{step}
use Rattle.printed_app.proofs.path.put_step.Goals as goal

pub returns : goal.returns
returns g c =
    let below = c.if-id-eq0.false in
    text_is (sym (step (components_of g.E.Engine c.args.tree.now).by_id c.args.id.0 (omega (arith, below))))
    (then_put c.in_ok-put_bytes.ensures c.put_name.ensures)
