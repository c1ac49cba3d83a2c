use Rattle.std.specs.Prelude.{IsTrue}
use Rattle.std.specs.FinMap as map
use Rattle.comp_tree.specs.Held.{by_id_of}
use Rattle.sed_engine.specs.declared.call.Root.TheVariants.{Callback}
use Rattle.sed_engine.specs.Code.{may_call}
use Rattle.comp_tree.proofs.RunLemmas.{any_may, callback_may}
use Rattle.std.proofs.Common.{◌<◌, arith}
use Rattle.comp_tree.proofs.tree.Tree.callback.Goals as goal

pub call-requires : goal.call-requires
call-requires g c =
    let h = c.args.self.now in
    let small : c.args.slot < 256 = omega (arith, c.ranges.slot.fits) in
    any_may (map.get (by_id_of (g.E.Engine.live h.engine) h.nodes) c.args.id.0) (λ k. IsTrue (may_call (g.E.Engine.meaning h.engine) k.class (Callback c.args.c) c.callback_argument-argument.result)) c.requires
    (λ k. callback_may (g.E.Engine.meaning h.engine) k.class c.args.c c.args.slot c.callback_argument-argument.result small c.callback_argument-argument.ensures)
