use Rattle.std.specs.Prelude.{IsTrue}
use Rattle.std.specs.FinMap as map
use Rattle.comp_tree.specs.Held.{by_id_of}
use Rattle.sed_engine.specs.declared.call.Root.TheVariants.{Execute}
use Rattle.sed_engine.specs.Code.{may_call}
use Rattle.comp_tree.proofs.RunLemmas.{any_may, execute_may}
use Rattle.comp_tree.proofs.tree.Tree.execute.Goals as goal

pub call-requires : goal.call-requires
call-requires g c =
    let h = c.args.self.now in
    any_may (map.get (by_id_of (g.E.Engine.live h.engine) h.nodes) c.args.id.0) (λ k. IsTrue (may_call (g.E.Engine.meaning h.engine) k.class Execute c.new.result)) c.requires.live
    (λ k. execute_may (g.E.Engine.meaning h.engine) k.class c.new.result c.new.ensures)
