use Rattle.std.proofs.Common.{sym, subst}
use Rattle.std.specs.Prelude.{IfSome, IsTrue}
use Rattle.sed_value.specs.Value.{is_of_type}
use Rattle.comp_tree.specs.Application.{type_at}
use Rattle.comp_tree.specs.Held.{Held, IsPropertyOf, by_id_of}
use Rattle.comp_tree.proofs.FitLemmas.{read_is_of_type}
use Rattle.comp_tree.proofs.tree.Tree.get.Goals as goal

pub returns-in-Ok-clause-of_type : goal.returns-in-Ok-clause-of_type
returns-in-Ok-clause-of_type g c =
    let i = c.self.inside in
    let found = subst (λ (h : Held _). IsPropertyOf g.E.Engine h c.args.id.0 c.args.slot c.in-Ok.place.0) (sym c.self.view_is) c.in-Ok.ensures in
    subst (λ (h : Held _). IfSome (type_at (g.E.Engine.meaning h.engine) (by_id_of (g.E.Engine.live h.engine) h.nodes) c.args.id.0 c.args.slot) (λ t. IsTrue (is_of_type t c.get.new.out))) c.self.view_is
    (read_is_of_type (g.E.Engine.meaning i.engine) (by_id_of (g.E.Engine.live i.engine) i.nodes) (g.E.Engine.live i.engine) c.args.id.0 c.args.slot c.in-Ok.place.0 c.get.new.out
    c.schema-whole.ensures.whole.tables c.schema-whole.ensures.objects found.component c.get.ensures)
