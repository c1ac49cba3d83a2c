use Rattle.std.proofs.Common.{◌∷◌, [], ap}
use Rattle.comp_tree.specs.Held.{components_of}
use Rattle.comp_tree.specs.Edits.{first_of}
use Rattle.comp_tree.proofs.EditLemmas.{write_allowed, write_may, write_refused, write_takes, write_unread}
use Rattle.comp_tree.proofs.MatchLemmas.{match_more}
use Rattle.comp_tree.proofs.tree.Tree.value_to_write.Goals as goal

pub returns-in-Err-clause-refused : goal.returns-in-Err-clause-refused
returns-in-Err-clause-refused g c =
    write_unread (g.E.Engine.meaning c.args.self.now.engine) (components_of g.E.Engine c.args.self.now).by_id c.args.id.0 c.args.slot c.args.bytes.now c.in-Err.refusal c.in-Err.ensures.refused

pub returns-clause-taken : goal.returns-clause-taken
returns-clause-taken g c =
    match_more c.one_value.result c.one_value.ensures.taken
    (λ v is. ap first_of (write_takes (g.E.Engine.meaning c.args.self.now.engine) (components_of g.E.Engine c.args.self.now).by_id c.args.id.0 c.args.slot c.args.bytes.now c.in-Ok.kind c.in-Ok.ensures.found (v ∷ []) is)) (λ e is. tt)

pub returns-clause-may : goal.returns-clause-may
returns-clause-may g c =
    match_more c.one_value.result c.one_value.ensures.goes
    (λ v goes. write_may (g.E.Engine.meaning c.args.self.now.engine) (components_of g.E.Engine c.args.self.now).by_id c.args.id.0 c.args.slot c.args.bytes.now c.in-Ok.kind v _ c.in-Ok.ensures.found goes) (λ e is. tt)

pub returns-clause-refused : goal.returns-clause-refused
returns-clause-refused g c =
    match_more c.one_value.result c.one_value.ensures.taken
    (λ v is. write_allowed (g.E.Engine.meaning c.args.self.now.engine) (components_of g.E.Engine c.args.self.now).by_id c.args.id.0 c.args.slot c.args.bytes.now c.in-Ok.kind c.in-Ok.ensures.found (v ∷ []) c.in-Ok.ensures.refused is)
    (λ e is. write_refused (g.E.Engine.meaning c.args.self.now.engine) (components_of g.E.Engine c.args.self.now).by_id c.args.id.0 c.args.slot c.args.bytes.now c.in-Ok.kind c.in-Ok.ensures.found e c.in-Ok.ensures.refused is)
