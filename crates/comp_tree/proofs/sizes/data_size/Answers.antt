use Rattle.std.proofs.Common.{Some, None, ap, ◌∙◌}
use Rattle.std.specs.Prelude.{slice_get}
use Rattle.sed_typed.specs.declared.schema.Schema.{Schema}
use Rattle.comp_tree.proofs.SizeLemmas.{size_is}
use Rattle.comp_tree.proofs.sizes.data_size.Goals as goal

pub returns-in-Some : goal.returns-in-Some
returns-in-Some g c =
    size_is (g.E.Engine.meaning c.args.engine.now) c.schema.ensures.whole.tables c.args.kind.0 (Some c.in-Some.class.now)
    (c.in-Some.ensures ∙ ap (λ (s : Schema). slice_get s.classes c.args.kind.0) c.schema.ensures.same)

pub returns-in-None : goal.returns-in-None
returns-in-None g c =
    size_is (g.E.Engine.meaning c.args.engine.now) c.schema.ensures.whole.tables c.args.kind.0 None
    (c.in-None.ensures ∙ ap (λ (s : Schema). slice_get s.classes c.args.kind.0) c.schema.ensures.same)
