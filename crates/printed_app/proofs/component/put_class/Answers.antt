use Rattle.std.proofs.Common.{ℕ, List, [], ◌++◌, Option, codes, ap, sym, ◌∙◌}
use Rattle.std.specs.Prelude.{option_copied, slice_get}
use Rattle.std.specs.Option.{option_map_or}
use Rattle.sed_typed.specs.declared.schema.ClassInfo.{ClassInfo}
use Rattle.sed_typed.specs.declared.schema.Schema.{Schema}
use Rattle.printed_app.proofs.Sequence.{nothing, text_is}
use Rattle.printed_app.specs.Application.{kit_name}
use Rattle.printed_app.proofs.component.put_class.Goals as goal

pub returns-in-None : goal.returns-in-None
returns-in-None g c =
    let name : ClassInfo → List ℕ = λ k.
    kit_name (g.E.Engine.meaning c.args.tree.now.engine) k.kit ++ (codes "::" ++ k.name) in
    let none = ap (λ (s : Schema). slice_get s.classes c.args.kind.0) (sym c.schema.ensures.same) ∙ sym c.class.ensures ∙ ap option_copied c.in-None.is in
    text_is (sym (ap (λ (o : Option ClassInfo). option_map_or name o []) none)) (nothing _ _)
