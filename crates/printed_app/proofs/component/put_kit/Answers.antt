use Rattle.std.proofs.Common.{ℕ, List, [], Option, ap, sym, ◌∙◌}
use Rattle.std.specs.Option.{option_map_or}
use Rattle.sed_value.specs.declared.kit.KitRef.{KitRef}
use Rattle.sed_typed.specs.declared.schema.Schema.{Schema}
use Rattle.printed_app.proofs.Sequence.{nothing, text_is}
use Rattle.printed_app.proofs.Missing.{none_past}
use Rattle.printed_app.proofs.component.put_kit.Goals as goal

pub returns-in-None : goal.returns-in-None
returns-in-None g c =
    let name : KitRef → List ℕ = λ k. k.name in
    let none = none_past c.as_slice.result.now (g.E.Engine.meaning c.args.tree.now.engine).schema.kits c.from.result
    c.args.kit (c.as_slice.ensures ∙ ap (λ (s : Schema). s.kits) c.schema.ensures.same) c.from.ensures
    c.in-None.ensures.lookup.3 in
    text_is (sym (ap (λ (o : Option KitRef). option_map_or name o []) none)) (nothing _ _)
