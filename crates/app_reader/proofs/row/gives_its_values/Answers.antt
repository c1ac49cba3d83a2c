use Rattle.std.proofs.Common.{◌∙◌, List, ℕ, length, sym, ap, subst}
use Rattle.sed_value.specs.declared.value.Value.{Value}
use Rattle.node_table.specs.Properties.{config_slots}
use Rattle.app_reader.specs.Pairs.{Agree, AreProperties}
use Rattle.app_reader.proofs.Storing.{agrees_where_given, config_are_properties, gives_where_agreed, sizes}
use Rattle.app_reader.proofs.row.gives_its_values.Goals as goal

pub agree-requires-clause-sizes : goal.agree-requires-clause-sizes
agree-requires-clause-sizes g c =
    let m = g.E.Engine.meaning c.args.engine.now in
    let numbers = c.deref.ensures.value ∙ c.in_ok-numbers.ensures m (sym c.schema.ensures.same) in
    ap (λ (xs : List ℕ). length xs) numbers ∙ sizes m c.args.row.now.kind.0 c.schema.ensures.whole.tables c.args.row.now.config c.requires.config
    ∙ ap (λ (xs : List Value). length xs) (sym c.as_slice.ensures)

pub agree-requires-clause-properties : goal.agree-requires-clause-properties
agree-requires-clause-properties g c =
    let m = g.E.Engine.meaning c.args.engine.now in
    let numbers = c.deref.ensures.value ∙ c.in_ok-numbers.ensures m (sym c.schema.ensures.same) in
    subst (AreProperties m c.args.row.now.kind.0) (sym numbers) (config_are_properties m c.args.row.now.kind.0)

pub returns : goal.returns
returns g c =
    let m = g.E.Engine.meaning c.args.engine.now in
    let class = c.args.row.now.kind.0 in
    let numbers = c.deref.ensures.value ∙ c.in_ok-numbers.ensures m (sym c.schema.ensures.same) in (
      λ yes. gives_where_agreed m class c.schema.ensures.whole.tables c.args.row.now.config c.requires.config
          (subst (λ (values : List Value). Agree m class (config_slots m class) values) c.as_slice.ensures (subst (λ (xs : List ℕ). Agree m class xs c.as_slice.result.now) numbers (c.agree.ensures.0 yes))),
      λ gives. c.agree.ensures.1
          (subst (λ (values : List Value). Agree m class c.deref.result.now values) (sym c.as_slice.ensures)
          (subst (λ (xs : List ℕ). Agree m class xs c.args.row.now.config) (sym numbers)
          (agrees_where_given m class c.schema.ensures.whole.tables c.args.row.now.config c.requires.config gives))),
    )
