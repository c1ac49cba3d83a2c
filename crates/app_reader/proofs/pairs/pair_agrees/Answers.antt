use Rattle.std.proofs.Common.{◌≡◌, ◌∙◌, Bool, true, false, refl, sym, ap}
use Rattle.node_table.specs.Same.{is_same_value}
use Rattle.app_reader.proofs.Comparing.{same_value, value_itself}
use Rattle.app_reader.proofs.pairs.pair_agrees.Goals as goal

pub returns-then-same_field : goal.returns-then-same_field
returns-then-same_field g c = (
  λ yes field. same_value c.args.v.now c.args.w.now (sym c.are_same.ensures ∙ yes),
  λ agrees. c.are_same.ensures ∙ ap (is_same_value c.args.v.now) (sym (agrees (sym c.same_field.ensures ∙ c.if-same_field.true))) ∙ value_itself c.args.v.now,
)

pub returns : goal.returns
returns g c = (
  λ yes field. absurd (let no : ◌≡◌ {A = Bool} true false = sym field ∙ sym c.same_field.ensures ∙ c.if-same_field.false in cc),
  λ agrees. refl,
)
