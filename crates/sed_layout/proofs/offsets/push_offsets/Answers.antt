use Rattle.std.proofs.Common.{◌≡◌, ◌∙◌, ◌+◌, ℕ, [], ◌∷◌, ◌++◌, take, ap, sym, arith}
use Rattle.std.specs.List.{sum_by}
use Rattle.std.proofs.lemmas.List.Sums.{sum_by_more}
use Rattle.sed_typed.specs.declared.program.Field.{Field}
use Rattle.sed_layout.specs.Offsets.{field_width, width_before}
use Rattle.sed_layout.proofs.OffsetLists.{one_more}
use Rattle.sed_layout.proofs.offsets.push_offsets.Goals as goal

pub loop-field-preserved : goal.loop-field-preserved
loop-field-preserved c =
    let program = c.args.program.now in
    let own = c.args.own.now in
    let i = c.loop-field.field-index in
    let wide = field_width program in
    let more : sum_by wide (take (i + 1) own) ≡ sum_by wide (take i own) + wide c.field-item.result =
    sum_by_more wide own i c.field-item.result c.loop-field-test.true ∙ ap (λ (f : Field). sum_by wide (take i own) + wide f) (sym c.field-item.is) in
    let at : c.loop-field.at ≡ c.args.start + sum_by wide (take i own) = c.loop-field.invariant.0 in
    let this : c.width_of_form-at.result ≡ wide c.field-item.result = c.width_of_form-at.ensures in
    let f : ℕ → ℕ = λ number. c.args.start + width_before program own number in (
      omega (arith, more, at, this),
      one_more c.args.offsets.now.items c.loop-field.offsets.items c.push.new.self.items f i c.loop-field.invariant.1
          (c.in_ok-push.ensures.items ∙ ap (λ (n : ℕ). c.loop-field.offsets.items ++ n ∷ []) at),
    )
