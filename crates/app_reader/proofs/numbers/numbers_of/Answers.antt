use Rattle.std.proofs.Common.{◌∙◌, ◌++◌, List, ℕ, sym, ap}
use Rattle.app_reader.specs.Numbers.{number_if_config}
use Rattle.app_reader.proofs.Numbering.{number_next}
use Rattle.app_reader.proofs.numbers.numbers_of.Goals as goal

pub loop-place-preserved : goal.loop-place-preserved
loop-place-preserved c =
    c.in_ok-add_number.ensures ∙ ap (λ (xs : List ℕ). xs ++ number_if_config c.args.slots.now c.loop-place.place) c.loop-place.invariant
    ∙ sym (number_next c.loop-place.place c.args.slots.now c.loop-place-test.true)
