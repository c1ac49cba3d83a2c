use Rattle.std.proofs.Common.{◌≡◌, ◌+◌, map, [], ◌∷◌, ◌++◌, sym, ap, ◌∙◌, arith}
use Rattle.std.specs.List.{range_with_len}
use Rattle.std.proofs.lemmas.List.FromFn.{map-range_with_len_more}
use Rattle.sed_classes.specs.Objects.{holds_itself}
use Rattle.sed_outline.proofs.holding.holding_classes.Goals as goal

pub loop-class-preserved : goal.loop-class-preserved
loop-class-preserved c =
    let class = c.loop-class.class in
    let at : 0 + class ≡ class = omega arith in
    c.in_ok-push.ensures.items
    ∙ ap (λ xs. xs ++ c.in_ok-holds.holds ∷ []) c.loop-class.invariant
    ∙ ap (λ b. map (holds_itself c.args.based.now) (range_with_len 0 class) ++ b ∷ []) c.in_ok-holds.ensures
    ∙ sym (map-range_with_len_more (holds_itself c.args.based.now) 0 class class at)
