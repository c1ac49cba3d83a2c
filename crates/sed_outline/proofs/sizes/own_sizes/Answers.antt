use Rattle.std.proofs.Common.{◌≡◌, ◌+◌, ℕ, map, [], ◌∷◌, ◌++◌, sym, ap, ◌∙◌, arith}
use Rattle.std.specs.List.{range_with_len}
use Rattle.std.proofs.lemmas.List.FromFn.{map-range_with_len_more}
use Rattle.sed_classes.specs.Objects.{own_size}
use Rattle.sed_outline.specs.Rounds.{capped, item}
use Rattle.sed_outline.proofs.sizes.own_sizes.Goals as goal

pub loop-class-preserved : goal.loop-class-preserved
loop-class-preserved c =
    let class = c.loop-class.class in
    let at : 0 + class ≡ class = omega arith in
    let own : ℕ → ℕ = λ k. capped (own_size c.args.classes.now (item 0 c.args.sizes.now) k) in
    c.in_ok-push.ensures.items
    ∙ ap (λ xs. xs ++ c.own_size.result ∷ []) c.loop-class.invariant
    ∙ ap (λ b. map own (range_with_len 0 class) ++ b ∷ []) c.own_size.ensures
    ∙ sym (map-range_with_len_more own 0 class class at)
