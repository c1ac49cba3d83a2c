use Rattle.std.proofs.Common.{◌≡◌, ◌+◌, map, [], ◌∷◌, ◌++◌, sym, ap, ◌∙◌, arith}
use Rattle.std.specs.List.{range_with_len}
use Rattle.std.proofs.lemmas.List.FromFn.{map-range_with_len_more}
use Rattle.sed_outline.specs.Rounds.{inline_in}
use Rattle.sed_outline.proofs.holding.inline_row.Goals as goal

pub loop-class-preserved : goal.loop-class-preserved
loop-class-preserved c =
    let at : 0 + c.loop-class.class ≡ c.loop-class.class = omega arith in
    c.in_ok-push.ensures.items
    ∙ ap (λ xs. xs ++ c.new.result ∷ []) c.loop-class.invariant
    ∙ ap (λ b. map (inline_in c.args.based.now) (range_with_len 0 c.loop-class.class)
    ++ b ∷ []) (c.new.ensures ∙ c.in_ok-inside.ensures)
    ∙ sym (map-range_with_len_more (inline_in c.args.based.now) 0 c.loop-class.class c.loop-class.class at)
