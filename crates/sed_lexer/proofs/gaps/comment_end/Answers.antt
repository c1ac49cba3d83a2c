use Rattle.std.proofs.Common.{sym, ap, ◌∙◌, List, ℕ, nat_eq, codes}
use Rattle.std.specs.List.{starts_with}
use Rattle.sed_lexer.proofs.GapLemmas.{first_here}
use Rattle.sed_lexer.proofs.gaps.comment_end.Goals as goal

pub returns-then-starts_with : goal.returns-then-starts_with
returns-then-starts_with c = let a = c.starts_with.ensures.value in let b = c.rest_of.ensures in
    first_here (codes "*/") c.args.text.now c.loop-at.at c.loop-at.invariant.within c.loop-at.invariant.none_before
    (ap (λ (x : List ℕ). starts_with nat_eq x (codes "*/")) (sym c.rest_of.ensures) ∙ sym c.starts_with.ensures.value ∙ c.if-starts_with.true)
