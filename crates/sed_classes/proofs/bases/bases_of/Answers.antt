use Rattle.std.proofs.Common.{◌≡◌, ◌+◌, map, [], ◌∷◌, ◌++◌, sym, ap, ◌∙◌, arith}
use Rattle.std.specs.List.{range_with_len}
use Rattle.std.proofs.lemmas.List.FromFn.{map-range_with_len_more}
use Rattle.sed_classes.specs.Bases.{base_of}
use Rattle.sed_classes.proofs.bases.bases_of.Goals as goal

pub loop-class-preserved : goal.loop-class-preserved
loop-class-preserved c =
    let at : 0 + c.loop-class.class ≡ c.loop-class.class = omega arith in
    c.in_ok-push.ensures.items
    ∙ ap (λ xs. xs ++ c.base_of.result ∷ []) c.loop-class.invariant
    ∙ ap (λ b. map (base_of c.args.classes.now) (range_with_len 0 c.loop-class.class) ++ b ∷ []) c.base_of.ensures
    ∙ sym (map-range_with_len_more (base_of c.args.classes.now) 0 c.loop-class.class c.loop-class.class at)
