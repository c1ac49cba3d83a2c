use Rattle.std.proofs.Common.{◌<◌, ◌-◌, [], ◌∷◌, ◌++◌, sym, ap, ◌∙◌, arith}
use Rattle.std.proofs.lemmas.List.{append_assoc}
use Rattle.sed_classes.specs.Bases.{base_of}
use Rattle.sed_classes.specs.Ends.{gone_through}
use Rattle.sed_classes.proofs.Ends.{through_more}
use Rattle.sed_classes.proofs.bases.Based.straight_lineage.Goals as goal

pub climb-preserved : goal.climb-preserved
climb-preserved c =
    let some : 0 < c.climb.left = omega arith in
    let next = base_of c.args.self.now in
    ap (λ row. row ++ gone_through next (c.climb.left - 1) c.base_of-next-in-climb.result) c.in_ok-push-2.ensures.items
    ∙ ap (λ at. c.climb.far.items ++ c.in-Some.at ∷ [] ++ gone_through next (c.climb.left - 1) at)
    c.base_of-next-in-climb.ensures
    ∙ append_assoc c.climb.far.items (c.in-Some.at ∷ []) (gone_through next (c.climb.left - 1) (next c.in-Some.at))
    ∙ ap (λ row. c.climb.far.items ++ row) (sym (through_more next c.climb.left c.in-Some.at some))
    ∙ ap (λ at. c.climb.far.items ++ gone_through next c.climb.left at) (sym c.in-Some.is)
    ∙ c.climb.invariant
