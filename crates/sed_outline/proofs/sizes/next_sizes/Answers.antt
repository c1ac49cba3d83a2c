use Rattle.std.proofs.Common.{◌≡◌, ◌+◌, ℕ, if◌then◌else◌, map, [], ◌∷◌, ◌++◌, sym, ap, ◌∙◌, arith}
use Rattle.std.specs.List.{range_with_len, sum_by}
use Rattle.std.proofs.lemmas.List.FromFn.{map-range_with_len_more}
use Rattle.sed_classes.specs.Bases.{lineage}
use Rattle.sed_classes.specs.Objects.{holds_itself, own_size}
use Rattle.sed_outline.specs.Rounds.{capped, item, row_of}
use Rattle.sed_outline.proofs.Measures.{class_sized}
use Rattle.sed_outline.proofs.sizes.next_sizes.Goals as goal

pub loop-class-preserved : goal.loop-class-preserved
loop-class-preserved c =
    let units = c.args.based.now in
    let sizes = c.args.sizes.now in
    let class = c.loop-class.class in
    let at : 0 + class ≡ class = omega arith in
    let size : ℕ → ℕ = λ k. if holds_itself units k then 0
    else capped (sum_by (own_size units (item 0 sizes)) (lineage units k)) in
    c.in_ok-push.ensures.items
    ∙ ap (λ xs. xs ++ c.in_ok-size.size ∷ []) c.loop-class.invariant
    ∙ ap
    (λ b. map size (range_with_len 0 class) ++ b ∷ [])
    (class_sized
    units
    sizes
    c.as_slice.result.now
    c.args.holding.now
    class
    c.in_ok-size.size
    (c.as_slice.ensures.value
    ∙ c.in_ok-own.ensures
    ∙ ap (λ u. row_of u (λ k. capped (own_size u (item 0 sizes) k))) c.classes.ensures)
    c.requires
    c.in_ok-size.ensures)
    ∙ sym (map-range_with_len_more size 0 class class at)
