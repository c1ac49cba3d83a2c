use Rattle.std.proofs.Common.{◌≡◌, ◌∙◌, ℕ, Bool, List, true, false, map, refl, sym, subst, arith}
use Rattle.std.specs.List.{IsDistinct}
use Rattle.std.specs.Str.{bytes_eq}
use Rattle.std.proofs.lemmas.Option.{slice_get_read, slice_get_within}
use Rattle.app_reader.specs.Checks.{name_at}
use Rattle.app_reader.proofs.EachRow.{below_next}
use Rattle.app_reader.proofs.names.siblings_differ.Goals as goal

pub returns-then-not-apart : goal.returns-then-not-apart
returns-then-not-apart c =
    let at = slice_get_read c.args.lists.now _ c.loop-place.place c.index-lists-place.result refl c.loop-place-test.true c.index-lists-place.is in (
      λ never. absurd (let no : false ≡ true = never in cc),
      λ differ. absurd
          (let yes : c.in_ok-apart.apart ≡ true = c.in_ok-apart.ensures.1 (subst (λ (list : List ℕ). IsDistinct bytes_eq (map (name_at c.args.rows.now) list)) (sym c.as_slice.ensures) (differ c.loop-place.place c.index-lists-place.result at)) in
          let no : ◌≡◌ {A = Bool} true false = sym yes ∙ c.if-not-apart.true in cc),
    )

pub loop-place-preserved : goal.loop-place-preserved
loop-place-preserved c =
    let at = slice_get_read c.args.lists.now _ c.loop-place.place c.index-lists-place.result refl c.loop-place-test.true c.index-lists-place.is in
    below_next (λ (k : ℕ) (list : List ℕ). IsDistinct bytes_eq (map (name_at c.args.rows.now) list)) c.args.lists.now c.loop-place.place c.index-lists-place.result at
    (subst (λ (list : List ℕ). IsDistinct bytes_eq (map (name_at c.args.rows.now) list)) c.as_slice.ensures (c.in_ok-apart.ensures.0 c.if-not-apart.false)) c.loop-place.invariant

pub returns : goal.returns
returns c =
    let over = c.loop-place-test.false in
    (λ _ k list at. c.loop-place.invariant k list (let lt = slice_get_within c.args.lists.now k list at in omega (arith, lt, over)) at, λ _. refl)
