use Rattle.std.proofs.Common.{◌≡◌, ◌∙◌, ℕ, Bool, true, false, refl, sym}
use Rattle.std.proofs.lemmas.Option.{slice_get_read}
use Rattle.app_front.specs.declared.rows.FileRow.{FileRow}
use Rattle.app_reader.proofs.EachRow.{IsKind, are_kinds, below_next, kind_there, not_kinds}
use Rattle.app_reader.proofs.kinds.are_kinds.Goals as goal

pub returns-then-not-is_kind : goal.returns-then-not-is_kind
returns-then-not-is_kind c =
    λ m same.
    let at = slice_get_read c.args.rows.now _ c.loop-place.place c.index-rows-place.result refl c.loop-place-test.true c.index-rows-place.is in
    let both = kind_there m c.loop-place.place c.index-rows-place.result c.is_kind.result (λ first. c.is_kind.ensures.app first m same) (λ more. c.is_kind.ensures.other more m same) in (
      λ never. absurd (let no : false ≡ true = never in cc),
      λ kinds. absurd
          (not_kinds m c.args.rows.now c.loop-place.place c.index-rows-place.result at
          (λ kind. let yes : c.is_kind.result ≡ true = both.1 kind in
          let no : ◌≡◌ {A = Bool} true false = sym yes ∙ c.if-not-is_kind.true in absurd (cc))
          kinds),
    )

pub loop-place-preserved : goal.loop-place-preserved
loop-place-preserved c =
    λ m same.
    let at = slice_get_read c.args.rows.now _ c.loop-place.place c.index-rows-place.result refl c.loop-place-test.true c.index-rows-place.is in
    let both = kind_there m c.loop-place.place c.index-rows-place.result c.is_kind.result (λ first. c.is_kind.ensures.app first m same) (λ more. c.is_kind.ensures.other more m same) in
    below_next (λ (k : ℕ) (r : FileRow). IsKind m k r) c.args.rows.now c.loop-place.place c.index-rows-place.result at (both.0 c.if-not-is_kind.false) (c.loop-place.invariant m same)

pub returns : goal.returns
returns c = λ m same. (λ _. are_kinds m c.args.rows.now c.loop-place.place c.loop-place-test.false (c.loop-place.invariant m same), λ _. refl)
