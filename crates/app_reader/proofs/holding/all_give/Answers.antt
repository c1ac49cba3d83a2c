use Rattle.std.proofs.Common.{◌≡◌, ◌∙◌, ℕ, Bool, true, false, refl, sym}
use Rattle.std.proofs.lemmas.Option.{slice_get_read}
use Rattle.app_front.specs.Rows.{IsToldRow}
use Rattle.app_front.specs.declared.rows.FileRow.{FileRow}
use Rattle.app_reader.specs.FormedFile.{GivesItsValues}
use Rattle.app_reader.proofs.EachRow.{below_next}
use Rattle.app_reader.proofs.Linking.{all_before, at_each}
use Rattle.app_reader.proofs.holding.all_give.Goals as goal

pub gives_its_values-requires : goal.gives_its_values-requires
gives_its_values-requires g c =
    at_each (IsToldRow (g.E.Engine.meaning c.args.engine.now)) c.args.rows.now c.loop-place.place c.index-rows-place.result c.requires
    (slice_get_read c.args.rows.now _ c.loop-place.place c.index-rows-place.result refl c.loop-place-test.true c.index-rows-place.is)

pub returns : goal.returns
returns g c =
    (λ _. all_before (GivesItsValues (g.E.Engine.meaning c.args.engine.now)) c.args.rows.now c.loop-place.place c.loop-place-test.false c.loop-place.invariant, λ _. refl)

pub returns-then-not-gives : goal.returns-then-not-gives
returns-then-not-gives g c = (
  λ never. absurd (let no : false ≡ true = never in cc),
  λ all. absurd
      (let at = slice_get_read c.args.rows.now _ c.loop-place.place c.index-rows-place.result refl c.loop-place-test.true c.index-rows-place.is in
      let yes : c.in_ok-gives.gives ≡ true = c.in_ok-gives.ensures.1 (at_each (GivesItsValues (g.E.Engine.meaning c.args.engine.now)) c.args.rows.now c.loop-place.place c.index-rows-place.result all at) in
      let no : ◌≡◌ {A = Bool} true false = sym yes ∙ c.if-not-gives.true in cc),
)

pub loop-place-preserved : goal.loop-place-preserved
loop-place-preserved g c =
    let at = slice_get_read c.args.rows.now _ c.loop-place.place c.index-rows-place.result refl c.loop-place-test.true c.index-rows-place.is in
    below_next (λ (k : ℕ) (r : FileRow). GivesItsValues (g.E.Engine.meaning c.args.engine.now) r) c.args.rows.now c.loop-place.place c.index-rows-place.result at
    (c.in_ok-gives.ensures.0 c.if-not-gives.false) c.loop-place.invariant
