use Rattle.std.proofs.Common.{◌≡◌, ◌∙◌, ◌<◌, Bool, true, false, length, refl, sym, arith}
use Rattle.std.proofs.lemmas.Option.{slice_get_read}
use Rattle.app_reader.proofs.Comparing.{agrees_all, agrees_more, agrees_none}
use Rattle.app_reader.proofs.pairs.agrees_from.Goals as goal

pub loop-other-init : goal.loop-other-init
loop-other-init g c = agrees_none (g.E.Engine.meaning c.args.engine.now) c.args.kind.0 c.args.numbers.now c.args.values.now c.args.first

pub pair_agrees-requires-clause-first : goal.pair_agrees-requires-clause-first
pair_agrees-requires-clause-first g c = c.requires.properties c.args.first c.number_at-one.result c.number_at-one.ensures

pub pair_agrees-requires-clause-other : goal.pair_agrees-requires-clause-other
pair_agrees-requires-clause-other g c = c.requires.properties c.loop-other.other c.number_at-two.result c.number_at-two.ensures

pub returns-then-not-pair_agrees : goal.returns-then-not-pair_agrees
returns-then-not-pair_agrees g c =
    let sizes = c.requires.sizes in
    let one = c.requires.within in
    let within : c.args.first < length c.args.values.now = omega (arith, sizes, one) in
    let two = c.loop-other-test.true in
    let other : c.loop-other.other < length c.args.values.now = omega (arith, sizes, two) in
    let v = slice_get_read c.args.values.now _ c.args.first c.index-values-first.result refl within c.index-values-first.is in
    let w = slice_get_read c.args.values.now _ c.loop-other.other c.index-values-other.result refl other c.index-values-other.is in (
      λ never. absurd (let no : false ≡ true = never in cc),
      λ agrees. absurd
          (let yes : c.pair_agrees.result ≡ true = c.pair_agrees.ensures.1 (λ field. agrees c.loop-other.other c.number_at-one.result c.number_at-two.result c.index-values-first.result c.index-values-other.result (omega arith)
          c.number_at-one.ensures c.number_at-two.ensures v w field) in
          let no : ◌≡◌ {A = Bool} true false = sym yes ∙ c.if-not-pair_agrees.true in cc),
    )

pub loop-other-preserved : goal.loop-other-preserved
loop-other-preserved g c =
    let sizes = c.requires.sizes in
    let one = c.requires.within in
    let within : c.args.first < length c.args.values.now = omega (arith, sizes, one) in
    let two = c.loop-other-test.true in
    let other : c.loop-other.other < length c.args.values.now = omega (arith, sizes, two) in
    let v = slice_get_read c.args.values.now _ c.args.first c.index-values-first.result refl within c.index-values-first.is in
    let w = slice_get_read c.args.values.now _ c.loop-other.other c.index-values-other.result refl other c.index-values-other.is in
    agrees_more (g.E.Engine.meaning c.args.engine.now) c.args.kind.0 c.args.numbers.now c.args.values.now c.args.first c.loop-other.other c.number_at-one.result c.number_at-two.result
    c.index-values-first.result c.index-values-other.result c.number_at-one.ensures c.number_at-two.ensures v w (c.pair_agrees.ensures.0 c.if-not-pair_agrees.false) c.loop-other.invariant

pub returns : goal.returns
returns g c =
    (λ _. agrees_all (g.E.Engine.meaning c.args.engine.now) c.args.kind.0 c.args.numbers.now c.args.values.now c.args.first c.loop-other.other c.loop-other-test.false c.loop-other.invariant, λ _. refl)
