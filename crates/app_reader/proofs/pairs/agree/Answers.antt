use Rattle.std.proofs.Common.{◌≡◌, ◌∙◌, ℕ, Bool, true, false, refl, sym, arith, below_more}
use Rattle.app_reader.specs.Pairs.{AgreesFrom}
use Rattle.app_reader.proofs.Comparing.{EachAgrees, all_agree, one_agrees}
use Rattle.app_reader.proofs.pairs.agree.Goals as goal

pub loop-first-init : goal.loop-first-init
unfolding EachAgrees
loop-first-init g c = λ i lt. absurd (omega (arith, lt))

pub returns-then-not-agrees_from : goal.returns-then-not-agrees_from
returns-then-not-agrees_from g c = (
  λ never. absurd (let no : false ≡ true = never in cc),
  λ agree. absurd
      (let yes : c.agrees_from.result ≡ true = c.agrees_from.ensures.1 (one_agrees (g.E.Engine.meaning c.args.engine.now) c.args.kind.0 c.args.numbers.now c.args.values.now c.loop-first.first agree) in
      let no : ◌≡◌ {A = Bool} true false = sym yes ∙ c.if-not-agrees_from.true in cc),
)

pub loop-first-preserved : goal.loop-first-preserved
unfolding EachAgrees
loop-first-preserved g c =
    below_more (λ (i : ℕ). AgreesFrom (g.E.Engine.meaning c.args.engine.now) c.args.kind.0 c.args.numbers.now c.args.values.now i) c.loop-first.first c.loop-first.invariant
    (c.agrees_from.ensures.0 c.if-not-agrees_from.false)

pub returns : goal.returns
returns g c =
    (λ _. all_agree (g.E.Engine.meaning c.args.engine.now) c.args.kind.0 c.args.numbers.now c.args.values.now c.loop-first.first c.loop-first-test.false c.loop-first.invariant, λ _. refl)
