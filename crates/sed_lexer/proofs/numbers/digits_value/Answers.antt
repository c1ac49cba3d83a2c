use Rattle.std.proofs.Common.{subst, ◌≡◌, ◌<◌, ◌^◌, ℕ}
use Rattle.sed_lexer.specs.Values as values
use Rattle.sed_lexer.proofs.ValueLemmas.{digits_end, digits_stop}
use Rattle.sed_lexer.proofs.numbers.digits_value.Goals as goal

pub returns-in-None : goal.returns-in-None
returns-in-None c =
    digits_stop c.args.base c.args.digits.now c.loop-b.b-index c.loop-b.number c.requires c.loop-b.invariant.so_far c.loop-b-test.true c.if-b-ne95.true c.in-None.ensures

pub returns : goal.returns
returns c =
    let whole : c.loop-b.number ≡ values.digits_value c.args.base c.args.digits.now =
    digits_end c.args.base c.args.digits.now c.loop-b.b-index c.loop-b.number c.loop-b.invariant.so_far c.loop-b-test.false in
    (subst (λ (n : ℕ). n < 2 ^ 64) whole c.loop-b.invariant.fits, whole)
