use Rattle.std.proofs.Common.{ap, ◌∙◌, ℤ, arith}
use Rattle.std.specs.Int.{w64, cast_unsigned, cast_signed}
use Rattle.std.proofs.lemmas.Int.{of_z-to_z}
use Rattle.sed_lexer.specs.declared.numbers.Number.TheVariants.{Long}
use Rattle.sed_lexer.proofs.ValueLemmas.{wrap_small}
use Rattle.sed_lexer.proofs.numbers.long_of.Goals as goal

pub returns : goal.returns
returns c =
    ap Long (ap (λ (z : ℤ). cast_signed w64 (cast_unsigned w64 z)) c.cast_signed.ensures
    ∙ ap (cast_signed w64) (of_z-to_z w64 c.args.n (omega arith)) ∙ wrap_small w64 c.args.n (omega arith))
