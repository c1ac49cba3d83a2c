use Rattle.std.proofs.Common.{ap, ◌∙◌, ℤ}
use Rattle.std.specs.Int.{w32, cast_unsigned, cast_signed}
use Rattle.std.proofs.lemmas.Int.{of_z-to_z}
use Rattle.sed_lexer.specs.declared.numbers.Number.TheVariants.{Int}
use Rattle.sed_lexer.proofs.ValueLemmas.{wrap_small}
use Rattle.sed_lexer.proofs.numbers.int_of.Goals as goal

pub returns : goal.returns
returns c =
    ap Int (ap (λ (z : ℤ). cast_signed w32 (cast_unsigned w32 z)) c.cast_signed.ensures
    ∙ ap (cast_signed w32) (of_z-to_z w32 c.args.n c.requires) ∙ wrap_small w32 c.args.n c.requires)
