-- A number in two bytes, as a writer puts it.
use Rattle.std.proofs.Common.{◌≡◌, ℕ, ◌/◌, ◌%◌, ◌<◌, List, [], ◌∷◌, ◌∙◌, subst, ap, arith}
use Rattle.std.proofs.lemmas.Bool.Decides.{nat_tests}
use Rattle.sed_wire.specs.declared.writer.Writer.{Writer}
use Rattle.sed_wire.specs.Number.{SpellsNumber}
use Rattle.sed_wire.specs.Writing.{Appends, Writes}
use Rattle.sox_msg.specs.Command.{u2}

-- a number in two bytes is spelled one way
u2-is : (n : ℕ) (bytes : List ℕ) → SpellsNumber 2 n bytes → bytes ≡ u2 n
u2-is n [] spells = absurd (omega (arith, spells.as_many))
u2-is n (a ∷ []) spells = absurd (omega (arith, spells.as_many))
u2-is n (a ∷ b ∷ c ∷ rest) spells = absurd (omega (arith, spells.as_many))
u2-is n (a ∷ b ∷ []) spells =
    let are = spells.are_bytes in
    let low : b < 256 = grind (arith, nat_tests) in
    let is = spells.is_number in
    let high : a ≡ n / 256 = omega (arith, is, low) in
    let rest : b ≡ n % 256 = omega (arith, is, low) in
    ap (λ (x : ℕ). x ∷ b ∷ []) high ∙ ap (λ (y : ℕ). n / 256 ∷ y ∷ []) rest

pub u2-put : (n : ℕ) (a b : Writer) → Writes (SpellsNumber 2) n a b → Appends a b (u2 n)
u2-put n a b done = subst (Appends a b) (u2-is n done.spelling done.spelled) done.appends
