-- What literals come to.
use Rattle.std.specs.Prelude.{ℕ, pos, List, Option, Some, None}
use Rattle.sed_lexer.specs.declared.numbers.Number.{Number}
use Rattle.sed_lexer.specs.declared.numbers.Number.TheVariants.{Int, Long}
use Rattle.sed_units.specs.declared.leaves.Literal.{Literal}
use Rattle.sed_units.specs.declared.leaves.LiteralKind.{LiteralKind}
use Rattle.sed_units.specs.declared.leaves.LiteralKind.TheVariants as literal
use Rattle.sed_names.specs.Names.{Names}
use Rattle.sed_terms.specs.declared.judged.Judged.{Judged}
use Rattle.sed_terms.specs.declared.judged.Judged.TheVariants.{Sound, Unknown}
use Rattle.sed_terms.specs.declared.sign.Sign.TheVariants as sign
use Rattle.sed_terms.specs.Faults.{Marks, broken}
use Rattle.sed_terms.specs.Term.{Term, leaf}
use Rattle.sed_names.specs.Spelled.{integer_of, character_of}

-- rule 21 where an integer is above its bound
abbrev pub integer : {F : Type 0} → Marks F → ℕ → Option Number → Judged Term F
integer m at (Some (Int n)) = Sound (leaf (sign.Int n))
integer m at (Some (Long n)) = Sound (leaf (sign.Long n))
integer m at None = Unknown (m.one (broken 21 at))

-- a character is an int
abbrev pub character : {F : Type 0} → Marks F → ℕ → Option ℕ → Judged Term F
character m at (Some c) = Sound (leaf (sign.Int (pos c)))
character m at None = Unknown (m.one (broken 21 at))

-- Rule 22 where a text has no number in the program: the program has as many texts as it may have, or this one has
-- more than 255 characters. It is broken at each such literal.
abbrev pub text : {F : Type 0} → Marks F → ℕ → Option ℕ → Judged Term F
text m at (Some n) = Sound (leaf (sign.Text n))
text m at None = Unknown (m.one (broken 22 at))

abbrev pub literal_of : {F : Type 0} → Marks F → Names → ℕ → LiteralKind → List ℕ → Judged Term F
literal_of m n at literal.Integer bytes = integer m at (integer_of bytes)
literal_of m n at literal.Character bytes = character m at (character_of bytes)
literal_of m n at literal.Text bytes = text m at (n.text bytes)
literal_of m n at literal.True bytes = Sound (leaf (sign.Bool 1))
literal_of m n at literal.False bytes = Sound (leaf (sign.Bool 0))
literal_of m n at literal.Null bytes = Sound (leaf sign.Nothing)

abbrev pub literal_judged : {F : Type 0} → Marks F → Names → Literal → Judged Term F
literal_judged m n l = literal_of m n l.at l.kind l.bytes
