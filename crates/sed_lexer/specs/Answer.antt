-- What the lexer answers.
use Rattle.std.specs.Prelude.{◌≡◌, ◌⊎◌, List, Result, Err}
use Rattle.sed_lexer.specs.declared.lexing.LexRefusal.{LexRefusal}
use Rattle.sed_lexer.specs.declared.lexing.LexRefusal.TheVariants.{Memory}
use Rattle.sed_lexer.specs.Token.{Token}

-- the result is this answer, unless memory was refused
abbrev pub IsUnlessMemory : Result (List Token) LexRefusal → Result (List Token) LexRefusal → Type 0
IsUnlessMemory result answer = (result ≡ answer) ⊎ (result ≡ Err Memory)
