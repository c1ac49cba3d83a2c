-- What a step of the parser answers, by what a rule reads: the value, with the tokens behind it left. Or a fault where
-- reading gets stuck, with the tokens left from there on. Want of memory is free.
use Rattle.std.specs.Prelude.{◌≡◌, List, Result, Ok, Err}
use Rattle.sed_lexer.specs.Token.{Token}
use Rattle.sed_parser.specs.Reading.{Reading, Found, Stuck}
use Rattle.sed_value.specs.declared.halt.Halt.{Halt}
use Rattle.sed_value.specs.declared.halt.Halt.TheVariants.{Fault, Memory}

abbrev pub Gives : {X : Type 0} → Result X Halt → List Token → Reading X → Type 0
Gives (Ok x) rest reading = reading ≡ Found x rest
Gives (Err Fault) rest reading = reading ≡ Stuck rest
Gives (Err Memory) rest reading = Unit {0}
