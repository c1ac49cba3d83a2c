-- What the tokens of a text derive, and where they fault.
use Rattle.std.specs.Prelude.{◌≡◌, ◌≤◌, ℕ, List, [], length, drop}
use Rattle.sed_lexer.specs.Token.{Token}
use Rattle.sed_units.specs.declared.classes.Unit.{Unit as TheUnit}
use Rattle.sed_parser.specs.Reading.{Stuck}
use Rattle.sed_parser.specs.Classes.{classes}

-- The classes of the unit stand at the front of the tokens by the grammar, and nothing is left behind them.
abbrev pub Derives : List Token → TheUnit → Type 0
Derives tokens u = classes.holds u.classes tokens []

-- Read from left to right, the classes go on up to this token and not with it. Where the tokens end too early, it is
-- the number of all.
unfoldable pub FaultsAt : List Token → ℕ → Type 0
FaultsAt tokens n = (n ≤ length tokens) × (classes.reads tokens ≡ Stuck (drop n tokens))
