-- The unit of a source text, and where a text that has none faults.
use Rattle.std.specs.Prelude.{◌≡◌, ℕ, nat_lt, if◌then◌else◌, IsTrue, All, List, length}
use Rattle.sed_value.specs.Value.{are_bytes}
use Rattle.sed_lexer.specs.Token.{Token, token_at}
use Rattle.sed_lexer.specs.Lexes as pieces
use Rattle.sed_lexer.specs.Lexes.{Lexes}
use Rattle.sed_parser.specs.Derives as grammar
use Rattle.sed_parser.specs.Derives.{Derives}
use Rattle.sed_units.specs.declared.classes.Unit.{Unit as TheUnit}
use Rattle.sed_classes.specs.declared.kit_units.KitUnits.{KitUnits}
use Rattle.kit_sources.specs.declared.refusal.Why.{Why}
use Rattle.kit_sources.specs.declared.refusal.Why.TheVariants.{Lex, Parse}

-- The text has tokens, and they derive this unit.
unfoldable pub IsUnit : List ℕ → TheUnit → Type 0
IsUnit text unit = (tokens : List Token) × Lexes text tokens × Derives tokens unit

-- The place where the token of this number begins, or the text's end where there is none.
abbrev pub place_of : List ℕ → List Token → ℕ → ℕ
place_of text tokens n = if nat_lt n (length tokens) then (token_at tokens n).start else length text

-- The text has tokens that derive no unit, and this is the place of the one at which they fault.
abbrev pub HasNoUnit : List ℕ → ℕ → Type 0
HasNoUnit text at = (tokens : List Token) × Lexes text tokens
    × ((token : ℕ) × grammar.FaultsAt tokens token × (at ≡ place_of text tokens token))

-- Why a text has no unit: no token begins at a place, or its tokens derive none and fault there.
abbrev pub IsWhyOfSource : List ℕ → Why → Type 0
IsWhyOfSource text (Lex at) = pieces.FaultsAt text at
IsWhyOfSource text (Parse at) = HasNoUnit text at
IsWhyOfSource text _ = ⊥

-- It is the unit of a text of bytes.
abbrev pub IsOfBytes : TheUnit → Type 0
IsOfBytes unit = (text : List ℕ) × IsTrue (are_bytes text) × IsUnit text unit

abbrev pub AreOfBytes : List KitUnits → Type 0
AreOfBytes kits = All (λ (kit : KitUnits). All IsOfBytes kit.units) kits
