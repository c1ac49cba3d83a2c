-- What the literals of initial values spell, as the lexer and the rule on integers leave them.
use Rattle.std.specs.Prelude.{ℕ, ◌≡◌, ◌<◌, IsTrue, IsSome, IsSomeAnd, List, slice_get, Option, Some, None}
use Rattle.sed_value.specs.Value.{are_bytes}
use Rattle.sed_units.specs.declared.leaves.Init.{Init}
use Rattle.sed_units.specs.declared.leaves.InitValue.{InitValue}
use Rattle.sed_units.specs.declared.leaves.InitValue.TheVariants as init
use Rattle.sed_units.specs.declared.leaves.Literal.{Literal}
use Rattle.sed_units.specs.declared.leaves.LiteralKind.{LiteralKind}
use Rattle.sed_units.specs.declared.leaves.LiteralKind.TheVariants as literal
use Rattle.sed_units.specs.declared.classes.Member.{Member}
use Rattle.sed_names.specs.Spelled.{integer_of, character_of}
use Rattle.sed_classes.specs.declared.kit_units.KitUnits.{KitUnits}
use Rattle.sed_classes.specs.Members.{form_value, members_of}

-- an integer spells a number, and a character a byte
abbrev pub SpellsOne : LiteralKind → List ℕ → Type 0
SpellsOne literal.Integer bytes = IsSome (integer_of bytes)
SpellsOne literal.Character bytes = IsSomeAnd (character_of bytes) (λ c. c < 256)
SpellsOne literal.Text bytes = Unit {0}
SpellsOne literal.True bytes = Unit {0}
SpellsOne literal.False bytes = Unit {0}
SpellsOne literal.Null bytes = Unit {0}

pub record IsSpelled (l : Literal) : Type 0 where
  pub one : SpellsOne l.kind l.bytes
  pub bytes : IsTrue (are_bytes l.bytes)

abbrev pub HasSpelled : InitValue → Type 0
HasSpelled (init.Literal l) = IsSpelled l
HasSpelled (init.Minus l) = IsSpelled l
HasSpelled (init.Name id) = Unit {0}

abbrev pub IsValueSpelled : Option Init → Type 0
IsValueSpelled None = Unit {0}
IsValueSpelled (Some i) = HasSpelled i.value

-- the initial values of all members
pub record AreSpelled (units : List KitUnits) : Type 0 where
  pub values : (class i : ℕ) (m : Member) → slice_get (members_of units class) i ≡ Some m →
      IsValueSpelled (form_value m.form)
