-- Units as the lexer and the grammar leave them: names are identifiers, literals are spelled, and bodies are shallow.
use Rattle.std.specs.Prelude.{ℕ, ◌<◌, IsTrue, IsSomeAnd, All, List, Option, Some, None}
use Rattle.sed_value.specs.Names.{is_identifier}
use Rattle.sed_value.specs.Value.{are_bytes}
use Rattle.sed_units.specs.declared.leaves.Init.{Init}
use Rattle.sed_units.specs.declared.leaves.InitValue.{InitValue}
use Rattle.sed_units.specs.declared.leaves.InitValue.TheVariants as init
use Rattle.sed_units.specs.declared.leaves.Literal.{Literal}
use Rattle.sed_units.specs.declared.leaves.LiteralKind.{LiteralKind}
use Rattle.sed_units.specs.declared.leaves.LiteralKind.TheVariants as literal
use Rattle.sed_units.specs.declared.classes.Class.{Class}
use Rattle.sed_units.specs.declared.classes.Member.{Member}
use Rattle.sed_units.specs.declared.classes.Unit.{Unit as TheUnit}
use Rattle.sed_names.specs.Spelled.{character_of}
use Rattle.sed_classes.specs.Bodies.{texts_of}
use Rattle.sed_classes.specs.declared.kit_units.KitUnits.{KitUnits}
use Rattle.sed_classes.specs.Members.{form_value}
use Rattle.sed_body_laws.specs.NestedBodies.{HasShallowBodies}

-- ---- literals

-- a character literal spells a byte
abbrev pub SpellsCharacter : LiteralKind → List ℕ → Type 0
SpellsCharacter literal.Character bytes = IsSomeAnd (character_of bytes) (λ c. c < 256)
SpellsCharacter literal.Integer bytes = Unit {0}
SpellsCharacter literal.Text bytes = Unit {0}
SpellsCharacter literal.True bytes = Unit {0}
SpellsCharacter literal.False bytes = Unit {0}
SpellsCharacter literal.Null bytes = Unit {0}

pub record IsLexed (l : Literal) : Type 0 where
  pub bytes : IsTrue (are_bytes l.bytes)
  pub character : SpellsCharacter l.kind l.bytes

abbrev pub IsLexedValue : InitValue → Type 0
IsLexedValue (init.Literal l) = IsLexed l
IsLexedValue (init.Minus l) = IsLexed l
IsLexedValue (init.Name id) = Unit {0}

abbrev pub IsLexedInit : Option Init → Type 0
IsLexedInit None = Unit {0}
IsLexedInit (Some i) = IsLexedValue i.value

-- ---- units

-- a member's name is an identifier, and the literals of its initial value and the texts in its body are spelled
pub record IsReadMember (m : Member) : Type 0 where
  pub name : IsTrue (is_identifier m.name.bytes)
  pub value : IsLexedInit (form_value m.form)
  pub texts : All IsLexed (texts_of m)

pub record IsReadClass (c : Class) : Type 0 where
  pub name : IsTrue (is_identifier c.name.bytes)
  pub members : All IsReadMember c.members

pub record IsReadUnit (u : TheUnit) : Type 0 where
  pub classes : All IsReadClass u.classes
  pub shallow : HasShallowBodies u

-- those of all kits
abbrev pub AreRead : List KitUnits → Type 0
AreRead units = All (λ (k : KitUnits). All IsReadUnit k.units) units
