-- The grammar of names, literals, types, facets, modifiers, parameters and initial values.
use Rattle.std.specs.Prelude.{ℕ, List, Option, Some, None, codes}
use Rattle.sed_value.specs.declared.slot_type.Primitive.{Primitive as Prim}
use Rattle.sed_lexer.specs.declared.kind.TokenKind.{TokenKind}
use Rattle.sed_units.specs.declared.leaves.Ident.{Ident}
use Rattle.sed_units.specs.declared.leaves.Literal.{Literal}
use Rattle.sed_units.specs.declared.leaves.TypeName.{TypeName}
use Rattle.sed_units.specs.declared.leaves.Base.{Base}
use Rattle.sed_units.specs.declared.leaves.Base.TheVariants as base
use Rattle.sed_units.specs.declared.leaves.Size.{Size}
use Rattle.sed_units.specs.declared.leaves.Size.TheVariants as size
use Rattle.sed_units.specs.declared.leaves.TypeRef.{TypeRef}
use Rattle.sed_units.specs.declared.leaves.Facet.{Facet}
use Rattle.sed_units.specs.declared.leaves.Modifier.{Modifier}
use Rattle.sed_units.specs.declared.leaves.ModifierWord.{ModifierWord}
use Rattle.sed_units.specs.declared.leaves.Param.{Param}
use Rattle.sed_units.specs.declared.leaves.Init.{Init}
use Rattle.sed_units.specs.declared.leaves.InitValue.{InitValue}
use Rattle.sed_units.specs.declared.leaves.InitValue.TheVariants as init
use Rattle.sed_units.specs.declared.operators.BinaryOp.{BinaryOp}
use Rattle.sed_units.specs.declared.operators.AssignOp.{AssignOp}
use Rattle.sed_units.specs.declared.operators.PrefixOp.{PrefixOp}
use Rattle.sed_units.specs.declared.operators.UpdateOp.{UpdateOp}
use Rattle.sed_parser.specs.Rule.{Rule, give, look, token, when, must, ◌>>=◌, ◌>>◌}
use Rattle.sed_units.specs.Words.{mark_of, key_of, ident_of, literal_of, integer_of, prim_of, modifier_of, binary_of}
use Rattle.sed_units.specs.Words.{at_level, assignment_of, update_of, prefix_of}
use Rattle.sed_parser.specs.Next.{start_of, next_mark, next_key, next_literal, next_prim, may_end}

unfoldable pub mark : List ℕ → Rule (Unit {0})
mark text = token (mark_of text)

unfoldable pub key : List ℕ → Rule (Unit {0})
key text = token (key_of text)

unfoldable pub ident : Rule Ident
ident = token ident_of

unfoldable pub literal : Rule Literal
literal = token literal_of

unfoldable pub integer : Rule Literal
integer = token integer_of

-- one token that is something by a table
unfoldable pub of_told : {A : Type 0} → (TokenKind → List ℕ → Option A) → Rule A
of_told told = token (λ t. told t.kind t.bytes)

abbrev pub prim : Rule Prim
prim = of_told prim_of

abbrev pub modifier_word : Rule ModifierWord
modifier_word = of_told modifier_of

abbrev pub assignment : Rule AssignOp
assignment = of_told assignment_of

abbrev pub update : Rule UpdateOp
update = of_told update_of

abbrev pub prefix : Rule PrefixOp
prefix = of_told prefix_of

-- a binary operator of a level
unfoldable pub binary : ℕ → Rule BinaryOp
binary level = token (λ t. at_level level (binary_of t.kind t.bytes))

-- the place where the next token begins
abbrev pub place : Rule ℕ
place = look start_of

-- `;` where that is next. Else nothing, where the next token is the first on its line or is `}`, or none is left.
unfoldable pub end : Rule (Unit {0})
end = when (next_mark (codes ";")) (mark (codes ";")) (must may_end)

-- `ID`, or `ID::ID`
unfoldable pub type_name : Rule TypeName
type_name = do
  at ← place
  first ← ident
  when (next_mark (codes "::"))
      (do
        mark (codes "::")
        second ← ident
        give (record { at = at; kit = Some first; id = second }))
      (give (record { at = at; kit = None; id = first }))

unfoldable pub base_of_type : Rule Base
base_of_type = when next_prim
    (do
      word ← prim
      give (base.Primitive word))
    (when (next_key (codes "void"))
    (do
      key (codes "void")
      give base.Void)
    (do
      name ← type_name
      give (base.Named name)))

-- `(N)` or `[N]`
unfoldable pub size_of_type : Rule (Option Size)
size_of_type = when (next_mark (codes "("))
    (do
      mark (codes "(")
      n ← integer
      mark (codes ")")
      give (Some (size.Parens n)))
    (when (next_mark (codes "["))
    (do
      mark (codes "[")
      n ← integer
      mark (codes "]")
      give (Some (size.Brackets n)))
    (give None))

unfoldable pub type_of : Rule TypeRef
type_of = do
  at ← place
  base ← base_of_type
  size ← size_of_type
  give (record { at = at; base = base; size = size })

-- `= VALUE`
unfoldable pub facet_value : Rule (Option Literal)
facet_value = when (next_mark (codes "="))
    (do
      mark (codes "=")
      value ← literal
      give (Some value))
    (give None)

-- `@ID`, or `@ID = VALUE`
unfoldable pub facet : Rule Facet
facet = do
  at ← place
  mark (codes "@")
  name ← ident
  value ← facet_value
  give (record { at = at; name = name; value = value })

unfoldable pub modifier : Rule Modifier
modifier = do
  at ← place
  word ← modifier_word
  give (record { at = at; word = word })

unfoldable pub param : Rule Param
param = do
  at ← place
  kind ← type_of
  name ← ident
  give (record { at = at; kind = kind; name = name })

-- a literal, `-` and a literal, or an identifier
unfoldable pub init_value : Rule InitValue
init_value = when (next_mark (codes "-"))
    (do
      mark (codes "-")
      value ← literal
      give (init.Minus value))
    (when next_literal
    (do
      value ← literal
      give (init.Literal value))
    (do
      name ← ident
      give (init.Name name)))

unfoldable pub initial : Rule Init
initial = do
  at ← place
  value ← init_value
  give (record { at = at; value = value })
