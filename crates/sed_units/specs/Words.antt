-- What single tokens are, and the tables of operators and key words.
use Rattle.std.specs.Prelude.{ℕ, Bool, true, false, ◌||◌, ◌&&◌, not, ◌==◌, if◌then◌else◌, List, [], ◌∷◌, Option, Some}
use Rattle.std.specs.Prelude.{None, codes}
use Rattle.std.specs.Str.{bytes_eq}
use Rattle.sed_value.specs.declared.slot_type.Primitive.{Primitive as Prim}
use Rattle.sed_value.specs.declared.slot_type.Primitive.TheVariants as prim
use Rattle.sed_lexer.specs.Token.{Token}
use Rattle.sed_lexer.specs.declared.kind.TokenKind.{TokenKind}
use Rattle.sed_lexer.specs.declared.kind.TokenKind.TheVariants as kind
use Rattle.sed_units.specs.declared.leaves.Ident.{Ident}
use Rattle.sed_units.specs.declared.leaves.Literal.{Literal}
use Rattle.sed_units.specs.declared.leaves.LiteralKind.{LiteralKind}
use Rattle.sed_units.specs.declared.leaves.LiteralKind.TheVariants as literal
use Rattle.sed_units.specs.declared.leaves.ModifierWord.{ModifierWord}
use Rattle.sed_units.specs.declared.leaves.ModifierWord.TheVariants as modifier
use Rattle.sed_units.specs.declared.operators.BinaryOp.{BinaryOp}
use Rattle.sed_units.specs.declared.operators.BinaryOp.TheVariants as binary
use Rattle.sed_units.specs.declared.operators.AssignOp.{AssignOp}
use Rattle.sed_units.specs.declared.operators.AssignOp.TheVariants as assign
use Rattle.sed_units.specs.declared.operators.PrefixOp.{PrefixOp}
use Rattle.sed_units.specs.declared.operators.PrefixOp.TheVariants as prefix
use Rattle.sed_units.specs.declared.operators.UpdateOp.{UpdateOp}
use Rattle.sed_units.specs.declared.operators.UpdateOp.TheVariants as update

abbrev pub is_some : {A : Type 0} → Option A → Bool
is_some None = false
is_some (Some a) = true

-- words, and what each of them is
abbrev pub Table : Type 0 → Type 0
Table A = List (List ℕ × A)

abbrev pub look_up : {A : Type 0} → Table A → List ℕ → Option A
look_up [] bytes = None
look_up ((word, a) ∷ table) bytes = if bytes_eq bytes word then Some a else look_up table bytes

abbrev pub is_mark : TokenKind → Bool
is_mark kind.Mark = true
is_mark k = false

abbrev pub is_key : TokenKind → Bool
is_key kind.Key = true
is_key k = false

abbrev pub is_id : TokenKind → Bool
is_id kind.Id = true
is_id k = false

-- a mark and a key word with these bytes
abbrev pub mark_of : List ℕ → Token → Option (Unit {0})
mark_of text t = if is_mark t.kind && bytes_eq t.bytes text then Some tt else None

abbrev pub key_of : List ℕ → Token → Option (Unit {0})
key_of text t = if is_key t.kind && bytes_eq t.bytes text then Some tt else None

abbrev pub ident_of : Token → Option Ident
ident_of t = if is_id t.kind then Some (record { at = t.start; bytes = t.bytes }) else None

-- `true`, `false` and `null`
abbrev pub constants : Table LiteralKind
constants =
    (codes "true", literal.True) ∷ (codes "false", literal.False) ∷ (codes "null", literal.Null) ∷ []

abbrev pub literal_kind : TokenKind → List ℕ → Option LiteralKind
literal_kind kind.Integer bytes = Some literal.Integer
literal_kind kind.Character bytes = Some literal.Character
literal_kind kind.Text bytes = Some literal.Text
literal_kind kind.Key bytes = look_up constants bytes
literal_kind kind.Id bytes = None
literal_kind kind.Mark bytes = None

abbrev pub literal_with : Token → Option LiteralKind → Option Literal
literal_with t None = None
literal_with t (Some k) = Some (record { at = t.start; kind = k; bytes = t.bytes })

abbrev pub literal_of : Token → Option Literal
literal_of t = literal_with t (literal_kind t.kind t.bytes)

abbrev pub is_integer : TokenKind → Bool
is_integer kind.Integer = true
is_integer k = false

abbrev pub integer_of : Token → Option Literal
integer_of t = if is_integer t.kind then Some (record { at = t.start; kind = literal.Integer; bytes = t.bytes }) else
    None

abbrev pub primitives : Table Prim
primitives =
    (codes "bool", prim.Bool) ∷ (codes "byte", prim.Byte) ∷ (codes "short", prim.Short) ∷ (codes "int", prim.Int) ∷
    (codes "long", prim.Long) ∷ []

abbrev pub prim_of : TokenKind → List ℕ → Option Prim
prim_of k bytes = if is_key k then look_up primitives bytes else None

abbrev pub modifiers : Table ModifierWord
modifiers =
    (codes "public", modifier.Public) ∷ (codes "private", modifier.Private) ∷
    (codes "protected", modifier.Protected) ∷ (codes "internal", modifier.Internal) ∷
    (codes "abstract", modifier.Abstract) ∷ (codes "final", modifier.Final) ∷ (codes "static", modifier.Static) ∷
    (codes "virtual", modifier.Virtual) ∷ (codes "override", modifier.Override) ∷ (codes "inline", modifier.Inline) ∷
    (codes "define", modifier.Define) ∷ (codes "property", modifier.Property) ∷ (codes "action", modifier.Action) ∷ []

abbrev pub modifier_of : TokenKind → List ℕ → Option ModifierWord
modifier_of k bytes = if is_key k then look_up modifiers bytes else None

abbrev pub binary_marks : Table BinaryOp
binary_marks =
    (codes "||", binary.Or) ∷ (codes "&&", binary.And) ∷ (codes "==", binary.Equal) ∷ (codes "!=", binary.NotEqual) ∷
    (codes "<", binary.Less) ∷ (codes "<=", binary.LessOrEqual) ∷ (codes ">", binary.Greater) ∷
    (codes ">=", binary.GreaterOrEqual) ∷ (codes "|", binary.BitOr) ∷ (codes "^", binary.BitXor) ∷
    (codes "&", binary.BitAnd) ∷ (codes "<<", binary.ShiftLeft) ∷ (codes ">>", binary.ShiftRight) ∷
    (codes "+", binary.Add) ∷ (codes "-", binary.Subtract) ∷ (codes "*", binary.Multiply) ∷
    (codes "/", binary.Divide) ∷ (codes "%", binary.Remainder) ∷ []

-- The level of an operator: a greater number binds less tight. What stands behind a primary has level 0, a prefix
-- operator 1, `? :` 12 and an assignment 13.
abbrev pub level_of : BinaryOp → ℕ
level_of binary.Or = 11
level_of binary.And = 10
level_of binary.Equal = 9
level_of binary.NotEqual = 9
level_of binary.Less = 8
level_of binary.LessOrEqual = 8
level_of binary.Greater = 8
level_of binary.GreaterOrEqual = 8
level_of binary.BitOr = 7
level_of binary.BitXor = 6
level_of binary.BitAnd = 5
level_of binary.ShiftLeft = 4
level_of binary.ShiftRight = 4
level_of binary.Add = 3
level_of binary.Subtract = 3
level_of binary.Multiply = 2
level_of binary.Divide = 2
level_of binary.Remainder = 2

abbrev pub binary_of : TokenKind → List ℕ → Option BinaryOp
binary_of k bytes = if is_mark k then look_up binary_marks bytes else None

abbrev pub at_level : ℕ → Option BinaryOp → Option BinaryOp
at_level level None = None
at_level level (Some op) = if level_of op == level then Some op else None

abbrev pub assignments : Table AssignOp
assignments =
    (codes "=", assign.Set) ∷ (codes "+=", assign.Add) ∷ (codes "-=", assign.Subtract) ∷
    (codes "*=", assign.Multiply) ∷ (codes "/=", assign.Divide) ∷ (codes "%=", assign.Remainder) ∷
    (codes "&=", assign.BitAnd) ∷ (codes "|=", assign.BitOr) ∷ (codes "^=", assign.BitXor) ∷
    (codes "<<=", assign.ShiftLeft) ∷ (codes ">>=", assign.ShiftRight) ∷ []

abbrev pub assignment_of : TokenKind → List ℕ → Option AssignOp
assignment_of k bytes = if is_mark k then look_up assignments bytes else None

abbrev pub updates : Table UpdateOp
updates =
    (codes "++", update.Increment) ∷ (codes "--", update.Decrement) ∷ []

abbrev pub update_of : TokenKind → List ℕ → Option UpdateOp
update_of k bytes = if is_mark k then look_up updates bytes else None

abbrev pub prefixes : Table PrefixOp
prefixes =
    (codes "!", prefix.Not) ∷ (codes "-", prefix.Minus) ∷ (codes "~", prefix.BitNot) ∷
    (codes "++", prefix.Increment) ∷ (codes "--", prefix.Decrement) ∷ []

abbrev pub prefix_of : TokenKind → List ℕ → Option PrefixOp
prefix_of k bytes = if is_mark k then look_up prefixes bytes else None

-- the marks that go on with an expression though they are the first on their line
abbrev pub leads_on : TokenKind → List ℕ → Bool
leads_on k bytes = is_mark k
    && (bytes_eq bytes (codes ".") || (bytes_eq bytes (codes "&&") || (bytes_eq bytes (codes "||")
    || (bytes_eq bytes (codes "?") || bytes_eq bytes (codes ":")))))

-- A token goes on with an expression within brackets, where it is not the first on its line, and where it leads on.
abbrev pub goes : Bool → Token → Bool
goes inside t = inside || (not t.first || leads_on t.kind t.bytes)
