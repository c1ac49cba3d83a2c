-- The grammar of expressions.
--
-- `inside` is true within `( )` and `[ ]`. Outside of them a token that is the first on its line goes on with an
-- expression only behind an operator or a `,` that ended the line before, or where it is `.`, `&&`, `||`, `?` or `:`.
--
-- An expression has a level: 13 any expression, 12 `? :` and what binds tighter, 11 to 2 the binary operators, 1 prefix
-- operators and casts, 0 what stands behind a primary.
use Rattle.std.specs.Prelude.{ℕ, zero, suc, ◌==◌, Bool, true, ◌&&◌, ◌||◌, List, [], ◌∷◌, codes}
use Rattle.sed_lexer.specs.Token.{Token}
use Rattle.sed_units.specs.declared.leaves.Ident.{Ident}
use Rattle.sed_units.specs.declared.label.Label.TheVariants as label
use Rattle.sed_units.specs.Tree.{Tree, Absent, Part, row}
use Rattle.sed_parser.specs.Rule.{Rule, give, nothing, when, must, ◌>>=◌, ◌>>◌}
use Rattle.sed_parser.specs.Many.{many}
use Rattle.sed_parser.specs.Next.{next_mark, next_key, next_literal, next_prefix, next_update, next_binary}
use Rattle.sed_parser.specs.Next.{next_assignment, next_goes, second_prim}
use Rattle.sed_parser.specs.Leaves as part

-- the expressions of each level that may stand one construct deeper
abbrev pub Inner : Type 1
Inner = ℕ → Bool → Rule Tree

-- the next token must go on with the expression
unfoldable pub onward : Bool → Rule (Unit {0})
onward inside = must (next_goes inside)

abbrev pub goes_mark : Bool → List ℕ → List Token → Bool
goes_mark inside text tokens = next_goes inside tokens && next_mark text tokens

-- an operand, and the steps behind it, if there are any
abbrev pub chain : ℕ → Tree → List Tree → Tree
chain at first [] = first
chain at first (link ∷ links) = Part (label.Chain at) first (row (link ∷ links))

-- a literal or `this`
unfoldable pub leaf : Rule Tree
leaf = when next_literal
    (do
      l ← part.literal
      give (Part (label.Literal l) Absent Absent))
    (do
      at ← part.place
      part.key (codes "this")
      give (Part (label.This at) Absent Absent))

abbrev pub next_leaf : List Token → Bool
next_leaf tokens = next_literal tokens || next_key (codes "this") tokens

-- `, EXPRESSION`, several times
unfoldable pub next_argument : Inner → Rule Tree
next_argument inner = do
  part.mark (codes ",")
  inner 13 true

unfoldable pub more_arguments : Inner → Tree → Rule (List Tree)
more_arguments inner first = do
  others ← many (next_mark (codes ",")) (next_argument inner)
  give (first ∷ others)

-- `(EXPRESSION, ..)`
unfoldable pub arguments : Inner → Rule (List Tree)
arguments inner = do
  part.mark (codes "(")
  when (next_mark (codes ")"))
      (do
        part.mark (codes ")")
        give [])
      (do
        first ← inner 13 true
        all ← more_arguments inner first
        part.mark (codes ")")
        give all)

-- `super.ID`, before its arguments
unfoldable pub super_name : Bool → Rule Ident
super_name inside = do
  part.key (codes "super")
  part.mark (codes ".")
  onward inside
  name ← part.ident
  onward inside
  give name

-- what begins with an identifier
unfoldable pub named : Inner → Bool → Rule Tree
named inner inside = do
  first ← part.ident
  when (goes_mark inside (codes "::"))
      (do
        part.mark (codes "::")
        onward inside
        second ← part.ident
        give (Part (label.Of first second) Absent Absent))
      (when (goes_mark inside (codes "("))
      (do
        args ← arguments inner
        give (Part (label.Call first) (row args) Absent))
      (give (Part (label.Name first) Absent Absent)))

unfoldable pub primary : Inner → Bool → Rule Tree
primary inner inside = do
  at ← part.place
  when next_leaf leaf
      (when (next_mark (codes "("))
      (do
        part.mark (codes "(")
        e ← inner 13 true
        part.mark (codes ")")
        give (Part (label.Paren at) e Absent))
      (when (next_key (codes "super"))
      (do
        name ← super_name inside
        args ← arguments inner
        give (Part (label.Super at name) (row args) Absent))
      (named inner inside)))

-- `.ID`, `.ID(..)` or `[EXPRESSION]`
unfoldable pub access : Inner → Bool → Rule Tree
access inner inside = do
  at ← part.place
  when (next_mark (codes "."))
      (do
        part.mark (codes ".")
        onward inside
        name ← part.ident
        when (goes_mark inside (codes "("))
            (do
              args ← arguments inner
              give (Part (label.Method at name) (row args) Absent))
            (give (Part (label.Member at name) Absent Absent)))
      (do
        part.mark (codes "[")
        e ← inner 13 true
        part.mark (codes "]")
        give (Part (label.Index at) e Absent))

abbrev pub next_access : Bool → List Token → Bool
next_access inside tokens = next_goes inside tokens && (next_mark (codes ".") tokens || next_mark (codes "[") tokens)

unfoldable pub access_links : Inner → Bool → Rule (List Tree)
access_links inner inside = many (next_access inside) (access inner inside)

-- a primary, what stands behind it from left to right, and `++` or `--`
unfoldable pub postfix : Inner → Bool → Rule Tree
postfix inner inside = do
  at ← part.place
  first ← primary inner inside
  links ← access_links inner inside
  when (λ tokens. next_goes inside tokens && next_update tokens)
      (do
        op ← part.update
        give (Part (label.Update at op) (chain at first links) Absent))
      (give (chain at first links))

-- a prefix operator or a cast, and its operand, which goes on
unfoldable pub prefixed : Inner → Bool → Rule Tree → Rule Tree
prefixed inner inside tighter = do
  at ← part.place
  when next_prefix
      (do
        op ← part.prefix
        onward inside
        e ← inner 1 inside
        give (Part (label.Prefix at op) e Absent))
      (when (λ tokens. next_mark (codes "(") tokens && second_prim tokens)
      (do
        part.mark (codes "(")
        kind ← part.prim
        part.mark (codes ")")
        onward inside
        e ← inner 1 inside
        give (Part (label.Cast at kind) e Absent))
      tighter)

-- a binary operator of a level, and the operand on its right
unfoldable pub operand : ℕ → Rule Tree → Rule Tree
operand level tighter = do
  at ← part.place
  op ← part.binary level
  e ← tighter
  give (Part (label.Operand at op) e Absent)

abbrev pub next_operand : Bool → ℕ → List Token → Bool
next_operand inside level tokens = next_goes inside tokens && next_binary level tokens

unfoldable pub operand_links : ℕ → Bool → Rule Tree → Rule (List Tree)
operand_links level inside tighter = many (next_operand inside level) (operand level tighter)

-- operands of a binary level, from left to right
unfoldable pub operands : ℕ → Bool → Rule Tree → Rule Tree
operands level inside tighter = do
  at ← part.place
  first ← tighter
  links ← operand_links level inside tighter
  give (chain at first links)

-- `? :`, whose parts are from right to left
unfoldable pub conditional : Inner → Bool → Rule Tree → Rule Tree
conditional inner inside tighter = do
  at ← part.place
  first ← tighter
  when (goes_mark inside (codes "?"))
      (do
        part.mark (codes "?")
        second ← inner 13 inside
        part.mark (codes ":")
        third ← inner 12 inside
        give (Part (label.Conditional at) first (Part label.Both second third)))
      (give first)

-- assignments, from right to left
unfoldable pub assigned : Inner → Bool → Rule Tree → Rule Tree
assigned inner inside tighter = do
  at ← part.place
  target ← tighter
  when (λ tokens. next_goes inside tokens && next_assignment tokens)
      (do
        op ← part.assignment
        value ← inner 13 inside
        give (Part (label.Assign at op) target value))
      (give target)

-- an expression of a level, by that of the level below
abbrev pub of_level : Inner → ℕ → Bool → Rule Tree → Rule Tree
of_level inner level inside tighter = when (λ tokens. level == 13) (assigned inner inside tighter)
    (when (λ tokens. level == 12) (conditional inner inside tighter)
    (when (λ tokens. level == 1) (prefixed inner inside tighter)
    (operands level inside tighter)))

unfoldable pub expression_in : Inner → ℕ → Bool → Rule Tree
expression_in inner zero inside = postfix inner inside
expression_in inner (suc level) inside = of_level inner (suc level) inside (expression_in inner level inside)

-- With no room left, no construct is opened. Each construct that is opened takes one.
unfoldable pub deeper : ℕ → Inner
deeper zero level inside = nothing
deeper (suc room) level inside = expression_in (deeper room) level inside

-- an expression of a level, in which so many more constructs may be opened one within the other
abbrev pub expression : ℕ → ℕ → Bool → Rule Tree
expression room level inside = expression_in (deeper room) level inside
