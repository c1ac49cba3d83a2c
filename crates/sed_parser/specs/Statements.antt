-- The grammar of statements.
--
-- A statement in a method's own body has room for 64 constructs one within the other. A statement within a statement
-- takes one, and so does a pair of brackets.
use Rattle.std.specs.Prelude.{ℕ, zero, suc, Bool, true, false, not, ◌||◌, List, Option, Some, None, codes}
use Rattle.sed_lexer.specs.Token.{Token}
use Rattle.sed_units.specs.declared.leaves.Ident.{Ident}
use Rattle.sed_units.specs.declared.label.Label.TheVariants as label
use Rattle.sed_units.specs.declared.statements.Local.{Local}
use Rattle.sed_units.specs.declared.statements.ForHead.{ForHead}
use Rattle.sed_units.specs.declared.statements.ForFirst.{ForFirst}
use Rattle.sed_units.specs.declared.statements.ForFirst.TheVariants as first
use Rattle.sed_units.specs.Tree.{Tree, Absent, Part, row, optional}
use Rattle.sed_units.specs.StatementTree.{local_tree, for_tree, case_tree}
use Rattle.sed_parser.specs.Rule.{Rule, give, nothing, when, must, where_begins, ◌>>=◌, ◌>>◌}
use Rattle.sed_parser.specs.Many.{many}
use Rattle.sed_parser.specs.Next.{next_mark, next_key, next_first, may_end}
use Rattle.sed_parser.specs.Leaves as part
use Rattle.sed_parser.specs.Expressions.{expression, deeper}

-- the next token is not the first on its line
abbrev pub on_line : Rule (Unit {0})
on_line = must (λ tokens. not (next_first tokens))

-- a type, and an identifier that is not the first on its line
unfoldable pub local_head : Rule Ident
local_head = do
  kind ← part.type_of
  on_line
  part.ident

unfoldable pub local_value : Rule Tree → Rule (Option Tree)
local_value value = when (next_mark (codes "="))
    (do
      part.mark (codes "=")
      e ← value
      give (Some e))
    (give None)

unfoldable pub local : Rule Tree → Rule Local
local value = do
  at ← part.place
  kind ← part.type_of
  on_line
  name ← part.ident
  initial ← local_value value
  give (record { at = at; kind = kind; name = name; value = initial })

-- `return` takes an expression on its own line alone.
unfoldable pub return_value : ℕ → Rule (Option Tree)
return_value room = when (λ tokens. next_mark (codes ";") tokens || may_end tokens)
    (give None)
    (do
      e ← expression room 13 false
      give (Some e))

unfoldable pub local_statement : ℕ → Rule Tree
local_statement room = do
  l ← local (expression room 13 false)
  part.end
  give (local_tree l)

unfoldable pub expression_statement : ℕ → Rule Tree
expression_statement room = do
  at ← part.place
  e ← expression room 13 false
  part.end
  give (Part (label.Evaluate at) e Absent)

unfoldable pub return_statement : ℕ → Rule Tree
return_statement room = do
  at ← part.place
  part.key (codes "return")
  value ← return_value room
  part.end
  give (Part (label.Return at) (optional value) Absent)

-- `return`, a local or an expression. What can be a local is one.
unfoldable pub valued : ℕ → Rule Tree
valued room = when (next_key (codes "return")) (return_statement room)
    (where_begins local_head (local_statement room) (expression_statement room))

-- a statement with no other one within it
unfoldable pub plain : ℕ → Rule Tree
plain room = do
  at ← part.place
  when (next_mark (codes ";"))
      (do
        part.mark (codes ";")
        give (Part (label.Empty at) Absent Absent))
      (when (next_key (codes "break"))
      (do
        part.key (codes "break")
        part.end
        give (Part (label.Break at) Absent Absent))
      (when (next_key (codes "continue"))
      (do
        part.key (codes "continue")
        part.end
        give (Part (label.Continue at) Absent Absent))
      (valued room)))

-- an expression in the brackets of a statement
unfoldable pub condition : ℕ → Rule Tree
condition room = do
  part.mark (codes "(")
  e ← deeper room 13 true
  part.mark (codes ")")
  give e

-- a statement begins here: the row of statements does not end
abbrev pub next_statement : List Token → Bool
next_statement tokens = not (next_mark (codes "}") tokens
    || (next_key (codes "case") tokens || next_key (codes "default") tokens))

unfoldable pub statements : Rule Tree → Rule (List Tree)
statements within = many next_statement within

unfoldable pub block : Rule Tree → Rule Tree
block within = do
  at ← part.place
  part.mark (codes "{")
  ss ← statements within
  part.mark (codes "}")
  give (Part (label.Block at) (row ss) Absent)

-- `else` and a statement, or nothing
unfoldable pub other : Rule Tree → Rule (Option Tree)
other within = when (next_key (codes "else"))
    (do
      part.key (codes "else")
      s ← within
      give (Some s))
    (give None)

-- `else` goes with the nearest `if`.
unfoldable pub if_else : ℕ → Rule Tree → Rule Tree
if_else room within = do
  at ← part.place
  part.key (codes "if")
  c ← condition room
  s ← within
  t ← other within
  give (Part (label.If at) c (Part label.Both s (optional t)))

unfoldable pub while_do : ℕ → Rule Tree → Rule Tree
while_do room within = do
  at ← part.place
  part.key (codes "while")
  c ← condition room
  s ← within
  give (Part (label.While at) c s)

unfoldable pub do_while : ℕ → Rule Tree → Rule Tree
do_while room within = do
  at ← part.place
  part.key (codes "do")
  s ← within
  part.key (codes "while")
  c ← condition room
  part.end
  give (Part (label.Do at) s c)

unfoldable pub for_local : ℕ → Rule ForFirst
for_local room = do
  l ← local (deeper room 13 true)
  part.mark (codes ";")
  give (first.Local l)

unfoldable pub for_evaluate : ℕ → Rule ForFirst
for_evaluate room = do
  e ← deeper room 13 true
  part.mark (codes ";")
  give (first.Evaluate e)

-- `FIRST;`
unfoldable pub for_first : ℕ → Rule ForFirst
for_first room = when (next_mark (codes ";"))
    (do
      part.mark (codes ";")
      give first.Nothing)
    (where_begins local_head (for_local room) (for_evaluate room))

-- `for (FIRST;`
unfoldable pub for_start : ℕ → Rule ForFirst
for_start room = do
  part.key (codes "for")
  part.mark (codes "(")
  for_first room

-- an expression, or none before a mark
unfoldable pub perhaps : ℕ → List ℕ → Rule (Option Tree)
perhaps room stop = when (next_mark stop)
    (give None)
    (do
      e ← deeper room 13 true
      give (Some e))

-- the same, and the mark
unfoldable pub for_part : ℕ → List ℕ → Rule (Option Tree)
for_part room stop = do
  e ← perhaps room stop
  part.mark stop
  give e

-- `for (FIRST; CONDITION; LAST)`
unfoldable pub for_head : ℕ → Rule ForHead
for_head room = do
  f ← for_start room
  c ← for_part room (codes ";")
  n ← for_part room (codes ")")
  give (record { first = f; condition = c; last = n })

unfoldable pub for_do : ℕ → Rule Tree → Rule Tree
for_do room within = do
  at ← part.place
  head ← for_head room
  s ← within
  give (for_tree at head s)

-- `case EXPRESSION` or `default`
unfoldable pub case_label : ℕ → Rule (Option Tree)
case_label room = when (next_key (codes "case"))
    (do
      part.key (codes "case")
      e ← expression room 13 false
      give (Some e))
    (do
      part.key (codes "default")
      give None)

unfoldable pub case_of : ℕ → Rule Tree → Rule Tree
case_of room within = do
  at ← part.place
  l ← case_label room
  part.mark (codes ":")
  body ← statements within
  give (case_tree at l body)

abbrev pub next_case : List Token → Bool
next_case tokens = next_key (codes "case") tokens || next_key (codes "default") tokens

unfoldable pub cases : ℕ → Rule Tree → Rule (List Tree)
cases room within = many next_case (case_of room within)

unfoldable pub switch : ℕ → Rule Tree → Rule Tree
switch room within = do
  at ← part.place
  part.key (codes "switch")
  e ← condition room
  part.mark (codes "{")
  cs ← cases room within
  part.mark (codes "}")
  give (Part (label.Switch at) e (row cs))

-- `while`, `do`, `for` or `switch`, or a statement with no other one within it
unfoldable pub looped : ℕ → Rule Tree → Rule Tree
looped room within =
    when (next_key (codes "while")) (while_do room within)
    (when (next_key (codes "do")) (do_while room within)
    (when (next_key (codes "for")) (for_do room within)
    (when (next_key (codes "switch")) (switch room within)
    (plain room))))

unfoldable pub statement_of : ℕ → Rule Tree → Rule Tree
statement_of room within =
    when (next_mark (codes "{")) (block within)
    (when (next_key (codes "if")) (if_else room within)
    (looped room within))

-- a statement within another one, where there is room
unfoldable pub inner : ℕ → Rule Tree
inner zero = nothing
inner (suc room) = statement_of room (inner room)

-- a statement in which so many constructs may be opened one within the other
abbrev pub statement : ℕ → Rule Tree
statement room = statement_of room (inner room)
