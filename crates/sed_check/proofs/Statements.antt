-- Statements that the grammar derives keep their tokens' literals.
use Rattle.std.proofs.Common.{ℕ, zero, suc, true, false, IfSome, List, Option, Some, None, codes}
use Rattle.sed_units.specs.declared.statements.Local.{Local}
use Rattle.sed_units.specs.declared.statements.ForHead.{ForHead}
use Rattle.sed_units.specs.declared.statements.ForFirst.{ForFirst}
use Rattle.sed_units.specs.Tree.{Tree}
use Rattle.sed_units.specs.StatementTree.{first_tree, case_tree}
use Rattle.sed_parser.specs.Rule.{Rule}
use Rattle.sed_parser.specs.Leaves as part
use Rattle.sed_parser.specs.Expressions.{expression, deeper}
use Rattle.sed_parser.specs.Statements.{on_line, local_value, local, return_value, local_statement, expression_statement, return_statement, valued, plain, condition, next_statement, statements, block, other, if_else, while_do, do_while, for_local, for_evaluate, for_first, for_start, perhaps, for_part, for_head, for_do, case_label, case_of, next_case, cases, switch, looped, statement_of, inner, statement}
use Rattle.sed_check.proofs.Kept.{Each, Keeps, gives, nothing, in_order, past, either, several}
use Rattle.sed_check.proofs.Trees.{IsLexedTree, lexed_row, lexed_optional}
use Rattle.sed_check.proofs.Expressions.{Kept, AllKept, deeper_kept, expression_kept}

-- a part that may be missing
abbrev IsLexedPart : Option Tree → Type 0
IsLexedPart o = IfSome o IsLexedTree

abbrev PartKept : Rule (Option Tree) → Type 0
PartKept p = Keeps p.holds IsLexedPart

-- ---- statements with no other one within them

local_value_kept : (value : Rule Tree) → Kept value → PartKept (local_value value)
unfolding local_value
local_value_kept value k = either
    (past (part.mark (codes "=")) (λ u. in_order k (λ e h. gives h)))
    (gives tt)

abbrev IsLexedLocal : Local → Type 0
IsLexedLocal l = IsLexedPart l.value

local_kept : (value : Rule Tree) → Kept value → Keeps (local value).holds IsLexedLocal
unfolding local
local_kept value k = past part.place (λ at. past part.type_of (λ kind. past on_line (λ u. past part.ident (λ name.
    in_order (local_value_kept value k) (λ initial h. gives h)))))

return_value_kept : (room : ℕ) → PartKept (return_value room)
unfolding return_value
return_value_kept room = either (gives tt) (in_order (expression_kept room 13 false) (λ e h. gives h))

local_statement_kept : (room : ℕ) → Kept (local_statement room)
unfolding local_statement
local_statement_kept room = in_order (local_kept (expression room 13 false) (expression_kept room 13 false)) (λ l h.
    past part.end (λ u. gives (tt, lexed_optional l.value h, tt)))

expression_statement_kept : (room : ℕ) → Kept (expression_statement room)
unfolding expression_statement
expression_statement_kept room = past part.place (λ at. in_order (expression_kept room 13 false) (λ e h.
    past part.end (λ u. gives (tt, h, tt))))

return_statement_kept : (room : ℕ) → Kept (return_statement room)
unfolding return_statement
return_statement_kept room = past part.place (λ at. past (part.key (codes "return")) (λ u.
    in_order (return_value_kept room) (λ value h. past part.end (λ v. gives (tt, lexed_optional value h, tt)))))

valued_kept : (room : ℕ) → Kept (valued room)
unfolding valued
valued_kept room = either (return_statement_kept room)
    (either (local_statement_kept room) (expression_statement_kept room))

plain_kept : (room : ℕ) → Kept (plain room)
unfolding plain
plain_kept room = past part.place (λ at. either
    (past (part.mark (codes ";")) (λ u. gives (tt, tt, tt)))
    (either
    (past (part.key (codes "break")) (λ u. past part.end (λ v. gives (tt, tt, tt))))
    (either
    (past (part.key (codes "continue")) (λ u. past part.end (λ v. gives (tt, tt, tt))))
    (valued_kept room))))

-- ---- statements with others within them

condition_kept : (room : ℕ) → Kept (condition room)
unfolding condition
condition_kept room = past (part.mark (codes "(")) (λ u. in_order (deeper_kept room 13 true) (λ e h.
    past (part.mark (codes ")")) (λ v. gives h)))

pub statements_kept : (within : Rule Tree) → Kept within → AllKept (statements within)
unfolding statements
statements_kept within k = several next_statement k

block_kept : (within : Rule Tree) → Kept within → Kept (block within)
unfolding block
block_kept within k = past part.place (λ at. past (part.mark (codes "{")) (λ u.
    in_order (statements_kept within k) (λ ss h. past (part.mark (codes "}")) (λ v. gives (tt, lexed_row ss h, tt)))))

other_kept : (within : Rule Tree) → Kept within → PartKept (other within)
unfolding other
other_kept within k = either
    (past (part.key (codes "else")) (λ u. in_order k (λ s h. gives h)))
    (gives tt)

if_kept : (room : ℕ) (within : Rule Tree) → Kept within → Kept (if_else room within)
unfolding if_else
if_kept room within k = past part.place (λ at. past (part.key (codes "if")) (λ u.
    in_order (condition_kept room) (λ c x. in_order k (λ s y. in_order (other_kept within k) (λ t z.
    gives (tt, x, (tt, y, lexed_optional t z)))))))

while_kept : (room : ℕ) (within : Rule Tree) → Kept within → Kept (while_do room within)
unfolding while_do
while_kept room within k = past part.place (λ at. past (part.key (codes "while")) (λ u.
    in_order (condition_kept room) (λ c x. in_order k (λ s y. gives (tt, x, y)))))

do_kept : (room : ℕ) (within : Rule Tree) → Kept within → Kept (do_while room within)
unfolding do_while
do_kept room within k = past part.place (λ at. past (part.key (codes "do")) (λ u. in_order k (λ s x.
    past (part.key (codes "while")) (λ v. in_order (condition_kept room) (λ c y.
    past part.end (λ w. gives (tt, x, y)))))))

-- ---- `for`

abbrev IsLexedFirst : ForFirst → Type 0
IsLexedFirst f = IsLexedTree (first_tree f)

for_local_kept : (room : ℕ) → Keeps (for_local room).holds IsLexedFirst
unfolding for_local
for_local_kept room = in_order (local_kept (deeper room 13 true) (deeper_kept room 13 true)) (λ l h.
    past (part.mark (codes ";")) (λ u. gives (tt, lexed_optional l.value h, tt)))

for_evaluate_kept : (room : ℕ) → Keeps (for_evaluate room).holds IsLexedFirst
unfolding for_evaluate
for_evaluate_kept room = in_order (deeper_kept room 13 true) (λ e h. past (part.mark (codes ";")) (λ u. gives h))

for_first_kept : (room : ℕ) → Keeps (for_first room).holds IsLexedFirst
unfolding for_first
for_first_kept room = either (past (part.mark (codes ";")) (λ u. gives tt))
    (either (for_local_kept room) (for_evaluate_kept room))

for_start_kept : (room : ℕ) → Keeps (for_start room).holds IsLexedFirst
unfolding for_start
for_start_kept room = past (part.key (codes "for")) (λ u. past (part.mark (codes "(")) (λ v. for_first_kept room))

perhaps_kept : (room : ℕ) (stop : List ℕ) → PartKept (perhaps room stop)
unfolding perhaps
perhaps_kept room stop = either (gives tt) (in_order (deeper_kept room 13 true) (λ e h. gives h))

for_part_kept : (room : ℕ) (stop : List ℕ) → PartKept (for_part room stop)
unfolding for_part
for_part_kept room stop = in_order (perhaps_kept room stop) (λ e h. past (part.mark stop) (λ u. gives h))

record IsLexedHead (head : ForHead) : Type 0 where
  pub first : IsLexedFirst head.first
  pub condition : IsLexedPart head.condition
  pub last : IsLexedPart head.last

for_head_kept : (room : ℕ) → Keeps (for_head room).holds IsLexedHead
unfolding for_head
for_head_kept room = in_order (for_start_kept room) (λ f x. in_order (for_part_kept room (codes ";")) (λ c y.
    in_order (for_part_kept room (codes ")")) (λ n z. gives (record { first = x; condition = y; last = z }))))

for_kept : (room : ℕ) (within : Rule Tree) → Kept within → Kept (for_do room within)
unfolding for_do
for_kept room within k = past part.place (λ at. in_order (for_head_kept room) (λ head h. in_order k (λ s x.
    gives (tt, (tt, h.first, lexed_optional head.condition h.condition), (tt, lexed_optional head.last h.last, x)))))

-- ---- `switch`

case_label_kept : (room : ℕ) → PartKept (case_label room)
unfolding case_label
case_label_kept room = either
    (past (part.key (codes "case")) (λ u. in_order (expression_kept room 13 false) (λ e h. gives h)))
    (past (part.key (codes "default")) (λ u. gives tt))

lexed_case : (at : ℕ) (l : Option Tree) (body : List Tree) → IsLexedPart l → Each IsLexedTree body
    → IsLexedTree (case_tree at l body)
lexed_case at None body h hs = (tt, lexed_row body hs, tt)
lexed_case at (Some e) body h hs = (tt, h, lexed_row body hs)

case_kept : (room : ℕ) (within : Rule Tree) → Kept within → Kept (case_of room within)
unfolding case_of
case_kept room within k = past part.place (λ at. in_order (case_label_kept room) (λ l x.
    past (part.mark (codes ":")) (λ u. in_order (statements_kept within k) (λ body y.
    gives (lexed_case at l body x y)))))

cases_kept : (room : ℕ) (within : Rule Tree) → Kept within → AllKept (cases room within)
unfolding cases
cases_kept room within k = several next_case (case_kept room within k)

switch_kept : (room : ℕ) (within : Rule Tree) → Kept within → Kept (switch room within)
unfolding switch
switch_kept room within k = past part.place (λ at. past (part.key (codes "switch")) (λ u.
    in_order (condition_kept room) (λ e x. past (part.mark (codes "{")) (λ v.
    in_order (cases_kept room within k) (λ cs y. past (part.mark (codes "}")) (λ w. gives (tt, x, lexed_row cs y)))))))

-- ---- all statements

looped_kept : (room : ℕ) (within : Rule Tree) → Kept within → Kept (looped room within)
unfolding looped
looped_kept room within k = either (while_kept room within k) (either (do_kept room within k)
    (either (for_kept room within k) (either (switch_kept room within k) (plain_kept room))))

statement_of_kept : (room : ℕ) (within : Rule Tree) → Kept within → Kept (statement_of room within)
unfolding statement_of
statement_of_kept room within k = either (block_kept within k)
    (either (if_kept room within k) (looped_kept room within k))

inner_kept : (room : ℕ) → Kept (inner room)
unfolding inner
inner_kept zero = nothing
inner_kept (suc room) = statement_of_kept room (inner room) (inner_kept room)

pub statement_kept : (room : ℕ) → Kept (statement room)
statement_kept room = statement_of_kept room (inner room) (inner_kept room)
