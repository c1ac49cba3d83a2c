use Rattle.std.proofs.Common.{◌≡◌, ◌-◌, ◌+◌, ◌*◌, length}
use Rattle.sed_parser.specs.Reading.{many_at}
use Rattle.sed_parser.specs.Next.{next_mark}
use Rattle.std.specs.Prelude.{codes}
use Rattle.sed_parser.specs.Expressions.{deeper, expression, access, next_access, operand, next_operand, next_argument}
use Rattle.sed_parser.proofs.Repeats.{with_front}
use Rattle.sed_parser.proofs.parser.Parser.+parsing.Given as goal

-- what is deeper has less room, and what binds tighter a lower level
abbrev pub decreases-deeper : goal.decreases-deeper
decreases-deeper l = 100 * l.room

abbrev pub decreases-next_argument : goal.decreases-next_argument
decreases-next_argument l = 100 * l.room + 1

abbrev pub decreases-more_arguments : goal.decreases-more_arguments
decreases-more_arguments l = 100 * l.room + 2

abbrev pub decreases-arguments : goal.decreases-arguments
decreases-arguments l = 100 * l.room + 3

abbrev pub decreases-named : goal.decreases-named
decreases-named l = 100 * l.room + 4

abbrev pub decreases-primary : goal.decreases-primary
decreases-primary l = 100 * l.room + 5

abbrev pub decreases-access : goal.decreases-access
decreases-access l = 100 * l.room + 5

abbrev pub decreases-access_links : goal.decreases-access_links
decreases-access_links l = 100 * l.room + 6

abbrev pub decreases-postfix : goal.decreases-postfix
decreases-postfix l = 100 * l.room + 7

abbrev pub decreases-operand : goal.decreases-operand
decreases-operand l = 100 * l.room + 6 * l.level + 12

abbrev pub decreases-operand_links : goal.decreases-operand_links
decreases-operand_links l = 100 * l.room + 6 * l.level + 13

abbrev pub decreases-operands : goal.decreases-operands
decreases-operands l = 100 * l.room + 6 * l.level + 14

abbrev pub decreases-expression : goal.decreases-expression
decreases-expression l = 100 * l.room + 6 * l.level + 15

abbrev pub decreases-prefixed : goal.decreases-prefixed
decreases-prefixed l = 100 * l.room + 16

abbrev pub decreases-conditional : goal.decreases-conditional
decreases-conditional l = 100 * l.room + 82

abbrev pub decreases-assigned : goal.decreases-assigned
decreases-assigned l = 100 * l.room + 88

-- what was read so far and what is still read make all of it
abbrev pub invariant-access_links-loop : goal.invariant-access_links-loop
invariant-access_links-loop l =
    with_front l.links.items
    (many_at (next_access l.inside) (access (deeper l.room) l.inside).reads (l.most - l.counter) l.self)
    ≡ many_at (next_access l.inside) (access (deeper l.room) l.inside).reads (length l.initial.self) l.initial.self

abbrev pub invariant-operand_links-loop : goal.invariant-operand_links-loop
invariant-operand_links-loop l =
    with_front l.links.items
    (many_at (next_operand l.inside l.level) (operand l.level (expression l.room (l.level - 1) l.inside)).reads
    (l.most - l.counter) l.self)
    ≡ many_at (next_operand l.inside l.level) (operand l.level (expression l.room (l.level - 1) l.inside)).reads
    (length l.initial.self) l.initial.self

abbrev pub invariant-more_arguments-loop : goal.invariant-more_arguments-loop
invariant-more_arguments-loop l =
    with_front l.args.items
    (many_at (next_mark (codes ",")) (next_argument (deeper l.room)).reads (l.most - l.counter) l.self)
    ≡ with_front (l.initial.args.items)
    (many_at (next_mark (codes ",")) (next_argument (deeper l.room)).reads (length l.initial.self) l.initial.self)
