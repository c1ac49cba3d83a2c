use Rattle.std.proofs.Common.{◌≡◌, ◌-◌, ◌+◌, ◌*◌, length}
use Rattle.sed_parser.specs.Reading.{many_at}
use Rattle.sed_parser.specs.Statements.{inner, next_statement, case_of, next_case}
use Rattle.sed_parser.proofs.Repeats.{with_front}
use Rattle.sed_parser.proofs.parser.Parser.+nesting.Given as goal

-- a statement within another one has less room
abbrev pub decreases-inner : goal.decreases-inner
decreases-inner l = 10 * l.room

abbrev pub decreases-inner_statements : goal.decreases-inner_statements
decreases-inner_statements l = 10 * l.room + 1

abbrev pub decreases-other : goal.decreases-other
decreases-other l = 10 * l.room + 2

abbrev pub decreases-case_of : goal.decreases-case_of
decreases-case_of l = 10 * l.room + 2

abbrev pub decreases-cases : goal.decreases-cases
decreases-cases l = 10 * l.room + 3

abbrev pub decreases-switch : goal.decreases-switch
decreases-switch l = 10 * l.room + 4

abbrev pub decreases-block : goal.decreases-block
decreases-block l = 10 * l.room + 4

abbrev pub decreases-if_else : goal.decreases-if_else
decreases-if_else l = 10 * l.room + 4

abbrev pub decreases-while_do : goal.decreases-while_do
decreases-while_do l = 10 * l.room + 4

abbrev pub decreases-do_while : goal.decreases-do_while
decreases-do_while l = 10 * l.room + 4

abbrev pub decreases-for_do : goal.decreases-for_do
decreases-for_do l = 10 * l.room + 4

abbrev pub decreases-looped : goal.decreases-looped
decreases-looped l = 10 * l.room + 5

abbrev pub decreases-statement : goal.decreases-statement
decreases-statement l = 10 * l.room + 6

-- what was read so far and what is still read make all of it
abbrev pub invariant-inner_statements-loop : goal.invariant-inner_statements-loop
invariant-inner_statements-loop l =
    with_front l.all.items (many_at next_statement (inner l.room).reads (l.most - l.counter) l.self)
    ≡ many_at next_statement (inner l.room).reads (length l.initial.self) l.initial.self

abbrev pub invariant-cases-loop : goal.invariant-cases-loop
invariant-cases-loop l =
    with_front l.all.items (many_at next_case (case_of l.room (inner l.room)).reads (l.most - l.counter) l.self)
    ≡ many_at next_case (case_of l.room (inner l.room)).reads (length l.initial.self) l.initial.self
