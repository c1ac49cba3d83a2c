use Rattle.std.proofs.Common.{◌≡◌, ◌-◌, length}
use Rattle.sed_parser.specs.Reading.{many_at}
use Rattle.sed_parser.proofs.Repeats.{with_front}
use Rattle.sed_parser.proofs.parser.classes.all.Given as goal

-- what was read so far and what is still read make all of it
abbrev pub invariant-loop : goal.invariant-loop
invariant-loop g l =
    with_front l.items.items (many_at g.T.Item.goes_at g.T.Item.item_at (l.most - l.counter) l.parser)
    ≡ many_at g.T.Item.goes_at g.T.Item.item_at (length l.initial.parser) l.initial.parser
