use Rattle.std.proofs.Common.{◌≡◌, ◌++◌}
use Rattle.sed_classes.specs.Canonical.{kit_line, types_text}
use Rattle.sed_classes.proofs.text.canonical_text.Given as goal

-- the kit's line, and the types below the number
abbrev pub invariant-loop-number : goal.invariant-loop-number
invariant-loop-number l = l.out.items ≡ kit_line l.schema l.kit ++ types_text l.schema l.kit l.number
