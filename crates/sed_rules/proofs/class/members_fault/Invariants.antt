use Rattle.std.proofs.Common.{◌≡◌, take}
use Rattle.sed_faults.specs.Faults.{least, said_from}
use Rattle.sed_classes.specs.Entries.{declaration_of}
use Rattle.sed_classes.specs.Faults.{member_form_faults}
use Rattle.sed_rules.proofs.class.members_fault.Given as goal

-- the least of the members so far
abbrev pub invariant-loop-number : goal.invariant-loop-number
invariant-loop-number l =
    l.first
    ≡ least (said_from (member_form_faults l.based l.class (declaration_of l.entry)) 0 (take l.number l.members))
