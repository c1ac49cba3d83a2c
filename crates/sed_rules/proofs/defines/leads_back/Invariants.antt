use Rattle.std.proofs.Common.{◌≡◌, option_map}
use Rattle.sed_classes.specs.FoundMembers.{owned_of}
use Rattle.sed_classes.specs.Values.{comes_to_member, define_leads_back}
use Rattle.sed_rules.proofs.defines.leads_back.Given as goal

-- what is left to go answers
abbrev pub invariant-follow : goal.invariant-follow
invariant-follow l =
    comes_to_member l.based l.class l.member.at l.left (option_map owned_of l.next) ≡ define_leads_back l.based l.class l.member

abbrev pub decreases-follow : goal.decreases-follow
decreases-follow l = l.left
