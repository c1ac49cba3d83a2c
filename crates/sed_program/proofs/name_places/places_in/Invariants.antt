use Rattle.sed_program.specs.Parts.{is_of}
use Rattle.sed_program.proofs.Noted.{IsNoted}
use Rattle.sed_program.proofs.name_places.places_in.Given as goal

-- the places of the names of the members from here on
abbrev pub invariant-backwards : goal.invariant-backwards
invariant-backwards l = IsNoted (is_of l.part) l.members l.left l.before l.places.items

abbrev pub decreases-backwards : goal.decreases-backwards
decreases-backwards l = l.left
