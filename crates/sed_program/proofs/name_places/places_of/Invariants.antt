use Rattle.sed_program.proofs.Noted.{ArePlaced}
use Rattle.sed_program.proofs.name_places.places_of.Given as goal

-- the classes so far
abbrev pub invariant-loop-class : goal.invariant-loop-class
invariant-loop-class l = ArePlaced l.part l.classes l.class l.all.items
