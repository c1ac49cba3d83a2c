use Rattle.std.proofs.Common.{◌≡◌, drop}
use Rattle.sed_classes.specs.Members.{nearest_among}
use Rattle.sed_program.proofs.tables.Tables.nearest_among.Given as goal

-- the classes so far declare none
abbrev pub invariant-loop-class : goal.invariant-loop-class
invariant-loop-class l = nearest_among l.self l.name (drop l.class-index l.classes)
    ≡ nearest_among l.self l.name l.classes
