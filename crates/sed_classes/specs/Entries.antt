-- The declarations that a row of entries stands for.
use Rattle.std.specs.Prelude.{List, map}
use Rattle.sed_classes.specs.declared.entry.Entry.{Entry}
use Rattle.sed_classes.specs.Declarations.{Declaration}

abbrev pub declaration_of : Entry → Declaration
declaration_of e = record { kit = e.kit; text = e.text; number = e.number; class = e.class.now }

abbrev pub declarations : List Entry → List Declaration
declarations all = map declaration_of all
