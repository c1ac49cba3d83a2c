-- The texts of a program: what the text literals in the bodies of its methods spell, in the order of the sources,
-- each once. A text above 255 characters has no number, nor has one past the 4,096th.
use Rattle.std.specs.Prelude.{ℕ, List, [], position, Option}
use Rattle.std.specs.List.{flat_map}
use Rattle.std.specs.Option.{option_and_then}
use Rattle.std.specs.Str.{bytes_eq}
use Rattle.sed_units.specs.declared.leaves.Literal.{Literal}
use Rattle.sed_classes.specs.declared.kit_units.KitUnits.{KitUnits}
use Rattle.sed_classes.specs.Bodies.{texts_of}
use Rattle.sed_classes.specs.Declarations.{Declaration, all_classes}
use Rattle.sed_first_fault.specs.Texts.{text_spelled, with_literals}

-- the text literals in the bodies of a class
abbrev pub literals_of : Declaration → List Literal
literals_of d = flat_map texts_of d.class.members

abbrev pub program_texts : List KitUnits → List (List ℕ)
program_texts units = with_literals [] (flat_map literals_of (all_classes units))

abbrev pub number_among : List (List ℕ) → List ℕ → Option ℕ
number_among texts text = position (λ t. bytes_eq t text) texts

-- the number of what a literal spells
abbrev pub text_number : List KitUnits → List ℕ → Option ℕ
text_number units literal = option_and_then (number_among (program_texts units)) (text_spelled literal)
