-- Text literals that spell bytes.
use Rattle.std.specs.Prelude.{ℕ, nat_lt, IsTrue, List, [], ◌∷◌}
use Rattle.std.specs.List.{list_all}
use Rattle.sed_units.specs.declared.leaves.Literal.{Literal}
use Rattle.sed_classes.specs.Literals.{text_of}

abbrev pub AreBytes : List ℕ → Type 0
AreBytes text = IsTrue (list_all (λ b. nat_lt b 256) text)

-- the literals of a row spell bytes
abbrev pub SpellBytes : List Literal → Type 0
SpellBytes [] = Unit {0}
SpellBytes (l ∷ ls) = AreBytes (text_of l.bytes) × SpellBytes ls
