-- Where expressions begin, and which of them may name a place.
use Rattle.std.specs.Prelude.{ℕ, Bool, true, false}
use Rattle.sed_units.specs.Tree.{Tree, Absent, Part}
use Rattle.sed_units.specs.declared.label.Label.{Label}
use Rattle.sed_units.specs.declared.label.Label.TheVariants as label

-- the place of an expression's first byte
abbrev pub label_at : Label → ℕ
label_at (label.Literal l) = l.at
label_at (label.This at) = at
label_at (label.Super at id) = at
label_at (label.Name id) = id.at
label_at (label.Of kit id) = kit.at
label_at (label.Call id) = id.at
label_at (label.Paren at) = at
label_at (label.Prefix at op) = at
label_at (label.Cast at kind) = at
label_at (label.Chain at) = at
label_at (label.Update at op) = at
label_at (label.Conditional at) = at
label_at (label.Assign at op) = at
label_at l = 0

abbrev pub place_of : Tree → ℕ
place_of Absent = 0
place_of (Part l a b) = label_at l

-- The tree of an expression is never empty.
abbrev pub is_part : Tree → Bool
is_part Absent = false
is_part (Part l a b) = true

-- A cast names no place, whatever is cast. Parentheses change nothing.
abbrev pub may_name : Tree → Bool
may_name (Part (label.Cast at kind) x y) = false
may_name (Part (label.Paren at) x y) = may_name x
may_name t = true
