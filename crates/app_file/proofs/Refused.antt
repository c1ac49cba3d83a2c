-- A command that is not refused, and tables of which no row holds.
use Rattle.std.proofs.Common.{◌≡◌, Bool, true, false, refl}
use Rattle.std.specs.Prelude.{Option, Some, None, Result, Ok, Err, IsTrue, not, List, [], ◌∷◌, if◌then◌else◌}
use Rattle.sed_value.specs.declared.refusal.Refusal.{Refusal}
use Rattle.comp_tree.specs.Edit.{Edited, unless_refused}
use Rattle.comp_tree.specs.Refusals.{first_refusal}

-- a command that comes to something is not refused, and comes to what follows
pub allowed : (r : Option Refusal) (x e : Edited) → unless_refused r x ≡ Ok e → (r ≡ None) × (x ≡ e)
allowed None x e is = (refl, let same : x ≡ e = cc in same)
allowed (Some refusal) x e is = absurd (no refusal is)
  where
    no : (refusal : Refusal) → ◌≡◌ {A = Result Edited Refusal} (Err refusal) (Ok e) → ⊥
    no refusal is = cc

-- ---- a table of which no row holds

none_if : (b : Bool) (r : Refusal) (rest : Option Refusal) → (if b then Some r else rest) ≡ None → (b ≡ false) × (rest ≡ None)
none_if true r rest h = absurd (some_none r h)
  where
    some_none : (r : Refusal) → ◌≡◌ {A = Option Refusal} (Some r) None → ⊥
    some_none r h = cc
none_if false r rest h = (refl, h)

-- each row's condition is false
abbrev pub AllFalse : List (Bool × Refusal) → Type 0
AllFalse [] = Unit {0}
AllFalse (row ∷ rows) = (row.0 ≡ false) × AllFalse rows

pub all_false : (rows : List (Bool × Refusal)) → first_refusal rows ≡ None → AllFalse rows
all_false [] h = tt {0}
all_false (row ∷ rows) h =
    let e : (row.0 ≡ false) × (first_refusal rows ≡ None) = none_if row.0 row.1 (first_refusal rows) h in
    (e.0, all_false rows e.1)

pub not_false : (b : Bool) → not b ≡ false → IsTrue b
not_false true h = refl
not_false false h = absurd cc
