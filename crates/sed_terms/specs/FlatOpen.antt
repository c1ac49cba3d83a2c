-- What is held back of an expression is flat, and so is what is evaluated before it.
use Rattle.std.specs.Prelude.{Option, Some, None}
use Rattle.std.specs.Global.{Box}
use Rattle.sed_typed.specs.declared.tree.Expr.{Expr}
use Rattle.sed_typed.specs.Flat.{IsFlat}
use Rattle.sed_terms.specs.declared.open.Open.{Open}
use Rattle.sed_terms.specs.declared.open.Open.TheVariants as held

abbrev pub IsFlatOpen : Open → Type 0
IsFlatOpen (held.Value e) = IsFlat e.value
IsFlatOpen held.Nothing = Unit {0}
IsFlatOpen (held.Local k i) = Unit {0}
IsFlatOpen (held.Static p i) = Unit {0}
IsFlatOpen (held.StaticElement p n i e) = IsFlat e.value
IsFlatOpen (held.Field p e i) = IsFlat e.value
IsFlatOpen (held.Element p n e i x) = IsFlat e.value × IsFlat x.value
IsFlatOpen (held.Array p n e i) = IsFlat e.value
IsFlatOpen (held.StaticArray p n i) = Unit {0}
IsFlatOpen (held.Buf e i) = IsFlat e.value
IsFlatOpen (held.Bytes e i) = IsFlat e.value

-- a part that may be missing
abbrev pub IsFlatBox : Option (Box Expr) → Type 0
IsFlatBox None = Unit {0}
IsFlatBox (Some e) = IsFlat e.value
