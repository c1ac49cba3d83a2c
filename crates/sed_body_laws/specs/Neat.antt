-- Terms in which nothing stands where a node has no part, and of how many nodes a term is.
use Rattle.std.specs.Prelude.{◌≡◌, ℕ, suc, ◌+◌, Bool, true, false}
use Rattle.sed_terms.specs.declared.sign.Sign.{Sign}
use Rattle.sed_terms.specs.declared.sign.Sign.TheVariants as sign
use Rattle.sed_terms.specs.Term.{Term, Absent, Node}

-- a node of the sign has a first part
abbrev pub has_first : Sign → Bool
has_first (sign.Int n) = false
has_first (sign.Long n) = false
has_first (sign.Bool t) = false
has_first (sign.Null k) = false
has_first (sign.Text n) = false
has_first (sign.This class) = false
has_first (sign.Local k i) = false
has_first (sign.Static p i) = false
has_first (sign.StaticPart k i) = false
has_first sign.Ticks = false
has_first sign.Nothing = false
has_first (sign.StaticArray p n i) = false
has_first sign.Empty = false
has_first sign.Break = false
has_first sign.Continue = false
has_first s = true

-- and a second one
abbrev pub has_second : Sign → Bool
has_second sign.More = true
has_second sign.Pair = true
has_second sign.Choose = true
has_second sign.Set = true
has_second (sign.Update u) = true
has_second (sign.Binary op) = true
has_second sign.And = true
has_second sign.Or = true
has_second (sign.Element p n i) = true
has_second (sign.Byte i) = true
has_second (sign.Invoke k m) = true
has_second (sign.TextCall op) = true
has_second sign.After = true
has_second sign.If = true
has_second sign.While = true
has_second sign.DoWhile = true
has_second sign.For = true
has_second sign.Switch = true
has_second (sign.Label l) = true
has_second s = false

-- where no part may stand nothing does
abbrev pub IsPart : Bool → Term → Type 0
IsPart true t = Unit {0}
IsPart false t = t ≡ Absent

abbrev pub IsNeat : Term → Type 0
IsNeat Absent = Unit {0}
IsNeat (Node s a b) = IsPart (has_first s) a × IsPart (has_second s) b × IsNeat a × IsNeat b

-- how many nodes it has
abbrev pub term_size : Term → ℕ
term_size Absent = 0
term_size (Node s a b) = suc (term_size a + term_size b)
