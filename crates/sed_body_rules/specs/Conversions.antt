-- Which values go to which places, and what two operands have in common.
use Rattle.std.specs.Prelude.{ℕ, ◌==◌, Bool, true, false, ◌||◌, if◌then◌else◌, Option, Some, None}
use Rattle.sed_typed.specs.declared.kind.Kind.{Kind}
use Rattle.sed_typed.specs.declared.kind.Kind.TheVariants as kind
use Rattle.sed_typed.specs.declared.operators.Unary.TheVariants as unary
use Rattle.sed_typed.specs.declared.operators.Width.{Width}
use Rattle.sed_typed.specs.declared.operators.Width.TheVariants as width
use Rattle.sed_terms.specs.declared.sign.Sign.TheVariants as sign
use Rattle.sed_terms.specs.declared.sort.Sort.{Sort}
use Rattle.sed_terms.specs.declared.sort.Sort.TheVariants.{Of, Nothing}
use Rattle.sed_terms.specs.Term.{Term, Absent, Node, leaf}
use Rattle.sed_terms.specs.Sorts.{sort_of, term_kind}

-- ---- what a sort is

abbrev pub is_number : Sort → Bool
is_number (Of kind.Int) = true
is_number (Of kind.Long) = true
is_number s = false

abbrev pub is_int : Sort → Bool
is_int (Of kind.Int) = true
is_int s = false

abbrev pub is_long : Sort → Bool
is_long (Of kind.Long) = true
is_long s = false

abbrev pub is_bool : Sort → Bool
is_bool (Of kind.Bool) = true
is_bool s = false

-- an object or a Str
abbrev pub is_reference : Sort → Bool
is_reference (Of kind.Text) = true
is_reference (Of (kind.Object class)) = true
is_reference s = false

-- a value, or `null`: no array, and nothing of a Buf
abbrev pub is_operand : Sort → Bool
is_operand (Of k) = true
is_operand Nothing = true
is_operand s = false

abbrev pub same_kind : Kind → Kind → Bool
same_kind kind.Void kind.Void = true
same_kind kind.Bool kind.Bool = true
same_kind kind.Int kind.Int = true
same_kind kind.Long kind.Long = true
same_kind kind.Text kind.Text = true
same_kind (kind.Object c) (kind.Object d) = c.0 == d.0
same_kind a b = false

-- ---- widths

-- the width of a number
abbrev pub width_of : Term → Width
width_of t = if is_long (sort_of t) then width.Long else width.Int

-- the width in which two numbers meet: a long, where one of them is
abbrev pub meeting : Term → Term → Width
meeting x y = if is_long (sort_of x) || is_long (sort_of y) then width.Long else width.Int

-- a number in a width: an int goes to a long by itself
abbrev pub lengthened : Kind → Width → Term → Term
lengthened kind.Int width.Long t = Node (sign.Unary unary.ToLong) t Absent
lengthened k w t = t

abbrev pub in_width : Width → Term → Term
in_width w t = lengthened (term_kind t) w t

-- ---- `null`

-- `null` in a place of a kind: a bool has a third value, and an object or a Str may be missing
abbrev pub null_in : Kind → Option Term
null_in kind.Bool = Some (leaf (sign.Bool 2))
null_in kind.Text = Some (leaf (sign.Null kind.Text))
null_in (kind.Object class) = Some (leaf (sign.Null (kind.Object class)))
null_in k = None

abbrev pub or_itself : Option Term → Term → Term
or_itself (Some n) t = n
or_itself None t = t

-- `null` alone against alone is a reference, of the class on which all others are based
abbrev pub null_alone : Term
null_alone = leaf (sign.Null (kind.Object (record { 0 = 0 })))

-- An operand beside another one, by what both come to, the other first: `null` has the kind of the other one.
abbrev pub beside : Sort → Sort → Term → Term
beside (Of k) Nothing t = or_itself (null_in k) t
beside Nothing Nothing t = null_alone
beside other own t = t

-- ---- places

-- A value of a kind in a place of another: equal, an int in a long, an object in a place of its class or one above it.
-- `below above class` says that the class is `above` or below it.
abbrev pub converted : (ℕ → ℕ → Bool) → Kind → Kind → Term → Option Term
converted below kind.Long kind.Int t = Some (Node (sign.Unary unary.ToLong) t Absent)
converted below (kind.Object above) (kind.Object class) t = if below above.0 class.0 then Some t else None
converted below to from t = if same_kind to from then Some t else None

abbrev pub placed_by : (ℕ → ℕ → Bool) → Kind → Sort → Term → Option Term
placed_by below to (Of from) t = converted below to from t
placed_by below to Nothing t = null_in to
placed_by below to s t = None

-- what stands in a place of a kind, if the expression goes there
abbrev pub placed : (ℕ → ℕ → Bool) → Kind → Term → Option Term
placed below to t = placed_by below to (sort_of t) t
