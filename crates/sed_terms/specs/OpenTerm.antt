-- The term of an expression whose last access is held back.
use Rattle.std.specs.Prelude.{Bool, true, false, Option, Some, None}
use Rattle.std.specs.Global.{Box}
use Rattle.sed_typed.specs.declared.tree.Expr.{Expr}
use Rattle.sed_terms.specs.declared.open.Open.{Open}
use Rattle.sed_terms.specs.declared.open.Open.TheVariants as held
use Rattle.sed_terms.specs.declared.sign.Sign.TheVariants as sign
use Rattle.sed_terms.specs.Forms.{evaluated_after}
use Rattle.sed_terms.specs.Term.{Term, Absent, Node, leaf}
use Rattle.sed_terms.specs.Seen.{term_of}

abbrev pub open_term : Open → Term
open_term (held.Value e) = term_of e.value
open_term held.Nothing = leaf sign.Nothing
open_term (held.Local k i) = leaf (sign.Local k i)
open_term (held.Static p i) = leaf (sign.Static p i)
open_term (held.StaticElement p n i e) = Node (sign.StaticElement p n i) (term_of e.value) Absent
open_term (held.Field p e i) = Node (sign.Field p i) (term_of e.value) Absent
open_term (held.Element p n e i x) = Node (sign.Element p n i) (term_of e.value) (term_of x.value)
open_term (held.Array p n e i) = Node (sign.Array p n i) (term_of e.value) Absent
open_term (held.StaticArray p n i) = leaf (sign.StaticArray p n i)
open_term (held.Buf e i) = Node (sign.Buf i) (term_of e.value) Absent
open_term (held.Bytes e i) = Node (sign.Bytes i) (term_of e.value) Absent

-- what becomes a place
abbrev pub is_open : Open → Bool
is_open (held.Value e) = false
is_open held.Nothing = false
is_open (held.Local k i) = true
is_open (held.Static p i) = true
is_open (held.StaticElement p n i e) = true
is_open (held.Field p e i) = true
is_open (held.Element p n e i x) = true
is_open (held.Array p n e i) = false
is_open (held.StaticArray p n i) = false
is_open (held.Buf e i) = false
is_open (held.Bytes e i) = false

-- a static through an instance, which is evaluated before it
abbrev pub behind : Option (Box Expr) → Term → Term
behind None t = t
behind (Some e) t = Node sign.After (term_of e.value) t

-- what is evaluated of it behind that instance
abbrev pub evaluated_behind : Option (Box Expr) → Term → Term
evaluated_behind None t = t
evaluated_behind (Some e) t = evaluated_after (term_of e.value) t

-- a part that may be missing
abbrev pub optional_boxed : Option (Box Expr) → Term
optional_boxed None = Absent
optional_boxed (Some e) = term_of e.value
