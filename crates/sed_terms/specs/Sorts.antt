-- The kinds of terms, and what a term comes to that is no value.
use Rattle.std.specs.Prelude.{Bool, true, false, List, [], ◌∷◌}
use Rattle.sed_typed.specs.declared.kind.Kind.{Kind}
use Rattle.sed_typed.specs.declared.kind.Kind.TheVariants as kind
use Rattle.sed_typed.specs.Kinds.{read_kind, unary_kind, binary_kind, text_kind}
use Rattle.sed_terms.specs.declared.sign.Sign.TheVariants as sign
use Rattle.sed_terms.specs.declared.sort.Sort.{Sort}
use Rattle.sed_terms.specs.declared.sort.Sort.TheVariants.{Of, Nothing, Array, Buf, Bytes}
use Rattle.sed_terms.specs.Term.{Term, Node}

-- the kind of an expression; a pair has that of its first part
abbrev pub term_kind : Term → Kind
term_kind (Node sign.Pair a b) = term_kind a
term_kind (Node (sign.Int n) a b) = kind.Int
term_kind (Node (sign.Long n) a b) = kind.Long
term_kind (Node (sign.Bool t) a b) = kind.Bool
term_kind (Node (sign.Null k) a b) = k
term_kind (Node (sign.Text n) a b) = kind.Text
term_kind (Node (sign.This class) a b) = kind.Object class
term_kind (Node (sign.Local k i) a b) = k
term_kind (Node (sign.Static p i) a b) = read_kind p
term_kind (Node (sign.StaticPart k i) a b) = k
term_kind (Node (sign.StaticElement p n i) a b) = read_kind p
term_kind (Node sign.Ticks a b) = kind.Long
term_kind (Node (sign.Unary op) a b) = unary_kind op
term_kind (Node sign.Choose a b) = term_kind b
term_kind (Node sign.Set a b) = term_kind a
term_kind (Node (sign.Update u) a b) = term_kind a
term_kind (Node (sign.Call k m) a b) = k
term_kind (Node (sign.Super k m) a b) = k
term_kind (Node (sign.Binary op) a b) = binary_kind op
term_kind (Node sign.And a b) = kind.Bool
term_kind (Node sign.Or a b) = kind.Bool
term_kind (Node (sign.Field p i) a b) = read_kind p
term_kind (Node (sign.Part k i) a b) = k
term_kind (Node (sign.Element p n i) a b) = read_kind p
term_kind (Node (sign.Size i) a b) = kind.Int
term_kind (Node (sign.Byte i) a b) = kind.Int
term_kind (Node (sign.Invoke k m) a b) = k
term_kind (Node (sign.TextCall op) a b) = text_kind op
term_kind (Node sign.After a b) = term_kind b
term_kind t = kind.Void

-- the kinds of a row of arguments
abbrev pub term_kinds : Term → List Kind
term_kinds (Node sign.More t rest) = term_kind t ∷ term_kinds rest
term_kinds t = []

-- what an expression of a text comes to
abbrev pub sort_of : Term → Sort
sort_of (Node sign.Nothing a b) = Nothing
sort_of (Node (sign.Array p n i) a b) = Array p
sort_of (Node (sign.StaticArray p n i) a b) = Array p
sort_of (Node (sign.Buf i) a b) = Buf
sort_of (Node (sign.Bytes i) a b) = Bytes
sort_of (Node sign.After a b) = sort_of b
sort_of t = Of (term_kind t)

abbrev pub is_kind : Sort → Bool
is_kind (Of k) = true
is_kind s = false

-- a term that comes to a value
abbrev pub is_value : Term → Bool
is_value t = is_kind (sort_of t)

-- what may be assigned to: a local, a primitive field or an element
abbrev pub is_place : Term → Bool
is_place (Node (sign.Local k i) a b) = true
is_place (Node (sign.Static p i) a b) = true
is_place (Node (sign.StaticElement p n i) a b) = true
is_place (Node (sign.Field p i) a b) = true
is_place (Node (sign.Element p n i) a b) = true
-- a static through an instance
is_place (Node sign.After a b) = is_place b
is_place t = false
