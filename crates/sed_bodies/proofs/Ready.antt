-- What is found of an expression and sound: a typed term, or what becomes one as a place or with a link behind it.
use Rattle.std.proofs.Common.{◌≡◌, ℕ, ◌<◌, true, false, ◌||◌, if◌then◌else◌, List, length, slice_get, Option, Some, None, IfSome, IsSomeAnd, refl, sym, subst, ◌∙◌}
use Rattle.sed_value.specs.declared.slot_type.Primitive.{Primitive}
use Rattle.sed_value.specs.declared.slot_type.Primitive.TheVariants as prim
use Rattle.sed_typed.specs.declared.kind.Kind.{Kind}
use Rattle.sed_typed.specs.declared.kind.Kind.TheVariants as kind
use Rattle.sed_typed.specs.declared.operators.Binary.{Binary}
use Rattle.sed_typed.specs.declared.operators.Binary.TheVariants as binary
use Rattle.sed_typed.specs.declared.operators.TextCall.{TextCall}
use Rattle.sed_typed.specs.declared.operators.TextCall.TheVariants as texts
use Rattle.sed_typed.specs.declared.operators.Unary.{Unary}
use Rattle.sed_typed.specs.declared.operators.Unary.TheVariants as unary
use Rattle.sed_typed.specs.declared.operators.Width.{Width}
use Rattle.sed_typed.specs.declared.operators.Width.TheVariants as width
use Rattle.sed_typed.specs.declared.program.Method.{Method}
use Rattle.sed_typed.specs.Kinds.{read_kind, width_kind, unary_kind, binary_kind, text_kind}
use Rattle.sed_typed.specs.TypedExpr.{Context, IsKindOf, IsCallOf, IsStaticCall, IsInvocation}
use Rattle.sed_terms.specs.declared.sign.Sign.TheVariants as sign
use Rattle.sed_terms.specs.declared.sort.Sort.{Sort}
use Rattle.sed_terms.specs.declared.sort.Sort.TheVariants.{Of}
use Rattle.sed_terms.specs.SortKind.{kind_in}
use Rattle.sed_terms.specs.Sorts.{sort_of, term_kind, term_kinds, is_value}
use Rattle.sed_terms.specs.Term.{Term, Node}
use Rattle.sed_terms.specs.TypedTerm.{IsTerm, IsTermPlace}
use Rattle.sed_bodies.specs.Inside.{IsReady, HasKinds}
use Rattle.sed_body_rules.specs.Conversions.{is_number, is_int, is_long, is_bool, width_of, meeting, lengthened, in_width}

-- a value is typed
pub ready_value : (c : Context) (t : Term) → IsReady c t → is_value t ≡ true → IsTerm c t
ready_value c (Node sign.Nothing a b) h v = absurd (let k : false ≡ true = v in cc)
ready_value c (Node (sign.Array p n i) x b) h v = absurd (let k : false ≡ true = v in cc)
ready_value c (Node (sign.StaticArray p n i) a b) h v = absurd (let k : false ≡ true = v in cc)
ready_value c (Node (sign.Buf i) x b) h v = absurd (let k : false ≡ true = v in cc)
ready_value c (Node (sign.Bytes i) x b) h v = absurd (let k : false ≡ true = v in cc)
ready_value c (Node sign.After x t) h v = (h.0, ready_value c t h.1 v)
ready_value c t h v = h.0

-- ---- the kinds of typed terms are the program's

read_kind_of : (c : Context) (p : Primitive) → IsKindOf c.program (read_kind p)
read_kind_of c prim.Bool = tt
read_kind_of c prim.Byte = tt
read_kind_of c prim.Short = tt
read_kind_of c prim.Int = tt
read_kind_of c prim.Long = tt

width_kind_of : (c : Context) (w : Width) → IsKindOf c.program (width_kind w)
width_kind_of c width.Int = tt
width_kind_of c width.Long = tt

unary_kind_of : (c : Context) (o : Unary) → IsKindOf c.program (unary_kind o)
unary_kind_of c unary.Not = tt
unary_kind_of c (unary.Negate w) = width_kind_of c w
unary_kind_of c (unary.Flip w) = width_kind_of c w
unary_kind_of c unary.ToLong = tt
unary_kind_of c unary.ToInt = tt
unary_kind_of c (unary.LowByte w) = tt
unary_kind_of c (unary.LowShort w) = tt

binary_kind_of : (c : Context) (o : Binary) → IsKindOf c.program (binary_kind o)
binary_kind_of c (binary.Arithmetic a w) = width_kind_of c w
binary_kind_of c (binary.Compare o w) = tt
binary_kind_of c binary.SameTruth = tt
binary_kind_of c binary.OtherTruth = tt
binary_kind_of c binary.SameReference = tt
binary_kind_of c binary.OtherReference = tt

text_kind_of : (c : Context) (o : TextCall) → IsKindOf c.program (text_kind o)
text_kind_of c texts.Length = tt
text_kind_of c texts.Get = tt
text_kind_of c texts.Set = tt
text_kind_of c texts.Equals = tt
text_kind_of c texts.Copy = tt

-- of a method that is called
result_kind : (c : Context) → HasKinds c → (m : ℕ) (k : Kind) → IsSomeAnd (slice_get c.program.methods m) (λ x. x.result ≡ k) → IsKindOf c.program k
result_kind c h m k s = at (slice_get c.program.methods m) (h.results m) s
  where
    at : (o : Option Method) → IfSome o (λ x. IsKindOf c.program x.result) → IsSomeAnd o (λ x. x.result ≡ k) → IsKindOf c.program k
    at (Some x) g e = subst (λ (q : Kind). IsKindOf c.program q) e g
    at None g e = absurd e

static_result : (c : Context) (m : ℕ) (k : Kind) (args : List Kind) → IsStaticCall c.program m k args → IsSomeAnd (slice_get c.program.methods m) (λ x. x.result ≡ k)
static_result c m k args s = at (slice_get c.program.methods m) s
  where
    at : (o : Option Method) → IsSomeAnd o (λ x. (x.is_static ≡ true) × IsCallOf c.program x k args) → IsSomeAnd o (λ x. x.result ≡ k)
    at (Some x) g = g.1.gives
    at None g = absurd g

invoked_result : (c : Context) (class : Option ℕ) (m : ℕ) (k : Kind) (args : List Kind) → IsInvocation c.program class m k args →
    IsSomeAnd (slice_get c.program.methods m) (λ x. x.result ≡ k)
invoked_result c class m k args s = at (slice_get c.program.methods m) s.1
  where
    at : (o : Option Method) → IsSomeAnd o (λ x. (x.is_static ≡ false) × IsCallOf c.program x k args) → IsSomeAnd o (λ x. x.result ≡ k)
    at (Some x) g = g.1.gives
    at None g = absurd g

pub place_kind_of : (c : Context) → HasKinds c → (t : Term) → IsTermPlace c t → IsKindOf c.program (term_kind t)
place_kind_of c h (Node (sign.Local k i) a b) p = h.locals i k p.0
place_kind_of c h (Node (sign.Static q i) a b) p = read_kind_of c q
place_kind_of c h (Node (sign.StaticElement q n i) a b) p = read_kind_of c q
place_kind_of c h (Node (sign.Field q i) a b) p = read_kind_of c q
place_kind_of c h (Node (sign.Element q n i) a b) p = read_kind_of c q
place_kind_of c h t p = absurd p

pub kind_of_term : (c : Context) → HasKinds c → (t : Term) → IsTerm c t → IsKindOf c.program (term_kind t)
kind_of_term c h (Node (sign.Int n) a b) p = tt
kind_of_term c h (Node (sign.Long n) a b) p = tt
kind_of_term c h (Node (sign.Bool t) a b) p = tt
kind_of_term c h (Node (sign.Null k) a b) p = p.1
kind_of_term c h (Node (sign.Text n) a b) p = tt
kind_of_term c h (Node (sign.This class) a b) p = subst (λ (n : ℕ). n < length c.program.schema.classes) (sym p.1) h.class
kind_of_term c h (Node (sign.Local k i) a b) p = h.locals i k p
kind_of_term c h (Node (sign.Static q i) a b) p = read_kind_of c q
kind_of_term c h (Node (sign.StaticPart k i) a b) p = h.statics i k p
kind_of_term c h (Node (sign.StaticElement q n i) a b) p = read_kind_of c q
kind_of_term c h (Node sign.Ticks a b) p = tt
kind_of_term c h (Node (sign.Unary o) a b) p = unary_kind_of c o
kind_of_term c h (Node sign.Choose t (Node sign.Pair a b)) p = kind_of_term c h a p.1
kind_of_term c h (Node sign.Set target e) p = place_kind_of c h target p.0
kind_of_term c h (Node (sign.Update u) target e) p = place_kind_of c h target p.0
kind_of_term c h (Node (sign.Call k m) args b) p = result_kind c h m k (static_result c m k (term_kinds args) p.1)
kind_of_term c h (Node (sign.Super k m) args b) p = result_kind c h m k (invoked_result c _ m k (term_kinds args) p.2.0)
kind_of_term c h (Node (sign.Binary o) a b) p = binary_kind_of c o
kind_of_term c h (Node sign.And a b) p = tt
kind_of_term c h (Node sign.Or a b) p = tt
kind_of_term c h (Node (sign.Field q i) a b) p = read_kind_of c q
kind_of_term c h (Node (sign.Part k i) x b) p = h.fields (term_kind x) i k p.1
kind_of_term c h (Node (sign.Element q n i) a b) p = read_kind_of c q
kind_of_term c h (Node (sign.Size i) a b) p = tt
kind_of_term c h (Node (sign.Byte i) a b) p = tt
kind_of_term c h (Node (sign.Invoke k m) x args) p = result_kind c h m k (invoked_result c _ m k (term_kinds args) p.2)
kind_of_term c h (Node (sign.TextCall o) a b) p = text_kind_of c o
kind_of_term c h (Node sign.After a b) p = kind_of_term c h b p.1
kind_of_term c h t p = absurd p

-- ---- kinds

pub kind_is : (t : Term) → kind_in (sort_of t) ≡ term_kind t
kind_is (Node sign.After a b) = kind_is b
kind_is t = refl

pub int_is : (t : Term) → is_int (sort_of t) ≡ true → term_kind t ≡ kind.Int
int_is t h = sym (kind_is t) ∙ at (sort_of t) h
  where
    at : (s : Sort) → is_int s ≡ true → kind_in s ≡ kind.Int
    at (Of kind.Int) h = refl
    at s h = absurd (let k : false ≡ true = h in cc)

pub bool_is : (t : Term) → is_bool (sort_of t) ≡ true → term_kind t ≡ kind.Bool
bool_is t h = sym (kind_is t) ∙ at (sort_of t) h
  where
    at : (s : Sort) → is_bool s ≡ true → kind_in s ≡ kind.Bool
    at (Of kind.Bool) h = refl
    at s h = absurd (let k : false ≡ true = h in cc)

-- a number has the kind of its width
pub own_width : (t : Term) → is_number (sort_of t) ≡ true → term_kind t ≡ width_kind (width_of t)
own_width t h = sym (kind_is t) ∙ at (sort_of t) h
  where
    at : (s : Sort) → is_number s ≡ true → kind_in s ≡ width_kind (if is_long s then width.Long else width.Int)
    at (Of kind.Int) h = refl
    at (Of kind.Long) h = refl
    at s h = absurd (let k : false ≡ true = h in cc)

-- ---- widths

-- a kind goes to a width
abbrev pub Fits : Kind → Width → Type 0
Fits kind.Int w = Unit {0}
Fits kind.Long width.Long = Unit {0}
Fits k w = ⊥

lengthened_is : (c : Context) (k : Kind) (w : Width) (t : Term) → term_kind t ≡ k → IsTerm c t → Fits k w →
    IsTerm c (lengthened k w t) × (term_kind (lengthened k w t) ≡ width_kind w)
lengthened_is c kind.Int width.Int t e h f = (h, e)
lengthened_is c kind.Int width.Long t e h f = ((h, e), refl)
lengthened_is c kind.Long width.Long t e h f = (h, e)
lengthened_is c k w t e h f = absurd f

pub widened : (c : Context) (w : Width) (t : Term) → IsTerm c t → Fits (term_kind t) w → IsTerm c (in_width w t) × (term_kind (in_width w t) ≡ width_kind w)
widened c w t h f = lengthened_is c (term_kind t) w t refl h f

-- both numbers go to the width in which they meet
pub meets : (x y : Term) → is_number (sort_of x) ≡ true → is_number (sort_of y) ≡ true → Fits (term_kind x) (meeting x y) × Fits (term_kind y) (meeting x y)
meets x y h g = (
  subst (λ (k : Kind). Fits k (meeting x y)) (kind_is x) (at (sort_of x) (sort_of y) h g).0,
  subst (λ (k : Kind). Fits k (meeting x y)) (kind_is y) (at (sort_of x) (sort_of y) h g).1,
)
  where
    at : (s r : Sort) → is_number s ≡ true → is_number r ≡ true →
        Fits (kind_in s) (if is_long s || is_long r then width.Long else width.Int) × Fits (kind_in r) (if is_long s || is_long r then width.Long else width.Int)
    at (Of kind.Int) (Of kind.Int) h g = (tt, tt)
    at (Of kind.Int) (Of kind.Long) h g = (tt, tt)
    at (Of kind.Long) (Of kind.Int) h g = (tt, tt)
    at (Of kind.Long) (Of kind.Long) h g = (tt, tt)
    at (Of kind.Int) r h g = absurd (let k : false ≡ true = g in cc)
    at (Of kind.Long) r h g = absurd (let k : false ≡ true = g in cc)
    at s r h g = absurd (let k : false ≡ true = h in cc)
