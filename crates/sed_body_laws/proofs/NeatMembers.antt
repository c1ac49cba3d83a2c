-- What names, members and calls come to is neat, and of how many nodes.
use Rattle.std.proofs.Common.{◌≤◌, ℕ, suc, ◌+◌, false, not, List, Option, Some, None, codes, refl, arith}
use Rattle.std.specs.Str.{bytes_eq}
use Rattle.sed_units.specs.declared.leaves.Ident.{Ident}
use Rattle.sed_units.specs.declared.leaves.Literal.{Literal}
use Rattle.sed_units.specs.declared.leaves.LiteralKind.{LiteralKind}
use Rattle.sed_units.specs.declared.leaves.LiteralKind.TheVariants as literal
use Rattle.sed_lexer.specs.declared.numbers.Number.{Number}
use Rattle.sed_lexer.specs.declared.numbers.Number.TheVariants.{Int, Long}
use Rattle.sed_typed.specs.declared.kind.Kind.{Kind}
use Rattle.sed_typed.specs.declared.operators.TextCall.{TextCall}
use Rattle.sed_typed.specs.declared.program.FieldForm.{FieldForm}
use Rattle.sed_typed.specs.declared.program.FieldForm.TheVariants as form
use Rattle.sed_names.specs.declared.member.Constant.{Constant}
use Rattle.sed_names.specs.declared.member.Constant.TheVariants as constant
use Rattle.sed_names.specs.declared.member.Member.{Member}
use Rattle.sed_names.specs.declared.member.Member.TheVariants as member
use Rattle.sed_names.specs.declared.signature.Signature.{Signature}
use Rattle.sed_names.specs.Names.{Names}
use Rattle.sed_names.specs.Spelled.{integer_of, character_of}
use Rattle.sed_body_rules.specs.declared.local.Local.{Local}
use Rattle.sed_body_rules.specs.Conversions.{placed}
use Rattle.sed_body_rules.specs.Scope.{Scope, local_named}
use Rattle.sed_terms.specs.declared.judged.Judged.{Judged}
use Rattle.sed_terms.specs.declared.judged.Judged.TheVariants.{Sound, Unknown}
use Rattle.sed_terms.specs.declared.sign.Sign.TheVariants as sign
use Rattle.sed_terms.specs.Faults.{Marks, IfSound, broken, after}
use Rattle.sed_terms.specs.Forms.{bytes_of, size_of}
use Rattle.sed_terms.specs.Sorts.{sort_of}
use Rattle.sed_terms.specs.Term.{Term, Absent, Node, leaf, with_item}
use Rattle.sed_bodies.specs.declared.context.Body.{Body}
use Rattle.sed_bodies.specs.declared.context.Callee.{Callee}
use Rattle.sed_bodies.specs.declared.context.Owner.{Owner}
use Rattle.sed_bodies.specs.declared.context.Owner.TheVariants as owner
use Rattle.sed_bodies.specs.Literals.{integer, character, text, literal_of, literal_judged}
use Rattle.sed_bodies.specs.Members.{known, field_term, field_of, static_term, static_of, constant_term, define_of, own_member, class_member, through, object_member, buf_member, owner_of, member_by, member_of, named_by, named, receiver}
use Rattle.sed_bodies.specs.Calls.{argument, with_argument, callee, own_callee, static_call, invocation, super_invocation, no_method, own_call, super_called, class_call, object_call, text_callee, text_called, text_named, unknown_receiver, called_by, called, system_call}
use Rattle.sed_body_laws.specs.Neat.{IsNeat, term_size}
use Rattle.sed_body_laws.proofs.Sounds.{after_sound, joined_sound, unless_sound, some_sound, any_sound, either_sound}
use Rattle.sed_body_laws.proofs.NeatRules.{Tidy, up, placed_tidy}

-- ---- literals

integer_tidy : {F : Type 0} (m : Marks F) (at : ℕ) (x : Option Number) → IfSound (integer m at x) (Tidy 1)
integer_tidy m at (Some (Int n)) = record { neat = (refl, refl, tt, tt); size = omega arith }
integer_tidy m at (Some (Long n)) = record { neat = (refl, refl, tt, tt); size = omega arith }
integer_tidy m at None = tt

character_tidy : {F : Type 0} (m : Marks F) (at : ℕ) (x : Option ℕ) → IfSound (character m at x) (Tidy 1)
character_tidy m at (Some c) = record { neat = (refl, refl, tt, tt); size = omega arith }
character_tidy m at None = tt

text_tidy : {F : Type 0} (m : Marks F) (at : ℕ) (x : Option ℕ) → IfSound (text m at x) (Tidy 1)
text_tidy m at (Some c) = record { neat = (refl, refl, tt, tt); size = omega arith }
text_tidy m at None = tt

literal_is : {F : Type 0} (m : Marks F) (n : Names) (at : ℕ) (k : LiteralKind) (bytes : List ℕ) →
    IfSound (literal_of m n at k bytes) (Tidy 1)
literal_is m n at literal.Integer bytes = integer_tidy m at (integer_of bytes)
literal_is m n at literal.Character bytes = character_tidy m at (character_of bytes)
literal_is m n at literal.Text bytes = text_tidy m at (n.text bytes)
literal_is m n at literal.True bytes = record { neat = (refl, refl, tt, tt); size = omega arith }
literal_is m n at literal.False bytes = record { neat = (refl, refl, tt, tt); size = omega arith }
literal_is m n at literal.Null bytes = record { neat = (refl, refl, tt, tt); size = omega arith }

pub literal_tidy : {F : Type 0} (m : Marks F) (n : Names) (l : Literal) → IfSound (literal_judged m n l) (Tidy 1)
literal_tidy m n l = literal_is m n l.at l.kind l.bytes

-- ---- members

known_sound : {F A B : Type 0} (m : Marks F) (P : B → Type 0) (o : Option A) (f : A → Judged B F) → ((a : A) →
    IfSound (f a) P) → IfSound (after (known m o) f) P
known_sound m P (Some a) f h = h a
known_sound m P None f h = tt

field_is : (i k : ℕ) (x : Term) (f : FieldForm) → Tidy k x → Tidy (suc k) (field_term i x f)
field_is i k x (form.Prim p) h = record { neat = (tt, refl, h.neat, tt); size = omega (arith, h.size) }
field_is i k x (form.Str n) h = record { neat = (tt, refl, h.neat, tt); size = omega (arith, h.size) }
field_is i k x (form.Buf n) h = record { neat = (tt, refl, h.neat, tt); size = omega (arith, h.size) }
field_is i k x (form.Array p n) h = record { neat = (tt, refl, h.neat, tt); size = omega (arith, h.size) }
field_is i k x (form.Object class) h = record { neat = (tt, refl, h.neat, tt); size = omega (arith, h.size) }

field_tidy : {F : Type 0} (m : Marks F) (o : Option FieldForm) (i k : ℕ) (x : Term) → Tidy k x →
    IfSound (field_of m o i x) (Tidy (suc k))
field_tidy m o i k x h = known_sound m (Tidy (suc k)) o _ (λ f. field_is i k x f h)

static_is : {F : Type 0} (m : Marks F) (i : ℕ) (f : FieldForm) → IfSound (known m (static_term i f)) (Tidy 1)
static_is m i (form.Prim p) = record { neat = (refl, refl, tt, tt); size = omega arith }
static_is m i (form.Str n) = record { neat = (refl, refl, tt, tt); size = omega arith }
static_is m i (form.Buf n) = tt
static_is m i (form.Array p n) = record { neat = (refl, refl, tt, tt); size = omega arith }
static_is m i (form.Object class) = record { neat = (refl, refl, tt, tt); size = omega arith }

static_tidy : {F : Type 0} (m : Marks F) (o : Option FieldForm) (i : ℕ) → IfSound (static_of m o i) (Tidy 1)
static_tidy m o i = known_sound m (Tidy 1) o _ (λ f. static_is m i f)

constant_is : (c : Constant) → Tidy 1 (constant_term c)
constant_is (constant.Bool t) = record { neat = (refl, refl, tt, tt); size = omega arith }
constant_is (constant.Int n) = record { neat = (refl, refl, tt, tt); size = omega arith }
constant_is (constant.Long n) = record { neat = (refl, refl, tt, tt); size = omega arith }

define_tidy : {F : Type 0} (m : Marks F) (c : Option Constant) → IfSound (define_of m c) (Tidy 1)
define_tidy m c = known_sound m (Tidy 1) c _ (λ v. constant_is v)

this_tidy : (b : Body) → Tidy 1 (leaf (sign.This b.class))
this_tidy b = record { neat = (refl, refl, tt, tt); size = omega arith }

own_tidy : {F : Type 0} (m : Marks F) (b : Body) (at : ℕ) (f : Option Member) → IfSound (own_member m b at f) (Tidy 2)
own_tidy m b at (Some (member.Field f i)) = either_sound (Tidy 2) b.is_static _ _ (λ _. tt)
    (λ _. field_tidy m f i 1 (leaf (sign.This b.class)) (this_tidy b))
own_tidy m b at (Some (member.Static f i)) = up 1 2 (static_of m f i) (omega arith) (static_tidy m f i)
own_tidy m b at (Some (member.Define c)) = up 1 2 (define_of m c) (omega arith) (define_tidy m c)
own_tidy m b at (Some member.Method) = tt
own_tidy m b at None = tt

named_by_tidy : {F : Type 0} (m : Marks F) (b : Body) (at : ℕ) (l : Option Local) (f : Option Member) →
    IfSound (named_by m b at l f) (Tidy 2)
named_by_tidy m b at (Some l) f = known_sound m (Tidy 2) l.kind _
    (λ k. record { neat = (refl, refl, tt, tt); size = omega arith })
named_by_tidy m b at None f = own_tidy m b at f

pub named_tidy : {F : Type 0} (m : Marks F) (n : Names) (b : Body) (s : Scope) (id : Ident) →
    IfSound (named m n b s id) (Tidy 2)
named_tidy m n b s id = named_by_tidy m b id.at (local_named s.entries id.bytes) (n.member b.class.0 id.bytes)

pub receiver_tidy : {F : Type 0} (m : Marks F) (b : Body) (at : ℕ) → IfSound (receiver m b at) (Tidy 1)
receiver_tidy m b at = either_sound (Tidy 1) b.is_static _ _ (λ _. tt) (λ _. this_tidy b)

pub class_member_tidy : {F : Type 0} (m : Marks F) (at : ℕ) (f : Option Member) →
    IfSound (class_member m at f) (Tidy 1)
class_member_tidy m at (Some (member.Field f i)) = tt
class_member_tidy m at (Some (member.Static f i)) = static_tidy m f i
class_member_tidy m at (Some (member.Define c)) = define_tidy m c
class_member_tidy m at (Some member.Method) = tt
class_member_tidy m at None = tt

through_tidy : {F : Type 0} (k l : ℕ) (x : Term) (y : Judged Term F) → Tidy k x → IfSound y (Tidy l) →
    IfSound (through x y) (Tidy (suc (k + l)))
through_tidy k l x y h f = after_sound (Tidy l) (Tidy (suc (k + l))) y _ f
    (λ t p. record { neat = (tt, tt, h.neat, p.neat); size = omega (arith, h.size, p.size) })

object_tidy : {F : Type 0} (m : Marks F) (at k : ℕ) (x : Term) (f : Option Member) → Tidy k x →
    IfSound (object_member m at x f) (Tidy (2 + k))
object_tidy m at k x (Some (member.Field f i)) h =
    up (suc k) (2 + k) (field_of m f i x) (omega arith) (field_tidy m f i k x h)
object_tidy m at k x (Some (member.Static f i)) h =
    up (suc (k + 1)) (2 + k) (through x (static_of m f i)) (omega arith)
    (through_tidy k 1 x (static_of m f i) h (static_tidy m f i))
object_tidy m at k x (Some (member.Define c)) h =
    up (suc (k + 1)) (2 + k) (through x (define_of m c)) (omega arith)
    (through_tidy k 1 x (define_of m c) h (define_tidy m c))
object_tidy m at k x (Some member.Method) h = tt
object_tidy m at k x None h = tt

size_tidy : (t : Term) → IsNeat t → IsNeat (size_of t) × (term_size (size_of t) ≤ term_size t)
size_tidy (Node (sign.Buf i) e b) f = (f, omega arith)
size_tidy (Node sign.After e t) f = let r = size_tidy t f.3 in ((tt, tt, f.2, r.0), omega (arith, r.1))
size_tidy t f = (f, omega arith)

bytes_tidy : (t : Term) → IsNeat t → IsNeat (bytes_of t) × (term_size (bytes_of t) ≤ term_size t)
bytes_tidy (Node (sign.Buf i) e b) f = (f, omega arith)
bytes_tidy (Node sign.After e t) f = let r = bytes_tidy t f.3 in ((tt, tt, f.2, r.0), omega (arith, r.1))
bytes_tidy t f = (f, omega arith)

buf_tidy : {F : Type 0} (m : Marks F) (id : Ident) (k : ℕ) (x : Term) → Tidy k x →
    IfSound (buf_member m id x) (Tidy (2 + k))
buf_tidy m id k x h =
    either_sound (Tidy (2 + k)) (bytes_eq id.bytes (codes "size")) _ _
    (λ _. let r = size_tidy x h.neat in record { neat = r.0; size = omega (arith, r.1, h.size) })
    (λ _. either_sound (Tidy (2 + k)) (bytes_eq id.bytes (codes "bytes")) _ _
    (λ _. let r = bytes_tidy x h.neat in record { neat = r.0; size = omega (arith, r.1, h.size) })
    (λ _. tt))

member_by_tidy : {F : Type 0} (m : Marks F) (n : Names) (id : Ident) (o : Owner) (k : ℕ) (x : Term) → Tidy k x →
    IfSound (member_by m n id o x) (Tidy (2 + k))
member_by_tidy m n id (owner.Object class) k x h = object_tidy m id.at k x (n.member class.0 id.bytes) h
member_by_tidy m n id owner.Buf k x h = buf_tidy m id k x h
member_by_tidy m n id o k x h = tt

pub member_tidy : {F : Type 0} (m : Marks F) (n : Names) (id : Ident) (k : ℕ) (x : Judged Term F) →
    IfSound x (Tidy k) → IfSound (member_of m n id x) (Tidy (2 + k))
member_tidy m n id k x h = after_sound (Tidy k) (Tidy (2 + k)) x _ h
    (λ t p. member_by_tidy m n id (owner_of (sort_of t)) k t p)

-- ---- arguments

-- a row of items
abbrev pub IsRow : Term → Type 0
IsRow Absent = Unit {0}
IsRow (Node sign.More t rest) = IsRow rest
IsRow t = ⊥

pub record TidyRow (k : ℕ) (t : Term) : Type 0 where
  pub neat : IsNeat t
  pub size : term_size t ≤ k
  pub row : IsRow t

pub row_tidy : (k : ℕ) (t : Term) → TidyRow k t → Tidy k t
row_tidy k t r = record { neat = r.neat; size = r.size }

pub no_row : (k : ℕ) → TidyRow k Absent
no_row k = record { neat = tt; size = omega arith; row = tt }

pub item_put : (ts t : Term) → IsNeat ts → IsNeat t → IsRow ts →
    IsNeat (with_item ts t) × (term_size (with_item ts t) ≤ suc (term_size ts + term_size t)) × IsRow (with_item ts t)
item_put Absent t f g r = ((tt, tt, g, tt), omega arith, tt)
item_put (Node sign.More x rest) t f g r =
    let q = item_put rest t f.3 g r in ((tt, tt, f.2, q.0), omega (arith, q.1), q.2)
item_put ts t f g r = absurd r

pub with_item_tidy : (k l : ℕ) (ts t : Term) → TidyRow k ts → Tidy l t → TidyRow (suc (k + l)) (with_item ts t)
with_item_tidy k l ts t f g =
    let r = item_put ts t f.neat g.neat f.row in
    record { neat = r.0; size = omega (arith, r.1, f.size, g.size); row = r.2 }

argument_tidy : {F : Type 0} (m : Marks F) (n : Names) (at : ℕ) (to : Option Kind) (k : ℕ) (x : Judged Term F) →
    IfSound x (Tidy k) → IfSound (argument m n at to x) (Tidy (suc k))
argument_tidy m n at to k x h =
    joined_sound m (λ _. Unit {0}) (Tidy k) (Tidy (suc k)) (known m to) x _ (any_sound _) h
    (λ to t u p. some_sound m (Tidy (suc k)) (broken 16 at) (placed n.below to t) (placed_tidy n.below to k t p))

pub with_argument_tidy : {F : Type 0} (m : Marks F) (n : Names) (at : ℕ) (to : Option Kind) (k l : ℕ)
    (xs x : Judged Term F) → IfSound xs (TidyRow k) → IfSound x (Tidy l) →
    IfSound (with_argument m xs (argument m n at to x)) (TidyRow (suc (k + suc l)))
with_argument_tidy m n at to k l xs x r h =
    joined_sound m (TidyRow k) (Tidy (suc l)) (TidyRow (suc (k + suc l))) xs (argument m n at to x) _ r
    (argument_tidy m n at to l x h) (λ ts t p q. with_item_tidy k (suc l) ts t p q)

-- ---- calls

static_call_tidy : {F : Type 0} (m : Marks F) (c : Callee) (k : ℕ) (args : Term) → Tidy k args →
    IfSound (static_call m c args) (Tidy (suc k))
static_call_tidy m c k args h = known_sound m (Tidy (suc k)) c.result _
    (λ r. record { neat = (tt, refl, h.neat, tt); size = omega (arith, h.size) })

invocation_tidy : {F : Type 0} (m : Marks F) (c : Callee) (k l : ℕ) (x args : Term) → Tidy k x → Tidy l args →
    IfSound (invocation m c x args) (Tidy (suc (k + l)))
invocation_tidy m c k l x args f h = known_sound m (Tidy (suc (k + l))) c.result _
    (λ r. record { neat = (tt, tt, f.neat, h.neat); size = omega (arith, f.size, h.size) })

super_tidy : {F : Type 0} (m : Marks F) (c : Callee) (k : ℕ) (args : Term) → Tidy k args →
    IfSound (super_invocation m c args) (Tidy (suc k))
super_tidy m c k args h = known_sound m (Tidy (suc k)) c.result _
    (λ r. record { neat = (tt, refl, h.neat, tt); size = omega (arith, h.size) })

no_method_sound : {F : Type 0} (m : Marks F) (P : Term → Type 0) (at : ℕ) (xs : Judged Term F) →
    IfSound (no_method m at xs) P
no_method_sound m P at (Sound t) = tt
no_method_sound m P at (Unknown f) = tt

pub own_call_tidy : {F : Type 0} (m : Marks F) (b : Body) (at count : ℕ) (s : Option Signature) (k : ℕ)
    (xs : Judged Term F) → IfSound xs (TidyRow k) → IfSound (own_call m b at count s xs) (Tidy (2 + k))
own_call_tidy m b at count None k xs r = no_method_sound m (Tidy (2 + k)) at xs
own_call_tidy m b at count (Some s) k xs r =
    joined_sound m (λ _. Unit {0}) (TidyRow k) (Tidy (2 + k)) (own_callee m (not b.is_static) at at count s) xs _
    (any_sound _) r
    (λ c args u p. either_sound (Tidy (2 + k)) c.is_static _ _
    (λ _. up (suc k) (2 + k) (static_call m c args) (omega arith) (static_call_tidy m c k args (row_tidy k args p)))
    (λ _. up (suc (1 + k)) (2 + k) (invocation m c (leaf (sign.This b.class)) args) (omega arith)
    (invocation_tidy m c 1 k (leaf (sign.This b.class)) args (this_tidy b) (row_tidy k args p))))

pub super_called_tidy : {F : Type 0} (m : Marks F) (b : Body) (at count : ℕ) (s : Option Signature) (k : ℕ)
    (xs : Judged Term F) → IfSound xs (TidyRow k) → IfSound (super_called m b at count s xs) (Tidy (2 + k))
super_called_tidy m b at count None k xs r =
    joined_sound m (λ _. Unit {0}) (Tidy (2 + k)) (Tidy (2 + k)) (receiver m b at) (no_method m at xs) _
    (any_sound _) (no_method_sound m (Tidy (2 + k)) at xs) (λ x t u p. p)
super_called_tidy m b at count (Some s) k xs r =
    joined_sound m (λ _. Unit {0}) (TidyRow k) (Tidy (2 + k)) _ xs _ (any_sound _) r
    (λ c args u p. either_sound (Tidy (2 + k)) c.is_static _ _
    (λ _. up (suc k) (2 + k) (static_call m c args) (omega arith) (static_call_tidy m c k args (row_tidy k args p)))
    (λ _. up (suc k) (2 + k) (super_invocation m c args) (omega arith) (super_tidy m c k args (row_tidy k args p))))

pub class_call_tidy : {F : Type 0} (m : Marks F) (id_at at count : ℕ) (s : Option Signature) (k : ℕ)
    (xs : Judged Term F) → IfSound xs (TidyRow k) → IfSound (class_call m id_at at count s xs) (Tidy (suc k))
class_call_tidy m id_at at count None k xs r = no_method_sound m (Tidy (suc k)) at xs
class_call_tidy m id_at at count (Some s) k xs r =
    joined_sound m (λ _. Unit {0}) (TidyRow k) (Tidy (suc k)) (own_callee m false id_at at count s) xs _
    (any_sound _) r (λ c args u p. static_call_tidy m c k args (row_tidy k args p))

object_call_tidy : {F : Type 0} (m : Marks F) (at count : ℕ) (x : Term) (s : Option Signature) (k l : ℕ)
    (xs : Judged Term F) → Tidy k x → IfSound xs (TidyRow l) →
    IfSound (object_call m at count x s xs) (Tidy (2 + (k + l)))
object_call_tidy m at count x None k l xs h r = no_method_sound m (Tidy (2 + (k + l))) at xs
object_call_tidy m at count x (Some s) k l xs h r =
    joined_sound m (λ _. Unit {0}) (TidyRow l) (Tidy (2 + (k + l))) (callee m at count s) xs _ (any_sound _) r
    (λ c args u p. either_sound (Tidy (2 + (k + l))) c.is_static _ _
    (λ _. up (suc (k + suc l)) (2 + (k + l)) (through x (static_call m c args)) (omega arith)
    (through_tidy k (suc l) x (static_call m c args) h (static_call_tidy m c l args (row_tidy l args p))))
    (λ _. up (suc (k + l)) (2 + (k + l)) (invocation m c x args) (omega arith)
    (invocation_tidy m c k l x args h (row_tidy l args p))))

text_called_tidy : {F : Type 0} (m : Marks F) (at count : ℕ) (x : Term) (c : Option TextCall) (k l : ℕ)
    (xs : Judged Term F) → Tidy k x → IfSound xs (TidyRow l) →
    IfSound (text_called m at count x c xs) (Tidy (2 + (k + l)))
text_called_tidy m at count x None k l xs h r = no_method_sound m (Tidy (2 + (k + l))) at xs
text_called_tidy m at count x (Some c) k l xs h r =
    joined_sound m (λ _. Unit {0}) (TidyRow l) (Tidy (2 + (k + l))) (text_callee m at count c) xs _ (any_sound _) r
    (λ t args u p. record { neat = (tt, tt, h.neat, p.neat); size = omega (arith, h.size, p.size) })

called_by_tidy : {F : Type 0} (m : Marks F) (n : Names) (name : List ℕ) (at count : ℕ) (o : Owner) (k l : ℕ)
    (x : Term) (xs : Judged Term F) → Tidy k x → IfSound xs (TidyRow l) →
    IfSound (called_by m n name at count o x xs) (Tidy (2 + (k + l)))
called_by_tidy m n name at count (owner.Object class) k l x xs h r =
    object_call_tidy m at count x (n.method class.0 name) k l xs h r
called_by_tidy m n name at count owner.Text k l x xs h r =
    text_called_tidy m at count x (text_named name) k l xs h r
called_by_tidy m n name at count o k l x xs h r = no_method_sound m (Tidy (2 + (k + l))) at xs

unknown_sound : {F : Type 0} (m : Marks F) (P : Term → Type 0) (f : F) (xs : Judged Term F) →
    IfSound (unknown_receiver m f xs) P
unknown_sound m P f (Sound t) = tt
unknown_sound m P f (Unknown g) = tt

pub called_tidy : {F : Type 0} (m : Marks F) (n : Names) (name : List ℕ) (at count k l : ℕ) (x xs : Judged Term F) →
    IfSound x (Tidy k) → IfSound xs (TidyRow l) → IfSound (called m n name at count x xs) (Tidy (2 + (k + l)))
called_tidy m n name at count k l (Sound x) xs h r =
    called_by_tidy m n name at count (owner_of (sort_of x)) k l x xs h r
called_tidy m n name at count k l (Unknown f) xs h r = unknown_sound m (Tidy (2 + (k + l))) f xs

pub system_tidy : {F : Type 0} (m : Marks F) (name : List ℕ) (at count : ℕ) (xs : Judged Term F) →
    IfSound (system_call m name at count xs) (Tidy 1)
system_tidy m name at count xs =
    joined_sound m (Tidy 1) (λ _. Unit {0}) (Tidy 1) _ xs _
    (unless_sound m (Tidy 1) _ (broken 16 at) (leaf sign.Ticks)
    (λ e. record { neat = (refl, refl, tt, tt); size = omega arith }))
    (any_sound xs) (λ t args p u. p)
