-- What names and literals come to is typed, and unknown only with a fault inside.
use Rattle.sed_units.specs.Tree.{Tree, Part}
use Rattle.std.proofs.Common.{◌≡◌, ℕ, Bool, true, false, if◌then◌else◌, List, [], ◌∷◌, length, slice_get, codes, Option, Some, None, IfSome, IsSomeAnd, refl, sym, ap, subst, ◌∙◌, nat_le}
use Rattle.std.specs.Option.{option_and_then}
use Rattle.std.specs.Str.{bytes_eq}
use Rattle.sed_units.specs.declared.label.Label.TheVariants as label
use Rattle.sed_units.specs.declared.leaves.Ident.{Ident}
use Rattle.sed_typed.specs.declared.kind.Kind.{Kind}
use Rattle.sed_typed.specs.declared.kind.Kind.TheVariants as kind
use Rattle.sed_typed.specs.declared.number.TypeNo.{TypeNo}
use Rattle.sed_typed.specs.declared.program.FieldForm.{FieldForm}
use Rattle.sed_typed.specs.declared.program.FieldForm.TheVariants as form
use Rattle.sed_typed.specs.TypedExpr.{Context, IsNoReceiver, field_form, static_form, part_kind}
use Rattle.sed_names.specs.declared.member.Constant.{Constant}
use Rattle.sed_names.specs.declared.member.Constant.TheVariants as constant
use Rattle.sed_names.specs.declared.member.Member.{Member}
use Rattle.sed_names.specs.declared.member.Member.TheVariants as member
use Rattle.sed_names.specs.Names.{Names}
use Rattle.sed_faults.specs.declared.fault.Fault.{Fault}
use Rattle.sed_terms.specs.declared.judged.Judged.{Judged}
use Rattle.sed_terms.specs.declared.judged.Judged.TheVariants.{Sound, Unknown}
use Rattle.sed_terms.specs.declared.sign.Sign.TheVariants as sign
use Rattle.sed_terms.specs.declared.sort.Sort.{Sort}
use Rattle.sed_terms.specs.declared.sort.Sort.TheVariants.{Of, Buf}
use Rattle.sed_terms.specs.Faults.{all_faults, broken, Right}
use Rattle.sed_terms.specs.Forms.{bytes_of, size_of}
use Rattle.sed_terms.specs.SortKind.{kind_in}
use Rattle.sed_terms.specs.Sorts.{sort_of, term_kind, is_kind}
use Rattle.sed_terms.specs.Term.{Term, Node, leaf}
use Rattle.sed_terms.specs.TypedTerm.{IsTerm}
use Rattle.sed_bodies.specs.declared.context.Body.{Body}
use Rattle.sed_body_rules.specs.declared.local.Local.{Local}
use Rattle.sed_bodies.specs.Inside.{IsConstant, IsNoBuf, IsMember, IsIn, IsReady}
use Rattle.sed_bodies.specs.Members.{known, local_of, field_term, field_of, static_term, static_of, constant_term, define_of, own_member, class_member, through, object_member, buf_member, member_by, owner_of, member_of, named_by, named, receiver, fits, spelled, spelled_head}
use Rattle.sed_body_rules.specs.Scope.{Scope, local_named}
use Rattle.sed_bodies.proofs.Ready.{ready_value, kind_is}
use Rattle.sed_bodies.proofs.Right.{one_right, after_right, joined_right, unless_right}

pub known_right : {A : Type 0} (P : A → Type 0) (o : Option A) → IsSomeAnd o P → Right P (known all_faults o)
known_right P (Some a) h = h
known_right P None h = absurd h

local_right : (c : Context) (l : Local) → IsSomeAnd l.kind (λ k. (slice_get c.locals l.number ≡ Some k) × IsNoReceiver c l.number) →
    Right (IsReady c) (local_of all_faults l)
local_right c l h = after_right (λ (k : Kind). (slice_get c.locals l.number ≡ Some k) × IsNoReceiver c l.number) (IsReady c) (known all_faults l.kind) _
    (known_right (λ (k : Kind). (slice_get c.locals l.number ≡ Some k) × IsNoReceiver c l.number) l.kind h) (λ k g. (g.0, λ e. g))

-- ---- fields

field_ready : (c : Context) (i : ℕ) (x : Term) (f : FieldForm) → IsTerm c x → field_form c.program (term_kind x) i ≡ Some f → IsReady c (field_term i x f)
field_ready c i x (form.Prim p) h e = ((h, e), λ u. (h, e))
field_ready c i x (form.Str n) h e = ((h, ap (option_and_then part_kind) e), λ u. absurd (let k : false ≡ true = u in cc))
field_ready c i x (form.Buf n) h e = (h, (n, e))
field_ready c i x (form.Array p n) h e = (h, e)
field_ready c i x (form.Object class) h e = ((h, ap (option_and_then part_kind) e), λ u. absurd (let k : false ≡ true = u in cc))

field_right : (c : Context) (f : Option FieldForm) (i : ℕ) (x : Term) → IsTerm c x → IsSomeAnd f (λ f. field_form c.program (term_kind x) i ≡ Some f) →
    Right (IsReady c) (field_of all_faults f i x)
field_right c f i x h g = after_right (λ (f : FieldForm). field_form c.program (term_kind x) i ≡ Some f) (IsReady c) (known all_faults f) _
    (known_right (λ (f : FieldForm). field_form c.program (term_kind x) i ≡ Some f) f g) (λ f e. field_ready c i x f h e)

static_ready : (c : Context) (i : ℕ) (f : FieldForm) → static_form c.program i ≡ Some f → IsNoBuf f → IsSomeAnd (static_term i f) (IsReady c)
static_ready c i (form.Prim p) e h = (e, λ u. e)
static_ready c i (form.Str n) e h = (ap (option_and_then part_kind) e, λ u. absurd (let k : false ≡ true = u in cc))
static_ready c i (form.Buf n) e h = absurd h
static_ready c i (form.Array p n) e h = e
static_ready c i (form.Object class) e h = (ap (option_and_then part_kind) e, λ u. absurd (let k : false ≡ true = u in cc))

static_right : (c : Context) (f : Option FieldForm) (i : ℕ) → IsSomeAnd f (λ f. (static_form c.program i ≡ Some f) × IsNoBuf f) →
    Right (IsReady c) (static_of all_faults f i)
static_right c f i h = after_right (λ (f : FieldForm). (static_form c.program i ≡ Some f) × IsNoBuf f) (IsReady c) (known all_faults f) _
    (known_right (λ (f : FieldForm). (static_form c.program i ≡ Some f) × IsNoBuf f) f h)
    (λ f g. known_right (IsReady c) (static_term i f) (static_ready c i f g.0 g.1))

constant_ready : (c : Context) (v : Constant) → IsConstant v → IsReady c (constant_term v)
constant_ready c (constant.Bool t) h = (h, λ u. absurd (let k : false ≡ true = u in cc))
constant_ready c (constant.Int n) h = (h, λ u. absurd (let k : false ≡ true = u in cc))
constant_ready c (constant.Long n) h = (h, λ u. absurd (let k : false ≡ true = u in cc))

define_right : (c : Context) (v : Option Constant) → IsSomeAnd v IsConstant → Right (IsReady c) (define_of all_faults v)
define_right c v h = after_right IsConstant (IsReady c) (known all_faults v) _ (known_right IsConstant v h) (λ v g. constant_ready c v g)

-- ---- members

this_is : (c : Context) (n : Names) (b : Body) (s : Scope) → IsIn c n b s → b.is_static ≡ false → IsTerm c (leaf (sign.This b.class))
this_is c n b s i e = (sym i.static ∙ e, i.class)

pub receiver_right : (c : Context) (n : Names) (b : Body) (s : Scope) → IsIn c n b s → (at : ℕ) →
    Right (λ t. IsTerm c t × (b.is_static ≡ false)) (receiver all_faults b at)
receiver_right c n b s i at = by_static b.is_static refl
  where
    by_static : (x : Bool) → b.is_static ≡ x →
        Right (λ t. IsTerm c t × (b.is_static ≡ false)) (if x then Unknown (broken 17 at ∷ []) else Sound (leaf (sign.This b.class)))
    by_static true e = one_right (λ t. IsTerm c t × (b.is_static ≡ false)) (broken 17 at)
    by_static false e = (this_is c n b s i e, e)

own_right : (c : Context) (n : Names) (b : Body) (s : Scope) → IsIn c n b s → (at : ℕ) (m : Option Member) → IfSome m (IsMember c b.class.0) →
    Right (IsReady c) (own_member all_faults b at m)
own_right c n b s i at (Some (member.Field f k)) h = by_static b.is_static refl
  where
    by_static : (x : Bool) → b.is_static ≡ x →
        Right (IsReady c) (if x then Unknown (broken 17 at ∷ []) else field_of all_faults f k (leaf (sign.This b.class)))
    by_static true e = one_right (IsReady c) (broken 17 at)
    by_static false e = field_right c f k (leaf (sign.This b.class)) (this_is c n b s i e) (h b.class refl)
own_right c n b s i at (Some (member.Static f k)) h = static_right c f k h
own_right c n b s i at (Some (member.Define v)) h = define_right c v h
own_right c n b s i at (Some member.Method) h = one_right (IsReady c) (broken 12 at)
own_right c n b s i at None h = one_right (IsReady c) (broken 12 at)

pub class_right : (c : Context) (class at : ℕ) (m : Option Member) → IfSome m (IsMember c class) → Right (IsReady c) (class_member all_faults at m)
class_right c class at (Some (member.Field f k)) h = one_right (IsReady c) (broken 17 at)
class_right c class at (Some (member.Static f k)) h = static_right c f k h
class_right c class at (Some (member.Define v)) h = define_right c v h
class_right c class at (Some member.Method) h = one_right (IsReady c) (broken 12 at)
class_right c class at None h = one_right (IsReady c) (broken 12 at)

pub through_right : (c : Context) (x : Term) (y : Judged Term (List Fault)) → IsTerm c x → Right (IsReady c) y → Right (IsReady c) (through x y)
through_right c x y h p = after_right (IsReady c) (IsReady c) y _ p (λ t g. (h, g))

object_right : (c : Context) (at : ℕ) (x : Term) (class : TypeNo) (m : Option Member) → IsTerm c x → term_kind x ≡ kind.Object class →
    IfSome m (IsMember c class.0) → Right (IsReady c) (object_member all_faults at x m)
object_right c at x class (Some (member.Field f k)) h e g = field_right c f k x h
    (subst (λ (q : Kind). IsSomeAnd f (λ f. field_form c.program q k ≡ Some f)) (sym e) (g class refl))
object_right c at x class (Some (member.Static f k)) h e g = through_right c x (static_of all_faults f k) h (static_right c f k g)
object_right c at x class (Some (member.Define v)) h e g = through_right c x (define_of all_faults v) h (define_right c v g)
object_right c at x class (Some member.Method) h e g = one_right (IsReady c) (broken 12 at)
object_right c at x class None h e g = one_right (IsReady c) (broken 12 at)

size_ready : (c : Context) (t : Term) → IsReady c t → sort_of t ≡ Buf → IsReady c (size_of t)
size_ready c (Node (sign.Buf i) e b) h q = (h, λ u. absurd (let k : false ≡ true = u in cc))
size_ready c (Node sign.After e t) h q = (h.0, size_ready c t h.1 q)
size_ready c t h q = h

bytes_ready : (c : Context) (t : Term) → IsReady c t → sort_of t ≡ Buf → IsReady c (bytes_of t)
bytes_ready c (Node (sign.Buf i) e b) h q = h
bytes_ready c (Node sign.After e t) h q = (h.0, bytes_ready c t h.1 q)
bytes_ready c t h q = h

buf_right : (c : Context) (id : Ident) (x : Term) → IsReady c x → sort_of x ≡ Buf → Right (IsReady c) (buf_member all_faults id x)
buf_right c id x h q = by_name (bytes_eq id.bytes (codes "size")) (bytes_eq id.bytes (codes "bytes"))
  where
    by_name : (s t : Bool) → Right (IsReady c) (if s then Sound (size_of x) else if t then Sound (bytes_of x) else Unknown (broken 12 id.at ∷ []))
    by_name true t = size_ready c x h q
    by_name false true = bytes_ready c x h q
    by_name false false = one_right (IsReady c) (broken 12 id.at)

pub member_right : (c : Context) (n : Names) (b : Body) (s : Scope) → IsIn c n b s → (id : Ident) (x : Judged Term (List Fault)) → Right (IsReady c) x →
    Right (IsReady c) (member_of all_faults n id x)
member_right c n b s i id x p = after_right (IsReady c) (IsReady c) x _ p (λ t h. at t (sort_of t) refl h)
  where
    at : (t : Term) (q : Sort) → sort_of t ≡ q → IsReady c t → Right (IsReady c) (member_by all_faults n id (owner_of q) t)
    at t (Of (kind.Object class)) e h =
        object_right c id.at t class (n.member class.0 id.bytes) (ready_value c t h (ap is_kind e)) (sym (kind_is t) ∙ ap kind_in e) (i.members class.0 id.bytes)
    at t Buf e h = buf_right c id t h e
    at t q e h = one_right (IsReady c) (broken 12 id.at)

-- ---- names

pub named_right : (c : Context) (n : Names) (b : Body) (s : Scope) → IsIn c n b s → (id : Ident) → Right (IsReady c) (named all_faults n b s id)
named_right c n b s i id = at (local_named s.entries id.bytes) (i.locals id.bytes)
  where
    at : (l : Option Local) → IfSome l (λ l. IsSomeAnd l.kind (λ k. (slice_get c.locals l.number ≡ Some k) × IsNoReceiver c l.number)) →
        Right (IsReady c) (named_by all_faults b id.at l (n.member b.class.0 id.bytes))
    at (Some l) h = local_right c l h
    at None h = own_right c n b s i id.at (n.member b.class.0 id.bytes) (i.members b.class.0 id.bytes)

-- ---- how names are spelled

pub spelled_right : (c : Context) (id : Ident) (x : Judged Term (List Fault)) → Right (IsReady c) x → Right (IsReady c) (spelled all_faults id x)
spelled_right c id x p =
    joined_right {A = Bool} (λ (q : Bool). Unit {0}) (IsReady c) (IsReady c) (fits all_faults id) x _
    (unless_right (λ (q : Bool). Unit {0}) (nat_le (length id.bytes) 31) (broken 22 id.at) true (λ e. tt)) (λ a h. p) (λ a t h g. g)

pub head_right : (c : Context) (t : Tree) (x : Judged Term (List Fault)) → Right (IsReady c) x → Right (IsReady c) (spelled_head all_faults t x)
head_right c (Part (label.Name id) y z) x p = spelled_right c id x p
head_right c (Part (label.Of kit id) y z) x p = spelled_right c kit (spelled all_faults id x) (spelled_right c id x p)
head_right c t x p = p
