-- The rules on names, literals and calls, with all faults and with the least.
use Rattle.sed_units.specs.Tree.{Tree, Part}
use Rattle.std.proofs.Common.{◌≡◌, ℕ, Bool, true, false, ◌&&◌, ◌||◌, ◌==◌, not, if◌then◌else◌, List, length, codes, Option, Some, None, refl, nat_le}
use Rattle.std.specs.Str.{bytes_eq}
use Rattle.sed_lexer.specs.declared.numbers.Number.{Number}
use Rattle.sed_lexer.specs.declared.numbers.Number.TheVariants.{Int, Long}
use Rattle.sed_names.specs.Spelled.{integer_of, character_of}
use Rattle.sed_units.specs.declared.label.Label.TheVariants as label
use Rattle.sed_units.specs.declared.leaves.Ident.{Ident}
use Rattle.sed_units.specs.declared.leaves.Literal.{Literal}
use Rattle.sed_units.specs.declared.leaves.LiteralKind.{LiteralKind}
use Rattle.sed_units.specs.declared.leaves.LiteralKind.TheVariants as literal
use Rattle.sed_typed.specs.declared.kind.Kind.{Kind}
use Rattle.sed_typed.specs.declared.operators.TextCall.{TextCall}
use Rattle.sed_typed.specs.declared.program.FieldForm.{FieldForm}
use Rattle.sed_names.specs.declared.member.Constant.{Constant}
use Rattle.sed_names.specs.declared.member.Member.{Member}
use Rattle.sed_names.specs.declared.member.Member.TheVariants as member
use Rattle.sed_names.specs.declared.signature.Signature.{Signature}
use Rattle.sed_names.specs.Names.{Names}
use Rattle.sed_faults.specs.declared.fault.Fault.{Fault}
use Rattle.sed_terms.specs.declared.judged.Judged.{Judged}
use Rattle.sed_terms.specs.declared.judged.Judged.TheVariants.{Sound, Unknown}
use Rattle.sed_terms.specs.declared.sign.Sign.TheVariants as sign
use Rattle.sed_terms.specs.Faults.{all_faults, least_fault, broken, told, joined, unless}
use Rattle.sed_terms.specs.Forms.{bytes_of, size_of}
use Rattle.sed_terms.specs.Sorts.{sort_of}
use Rattle.sed_terms.specs.Term.{Term, leaf}
use Rattle.sed_body_rules.specs.Conversions.{placed}
use Rattle.sed_bodies.specs.declared.context.Body.{Body}
use Rattle.sed_bodies.specs.declared.context.Callee.{Callee}
use Rattle.sed_bodies.specs.declared.context.Owner.{Owner}
use Rattle.sed_bodies.specs.declared.context.Owner.TheVariants as owner
use Rattle.sed_body_rules.specs.declared.local.Local.{Local}
use Rattle.sed_bodies.specs.Calls.{argument, with_argument, callee_of, callee, reached, own_callee, super_callee, static_call, invocation, super_invocation, no_method, own_call, super_called, class_call, object_call, text_named, text_params, text_callee, text_called, called_by, called, system_call, params_behind}
use Rattle.sed_bodies.specs.Literals.{integer, character, text, literal_of, literal_judged}
use Rattle.sed_bodies.specs.Members.{known, field_of, static_term, static_of, define_of, own_member, class_member, through, object_member, buf_member, member_by, owner_of, member_of, named_by, named, receiver, fits, spelled, spelled_head}
use Rattle.sed_body_rules.specs.Scope.{Scope, local_named}
use Rattle.sed_bodies.proofs.Told.{Both, after_told, joined_told, unless_told, some_told}

abbrev All : Type 0
All = Judged Term (List Fault)

-- one of two
pub if_told : {A : Type 0} (b : Bool) (u v : Judged A (List Fault)) (p q : Judged A (Option Fault)) → told u ≡ p → told v ≡ q → told (if b then u else v) ≡ (if b then p else q)
if_told true u v p q h g = h
if_told false u v p q h g = g

-- ---- literals

pub literal_told : (n : Names) (l : Literal) → told (literal_judged all_faults n l) ≡ literal_judged least_fault n l
literal_told n l = by_kind l.kind
  where
    of_number : (o : Option Number) → told (integer all_faults l.at o) ≡ integer least_fault l.at o
    of_number (Some (Int v)) = refl
    of_number (Some (Long v)) = refl
    of_number None = refl

    of_character : (o : Option ℕ) → told (character all_faults l.at o) ≡ character least_fault l.at o
    of_character (Some v) = refl
    of_character None = refl

    of_text : (o : Option ℕ) → told (text all_faults l.at o) ≡ text least_fault l.at o
    of_text (Some v) = refl
    of_text None = refl

    by_kind : (k : LiteralKind) → told (literal_of all_faults n l.at k l.bytes) ≡ literal_of least_fault n l.at k l.bytes
    by_kind literal.Integer = of_number (integer_of l.bytes)
    by_kind literal.Character = of_character (character_of l.bytes)
    by_kind literal.Text = of_text (n.text l.bytes)
    by_kind literal.True = refl
    by_kind literal.False = refl
    by_kind literal.Null = refl

-- ---- names

known_told : {A : Type 0} (o : Option A) → told (known all_faults o) ≡ known least_fault o
known_told (Some a) = refl
known_told None = refl

field_told : (f : Option FieldForm) (i : ℕ) (x : Term) → told (field_of all_faults f i x) ≡ field_of least_fault f i x
field_told f i x = after_told (known all_faults f) (known least_fault f) _ _ (known_told f) (λ g. refl)

static_told : (f : Option FieldForm) (i : ℕ) → told (static_of all_faults f i) ≡ static_of least_fault f i
static_told f i = after_told (known all_faults f) (known least_fault f) _ _ (known_told f) (λ g. known_told (static_term i g))

define_told : (v : Option Constant) → told (define_of all_faults v) ≡ define_of least_fault v
define_told v = after_told (known all_faults v) (known least_fault v) _ _ (known_told v) (λ g. refl)

pub receiver_told : (b : Body) (at : ℕ) → told (receiver all_faults b at) ≡ receiver least_fault b at
receiver_told b at =
    if_told b.is_static (Unknown (all_faults.one (broken 17 at))) (Sound (leaf (sign.This b.class))) (Unknown (least_fault.one (broken 17 at))) (Sound (leaf (sign.This b.class))) refl refl

own_told : (b : Body) (at : ℕ) (m : Option Member) → told (own_member all_faults b at m) ≡ own_member least_fault b at m
own_told b at (Some (member.Field f i)) =
    if_told b.is_static (Unknown (all_faults.one (broken 17 at))) (field_of all_faults f i (leaf (sign.This b.class))) (Unknown (least_fault.one (broken 17 at)))
    (field_of least_fault f i (leaf (sign.This b.class))) refl (field_told f i (leaf (sign.This b.class)))
own_told b at (Some (member.Static f i)) = static_told f i
own_told b at (Some (member.Define v)) = define_told v
own_told b at (Some member.Method) = refl
own_told b at None = refl

pub class_told : (at : ℕ) (m : Option Member) → told (class_member all_faults at m) ≡ class_member least_fault at m
class_told at (Some (member.Field f i)) = refl
class_told at (Some (member.Static f i)) = static_told f i
class_told at (Some (member.Define v)) = define_told v
class_told at (Some member.Method) = refl
class_told at None = refl

through_told : (x : Term) (y : All) (v : Judged Term (Option Fault)) → told y ≡ v → told (through x y) ≡ through x v
through_told x y v q = after_told y v _ _ q (λ t. refl)

object_told : (at : ℕ) (x : Term) (m : Option Member) → told (object_member all_faults at x m) ≡ object_member least_fault at x m
object_told at x (Some (member.Field f i)) = field_told f i x
object_told at x (Some (member.Static f i)) = through_told x (static_of all_faults f i) (static_of least_fault f i) (static_told f i)
object_told at x (Some (member.Define v)) = through_told x (define_of all_faults v) (define_of least_fault v) (define_told v)
object_told at x (Some member.Method) = refl
object_told at x None = refl

buf_told : (id : Ident) (t : Term) → told (buf_member all_faults id t) ≡ buf_member least_fault id t
buf_told id t = by_name (bytes_eq id.bytes (codes "size")) (bytes_eq id.bytes (codes "bytes"))
  where
    by_name : (a b : Bool) → told (if a then Sound (size_of t) else if b then Sound (bytes_of t) else Unknown (all_faults.one (broken 12 id.at)))
        ≡ (if a then Sound (size_of t) else if b then Sound (bytes_of t) else Unknown (least_fault.one (broken 12 id.at)))
    by_name true b = refl
    by_name false true = refl
    by_name false false = refl

pub member_told : (n : Names) (id : Ident) (x : All) → told (member_of all_faults n id x) ≡ member_of least_fault n id (told x)
member_told n id x = after_told x (told x) _ _ refl (λ t. at (owner_of (sort_of t)) t)
  where
    at : (o : Owner) (t : Term) → told (member_by all_faults n id o t) ≡ member_by least_fault n id o t
    at (owner.Object class) t = object_told id.at t (n.member class.0 id.bytes)
    at owner.Buf t = buf_told id t
    at o t = refl

pub named_told : (n : Names) (b : Body) (s : Scope) (id : Ident) → told (named all_faults n b s id) ≡ named least_fault n b s id
named_told n b s id = at (local_named s.entries id.bytes)
  where
    at : (l : Option Local) → told (named_by all_faults b id.at l (n.member b.class.0 id.bytes)) ≡ named_by least_fault b id.at l (n.member b.class.0 id.bytes)
    at (Some l) = after_told (known all_faults l.kind) (known least_fault l.kind) _ _ (known_told l.kind) (λ k. refl)
    at None = own_told b id.at (n.member b.class.0 id.bytes)

-- ---- calls

pub argument_told : Both → (n : Names) (at : ℕ) (k : Option Kind) (x : All) → told (argument all_faults n at k x) ≡ argument least_fault n at k (told x)
argument_told both n at k x =
    joined_told both (known all_faults k) x (known least_fault k) (told x) _ _ (known_told k) refl (λ to t. some_told (broken 16 at) (placed n.below to t))

pub with_argument_told : Both → (xs x : All) → told (with_argument all_faults xs x) ≡ with_argument least_fault (told xs) (told x)
with_argument_told both xs x = joined_told both xs x (told xs) (told x) _ _ refl refl (λ ts t. refl)

callee_told : (at count : ℕ) (s : Signature) → told (callee all_faults at count s) ≡ callee least_fault at count s
callee_told at count s = unless_told (length s.params == count) (broken 16 at) (callee_of s)

own_callee_told : Both → (r : Bool) (id_at at count : ℕ) (s : Signature) → told (own_callee all_faults r id_at at count s) ≡ own_callee least_fault r id_at at count s
own_callee_told both r id_at at count s =
    joined_told both (callee all_faults at count s) (reached all_faults r id_at (callee_of s)) (callee least_fault at count s) (reached least_fault r id_at (callee_of s)) _ _
    (callee_told at count s) (unless_told (s.is_static || r) (broken 17 id_at) (callee_of s)) (λ c d. refl)

super_callee_told : Both → (at count : ℕ) (s : Signature) → told (super_callee all_faults at count s) ≡ super_callee least_fault at count s
super_callee_told both at count s =
    joined_told both (callee all_faults at count s) (unless all_faults (not s.is_abstract) (broken 24 at) s.is_abstract) (callee least_fault at count s)
    (unless least_fault (not s.is_abstract) (broken 24 at) s.is_abstract) _ _
    (callee_told at count s) (unless_told (not s.is_abstract) (broken 24 at) s.is_abstract) (λ c d. refl)

static_call_told : (c : Callee) (args : Term) → told (static_call all_faults c args) ≡ static_call least_fault c args
static_call_told c args = after_told (known all_faults c.result) (known least_fault c.result) _ _ (known_told c.result) (λ k. refl)

invocation_told : (c : Callee) (x args : Term) → told (invocation all_faults c x args) ≡ invocation least_fault c x args
invocation_told c x args = after_told (known all_faults c.result) (known least_fault c.result) _ _ (known_told c.result) (λ k. refl)

super_invocation_told : (c : Callee) (args : Term) → told (super_invocation all_faults c args) ≡ super_invocation least_fault c args
super_invocation_told c args = after_told (known all_faults c.result) (known least_fault c.result) _ _ (known_told c.result) (λ k. refl)

pub no_method_told : Both → (at : ℕ) (xs : All) → told (no_method all_faults at xs) ≡ no_method least_fault at (told xs)
no_method_told both at xs =
    joined_told {A = Term} both (Unknown (all_faults.one (broken 16 at))) xs (Unknown (least_fault.one (broken 16 at))) (told xs) _ _ refl refl (λ t args. refl)

pub own_call_told : Both → (b : Body) (at count : ℕ) (o : Option Signature) (xs : All) → told (own_call all_faults b at count o xs) ≡ own_call least_fault b at count o (told xs)
own_call_told both b at count None xs = no_method_told both at xs
own_call_told both b at count (Some s) xs =
    joined_told both (own_callee all_faults (not b.is_static) at at count s) xs (own_callee least_fault (not b.is_static) at at count s) (told xs) _ _
    (own_callee_told both (not b.is_static) at at count s) refl
    (λ c args. if_told c.is_static (static_call all_faults c args) (invocation all_faults c (leaf (sign.This b.class)) args) (static_call least_fault c args)
    (invocation least_fault c (leaf (sign.This b.class)) args) (static_call_told c args) (invocation_told c (leaf (sign.This b.class)) args))

pub super_called_told : Both → (b : Body) (at count : ℕ) (o : Option Signature) (xs : All) →
    told (super_called all_faults b at count o xs) ≡ super_called least_fault b at count o (told xs)
super_called_told both b at count None xs =
    joined_told both (receiver all_faults b at) (no_method all_faults at xs) (receiver least_fault b at) (no_method least_fault at (told xs)) _ _
    (receiver_told b at) (no_method_told both at xs) (λ x t. refl)
super_called_told both b at count (Some s) xs =
    joined_told both (joined all_faults (receiver all_faults b at) (super_callee all_faults at count s) (λ x c. Sound c)) xs
    (joined least_fault (receiver least_fault b at) (super_callee least_fault at count s) (λ x c. Sound c)) (told xs) _ _
    (joined_told both (receiver all_faults b at) (super_callee all_faults at count s) (receiver least_fault b at) (super_callee least_fault at count s) _ _
    (receiver_told b at) (super_callee_told both at count s) (λ x c. refl)) refl
    (λ c args. if_told c.is_static (static_call all_faults c args) (super_invocation all_faults c args) (static_call least_fault c args) (super_invocation least_fault c args)
    (static_call_told c args) (super_invocation_told c args))

pub class_call_told : Both → (id_at at count : ℕ) (o : Option Signature) (xs : All) →
    told (class_call all_faults id_at at count o xs) ≡ class_call least_fault id_at at count o (told xs)
class_call_told both id_at at count None xs = no_method_told both at xs
class_call_told both id_at at count (Some s) xs =
    joined_told both (own_callee all_faults false id_at at count s) xs (own_callee least_fault false id_at at count s) (told xs) _ _
    (own_callee_told both false id_at at count s) refl (λ c args. static_call_told c args)

object_call_told : Both → (at count : ℕ) (x : Term) (o : Option Signature) (xs : All) →
    told (object_call all_faults at count x o xs) ≡ object_call least_fault at count x o (told xs)
object_call_told both at count x None xs = no_method_told both at xs
object_call_told both at count x (Some s) xs =
    joined_told both (callee all_faults at count s) xs (callee least_fault at count s) (told xs) _ _ (callee_told at count s) refl
    (λ c args. if_told c.is_static (through x (static_call all_faults c args)) (invocation all_faults c x args) (through x (static_call least_fault c args))
    (invocation least_fault c x args) (through_told x (static_call all_faults c args) (static_call least_fault c args) (static_call_told c args)) (invocation_told c x args))

text_called_told : Both → (at count : ℕ) (x : Term) (o : Option TextCall) (xs : All) →
    told (text_called all_faults at count x o xs) ≡ text_called least_fault at count x o (told xs)
text_called_told both at count x None xs = no_method_told both at xs
text_called_told both at count x (Some o) xs =
    joined_told both (text_callee all_faults at count o) xs (text_callee least_fault at count o) (told xs) _ _
    (unless_told (length (text_params (Some o)) == count) (broken 16 at) o) refl (λ c args. refl)

pub called_told : Both → (n : Names) (name : List ℕ) (at count : ℕ) (x xs : All) →
    told (called all_faults n name at count x xs) ≡ called least_fault n name at count (told x) (told xs)
called_told both n name at count (Unknown f) xs =
    joined_told {A = Term} both (Unknown f) xs (told (Unknown f)) (told xs) _ _ refl refl (λ t args. refl)
called_told both n name at count (Sound x) xs = by_owner (owner_of (sort_of x))
  where
    by_owner : (o : Owner) → told (called_by all_faults n name at count o x xs) ≡ called_by least_fault n name at count o x (told xs)
    by_owner (owner.Object class) = object_call_told both at count x (n.method class.0 name) xs
    by_owner owner.Text = text_called_told both at count x (text_named name) xs
    by_owner o = no_method_told both at xs

pub params_told : (n : Names) (name : List ℕ) (x : All) → params_behind n name (told x) ≡ params_behind n name x
params_told n name (Sound t) = refl
params_told n name (Unknown f) = refl

pub system_told : Both → (name : List ℕ) (at count : ℕ) (xs : All) → told (system_call all_faults name at count xs) ≡ system_call least_fault name at count (told xs)
system_told both name at count xs =
    joined_told both (unless all_faults (bytes_eq name (codes "ticks") && (count == 0)) (broken 16 at) (leaf sign.Ticks)) xs
    (unless least_fault (bytes_eq name (codes "ticks") && (count == 0)) (broken 16 at) (leaf sign.Ticks)) (told xs) _ _
    (unless_told (bytes_eq name (codes "ticks") && (count == 0)) (broken 16 at) (leaf sign.Ticks)) refl (λ t args. refl)

-- ---- how names are spelled

pub spelled_told : Both → (id : Ident) (x : All) (u : Judged Term (Option Fault)) → told x ≡ u → told (spelled all_faults id x) ≡ spelled least_fault id u
spelled_told both id x u q =
    joined_told {A = Bool} both (fits all_faults id) x (fits least_fault id) u _ _ (unless_told (nat_le (length id.bytes) 31) (broken 22 id.at) true) q (λ a t. refl)

pub head_told : Both → (t : Tree) (x : All) (u : Judged Term (Option Fault)) → told x ≡ u → told (spelled_head all_faults t x) ≡ spelled_head least_fault t u
head_told both (Part (label.Name id) y z) x u q = spelled_told both id x u q
head_told both (Part (label.Of kit id) y z) x u q = spelled_told both kit (spelled all_faults id x) (spelled least_fault id u) (spelled_told both id x u q)
head_told both t x u q = q
