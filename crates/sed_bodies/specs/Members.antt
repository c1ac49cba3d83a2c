-- What names stand for. A name is a local in scope, or else a member of the class in which it stands or of its bases.
-- Rule 12 is broken at a name that has no meaning, rule 17 at an instance member where there is no instance, and rule
-- 22 at each identifier above 31 bytes.
use Rattle.std.specs.Prelude.{ℕ, nat_le, Bool, true, false, if◌then◌else◌, List, length, codes, Option, Some, None}
use Rattle.std.specs.Str.{bytes_eq}
use Rattle.sed_units.specs.Tree.{Tree, Part}
use Rattle.sed_units.specs.declared.label.Label.TheVariants as label
use Rattle.sed_units.specs.declared.leaves.Ident.{Ident}
use Rattle.sed_typed.specs.declared.kind.Kind.TheVariants as kind
use Rattle.sed_typed.specs.declared.number.TypeNo.{TypeNo}
use Rattle.sed_typed.specs.declared.program.FieldForm.{FieldForm}
use Rattle.sed_typed.specs.declared.program.FieldForm.TheVariants as form
use Rattle.sed_names.specs.declared.member.Constant.{Constant}
use Rattle.sed_names.specs.declared.member.Constant.TheVariants as constant
use Rattle.sed_names.specs.declared.member.Member.{Member}
use Rattle.sed_names.specs.declared.member.Member.TheVariants as member
use Rattle.sed_names.specs.Names.{Names}
use Rattle.sed_terms.specs.declared.judged.Judged.{Judged}
use Rattle.sed_terms.specs.declared.judged.Judged.TheVariants.{Sound, Unknown}
use Rattle.sed_terms.specs.declared.sign.Sign.TheVariants as sign
use Rattle.sed_terms.specs.declared.sort.Sort.{Sort}
use Rattle.sed_terms.specs.declared.sort.Sort.TheVariants.{Of, Buf}
use Rattle.sed_terms.specs.Faults.{Marks, broken, after, joined, unless}
use Rattle.sed_terms.specs.Forms.{bytes_of, size_of}
use Rattle.sed_terms.specs.Sorts.{sort_of}
use Rattle.sed_terms.specs.Term.{Term, Absent, Node, leaf}
use Rattle.sed_bodies.specs.declared.context.Before.{Before}
use Rattle.sed_bodies.specs.declared.context.Before.TheVariants.{Value, Class, System}
use Rattle.sed_bodies.specs.declared.context.Body.{Body}
use Rattle.sed_bodies.specs.declared.context.Owner.{Owner}
use Rattle.sed_bodies.specs.declared.context.Owner.TheVariants as owner
use Rattle.sed_body_rules.specs.declared.local.Local.{Local}
use Rattle.sed_body_rules.specs.Scope.{Scope, local_named}

-- ---- what is declared with a fault is unknown, and its uses are no fault of their own

abbrev pub known : {F A : Type 0} → Marks F → Option A → Judged A F
known m (Some a) = Sound a
known m None = Unknown m.none

abbrev pub local_of : {F : Type 0} → Marks F → Local → Judged Term F
local_of m l = after (known m l.kind) (λ k. Sound (leaf (sign.Local k l.number)))

-- a field of an object
abbrev pub field_term : ℕ → Term → FieldForm → Term
field_term i x (form.Prim p) = Node (sign.Field p i) x Absent
field_term i x (form.Str n) = Node (sign.Part kind.Text i) x Absent
field_term i x (form.Buf n) = Node (sign.Buf i) x Absent
field_term i x (form.Array p n) = Node (sign.Array p n i) x Absent
field_term i x (form.Object class) = Node (sign.Part (kind.Object class) i) x Absent

abbrev pub field_of : {F : Type 0} → Marks F → Option FieldForm → ℕ → Term → Judged Term F
field_of m f i x = after (known m f) (λ f. Sound (field_term i x f))

-- a static field; none is a Buf
abbrev pub static_term : ℕ → FieldForm → Option Term
static_term i (form.Prim p) = Some (leaf (sign.Static p i))
static_term i (form.Str n) = Some (leaf (sign.StaticPart kind.Text i))
static_term i (form.Buf n) = None
static_term i (form.Array p n) = Some (leaf (sign.StaticArray p n i))
static_term i (form.Object class) = Some (leaf (sign.StaticPart (kind.Object class) i))

abbrev pub static_of : {F : Type 0} → Marks F → Option FieldForm → ℕ → Judged Term F
static_of m f i = after (known m f) (λ f. known m (static_term i f))

abbrev pub constant_term : Constant → Term
constant_term (constant.Bool t) = leaf (sign.Bool t)
constant_term (constant.Int n) = leaf (sign.Int n)
constant_term (constant.Long n) = leaf (sign.Long n)

abbrev pub define_of : {F : Type 0} → Marks F → Option Constant → Judged Term F
define_of m c = after (known m c) (λ c. Sound (constant_term c))

-- ---- members, by how they are named

-- by the name alone
abbrev pub own_member : {F : Type 0} → Marks F → Body → ℕ → Option Member → Judged Term F
own_member m b at (Some (member.Field f i)) =
    if b.is_static then Unknown (m.one (broken 17 at)) else field_of m f i (leaf (sign.This b.class))
own_member m b at (Some (member.Static f i)) = static_of m f i
own_member m b at (Some (member.Define c)) = define_of m c
own_member m b at (Some member.Method) = Unknown (m.one (broken 12 at))
own_member m b at None = Unknown (m.one (broken 12 at))

-- behind the name of a class
abbrev pub class_member : {F : Type 0} → Marks F → ℕ → Option Member → Judged Term F
class_member m at (Some (member.Field f i)) = Unknown (m.one (broken 17 at))
class_member m at (Some (member.Static f i)) = static_of m f i
class_member m at (Some (member.Define c)) = define_of m c
class_member m at (Some member.Method) = Unknown (m.one (broken 12 at))
class_member m at None = Unknown (m.one (broken 12 at))

-- behind an object: a static member is named through it, and it is evaluated before
abbrev pub through : {F : Type 0} → Term → Judged Term F → Judged Term F
through x y = after y (λ t. Sound (Node sign.After x t))

abbrev pub object_member : {F : Type 0} → Marks F → ℕ → Term → Option Member → Judged Term F
object_member m at x (Some (member.Field f i)) = field_of m f i x
object_member m at x (Some (member.Static f i)) = through x (static_of m f i)
object_member m at x (Some (member.Define c)) = through x (define_of m c)
object_member m at x (Some member.Method) = Unknown (m.one (broken 12 at))
object_member m at x None = Unknown (m.one (broken 12 at))

-- behind a Buf
abbrev pub buf_member : {F : Type 0} → Marks F → Ident → Term → Judged Term F
buf_member m id x =
    if bytes_eq id.bytes (codes "size") then Sound (size_of x)
    else if bytes_eq id.bytes (codes "bytes") then Sound (bytes_of x)
    else Unknown (m.one (broken 12 id.at))

-- what a member or a method behind a value is sought in
abbrev pub owner_of : Sort → Owner
owner_of (Of (kind.Object class)) = owner.Object class
owner_of (Of kind.Text) = owner.Text
owner_of Buf = owner.Buf
owner_of s = owner.Nothing

abbrev pub member_by : {F : Type 0} → Marks F → Names → Ident → Owner → Term → Judged Term F
member_by m n id (owner.Object class) x = object_member m id.at x (n.member class.0 id.bytes)
member_by m n id owner.Buf x = buf_member m id x
member_by m n id o x = Unknown (m.one (broken 12 id.at))

-- `.ID` behind an expression
abbrev pub member_of : {F : Type 0} → Marks F → Names → Ident → Judged Term F → Judged Term F
member_of m n id x = after x (λ t. member_by m n id (owner_of (sort_of t)) t)

-- ---- names

abbrev pub named_by : {F : Type 0} → Marks F → Body → ℕ → Option Local → Option Member → Judged Term F
named_by m b at (Some l) f = local_of m l
named_by m b at None f = own_member m b at f

abbrev pub named : {F : Type 0} → Marks F → Names → Body → Scope → Ident → Judged Term F
named m n b s id = named_by m b id.at (local_named s.entries id.bytes) (n.member b.class.0 id.bytes)

-- `this`
abbrev pub receiver : {F : Type 0} → Marks F → Body → ℕ → Judged Term F
receiver m b at = if b.is_static then Unknown (m.one (broken 17 at)) else Sound (leaf (sign.This b.class))

-- ---- how names are spelled

-- What an identifier stands in is unknown where the identifier is too long, and it leads to what it names
-- nevertheless: where that breaks a rule, both faults are there.
abbrev pub fits : {F : Type 0} → Marks F → Ident → Judged Bool F
fits m id = unless m (nat_le (length id.bytes) 31) (broken 22 id.at) true

abbrev pub spelled : {F : Type 0} → Marks F → Ident → Judged Term F → Judged Term F
spelled m id x = joined {A = Bool} m (fits m id) x (λ fit t. Sound t)

-- behind the name of a class
abbrev pub spelled_head : {F : Type 0} → Marks F → Tree → Judged Term F → Judged Term F
spelled_head m (Part (label.Name id) y z) x = spelled m id x
spelled_head m (Part (label.Of kit id) y z) x = spelled m kit (spelled m id x)
spelled_head m t x = x

-- ---- before a `.`

abbrev pub class_or_value : Option TypeNo → Before
class_or_value (Some class) = Class class
class_or_value None = Value

abbrev pub no_member_before : Names → List ℕ → Before
no_member_before n name = if bytes_eq name (codes "Sys") then System else class_or_value (n.class name)

abbrev pub name_before : Names → List ℕ → Option Local → Option Member → Before
name_before n name (Some l) f = Value
name_before n name None (Some f) = Value
name_before n name None None = no_member_before n name

-- what stands before a `.`, where it is the name of a class or of the system's calls
abbrev pub before : Names → Body → Scope → Tree → Before
before n b s (Part (label.Name id) x y) =
    name_before n id.bytes (local_named s.entries id.bytes) (n.member b.class.0 id.bytes)
before n b s (Part (label.Of kit id) x y) = class_or_value (n.class_in kit.bytes id.bytes)
before n b s t = Value

abbrev pub is_dot : Tree → Bool
is_dot (Part (label.Member at id) x y) = true
is_dot (Part (label.Method at id) x y) = true
is_dot t = false

abbrev pub before_link : Names → Body → Scope → Tree → Tree → Before
before_link n b s head link = if is_dot link then before n b s head else Value
