-- What calls come to. Rule 16 is broken at a call of no method of its name, with another number of arguments, or with
-- one that does not go to its parameter. Of a parameter that is declared with a fault, and of an argument that is
-- unknown, it does not speak.
use Rattle.std.specs.Prelude.{ℕ, suc, ◌==◌, Bool, false, not, ◌&&◌, ◌||◌, if◌then◌else◌, List, [], ◌∷◌, length, codes}
use Rattle.std.specs.Prelude.{slice_get, Option, Some, None}
use Rattle.std.specs.Option.{option_and_then}
use Rattle.std.specs.Str.{bytes_eq}
use Rattle.sed_units.specs.Tree.{Tree, Part}
use Rattle.sed_units.specs.declared.label.Label.TheVariants as label
use Rattle.sed_typed.specs.declared.kind.Kind.{Kind}
use Rattle.sed_typed.specs.declared.kind.Kind.TheVariants as kind
use Rattle.sed_typed.specs.declared.operators.TextCall.{TextCall}
use Rattle.sed_typed.specs.declared.operators.TextCall.TheVariants as texts
use Rattle.sed_names.specs.declared.signature.Signature.{Signature}
use Rattle.sed_names.specs.Names.{Names}
use Rattle.sed_terms.specs.declared.judged.Judged.{Judged}
use Rattle.sed_terms.specs.declared.judged.Judged.TheVariants.{Sound, Unknown}
use Rattle.sed_terms.specs.declared.sign.Sign.TheVariants as sign
use Rattle.sed_terms.specs.Faults.{Marks, broken, after, joined, unless, some_or}
use Rattle.sed_terms.specs.Sorts.{sort_of}
use Rattle.sed_terms.specs.Term.{Term, Absent, Node, leaf, with_item}
use Rattle.sed_body_rules.specs.Conversions.{placed}
use Rattle.sed_bodies.specs.declared.context.Body.{Body}
use Rattle.sed_bodies.specs.declared.context.Callee.{Callee}
use Rattle.sed_bodies.specs.declared.context.Owner.{Owner}
use Rattle.sed_bodies.specs.declared.context.Owner.TheVariants as owner
use Rattle.sed_bodies.specs.Members.{known, through, receiver, owner_of}

-- ---- arguments

-- how many stand in a row
abbrev pub row_length : Tree → ℕ
row_length (Part label.More t rest) = suc (row_length rest)
row_length t = 0

-- the kind of the parameter at a place, if there is one and it has a kind
abbrev pub kind_at : List (Option Kind) → ℕ → Option Kind
kind_at params i = option_and_then (λ k. k) (slice_get params i)

-- an argument for a parameter of a kind; `at` is the place of the call
abbrev pub argument : {F : Type 0} → Marks F → Names → ℕ → Option Kind → Judged Term F → Judged Term F
argument m n at k x = joined m (known m k) x (λ to t. some_or m (broken 16 at) (placed n.below to t))

-- the arguments so far, with one more
abbrev pub with_argument : {F : Type 0} → Marks F → Judged Term F → Judged Term F → Judged Term F
with_argument m xs x = joined m xs x (λ ts t. Sound (with_item ts t))

-- ---- the method that is called

abbrev pub params_of : Option Signature → List (Option Kind)
params_of None = []
params_of (Some s) = s.params

abbrev pub callee_of : Signature → Callee
callee_of s = record { number = s.number; is_static = s.is_static; is_abstract = s.is_abstract; result = s.result }

-- one that has as many parameters as there are arguments; `at` is the place of the call
abbrev pub callee : {F : Type 0} → Marks F → ℕ → ℕ → Signature → Judged Callee F
callee m at count s = unless m (length s.params == count) (broken 16 at) (callee_of s)

-- rule 17 where it needs a receiver, and there is none; `id_at` is the place of its name
abbrev pub reached : {F : Type 0} → Marks F → Bool → ℕ → Callee → Judged Callee F
reached m has_receiver id_at c = unless m (c.is_static || has_receiver) (broken 17 id_at) c

abbrev pub own_callee : {F : Type 0} → Marks F → Bool → ℕ → ℕ → ℕ → Signature → Judged Callee F
own_callee m has_receiver id_at at count s =
    joined m (callee m at count s) (reached m has_receiver id_at (callee_of s)) (λ c d. Sound c)

-- by `super`: rule 24 where it is abstract
abbrev pub super_callee : {F : Type 0} → Marks F → ℕ → ℕ → Signature → Judged Callee F
super_callee m at count s =
    joined m (callee m at count s) (unless m (not s.is_abstract) (broken 24 at) s.is_abstract) (λ c d. Sound c)

-- ---- with its arguments

abbrev pub static_call : {F : Type 0} → Marks F → Callee → Term → Judged Term F
static_call m c args = after (known m c.result) (λ k. Sound (Node (sign.Call k c.number) args Absent))

abbrev pub invocation : {F : Type 0} → Marks F → Callee → Term → Term → Judged Term F
invocation m c x args = after (known m c.result) (λ k. Sound (Node (sign.Invoke k c.number) x args))

abbrev pub super_invocation : {F : Type 0} → Marks F → Callee → Term → Judged Term F
super_invocation m c args = after (known m c.result) (λ k. Sound (Node (sign.Super k c.number) args Absent))

-- no method of the name
abbrev pub no_method : {F : Type 0} → Marks F → ℕ → Judged Term F → Judged Term F
no_method m at xs = joined {A = Term} m (Unknown (m.one (broken 16 at))) xs (λ t args. Sound t)

-- `ID(..)`, of a method of the class in which it stands
abbrev pub own_call : {F : Type 0} → Marks F → Body → ℕ → ℕ → Option Signature → Judged Term F → Judged Term F
own_call m b at count None xs = no_method m at xs
own_call m b at count (Some s) xs =
    joined m (own_callee m (not b.is_static) at at count s) xs
    (λ c args. if c.is_static then static_call m c args else invocation m c (leaf (sign.This b.class)) args)

-- `super.ID(..)`, of the method that is nearest above that class
abbrev pub super_called : {F : Type 0} → Marks F → Body → ℕ → ℕ → Option Signature → Judged Term F → Judged Term F
super_called m b at count None xs = joined m (receiver m b at) (no_method m at xs) (λ x t. Sound t)
super_called m b at count (Some s) xs =
    joined m (joined m (receiver m b at) (super_callee m at count s) (λ x c. Sound c)) xs
    (λ c args. if c.is_static then static_call m c args else super_invocation m c args)

-- `.ID(..)` behind the name of a class
abbrev pub class_call : {F : Type 0} → Marks F → ℕ → ℕ → ℕ → Option Signature → Judged Term F → Judged Term F
class_call m id_at at count None xs = no_method m at xs
class_call m id_at at count (Some s) xs =
    joined m (own_callee m false id_at at count s) xs (λ c args. static_call m c args)

-- behind an object; a static method is called through it, and it is evaluated before
abbrev pub object_call : {F : Type 0} → Marks F → ℕ → ℕ → Term → Option Signature → Judged Term F → Judged Term F
object_call m at count x None xs = no_method m at xs
object_call m at count x (Some s) xs =
    joined m (callee m at count s) xs (λ c args. if c.is_static then through x (static_call m c args)
    else invocation m c x args)

-- ---- calls of a Str

abbrev pub text_named : List ℕ → Option TextCall
text_named name = if bytes_eq name (codes "length") then Some texts.Length
    else if bytes_eq name (codes "get") then Some texts.Get
    else if bytes_eq name (codes "set") then Some texts.Set
    else if bytes_eq name (codes "equals") then Some texts.Equals
    else if bytes_eq name (codes "copyFromStr") then Some texts.Copy
    else None

abbrev pub text_params : Option TextCall → List (Option Kind)
text_params (Some texts.Get) = Some kind.Int ∷ []
text_params (Some texts.Set) = Some kind.Int ∷ Some kind.Int ∷ []
text_params (Some texts.Equals) = Some kind.Text ∷ []
text_params (Some texts.Copy) = Some kind.Text ∷ []
text_params c = []

abbrev pub text_callee : {F : Type 0} → Marks F → ℕ → ℕ → TextCall → Judged TextCall F
text_callee m at count c = unless m (length (text_params (Some c)) == count) (broken 16 at) c

abbrev pub text_called : {F : Type 0} → Marks F → ℕ → ℕ → Term → Option TextCall → Judged Term F → Judged Term F
text_called m at count x None xs = no_method m at xs
text_called m at count x (Some c) xs =
    joined m (text_callee m at count c) xs (λ c args. Sound (Node (sign.TextCall c) x args))

-- ---- `.ID(..)` behind an expression

-- the parameters of what is called, as far as they are known
abbrev pub params_by : Names → List ℕ → Owner → List (Option Kind)
params_by n name (owner.Object class) = params_of (n.method class.0 name)
params_by n name owner.Text = text_params (text_named name)
params_by n name o = []

abbrev pub params_behind : {F : Type 0} → Names → List ℕ → Judged Term F → List (Option Kind)
params_behind n name (Sound t) = params_by n name (owner_of (sort_of t))
params_behind n name (Unknown f) = []

abbrev pub unknown_receiver : {F : Type 0} → Marks F → F → Judged Term F → Judged Term F
unknown_receiver m f xs = joined {A = Term} m (Unknown f) xs (λ t args. Sound t)

abbrev pub called_by : {F : Type 0} → Marks F → Names → List ℕ → ℕ → ℕ → Owner → Term → Judged Term F → Judged Term F
called_by m n name at count (owner.Object class) x xs = object_call m at count x (n.method class.0 name) xs
called_by m n name at count owner.Text x xs = text_called m at count x (text_named name) xs
called_by m n name at count o x xs = no_method m at xs

abbrev pub called : {F : Type 0} → Marks F → Names → List ℕ → ℕ → ℕ → Judged Term F → Judged Term F → Judged Term F
called m n name at count (Sound x) xs = called_by m n name at count (owner_of (sort_of x)) x xs
called m n name at count (Unknown f) xs = unknown_receiver m f xs

-- ---- calls of the system

abbrev pub system_call : {F : Type 0} → Marks F → List ℕ → ℕ → ℕ → Judged Term F → Judged Term F
system_call m name at count xs =
    joined m (unless m (bytes_eq name (codes "ticks") && (count == 0)) (broken 16 at) (leaf sign.Ticks))
    xs (λ t args. Sound t)
