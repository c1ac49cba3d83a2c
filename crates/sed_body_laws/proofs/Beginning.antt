-- Where a body begins: behind its receiver and its parameters.
use Rattle.std.proofs.Common.{◌≡◌, ◌≤◌, ◌<◌, ℕ, ◌+◌, Bool, true, false, not, nat_lt, if◌then◌else◌, List, [], ◌∷◌, ◌++◌, map, length, Some, slice_get, refl, sym, ap, ◌∙◌, arith, length-append}
use Rattle.std.proofs.lemmas.List.{append_assoc}
use Rattle.sed_units.specs.declared.leaves.Param.{Param}
use Rattle.sed_units.specs.declared.leaves.TypeRef.{TypeRef}
use Rattle.sed_typed.specs.declared.kind.Kind.{Kind}
use Rattle.sed_typed.specs.TypedExpr.{Context, IsKindOf}
use Rattle.sed_names.specs.Names.{Names}
use Rattle.sed_body_rules.specs.LocalTypes.{local_kind}
use Rattle.sed_body_rules.specs.Scope.{Scope, following, with_local, scope_of, behind_params}
use Rattle.sed_bodies.specs.Inside.{HasKinds}
use Rattle.sed_statements.specs.declared.enclosing.Enclosing.{Enclosing}
use Rattle.sed_statements.specs.Inside.{IsLocalAt, Stands}
use Rattle.sed_body_laws.specs.Bodies.{HasNames}
use Rattle.sed_body_laws.proofs.Slots.{at_seam, is_no_receiver}
use Rattle.sed_body_laws.proofs.Storable.{first_same, rest_same}

-- a scope with one local more, of which it is said elsewhere that it stands
abbrev pub OneMore : Type 0
OneMore = (c : Context) (n : Names) (e : Enclosing) (s : Scope) (type : TypeRef) (name : List ℕ) (k : Kind) →
    Stands c n e s → nat_lt s.next s.limit ≡ true →
    local_kind n type ≡ Some k → IsLocalAt c s.next k → Stands c n e (with_local n s type name)

pub has_kinds : (c : Context) (n : Names) → HasNames c n → c.class < length c.program.schema.classes →
    ((i : ℕ) (k : Kind) → slice_get c.locals i ≡ Some k → IsKindOf c.program k) → HasKinds c
has_kinds c n h there locals = record {
  class = there;
  locals = locals;
  results = h.results;
  fields = h.fields;
  statics = h.statics;
}

pub begins : (c : Context) (n : Names) (e : Enclosing) → HasNames c n → HasKinds c → e.body.class.0 ≡ c.class →
    e.body.is_static ≡ c.is_static → (receiver : Bool) →
    Stands c n e (scope_of receiver)
begins c n e h k class static true = record {
  inside = record {
    kinds = k;
    class = class;
    static = static;
    below = h.below;
    base = h.base;
    locals = λ name. tt;
    members = h.members;
    methods = h.methods;
    texts = h.texts;
  };
  room = omega arith;
}
begins c n e h k class static false = record {
  inside = record {
    kinds = k;
    class = class;
    static = static;
    below = h.below;
    base = h.base;
    locals = λ name. tt;
    members = h.members;
    methods = h.methods;
    texts = h.texts;
  };
  room = omega arith;
}

pub begin_next : (is_static : Bool) (k : Kind) → (let s : Scope = scope_of (not is_static) in s.next)
    ≡ length (if is_static then [] else k ∷ [])
begin_next true k = refl
begin_next false k = refl

pub begin_limit : (is_static : Bool) (k : Kind) → (let s : Scope = scope_of (not is_static) in s.limit)
    ≡ length (if is_static then [] else k ∷ []) + 64
begin_limit true k = refl
begin_limit false k = refl

pub begin_further : (is_static : Bool) (k : Kind) → is_static ≡ false → 0 < length (if is_static then [] else k ∷ [])
begin_further true k h = absurd (cc)
begin_further false k h = omega arith

-- ---- behind parameters

pub record IsBehind (c : Context) (n : Names) (e : Enclosing) (front count : ℕ) (s z : Scope) : Type 0 where
  pub stands : Stands c n e z
  pub next : z.next ≡ front + count
  pub limit : z.limit ≡ s.limit

is_below : (limit next front more : ℕ) → next ≡ front → front + (more + 1) ≤ limit → nat_lt next limit ≡ true
is_below limit next front more e h = grind (arith, e, h)

goes_on : (limit next front more : ℕ) → next ≡ front → front + (more + 1) ≤ limit → following limit next ≡ front + 1
goes_on limit next front more e h = grind (arith, e, h)

longer : (k : Kind) (ks : List Kind) → length (k ∷ ks) ≡ length ks + 1
longer k ks = omega arith

pub behind_all : OneMore → (c : Context) (n : Names) (e : Enclosing) (front ks rest : List Kind) (ps : List Param)
    (s : Scope) → Stands c n e s → s.next ≡ length front →
    length front + length ks ≤ s.limit → c.locals ≡ front ++ ks ++ rest →
    map (λ k. Some k) ks ≡ map (λ p. local_kind n p.kind) ps →
    (c.is_static ≡ false → 0 < length front) → IsBehind c n e (length front) (length ks) s (behind_params n s ps)
behind_all more c n e front [] rest [] s i en room el ek further = record {
  stands = i;
  next = omega
      (arith, en);
  limit = refl;
}
behind_all more c n e front [] rest (p ∷ ps) s i en room el ek further = absurd (cc)
behind_all more c n e front (k ∷ ks) rest [] s i en room el ek further = absurd (cc)
behind_all more c n e front (k ∷ ks) rest (p ∷ ps) s i en room el ek further =
    let next : IsBehind c n e (length (front ++ k ∷ [])) (length ks) (with_local n s p.kind p.name.bytes)
    (behind_params n (with_local n s p.kind p.name.bytes) ps) =
    behind_all more c n e (front ++ k ∷ []) ks rest ps (with_local n s p.kind p.name.bytes)
    (more c n e s p.kind p.name.bytes k i (is_below s.limit s.next (length front) (length ks) en fits) kind
    (at, is_no_receiver c s.next (λ h. omega (arith, en, further h))))
    (goes_on s.limit s.next (length front) (length ks) en fits ∙ sym one_more) (omega (arith, counted, room))
    (el ∙ ap (λ xs. xs ++ rest) (sym (append_assoc front (k ∷ []) ks)))
    (rest_same (Some k) (local_kind n p.kind) (map (λ x. Some x) ks) (map (λ q. local_kind n q.kind) ps) ek)
    (λ h. omega (arith, one_more)) in
    record { stands = next.stands; next = next.next ∙ counted; limit = next.limit }
  where
    fits : length front + (length ks + 1) ≤ s.limit
    fits = omega (arith, room, longer k ks)

    kind : local_kind n p.kind ≡ Some k
    kind = sym (first_same (Some k) (local_kind n p.kind) (map (λ x. Some x) ks) (map (λ q. local_kind n q.kind) ps) ek)

    at : slice_get c.locals s.next ≡ Some k
    at =
        ap (λ j. slice_get c.locals j) en ∙ ap (λ xs. slice_get xs (length front)) (el
        ∙ append_assoc front (k ∷ ks) rest)
        ∙ at_seam front k (ks ++ rest)

    one_more : length (front ++ k ∷ []) ≡ length front + 1
    one_more = length-append front (k ∷ [])

    counted : length (front ++ k ∷ []) + length ks ≡ length front + length (k ∷ ks)
    counted = omega (arith, one_more, longer k ks)
