-- A method with the kinds of its source's locals has the locals that its statements ask for.
use Rattle.std.proofs.Common.{◌≡◌, ◌<◌, ℕ, ◌+◌, Bool, true, false, nat_le, nat_lt, List, [], ◌∷◌, ◌++◌, map, length, Option, Some, None, IfSome, slice_get, unwrap_or, refl, sym, ap, subst, ◌∙◌, arith, length-append}
use Rattle.std.proofs.lemmas.List.{append_assoc}
use Rattle.std.proofs.lemmas.Option.{slice_get-get_or}
use Rattle.std.proofs.Math.Seq.{get_or-append_seam}
use Rattle.sed_units.specs.Tree.{Tree, Part}
use Rattle.sed_units.specs.declared.label.Label.TheVariants as label
use Rattle.sed_units.specs.declared.leaves.TypeRef.{TypeRef}
use Rattle.sed_typed.specs.declared.kind.Kind.{Kind}
use Rattle.sed_typed.specs.declared.kind.Kind.TheVariants as kind
use Rattle.sed_typed.specs.TypedExpr.{Context, IsNoReceiver}
use Rattle.sed_names.specs.Names.{Names}
use Rattle.sed_body_rules.specs.LocalTypes.{local_kind}
use Rattle.sed_body_rules.specs.Scope.{following, numbered_past}
use Rattle.sed_statements.specs.Inside.{IsLocalAt, Provides}
use Rattle.sed_body_laws.specs.Declared.{types_in}

-- ---- by a list of types

-- the next number behind declarations of these types
abbrev pub advanced : ℕ → ℕ → List TypeRef → ℕ
advanced limit next [] = next
advanced limit next (t ∷ ts) = advanced limit (following limit next) ts

-- a method has locals of these types from a number on, as far as the limit
abbrev pub Slots : Context → Names → ℕ → ℕ → List TypeRef → Type 0
Slots c n limit next [] = Unit {0}
Slots c n limit next (t ∷ ts) = (nat_lt next limit ≡ true →
    IfSome (local_kind n t) (IsLocalAt c next)) × Slots c n limit (following limit next) ts

advanced_append : (limit next : ℕ) (ts us : List TypeRef) →
    advanced limit next (ts ++ us) ≡ advanced limit (advanced limit next ts) us
advanced_append limit next [] us = refl
advanced_append limit next (t ∷ ts) us = advanced_append limit (following limit next) ts us

slots_split : (c : Context) (n : Names) (limit next : ℕ) (ts us : List TypeRef) → Slots c n limit next (ts ++ us) →
    Slots c n limit next ts × Slots c n limit (advanced limit next ts) us
slots_split c n limit next [] us h = (tt, h)
slots_split c n limit next (t ∷ ts) us h = let r = slots_split c n limit (following limit next) ts us h.1 in
    ((h.0, r.0), r.1)

-- ---- by a tree

both_past : (limit next : ℕ) (x y : Tree) → numbered_past limit next x ≡ advanced limit next (types_in x) →
    numbered_past limit (numbered_past limit next x) y ≡ advanced limit (numbered_past limit next x) (types_in y) →
    numbered_past limit (numbered_past limit next x) y ≡ advanced limit next (types_in x ++ types_in y)
both_past limit next x y e g = g ∙ ap (λ i. advanced limit i (types_in y)) e
    ∙ sym (advanced_append limit next (types_in x) (types_in y))

past_is : (limit next : ℕ) (t : Tree) → numbered_past limit next t ≡ advanced limit next (types_in t)
past_is limit next (Part (label.Local at type name) x y) = refl
past_is limit next (Part (label.Block at) all y) = past_is limit next all
past_is limit next (Part label.More t rest) = both_past limit next t rest (past_is limit next t) (past_is limit
    (numbered_past limit next t) rest)
past_is limit next (Part (label.If at) t (Part label.Both x y)) = both_past limit next x y (past_is limit next x)
    (past_is limit (numbered_past limit next x) y)
past_is limit next (Part (label.While at) t x) = past_is limit next x
past_is limit next (Part (label.Do at) x t) = past_is limit next x
past_is limit next (Part (label.For at) (Part label.Both first t) (Part label.Both last x)) =
    both_past limit next first x (past_is limit next first) (past_is limit (numbered_past limit next first) x)
past_is limit next (Part (label.Switch at) e cases) = past_is limit next cases
past_is limit next (Part (label.Case at) e all) = past_is limit next all
past_is limit next (Part (label.Default at) all y) = past_is limit next all
past_is limit next t = refl

second : (c : Context) (n : Names) (limit next : ℕ) (x : Tree) (us : List TypeRef) →
    Slots c n limit (advanced limit next (types_in x)) us →
    Slots c n limit (numbered_past limit next x) us
second c n limit next x us h = subst (λ (i : ℕ). Slots c n limit i us) (sym (past_is limit next x)) h

pub provides : (c : Context) (n : Names) (limit next : ℕ) (t : Tree) → Slots c n limit next (types_in t) →
    Provides c n limit next t
provides c n limit next (Part (label.Local at type name) x y) h = h.0
provides c n limit next (Part (label.Block at) all y) h = provides c n limit next all h
provides c n limit next (Part label.More t rest) h =
    let r = slots_split c n limit next (types_in t) (types_in rest) h in (
      provides c n limit next t r.0,
      provides c n limit (numbered_past limit next t) rest (second c n limit next t
          (types_in rest) r.1),
    )
provides c n limit next (Part (label.If at) t (Part label.Both x y)) h =
    let r = slots_split c n limit next (types_in x) (types_in y) h in (
      provides c n limit next x r.0,
      provides c n limit (numbered_past limit next x) y (second c n limit next x
          (types_in y) r.1),
    )
provides c n limit next (Part (label.While at) t x) h = provides c n limit next x h
provides c n limit next (Part (label.Do at) x t) h = provides c n limit next x h
provides c n limit next (Part (label.For at) (Part label.Both first t) (Part label.Both last x)) h =
    let r = slots_split c n limit next (types_in first) (types_in x) h in (
      provides c n limit next first r.0,
      provides c n limit (numbered_past limit next first) x
          (second c n limit next first (types_in x) r.1),
    )
provides c n limit next (Part (label.Switch at) e cases) h = provides c n limit next cases h
provides c n limit next (Part (label.Case at) e all) h = provides c n limit next all h
provides c n limit next (Part (label.Default at) all y) h = provides c n limit next all h
provides c n limit next t h = tt

-- ---- the method's locals

-- the kind of a local of this type; void of a type that has no meaning
abbrev pub kind_or : Names → TypeRef → Kind
kind_or n t = unwrap_or (local_kind n t) kind.Void

past_limit : (limit next : ℕ) → limit < next → nat_lt next limit ≡ true → ⊥
past_limit limit next h e = grind (arith, h, e)

stands_still : (limit next : ℕ) → limit < next → following limit next ≡ next
stands_still limit next h = grind (arith, h)

slots_past : (c : Context) (n : Names) (limit next : ℕ) (ts : List TypeRef) → limit < next → Slots c n limit next ts
slots_past c n limit next [] h = tt
slots_past c n limit next (t ∷ ts) h = (
  λ e. absurd (past_limit limit next h e),
  slots_past c n limit (following limit next) ts (subst (λ
      (i : ℕ). limit < i) (sym (stands_still limit next h)) h),
)

pub at_seam : (ks : List Kind) (k : Kind) (rest : List Kind) → slice_get (ks ++ k ∷ rest) (length ks) ≡ Some k
at_seam ks k rest =
    let inside : length ks < length (ks ++ k ∷ rest) = omega (arith, length-append ks (k ∷ rest)) in
    slice_get-get_or (ks ++ k ∷ rest) (length ks) k inside ∙ ap (λ x. Some x) (get_or-append_seam ks k rest k)

pub is_no_receiver : (c : Context) (i : ℕ) → (c.is_static ≡ false → 0 < i) → IsNoReceiver c i
is_no_receiver c i h e z = absurd (omega (arith, h e, z))

local_at : (c : Context) (n : Names) (t : TypeRef) (i : ℕ) → slice_get c.locals i ≡ Some (kind_or n t) →
    IsNoReceiver c i → IfSome (local_kind n t) (IsLocalAt c i)
local_at c n t i e r = by_kind (local_kind n t) e
  where
    by_kind : (o : Option Kind) → slice_get c.locals i ≡ Some (unwrap_or o kind.Void) → IfSome o (IsLocalAt c i)
    by_kind None g = tt
    by_kind (Some k) g = (g, r)

follows : (limit next : ℕ) → nat_le next limit ≡ true → following limit next ≡ next + 1
follows limit next h = grind (arith, h)

not_within : (limit next : ℕ) → nat_le next limit ≡ false → limit < next
not_within limit next h = grind (arith, h)

pub slots_of : (c : Context) (n : Names) (limit : ℕ) (front : List Kind) (ts : List TypeRef) →
    c.locals ≡ front ++ map (kind_or n) ts →
    (c.is_static ≡ false → 0 < length front) → Slots c n limit (length front) ts
slots_of c n limit front [] e g = tt
slots_of c n limit front (t ∷ ts) e g = (
  here,
  by_test (nat_le (length front) limit) refl
      (slots_of c n limit (front ++ kind_or n t ∷ []) ts (e
      ∙ sym (append_assoc front (kind_or n t ∷ []) (map (kind_or n) ts))) further),
)
  where
    here : nat_lt (length front) limit ≡ true → IfSome (local_kind n t) (IsLocalAt c (length front))
    here h =
        local_at c n t (length front)
        (ap (λ ks. slice_get ks (length front)) e ∙ at_seam front (kind_or n t) (map (kind_or n) ts)) (is_no_receiver c
        (length front) g)

    one_more : length (front ++ kind_or n t ∷ []) ≡ length front + 1
    one_more = length-append front (kind_or n t ∷ [])

    further : c.is_static ≡ false → 0 < length (front ++ kind_or n t ∷ [])
    further s = omega (arith, one_more)

    by_test : (b : Bool) → nat_le (length front) limit ≡ b → Slots c n limit (length (front ++ kind_or n t ∷ [])) ts →
        Slots c n limit (following limit (length front)) ts
    by_test true h rest =
        subst (λ (i : ℕ). Slots c n limit i ts) (one_more ∙ sym (follows limit (length front) h)) rest
    by_test false h rest =
        let past : limit < length front = not_within limit (length front) h in
        slots_past c n limit (following limit (length front)) ts (subst (λ (i : ℕ). limit < i) (sym (stands_still limit
        (length front) past)) past)
