-- The methods of a program beside the members that declare them and the trees of their bodies.
use Rattle.std.proofs.Common.{◌≡◌, ℕ, zero, suc, true, List, [], ◌∷◌, map, slice_get, Option, Some, None, refl, sym, ◌∙◌, subst}
use Rattle.std.specs.List.{enumerate_from}
use Rattle.std.specs.Option.{option_map}
use Rattle.std.proofs.lemmas.Option.{slice_get-map}
use Rattle.sed_units.specs.declared.classes.Member.{Member}
use Rattle.sed_typed.specs.declared.program.Method.{Method}
use Rattle.sed_classes.specs.declared.kit_units.KitUnits.{KitUnits}
use Rattle.sed_classes.specs.Members.{is_method, kit_of, members_of, owned}
use Rattle.sed_classes.specs.Schema.{class_order}
use Rattle.sed_program.specs.Methods.{MethodAt, methods_in, methods_of, own_methods}
use Rattle.sed_member_laws.proofs.Flat.{filtered_in, flat_in, some_is}
use Rattle.sed_check.specs.Bodies.{AreBodies, IsBodyOf}

-- ---- the member that a method is

-- it stands among the members of its class, has the kit of that, and is a method
abbrev pub IsMemberAt : List KitUnits → MethodAt → Type 0
IsMemberAt units e =
    (at : ℕ) × (slice_get (members_of units e.owned.class) at ≡ Some e.owned.member)
    × (e.owned.kit ≡ kit_of units e.owned.class) × (is_method e.owned.member ≡ true)

member_in : (units : List KitUnits) (c : ℕ × ℕ) (j : ℕ) (e : MethodAt) → slice_get (methods_in units c) j ≡ Some e →
    IsMemberAt units e
member_in units c j e h =
    by_found
    (slice_get (own_methods units c.1) j)
    refl
    (sym (slice_get-map (λ (m : Member). record { class = c.0; owned = owned c.1 (kit_of units c.1) m })
    (own_methods units c.1) j) ∙ h)
  where
    by_found : (o : Option Member) → slice_get (own_methods units c.1) j ≡ o →
        option_map (λ (m : Member). record { class = c.0; owned = owned c.1 (kit_of units c.1) m }) o ≡ Some e →
        IsMemberAt units e
    by_found None s g = cc
    by_found (Some m) s g =
        let there = filtered_in is_method (members_of units c.1) j m s in
        subst
        (IsMemberAt units)
        (some_is (record { class = c.0; owned = owned c.1 (kit_of units c.1) m }) e g)
        (there.0, there.1, refl, there.2)

pub member_at : (units : List KitUnits) (i : ℕ) (e : MethodAt) → slice_get (methods_of units) i ≡ Some e →
    IsMemberAt units e
member_at units i e h =
    let flat = flat_in (methods_in units) (enumerate_from 0 (class_order units)) i e h in
    member_in units flat.2 flat.1 e flat.4

-- ---- the tree of its body

pub body_at : (units : List KitUnits) (es : List MethodAt) (ms : List Method) →
    AreBodies units es (map (λ (m : Method). m.body) ms) → (i : ℕ) (e : MethodAt) (m : Method) →
    slice_get es i ≡ Some e → slice_get ms i ≡ Some m → IsBodyOf units e m.body
body_at units [] ms h i e m p q = cc
body_at units (x ∷ xs) [] h i e m p q = cc
body_at units (x ∷ xs) (y ∷ ys) h zero e m p q = both (some_is x e p) (some_is y m q) h.0
  where
    both : x ≡ e → y ≡ m → IsBodyOf units x y.body → IsBodyOf units e m.body
    both s t b =
        subst (λ (w : MethodAt). IsBodyOf units w m.body) s (subst (λ (w : Method). IsBodyOf units x w.body) t b)
body_at units (x ∷ xs) (y ∷ ys) h (suc i) e m p q = body_at units xs ys h.1 i e m p q
