-- Methods beside the members that declare them, one by one.
use Rattle.std.proofs.Common.{◌≡◌, ◌+◌, ℕ, zero, suc, Bool, if◌then◌else◌, List, [], ◌∷◌, slice_get, Some, refl, sym, ap, ◌∙◌}
use Rattle.std.specs.List.{count_by}
use Rattle.sed_typed.specs.declared.program.Method.{Method}
use Rattle.sed_classes.specs.declared.kit_units.KitUnits.{KitUnits}
use Rattle.sed_program.specs.Methods.{MethodAt}
use Rattle.sed_program.specs.Outlined.{AreHeads, IsHead}
use Rattle.sed_member_laws.proofs.Flat.{some_is}
use Rattle.sed_program.proofs.OrderLists.{count_cons}

pub head_at : (units : List KitUnits) (es : List MethodAt) (ms : List Method) → AreHeads units es ms →
    (i : ℕ) (e : MethodAt) →
    slice_get es i ≡ Some e → (m : Method) × (slice_get ms i ≡ Some m) × IsHead units e m
head_at units [] [] h i e at = cc
head_at units (x ∷ xs) [] h i e at = absurd h
head_at units [] (y ∷ ys) h i e at = absurd h
head_at units (x ∷ xs) (y ∷ ys) h zero e at = (y, refl, subst_head (some_is x e at) h.0)
  where
    subst_head : x ≡ e → IsHead units x y → IsHead units e y
    subst_head same head = rw same at head
head_at units (x ∷ xs) (y ∷ ys) h (suc i) e at = head_at units xs ys h.1 i e at

pub headed : (units : List KitUnits) (es : List MethodAt) (ms : List Method) → AreHeads units es ms →
    (i : ℕ) (m : Method) →
    slice_get ms i ≡ Some m → (e : MethodAt) × (slice_get es i ≡ Some e) × IsHead units e m
headed units [] [] h i m at = cc
headed units (x ∷ xs) [] h i m at = absurd h
headed units [] (y ∷ ys) h i m at = absurd h
headed units (x ∷ xs) (y ∷ ys) h zero m at = (x, refl, subst_head (some_is y m at) h.0)
  where
    subst_head : y ≡ m → IsHead units x y → IsHead units x m
    subst_head same head = rw same at head
headed units (x ∷ xs) (y ∷ ys) h (suc i) m at = headed units xs ys h.1 i m at

pub heads_count : (units : List KitUnits) (p : Method → Bool) (q : MethodAt → Bool) →
    ((e : MethodAt) (m : Method) → IsHead units e m → p m ≡ q e) →
    (es : List MethodAt) (ms : List Method) → AreHeads units es ms → count_by p ms ≡ count_by q es
heads_count units p q same [] [] h = refl
heads_count units p q same (x ∷ xs) [] h = absurd h
heads_count units p q same [] (y ∷ ys) h = absurd h
heads_count units p q same (x ∷ xs) (y ∷ ys) h =
    count_cons p y ys
    ∙ ap (λ b. (if b then 1 else 0) + count_by p ys) (same x y h.0)
    ∙ ap (λ n. (if q x then 1 else 0) + n) (heads_count units p q same xs ys h.1)
    ∙ sym (count_cons q x xs)
