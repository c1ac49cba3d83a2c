-- The kits of a schema with their checksums.
use Rattle.std.proofs.Common.{◌≡◌, ◌<◌, ◌+◌, ℕ, zero, suc, List, [], ◌∷◌, ◌++◌, take, length, get_or, map, refl, sym, ap, ◌∙◌, arith}
use Rattle.std.specs.List.{enumerate_from}
use Rattle.std.proofs.Math.Numerals.{add-one}
use Rattle.sed_value.specs.declared.kit.KitRef.{KitRef}
use Rattle.sed_typed.specs.declared.schema.Schema.{Schema}
use Rattle.sed_classes.specs.declared.kit_units.KitUnits.{KitUnits}
use Rattle.sed_classes.specs.Schema.{kit_names, kit_refs, outline, signed_kit, unsigned_kit}
use Rattle.sed_outline.specs.Fits.{signed_in}

numbered_more : {X : Type 0} (a i : ℕ) (xs : List X) (x : X) → i < length xs → get_or xs i x ≡ x →
    enumerate_from a (take (suc i) xs) ≡ enumerate_from a (take i xs) ++ (a + i, x) ∷ []
numbered_more a i [] x h e = absurd (omega (arith, h))
numbered_more a zero (y ∷ ys) x h e =
    let at : a ≡ a + 0 = omega arith in
    ap (λ z. (a, z) ∷ []) e ∙ ap (λ n. (n, x) ∷ []) at
numbered_more a (suc i) (y ∷ ys) x h e =
    let at : a + 1 + i ≡ a + suc i = omega arith in
    ap (λ r. (a, y) ∷ r) (numbered_more (a + 1) i ys x (omega (arith, h)) e)
    ∙ ap (λ n. (a, y) ∷ (enumerate_from (a + 1) (take i ys) ++ (n, x) ∷ [])) at

map_end : {X Y : Type 0} (f : X → Y) (xs : List X) (x : X) → map f (xs ++ x ∷ []) ≡ map f xs ++ f x ∷ []
map_end f [] x = refl
map_end f (y ∷ ys) x = ap (λ r. f y ∷ r) (map_end f ys x)

-- one kit more
pub signed_step : (o : Schema) (i : ℕ) (kits : List KitRef) (kit signed : KitRef) (far new : List KitRef) →
    i < length kits → get_or kits i kit ≡ kit → new ≡ far ++ signed ∷ [] → signed ≡ signed_in o (i, kit) →
    far ≡ map (signed_in o) (enumerate_from 0 (take i kits)) →
    new ≡ map (signed_in o) (enumerate_from 0 (take (i + 1) kits))
signed_step o i kits kit signed far new h at e s f =
    let same : 0 + i ≡ i = omega arith in
    e
    ∙ ap (λ r. r ++ signed ∷ []) f
    ∙ ap (λ k. map (signed_in o) (enumerate_from 0 (take i kits)) ++ k ∷ []) s
    ∙ sym (map_end (signed_in o) (enumerate_from 0 (take i kits)) (i, kit))
    ∙ sym (ap (map (signed_in o)) (
    ap (λ n. enumerate_from 0 (take n kits)) (add-one i)
    ∙ numbered_more 0 i kits kit h at
    ∙ ap (λ n. enumerate_from 0 (take i kits) ++ (n, kit) ∷ []) same))

all_signed : (units : List KitUnits) (a : ℕ) (names : List (List ℕ)) →
    map (signed_in (outline units)) (enumerate_from a (map unsigned_kit names)) ≡ map (signed_kit units) (enumerate_from a names)
all_signed units a [] = refl
all_signed units a (n ∷ ns) = ap (λ r. signed_kit units (a, n) ∷ r) (all_signed units (a + 1) ns)

pub kits_signed : (units : List KitUnits) (o : Schema) (all : List KitRef) → o ≡ outline units →
    all ≡ map (signed_in o) (enumerate_from 0 o.kits) → all ≡ kit_refs units
kits_signed units o all e a =
    a ∙ ap (λ s. map (signed_in s) (enumerate_from 0 s.kits)) e ∙ all_signed units 0 (kit_names units)
