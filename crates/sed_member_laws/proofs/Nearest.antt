-- What a name stands for in a class: a member of a class at or above it.
use Rattle.std.proofs.Common.{◌≡◌, ℕ, suc, List, [], ◌∷◌, slice_get, Option, Some, None, refl, sym, ap, ◌∙◌}
use Rattle.std.specs.List.{find}
use Rattle.std.specs.Option.{option_map, option_or}
use Rattle.sed_units.specs.declared.classes.Member.{Member}
use Rattle.sed_classes.specs.declared.kit_units.KitUnits.{KitUnits}
use Rattle.sed_classes.specs.Members.{Owned, has_name, kit_of, members_of, nearest_among, owned}
use Rattle.sed_member_laws.proofs.Flat.{some_is}

abbrev pub Stands : List KitUnits → List ℕ → List ℕ → Owned → Type 0
Stands units name cs o =
    (i : ℕ) × (slice_get cs i ≡ Some o.class) × (o ≡ owned o.class (kit_of units o.class) o.member)
    × (find (has_name name) (members_of units o.class) ≡ Some o.member)

pub nearest_found : (units : List KitUnits) (name : List ℕ) (cs : List ℕ) (o : Owned) →
    nearest_among units name cs ≡ Some o → Stands units name cs o
nearest_found units name [] o e = cc
nearest_found units name (c ∷ cs) o e = by_found (λ g. nearest_found units name cs o g) (find (has_name name)
    (members_of units c)) refl e
  where
    by_found : (nearest_among units name cs ≡ Some o → Stands units name cs o) → (r : Option Member) →
        find (has_name name) (members_of units c) ≡ r →
        option_or (option_map (owned c (kit_of units c)) r) (nearest_among units name cs) ≡ Some o →
        Stands units name (c ∷ cs) o
    by_found later None s g = let rest = later g in (suc rest.0, rest.1, rest.2, rest.3)
    by_found later (Some m) s g =
        let same : owned c (kit_of units c) m ≡ o = some_is (owned c (kit_of units c) m) o g in (
          0,
          ap (λ (w : Owned). Some w.class) same,
          sym same ∙ ap (λ (w : Owned). owned w.class (kit_of units w.class) w.member) same,
          sym (ap (λ (w : Owned). find (has_name name) (members_of units w.class)) same) ∙ s
              ∙ ap (λ (w : Owned). Some w.member) same,
        )

pub owned_kit : (units : List KitUnits) (name : List ℕ) (cs : List ℕ) (o : Owned) → Stands units name cs o →
    o.kit ≡ kit_of units o.class
owned_kit units name cs o s = ap (λ (w : Owned). w.kit) s.2
