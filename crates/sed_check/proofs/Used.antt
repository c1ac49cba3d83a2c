-- Where no class breaks a rule, a use of a member finds what its type says.
use Rattle.std.proofs.Common.{◌≡◌, ℕ, Bool, true, false, ◌||◌, if◌then◌else◌, List, [], ◌∷◌, map, slice_get, Option, Some, None, refl, ap, ◌∙◌}
use Rattle.sed_units.specs.declared.leaves.Param.{Param}
use Rattle.sed_units.specs.declared.classes.Member.{Member}
use Rattle.sed_classes.specs.declared.kit_units.KitUnits.{KitUnits}
use Rattle.sed_classes.specs.MemberRules.{is_slot_elsewhere, is_wrong_action, is_wrong_property}
use Rattle.sed_classes.specs.Members.{kit_of, members_of}
use Rattle.sed_program.specs.Types.{is_wrong_slot, param_kind, used, used_param}
use Rattle.sed_member_laws.specs.Faultless.{AreFree, Keeps}
use Rattle.sed_member_laws.proofs.Own.{member_kept}

right_slot : (units : List KitUnits) → AreFree units → (c i : ℕ) (m : Member) →
    slice_get (members_of units c) i ≡ Some m → is_wrong_slot units (kit_of units c) m ≡ false
right_slot units f c i m e =
    let k = member_kept units f c i m e in
    let keeps : Keeps units c k.0 i m = k.3 in
    ap (λ kit. is_wrong_slot units kit m) k.2
    ∙ apart
    (is_slot_elsewhere units c m)
    (is_wrong_property units k.0.kit m)
    (is_wrong_action units k.0.kit m)
    keeps.slot
  where
    apart : (a b d : Bool) → (a || b || d) ≡ false → (b || d) ≡ false
    apart true b d e = cc
    apart false true d e = cc
    apart false false true e = cc
    apart false false false e = refl

pub used_is : {X : Type 0} (units : List KitUnits) → AreFree units → (c i : ℕ) (m : Member) →
    slice_get (members_of units c) i ≡ Some m → (found : Option X) → used units (kit_of units c) m found ≡ found
used_is units f c i m e found = ap (λ b. if b then None else found) (right_slot units f c i m e)

pub used_params_are : (units : List KitUnits) → AreFree units → (c i : ℕ) (m : Member) →
    slice_get (members_of units c) i ≡ Some m → (ps : List Param) →
    map (used_param units (kit_of units c) m) ps ≡ map (param_kind units (kit_of units c)) ps
used_params_are units f c i m e [] = refl
used_params_are units f c i m e (p ∷ ps) =
    ap
    (λ k. k ∷ map (used_param units (kit_of units c) m) ps)
    (used_is units f c i m e (param_kind units (kit_of units c) p))
    ∙ ap (λ ks. param_kind units (kit_of units c) p ∷ ks) (used_params_are units f c i m e ps)
