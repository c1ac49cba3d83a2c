-- What is known of defines that are settled.
use Rattle.std.proofs.Common.{◌≡◌, ◌<◌, ◌+◌, ◌-◌, ◌==◌, ◌&&◌, ◌||◌, if◌then◌else◌, Bool, true, false, ℕ, zero, suc, List, [], ◌∷◌, replicate, slice_get, slice_set, position, Option, Some, None, refl, sym, ap, subst, ◌∙◌, arith}
use Rattle.std.specs.List.{find}
use Rattle.std.specs.Option.{IfSome, option_and_then, option_map, option_or}
use Rattle.std.proofs.lemmas.Bool.Decides.{nat_tests}
use Rattle.std.proofs.lemmas.List.Elements.{All-replicate, All-set}
use Rattle.std.proofs.lemmas.Option.{get_or_from_slice_get, slice_get_within}
use Rattle.sed_units.specs.declared.classes.Member.{Member}
use Rattle.sed_units.specs.declared.leaves.Init.{Init}
use Rattle.sed_units.specs.declared.leaves.InitValue.{InitValue}
use Rattle.sed_units.specs.declared.leaves.InitValue.TheVariants as init
use Rattle.sed_classes.specs.declared.kit_units.KitUnits.{KitUnits}
use Rattle.sed_classes.specs.declared.source_type.Constant.{Constant}
use Rattle.sed_classes.specs.Bases.{lineage}
use Rattle.sed_classes.specs.Members.{Owned, owned, own_named, nearest, nearest_among, has_name, is_define, kit_of, members_of, form_value}
use Rattle.sed_classes.specs.Types.{type_of}
use Rattle.sed_classes.specs.Values.{comes_to_member, constant_of, define_among, define_named, member_count, next_define, read_constant}
use Rattle.sed_classes.proofs.FirstPlaces.{find_there}
use Rattle.sed_rules.specs.declared.define_places.MemberPlace.{MemberPlace}
use Rattle.sed_rules.specs.declared.settled.Settled.{Settled}
use Rattle.sed_rules.specs.Plains.{as_constant}
use Rattle.sed_rules.specs.Reading.{plain_value, reached}
use Rattle.sed_rules.specs.Settled.{AreApart, AreSettled, ComesTo, IsSettled, ends_in, named_at, owned_at, placed}
use Rattle.sed_rules.proofs.Reading.{value_reached, with_value, within_one}

-- ---- the define that a name stands for, by its number

own_placed : (units : List KitUnits) (name : List ℕ) (class : ℕ) →
    own_named units name class
    ≡ named_at units (option_map (placed class) (position (has_name name) (members_of units class)))
own_placed units name class =
    ap
    (option_map (owned class (kit_of units class)))
    (sym (find_there (has_name name) (members_of units class)))
    ∙ by_place (position (has_name name) (members_of units class))
  where
    by_place : (n : Option ℕ) →
        option_map (owned class (kit_of units class)) (option_and_then (slice_get (members_of units class)) n)
        ≡ named_at units (option_map (placed class) n)
    by_place None = refl
    by_place (Some n) = refl

-- a member that a class itself declares is of that class
own_class : (class kit : ℕ) (m : Option Member) (o : Owned) → option_map (owned class kit) m ≡ Some o → o.class ≡ class
own_class class kit None o e = cc
own_class class kit (Some m) o e = cc

nearest_own : (units : List KitUnits) (name : List ℕ) (classes : List ℕ) (o : Owned) →
    nearest_among units name classes ≡ Some o → own_named units name o.class ≡ Some o
nearest_own units name [] o e = cc
nearest_own units name (class ∷ classes) o e =
    by_own (own_named units name class) refl (nearest_own units name classes o) e
  where
    by_own : (x : Option Owned) → own_named units name class ≡ x →
        (nearest_among units name classes ≡ Some o → own_named units name o.class ≡ Some o) →
        option_or x (nearest_among units name classes) ≡ Some o → own_named units name o.class ≡ Some o
    by_own None is rest e = rest e
    by_own (Some x) is rest e =
        let found : own_named units name class ≡ Some o = is ∙ e in
        ap
        (own_named units name)
        (own_class class (kit_of units class) (find (has_name name) (members_of units class)) o found)
        ∙ found

define_own : (units : List KitUnits) (name : List ℕ) (x : Option Owned) (o : Owned) →
    (x ≡ Some o → own_named units name o.class ≡ Some o) → define_among x ≡ Some o → own_named units name o.class ≡ Some o
define_own units name None o known e = cc
define_own units name (Some x) o known e = by_test (is_define x.member) e
  where
    by_test : (b : Bool) → (if b then Some x else None) ≡ Some o → own_named units name o.class ≡ Some o
    by_test true e = known e
    by_test false e = cc

named_own : (units : List KitUnits) (class : ℕ) (name : List ℕ) (o : Owned) → define_named units class name ≡ Some o →
    own_named units name o.class ≡ Some o
named_own units class name o e =
    define_own units name (nearest units class name) o (nearest_own units name (lineage units class) o) e

pub named_placed : (units : List KitUnits) (class : ℕ) (name : List ℕ) (o : Owned) →
    Some o ≡ define_named units class name →
    named_at units (option_map (placed o.class) (position (has_name name) (members_of units o.class)))
    ≡ define_named units class name
named_placed units class name o e = sym (own_placed units name o.class) ∙ named_own units class name o (sym e) ∙ e

-- ---- what a value names is a member that is there

abbrev pub IsThere : List KitUnits → Option Owned → Type 0
IsThere units x = IfSome x (λ o. (n : ℕ) × (owned_at units (placed o.class n) ≡ Some o))

numbered : (units : List KitUnits) (class : ℕ) (n : Option ℕ) (o : Owned) →
    named_at units (option_map (placed class) n) ≡ Some o → (n : ℕ) × (owned_at units (placed class n) ≡ Some o)
numbered units class None o e = cc
numbered units class (Some n) o e = (n, e)

named_there : (units : List KitUnits) (class : ℕ) (name : List ℕ) (x : Option Owned) →
    define_named units class name ≡ x → IsThere units x
named_there units class name None e = tt
named_there units class name (Some o) e =
    numbered
    units
    o.class
    (position (has_name name) (members_of units o.class))
    o
    (sym (own_placed units name o.class) ∙ named_own units class name o e)

next_there_in : (units : List KitUnits) (class : ℕ) (i : Init) (v : InitValue) →
    IsThere units (next_define units class (Some (with_value i v)))
next_there_in units class i (init.Literal l) = tt
next_there_in units class i (init.Minus l) = tt
next_there_in units class i (init.Name id) = named_there units class id.bytes (define_named units class id.bytes) refl

next_there : (units : List KitUnits) (class : ℕ) (value : Option Init) → IsThere units (next_define units class value)
next_there units class None = tt
next_there units class (Some i) = next_there_in units class i i.value

pub placed_there : (units : List KitUnits) (p : Option MemberPlace) → IsThere units (named_at units p)
placed_there units None = tt
placed_there units (Some p) = by_item (slice_get (members_of units p.class) p.number) refl
  where
    by_item : (m : Option Member) → slice_get (members_of units p.class) p.number ≡ m →
        IsThere units (option_map (owned p.class (kit_of units p.class)) m)
    by_item None e = tt
    by_item (Some m) e = (p.number, ap (option_map (owned p.class (kit_of units p.class))) e)

-- ---- one define more

pub comes_none : (units : List KitUnits) (next : Option Owned) (last value : Constant) → None ≡ next → value ≡ last →
    ComesTo units next last 0 value
comes_none units next last value e v = record {
  ends = ap (ends_in units 0) (sym e);
  within = omega arith;
  reads = λ most le. ap (λ o. reached units most o last) (sym e) ∙ sym v;
}

pub settles : (units : List KitUnits) (p : MemberPlace) (m : Member) (steps new : ℕ) (value read last : Constant) →
    slice_get (members_of units p.class) p.number ≡ Some m →
    ComesTo units (next_define units p.class (form_value m.form)) (plain_value (form_value m.form)) steps value →
    steps < member_count units → new ≡ steps + 1 →
    read ≡ read_constant (type_of units (kit_of units p.class) m.kind) value →
    ComesTo units (owned_at units p) last new read
settles units p m steps new value read last there comes few more is =
    let o = owned p.class (kit_of units p.class) m in
    let at : owned_at units p ≡ Some o = ap (option_map (owned p.class (kit_of units p.class))) there in
    let count : new ≡ suc steps = omega arith in
    record {
      ends = ap (λ k. ends_in units k (owned_at units p)) count ∙ ap (ends_in units (suc steps)) at ∙ comes.ends;
      within = omega arith;
      reads = λ most le.
          ap (λ x. reached units most x last) at
          ∙ within_one units most o (omega arith)
          ∙ ap
          (read_constant (type_of units (kit_of units p.class) m.kind))
          (value_reached units (most - 1) p.class (form_value m.form) ∙ comes.reads (most - 1) (omega arith))
          ∙ sym is;
    }

-- what is known of the define at a place
pub known_at : (units : List KitUnits) (s : Settled) (p : MemberPlace) (last : Constant) → s.place ≡ p →
    IsSettled units s → ComesTo units (owned_at units p) last s.steps (as_constant s.value)
known_at units s p last e known =
    let P : MemberPlace → Type 0 = λ q. ComesTo units (owned_at units q) last s.steps (as_constant s.value) in
    subst P e (known last)

-- ---- what a value comes to that names a define which is settled

pub comes_known : (units : List KitUnits) (class : ℕ) (i : Init) (next : Option Owned) (steps : ℕ) (value : Constant) →
    next ≡ next_define units class (Some i) → ((last : Constant) → ComesTo units next last steps value) →
    value ≡ constant_of units class i
comes_known units class i next steps value e comes =
    let known : ComesTo units next (plain_value (Some i)) steps value = comes (plain_value (Some i)) in
    sym (known.reads (member_count units) known.within)
    ∙ ap (λ o. reached units (member_count units) o (plain_value (Some i))) e
    ∙ sym (value_reached units (member_count units) class (Some i))

-- ---- the number of defines is one

pub ends_once : (units : List KitUnits) (a b : ℕ) (x : Option Owned) → ends_in units a x ≡ true → ends_in units b x ≡ true →
    a ≡ b
ends_once units zero zero x p q = refl
ends_once units zero (suc b) None p q = cc
ends_once units zero (suc b) (Some o) p q = cc
ends_once units (suc a) zero None p q = cc
ends_once units (suc a) zero (Some o) p q = cc
ends_once units (suc a) (suc b) None p q = cc
ends_once units (suc a) (suc b) (Some o) p q =
    ap suc (ends_once units a b (next_define units o.class (form_value o.member.form)) p q)

-- ---- a member that is not come to

both_true : (a b : Bool) → (a && b) ≡ true → (a ≡ true) × (b ≡ true)
both_true true b e = (refl, e)
both_true false b e = cc

same_at : (a b : ℕ) → ◌≡◌ {A = Option ℕ} (Some a) (Some b) → a ≡ b
same_at a b e = cc

same_member : (class kit : ℕ) (m : Member) (o : Owned) → ◌≡◌ {A = Option Owned} (Some (owned class kit m)) (Some o) →
    m ≡ o.member
same_member class kit m o e = cc

-- a member that stands where the one with a number does is that one
same_owned : (units : List KitUnits) (class number at : ℕ) (o : Owned) → AreApart (members_of units class) →
    option_map (λ (m : Member). m.at) (slice_get (members_of units class) number) ≡ Some at → o.class ≡ class →
    o.member.at ≡ at → (n : ℕ) × (owned_at units (placed o.class n) ≡ Some o) → owned_at units (placed class number) ≡ Some o
same_owned units class number at o apart stands of_class is_at there =
    by_items
    (slice_get (members_of units class) number)
    (slice_get (members_of units class) there.0)
    refl
    refl
    stands
    (ap (λ (c : ℕ). owned_at units (placed c there.0)) (sym of_class) ∙ there.1)
  where
    by_items : (a b : Option Member) → slice_get (members_of units class) number ≡ a →
        slice_get (members_of units class) there.0 ≡ b → option_map (λ (m : Member). m.at) a ≡ Some at →
        option_map (owned class (kit_of units class)) b ≡ Some o → owned_at units (placed class number) ≡ Some o
    by_items None b p q s t = cc
    by_items (Some a) None p q s t = cc
    by_items (Some a) (Some b) p q s t =
        let member : b ≡ o.member = same_member class (kit_of units class) b o t in
        let same : a ≡ b =
        apart number there.0 a b p q (same_at a.at at s ∙ sym is_at ∙ ap (λ (m : Member). m.at) (sym member)) in
        ap (option_map (owned class (kit_of units class))) (p ∙ ap Some same) ∙ t

module _ (units : List KitUnits) (class number at own : ℕ) (apart : AreApart (members_of units class))
    (stands : option_map (λ (m : Member). m.at) (slice_get (members_of units class) number) ≡ Some at)
    (ends : ends_in units own (owned_at units (placed class number)) ≡ true) where
  not_there : (steps : ℕ) (o : Owned) → (n : ℕ) × (owned_at units (placed o.class n) ≡ Some o) →
      ends_in units steps (Some o) ≡ true → steps < own → ((o.class == class) && (o.member.at == at)) ≡ false
  not_there steps o there left few = by_test ((o.class == class) && (o.member.at == at)) refl
    where
      by_test : (b : Bool) → ((o.class == class) && (o.member.at == at)) ≡ b → b ≡ false
      by_test false e = refl
      by_test true e =
          let both : ((o.class == class) ≡ true) × ((o.member.at == at) ≡ true) =
          both_true (o.class == class) (o.member.at == at) e in
          let of_class : o.class ≡ class = let h = both.0 in grind (arith, nat_tests) in
          let is_at : o.member.at ≡ at = let h = both.1 in grind (arith, nat_tests) in
          let same : owned_at units (placed class number) ≡ Some o =
          same_owned units class number at o apart stands of_class is_at there in
          let count : steps ≡ own = ends_once units steps own (Some o) left (ap (ends_in units own) (sym same) ∙ ends) in
          absurd (omega (arith, count, few))

  pub never_comes : (most steps : ℕ) (x : Option Owned) → IsThere units x → ends_in units steps x ≡ true → steps < own →
      comes_to_member units class at most x ≡ false
  never_comes zero steps x there left few = refl
  never_comes (suc most) steps None there left few = refl
  never_comes (suc most) zero (Some o) there left few = cc
  never_comes (suc most) (suc steps) (Some o) there left few =
      let next = next_define units o.class (form_value o.member.form) in
      ap (λ b. b || comes_to_member units class at most next) (not_there (suc steps) o there left few)
      ∙ never_comes most steps next (next_there units o.class (form_value o.member.form)) left (omega arith)

-- ---- rows

pub none_settled : (units : List KitUnits) (n : ℕ) → AreSettled units (replicate n None)
none_settled units n = let P : Option Settled → Type 0 = λ o. IfSome o (IsSettled units) in All-replicate P n None tt

pub item_settled : (units : List KitUnits) (row : List (Option Settled)) (i : ℕ) (s : Settled) → AreSettled units row →
    slice_get row i ≡ Some (Some s) → IsSettled units s
item_settled units row i s all e =
    let P : Option Settled → Type 0 = λ o. IfSome o (IsSettled units) in
    subst
    P
    (get_or_from_slice_get row i (Some s) (Some s) e)
    (all i (Some s) (slice_get_within row i (Some s) e))

pub put_settled : (units : List KitUnits) (row : List (Option Settled)) (i : ℕ) (s : Settled) → IsSettled units s →
    AreSettled units row → AreSettled units (slice_set row i (Some s))
put_settled units row i s known all =
    let P : Option Settled → Type 0 = λ o. IfSome o (IsSettled units) in All-set P row i (Some s) known all
