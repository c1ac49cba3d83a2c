-- Chains of defines come to an end: none leads back, and there are only so many members.
use Rattle.std.proofs.Common.{◌≡◌, ◌≤◌, ◌+◌, ◌==◌, ◌&&◌, ◌||◌, ℕ, zero, suc, Bool, true, false, not, List, [], ◌∷◌, length, map, take, slice_get, Option, Some, None, refl, sym, ap, ◌∙◌, arith}
use Rattle.std.specs.List.{count_by, enumerate_from, flat_map, list_any, sum_by}
use Rattle.std.specs.Option.{option_map}
use Rattle.std.proofs.lemmas.List.{length-map}
use Rattle.std.proofs.lemmas.List.Concat.{length-flat_map}
use Rattle.std.proofs.lemmas.List.Sums.{count_by-le-length, sum_by-cons}
use Rattle.std.proofs.lemmas.Option.{slice_get-map}
use Rattle.sed_units.specs.declared.leaves.Init.{Init}
use Rattle.sed_units.specs.declared.leaves.InitValue.{InitValue}
use Rattle.sed_units.specs.declared.leaves.InitValue.TheVariants as init
use Rattle.sed_classes.specs.declared.kit_units.KitUnits.{KitUnits}
use Rattle.sed_classes.specs.Bases.{lineage}
use Rattle.sed_classes.specs.Declarations.{Declaration, all_classes}
use Rattle.sed_classes.specs.FieldRules.{is_no_value, is_no_value_of, value_unfit}
use Rattle.sed_classes.specs.Members.{Owned, form_value, is_define, kit_of, members_of, owned}
use Rattle.sed_classes.specs.Objects.{is_inline}
use Rattle.sed_classes.specs.Types.{type_of}
use Rattle.sed_classes.specs.Values.{comes_to_member, define_leads_back, define_named, member_count, next_define}
use Rattle.sed_member_laws.specs.Faultless.{AreFree, Keeps}
use Rattle.sed_member_laws.proofs.Constants.{named_stands}
use Rattle.sed_member_laws.proofs.Empty.{not_broken}
use Rattle.sed_member_laws.proofs.Flat.{flat_at, lengths, numbered_at, one_of, some_is, sum_same}
use Rattle.sed_member_laws.proofs.Nearest.{nearest_found}
use Rattle.sed_member_laws.proofs.Own.{declared, member_kept, or_left, or_right}
use Rattle.sed_program.proofs.OrderLists.{count_cons, is_itself}

-- ---- a define where it is declared

pub record IsDefine (units : List KitUnits) (o : Owned) : Type 0 where
  pub at : ℕ
  pub there : slice_get (members_of units o.class) at ≡ Some o.member
  pub kit : o.kit ≡ kit_of units o.class
  pub define : is_define o.member ≡ true

abbrev pub next : List KitUnits → Owned → Option Owned
next units o = next_define units o.class (form_value o.member.form)

-- it has a value, which breaks no rule
pub define_valued : (units : List KitUnits) → AreFree units → (o : Owned) → IsDefine units o →
    (i : Init) × (form_value o.member.form ≡ Some i) × (is_no_value units o.class (kit_of units o.class) o.member i
    ≡ false)
define_valued units f o d =
    let k = member_kept units f o.class d.at o.member d.there in
    let keeps : Keeps units o.class k.0 d.at o.member = k.3 in
    by_value (form_value o.member.form) refl (ap (λ kit. value_unfit units o.class kit o.member
    (form_value o.member.form)) k.2 ∙ keeps.value)
  where
    by_value : (v : Option Init) → form_value o.member.form ≡ v →
        value_unfit units o.class (kit_of units o.class) o.member v ≡ [] →
        (i : Init) × (form_value o.member.form ≡ Some i) × (is_no_value units o.class (kit_of units o.class) o.member i
        ≡ false)
    by_value None s g =
        let clash : true ≡ false = sym d.define ∙ not_broken (is_define o.member) 11 o.member.at g in
        cc
    by_value (Some i) s g = (i, s, not_broken (is_no_value units o.class (kit_of units o.class) o.member i) 11 i.at g)

pub never_back : (units : List KitUnits) → AreFree units → (o : Owned) → IsDefine units o →
    comes_to_member units o.class o.member.at (member_count units) (next units o) ≡ false
never_back units f o d =
    let v = define_valued units f o d in
    by_define
    (is_inline o.member || is_no_value_of units o.class v.0 (type_of units (kit_of units o.class) o.member.kind))
    (is_define o.member)
    (define_leads_back units o.class o.member)
    d.define
    v.2
  where
    by_define : (x a b : Bool) → a ≡ true → (x || (a && b)) ≡ false → b ≡ false
    by_define true a b e g = cc
    by_define false true b e g = g
    by_define false false b e g = cc

pub next_is : (units : List KitUnits) (o p : Owned) → next units o ≡ Some p → IsDefine units p
next_is units o p e = by_value (form_value o.member.form) refl e
  where
    named : (v : InitValue) → (i : Init) → i.value ≡ v → next_define units o.class (Some i) ≡ Some p → IsDefine units p
    named (init.Literal l) i s g = let clash : None ≡ Some p = sym (ap (λ w. next_define units o.class (Some
        (record { at = i.at; value = w }))) s) ∙ g in cc
    named (init.Minus l) i s g = let clash : None ≡ Some p = sym (ap (λ w. next_define units o.class (Some
        (record { at = i.at; value = w }))) s) ∙ g in cc
    named (init.Name id) i s g =
        let found : define_named units o.class id.bytes ≡ Some p = sym (ap (λ w. next_define units o.class (Some
        (record { at = i.at; value = w }))) s) ∙ g in
        let stands = named_stands units o.class id.bytes p found in
        let near = nearest_found units id.bytes (lineage units o.class) p stands.2 in
        record { at = stands.0.0; there = stands.0.1; kit = ap (λ (w : Owned). w.kit) near.2; define = stands.1 }

    by_value : (v : Option Init) → form_value o.member.form ≡ v → next_define units o.class v ≡ Some p →
        IsDefine units p
    by_value None s g = cc
    by_value (Some i) s g = named i.value i refl g

-- ---- all members

abbrev members_in : ℕ × Declaration → List Owned
members_in e = map (owned e.0 e.1.kit) e.1.class.members

all_members : List KitUnits → List Owned
all_members units = flat_map members_in (enumerate_from 0 (all_classes units))

counts_all : (f : Declaration → ℕ) (a : ℕ) (ds : List Declaration) →
    sum_by (λ (e : ℕ × Declaration). f e.1) (enumerate_from a ds) ≡ sum_by f ds
counts_all f a [] = refl
counts_all f a (d ∷ ds) =
    sum_by-cons (λ (e : ℕ × Declaration). f e.1) (a, d) (enumerate_from (a + 1) ds)
    ∙ ap (λ n. f d + n) (counts_all f (a + 1) ds)
    ∙ sym (sum_by-cons f d ds)

all_count : (units : List KitUnits) → length (all_members units) ≡ member_count units
unfolding all_members
all_count units =
    length-flat_map members_in (enumerate_from 0 (all_classes units))
    ∙ sum_same
    (λ (e : ℕ × Declaration). length (members_in e))
    (λ (e : ℕ × Declaration). length e.1.class.members)
    (enumerate_from 0 (all_classes units))
    (λ e. length-map e.1.class.members (owned e.0 e.1.kit))
    ∙ counts_all (λ (d : Declaration). length d.class.members) 0 (all_classes units)

among_all : (units : List KitUnits) (o : Owned) → IsDefine units o →
    (k : ℕ) × (slice_get (all_members units) k ≡ Some o)
unfolding all_members
among_all units o d =
    let found = declared units o.class d.at o.member d.there in
    let first : slice_get (enumerate_from 0 (all_classes units)) o.class ≡ Some (o.class, found.0) =
    numbered_at 0 (all_classes units) o.class found.0 found.1 ∙ ap (λ n. Some (n, found.0)) same in
    let one : slice_get (members_in (o.class, found.0)) d.at ≡ Some (owned o.class found.0.kit o.member) =
    slice_get-map (owned o.class found.0.kit) found.0.class.members d.at
    ∙ ap (option_map (owned o.class found.0.kit)) found.2 in
    let is : owned o.class found.0.kit o.member ≡ o = ap (λ kit. owned o.class kit o.member) (sym found.3
    ∙ sym d.kit) in (
      sum_by (lengths members_in) (take o.class (enumerate_from 0 (all_classes units))) + d.at,
      flat_at members_in (enumerate_from 0 (all_classes units)) o.class d.at (o.class, found.0)
          (owned o.class found.0.kit o.member) first one
          ∙ ap Some is,
    )
  where
    same : 0 + o.class ≡ o.class
    same = omega arith

-- ---- what is not yet seen

abbrev same_one : Owned → Owned → Bool
same_one q s = (q.class == s.class) && (q.member.at == s.member.at)

unseen : List Owned → Owned → Bool
unseen seen q = not (list_any (same_one q) seen)

same_itself : (o : Owned) → same_one o o ≡ true
same_itself o = ap (λ b. b && (o.member.at == o.member.at)) (is_itself o.class) ∙ is_itself o.member.at

fewer : {X : Type 0} (p q : X → Bool) (xs : List X) (i : ℕ) (x : X) → ((y : X) → p y ≡ true → q y ≡ true) →
    slice_get xs i ≡ Some x → p x ≡ false → q x ≡ true →
    suc (count_by p xs) ≤ count_by q xs
fewer p q [] i x h e s t = cc
fewer {X} p q (z ∷ zs) zero x h e s t =
    let same : z ≡ x = some_is z x e in
    let here : one_of (p z) ≡ 0 = ap (λ w. one_of (p w)) same ∙ ap one_of s in
    let there : one_of (q z) ≡ 1 = ap (λ w. one_of (q w)) same ∙ ap one_of t in
    omega (arith, count_cons p z zs, count_cons q z zs, no_more zs)
  where
    no_more : (ys : List X) → count_by p ys ≤ count_by q ys
    no_more [] = omega arith
    no_more (y ∷ ys) = omega (arith, count_cons p y ys, count_cons q y ys, weigh (p y) (q y) (h y), no_more ys)
      where
        weigh : (a b : Bool) → (a ≡ true → b ≡ true) → one_of a ≤ one_of b
        weigh true true g = omega arith
        weigh true false g = let clash : false ≡ true = g refl in cc
        weigh false b g = omega arith
fewer {X} p q (z ∷ zs) (suc i) x h e s t =
    omega (arith, count_cons p z zs, count_cons q z zs, weigh (p z) (q z) (h z), fewer p q zs i x h e s t)
  where
    weigh : (a b : Bool) → (a ≡ true → b ≡ true) → one_of a ≤ one_of b
    weigh true true g = omega arith
    weigh true false g = let clash : false ≡ true = g refl in cc
    weigh false b g = omega arith

-- ---- the chain

-- it ends within so many steps
abbrev pub Ends : List KitUnits → ℕ → Option Owned → Type 0
Ends units n None = Unit {0}
Ends units zero (Some o) = ⊥
Ends units (suc n) (Some o) = Ends units n (next units o)

-- it comes to none of these
abbrev Never : List KitUnits → ℕ → Owned → List Owned → Type 0
Never units n o [] = Unit {0}
Never units n o (s ∷ ss) = (comes_to_member units s.class s.member.at n (Some o) ≡ false) × Never units n o ss

fewer_steps : (units : List KitUnits) (class at n m : ℕ) (o : Option Owned) → n ≤ m →
    comes_to_member units class at m o ≡ false → comes_to_member units class at n o ≡ false
fewer_steps units class at zero m o le e = refl
fewer_steps units class at (suc n) zero o le e = absurd (omega (arith, le))
fewer_steps units class at (suc n) (suc m) None le e = refl
fewer_steps units class at (suc n) (suc m) (Some o) le e =
    let first : ((o.class == class) && (o.member.at == at)) ≡ false =
    or_left ((o.class == class) && (o.member.at == at)) (comes_to_member units class at m (next units o)) e in
    ap (λ b. b || comes_to_member units class at n (next units o)) first
    ∙ fewer_steps
    units
    class
    at
    n
    m
    (next units o)
    (omega (arith, le))
    (or_right ((o.class == class) && (o.member.at == at)) (comes_to_member units class at m (next units o)) e)

never_seen : (units : List KitUnits) (n : ℕ) (o : Owned) (seen : List Owned) → Never units (suc n) o seen →
    list_any (same_one o) seen ≡ false
never_seen units n o [] h = refl
never_seen units n o (s ∷ ss) h =
    ap (λ b. b || list_any (same_one o) ss) (or_left (same_one o s) (comes_to_member units s.class s.member.at n
    (next units o)) h.0)
    ∙ never_seen units n o ss h.1

never_on : (units : List KitUnits) (n : ℕ) (o p : Owned) (seen : List Owned) → next units o ≡ Some p →
    Never units (suc n) o seen → Never units n p seen
never_on units n o p [] e h = tt
never_on units n o p (s ∷ ss) e h = (
  sym (ap (comes_to_member units s.class s.member.at n) e)
      ∙ or_right (same_one o s) (comes_to_member units s.class s.member.at n (next units o)) h.0,
  never_on units n o p ss e h.1,
)

ends_from : (units : List KitUnits) → AreFree units → (n : ℕ) (seen : List Owned) (o : Owned) → IsDefine units o →
    Never units (suc n) o seen →
    count_by (unseen seen) (all_members units) ≤ n → n ≤ member_count units → Ends units n (Some o)
unfolding unseen
ends_from units f zero seen o d h le most =
    let at = among_all units o d in
    absurd (omega (
      arith,
      le,
      fewer (λ (q : Owned). false) (unseen seen) (all_members units) at.0 o
          (λ y e. cc) at.1 refl (ap not (never_seen units 0 o seen h)),
    ))
ends_from units f (suc n) seen o d h le most = by_next (λ p g s k. ends_from units f n (o ∷ seen) p g s k (omega
    (arith, most))) (next units o) refl
  where
    less : suc (count_by (unseen (o ∷ seen)) (all_members units)) ≤ count_by (unseen seen) (all_members units)
    less =
        let at = among_all units o d in
        fewer
        (unseen (o ∷ seen))
        (unseen seen)
        (all_members units)
        at.0
        o
        (λ y e. narrower (same_one y o) (list_any (same_one y) seen) e)
        at.1
        (ap (λ b. not (b || list_any (same_one o) seen)) (same_itself o))
        (ap not (never_seen units (suc n) o seen h))
      where
        narrower : (a b : Bool) → not (a || b) ≡ true → not b ≡ true
        narrower true b e = cc
        narrower false b e = e

    by_next : ((p : Owned) → IsDefine units p → Never units (suc n) p (o ∷ seen) →
        count_by (unseen (o ∷ seen)) (all_members units) ≤ n → Ends units n (Some p)) →
        (r : Option Owned) → next units o ≡ r → Ends units n r
    by_next later None e = tt
    by_next later (Some p) e =
        later
        p
        (next_is units o p e) (
          sym (ap (comes_to_member units o.class o.member.at (suc n)) e)
              ∙ fewer_steps units o.class o.member.at (suc n) (member_count units) (next units o) most
              (never_back units f o d),
          never_on units (suc n) o p seen e h,
        )
        (omega (arith, le, less))

pub ends : (units : List KitUnits) → AreFree units → (o : Owned) → IsDefine units o →
    Ends units (member_count units) (Some o)
ends units f o d =
    ends_from
    units
    f
    (member_count units)
    []
    o
    d
    tt
    (omega (arith, count_by-le-length (unseen []) (all_members units), all_count units))
    (omega arith)
