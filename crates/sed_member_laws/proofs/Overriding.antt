-- What overrides is like what it overrides, and no field has the name of a method above it.
use Rattle.std.proofs.Common.{◌≡◌, ◌≤◌, ◌&&◌, ◌||◌, ℕ, zero, suc, Bool, true, false, not, List, [], ◌∷◌, slice_get, Option, Some, None, refl, sym, ap, ◌∙◌, subst, arith}
use Rattle.std.specs.List.{count_by, find, list_any}
use Rattle.std.specs.Option.{option_map, option_or}
use Rattle.sed_typed.specs.declared.program.Program.{Program}
use Rattle.sed_units.specs.declared.classes.Member.{Member}
use Rattle.sed_classes.specs.declared.kit_units.KitUnits.{KitUnits}
use Rattle.sed_classes.specs.Bases.{base_of, bases, lineage}
use Rattle.sed_classes.specs.Members.{Owned, declares, form_params, has_name, inherits, is_action, is_method, is_open, kit_of, members_of, nearest, nearest_among, overrides, own_named, owned}
use Rattle.sed_classes.specs.MemberRules.{fits, fits_one_of, same_params, same_truth}
use Rattle.sed_classes.specs.Types.{is_same_type, type_of}
use Rattle.sed_program.specs.Ordered.{IsOrdered}
use Rattle.sed_member_laws.specs.Faultless.{AreFree, Keeps}
use Rattle.sed_member_laws.proofs.Flat.{found_in, one_of, some_is}
use Rattle.sed_member_laws.proofs.Own.{and_left, and_right, member_kept, names_once, none_any, same_name}
use Rattle.sed_member_laws.proofs.Rows.{any_in, any_true}
use Rattle.sed_program.proofs.OrderLists.{count_cons, count_there}
use Rattle.sed_member_laws.proofs.Alike.{alike_back, alike_on, fits_alike, open_method, virtual_instance}
use Rattle.sed_member_laws.proofs.Climbing.{bases_cons, climb, nearest_cons, nearest_one}
use Rattle.sed_member_laws.specs.Alike.{Alike}

-- ---- the only one of a name

same_two : {X : Type 0} (p : X → Bool) (xs : List X) (i j : ℕ) (x y : X) → count_by p xs ≤ 1 →
    slice_get xs i ≡ Some x → p x ≡ true →
    slice_get xs j ≡ Some y → p y ≡ true → x ≡ y
same_two p [] i j x y n e s g t = cc
same_two p (z ∷ zs) zero zero x y n e s g t = some_is x y (sym e ∙ g)
same_two p (z ∷ zs) zero (suc j) x y n e s g t =
    let here : one_of (p z) ≡ 1 = ap (λ w. one_of (p w)) (some_is z x e) ∙ ap one_of s in
    absurd (omega (arith, n, count_cons p z zs, here, count_there p zs j y g t))
same_two p (z ∷ zs) (suc i) zero x y n e s g t =
    let here : one_of (p z) ≡ 1 = ap (λ w. one_of (p w)) (some_is z y g) ∙ ap one_of t in
    absurd (omega (arith, n, count_cons p z zs, here, count_there p zs i x e s))
same_two p (z ∷ zs) (suc i) (suc j) x y n e s g t = same_two p zs i j x y (omega (arith, n, count_cons p z zs)) e s g t

-- ---- a member of an inherited name overrides an open method

pub record Over (units : List KitUnits) (c : ℕ) (m : Member) : Type 0 where
  pub method : is_method m ≡ true
  pub step : ℕ
  pub class : ℕ
  pub above : slice_get (bases units c) step ≡ Some class
  pub at : ℕ
  pub member : Member
  pub there : slice_get (members_of units class) at ≡ Some member
  pub fit : fits units (kit_of units c) m (kit_of units class) member ≡ true
  pub alike : Alike units (kit_of units c) m (kit_of units class) member

pub says_override : (units : List KitUnits) → AreFree units → (c i : ℕ) (m : Member) →
    slice_get (members_of units c) i ≡ Some m →
    list_any (declares units m.name.bytes) (bases units c) ≡ true → overrides m ≡ true
says_override units f c i m e inherited =
    let k = member_kept units f c i m e in
    let keeps : Keeps units c k.0 i m = k.3 in
    by_test (overrides m) (inherits units c m.name.bytes) inherited keeps.inherited
  where
    by_test : (o b : Bool) → b ≡ true → (not o && b) ≡ false → o ≡ true
    by_test true b h g = refl
    by_test false true h g = cc
    by_test false false h g = cc

pub over : (units : List KitUnits) → AreFree units → (c i : ℕ) (m : Member) →
    slice_get (members_of units c) i ≡ Some m → overrides m ≡ true → Over units c m
over units f c i m e o =
    let k = member_kept units f c i m e in
    let keeps : Keeps units c k.0 i m = k.3 in
    let both : (is_method m && list_any (fits_one_of units k.0.kit m) (bases units c)) ≡ true =
    by_test (overrides m) (is_method m && list_any (fits_one_of units k.0.kit m) (bases units c)) o keeps.overriding in
    let is : is_method m ≡ true = and_left (is_method m) (list_any (fits_one_of units k.0.kit m)
    (bases units c)) both in
    let base = any_in (fits_one_of units k.0.kit m) (bases units c) (and_right (is_method m) (list_any
    (fits_one_of units k.0.kit m) (bases units c)) both) in
    let member = any_in (fits units k.0.kit m (kit_of units base.1)) (members_of units base.1) base.3 in
    let fit : fits units (kit_of units c) m (kit_of units base.1) member.1
    ≡ true = ap (λ kit. fits units kit m (kit_of units base.1) member.1) k.2 ∙ member.3 in
    record {
      method = is;
      step = base.0;
      class = base.1;
      above = base.2;
      at = member.0;
      member = member.1;
      there = member.2;
      fit = fit;
      alike = fits_alike units f c i m base.1 member.0 member.1 e member.2 is o fit;
    }
  where
    by_test : (o b : Bool) → o ≡ true → (o && not b) ≡ false → b ≡ true
    by_test true true h g = refl
    by_test true false h g = cc
    by_test false b h g = cc

-- ---- the nearest of a name is like each open one above

-- an open method of a name at or above a class
pub record OpenAt (units : List KitUnits) (c : ℕ) (name : List ℕ) : Type 0 where
  pub step : ℕ
  pub class : ℕ
  pub above : slice_get (lineage units c) step ≡ Some class
  pub at : ℕ
  pub member : Member
  pub there : slice_get (members_of units class) at ≡ Some member
  pub is : is_open member ≡ true
  pub named : has_name name member ≡ true

-- the nearest of the name is like it
abbrev pub NearestLike : List KitUnits → ℕ → List ℕ → Type 0
NearestLike units c name = (x : OpenAt units c name) → (w : Owned) → nearest units c name ≡ Some w →
    Alike units (kit_of units x.class) x.member w.kit w.member

-- what fits is open and of the name
five_front : (a b c d e : Bool) → (a && b && c && d && e) ≡ true → (a ≡ true) × (b ≡ true)
five_front true true c d e h = (refl, refl)
five_front true false c d e h = cc
five_front false b c d e h = cc

pub fit_of : (units : List KitUnits) (c a : ℕ) (m n : Member) →
    fits units (kit_of units c) m (kit_of units a) n ≡ true →
    (is_open n ≡ true) × (has_name m.name.bytes n ≡ true)
fit_of units c a m n h =
    five_front
    (is_open n)
    (has_name m.name.bytes n)
    (same_truth (is_action m) (is_action n))
    (is_same_type (type_of units (kit_of units c) m.kind) (type_of units (kit_of units a) n.kind))
    (same_params units (kit_of units c) (form_params m.form) (kit_of units a) (form_params n.form))
    h

-- an open method of a class itself is like itself, found by its name
open_own : (units : List KitUnits) → AreFree units → (c i j : ℕ) (m n : Member) (name : List ℕ) →
    slice_get (members_of units c) i ≡ Some m → has_name name m ≡ true →
    slice_get (members_of units c) j ≡ Some n → is_open n ≡ true → has_name name n ≡ true →
    Alike units (kit_of units c) n (kit_of units c) m
open_own units f c i j m n name e s g o t =
    let same : n ≡ m = same_two (has_name name) (members_of units c) j i n m (names_once units f c name) g t e s in
    let is : is_method n ≡ true = open_method n o in
    let virtual : (is_open n || overrides n) ≡ true = ap (λ b. b || overrides n) o in
    let instance = virtual_instance units f c j n g is virtual in
    subst
    (λ x. Alike units (kit_of units c) n (kit_of units c) x)
    same
    (record {
      method = is;
      method_too = is;
      instance = instance;
      instance_too = instance;
      virtual = virtual;
      virtual_too = virtual;
      params = refl;
      result = refl;
    })

-- what a class gives of a name, before its bases
named_first : (units : List KitUnits) (c : ℕ) (name : List ℕ) (rest : Option Owned) (w : Owned) →
    option_or (own_named units name c) rest ≡ Some w →
    (r : Option Member) → find (has_name name) (members_of units c) ≡ r → (m : Member) → r ≡ Some m →
    w ≡ owned c (kit_of units c) m
named_first units c name rest w e None s m g = cc
named_first units c name rest w e (Some x) s m g =
    let first : owned c (kit_of units c) x ≡ w =
    some_is (owned c (kit_of units c) x) w (sym (ap (λ o. option_or (option_map (owned c (kit_of units c)) o) rest) s)
    ∙ e) in
    sym first ∙ ap (owned c (kit_of units c)) (some_is x m g)

named_later : (units : List KitUnits) (c : ℕ) (name : List ℕ) (rest : Option Owned) (w : Owned) →
    option_or (own_named units name c) rest ≡ Some w →
    find (has_name name) (members_of units c) ≡ None → rest ≡ Some w
named_later units c name rest w e s = sym (ap (λ o. option_or (option_map (owned c (kit_of units c)) o) rest) s) ∙ e

-- one class, over what its base gives
like_step : (units : List KitUnits) (program : Program) → AreFree units → IsOrdered units program →
    (c b : ℕ) (name : List ℕ) → base_of units c ≡ Some b →
    NearestLike units b name → NearestLike units c name
like_step units program f o c b name e later x w near =
    by_found (find (has_name name) (members_of units c)) refl x.step (sym (ap (λ cs. slice_get cs x.step)
    (o.lineage_cons c b e)) ∙ x.above)
  where
    near_too : option_or (own_named units name c) (nearest units b name) ≡ Some w
    near_too = sym (nearest_cons units program o c b name e) ∙ near

    lower : (i : ℕ) → slice_get (lineage units b) i ≡ Some x.class → OpenAt units b name
    lower i g = record {
      step = i;
      class = x.class;
      above = g;
      at = x.at;
      member = x.member;
      there = x.there;
      is = x.is;
      named = x.named;
    }

    declares_it : declares units name x.class ≡ true
    declares_it = any_true (has_name name) (members_of units x.class) x.at x.member x.there x.named

    -- what the base has of the name
    based : (i : ℕ) → slice_get (lineage units b) i ≡ Some x.class → (u : Owned) × (nearest units b name ≡ Some u)
    based i g = some_near (nearest units b name) refl
      where
        some_near : (r : Option Owned) → nearest units b name ≡ r → (u : Owned) × (nearest units b name ≡ Some u)
        some_near (Some u) s = (u, s)
        some_near None s =
            let clash : true ≡ false =
            sym (any_true (declares units name) (lineage units b) i x.class g declares_it)
            ∙ none_near (lineage units b) s in
            cc
          where
            none_near : (cs : List ℕ) → nearest_among units name cs ≡ None → list_any (declares units name) cs ≡ false
            none_near [] h = refl
            none_near (a ∷ as') h = by_own (λ k. none_near as' k) (find (has_name name) (members_of units a)) refl h
              where
                by_own : (nearest_among units name as' ≡ None → list_any (declares units name) as' ≡ false) →
                    (r : Option Member) →
                    find (has_name name) (members_of units a) ≡ r →
                    option_or (option_map (owned a (kit_of units a)) r) (nearest_among units name as') ≡ None →
                    list_any (declares units name) (a ∷ as') ≡ false
                by_own again None t k = ap (λ q. q || list_any (declares units name) as') (none_any (has_name name)
                    (members_of units a) t) ∙ again k
                by_own again (Some m) t k = cc

    with_own : (m : Member) → find (has_name name) (members_of units c) ≡ Some m → (i : ℕ) →
        slice_get (c ∷ lineage units b) i ≡ Some x.class →
        Alike units (kit_of units x.class) x.member (kit_of units c) m
    with_own m s zero g =
        let same : c ≡ x.class = some_is c x.class g in
        let own = found_in (has_name name) (members_of units c) m s in
        subst
        (λ k. Alike units (kit_of units k) x.member (kit_of units c) m)
        same
        (open_own units f c own.0 x.at m x.member name own.1 own.2 (ap (λ k. slice_get (members_of units k) x.at) same
        ∙ x.there) x.is x.named)
    with_own m s (suc i) g =
        let own = found_in (has_name name) (members_of units c) m s in
        let inherited : list_any (declares units m.name.bytes) (bases units c) ≡ true =
        ap (λ k. list_any (declares units k) (bases units c)) (same_name m.name.bytes name own.2)
        ∙ ap (list_any (declares units name)) (bases_cons units program o c b e)
        ∙ any_true (declares units name) (lineage units b) i x.class g declares_it in
        let up : Over units c m = over units f c own.0 m own.1 (says_override units f c own.0 m own.1 inherited) in
        let base = based i g in
        let named : has_name name up.member ≡ true =
        ap (λ k. has_name k up.member) (sym (same_name m.name.bytes name own.2))
        ∙ (fit_of units c up.class m up.member up.fit).1 in
        let other : OpenAt units b name = record {
          step = up.step;
          class = up.class;
          above = ap (λ cs. slice_get cs up.step) (sym (bases_cons units program o c b e)) ∙ up.above;
          at = up.at;
          member = up.member;
          there = up.there;
          is = (fit_of units c up.class m up.member up.fit).0;
          named = named;
        } in
        let to_near : Alike units (kit_of units x.class) x.member base.0.kit base.0.member = later
        (lower i g) base.0 base.1 in
        let other_near : Alike units (kit_of units up.class) up.member base.0.kit base.0.member =
        later other base.0 base.1 in
        alike_on
        units
        (kit_of units x.class)
        base.0.kit
        (kit_of units c)
        x.member
        base.0.member
        m
        to_near
        (alike_on
        units
        base.0.kit
        (kit_of units up.class)
        (kit_of units c)
        base.0.member
        up.member
        m
        (alike_back units (kit_of units up.class) base.0.kit up.member base.0.member other_near)
        (alike_back units (kit_of units c) (kit_of units up.class) m up.member up.alike))

    by_found : (r : Option Member) → find (has_name name) (members_of units c) ≡ r → (i : ℕ) →
        slice_get (c ∷ lineage units b) i ≡ Some x.class →
        Alike units (kit_of units x.class) x.member w.kit w.member
    by_found (Some m) s i g =
        let same : w ≡ owned c (kit_of units c) m = named_first units c name (nearest units b name) w near_too (find
        (has_name name) (members_of units c)) refl m s in
        subst (λ (u : Owned). Alike units (kit_of units x.class) x.member u.kit u.member) (sym same) (with_own m s i g)
    by_found None s zero g =
        let same : c ≡ x.class = some_is c x.class g in
        let clash : true ≡ false = sym declares_it ∙ ap (declares units name) (sym same)
        ∙ none_any (has_name name) (members_of units c) s in
        cc
    by_found None s (suc i) g = later (lower i g) w (named_later units c name (nearest units b name) w near_too s)

like_first : (units : List KitUnits) (program : Program) → AreFree units → IsOrdered units program →
    (c : ℕ) (name : List ℕ) → base_of units c ≡ None → NearestLike units c name
like_first units program f o c name e x w near =
    by_step x.step (sym (ap (λ cs. slice_get cs x.step) (o.lineage_one c e)) ∙ x.above)
  where
    near_too : option_or (own_named units name c) None ≡ Some w
    near_too = sym (nearest_one units program o c name e) ∙ near

    by_found : (r : Option Member) → find (has_name name) (members_of units c) ≡ r → c ≡ x.class →
        Alike units (kit_of units x.class) x.member w.kit w.member
    by_found None s same = let none : None ≡ Some w = named_later units c name None w near_too s in cc
    by_found (Some m) s same =
        let is : w ≡ owned c (kit_of units c) m = named_first units c name None w near_too (find (has_name name)
        (members_of units c)) refl m s in
        let own = found_in (has_name name) (members_of units c) m s in
        subst
        (λ (u : Owned). Alike units (kit_of units x.class) x.member u.kit u.member)
        (sym is)
        (subst
        (λ k. Alike units (kit_of units k) x.member (kit_of units c) m)
        same
        (open_own units f c own.0 x.at m x.member name own.1 own.2 (ap (λ k. slice_get (members_of units k) x.at) same
        ∙ x.there) x.is x.named))

    by_step : (i : ℕ) → slice_get (c ∷ []) i ≡ Some x.class → Alike units (kit_of units x.class) x.member w.kit w.member
    by_step zero g = by_found (find (has_name name) (members_of units c)) refl (some_is c x.class g)
    by_step (suc i) g = cc

pub nearest_like : (units : List KitUnits) (program : Program) → AreFree units → IsOrdered units program →
    (name : List ℕ) (c : ℕ) → NearestLike units c name
nearest_like units program f o name c =
    climb units program o (λ b. NearestLike units b name) (λ b e. like_first units program f o b name e)
    (λ b a e later. like_step units program f o b a name e later) c
