-- The members that a class declares: found by name, each name once.
use Rattle.std.proofs.Common.{◌≡◌, ◌≤◌, ◌&&◌, ◌||◌, ℕ, suc, Bool, true, false, if◌then◌else◌, List, [], ◌∷◌, take, slice_get, Option, Some, None, refl, sym, ap, ◌∙◌, arith}
use Rattle.std.specs.List.{find, list_any, count_by}
use Rattle.std.specs.Option.{option_map_or}
use Rattle.std.specs.Bool.{Decides}
use Rattle.std.specs.Str.{bytes_eq}
use Rattle.std.proofs.lemmas.Slice.Eq.{bytes_eq-Decides}
use Rattle.sed_units.specs.declared.classes.Member.{Member}
use Rattle.sed_classes.specs.declared.kit_units.KitUnits.{KitUnits}
use Rattle.sed_classes.specs.Declarations.{Declaration, class_at}
use Rattle.sed_classes.specs.Members.{has_name, kit_of, members_of}
use Rattle.sed_member_laws.specs.Faultless.{AreFree, Keeps}
use Rattle.sed_member_laws.proofs.Flat.{none_passes, one_of}
use Rattle.sed_member_laws.proofs.Peel.{kept}
use Rattle.sed_program.proofs.OrderLists.{count_cons}
pub use Rattle.sed_value.proofs.Lists.{same_bytes as same_name}
pub use Rattle.sed_value.proofs.Truths.{or_left, or_right, and_left, and_right}

-- ---- names

pub name_itself : (a : List ℕ) → bytes_eq a a ≡ true
name_itself a = let d : Decides (bytes_eq a a) (a ≡ a) = bytes_eq-Decides a a in d.1 refl

-- ---- tests

pub and_none : (a b : Bool) → a ≡ true → (a && b) ≡ false → b ≡ false
and_none true b t e = e
and_none false b t e = cc

-- ---- what a class declares

pub declared : (units : List KitUnits) (c i : ℕ) (m : Member) → slice_get (members_of units c) i ≡ Some m →
    (d : Declaration) × (class_at units c ≡ Some d) × (slice_get d.class.members i ≡ Some m) × (kit_of units c ≡ d.kit)
declared units c i m e = by_found (class_at units c) refl e
  where
    by_found : (o : Option Declaration) → class_at units c ≡ o →
        slice_get (option_map_or (λ (d : Declaration). d.class.members) o []) i ≡ Some m →
        (d : Declaration) × (class_at units c ≡ Some d) × (slice_get d.class.members i ≡ Some m) × (kit_of units c
        ≡ d.kit)
    by_found None s h = cc
    by_found (Some d) s h = (d, s, h, ap (λ (o : Option Declaration). option_map_or (λ (x : Declaration). x.kit) o 0) s)

pub member_kept : (units : List KitUnits) → AreFree units → (c i : ℕ) (m : Member) →
    slice_get (members_of units c) i ≡ Some m →
    (d : Declaration) × (class_at units c ≡ Some d) × (kit_of units c ≡ d.kit) × Keeps units c d i m
member_kept units f c i m e =
    let r = declared units c i m e in
    (r.0, r.1, r.3, kept units c r.0 i m (f.free c r.0 r.1) r.2)

-- ---- each name once

apart_once : {X : Type 0} (R : X → X → Bool) (p : X → Bool) (xs : List X) → ((x y : X) → p x ≡ true → p y ≡ true →
    R x y ≡ true) →
    ((i : ℕ) (x : X) → slice_get xs i ≡ Some x → list_any (R x) (take i xs) ≡ false) → count_by p xs ≤ 1
apart_once R p [] same none = omega arith
apart_once {X} R p (z ∷ zs) same none =
    by_test (apart_once R p zs same (λ i x e. or_right (R x z) (list_any (R x) (take i zs)) (none (suc i) x e)))
    (p z) refl
  where
    no_other : p z ≡ true → (x : X) → R x z ≡ false → (b : Bool) → p x ≡ b → p x ≡ false
    no_other h x r true t = let clash : true ≡ false = sym (same x z t h) ∙ r in cc
    no_other h x r false t = t

    by_test : count_by p zs ≤ 1 → (b : Bool) → p z ≡ b → count_by p (z ∷ zs) ≤ 1
    by_test later true h =
        let rest : count_by p zs ≡ 0 =
        none_passes p zs (λ i x e. no_other h x (or_left (R x z) (list_any (R x) (take i zs)) (none (suc i) x e))
        (p x) refl) in
        omega (arith, rest, count_cons p z zs, ap one_of h)
    by_test later false h = omega (arith, later, count_cons p z zs, ap one_of h)

pub names_once : (units : List KitUnits) → AreFree units → (c : ℕ) (name : List ℕ) →
    count_by (has_name name) (members_of units c) ≤ 1
names_once units f c name =
    apart_once
    (λ (x : Member) (y : Member). has_name x.name.bytes y)
    (has_name name)
    (members_of units c)
    (λ x y s t.
    ap (bytes_eq y.name.bytes) (same_name x.name.bytes name s ∙ sym (same_name y.name.bytes name t))
    ∙ name_itself y.name.bytes)
    (λ i x e. once_in i x e)
  where
    once_in : (i : ℕ) (x : Member) → slice_get (members_of units c) i ≡ Some x →
        list_any (has_name x.name.bytes) (take i (members_of units c)) ≡ false
    once_in i x e =
        let r = declared units c i x e in
        let k : Keeps units c r.0 i x = kept units c r.0 i x (f.free c r.0 r.1) r.2 in
        ap (λ (o : Option Declaration). list_any (has_name x.name.bytes) (take i (option_map_or (λ
        (d : Declaration). d.class.members) o []))) r.1
        ∙ k.once

-- ---- found by name

pub found_or_none : {X : Type 0} (p : X → Bool) (xs : List X) → list_any p xs ≡ false → find p xs ≡ None
found_or_none p [] e = refl
found_or_none p (x ∷ xs) e =
    ap (λ b. if b then Some x else find p xs) (or_left (p x) (list_any p xs) e)
    ∙ found_or_none p xs (or_right (p x) (list_any p xs) e)

pub found_any : {X : Type 0} (p : X → Bool) (xs : List X) (x : X) → find p xs ≡ Some x → list_any p xs ≡ true
found_any p [] x e = cc
found_any {X} p (y ∷ ys) x e = by_test (λ g. found_any p ys x g) (p y) refl e
  where
    by_test : (find p ys ≡ Some x → list_any p ys ≡ true) → (b : Bool) → p y ≡ b →
        (if b then Some y else find p ys) ≡ Some x → (b || list_any p ys) ≡ true
    by_test later true s h = refl
    by_test later false s h = later h

pub none_any : {X : Type 0} (p : X → Bool) (xs : List X) → find p xs ≡ None → list_any p xs ≡ false
none_any p [] e = refl
none_any {X} p (y ∷ ys) e = by_test (λ g. none_any p ys g) (p y) refl e
  where
    by_test : (find p ys ≡ None → list_any p ys ≡ false) → (b : Bool) → p y ≡ b →
        (if b then Some y else find p ys) ≡ None → (b || list_any p ys) ≡ false
    by_test later true s h = cc
    by_test later false s h = later h
