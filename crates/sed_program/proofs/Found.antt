-- The member that a name stands for, found by its place in a row.
use Rattle.std.proofs.Common.{◌≡◌, ◌≤◌, ◌==◌, ℕ, suc, ◌+◌, Bool, true, false, not, cond, nat_lt, List, [], ◌∷◌, map, length, Option, Some, None, slice_get, refl, sym, ap, ◌∙◌, arith}
use Rattle.std.specs.List.{find, position, position_or_len, list_any}
use Rattle.std.specs.Option.{option_and_then, option_map, option_or}
use Rattle.std.proofs.lemmas.Bool.Decides.{nat_tests}
use Rattle.sed_units.specs.declared.classes.Member.{Member}
use Rattle.sed_classes.specs.declared.kit_units.KitUnits.{KitUnits}
use Rattle.sed_classes.specs.Bases.{is_below}
use Rattle.sed_classes.specs.Declarations.{all_classes}
use Rattle.sed_classes.specs.Members.{owned, has_name, kit_of, members_of, nearest, nearest_among, own_named}
use Rattle.sed_outline.specs.Rounds.{row_of}
use Rattle.sed_outline.proofs.Rounds.{lineage_behind, members_behind}
use Rattle.sed_program.specs.declared.declared_member.DeclaredMember.{DeclaredMember}
use Rattle.sed_program.specs.Tables.{declared_by, declared_in, declared_of, item_at}
use Rattle.sed_program.proofs.Rows.{row_get, row_past}

-- ---- the first that passes, by its place

pub first_lt : (n : ℕ) → nat_lt 0 (suc n) ≡ true
first_lt n = grind (arith, nat_tests)

lt_more : (k n : ℕ) → nat_lt (suc k) (suc n) ≡ nat_lt k n
lt_more k n = by_test (nat_lt k n) refl
  where
    by_test : (b : Bool) → nat_lt k n ≡ b → nat_lt (suc k) (suc n) ≡ b
    by_test true e = grind (arith, nat_tests)
    by_test false e = grind (arith, nat_tests)

pub place_more : (k n : ℕ) → cond (nat_lt (1 + k) (suc n)) (Some (1 + k)) None
    ≡ option_map suc (cond (nat_lt k n) (Some k) None)
place_more k n =
    let e : 1 + k ≡ suc k = omega arith in
    ap (λ j. cond (nat_lt j (suc n)) (Some j) None) e
    ∙ ap (λ b. cond b (Some (suc k)) None) (lt_more k n)
    ∙ by_test (nat_lt k n)
  where
    by_test : (b : Bool) → cond b (Some (suc k)) None ≡ option_map suc (cond b (Some k) None)
    by_test true = refl
    by_test false = refl

behind : {X : Type 0} (x : X) (xs : List X) (o : Option ℕ) →
    option_and_then (slice_get (x ∷ xs)) (option_map suc o) ≡ option_and_then (slice_get xs) o
behind x xs None = refl
behind x xs (Some n) = refl

pub found_at : {X Y : Type 0} (p : X → Bool) (f : X → Y) (xs : List X) →
    option_and_then (slice_get (map f xs)) (position p xs) ≡ option_map f (find p xs)
found_at p f [] = refl
found_at {X} {Y} p f (x ∷ xs) = by_test (p x) refl (found_at p f xs)
  where
    by_test : (b : Bool) → p x ≡ b → option_and_then (slice_get (map f xs)) (position p xs) ≡ option_map f (find p xs) →
        option_and_then (slice_get (f x ∷ map f xs)) (cond (nat_lt (cond (not (p x)) (1 + position_or_len p xs) 0) (suc
        (length xs)))
        (Some (cond (not (p x)) (1 + position_or_len p xs) 0)) None)
        ≡ option_map f (cond (p x) (Some x) (find p xs))
    by_test true e again =
        ap
        (λ b. option_and_then (slice_get (f x ∷ map f xs)) (cond (nat_lt (cond (not b) (1 + position_or_len p xs) 0)
        (suc (length xs)))
        (Some (cond (not b) (1 + position_or_len p xs) 0)) None))
        e
        ∙ ap (λ b. option_and_then (slice_get (f x ∷ map f xs)) (cond b (Some 0) None)) (first_lt (length xs))
        ∙ sym (ap (λ b. option_map f (cond b (Some x) (find p xs))) e)
    by_test false e again =
        ap
        (λ b. option_and_then (slice_get (f x ∷ map f xs)) (cond (nat_lt (cond (not b) (1 + position_or_len p xs) 0)
        (suc (length xs)))
        (Some (cond (not b) (1 + position_or_len p xs) 0)) None))
        e
        ∙ ap (option_and_then (slice_get (f x ∷ map f xs))) (place_more (position_or_len p xs) (length xs))
        ∙ behind (f x) (map f xs) (position p xs)
        ∙ again
        ∙ sym (ap (λ b. option_map f (cond b (Some x) (find p xs))) e)

-- ---- members of a class

twice : (units : List KitUnits) (class : ℕ) (o : Option Member) →
    option_map (declared_by units class) o
    ≡ option_map (declared_of units) (option_map (owned class (kit_of units class)) o)
twice units class None = refl
twice units class (Some m) = refl

nowhere : (rows : List (List DeclaredMember)) (class : ℕ) (o : Option ℕ) → o ≡ None →
    option_and_then (item_at rows class) o ≡ None
nowhere rows class o e = ap (option_and_then (item_at rows class)) e

in_row : (rows : List (List DeclaredMember)) (class : ℕ) (row : List DeclaredMember) (o : Option ℕ) →
    slice_get rows class ≡ Some row → option_and_then (item_at rows class) o ≡ option_and_then (slice_get row) o
in_row rows class row None e = refl
in_row rows class row (Some at) e = ap (option_and_then (λ r. slice_get r at)) e

-- what tables hold at the place of a name is what it stands for in the class
pub own_found : (units : List KitUnits) (class : ℕ) (name : List ℕ) →
    option_and_then (item_at (row_of units (declared_in units)) class) (position (has_name name)
    (members_of units class))
    ≡ option_map (declared_of units) (own_named units name class)
own_found units class name = by_place (slice_get (row_of units (declared_in units)) class) refl
  where
    by_place : (o : Option (List DeclaredMember)) → slice_get (row_of units (declared_in units)) class ≡ o →
        option_and_then (item_at (row_of units (declared_in units)) class) (position (has_name name)
        (members_of units class))
        ≡ option_map (declared_of units) (own_named units name class)
    by_place None e =
        let none : members_of units class ≡ [] = members_behind units class (row_past units
        (declared_in units) class e) in
        ap (λ ms. option_and_then (item_at (row_of units (declared_in units)) class) (position (has_name name) ms)) none
        ∙ sym (ap (λ ms. option_map (declared_of units) (option_map (owned class (kit_of units class)) (find
        (has_name name) ms))) none)
    by_place (Some row) e =
        in_row (row_of units (declared_in units)) class row (position (has_name name) (members_of units class)) e
        ∙ ap
        (λ r. option_and_then (slice_get r) (position (has_name name) (members_of units class)))
        (row_get units (declared_in units) class row e)
        ∙ found_at (has_name name) (declared_by units class) (members_of units class)
        ∙ twice units class (find (has_name name) (members_of units class))

-- ---- what stands above

-- behind all classes a name stands for nothing
pub nearest_behind : (units : List KitUnits) (class : ℕ) (name : List ℕ) → length (all_classes units) ≤ class →
    nearest units class name ≡ None
nearest_behind units class name le =
    ap (nearest_among units name) (lineage_behind units class le)
    ∙ ap
    (λ ms. option_or (option_map (owned class (kit_of units class)) (find (has_name name) ms)) None)
    (members_behind units class le)

pub below_behind : (units : List KitUnits) (above class : ℕ) → length (all_classes units) ≤ class →
    is_below units above class ≡ (class == above)
below_behind units above class le =
    ap (list_any (λ c. c == above)) (lineage_behind units class le) ∙ or_none (class == above)
  where
    or_none : (b : Bool) → list_any (λ (x : Bool). x) (b ∷ []) ≡ b
    or_none true = refl
    or_none false = refl
