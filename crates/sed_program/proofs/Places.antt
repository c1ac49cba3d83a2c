-- The place of a name among those members that have numbers.
use Rattle.std.proofs.Common.{◌≡◌, ◌<◌, ℕ, suc, ◌+◌, Bool, true, false, not, cond, nat_lt, List, [], ◌∷◌, filter, take, length, get_or, Option, Some, None, refl, sym, ap, ◌∙◌, arith}
use Rattle.std.specs.List.{position, position_or_len}
use Rattle.std.specs.Option.{option_map, option_map_or, unwrap_or}
use Rattle.std.proofs.lemmas.List.{length-append}
use Rattle.std.proofs.lemmas.List.Elements.{filter-append}
use Rattle.sed_units.specs.declared.classes.Member.{Member}
use Rattle.sed_classes.specs.Members.{has_name}
use Rattle.sed_program.specs.Fields.{place_named}
use Rattle.sed_program.specs.Parts.{one_if}
use Rattle.sed_program.proofs.Found.{first_lt, place_more}
use Rattle.sed_program.proofs.Lists.{front_more}

-- so many stand before; 0 where none has the name
abbrev pub place_behind : ℕ → List ℕ → List Member → ℕ
place_behind before name members = option_map_or (λ k. before + k) (position (has_name name) members) 0

pub at_start : (name : List ℕ) (members : List Member) → place_behind 0 name members ≡ place_named name members
at_start name members = by_place (position (has_name name) members)
  where
    by_place : (o : Option ℕ) → option_map_or (λ k. 0 + k) o 0 ≡ unwrap_or o 0
    by_place None = refl
    by_place (Some k) = let e : 0 + k ≡ k = omega arith in e

-- the place of the first that passes, where the first of all does or does not
pub here : (p : Member → Bool) (m : Member) (ms : List Member) → p m ≡ true → position p (m ∷ ms) ≡ Some 0
here p m ms e =
    ap
    (λ b. cond (nat_lt (cond (not b) (1 + position_or_len p ms) 0) (suc (length ms))) (Some (cond (not b)
    (1 + position_or_len p ms) 0)) None)
    e
    ∙ ap (λ b. cond b (Some 0) None) (first_lt (length ms))

pub later : (p : Member → Bool) (m : Member) (ms : List Member) → p m ≡ false →
    position p (m ∷ ms) ≡ option_map suc (position p ms)
later p m ms e =
    ap
    (λ b. cond (nat_lt (cond (not b) (1 + position_or_len p ms) 0) (suc (length ms))) (Some (cond (not b)
    (1 + position_or_len p ms) 0)) None)
    e
    ∙ place_more (position_or_len p ms) (length ms)

moved : (before : ℕ) (o : Option ℕ) →
    option_map_or (λ k. before + k) (option_map suc o) 0 ≡ option_map_or (λ k. before + 1 + k) o 0
moved before None = refl
moved before (Some k) = let e : before + suc k ≡ before + 1 + k = omega arith in e

-- one that counts and has the name is the one
pub found_here : (p : Member → Bool) (before : ℕ) (name : List ℕ) (m : Member) (ms : List Member) →
    p m ≡ true → has_name name m ≡ true → place_behind before name (filter p (m ∷ ms)) ≡ before
found_here p before name m ms e n =
    ap (λ b. place_behind before name (cond b (m ∷ filter p ms) (filter p ms))) e
    ∙ ap (λ o. option_map_or (λ k. before + k) o 0) (here (has_name name) m (filter p ms) n)
    ∙ (let z : before + 0 ≡ before = omega arith in z)

-- any other is passed over
pub passed_over : (p : Member → Bool) (before : ℕ) (name : List ℕ) (m : Member) (ms : List Member) (counts : Bool) →
    counts ≡ p m → (counts ≡ true → has_name name m ≡ false) →
    place_behind (before + one_if counts) name (filter p ms) ≡ place_behind before name (filter p (m ∷ ms))
passed_over p before name m ms true e n =
    sym (
    ap (λ b. place_behind before name (cond b (m ∷ filter p ms) (filter p ms))) (sym e)
    ∙ ap (λ o. option_map_or (λ k. before + k) o 0) (later (has_name name) m (filter p ms) (n refl))
    ∙ moved before (position (has_name name) (filter p ms)))
passed_over p before name m ms false e n =
    ap (λ k. place_behind k name (filter p ms)) (let z : before + 0 ≡ before = omega arith in z)
    ∙ sym (ap (λ b. place_behind before name (cond b (m ∷ filter p ms) (filter p ms))) (sym e))

-- ---- counts

one_counted : (p : Member → Bool) (m : Member) → length (filter p (m ∷ [])) ≡ one_if (p m)
one_counted p m = by_test (p m)
  where
    by_test : (b : Bool) → length (cond b (m ∷ []) []) ≡ one_if b
    by_test true = refl
    by_test false = refl

pub count_step : (p : Member → Bool) (n : ℕ) (ms : List Member) (m : Member) (far one : ℕ) →
    n < length ms → m ≡ get_or ms n m → one ≡ one_if (p m) → far ≡ length (filter p (take n ms)) →
    far + one ≡ length (filter p (take (n + 1) ms))
count_step p n ms m far one h e o f =
    ap (λ k. k + one) f
    ∙ ap (λ k. length (filter p (take n ms)) + k) (o ∙ sym (one_counted p m))
    ∙ sym (length-append (filter p (take n ms)) (filter p (m ∷ [])))
    ∙ sym (ap length (filter-append p (take n ms) (m ∷ [])))
    ∙ sym (ap (λ xs. length (filter p xs)) (front_more n ms m h e))
