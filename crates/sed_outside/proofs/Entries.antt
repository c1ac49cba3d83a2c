-- What stands under each name after an entry is written or put last.
use Rattle.std.proofs.Common.{◌≡◌, ◌≢◌, ℕ, ◌≤◌, Bool, true, false, cond, List, [], ◌∷◌, ◌++◌, length, get_or, Option, Some, None, refl, sym, ap, ◌∙◌, arith, ltb}
use Rattle.std.specs.Prelude.{String, string_bytes, find, position}
use Rattle.std.specs.List.{position_or_len}
use Rattle.std.specs.Option.{option_map, option_or}
use Rattle.std.specs.Str.{bytes_eq}
use Rattle.std.specs.declared.alloc.Global.{Global}
use Rattle.std.proofs.Math.ListN.{set}
use Rattle.std.proofs.lemmas.Bool.{false_from_ne_true}
use Rattle.std.proofs.lemmas.Bool.Decides.{nat_tests}
use Rattle.std.proofs.lemmas.List.Folds.{find_at, find-set, find_past, find-append}
use Rattle.std.proofs.lemmas.List.Quantifiers.{position-Some}
use Rattle.std.proofs.lemmas.Option.{slice_get_past}
use Rattle.std.proofs.lemmas.Slice.Eq.{bytes_eq-Decides}
use Rattle.sed_outside.specs.Named.{value_of}

-- the entry has that name
abbrev pub has_name : {T : Type 0} → List ℕ → String Global × T → Bool
has_name name e = bytes_eq (string_bytes e.0) name

-- the place that was found is the first at which the test passes
position_or_len-found : {X : Type 0} (p : X → Bool) (xs : List X) (i : ℕ) → position p xs ≡ Some i → i ≡ position_or_len p xs
position_or_len-found p xs i found =
    (elim (ltb (position_or_len p xs) (length xs)) as (λ b. cond b (Some (position_or_len p xs)) None ≡ Some i → i ≡ position_or_len p xs)
    [ true ↦ λ h. cc | false ↦ λ h. cc ]) found

past_the_end : (found len : ℕ) → cond (ltb found len) (Some found) None ≡ None → len ≤ found
past_the_end found len absent =
    (elim (ltb found len) as (λ b. ltb found len ≡ b → cond b (Some found) None ≡ None → len ≤ found)
    [ true ↦ λ is h. absurd (cc) | false ↦ λ is h. grind (arith, nat_tests) ]) refl absent

-- where no place was found, no entry is
find-absent : {X : Type 0} (p : X → Bool) (xs : List X) → position p xs ≡ None → find p xs ≡ None
find-absent p xs absent =
    find_at p xs ∙ slice_get_past xs (position_or_len p xs) (past_the_end (position_or_len p xs) (length xs) absent)

option_or-none : {X : Type 0} (o : Option X) → option_or o None ≡ o
option_or-none None = refl
option_or-none (Some x) = refl

-- a name is not that of an entry of another name
has_name-other : {T : Type 0} (name other : List ℕ) (e : String Global × T) → string_bytes e.0 ≡ name → other ≢ name → has_name other e ≡ false
has_name-other name other e named apart =
    false_from_ne_true _ (λ same. apart (sym ((bytes_eq-Decides (string_bytes e.0) other).0 same) ∙ named))

pub value_of-set_same : {T : Type 0} (xs : List (String Global × T)) (name : List ℕ) (i : ℕ) (e : String Global × T) (v : T)
    → position (has_name name) xs ≡ Some i → e ≡ get_or xs i e → value_of (set xs i (e.0, v)) name ≡ Some v
value_of-set_same xs name i e v found is_there =
    let at = position-Some (has_name name) xs i e found in
    let named : has_name name e ≡ true = ap (has_name name) is_there ∙ at.1 in
    ap (option_map (λ x. x.1)) (find-set (has_name name) xs i (e.0, v) (position_or_len-found (has_name name) xs i found) at.0 named)

pub value_of-set_other : {T : Type 0} (xs : List (String Global × T)) (name other : List ℕ) (i : ℕ) (e : String Global × T) (v : T)
    → position (has_name name) xs ≡ Some i → e ≡ get_or xs i e → other ≢ name → value_of (set xs i (e.0, v)) other ≡ value_of xs other
value_of-set_other xs name other i e v found is_there apart =
    let at = position-Some (has_name name) xs i e found in
    let named : has_name name e ≡ true = ap (has_name name) is_there ∙ at.1 in
    let is_name : string_bytes e.0 ≡ name = (bytes_eq-Decides (string_bytes e.0) name).0 named in
    let not_other : has_name other e ≡ false = has_name-other name other e is_name apart in
    ap (option_map (λ x. x.1)) (find_past (has_name other) xs i (e.0, v) e (ap (has_name other) (sym is_there) ∙ not_other) not_other)

pub value_of-push_same : {T : Type 0} (xs : List (String Global × T)) (name : List ℕ) (e : String Global × T)
    → position (has_name name) xs ≡ None → string_bytes e.0 ≡ name → value_of (xs ++ e ∷ []) name ≡ Some e.1
value_of-push_same xs name e absent named =
    let is_name : has_name name e ≡ true = (bytes_eq-Decides (string_bytes e.0) name).1 named in
    let here : find (has_name name) (e ∷ []) ≡ Some e = ap (λ b. cond b (Some e) None) is_name in
    ap (option_map (λ x. x.1)) (find-append (has_name name) xs (e ∷ []) ∙ ap (λ o. option_or o (find (has_name name) (e ∷ []))) (find-absent (has_name name) xs absent) ∙ here)

pub value_of-push_other : {T : Type 0} (xs : List (String Global × T)) (name other : List ℕ) (e : String Global × T)
    → string_bytes e.0 ≡ name → other ≢ name → value_of (xs ++ e ∷ []) other ≡ value_of xs other
value_of-push_other xs name other e named apart =
    let not_other : has_name other e ≡ false = has_name-other name other e named apart in
    let none_here : find (has_name other) (e ∷ []) ≡ None = ap (λ b. cond b (Some e) None) not_other in
    ap (option_map (λ x. x.1)) (find-append (has_name other) xs (e ∷ []) ∙ ap (option_or (find (has_name other) xs)) none_here ∙ option_or-none (find (has_name other) xs))
