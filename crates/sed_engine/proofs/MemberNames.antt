-- Tests of the names of members, for programs that are written out.
use Rattle.std.proofs.Common.{◌≡◌, ℕ, ◌+◌, ◌≤◌, ◌==◌, ◌&&◌, ◌||◌, not, Bool, true, false, cond, List, [], ◌∷◌, ◌++◌, map, refl, sym, ap, ◌∙◌, subst, arith}
use Rattle.std.specs.Prelude.{All, count_by, filter, slice_index_or}
use Rattle.std.specs.List.{list_all, list_any}
use Rattle.std.specs.Str.{bytes_eq}
use Rattle.std.proofs.lemmas.Bool.{and_parts, eqb-true, or_parts as neither, not-true as not_true}
use Rattle.std.proofs.lemmas.Bool.Decides.{Decides-eqb}
use Rattle.std.proofs.lemmas.List.Elements.{All-nil, All-cons}
use Rattle.std.proofs.lemmas.List.Sums.{sum_by-append, sum_by-cons, AllPass-from_list_all}
use Rattle.std.proofs.lemmas.Slice.Eq.{bytes_eq-Decides}
use Rattle.sed_typed.specs.declared.program.Field.{Field}
use Rattle.sed_typed.specs.declared.program.Method.{Method}
use Rattle.sed_typed.specs.declared.program.Program.{Program}
use Rattle.sed_typed.specs.TypedSchema.{members_named, members_above, fields_above}

-- what holds of each element, written out
abbrev pub Each : {X : Type 0} → (X → Type 0) → List X → Type 0
Each P [] = Unit {0}
Each P (x ∷ xs) = P x × Each P xs

pub all_of : {X : Type 0} (P : X → Type 0) (xs : List X) → Each P xs → All P xs
all_of P [] h = All-nil P
all_of P (x ∷ xs) h = All-cons P x xs h.0 (all_of P xs h.1)

-- ---- names, each of which stands once

abbrev how_many : List ℕ → List (List ℕ) → ℕ
how_many name names = count_by (λ n. bytes_eq n name) names

abbrev pub distinct : List (List ℕ) → Bool
distinct [] = true
distinct (n ∷ ns) = not (list_any (bytes_eq n) ns) && distinct ns

count_first : {X : Type 0} (test : X → Bool) (x : X) (xs : List X) → count_by test (x ∷ xs) ≡ cond (test x) 1 0 + count_by test xs
count_first {X} test x xs = let one : X → ℕ = λ y. cond (test y) 1 0 in sum_by-cons one x xs

-- the names of those that pass a test
named_in : {X : Type 0} (test : X → Bool) (name_of : X → List ℕ) (xs : List X) (name : List ℕ) →
    count_by (λ x. test x && bytes_eq (name_of x) name) xs ≡ how_many name (map name_of (filter test xs))
named_in test name_of [] name = refl
named_in {X} test name_of (x ∷ xs) name = count_first (λ y. test y && bytes_eq (name_of y) name) x xs ∙ go (test x) (named_in test name_of xs name)
  where
    go : (b : Bool) → count_by (λ y. test y && bytes_eq (name_of y) name) xs ≡ how_many name (map name_of (filter test xs)) →
        cond (b && bytes_eq (name_of x) name) 1 0 + count_by (λ y. test y && bytes_eq (name_of y) name) xs ≡ how_many name (map name_of (cond b (x ∷ filter test xs) (filter test xs)))
    go true e = ap (λ (n : ℕ). cond (bytes_eq (name_of x) name) 1 0 + n) e ∙ sym (count_first (λ n. bytes_eq n name) (name_of x) (map name_of (filter test xs)))
    go false e = omega (arith, e)

no_other : (n : List ℕ) (ns : List (List ℕ)) → list_any (bytes_eq n) ns ≡ false → how_many n ns ≡ 0
no_other n [] h = refl
no_other n (m ∷ ms) h =
    let parts : (bytes_eq n m ≡ false) × (list_any (bytes_eq n) ms ≡ false) = neither (bytes_eq n m) (list_any (bytes_eq n) ms) h in
    count_first (λ k. bytes_eq k n) m ms ∙ go (bytes_eq m n) refl parts.0 (no_other n ms parts.1)
  where
    go : (b : Bool) → bytes_eq m n ≡ b → bytes_eq n m ≡ false → how_many n ms ≡ 0 → cond b 1 0 + how_many n ms ≡ 0
    go true e differs rest =
        let same : bytes_eq n m ≡ true = (bytes_eq-Decides n m).1 (sym ((bytes_eq-Decides m n).0 e)) in
        let never : ⊥ = cc in
        absurd never
    go false e differs rest = omega (arith, rest)

at_most_one : (names : List (List ℕ)) → distinct names ≡ true → (name : List ℕ) → how_many name names ≤ 1
at_most_one [] h name = omega arith
at_most_one (n ∷ ns) h name =
    let parts : (not (list_any (bytes_eq n) ns) ≡ true) × (distinct ns ≡ true) = and_parts (not (list_any (bytes_eq n) ns)) (distinct ns) h in
    subst (λ (k : ℕ). k ≤ 1) (sym (count_first (λ k. bytes_eq k name) n ns)) (go (bytes_eq n name) refl (not_true (list_any (bytes_eq n) ns) parts.0) (at_most_one ns parts.1 name))
  where
    go : (b : Bool) → bytes_eq n name ≡ b → list_any (bytes_eq n) ns ≡ false → how_many name ns ≤ 1 → cond b 1 0 + how_many name ns ≤ 1
    go true e alone rest =
        let none : how_many name ns ≡ 0 = subst (λ (m : List ℕ). how_many m ns ≡ 0) ((bytes_eq-Decides n name).0 e) (no_other n ns alone) in
        omega (arith, none)
    go false e alone rest = omega (arith, rest)

-- the names of the members of a class
abbrev pub member_names : Program → ℕ → List (List ℕ)
member_names program class =
    map (λ (f : Field). f.name) (filter (λ f. f.class.0 == class) program.fields)
    ++ map (λ (f : Field). f.name) (filter (λ f. f.class.0 == class) program.statics)
    ++ map (λ (m : Method). m.name) (filter (λ m. m.class.0 == class) program.methods)

-- where the names of a class's members differ, each name is that of one member at most
pub once_each : (program : Program) (class : ℕ) → distinct (member_names program class) ≡ true → (name : List ℕ) → members_named program class name ≤ 1
once_each program class h name =
    let fields : List (List ℕ) = map (λ (f : Field). f.name) (filter (λ f. f.class.0 == class) program.fields) in
    let statics : List (List ℕ) = map (λ (f : Field). f.name) (filter (λ f. f.class.0 == class) program.statics) in
    let methods : List (List ℕ) = map (λ (m : Method). m.name) (filter (λ m. m.class.0 == class) program.methods) in
    let of_fields : count_by (λ f. (f.class.0 == class) && bytes_eq f.name name) program.fields ≡ how_many name fields = named_in (λ f. f.class.0 == class) (λ (f : Field). f.name) program.fields name in
    let of_statics : count_by (λ f. (f.class.0 == class) && bytes_eq f.name name) program.statics ≡ how_many name statics = named_in (λ f. f.class.0 == class) (λ (f : Field). f.name) program.statics name in
    let of_methods : count_by (λ m. (m.class.0 == class) && bytes_eq m.name name) program.methods ≡ how_many name methods = named_in (λ m. m.class.0 == class) (λ (m : Method). m.name) program.methods name in
    let front : how_many name (fields ++ statics) ≡ how_many name fields + how_many name statics = sum_by-append (λ n. cond (bytes_eq n name) 1 0) fields statics in
    let all : how_many name (fields ++ statics ++ methods) ≡ how_many name (fields ++ statics) + how_many name methods = sum_by-append (λ n. cond (bytes_eq n name) 1 0) (fields ++ statics) methods in
    let most : how_many name (fields ++ statics ++ methods) ≤ 1 = at_most_one (fields ++ statics ++ methods) h name in
    omega (arith, of_fields, of_statics, of_methods, front, all, most)

named : {X : Type 0} (name_of : X → List ℕ) (xs : List X) (name : List ℕ) → count_by (λ x. bytes_eq (name_of x) name) xs ≡ how_many name (map name_of xs)
named name_of [] name = refl
named name_of (x ∷ xs) name =
    count_first (λ y. bytes_eq (name_of y) name) x xs
    ∙ ap (λ (n : ℕ). cond (bytes_eq (name_of x) name) 1 0 + n) (named name_of xs name)
    ∙ sym (count_first (λ n. bytes_eq n name) (name_of x) (map name_of xs))

-- where the names in a list differ, each is that of one element at most
pub named_once : {X : Type 0} (name_of : X → List ℕ) (xs : List X) → distinct (map name_of xs) ≡ true → (name : List ℕ) → count_by (λ x. bytes_eq (name_of x) name) xs ≤ 1
named_once name_of xs h name = subst (λ (n : ℕ). n ≤ 1) (sym (named name_of xs name)) (at_most_one (map name_of xs) h name)

-- ---- members against those above their class

either_way : (a b : Bool) → (not a || b) ≡ true → a ≡ true → b ≡ true
either_way true b h e = h
either_way false b h e = let never : ⊥ = cc in absurd never

-- each element of a class has this count, by a test of them all
pub all_count : {X : Type 0} (class_of : X → ℕ) (count : X → ℕ) (class n : ℕ) (all : List X) → list_all (λ x. not (class_of x == class) || (count x == n)) all ≡ true → All (λ x. class_of x ≡ class → count x ≡ n) all
all_count class_of count class n all h k d within own =
    eqb-true (count (slice_index_or all k d)) n
    (either_way (class_of (slice_index_or all k d) == class) (count (slice_index_or all k d) == n)
    (AllPass-from_list_all (λ x. not (class_of x == class) || (count x == n)) all h k d within)
    ((Decides-eqb (class_of (slice_index_or all k d)) class).1 own))

pub names_new : (program : Program) (class : ℕ) (all : List Field) → list_all (λ f. not (f.class.0 == class) || (members_above program class f.name == 1)) all ≡ true →
    All (λ f. f.class.0 ≡ class → members_above program class f.name ≡ 1) all
names_new program class all h = all_count (λ (f : Field). f.class.0) (λ (f : Field). members_above program class f.name) class 1 all h

pub names_apart : (program : Program) (class : ℕ) → list_all (λ m. not (m.class.0 == class) || (fields_above program class m.name == 0)) program.methods ≡ true →
    All (λ m. m.class.0 ≡ class → fields_above program class m.name ≡ 0) program.methods
names_apart program class h = all_count (λ (m : Method). m.class.0) (λ (m : Method). fields_above program class m.name) class 0 program.methods h
