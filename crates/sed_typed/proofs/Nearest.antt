-- Which methods are the nearest at a class, against its base and below it, and how often a name is among its virtual methods.
use Rattle.std.proofs.Common.{◌≡◌, ◌<◌, ◌≤◌, ◌+◌, ℕ, zero, suc, ◌==◌, ◌&&◌, Bool, true, false, not, nat_lt, List, [], ◌∷◌, ◌++◌, length, map, get_or, cond, Option, Some, None, refl, sym, ap, subst, ◌∙◌, arith}
use Rattle.std.specs.Prelude.{All, IfSome, IsSomeAnd, ◌||◌, ⊤, count_by, filter, position, slice_get}
use Rattle.std.specs.List.{list_any, position_or_len}
use Rattle.std.specs.Option.{option_and_then, option_map_or}
use Rattle.std.specs.Str.{bytes_eq}
use Rattle.std.proofs.Math.Bool.{and-true}
use Rattle.std.proofs.lemmas.Bool.Decides.{nat_tests}
use Rattle.std.proofs.lemmas.Bool.{not-false, eqb-true, ltb-true, and_parts}
use Rattle.std.proofs.lemmas.List.Elements.{All-get_or, All-head, All-tail}
use Rattle.std.proofs.lemmas.List.Sums.{prefix_len_stops, sum_by-append, sum_by-cons}
use Rattle.std.proofs.lemmas.Option.{MatchOption-at_some, cond_some, slice_get_within, slice_get-get_or, get_or_from_slice_get}
use Rattle.std.proofs.lemmas.Slice.Eq.{bytes_eq-Decides}
use Rattle.sed_typed.specs.declared.program.Method.{Method}
use Rattle.sed_typed.specs.declared.program.Program.{Program}
use Rattle.sed_typed.specs.Classes.{base_of, lineage, first_found, declared_method, find, nearest}
use Rattle.sed_typed.specs.Typed.{Typed, IsMethod}
use Rattle.sed_typed.specs.TypedSchema.{Overrides, is_below, members_named}
use Rattle.sed_typed.specs.Virtual.{begins_virtual, has_virtual_name, new_virtual_names, virtual_names}
use Rattle.sed_typed.proofs.Lineages.{going_down, has_base, has_info, lineage_alone, lineage_of_base, none_is}
use Rattle.sed_typed.proofs.SystemMethods.{alone, goes_on, some_classes}

-- ---- elements by their places

at_place : {X : Type 0} (P : X → Type 0) (xs : List X) (k : ℕ) (x : X) → All P xs → slice_get xs k ≡ Some x → P x
at_place P xs k x all e = subst P (get_or_from_slice_get xs k x x e) (All-get_or P xs k x (slice_get_within xs k x e) all)

-- an element that passes a test, at a place
pub record IsPassed {X : Type 0} (p : X → Bool) (xs : List X) (n : ℕ) : Type 0 where
  pub value : X
  pub is : slice_get xs n ≡ Some value
  pub passes : p value ≡ true

pub position_passes : {X : Type 0} (p : X → Bool) (xs : List X) (n : ℕ) → position p xs ≡ Some n → IsPassed p xs n
position_passes p [] n e = none_is n e
position_passes p (x ∷ xs) n e =
    let at : ℕ = position_or_len p (x ∷ xs) in
    let parts : (nat_lt at (length (x ∷ xs)) ≡ true) × (at ≡ n) = cond_some (nat_lt at (length (x ∷ xs))) at n e in
    let inside : at < length (x ∷ xs) = ltb-true at (length (x ∷ xs)) parts.0 in
    let here : slice_get (x ∷ xs) at ≡ Some (get_or (x ∷ xs) at x) = slice_get-get_or (x ∷ xs) at x inside in
    record {
      value = get_or (x ∷ xs) at x;
      is = subst (λ (k : ℕ). slice_get (x ∷ xs) k ≡ Some (get_or (x ∷ xs) at x)) parts.1 here;
      passes = not-false (p (get_or (x ∷ xs) at x)) (prefix_len_stops (λ y. not (p y)) (x ∷ xs) x inside);
    }

-- ---- what a class declares, against its base

pub found_here : (look : ℕ → Option ℕ) (at : ℕ) (rest : List ℕ) (n : ℕ) → look at ≡ Some n → first_found look (at ∷ rest) ≡ Some n
found_here look at rest n e = rw e refl

pub found_later : (look : ℕ → Option ℕ) (at : ℕ) (rest : List ℕ) → look at ≡ None → first_found look (at ∷ rest) ≡ first_found look rest
found_later look at rest e = rw e refl

pub declared_at : (program : Program) (class n : ℕ) (name : List ℕ) → declared_method program.methods name class ≡ Some n → IsPassed (λ (m : Method). (m.class.0 == class) && bytes_eq m.name name) program.methods n
declared_at program class n name e = position_passes (λ (m : Method). (m.class.0 == class) && bytes_eq m.name name) program.methods n e

overrides_at : (program : Program) (class base n : ℕ) (y x : Method) → base_of program.schema.classes class ≡ Some base → y.class.0 ≡ class →
    All (λ m. m.class.0 ≡ class → IfSome (base_of program.schema.classes class) (λ low. IfSome (find program low m.name) (λ k. IfSome (slice_get program.methods k) (Overrides m)))) program.methods →
    (k : ℕ) → slice_get program.methods k ≡ Some y → find program base y.name ≡ Some n → slice_get program.methods n ≡ Some x → Overrides y x
overrides_at program class base n y x b own all k is found above =
    MatchOption-at_some ⊤ (Overrides y) x above
    (MatchOption-at_some ⊤ (λ j. IfSome (slice_get program.methods j) (Overrides y)) n found
    (MatchOption-at_some ⊤ (λ low. IfSome (find program low y.name) (λ j. IfSome (slice_get program.methods j) (Overrides y))) base b
    (at_place (λ m. m.class.0 ≡ class → IfSome (base_of program.schema.classes class) (λ low. IfSome (find program low m.name) (λ j. IfSome (slice_get program.methods j) (Overrides m)))) program.methods k y all is own)))

-- A class inherits what its base finds, or declares a method that overrides it, or one where the base finds none.
pub data Goes (program : Program) (class base : ℕ) (name : List ℕ) : Type 0 where
  Inherits : declared_method program.methods name class ≡ None → find program class name ≡ find program base name → Goes program class base name
  Declares : (n : ℕ) (m : Method) → declared_method program.methods name class ≡ Some n → slice_get program.methods n ≡ Some m → find program class name ≡ Some n →
      ((k : ℕ) (x : Method) → find program base name ≡ Some k → slice_get program.methods k ≡ Some x → Overrides m x) → Goes program class base name

pub goes : (program : Program) → Typed program → (class base : ℕ) (name : List ℕ) → base_of program.schema.classes class ≡ Some base → Goes program class base name
goes program typed class base name b = by_look (declared_method program.methods name class) refl
  where
    line : find program class name ≡ first_found (declared_method program.methods name) (class ∷ lineage program.schema.classes base)
    line = ap (first_found (declared_method program.methods name)) (lineage_of_base program typed class base b)

    by_look : (o : Option ℕ) → declared_method program.methods name class ≡ o → Goes program class base name
    by_look None e = Inherits e (line ∙ found_later (declared_method program.methods name) class (lineage program.schema.classes base) e)
    by_look (Some n) e =
        let d : IsPassed (λ (m : Method). (m.class.0 == class) && bytes_eq m.name name) program.methods n = declared_at program class n name e in
        let y : Method = d.value in
        let parts : ((y.class.0 == class) ≡ true) × (bytes_eq y.name name ≡ true) = and_parts (y.class.0 == class) (bytes_eq y.name name) d.passes in
        let named : y.name ≡ name = (bytes_eq-Decides y.name name).0 parts.1 in
        let within : class < length program.schema.classes = has_info program.schema.classes class base (slice_get program.schema.classes class) refl b in
        Declares n y e d.is (line ∙ found_here (declared_method program.methods name) class (lineage program.schema.classes base) n e)
        (λ k x found is. overrides_at program class base k y x b (eqb-true y.class.0 class parts.0) (typed.members class within).methods n d.is (ap (find program base) named ∙ found) is)

-- ---- down to the classes below

some_and : {X : Type 0} {P : X → Type 0} (o : Option X) → IsSomeAnd o P → (x : X) × (o ≡ Some x) × P x
some_and None h = absurd h
some_and (Some x) h = (x, refl, h)

-- where the nearest method is found
at_number : (ms : List Method) (x : Method) (o : Option ℕ) → option_and_then (slice_get ms) o ≡ Some x → (n : ℕ) × (o ≡ Some n) × (slice_get ms n ≡ Some x)
at_number ms x None e = none_is x e
at_number ms x (Some n) e = (n, refl, e)

through : (a b c : Method) → Overrides a b → Overrides b c → Overrides a c
through a b c h k = record {
  instance = h.instance;
  instance_above = k.instance_above;
  virtual = h.virtual;
  virtual_above = k.virtual_above;
  params = h.params ∙ k.params;
  result = h.result ∙ k.result;
}

itself : (program : Program) → Typed program → (n : ℕ) (x : Method) → slice_get program.methods n ≡ Some x → x.is_virtual ≡ true → Overrides x x
itself program typed n x is virtual =
    let instance : x.is_static ≡ false = ((at_place (IsMethod program) program.methods n x typed.methods is).virtual virtual).0 in
    record { instance = instance; instance_above = instance; virtual = virtual; virtual_above = virtual; params = refl; result = refl }

virtual_below : (program : Program) → Typed program → (above class : ℕ) (name : List ℕ) (x : Method) → is_below program.schema.classes above class ≡ true →
    nearest program above name ≡ Some x → x.is_virtual ≡ true → IsSomeAnd (nearest program class name) (λ m. Overrides m x)
virtual_below program typed above class name x is found virtual =
    let at = at_number program.methods x (find program above name) found in
    going_down program.schema.classes (λ c. IsSomeAnd (nearest program c name) (λ m. Overrides m x)) above
    (subst (λ (o : Option Method). IsSomeAnd o (λ m. Overrides m x)) (sym found) (itself program typed at.0 x at.2 virtual))
    (λ c base b has. below c base has (goes program typed c base name b)) class is
  where
    below : (c base : ℕ) → IsSomeAnd (nearest program base name) (λ m. Overrides m x) → Goes program c base name → IsSomeAnd (nearest program c name) (λ m. Overrides m x)
    below c base has (Inherits none e) = subst (λ (o : Option ℕ). IsSomeAnd (option_and_then (slice_get program.methods) o) (λ m. Overrides m x)) (sym e) has
    below c base has (Declares n m own here e over) =
        let up = some_and (nearest program base name) has in
        let at = at_number program.methods up.0 (find program base name) up.1 in
        subst (λ (o : Option Method). IsSomeAnd o (λ y. Overrides y x)) (sym (ap (option_and_then (slice_get program.methods)) e ∙ here))
        (through m up.0 x (over at.0 up.0 at.1 at.2) up.2)

pub plain_below : (program : Program) → Typed program → (above class n : ℕ) (name : List ℕ) (m : Method) → is_below program.schema.classes above class ≡ true →
    find program above name ≡ Some n → slice_get program.methods n ≡ Some m → m.is_virtual ≡ false → find program class name ≡ Some n
plain_below program typed above class n name m is found here plain =
    going_down program.schema.classes (λ c. find program c name ≡ Some n) above found (λ c base b has. below c base has (goes program typed c base name b)) class is
  where
    below : (c base : ℕ) → find program base name ≡ Some n → Goes program c base name → find program c name ≡ Some n
    below c base has (Inherits none e) = e ∙ has
    below c base has (Declares k y own there e over) = let virtual : m.is_virtual ≡ true = (over n m has here).virtual_above in let never : ⊥ = cc in absurd never

-- what is found has its method
first_is : (look : ℕ → Option ℕ) (line : List ℕ) (n : ℕ) → first_found look line ≡ Some n → (at : ℕ) × (look at ≡ Some n)
first_is look [] n e = none_is n e
first_is look (at ∷ rest) n e = by_look (λ h. first_is look rest n h) (look at) refl
  where
    by_look : (first_found look rest ≡ Some n → (c : ℕ) × (look c ≡ Some n)) → (o : Option ℕ) → look at ≡ o → (c : ℕ) × (look c ≡ Some n)
    by_look again None t = again (sym (found_later look at rest t) ∙ e)
    by_look again (Some k) t = (at, t ∙ sym (found_here look at rest k t) ∙ e)

never_none : (program : Program) (class k : ℕ) (name : List ℕ) → find program class name ≡ Some k → slice_get program.methods k ≡ None → ⊥
never_none program class k name found gone =
    let at = first_is (declared_method program.methods name) (lineage program.schema.classes class) k found in
    let d = declared_at program at.0 k name at.1 in
    none_is d.value (sym gone ∙ d.is)

-- ---- counting

count_first : {X : Type 0} (test : X → Bool) (x : X) (xs : List X) → count_by test (x ∷ xs) ≡ cond (test x) 1 0 + count_by test xs
count_first {X} test x xs = let one : X → ℕ = λ y. cond (test y) 1 0 in sum_by-cons one x xs

count_joined : {X : Type 0} (test : X → Bool) (xs ys : List X) → count_by test (xs ++ ys) ≡ count_by test xs + count_by test ys
count_joined {X} test xs ys = let one : X → ℕ = λ y. cond (test y) 1 0 in sum_by-append one xs ys

none_more : (n : ℕ) → 0 + n ≡ n
none_more n = omega arith

some_more : (n : ℕ) → nat_lt 0 (1 + n) ≡ true
some_more n = grind (arith, nat_tests)

any_counted : {X : Type 0} (test : X → Bool) (xs : List X) → list_any test xs ≡ nat_lt 0 (count_by test xs)
any_counted test [] = refl
any_counted test (x ∷ xs) = by_test (test x) refl (any_counted test xs)
  where
    by_test : (b : Bool) → test x ≡ b → list_any test xs ≡ nat_lt 0 (count_by test xs) → list_any test (x ∷ xs) ≡ nat_lt 0 (count_by test (x ∷ xs))
    by_test true e again =
        ap (λ (b : Bool). b || list_any test xs) e
        ∙ sym (ap (nat_lt 0) (count_first test x xs ∙ ap (λ (b : Bool). cond b 1 0 + count_by test xs) e) ∙ some_more (count_by test xs))
    by_test false e again =
        ap (λ (b : Bool). b || list_any test xs) e ∙ again
        ∙ sym (ap (nat_lt 0) (count_first test x xs ∙ ap (λ (b : Bool). cond b 1 0 + count_by test xs) e ∙ none_more (count_by test xs)))

same_counts : {X : Type 0} (f g : X → Bool) → ((x : X) → f x ≡ g x) → (xs : List X) → count_by f xs ≡ count_by g xs
same_counts f g same [] = refl
same_counts f g same (x ∷ xs) =
    count_first f x xs ∙ ap (λ (b : Bool). cond b 1 0 + count_by f xs) (same x) ∙ ap (λ (n : ℕ). cond (g x) 1 0 + n) (same_counts f g same xs) ∙ sym (count_first g x xs)

-- the names of those that pass a test
named_in : (test : Method → Bool) (ms : List Method) (name : List ℕ) →
    count_by (λ n. bytes_eq n name) (map (λ (m : Method). m.name) (filter test ms)) ≡ count_by (λ m. test m && bytes_eq m.name name) ms
named_in test [] name = refl
named_in test (m ∷ ms) name = go (test m) (named_in test ms name) ∙ sym (count_first (λ y. test y && bytes_eq y.name name) m ms)
  where
    go : (b : Bool) → count_by (λ n. bytes_eq n name) (map (λ (y : Method). y.name) (filter test ms)) ≡ count_by (λ y. test y && bytes_eq y.name name) ms →
        count_by (λ n. bytes_eq n name) (map (λ (y : Method). y.name) (cond b (m ∷ filter test ms) (filter test ms))) ≡ cond (b && bytes_eq m.name name) 1 0 + count_by (λ y. test y && bytes_eq y.name name) ms
    go true e = count_first (λ n. bytes_eq n name) m.name (map (λ (y : Method). y.name) (filter test ms)) ∙ ap (λ (n : ℕ). cond (bytes_eq m.name name) 1 0 + n) e
    go false e = omega (arith, e)

-- ---- the only one that passes a test

abbrev first_of : {X : Type 0} → (X → Bool) → List X → Option X
first_of p xs = option_and_then (slice_get xs) (position p xs)

below_next : (a n : ℕ) → nat_lt (suc a) (suc n) ≡ nat_lt a n
below_next a n = grind (arith, nat_tests)

below_some : (n : ℕ) → nat_lt 0 (suc n) ≡ true
below_some n = grind (arith, nat_tests)

one_more : (n : ℕ) → 1 + n ≡ suc n
one_more n = omega arith

first_yes : {X : Type 0} (p : X → Bool) (x : X) (xs : List X) → p x ≡ true → first_of p (x ∷ xs) ≡ Some x
first_yes {X} p x xs e =
    let at : position_or_len p (x ∷ xs) ≡ 0 = ap (λ (b : Bool). cond (not b) (1 + position_or_len p xs) 0) e in
    ap (λ (k : ℕ). option_and_then (slice_get (x ∷ xs)) (cond (nat_lt k (length (x ∷ xs))) (Some k) None)) at
    ∙ ap (λ (b : Bool). option_and_then (slice_get (x ∷ xs)) (cond b (Some 0) None)) (below_some (length xs))

first_no : {X : Type 0} (p : X → Bool) (x : X) (xs : List X) → p x ≡ false → first_of p (x ∷ xs) ≡ first_of p xs
first_no {X} p x xs e =
    let at : position_or_len p (x ∷ xs) ≡ suc (position_or_len p xs) = ap (λ (b : Bool). cond (not b) (1 + position_or_len p xs) 0) e ∙ one_more (position_or_len p xs) in
    ap (λ (k : ℕ). option_and_then (slice_get (x ∷ xs)) (cond (nat_lt k (length (x ∷ xs))) (Some k) None)) at
    ∙ ap (λ (b : Bool). option_and_then (slice_get (x ∷ xs)) (cond b (Some (suc (position_or_len p xs))) None)) (below_next (position_or_len p xs) (length xs))
    ∙ by_test (nat_lt (position_or_len p xs) (length xs))
  where
    by_test : (b : Bool) → option_and_then (slice_get (x ∷ xs)) (cond b (Some (suc (position_or_len p xs))) None) ≡ option_and_then (slice_get xs) (cond b (Some (position_or_len p xs)) None)
    by_test true = refl
    by_test false = refl

-- how many pass a test, by the first
count_yes : {X : Type 0} (p : X → Bool) (x : X) (xs : List X) → p x ≡ true → count_by p (x ∷ xs) ≡ 1 + count_by p xs
count_yes p x xs e = count_first p x xs ∙ ap (λ (b : Bool). cond b 1 0 + count_by p xs) e

count_no : {X : Type 0} (p : X → Bool) (x : X) (xs : List X) → p x ≡ false → count_by p (x ∷ xs) ≡ count_by p xs
count_no p x xs e = count_first p x xs ∙ ap (λ (b : Bool). cond b 1 0 + count_by p xs) e ∙ none_more (count_by p xs)

none_and : {X : Type 0} (p q : X → Bool) (xs : List X) → count_by p xs ≡ 0 → count_by (λ x. p x && q x) xs ≡ 0
none_and p q [] e = refl
none_and p q (x ∷ xs) e = by_test (none_and p q xs) (p x) refl
  where
    by_test : (count_by p xs ≡ 0 → count_by (λ y. p y && q y) xs ≡ 0) → (b : Bool) → p x ≡ b → count_by (λ y. p y && q y) (x ∷ xs) ≡ 0
    by_test again true t = let one = count_yes p x xs t in absurd (omega (arith, e, one))
    by_test again false t = count_no (λ y. p y && q y) x xs (ap (λ (b : Bool). b && q x) t) ∙ again (sym (count_no p x xs t) ∙ e)

only_one : {X : Type 0} (p q : X → Bool) (xs : List X) → count_by p xs ≤ 1 → count_by (λ x. p x && q x) xs ≡ cond (option_map_or q (first_of p xs) false) 1 0
only_one p q [] h = refl
only_one {X} p q (x ∷ xs) h = by_test (only_one p q xs) (p x) refl
  where
    by_bit : (b : Bool) → ◌≡◌ {A = ℕ} (cond b 1 0 + 0) (cond b 1 0)
    by_bit true = refl
    by_bit false = refl

    by_test : (count_by p xs ≤ 1 → count_by (λ y. p y && q y) xs ≡ cond (option_map_or q (first_of p xs) false) 1 0) →
        (b : Bool) → p x ≡ b → count_by (λ y. p y && q y) (x ∷ xs) ≡ cond (option_map_or q (first_of p (x ∷ xs)) false) 1 0
    by_test again true t =
        let one = count_yes p x xs t in
        let none : count_by p xs ≡ 0 = omega (arith, h, one) in
        count_first (λ y. p y && q y) x xs
        ∙ ap (λ (b : Bool). cond (b && q x) 1 0 + count_by (λ y. p y && q y) xs) t
        ∙ ap (λ (n : ℕ). cond (q x) 1 0 + n) (none_and p q xs none)
        ∙ by_bit (q x) ∙ ap (λ (o : Option X). cond (option_map_or q o false) 1 0) (sym (first_yes p x xs t))
    by_test again false t =
        let rest = count_no p x xs t in
        count_no (λ y. p y && q y) x xs (ap (λ (b : Bool). b && q x) t)
        ∙ again (omega (arith, h, rest)) ∙ ap (λ (o : Option X). cond (option_map_or q o false) 1 0) (sym (first_no p x xs t))

-- ---- what a class begins

abbrev is_of_name : ℕ → List ℕ → Method → Bool
is_of_name class name m = (m.class.0 == class) && bytes_eq m.name name

-- the base finds no method of this name
abbrev is_new : Program → ℕ → List ℕ → Bool
is_new program class name = option_map_or (λ _. false) (option_and_then (λ base. find program base name) (base_of program.schema.classes class)) true

module _ (program : Program) (typed : Typed program) (name : List ℕ) where
  none_of : (class : ℕ) (ms : List Method) → length program.schema.classes ≤ class → All (IsMethod program) ms → count_by (is_of_name class name) ms ≡ 0
  none_of class [] h all = refl
  none_of class (m ∷ ms) h all =
      let inside : m.class.0 < length program.schema.classes = (All-head (IsMethod program) m ms all).class in
      let other : (m.class.0 == class) ≡ false = grind (arith, nat_tests) in
      count_no (is_of_name class name) m ms (ap (λ (b : Bool). b && bytes_eq m.name name) other)
      ∙ none_of class ms h (All-tail (IsMethod program) m ms all)

  at_most_one : (class : ℕ) → count_by (is_of_name class name) program.methods ≤ 1
  at_most_one class = by_test (nat_lt class (length program.schema.classes)) refl
    where
      by_test : (b : Bool) → nat_lt class (length program.schema.classes) ≡ b → count_by (is_of_name class name) program.methods ≤ 1
      by_test true t = let once : members_named program class name ≤ 1 = (typed.members class (ltb-true class (length program.schema.classes) t)).once name in omega (arith, once)
      by_test false t =
          let beyond : length program.schema.classes ≤ class = grind (arith, nat_tests) in
          let none : count_by (is_of_name class name) program.methods ≡ 0 = none_of class program.methods beyond typed.methods in
          omega (arith, none)

  same_test : (class : ℕ) (m : Method) → (begins_virtual program class m && bytes_eq m.name name) ≡ (is_of_name class name m && (m.is_virtual && is_new program class name))
  same_test class m = by_name (m.class.0 == class) m.is_virtual (bytes_eq m.name name) refl
    where
      by_name : (a v b : Bool) → bytes_eq m.name name ≡ b → (((a && v) && is_new program class m.name) && b) ≡ ((a && b) && (v && is_new program class name))
      by_name false v b e = refl
      by_name true false true e = refl
      by_name true false false e = refl
      by_name true true false e = and_none (is_new program class m.name)
        where
          and_none : (b : Bool) → (b && false) ≡ false
          and_none true = refl
          and_none false = refl
      by_name true true true e = and-true (is_new program class m.name) ∙ ap (is_new program class) ((bytes_eq-Decides m.name name).0 e)

  own_count : (class : ℕ) → count_by (λ n. bytes_eq n name) (new_virtual_names program class)
      ≡ cond (option_map_or (λ m. m.is_virtual && is_new program class name) (option_and_then (slice_get program.methods) (declared_method program.methods name class)) false) 1 0
  own_count class =
      named_in (begins_virtual program class) program.methods name
      ∙ same_counts (λ m. begins_virtual program class m && bytes_eq m.name name) (λ m. is_of_name class name m && (m.is_virtual && is_new program class name)) (same_test class) program.methods
      ∙ only_one (is_of_name class name) (λ m. m.is_virtual && is_new program class name) program.methods (at_most_one class)

  -- ---- and what it has in all

  abbrev Counted : ℕ → Type 0
  Counted class = count_by (λ n. bytes_eq n name) (virtual_names program class) ≡ cond (option_map_or (λ m. m.is_virtual) (nearest program class name) false) 1 0

  if_new : (o : Option Method) (b : Bool) → b ≡ true → ◌≡◌ {A = ℕ} (cond (option_map_or (λ m. m.is_virtual && b) o false) 1 0) (cond (option_map_or (λ m. m.is_virtual) o false) 1 0)
  if_new None b e = refl
  if_new (Some m) b e = ap (λ (c : Bool). cond (m.is_virtual && c) 1 0) e ∙ ap (λ (c : Bool). cond c 1 0) (and-true m.is_virtual)

  at_first : (class : ℕ) → base_of program.schema.classes class ≡ None → Counted class
  at_first class none =
      ap (count_by (λ n. bytes_eq n name)) (alone program class (some_classes program typed) none)
      ∙ own_count class
      ∙ if_new (option_and_then (slice_get program.methods) (declared_method program.methods name class)) (is_new program class name)
      (ap (λ (o : Option ℕ). option_map_or (λ _. false) (option_and_then (λ base. find program base name) o) true) none)
      ∙ ap (λ (o : Option ℕ). cond (option_map_or (λ m. m.is_virtual) (option_and_then (slice_get program.methods) o) false) 1 0) (sym found_alone)
    where
      by_look : (look : ℕ → Option ℕ) (o : Option ℕ) → look class ≡ o → first_found look (class ∷ []) ≡ look class
      by_look look None e = rw e refl
      by_look look (Some n) e = rw e refl

      found_alone : find program class name ≡ declared_method program.methods name class
      found_alone =
          ap (first_found (declared_method program.methods name)) (lineage_alone program.schema.classes class (some_classes program typed) none)
          ∙ by_look (declared_method program.methods name) (declared_method program.methods name class) refl

  at_based : (class base : ℕ) → base_of program.schema.classes class ≡ Some base → Counted base → Counted class
  at_based class base b has = ap (count_by (λ n. bytes_eq n name)) (goes_on program typed class base b) ∙ count_joined (λ n. bytes_eq n name) (virtual_names program base) (new_virtual_names program class) ∙ by_goes (goes program typed class base name b)
    where
      by_goes : Goes program class base name →
          count_by (λ n. bytes_eq n name) (virtual_names program base) + count_by (λ n. bytes_eq n name) (new_virtual_names program class) ≡ cond (option_map_or (λ m. m.is_virtual) (nearest program class name) false) 1 0
      by_goes (Inherits none e) =
          let own : count_by (λ n. bytes_eq n name) (new_virtual_names program class) ≡ 0 =
          own_count class ∙ ap (λ (o : Option ℕ). cond (option_map_or (λ m. m.is_virtual && is_new program class name) (option_and_then (slice_get program.methods) o) false) 1 0) none in
          let up : count_by (λ n. bytes_eq n name) (virtual_names program base) ≡ cond (option_map_or (λ m. m.is_virtual) (nearest program class name) false) 1 0 =
          has ∙ ap (λ (o : Option ℕ). cond (option_map_or (λ m. m.is_virtual) (option_and_then (slice_get program.methods) o) false) 1 0) (sym e) in
          omega (arith, own, up)
      by_goes (Declares n m declared here e over) = by_base (find program base name) refl
        where
          new_is : (o : Option ℕ) → find program base name ≡ o → is_new program class name ≡ option_map_or (λ _. false) o true
          new_is o f = ap (λ (c : Option ℕ). option_map_or (λ _. false) (option_and_then (λ low. find program low name) c) true) b ∙ ap (λ (c : Option ℕ). option_map_or (λ _. false) c true) f

          own : (c : Bool) → is_new program class name ≡ c → count_by (λ x. bytes_eq x name) (new_virtual_names program class) ≡ cond (m.is_virtual && c) 1 0
          own c f =
              own_count class
              ∙ ap (λ (o : Option Method). cond (option_map_or (λ y. y.is_virtual && is_new program class name) o false) 1 0) (ap (option_and_then (slice_get program.methods)) declared ∙ here)
              ∙ ap (λ (k : Bool). cond (m.is_virtual && k) 1 0) f

          goal_is : ◌≡◌ {A = ℕ} (cond (option_map_or (λ y. y.is_virtual) (nearest program class name) false) 1 0) (cond m.is_virtual 1 0)
          goal_is = ap (λ (o : Option Method). cond (option_map_or (λ y. y.is_virtual) o false) 1 0) (ap (option_and_then (slice_get program.methods)) e ∙ here)

          above_is : (o : Option ℕ) → find program base name ≡ o → count_by (λ x. bytes_eq x name) (virtual_names program base) ≡ cond (option_map_or (λ y. y.is_virtual) (option_and_then (slice_get program.methods) o) false) 1 0
          above_is o f = has ∙ ap (λ (c : Option ℕ). cond (option_map_or (λ y. y.is_virtual) (option_and_then (slice_get program.methods) c) false) 1 0) f

          by_base : (o : Option ℕ) → find program base name ≡ o →
              count_by (λ x. bytes_eq x name) (virtual_names program base) + count_by (λ x. bytes_eq x name) (new_virtual_names program class) ≡ cond (option_map_or (λ y. y.is_virtual) (nearest program class name) false) 1 0
          by_base None f =
              let none = above_is None f in
              let begun : count_by (λ x. bytes_eq x name) (new_virtual_names program class) ≡ cond m.is_virtual 1 0 = own true (new_is None f) ∙ ap (λ (c : Bool). cond c 1 0) (and-true m.is_virtual) in
              let last = goal_is in
              omega (arith, none, begun, last)
          by_base (Some k) f = by_number (slice_get program.methods k) refl
            where
              by_number : (r : Option Method) → slice_get program.methods k ≡ r →
                  count_by (λ x. bytes_eq x name) (virtual_names program base) + count_by (λ x. bytes_eq x name) (new_virtual_names program class) ≡ cond (option_map_or (λ y. y.is_virtual) (nearest program class name) false) 1 0
              by_number None g = absurd (never_none program base k name f g)
              by_number (Some x) g =
                  let o : Overrides m x = over k x f g in
                  let none : count_by (λ y. bytes_eq y name) (new_virtual_names program class) ≡ 0 = own false (new_is (Some k) f) ∙ ap (λ (c : Bool). cond (c && false) 1 0) o.virtual in
                  let one : count_by (λ y. bytes_eq y name) (virtual_names program base) ≡ 1 =
                  above_is (Some k) f ∙ ap (λ (c : Option Method). cond (option_map_or (λ y. y.is_virtual) c false) 1 0) g ∙ ap (λ (c : Bool). cond c 1 0) o.virtual_above in
                  let last : cond (option_map_or (λ y. y.is_virtual) (nearest program class name) false) 1 0 ≡ 1 = goal_is ∙ ap (λ (c : Bool). cond c 1 0) o.virtual in
                  omega (arith, none, one, last)

  counted : (n class : ℕ) → class < n → Counted class
  counted zero class h = absurd (omega (arith, h))
  counted (suc n) class h = by_base (λ base falls. counted n base (omega (arith, h, falls))) (base_of program.schema.classes class) refl
    where
      by_base : ((base : ℕ) → base < class → Counted base) → (o : Option ℕ) → base_of program.schema.classes class ≡ o → Counted class
      by_base again None e = at_first class e
      by_base again (Some base) e = at_based class base e (again base (has_base program typed class base e).before)

  count_is : (class : ℕ) → Counted class
  count_is class = counted (suc class) class (omega arith)

-- ---- the laws

pub found_where : (program : Program) → Typed program → (class : ℕ) (name : List ℕ) → has_virtual_name program class name ≡ option_map_or (λ m. m.is_virtual) (nearest program class name) false
found_where program typed class name =
    any_counted (λ n. bytes_eq n name) (virtual_names program class)
    ∙ ap (nat_lt 0) (count_is program typed name class)
    ∙ by_bit (option_map_or (λ m. m.is_virtual) (nearest program class name) false)
  where
    by_bit : (b : Bool) → nat_lt 0 (cond b 1 0) ≡ b
    by_bit true = refl
    by_bit false = refl

pub stands_once : (program : Program) → Typed program → (class : ℕ) (name : List ℕ) → count_by (λ n. bytes_eq n name) (virtual_names program class) ≤ 1
stands_once program typed class name = by_bit (option_map_or (λ m. m.is_virtual) (nearest program class name) false) (count_is program typed name class)
  where
    by_bit : (b : Bool) → count_by (λ n. bytes_eq n name) (virtual_names program class) ≡ cond b 1 0 → count_by (λ n. bytes_eq n name) (virtual_names program class) ≤ 1
    by_bit true e = omega (arith, e)
    by_bit false e = omega (arith, e)

pub overridden_below : (program : Program) → Typed program → (above class : ℕ) (name : List ℕ) → is_below program.schema.classes above class ≡ true → has_virtual_name program above name ≡ true →
    IsSomeAnd (nearest program above name) (λ x. IsSomeAnd (nearest program class name) (λ m. Overrides m x))
overridden_below program typed above class name is has = by_nearest (nearest program above name) refl (sym (found_where program typed above name) ∙ has)
  where
    by_nearest : (o : Option Method) → nearest program above name ≡ o → option_map_or (λ m. m.is_virtual) (nearest program above name) false ≡ true →
        IsSomeAnd (nearest program above name) (λ x. IsSomeAnd (nearest program class name) (λ m. Overrides m x))
    by_nearest None e v = let gone : false ≡ true = ap (λ (o : Option Method). option_map_or (λ m. m.is_virtual) o false) (sym e) ∙ v in let never : ⊥ = cc in absurd never
    by_nearest (Some x) e v =
        subst (λ (o : Option Method). IsSomeAnd o (λ y. IsSomeAnd (nearest program class name) (λ m. Overrides m y))) (sym e)
        (virtual_below program typed above class name x is e (ap (λ (o : Option Method). option_map_or (λ m. m.is_virtual) o false) (sym e) ∙ v))
