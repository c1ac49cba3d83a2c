-- The table of a class out of that of its base.
use Rattle.std.proofs.Common.{◌≡◌, ℕ, zero, suc, ◌+◌, ◌<◌, ◌≤◌, ◌==◌, ◌&&◌, Bool, true, false, not, cond, List, [], ◌∷◌, ◌++◌, length, map, get_or, Option, Some, None, refl, sym, ap, ◌∙◌, arith}
use Rattle.std.specs.Prelude.{All, ◌||◌, filter, filter_map, slice_get, unwrap_or}
use Rattle.std.specs.List.{count_by, list_any, position_from, cons_option, sum_by}
use Rattle.std.specs.Option.{option_and_then, option_map_or}
use Rattle.std.specs.Str.{bytes_eq}
use Rattle.std.proofs.lemmas.Bool.{and_parts}
use Rattle.std.proofs.lemmas.Iterator.Adapters.{position_from-zero}
use Rattle.std.proofs.lemmas.List.Elements.{All-head, All-tail, filter_map-append}
use Rattle.std.proofs.lemmas.List.Sums.{get_or-le-sum_by, sum_by-cons}
use Rattle.std.proofs.lemmas.Option.{get_or_from_slice_get, same_Some, slice_get_within}
use Rattle.std.proofs.lemmas.Slice.Eq.{bytes_eq-Decides}
use Rattle.sed_typed.specs.declared.program.Method.{Method}
use Rattle.sed_typed.specs.declared.program.Program.{Program}
use Rattle.sed_typed.specs.Classes.{base_of, lineage, first_found, declared_method, find, method_name, nearest}
use Rattle.sed_typed.specs.Typed.{Typed}
use Rattle.sed_typed.specs.TypedSchema.{fields_named}
use Rattle.sed_typed.specs.Virtual.{begins_virtual, new_virtual_names, virtual_names}
use Rattle.sed_typed.proofs.SystemMethods.{alone, goes_on}
use Rattle.sed_typed.proofs.Lineages.{lineage_alone, lineage_of_base, none_is}
use Rattle.sed_typed.proofs.Nearest.{Goes, Inherits, Declares, goes, found_here, found_later, found_where}
use Rattle.sed_layout.specs.MethodTables.{table_of}
use Rattle.sed_layout.specs.TableSteps.{in_place_of, is_new, named_among, numbers_from, own_methods}
use Rattle.sed_layout.proofs.FoundMethods.{IsFound, all_found, is_found, names_stand}

-- ---- methods by their numbers

-- these methods are those from a number on
abbrev AreFrom : Program → ℕ → List Method → Type 0
AreFrom program first ms = (j : ℕ) → slice_get program.methods (first + j) ≡ slice_get ms j

later : (program : Program) (first : ℕ) (m : Method) (ms : List Method) → AreFrom program first (m ∷ ms) → AreFrom program (first + 1) ms
later program first m ms h j = ap (slice_get program.methods) (let e : (first + 1) + j ≡ first + suc j = omega arith in e) ∙ h (suc j)

here : (program : Program) (first : ℕ) (m : Method) (ms : List Method) → AreFrom program first (m ∷ ms) → slice_get program.methods first ≡ Some m
here program first m ms h = ap (slice_get program.methods) (let e : first ≡ first + 0 = omega arith in e) ∙ h 0

whole : (program : Program) → AreFrom program 0 program.methods
whole program j = ap (slice_get program.methods) (let e : 0 + j ≡ j = omega arith in e)

-- ---- an own method of a name

named_from : (program : Program) (class first : ℕ) (name : List ℕ) (ms : List Method) → AreFrom program first ms →
    named_among program (numbers_from (λ m. m.class.0 == class) first ms) name ≡ position_from (λ m. (m.class.0 == class) && bytes_eq m.name name) first ms
named_from program class first name [] h = refl
named_from program class first name (m ∷ ms) h = by_class (m.class.0 == class) (named_from program class (first + 1) name ms (later program first m ms h))
  where
    rest : List ℕ
    rest = numbers_from (λ x. x.class.0 == class) (first + 1) ms

    after : Option ℕ
    after = position_from (λ x. (x.class.0 == class) && bytes_eq x.name name) (first + 1) ms

    is : bytes_eq (method_name program first) name ≡ bytes_eq m.name name
    is = ap (λ (o : Option Method). bytes_eq (option_map_or (λ x. x.name) o []) name) (here program first m ms h)

    by_class : (b : Bool) → named_among program rest name ≡ after →
        named_among program (cond b (first ∷ rest) rest) name ≡ cond (b && bytes_eq m.name name) (Some first) after
    by_class true again = ap (λ (b : Bool). cond b (Some first) (named_among program rest name)) is ∙ ap (cond (bytes_eq m.name name) (Some first)) again
    by_class false again = again

pub own_named : (program : Program) (class : ℕ) (name : List ℕ) → named_among program (own_methods program.methods class) name ≡ declared_method program.methods name class
own_named program class name =
    named_from program class 0 name program.methods (whole program)
    ∙ sym (position_from-zero (λ (m : Method). (m.class.0 == class) && bytes_eq m.name name) program.methods)

-- ---- in the places of the base

-- what is found at a class, where its base finds this
found_below : (program : Program) → Typed program → (class base n : ℕ) (name : List ℕ) → base_of program.schema.classes class ≡ Some base → find program base name ≡ Some n →
    find program class name ≡ Some (unwrap_or (declared_method program.methods name class) n)
found_below program typed class base n name b found = by_look (declared_method program.methods name class) refl
  where
    look : ℕ → Option ℕ
    look = declared_method program.methods name

    line : find program class name ≡ first_found look (class ∷ lineage program.schema.classes base)
    line = ap (first_found look) (lineage_of_base program typed class base b)

    by_look : (o : Option ℕ) → look class ≡ o → find program class name ≡ Some (unwrap_or o n)
    by_look None e = line ∙ found_later look class (lineage program.schema.classes base) e ∙ found
    by_look (Some k) e = line ∙ found_here look class (lineage program.schema.classes base) k e

in_places : (program : Program) → Typed program → (class base : ℕ) → base_of program.schema.classes class ≡ Some base → (names : List (List ℕ)) → All (IsFound program base) names →
    filter_map (find program class) names ≡ map (in_place_of program (own_methods program.methods class)) (filter_map (find program base) names)
in_places program typed class base b [] h = refl
in_places program typed class base b (name ∷ names) h =
    let is = All-head (IsFound program base) name names h in
    let rest = in_places program typed class base b names (All-tail (IsFound program base) name names h) in
    let own = own_methods program.methods class in
    let named : method_name program is.number ≡ name = ap (λ (o : Option Method). option_map_or (λ m. m.name) o []) is.there ∙ is.named in
    let placed : in_place_of program own is.number ≡ unwrap_or (declared_method program.methods name class) is.number =
    ap (λ (n : List ℕ). unwrap_or (named_among program own n) is.number) named ∙ ap (λ (o : Option ℕ). unwrap_or o is.number) (own_named program class name) in
    let found : find program class name ≡ Some (in_place_of program own is.number) = found_below program typed class base is.number name b is.found ∙ sym (ap Some placed) in
    ap (λ (o : Option ℕ). cons_option o (filter_map (find program class) names)) found
    ∙ ap (λ (all : List ℕ). in_place_of program own is.number ∷ all) rest
    ∙ sym (ap (λ (o : Option ℕ). map (in_place_of program own) (cons_option o (filter_map (find program base) names))) is.found)

-- ---- a method that a class itself declares is found by its name

-- one that passes counts
counts : {X : Type 0} (p : X → Bool) (xs : List X) (k : ℕ) (x : X) → slice_get xs k ≡ Some x → p x ≡ true → 1 ≤ count_by p xs
counts {X} p xs k x e h =
    let one : X → ℕ = λ y. cond (p y) 1 0 in
    let some : one (get_or xs k x) ≤ sum_by one xs = get_or-le-sum_by one xs k x (slice_get_within xs k x e) in
    let this : one (get_or xs k x) ≡ 1 = ap one (get_or_from_slice_get xs k x x e) ∙ ap (λ (b : Bool). cond b 1 0) h in
    omega (arith, some, this)

-- the only one that passes is the first
only : {X : Type 0} (p : X → Bool) (first : ℕ) (xs : List X) (k : ℕ) (x : X) → slice_get xs k ≡ Some x → p x ≡ true → count_by p xs ≤ 1 → position_from p first xs ≡ Some (first + k)
only p first [] k x e h few = none_is x e
only p first (y ∷ ys) zero x e h few =
    let same : y ≡ x = same_Some y x e in
    ap (λ (b : Bool). cond b (Some first) (position_from p (first + 1) ys)) (ap p same ∙ h) ∙ ap Some (let n : first ≡ first + 0 = omega arith in n)
only p first (y ∷ ys) (suc k) x e h few = by_test (p y) refl (only p (first + 1) ys k x e h (omega (arith, parts, few)))
  where
    parts : count_by p (y ∷ ys) ≡ cond (p y) 1 0 + count_by p ys
    parts = sum_by-cons (λ z. cond (p z) 1 0) y ys

    by_test : (b : Bool) → p y ≡ b → position_from p (first + 1) ys ≡ Some ((first + 1) + k) → position_from p first (y ∷ ys) ≡ Some (first + suc k)
    by_test true t again =
        let this : ◌≡◌ {A = ℕ} (cond (p y) 1 0) 1 = ap (λ (b : Bool). cond b 1 0) t in
        absurd (omega (arith, this, parts, few, counts p ys k x e h))
    by_test false t again =
        ap (λ (b : Bool). cond b (Some first) (position_from p (first + 1) ys)) t ∙ again ∙ ap Some (let n : (first + 1) + k ≡ first + suc k = omega arith in n)

module _ (program : Program) (typed : Typed program) (class : ℕ) (within : class < length program.schema.classes) where
  declared : (k : ℕ) (m : Method) → slice_get program.methods k ≡ Some m → (m.class.0 == class) ≡ true → declared_method program.methods m.name class ≡ Some k
  declared k m is own =
      let test : Method → Bool = λ x. (x.class.0 == class) && bytes_eq x.name m.name in
      let once : fields_named program class m.name + count_by test program.methods ≤ 1 = (typed.members class within).once m.name in
      let passes : test m ≡ true = ap (λ (b : Bool). b && bytes_eq m.name m.name) own ∙ (bytes_eq-Decides m.name m.name).1 refl in
      position_from-zero test program.methods
      ∙ only test 0 program.methods k m is passes (omega (arith, once))
      ∙ ap Some (let n : 0 + k ≡ k = omega arith in n)

  found_own : (k : ℕ) (m : Method) → slice_get program.methods k ≡ Some m → (m.class.0 == class) ≡ true → find program class m.name ≡ Some k
  found_own k m is own = by_base (base_of program.schema.classes class) refl
    where
      look : ℕ → Option ℕ
      look = declared_method program.methods m.name

      by_base : (o : Option ℕ) → base_of program.schema.classes class ≡ o → find program class m.name ≡ Some k
      by_base None e = ap (first_found look) (lineage_alone program.schema.classes class (omega (arith, within)) e) ∙ found_here look class [] k (declared k m is own)
      by_base (Some base) e =
          ap (first_found look) (lineage_of_base program typed class base e) ∙ found_here look class (lineage program.schema.classes base) k (declared k m is own)

  -- ---- what begins at the class

  begin_from : (first : ℕ) (ms : List Method) → AreFrom program first ms →
      filter_map (find program class) (map (λ m. m.name) (filter (begins_virtual program class) ms)) ≡ numbers_from (begins_virtual program class) first ms
  begin_from first [] h = refl
  begin_from first (m ∷ ms) h = by_test (begins_virtual program class m) refl (begin_from (first + 1) ms (later program first m ms h))
    where
      names : List Method → List (List ℕ)
      names = map (λ x. x.name)

      kept : List Method
      kept = filter (begins_virtual program class) ms

      rest : List ℕ
      rest = numbers_from (begins_virtual program class) (first + 1) ms

      by_test : (b : Bool) → begins_virtual program class m ≡ b → filter_map (find program class) (names kept) ≡ rest →
          filter_map (find program class) (names (cond b (m ∷ kept) kept)) ≡ cond b (first ∷ rest) rest
      by_test true t again =
          let own : (m.class.0 == class) ≡ true = (and_parts (m.class.0 == class) m.is_virtual (and_parts ((m.class.0 == class) && m.is_virtual) _ t).0).0 in
          ap (λ (o : Option ℕ). cons_option o (filter_map (find program class) (names kept))) (found_own first m (here program first m ms h) own)
          ∙ ap (λ (all : List ℕ). first ∷ all) again
      by_test false t again = again

  -- ---- and is new there

  abbrev pub inherited : Option ℕ → List ℕ
  inherited base = option_map_or (table_of program) base []

  any_mapped : (f : ℕ → List ℕ) (p : List ℕ → Bool) (xs : List ℕ) → list_any p (map f xs) ≡ list_any (λ x. p (f x)) xs
  any_mapped f p [] = refl
  any_mapped f p (x ∷ xs) = ap (λ (b : Bool). p (f x) || b) (any_mapped f p xs)

  -- a name is in the table of the base where it is found there
  in_table : (base : ℕ) (name : List ℕ) → list_any (λ n. bytes_eq (method_name program n) name) (table_of program base) ≡ option_map_or (λ m. m.is_virtual) (nearest program base name) false
  in_table base name =
      sym (any_mapped (method_name program) (λ n. bytes_eq n name) (table_of program base))
      ∙ ap (list_any (λ n. bytes_eq n name)) (names_stand program base (virtual_names program base) (all_found program typed base))
      ∙ found_where program typed base name

  abbrev Above : Option ℕ → List ℕ → Bool
  Above base name = option_map_or (λ _. false) (option_and_then (λ b. find program b name) base) true

  -- none of the inherited table has the name of a method where none is found above
  none_above : (k : ℕ) (m : Method) → slice_get program.methods k ≡ Some m → (m.class.0 == class) ≡ true → m.is_virtual ≡ true → (o : Option ℕ) → base_of program.schema.classes class ≡ o →
      not (list_any (λ n. bytes_eq (method_name program n) m.name) (inherited o)) ≡ Above o m.name
  none_above k m is own virtual None e = refl
  none_above k m is own virtual (Some base) e = ap not (in_table base m.name) ∙ by_find (find program base m.name) refl
    where
      overrides : (n : ℕ) (x : Method) → find program base m.name ≡ Some n → slice_get program.methods n ≡ Some x → Goes program class base m.name → x.is_virtual ≡ true
      overrides n x found there (Inherits none up) = none_is k (sym none ∙ declared k m is own)
      overrides n x found there (Declares j y at is_y f over) = (over n x found there).virtual_above

      by_find : (o : Option ℕ) → find program base m.name ≡ o →
          not (option_map_or (λ x. x.is_virtual) (option_and_then (slice_get program.methods) o) false) ≡ option_map_or (λ _. false) o true
      by_find None f = refl
      by_find (Some n) f =
          let found = is_found program base n m.name f in
          let number : n ≡ found.number = same_Some n found.number (sym f ∙ found.found) in
          let there : slice_get program.methods n ≡ Some found.method = ap (slice_get program.methods) number ∙ found.there in
          ap (λ (o : Option Method). not (option_map_or (λ x. x.is_virtual) o false)) there
          ∙ ap not (overrides n found.method f there (goes program typed class base m.name e))

  new_is : (k : ℕ) (m : Method) → slice_get program.methods k ≡ Some m → (m.class.0 == class) ≡ true →
      is_new program (inherited (base_of program.schema.classes class)) k ≡ begins_virtual program class m
  new_is k m is own =
      let table : List ℕ = inherited (base_of program.schema.classes class) in
      let known : is_new program table k ≡ (m.is_virtual && not (list_any (λ n. bytes_eq (method_name program n) m.name) table)) =
      ap (λ (o : Option Method). option_map_or (λ x. x.is_virtual) o false && not (list_any (λ n. bytes_eq (method_name program n) (option_map_or (λ x. x.name) o [])) table)) is in
      known
      ∙ by_virtual m.is_virtual refl
      ∙ sym (ap (λ (b : Bool). (b && m.is_virtual) && Above (base_of program.schema.classes class) m.name) own)
    where
      by_virtual : (b : Bool) → m.is_virtual ≡ b →
          (b && not (list_any (λ n. bytes_eq (method_name program n) m.name) (inherited (base_of program.schema.classes class)))) ≡ ((true && b) && Above (base_of program.schema.classes class) m.name)
      by_virtual true v = none_above k m is own v (base_of program.schema.classes class) refl
      by_virtual false v = refl

  new_from : (first : ℕ) (ms : List Method) → AreFrom program first ms →
      filter (is_new program (inherited (base_of program.schema.classes class))) (numbers_from (λ m. m.class.0 == class) first ms) ≡ numbers_from (begins_virtual program class) first ms
  new_from first [] h = refl
  new_from first (m ∷ ms) h = by_class (m.class.0 == class) refl (new_from (first + 1) ms (later program first m ms h))
    where
      test : ℕ → Bool
      test = is_new program (inherited (base_of program.schema.classes class))

      own : List ℕ
      own = numbers_from (λ x. x.class.0 == class) (first + 1) ms

      rest : List ℕ
      rest = numbers_from (begins_virtual program class) (first + 1) ms

      by_class : (b : Bool) → (m.class.0 == class) ≡ b → filter test own ≡ rest →
          filter test (cond b (first ∷ own) own) ≡ cond ((b && m.is_virtual) && Above (base_of program.schema.classes class) m.name) (first ∷ rest) rest
      by_class true c again =
          let same : test first ≡ ((true && m.is_virtual) && Above (base_of program.schema.classes class) m.name) =
          new_is first m (here program first m ms h) c ∙ ap (λ (b : Bool). (b && m.is_virtual) && Above (base_of program.schema.classes class) m.name) c in
          ap (λ (b : Bool). cond b (first ∷ filter test own) (filter test own)) same
          ∙ ap (λ (all : List ℕ). cond ((true && m.is_virtual) && Above (base_of program.schema.classes class) m.name) (first ∷ all) all) again
      by_class false c again = again

  begun_is : filter_map (find program class) (new_virtual_names program class) ≡ filter (is_new program (inherited (base_of program.schema.classes class))) (own_methods program.methods class)
  begun_is = begin_from 0 program.methods (whole program) ∙ sym (new_from 0 program.methods (whole program))

  -- ---- together

  abbrev Made : Option ℕ → Type 0
  Made base =
      filter_map (find program class) (virtual_names program class)
      ≡ map (in_place_of program (own_methods program.methods class)) (inherited base)
      ++ filter (is_new program (inherited (base_of program.schema.classes class))) (own_methods program.methods class)

  -- a table is that of the base with overrides in place, and the new methods behind
  pub table_made : Made (base_of program.schema.classes class)
  table_made = by_base (base_of program.schema.classes class) refl
    where
      by_base : (o : Option ℕ) → base_of program.schema.classes class ≡ o → Made o
      by_base None e = ap (filter_map (find program class)) (alone program class (omega (arith, within)) e) ∙ begun_is
      by_base (Some base) e =
          ap (filter_map (find program class)) (goes_on program typed class base e)
          ∙ filter_map-append (find program class) (virtual_names program base) (new_virtual_names program class)
          ∙ ap (λ (front : List ℕ). front ++ filter_map (find program class) (new_virtual_names program class))
          (in_places program typed class base e (virtual_names program base) (all_found program typed base))
          ∙ ap (λ (back : List ℕ). map (in_place_of program (own_methods program.methods class)) (table_of program base) ++ back) begun_is
