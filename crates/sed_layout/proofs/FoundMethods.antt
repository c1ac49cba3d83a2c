-- Each virtual method of a class is found by its name, so its table leaves none out.
use Rattle.std.proofs.Common.{◌≡◌, ℕ, ◌==◌, Bool, true, false, List, [], ◌∷◌, map, Option, Some, None, refl, sym, ap, subst, ◌∙◌, arith}
use Rattle.std.specs.Prelude.{All, IsSomeAnd, ◌||◌, filter_map, slice_get}
use Rattle.std.specs.List.{cons_option, list_any}
use Rattle.std.specs.Option.{option_and_then, option_map, option_map_or}
use Rattle.std.specs.Str.{bytes_eq}
use Rattle.std.proofs.lemmas.Bool.{and_parts, eqb-true}
use Rattle.std.proofs.lemmas.List.Elements.{All-cons, All-head, All-nil, All-same, All-tail, All-weaker}
use Rattle.std.proofs.lemmas.Option.{get_or_from_slice_get, slice_get-map, slice_get_within}
use Rattle.std.proofs.lemmas.Slice.Eq.{bytes_eq-Decides}
use Rattle.sed_typed.specs.declared.program.Method.{Method}
use Rattle.sed_typed.specs.declared.program.Program.{Program}
use Rattle.sed_typed.specs.Classes.{lineage, first_found, declared_method, find, method_name, nearest}
use Rattle.sed_typed.specs.Typed.{Typed, IsMethod}
use Rattle.sed_typed.specs.TypedSchema.{is_below}
use Rattle.sed_typed.specs.Virtual.{has_virtual_name, virtual_names}
use Rattle.sed_typed.proofs.Lineages.{none_is}
use Rattle.sed_typed.proofs.Nearest.{IsPassed, declared_at, found_here, found_later, found_where, position_passes}
use Rattle.sed_layout.specs.MethodTables.{MayStand, place_of, table_of}

-- ---- what is found has the name

-- at one of these it is
record IsAtOne (look : ℕ → Option ℕ) (line : List ℕ) (n : ℕ) : Type 0 where
  class : ℕ
  there : list_any (λ c. c == class) line ≡ true
  looked : look class ≡ Some n

either : (a b : Bool) → b ≡ true → (a || b) ≡ true
either true b h = refl
either false b h = h

at_one : (look : ℕ → Option ℕ) (line : List ℕ) (n : ℕ) → first_found look line ≡ Some n → IsAtOne look line n
at_one look [] n e = none_is n e
at_one look (class ∷ rest) n e = by_look (λ h. at_one look rest n h) (look class) refl
  where
    by_look : (first_found look rest ≡ Some n → IsAtOne look rest n) → (o : Option ℕ) → look class ≡ o → IsAtOne look (class ∷ rest) n
    by_look again None t =
        let up = again (sym (found_later look class rest t) ∙ e) in
        record { class = up.class; there = either (class == up.class) (list_any (λ c. c == up.class) rest) up.there; looked = up.looked }
    by_look again (Some k) t =
        let itself : (class == class) ≡ true = grind arith in
        record { class = class; there = ap (λ (b : Bool). b || list_any (λ c. c == class) rest) itself; looked = t ∙ sym (found_here look class rest k t) ∙ e }

-- the method of a name that is nearest at or above a class
pub record IsFound (program : Program) (class : ℕ) (name : List ℕ) : Type 0 where
  pub number : ℕ
  pub method : Method
  pub found : find program class name ≡ Some number
  pub there : slice_get program.methods number ≡ Some method
  pub named : method.name ≡ name
  pub above : is_below program.schema.classes method.class.0 class ≡ true

pub is_found : (program : Program) (class number : ℕ) (name : List ℕ) → find program class name ≡ Some number → IsFound program class name
is_found program class number name e =
    let at = at_one (declared_method program.methods name) (lineage program.schema.classes class) number e in
    let d = declared_at program at.class number name at.looked in
    let parts = and_parts (d.value.class.0 == at.class) (bytes_eq d.value.name name) d.passes in
    record {
      number = number;
      method = d.value;
      found = e;
      there = d.is;
      named = (bytes_eq-Decides d.value.name name).0 parts.1;
      above = subst (λ (c : ℕ). is_below program.schema.classes c class ≡ true) (sym (eqb-true d.value.class.0 at.class parts.0)) at.there;
    }

-- ---- each virtual method is found

virtual_found : (program : Program) → Typed program → (class : ℕ) (name : List ℕ) → has_virtual_name program class name ≡ true → IsFound program class name
virtual_found program typed class name has = by_find (find program class name) refl
  where
    is : option_map_or (λ m. m.is_virtual) (nearest program class name) false ≡ true
    is = sym (found_where program typed class name) ∙ has

    by_find : (o : Option ℕ) → find program class name ≡ o → IsFound program class name
    by_find None e =
        let none : option_map_or (λ m. m.is_virtual) (nearest program class name) false ≡ false =
        ap (λ (o : Option ℕ). option_map_or (λ m. m.is_virtual) (option_and_then (slice_get program.methods) o) false) e in
        let gone : false ≡ true = sym none ∙ is in
        let never : ⊥ = cc in absurd never
    by_find (Some n) e = is_found program class n name e

-- each name is among those of its list
among : (names : List (List ℕ)) → All (λ name. list_any (λ n. bytes_eq n name) names ≡ true) names
among [] = All-nil (λ name. list_any (λ (n : List ℕ). bytes_eq n name) [] ≡ true)
among (x ∷ xs) =
    All-cons (λ name. list_any (λ n. bytes_eq n name) (x ∷ xs) ≡ true) x xs
    (ap (λ (b : Bool). b || list_any (λ n. bytes_eq n x) xs) ((bytes_eq-Decides x x).1 refl))
    (All-weaker (λ name. list_any (λ n. bytes_eq n name) xs ≡ true) (λ name. list_any (λ n. bytes_eq n name) (x ∷ xs) ≡ true)
    (λ name h. either (bytes_eq x name) (list_any (λ n. bytes_eq n name) xs) h) xs (among xs))

pub all_found : (program : Program) → Typed program → (class : ℕ) → All (IsFound program class) (virtual_names program class)
all_found program typed class =
    All-weaker (λ name. has_virtual_name program class name ≡ true) (IsFound program class) (virtual_found program typed class)
    (virtual_names program class) (among (virtual_names program class))

-- ---- the table

cons_found : (o : Option ℕ) (n : ℕ) (f : List ℕ → Option ℕ) (names : List (List ℕ)) → o ≡ Some n →
    cons_option o (filter_map f names) ≡ n ∷ filter_map f names
cons_found o n f names e = ap (λ (r : Option ℕ). cons_option r (filter_map f names)) e

pub none_left : (program : Program) (class : ℕ) (names : List (List ℕ)) → All (IsFound program class) names →
    map Some (filter_map (find program class) names) ≡ map (find program class) names
none_left program class [] h = refl
none_left program class (name ∷ names) h =
    let is = All-head (IsFound program class) name names h in
    let rest = none_left program class names (All-tail (IsFound program class) name names h) in
    ap (map Some) (cons_found (find program class name) is.number (find program class) names is.found)
    ∙ ap (λ (all : List (Option ℕ)). Some is.number ∷ all) rest
    ∙ ap (λ (o : Option ℕ). o ∷ map (find program class) names) (sym is.found)

pub whole_table : (program : Program) → Typed program → (class : ℕ) → map Some (table_of program class) ≡ map (find program class) (virtual_names program class)
whole_table program typed class = none_left program class (virtual_names program class) (all_found program typed class)

pub names_stand : (program : Program) (class : ℕ) (names : List (List ℕ)) → All (IsFound program class) names →
    map (method_name program) (filter_map (find program class) names) ≡ names
names_stand program class [] h = refl
names_stand program class (name ∷ names) h =
    let is = All-head (IsFound program class) name names h in
    let rest = names_stand program class names (All-tail (IsFound program class) name names h) in
    let named : method_name program is.number ≡ name = ap (λ (o : Option Method). option_map_or (λ m. m.name) o []) is.there ∙ is.named in
    ap (map (method_name program)) (cons_found (find program class name) is.number (find program class) names is.found)
    ∙ ap (λ (all : List (List ℕ)). method_name program is.number ∷ all) rest
    ∙ ap (λ (n : List ℕ). n ∷ names) named

-- a method stands at the place of its name
pub at_its_place : (program : Program) → Typed program → (class place : ℕ) (name : List ℕ) → place_of program class name ≡ Some place →
    IsSomeAnd (slice_get (table_of program class) place) (λ number. find program class name ≡ Some number)
at_its_place program typed class place name e = by_place (slice_get (table_of program class) place) looked
  where
    passed : IsPassed (λ (other : List ℕ). bytes_eq other name) (virtual_names program class) place
    passed = position_passes (λ (other : List ℕ). bytes_eq other name) (virtual_names program class) place e

    same : passed.value ≡ name
    same = (bytes_eq-Decides passed.value name).0 passed.passes

    looked : option_map Some (slice_get (table_of program class) place) ≡ Some (find program class name)
    looked =
        sym (slice_get-map Some (table_of program class) place)
        ∙ ap (λ (all : List (Option ℕ)). slice_get all place) (whole_table program typed class)
        ∙ slice_get-map (find program class) (virtual_names program class) place
        ∙ ap (option_map (find program class)) passed.is
        ∙ ap (λ (n : List ℕ). Some (find program class n)) same

    by_place : (o : Option ℕ) → option_map Some o ≡ Some (find program class name) → IsSomeAnd o (λ number. find program class name ≡ Some number)
    by_place None h = none_is (find program class name) h
    by_place (Some number) h = let is : Some number ≡ find program class name = cc in sym is

-- ---- what stands in it

-- a method that is found, and the nearest of its name is virtual
stands : (program : Program) → Typed program → (class : ℕ) (name : List ℕ) (is : IsFound program class name) → has_virtual_name program class name ≡ true → MayStand program class is.method
stands program typed class name is has =
    let near : nearest program class name ≡ Some is.method = ap (option_and_then (slice_get program.methods)) is.found ∙ is.there in
    let virtual : is.method.is_virtual ≡ true = sym (ap (λ (o : Option Method). option_map_or (λ m. m.is_virtual) o false) near) ∙ sym (found_where program typed class name) ∙ has in
    let inside = slice_get_within program.methods is.number is.method is.there in
    let known : IsMethod program is.method = subst (IsMethod program) (get_or_from_slice_get program.methods is.number is.method is.method is.there) (typed.methods is.number is.method inside) in
    record { virtual = virtual; instance = (known.virtual virtual).0; above = is.above }

record Stands (program : Program) (class : ℕ) (name : List ℕ) : Type 0 where
  is : IsFound program class name
  may : MayStand program class is.method

all_stand : (program : Program) (class : ℕ) (names : List (List ℕ)) → All (Stands program class) names →
    All (λ number. IsSomeAnd (slice_get program.methods number) (MayStand program class)) (filter_map (find program class) names)
all_stand program class [] h = All-nil (λ number. IsSomeAnd (slice_get program.methods number) (MayStand program class))
all_stand program class (name ∷ names) h =
    let s = All-head (Stands program class) name names h in
    let rest = all_stand program class names (All-tail (Stands program class) name names h) in
    let here : IsSomeAnd (slice_get program.methods s.is.number) (MayStand program class) = subst (λ (o : Option Method). IsSomeAnd o (MayStand program class)) (sym s.is.there) s.may in
    All-same (λ number. IsSomeAnd (slice_get program.methods number) (MayStand program class)) (filter_map (find program class) (name ∷ names)) (s.is.number ∷ filter_map (find program class) names)
    (cons_found (find program class name) s.is.number (find program class) names s.is.found)
    (All-cons (λ number. IsSomeAnd (slice_get program.methods number) (MayStand program class)) s.is.number (filter_map (find program class) names) here rest)

pub virtual_stand : (program : Program) → Typed program → (class : ℕ) →
    All (λ number. IsSomeAnd (slice_get program.methods number) (MayStand program class)) (table_of program class)
virtual_stand program typed class =
    all_stand program class (virtual_names program class)
    (All-weaker (λ name. has_virtual_name program class name ≡ true) (Stands program class)
    (λ name has. let is = virtual_found program typed class name has in record { is = is; may = stands program typed class name is has })
    (virtual_names program class) (among (virtual_names program class)))
