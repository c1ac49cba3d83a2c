-- The places of names, in the tables of a class and of those below it.
use Rattle.std.proofs.Common.{◌≡◌, ℕ, ◌+◌, Bool, true, false, cond, List, [], ◌∷◌, ◌++◌, Some, refl, sym, ap, ◌∙◌, codes}
use Rattle.std.specs.Prelude.{IsTrue, ◌||◌, is_some, position}
use Rattle.std.specs.List.{list_any, position_from}
use Rattle.std.specs.Option.{option_map_or}
use Rattle.std.specs.Str.{bytes_eq}
use Rattle.std.proofs.lemmas.Iterator.Adapters.{position_from-zero}
use Rattle.sed_typed.specs.declared.program.Program.{Program}
use Rattle.sed_typed.specs.Classes.{base_of, nearest}
use Rattle.sed_typed.specs.SysMembers.{component_names}
use Rattle.sed_typed.specs.SysTypes.{component_type}
use Rattle.sed_typed.specs.Typed.{Typed}
use Rattle.sed_typed.specs.TypedSchema.{Begins, is_below, is_below_sys}
use Rattle.sed_typed.specs.Virtual.{new_virtual_names, virtual_names}
use Rattle.sed_typed.proofs.SystemMethods.{begin, goes_on, keep_places}
use Rattle.sed_typed.proofs.Lineages.{none_is}
use Rattle.sed_typed.proofs.Nearest.{found_where}
use Rattle.sed_layout.specs.MethodTables.{HasSystemMethods, KeepsPlaces, place_of}

-- ---- the first that passes, in front of more

still_first : {X : Type 0} (p : X → Bool) (first n : ℕ) (xs ys : List X) → position_from p first xs ≡ Some n → position_from p first (xs ++ ys) ≡ Some n
still_first p first n [] ys e = none_is n e
still_first p first n (x ∷ xs) ys e = by_test (p x) e (still_first p (first + 1) n xs ys)
  where
    by_test : (b : Bool) → cond b (Some first) (position_from p (first + 1) xs) ≡ Some n →
        (position_from p (first + 1) xs ≡ Some n → position_from p (first + 1) (xs ++ ys) ≡ Some n) →
        cond b (Some first) (position_from p (first + 1) (xs ++ ys)) ≡ Some n
    by_test true e again = e
    by_test false e again = again e

in_front : {X : Type 0} (p : X → Bool) (n : ℕ) (all xs ys : List X) → all ≡ xs ++ ys → position p xs ≡ Some n → position p all ≡ Some n
in_front p n all xs ys is e =
    ap (position p) is
    ∙ position_from-zero p (xs ++ ys)
    ∙ still_first p 0 n xs ys (sym (position_from-zero p xs) ∙ e)

kept : (program : Program) (above class : ℕ) → Begins (virtual_names program above) (virtual_names program class) → KeepsPlaces program above class
kept program above class front = record {
  first = front;
  places = λ name place e.
      in_front (λ (other : List ℕ). bytes_eq other name) place (virtual_names program class) (virtual_names program above) front.0 front.1 e;
}

pub base_places : (program : Program) → Typed program → (class base : ℕ) → base_of program.schema.classes class ≡ Some base → KeepsPlaces program base class
base_places program typed class base e = kept program base class (new_virtual_names program class, goes_on program typed class base e)

pub above_places : (program : Program) → Typed program → (above class : ℕ) → IsTrue (is_below program.schema.classes above class) → KeepsPlaces program above class
above_places program typed above class h = kept program above class (keep_places program typed above class h)

-- ---- what an engine calls

pub system_methods : (program : Program) → Typed program → (class : ℕ) → IsTrue (is_below_sys program.schema.classes component_type class) → HasSystemMethods program class
system_methods program typed class h =
    let front = begin program typed class h in
    let placed : (name : List ℕ) (n : ℕ) → position (λ (other : List ℕ). bytes_eq other name) component_names ≡ Some n → place_of program class name ≡ Some n =
    λ name n e. in_front (λ (other : List ℕ). bytes_eq other name) n (virtual_names program class) component_names front.0 front.1 e in
    record {
      execute = placed (codes "execute") 0 refl;
      start = placed (codes "start") 1 refl;
      stop = placed (codes "stop") 2 refl;
      changed = placed (codes "changed") 3 refl;
    }

-- ---- which names have a place

any_placed : {X : Type 0} (p : X → Bool) (first : ℕ) (xs : List X) → is_some (position_from p first xs) ≡ list_any p xs
any_placed p first [] = refl
any_placed p first (x ∷ xs) = by_test (p x) (any_placed p (first + 1) xs)
  where
    by_test : (b : Bool) → is_some (position_from p (first + 1) xs) ≡ list_any p xs →
        is_some (cond b (Some first) (position_from p (first + 1) xs)) ≡ (b || list_any p xs)
    by_test true again = refl
    by_test false again = again

pub has_place : (program : Program) → Typed program → (class : ℕ) (name : List ℕ) →
    is_some (place_of program class name) ≡ option_map_or (λ m. m.is_virtual) (nearest program class name) false
has_place program typed class name =
    ap is_some (position_from-zero (λ (other : List ℕ). bytes_eq other name) (virtual_names program class))
    ∙ any_placed (λ (other : List ℕ). bytes_eq other name) 0 (virtual_names program class)
    ∙ found_where program typed class name
