-- A virtual method's place is the same in the tables of all classes below, and there stands the nearest of its name.
use Rattle.std.proofs.Common.{◌≡◌, ℕ, ◌==◌, ◌<◌, ◌≤◌, true, false, inl, inr, List, length, map, min, Option, Some, None, refl, ap, sym, ◌∙◌, arith}
use Rattle.std.specs.Prelude.{IsSomeAnd, IsTrue, is_some, position, slice_get}
use Rattle.std.specs.Option.{option_and_then, option_map_or}
use Rattle.std.specs.Str.{bytes_eq}
use Rattle.std.proofs.lemmas.Bool.{eqb-true}
use Rattle.std.proofs.lemmas.List.{length-map}
use Rattle.std.proofs.lemmas.Option.{slice_get_cases, slice_get_within}
use Rattle.std.proofs.lemmas.Slice.Eq.{bytes_eq-Decides}
use Rattle.sed_typed.specs.declared.program.Method.{Method}
use Rattle.sed_typed.specs.declared.program.Program.{Program}
use Rattle.sed_typed.specs.Classes.{find, method_name}
use Rattle.sed_typed.specs.Typed.{IsMethod, Typed}
use Rattle.sed_typed.specs.TypedSchema.{is_below}
use Rattle.sed_typed.specs.Virtual.{virtual_names}
use Rattle.sed_typed.proofs.Lineages.{going_down, has_info}
use Rattle.sed_layout.specs.MethodTables.{place_of, table_of}
use Rattle.sed_layout.proofs.FoundMethods.{is_found}
use Rattle.scode_image.specs.declared.image.ImageClass.{ImageClass}
use Rattle.scode_code.specs.Calls.{table_method}
use Rattle.scode_emit.specs.Rows.{place_at}
use Rattle.scode_gen.specs.Generated.{image_layout, image_of}
use Rattle.scode_made.specs.Laid.{IsTabled}
use Rattle.scode_made.proofs.Places.{all_at}
use Rattle.scode_made.proofs.Rows.{class_at, row_at}
use Rattle.scode_made.proofs.TablePlaces.{method_place}

-- ---- classes with methods

-- what stands below a class that is there is there
below_there : (program : Program) (above class : ℕ) → above < length program.schema.classes → is_below program.schema.classes above class ≡ true →
    class < length program.schema.classes
below_there program above class h below =
    let classes = program.schema.classes in
    going_down classes (λ c. c < length classes) above h
    (λ c base e up. has_info classes c base (slice_get classes c) refl e)
    class below

-- a class in which a method is found is there
with_method : (program : Program) → Typed program → (class number : ℕ) (name : List ℕ) → find program class name ≡ Some number → class < length program.schema.classes
with_method program typed class number name e =
    let is = is_found program class number name e in
    let known : IsMethod program is.method = all_at (IsMethod program) program.methods is.number is.method is.there typed.methods in
    below_there program is.method.class.0 class known.class is.above

-- ---- places

-- what a table has at the place of a name
stands_at : (program : Program) → IsTabled program → (class place number : ℕ) (name : List ℕ) → place_of program class name ≡ Some place →
    find program class name ≡ Some number → slice_get (table_of program class) place ≡ Some number
stands_at program tabled class place number name at e = by_method (slice_get (table_of program class) place) refl (tabled.at_place class place name at)
  where
    by_method : (o : Option ℕ) → slice_get (table_of program class) place ≡ o → IsSomeAnd o (λ n. find program class name ≡ Some n) →
        slice_get (table_of program class) place ≡ Some number
    by_method None is h = absurd h
    by_method (Some n) is h = is ∙ sym h ∙ e

-- a table has at most 255 places
few_places : (program : Program) → Typed program → IsTabled program → (class : ℕ) → class < length program.schema.classes → length (table_of program class) ≤ 255
few_places program typed tabled class h =
    let most : length (virtual_names program class) ≤ 255 = (typed.members class h).virtual_most in
    omega (arith, most, ap length (tabled.names class), length-map (table_of program class) (method_name program))

-- the place that the layout says of a method that stands in a table at the place of its name
place_said : (program : Program) → Typed program → IsTabled program → (class m place : ℕ) → class < length program.schema.classes →
    place_of program class (method_name program m) ≡ Some place → find program class (method_name program m) ≡ Some m →
    (image_layout program).table_place class m ≡ place
place_said program typed tabled class m place h at e =
    let table = table_of program class in
    let stands : slice_get table place ≡ Some m = stands_at program tabled class place m (method_name program m) at e in
    let named : position (λ (other : List ℕ). bytes_eq other (method_name program m)) (map (method_name program) table) ≡ Some place =
    ap (position (λ (other : List ℕ). bytes_eq other (method_name program m))) (tabled.names class) ∙ at in
    let found : position (λ (other : ℕ). other == m) table ≡ Some place =
    method_place (method_name program) m place table eqb-true (λ a. (let own : (a == a) ≡ true = grind arith in own)) (λ a. (bytes_eq-Decides a a).1 refl) named stands in
    let within : place < length table = slice_get_within table place m stands in
    let few = few_places program typed tabled class h in
    ap (λ (row : List ℕ). place_at row m) (row_at program (table_of program) class h)
    ∙ ap (λ (o : Option ℕ). option_map_or (λ p. min p 255) o 0) found
    ∙ (let small : min place 255 ≡ place = omega (arith, within, few) in small)

-- ---- the methods

-- where the nearest method of a name is virtual, the name has a place
pub placed : (program : Program) → IsTabled program → (class m : ℕ) (name : List ℕ) → option_map_or (λ x. x.is_virtual) (slice_get program.methods m) false ≡ true →
    find program class name ≡ Some m → (place : ℕ) × (place_of program class name ≡ Some place)
placed program tabled class m name virtual e = by_place (place_of program class name) refl some
  where
    some : is_some (place_of program class name) ≡ true
    some =
        tabled.has_place class name
        ∙ ap (λ (o : Option ℕ). option_map_or (λ (x : Method). x.is_virtual) (option_and_then (slice_get program.methods) o) false) e
        ∙ virtual

    by_place : (o : Option ℕ) → place_of program class name ≡ o → is_some (place_of program class name) ≡ true → (place : ℕ) × (place_of program class name ≡ Some place)
    by_place None is h =
        let gone : false ≡ true = sym (ap is_some is) ∙ h in
        let never : ⊥ = cc in absurd never
    by_place (Some place) is h = (place, is)

-- what the image has at a place of a table
pub in_table : (program : Program) (class place n : ℕ) → class < length program.schema.classes → slice_get (table_of program class) place ≡ Some n →
    table_method (image_of program) class place ≡ Some n
in_table program class place n h stands = elim (slice_get_cases program.schema.classes class).1 [
  | inl (info, within, there, same) ↦
      ap (λ (o : Option ImageClass). option_and_then (λ (c : ImageClass). slice_get c.table place) o) (class_at program class info there) ∙ stands
  | inr (past, none) ↦ absurd (omega (arith, past, h))
]

pub tables_keep : (program : Program) → Typed program → IsTabled program → (above class m n : ℕ) →
    IsTrue (option_map_or (λ x. x.is_virtual) (slice_get program.methods m) false) →
    IsTrue (is_below program.schema.classes above class) → find program above (method_name program m) ≡ Some m →
    find program class (method_name program m) ≡ Some n →
    table_method (image_of program) class ((image_layout program).table_place above m) ≡ Some n
tables_keep program typed tabled above class m n virtual below e found =
    let name = method_name program m in
    let at = placed program tabled above m name virtual e in
    let there = with_method program typed above m name e in
    let here : place_of program class name ≡ Some at.0 = (tabled.keeps_places above class below).places name at.0 at.1 in
    ap (table_method (image_of program) class) (place_said program typed tabled above m at.0 there at.1 e)
    ∙ in_table program class at.0 n (with_method program typed class n name found) (stands_at program tabled class at.0 n name here found)
