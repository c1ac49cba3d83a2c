-- The fields of a class, by its number, are those that the class at its place declares or inherits.
use Rattle.std.proofs.Common.{◌≡◌, ◌<◌, ◌≤◌, ◌+◌, ◌==◌, ℕ, zero, suc, Bool, true, false, if◌then◌else◌, List, [], ◌∷◌, ◌++◌, length, filter, reverse, slice_get, Option, Some, None, refl, sym, ap, ◌∙◌, subst, arith}
use Rattle.std.specs.List.{cons_option, enumerate_from, filter_map, flat_map, range_with_len, AllByRecursion}
use Rattle.std.specs.Option.{option_map}
use Rattle.std.proofs.lemmas.List.Elements.{filter-append}
use Rattle.std.proofs.lemmas.List.{append-nil}
use Rattle.std.proofs.lemmas.Bool.Decides.{nat_tests}
use Rattle.sed_units.specs.declared.classes.Member.{Member}
use Rattle.sed_typed.specs.declared.program.Field.{Field}
use Rattle.sed_typed.specs.declared.program.FieldForm.{FieldForm}
use Rattle.sed_typed.specs.declared.program.Program.{Program}
use Rattle.sed_typed.specs.Classes as typed
use Rattle.sed_classes.specs.declared.kit_units.KitUnits.{KitUnits}
use Rattle.sed_classes.specs.Bases.{base_of, lineage}
use Rattle.sed_classes.specs.Members.{kit_of}
use Rattle.sed_classes.specs.Schema.{class_order, schema_of}
use Rattle.sed_program.specs.Types.{form_of, place_of}
use Rattle.sed_program.specs.Fields.{a_field, all_fields, field_of, fields_of, own_fields}
use Rattle.sed_outline.specs.Fits.{Unbroken}
use Rattle.sed_program.proofs.Leads.{Leads}
use Rattle.sed_program.proofs.OrderLists.{is_itself}
use Rattle.sed_program.proofs.Within.{base_within}
use Rattle.sed_program.proofs.Lineages.{bases_lead, lineage_first, places}
use Rattle.sed_program.proofs.Order.{number, order_len, place_in, place_is}
use Rattle.sed_program.proofs.Typed.{lineage_at}
use Rattle.sed_program.proofs.Upward.{up_map}

-- ---- of one class in a row of all

abbrev of_class : ℕ → Field → Bool
of_class n f = f.class.0 == n

abbrev if_here : {X : Type 0} → Bool → List X → List X
if_here b xs = if b then xs else []

one_kept : (n : ℕ) (b : Bool) (f : Field) (rest : List Field) → (f.class.0 == n) ≡ b →
    filter (of_class n) rest ≡ if_here b rest →
    filter (of_class n) (f ∷ rest) ≡ if_here b (f ∷ rest)
one_kept n true f rest e h = ap (λ t. if t then f ∷ filter (of_class n) rest
    else filter (of_class n) rest) e ∙ ap (λ r. f ∷ r) h
one_kept n false f rest e h = ap (λ t. if t then f ∷ filter (of_class n) rest else filter (of_class n) rest) e ∙ h

none_kept : {X : Type 0} (b : Bool) → [] ≡ if_here {X = X} b []
none_kept true = refl
none_kept false = refl

-- the members of one class have its number
kept : (units : List KitUnits) (n number class : ℕ) (b : Bool) → (number == n) ≡ b → (ms : List Member) →
    filter (of_class n) (filter_map (field_of units number class) ms)
    ≡ if_here b (filter_map (field_of units number class) ms)
kept units n number class b e [] = none_kept b
kept units n number class b e (m ∷ ms) = by_form (form_of units (kit_of units class) m)
    (kept units n number class b e ms)
  where
    by_form : (o : Option FieldForm) →
        filter (of_class n) (filter_map (field_of units number class) ms)
        ≡ if_here b (filter_map (field_of units number class) ms) →
        filter (of_class n) (cons_option (option_map (a_field units number class m) o) (filter_map
        (field_of units number class) ms))
        ≡ if_here b (cons_option (option_map (a_field units number class m) o) (filter_map
        (field_of units number class) ms))
    by_form None h = h
    by_form (Some f) h = one_kept n b (a_field units number class m f) (filter_map (field_of units number class) ms) e h

abbrev piece : List KitUnits → (ℕ → List Member) → ℕ × ℕ → List Field
piece units own c = filter_map (field_of units c.0 c.1) (own c.1)

piece_same : (units : List KitUnits) (own : ℕ → List Member) (n class : ℕ) →
    filter (of_class n) (piece units own (n, class)) ≡ piece units own (n, class)
piece_same units own n class = kept units n n class true (is_itself n) (own class)

piece_other : (units : List KitUnits) (own : ℕ → List Member) (n number class : ℕ) → (number == n) ≡ false →
    filter (of_class n) (piece units own (number, class)) ≡ []
piece_other units own n number class e = kept units n number class false e (own class)

-- what stands in the row from a number on
none_later : (units : List KitUnits) (own : ℕ → List Member) (n a : ℕ) (xs : List ℕ) → n < a →
    filter (of_class n) (flat_map (piece units own) (enumerate_from a xs)) ≡ []
none_later units own n a [] h = refl
none_later units own n a (x ∷ xs) h =
    let no : (a == n) ≡ false = grind (arith, nat_tests) in
    filter-append (of_class n) (piece units own (a, x)) (flat_map (piece units own) (enumerate_from (a + 1) xs))
    ∙ ap (λ r. r ++ filter (of_class n) (flat_map (piece units own) (enumerate_from (a + 1) xs)))
    (piece_other units own n a x no)
    ∙ none_later units own n (a + 1) xs (omega (arith, h))

found_piece : (units : List KitUnits) (own : ℕ → List Member) (a k class : ℕ) (xs : List ℕ) →
    slice_get xs k ≡ Some class →
    filter (of_class (a + k)) (flat_map (piece units own) (enumerate_from a xs)) ≡ piece units own (a + k, class)
found_piece units own a k class [] e = cc
found_piece units own a zero class (x ∷ xs) e =
    let here : a + 0 ≡ a = omega arith in
    let same : x ≡ class = cc in
    ap (λ n. filter (of_class n) (flat_map (piece units own) (enumerate_from a (x ∷ xs)))) here
    ∙ filter-append (of_class a) (piece units own (a, x)) (flat_map (piece units own) (enumerate_from (a + 1) xs))
    ∙ ap (λ r. filter (of_class a) (piece units own (a, x)) ++ r) (none_later units own a (a + 1) xs (omega arith))
    ∙ append-nil (filter (of_class a) (piece units own (a, x)))
    ∙ piece_same units own a x
    ∙ ap (λ c. piece units own (a, c)) same
    ∙ ap (λ n. piece units own (n, class)) (sym here)
found_piece units own a (suc k) class (x ∷ xs) e =
    let further : a + suc k ≡ a + 1 + k = omega arith in
    let no : (a == a + suc k) ≡ false = grind (arith, nat_tests) in
    filter-append (of_class (a + suc k)) (piece units own (a, x)) (flat_map (piece units own) (enumerate_from
    (a + 1) xs))
    ∙ ap
    (λ r. r ++ filter (of_class (a + suc k)) (flat_map (piece units own) (enumerate_from (a + 1) xs)))
    (piece_other units own (a + suc k) a x no)
    ∙ ap (λ n. filter (of_class n) (flat_map (piece units own) (enumerate_from (a + 1) xs))) further
    ∙ found_piece units own (a + 1) k class xs e
    ∙ ap (λ n. piece units own (n, class)) (sym further)

-- what a class itself declares, at its number
pub declared_in_class : (units : List KitUnits) (own : ℕ → List Member) (k class : ℕ) → place_of units k ≡ Some class →
    typed.declared_fields (all_fields units own) k ≡ filter_map (field_of units k class) (own class)
declared_in_class units own k class e =
    let same : 0 + k ≡ k = omega arith in
    ap (λ n. filter (of_class n) (all_fields units own)) (sym same)
    ∙ found_piece units own 0 k class (class_order units) e
    ∙ ap (λ n. piece units own (n, class)) same

-- ---- all that a class has

-- the fields that the class at a place itself declares, as the program has them
abbrev pub own_typed : List KitUnits → ℕ → List Field
own_typed units class = filter_map (field_of units (number units class) class) (own_fields units class)

each_declared : (units : List KitUnits) → Unbroken units → (o : Option ℕ) (xs : List ℕ) → ((c : ℕ) → o ≡ Some c →
    c < places units) →
    Leads (base_of units) o xs → AllByRecursion (λ c. typed.declared_fields (fields_of units) (number units c)
    ≡ own_typed units c) xs
each_declared units u o [] w p = tt
each_declared units u o (x ∷ xs) w p = (
  declared_in_class units (own_fields units) (number units x) x (place_is units u x (w x p.0)),
  each_declared units u (base_of units x) xs (base_within units x) p.1,
)

pub fields_at : (units : List KitUnits) → Unbroken units → (program : Program) → program.schema ≡ schema_of units →
    program.fields ≡ fields_of units →
    (k class : ℕ) → place_of units k ≡ Some class → typed.fields program k
    ≡ flat_map (own_typed units) (reverse (lineage units class))
fields_at units u program s f k class e =
    let h : class < places units = (place_in units u k class e).1 in
    let climb : Leads (base_of units) (Some class) (lineage units class) =
    subst (Leads (base_of units) (Some class)) (sym (lineage_first units u class)) (refl, bases_lead units u class) in
    ap (λ fs. flat_map (typed.declared_fields fs) (reverse (typed.lineage program.schema.classes k))) f
    ∙ ap (λ (x : _). flat_map (typed.declared_fields (fields_of units)) (reverse (typed.lineage x.classes k))) s
    ∙ ap (λ xs. flat_map (typed.declared_fields (fields_of units)) (reverse xs)) (lineage_at units u k class e)
    ∙ up_map
    (typed.declared_fields (fields_of units))
    (own_typed units)
    (number units)
    (lineage units class)
    (each_declared units u (Some class) (lineage units class) (λ c t. let is : class
    ≡ c = cc in omega (arith, is, h)) climb)

-- ---- by class

pieces : (units : List KitUnits) (own : ℕ → List Member) (h : ℕ → List Field) (a : ℕ) (xs : List ℕ) →
    ((k class : ℕ) → slice_get xs k ≡ Some class → h (a + k) ≡ piece units own (a + k, class)) →
    flat_map h (range_with_len a (length xs)) ≡ flat_map (piece units own) (enumerate_from a xs)
pieces units own h a [] e = refl
pieces units own h a (x ∷ xs) e =
    let here : a + 0 ≡ a = omega arith in
    let first : h a ≡ piece units own (a, x) = ap h (sym here) ∙ e 0 x refl ∙ ap (λ n. piece units own (n, x)) here in
    ap (λ r. r ++ flat_map h (range_with_len (a + 1) (length xs))) first
    ∙ ap
    (λ r. piece units own (a, x) ++ r)
    (pieces units own h (a + 1) xs (λ k c s.
    let further : a + 1 + k ≡ a + suc k = omega arith in
    ap h further ∙ e (suc k) c s ∙ ap (λ n. piece units own (n, c)) (sym further)))

-- those of a class stand together, in the order of the classes
pub fields_in_order : (units : List KitUnits) → Unbroken units →
    flat_map (typed.declared_fields (fields_of units)) (range_with_len 0 (places units)) ≡ fields_of units
fields_in_order units u =
    ap (λ n. flat_map (typed.declared_fields (fields_of units)) (range_with_len 0 n)) (sym (order_len units u))
    ∙ pieces
    units
    (own_fields units)
    (typed.declared_fields (fields_of units))
    0
    (class_order units)
    (λ k c e.
    let same : 0 + k ≡ k = omega arith in
    ap (typed.declared_fields (fields_of units)) same
    ∙ declared_in_class units (own_fields units) k c e
    ∙ ap (λ n. piece units (own_fields units) (n, c)) (sym same))

-- behind all numbers there is nothing
pub none_behind : (units : List KitUnits) (own : ℕ → List Member) (n a : ℕ) (xs : List ℕ) → a + length xs ≤ n →
    typed.declared_fields (flat_map (λ c. filter_map (field_of units c.0 c.1) (own c.1)) (enumerate_from a xs)) n ≡ []
none_behind units own n a [] h = refl
none_behind units own n a (x ∷ xs) h =
    let no : (a == n) ≡ false = grind (arith, nat_tests) in
    filter-append (of_class n) (piece units own (a, x)) (flat_map (piece units own) (enumerate_from (a + 1) xs))
    ∙ ap (λ r. r ++ filter (of_class n) (flat_map (piece units own) (enumerate_from (a + 1) xs)))
    (piece_other units own n a x no)
    ∙ none_behind units own n (a + 1) xs (omega (arith, h))
