-- First contents fit the fields of their class.
use Rattle.std.proofs.Common.{◌≡◌, ℕ, zero, suc, ◌+◌, ◌-◌, ◌==◌, ◌&&◌, Bool, true, false, if◌then◌else◌, List, [], ◌∷◌, ◌++◌, map, length, replicate, Option, Some, None, refl, sym, ap, subst, ◌∙◌, arith, append_assoc, append-nil}
use Rattle.std.specs.Prelude.{slice_index, nat_lt, All}
use Rattle.std.specs.List.{flat_map, enumerate_from, range_with_len}
use Rattle.std.proofs.lemmas.Bool.{and_from, and_parts}
use Rattle.std.proofs.lemmas.Bool.Decides.{nat_tests}
use Rattle.std.proofs.lemmas.List.Elements.{All-head, All-tail}
use Rattle.sed_value.specs.declared.value.Value.{Value}
use Rattle.sed_value.specs.declared.value.Value.TheVariants as kept
use Rattle.sed_value.specs.declared.slot_type.Primitive.{Primitive}
use Rattle.sed_value.specs.declared.slot_type.Primitive.TheVariants as prim
use Rattle.sed_typed.specs.declared.program.Field.{Field}
use Rattle.sed_typed.specs.declared.program.FieldForm.{FieldForm}
use Rattle.sed_typed.specs.declared.program.FieldForm.TheVariants as form
use Rattle.sed_typed.specs.declared.program.Program.{Program}
use Rattle.sed_typed.specs.Classes.{fields}
use Rattle.sed_typed.specs.Contents.{Contents, Path, Shape}
use Rattle.sed_typed.specs.Initial.{zero_value, begun, object_begun, initial, initial_statics}
use Rattle.sed_typed.specs.TypedSchema.{is_initial}
use Rattle.sed_engine.specs.Values.{are_bytes, last_byte}
use Rattle.sed_engine.specs.Fits.{form_at, form_below, form_of, part_of, keeps, is_kept, all_kept}
use Rattle.sed_engine.specs.Program.{shape_of}
use Rattle.sed_engine.proofs.FieldLists.{of_fields}

no_value : {P : Type 0} → false ≡ true → P
no_value h = let never : ⊥ = cc in absurd never

all_kept-append : (F : Path → Option FieldForm) (a b : Contents) → all_kept F a ≡ true → all_kept F b ≡ true → all_kept F (a ++ b) ≡ true
all_kept-append F [] b x y = y
all_kept-append F (e ∷ es) b x y =
    and_from (is_kept (F e.0) e.1) (all_kept F (es ++ b)) (and_parts (is_kept (F e.0) e.1) (all_kept F es) x).0
    (all_kept-append F es b (and_parts (is_kept (F e.0) e.1) (all_kept F es) x).1 y)

-- what F says behind a path is what stands inside this form
abbrev Agrees : (ℕ → List Shape) → (Path → Option FieldForm) → Path → Option FieldForm → Type 0
Agrees shapes F path f = (rest : Path) → F (path ++ rest) ≡ form_below shapes rest f

here : (shapes : ℕ → List Shape) (F : Path → Option FieldForm) (path : Path) (f : FieldForm) → Agrees shapes F path (Some f) → F path ≡ Some f
here shapes F path f a = ap F (sym (append-nil path)) ∙ a []

-- behind one more number is the part of this number
inside_form : (shapes : ℕ → List Shape) (F : Path → Option FieldForm) (path : Path) (f : FieldForm) → Agrees shapes F path (Some f) → (i : ℕ) → Agrees shapes F (path ++ i ∷ []) (part_of shapes f i)
inside_form shapes F path f a i rest = ap F (append_assoc path (i ∷ []) rest) ∙ a (i ∷ rest)

one_kept : (F : Path → Option FieldForm) (path : Path) (f : FieldForm) (v : Value) → F path ≡ Some f → keeps f v ≡ true → all_kept F ((path, v) ∷ []) ≡ true
one_kept F path f v e k = ap (λ (o : Option FieldForm). is_kept o v && true) e ∙ and_from (keeps f v) true k refl

-- ---- the first value of each form

pub zeros_bytes : (n : ℕ) → are_bytes (replicate n 0) ≡ true
zeros_bytes zero = refl
zeros_bytes (suc n) = zeros_bytes n

zeros_at : (n k : ℕ) → slice_index (replicate n 0) k ≡ 0
zeros_at zero k = refl
zeros_at (suc n) zero = refl
zeros_at (suc n) (suc k) = zeros_at n k

pub zeros_length : (n : ℕ) → length (replicate {A = ℕ} n 0) ≡ n
zeros_length zero = refl
zeros_length (suc n) = ap suc (zeros_length n)

pub equal : (a b : ℕ) → a ≡ b → (a == b) ≡ true
equal a b e = grind (arith, nat_tests)

str_kept : (n : ℕ) → keeps (form.Str n) (kept.Buf (replicate n 0)) ≡ true
str_kept n =
    and_from (are_bytes (replicate n 0) && (length (replicate {A = ℕ} n 0) == n)) (last_byte (replicate n 0) == 0)
    (and_from (are_bytes (replicate n 0)) (length (replicate {A = ℕ} n 0) == n) (zeros_bytes n) (equal (length (replicate {A = ℕ} n 0)) n (zeros_length n)))
    (equal (last_byte (replicate n 0)) 0 (zeros_at n (length (replicate {A = ℕ} n 0) - 1)))

zero_kept : (p : Primitive) → keeps (form.Prim p) (zero_value p) ≡ true
zero_kept prim.Bool = refl
zero_kept prim.Byte = refl
zero_kept prim.Short = refl
zero_kept prim.Int = refl
zero_kept prim.Long = refl

buf_kept : (n : ℕ) (v : Value) → is_initial (form.Buf n) v ≡ true → keeps (form.Buf n) v ≡ true
buf_kept n (kept.Buf bytes) h = h
buf_kept n v h = no_value h

-- the elements of an array, from number k on
elements_kept : (shapes : ℕ → List Shape) (F : Path → Option FieldForm) (path : Path) (p : Primitive) (n : ℕ) → Agrees shapes F path (Some (form.Array p n)) →
    (k left : ℕ) → (k + left ≡ n) → all_kept F (map (λ i. (path ++ i ∷ [], zero_value p)) (range_with_len k left)) ≡ true
elements_kept shapes F path p n a k zero e = refl
elements_kept shapes F path p n a k (suc left) e =
    let less : nat_lt k n ≡ true = grind (arith, nat_tests, e) in
    let is : F (path ++ k ∷ []) ≡ Some (form.Prim p) =
    here shapes F (path ++ k ∷ []) (form.Prim p)
    (λ rest. inside_form shapes F path (form.Array p n) a k rest ∙ ap (λ (b : Bool). form_below shapes rest (if b then Some (form.Prim p) else None)) less) in
    all_kept-append F ((path ++ k ∷ [], zero_value p) ∷ []) (map (λ i. (path ++ i ∷ [], zero_value p)) (range_with_len (k + 1) left))
    (one_kept F (path ++ k ∷ []) (form.Prim p) (zero_value p) is (zero_kept p))
    (elements_kept shapes F path p n a (k + 1) left (omega (arith, e)))

-- ---- objects

-- the fields of an object or the statics at a path stand behind it, from number k on
abbrev Inside : (ℕ → List Shape) → (Path → Option FieldForm) → Path → ℕ → List Field → Type 0
Inside shapes F path k all = (i j : ℕ) → i ≡ k + j → Agrees shapes F (path ++ i ∷ []) (form_at (map shape_of all) j)

-- objects of each class, at paths where their fields stand
abbrev ObjectsKept : (ℕ → List Field) → (Path → Option FieldForm) → (ℕ → Path → Contents) → Type 0
ObjectsKept fields_of F object = (class : ℕ) (path : Path) → Inside (λ c. map shape_of (fields_of c)) F path 0 (fields_of class) → all_kept F (object class path) ≡ true

begun_kept : (fields_of : ℕ → List Field) (F : Path → Option FieldForm) (object : ℕ → Path → Contents) → ObjectsKept fields_of F object →
    (path : Path) (f : FieldForm) (v : Value) → is_initial f v ≡ true → Agrees (λ c. map shape_of (fields_of c)) F path (Some f) → all_kept F (begun object path f v) ≡ true
begun_kept fields_of F object objects path (form.Prim p) v h a = one_kept F path (form.Prim p) v (here (λ c. map shape_of (fields_of c)) F path (form.Prim p) a) h
begun_kept fields_of F object objects path (form.Str n) v h a = one_kept F path (form.Str n) (kept.Buf (replicate n 0)) (here (λ c. map shape_of (fields_of c)) F path (form.Str n) a) (str_kept n)
begun_kept fields_of F object objects path (form.Buf n) v h a = one_kept F path (form.Buf n) v (here (λ c. map shape_of (fields_of c)) F path (form.Buf n) a) (buf_kept n v h)
begun_kept fields_of F object objects path (form.Array p n) v h a = elements_kept (λ c. map shape_of (fields_of c)) F path p n a 0 n (omega arith)
begun_kept fields_of F object objects path (form.Object t) v h a =
    objects t.0 path (λ i j e. subst (λ (m : ℕ). Agrees (λ c. map shape_of (fields_of c)) F (path ++ m ∷ []) (form_at (map shape_of (fields_of t.0)) j)) (let s : j ≡ i = omega (arith, e) in s)
    (inside_form (λ c. map shape_of (fields_of c)) F path (form.Object t) a j))

fields_kept : (fields_of : ℕ → List Field) (F : Path → Option FieldForm) (object : ℕ → Path → Contents) → ObjectsKept fields_of F object →
    (path : Path) (k : ℕ) (all : List Field) → All (λ (f : Field). is_initial f.form f.initial ≡ true) all → Inside (λ c. map shape_of (fields_of c)) F path k all →
    all_kept F (flat_map (λ (at : ℕ × Field). begun object (path ++ at.0 ∷ []) at.1.form at.1.initial) (enumerate_from k all)) ≡ true
fields_kept fields_of F object objects path k [] first within = refl
fields_kept fields_of F object objects path k (f ∷ fs) first within =
    all_kept-append F (begun object (path ++ k ∷ []) f.form f.initial) (flat_map (λ (at : ℕ × Field). begun object (path ++ at.0 ∷ []) at.1.form at.1.initial) (enumerate_from (k + 1) fs))
    (begun_kept fields_of F object objects (path ++ k ∷ []) f.form f.initial (All-head (λ (g : Field). is_initial g.form g.initial ≡ true) f fs first) (within k 0 (omega arith)))
    (fields_kept fields_of F object objects path (k + 1) fs (All-tail (λ (g : Field). is_initial g.form g.initial ≡ true) f fs first) (λ i j e. within i (suc j) (omega (arith, e))))

-- every field begins with a value of its form
abbrev pub BeginWell : List Field → Type 0
BeginWell all = All (λ (f : Field). is_initial f.form f.initial ≡ true) all

objects_kept : (program : Program) → BeginWell program.fields → (F : Path → Option FieldForm) (depth : ℕ) → ObjectsKept (fields program) F (object_begun program depth)
objects_kept program first F zero class path within = refl
objects_kept program first F (suc depth) class path within =
    fields_kept (fields program) F (object_begun program depth) (objects_kept program first F depth) path 0 (fields program class)
    (of_fields (λ (f : Field). is_initial f.form f.initial ≡ true) program first class) within

at_top : (shapes : ℕ → List Shape) (all : List Field) → Inside shapes (form_of shapes (map shape_of all)) [] 0 all
at_top shapes all i j e rest = ap (λ (m : ℕ). form_below shapes rest (form_at (map shape_of all) m)) (let s : i ≡ j = omega (arith, e) in s)

pub initial_kept : (program : Program) → BeginWell program.fields → (class : ℕ) →
    all_kept (form_of (λ c. map shape_of (fields program c)) (map shape_of (fields program class))) (initial program class) ≡ true
initial_kept program first class =
    objects_kept program first (form_of (λ c. map shape_of (fields program c)) (map shape_of (fields program class))) (length program.schema.classes) class []
    (at_top (λ c. map shape_of (fields program c)) (fields program class))

pub statics_kept : (program : Program) → BeginWell program.fields → BeginWell program.statics →
    all_kept (form_of (λ c. map shape_of (fields program c)) (map shape_of program.statics)) (initial_statics program) ≡ true
statics_kept program first first_statics =
    fields_kept (fields program) (form_of (λ c. map shape_of (fields program c)) (map shape_of program.statics)) (object_begun program (length program.schema.classes))
    (objects_kept program first (form_of (λ c. map shape_of (fields program c)) (map shape_of program.statics)) (length program.schema.classes)) [] 0 program.statics first_statics
    (at_top (λ c. map shape_of (fields program c)) program.statics)
