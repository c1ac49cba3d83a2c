-- First contents have a value at each path at which the fields have a primitive, a Str or a Buf.
use Rattle.std.proofs.Common.{◌≡◌, ◌<◌, ◌≤◌, ℕ, zero, suc, ◌+◌, ◌||◌, Bool, true, false, if◌then◌else◌, List, [], ◌∷◌, ◌++◌, length, map, replicate, Some, None, refl, sym, ap, subst, ◌∙◌, append_assoc, append-nil, arith, inl, inr}
use Rattle.std.specs.Prelude.{All, nat_lt, slice_index_or}
use Rattle.std.specs.List.{flat_map, enumerate_from, list_any, range_with_len}
use Rattle.std.specs.Str.{bytes_eq}
use Rattle.std.proofs.lemmas.Bool.{ltb-true, cases_lt}
use Rattle.std.proofs.lemmas.Bool.Decides.{nat_tests}
use Rattle.std.proofs.lemmas.List.Elements.{All-head, All-tail}
use Rattle.std.proofs.lemmas.Option.{same_Some}
use Rattle.std.proofs.lemmas.Slice.Eq.{bytes_eq-Decides}
use Rattle.sed_value.specs.declared.value.Value.{Value}
use Rattle.sed_value.specs.declared.value.Value.TheVariants as kept
use Rattle.sed_typed.specs.declared.program.Field.{Field}
use Rattle.sed_typed.specs.declared.program.FieldForm.{FieldForm}
use Rattle.sed_typed.specs.declared.program.FieldForm.TheVariants as form
use Rattle.sed_typed.specs.declared.program.Program.{Program}
use Rattle.sed_typed.specs.Classes.{fields}
use Rattle.sed_typed.specs.Contents.{Contents, Path, Shape, value_at}
use Rattle.sed_typed.specs.Initial.{zero_value, begun, object_begun, initial, initial_statics}
use Rattle.sed_typed.specs.Typed.{Typed}
use Rattle.sed_typed.specs.TypedSchema.{IsField, IsForm, LiesDeeper}
use Rattle.sed_engine.specs.Fits.{form_at, form_below, form_of}
use Rattle.sed_engine.specs.Program.{shape_of}
use Rattle.sed_engine.proofs.Below.{no, absent}
use Rattle.sed_engine.proofs.FieldLists.{of_fields}

-- ---- paths

-- a value stands at a path
abbrev pub has : Contents → Path → Bool
has m path = list_any (λ (e : Path × Value). bytes_eq e.0 path) m

pub has_front : (a b : Contents) (path : Path) → has a path ≡ true → has (a ++ b) path ≡ true
has_front [] b path h = no h
has_front (e ∷ es) b path h = go (bytes_eq e.0 path) (has_front es b path) h
  where
    go : (x : Bool) → (has es path ≡ true → has (es ++ b) path ≡ true) → (x || has es path) ≡ true → (x || has (es ++ b) path) ≡ true
    go true later h = refl
    go false later h = later h

pub has_back : (a b : Contents) (path : Path) → has b path ≡ true → has (a ++ b) path ≡ true
has_back [] b path h = h
has_back (e ∷ es) b path h = go (bytes_eq e.0 path) (has_back es b path h)
  where
    go : (x : Bool) → has (es ++ b) path ≡ true → (x || has (es ++ b) path) ≡ true
    go true h = refl
    go false h = h

same_bytes : (a b : List ℕ) → a ≡ b → bytes_eq a b ≡ true
same_bytes a b e = (bytes_eq-Decides a b).1 e

one_has : (a path : Path) (v : Value) → a ≡ path → has ((a, v) ∷ []) path ≡ true
one_has a path v e = ap (λ (b : Bool). b || false) (same_bytes a path e)

pub value_there : (m : Contents) (path : Path) → has m path ≡ true → (v : Value) × (value_at m path ≡ Some v)
value_there [] path h = no h
value_there (e ∷ es) path h = go (bytes_eq e.0 path) (value_there es path) h
  where
    go : (b : Bool) → (has es path ≡ true → (v : Value) × (value_at es path ≡ Some v)) → (b || has es path) ≡ true → (v : Value) × ((if b then Some e.1 else value_at es path) ≡ Some v)
    go true later h = (e.1, refl)
    go false later h = later h

any_path : (m : Contents) (path : Path) → has m path ≡ list_any (λ (p : Path). bytes_eq p path) (map (λ e. e.0) m)
any_path [] path = refl
any_path (e ∷ es) path = ap (λ (b : Bool). bytes_eq e.0 path || b) (any_path es path)

-- contents with the same paths have values at the same paths
pub has_same : (a b : Contents) (path : Path) → map (λ e. e.0) a ≡ map (λ e. e.0) b → has b path ≡ true → has a path ≡ true
has_same a b path e h = any_path a path ∙ ap (list_any (λ (p : Path). bytes_eq p path)) e ∙ sym (any_path b path) ∙ h

-- ---- how deep objects lie

abbrev one_if : Bool → ℕ
one_if true = 1
one_if false = 0

-- how many of so many classes lie at a smaller depth
abbrev rank_in : (ℕ → ℕ) → ℕ → ℕ → ℕ
rank_in depth d zero = 0
rank_in depth d (suc n) = one_if (nat_lt (depth n) d) + rank_in depth d n

rank_more : (depth : ℕ → ℕ) (d e n : ℕ) → d ≤ e → rank_in depth d n ≤ rank_in depth e n
rank_more depth d e zero h = omega arith
rank_more depth d e (suc n) h =
    let rest : rank_in depth d n ≤ rank_in depth e n = rank_more depth d e n h in
    let here : one_if (nat_lt (depth n) d) ≤ one_if (nat_lt (depth n) e) = grind (arith, nat_tests, h) in
    omega (arith, rest, here)

rank_most : (depth : ℕ → ℕ) (d n : ℕ) → rank_in depth d n ≤ n
rank_most depth d zero = omega arith
rank_most depth d (suc n) =
    let rest : rank_in depth d n ≤ n = rank_most depth d n in
    let here : one_if (nat_lt (depth n) d) ≤ 1 = grind (arith, nat_tests) in
    omega (arith, rest, here)

-- a class is not counted among those that lie at a smaller depth
rank_below : (depth : ℕ → ℕ) (t n : ℕ) → t < n → rank_in depth (depth t) n < n
rank_below depth t zero h = absurd (omega (arith, h))
rank_below depth t (suc n) h = elim (cases_lt t n) [
  | inl low ↦
      let rest : rank_in depth (depth t) n < n = rank_below depth t n low in
      let here : one_if (nat_lt (depth n) (depth t)) ≤ 1 = grind (arith, nat_tests) in
      omega (arith, rest, here)
  | inr high ↦
      let same : t ≡ n = omega (arith, h, high) in
      let here : one_if (nat_lt (depth n) (depth t)) ≡ 0 = subst (λ (m : ℕ). one_if (nat_lt (depth m) (depth t)) ≡ 0) same (let e : nat_lt (depth t) (depth t) ≡ false = grind (arith, nat_tests) in ap one_if e) in
      let rest : rank_in depth (depth t) n ≤ n = rank_most depth (depth t) n in
      omega (arith, here, rest)
]

rank_deeper : (depth : ℕ → ℕ) (t d n : ℕ) → t < n → depth t < d → rank_in depth (depth t) n < rank_in depth d n
rank_deeper depth t d zero h k = absurd (omega (arith, h))
rank_deeper depth t d (suc n) h k = elim (cases_lt t n) [
  | inl low ↦
      let rest : rank_in depth (depth t) n < rank_in depth d n = rank_deeper depth t d n low k in
      let here : one_if (nat_lt (depth n) (depth t)) ≤ one_if (nat_lt (depth n) d) = grind (arith, nat_tests, k) in
      omega (arith, rest, here)
  | inr high ↦
      let same : t ≡ n = omega (arith, h, high) in
      let here : one_if (nat_lt (depth n) (depth t)) ≡ 0 = subst (λ (m : ℕ). one_if (nat_lt (depth m) (depth t)) ≡ 0) same (let e : nat_lt (depth t) (depth t) ≡ false = grind (arith, nat_tests) in ap one_if e) in
      let there : one_if (nat_lt (depth n) d) ≡ 1 = subst (λ (m : ℕ). one_if (nat_lt (depth m) d) ≡ 1) same (let e : nat_lt (depth t) d ≡ true = grind (arith, nat_tests, k) in ap one_if e) in
      let rest : rank_in depth (depth t) n ≤ rank_in depth d n = rank_more depth (depth t) d n (omega (arith, k)) in
      omega (arith, here, there, rest)
]

-- ---- first contents

-- a value of its own is kept of such a field
abbrev pub IsLeaf : FieldForm → Type 0
IsLeaf (form.Prim p) = Unit {0}
IsLeaf (form.Str n) = Unit {0}
IsLeaf (form.Buf n) = Unit {0}
IsLeaf (form.Array p n) = ⊥
IsLeaf (form.Object t) = ⊥

-- an object in such a field lies no deeper
abbrev Within : (ℕ → ℕ) → ℕ → FieldForm → Type 0
Within rank n (form.Object t) = rank t.0 < n
Within rank n f = Unit {0}

elements_have : (path : Path) (v : Value) (k n j : ℕ) → j < n → has (map (λ i. (path ++ i ∷ [], v)) (range_with_len k n)) (path ++ (k + j) ∷ []) ≡ true
elements_have path v k zero j h = absurd (omega (arith, h))
elements_have path v k (suc n) zero h =
    has_front ((path ++ k ∷ [], v) ∷ []) (map (λ i. (path ++ i ∷ [], v)) (range_with_len (k + 1) n)) (path ++ (k + 0) ∷ [])
    (one_has (path ++ k ∷ []) (path ++ (k + 0) ∷ []) v (ap (λ (m : ℕ). path ++ m ∷ []) (let e : k ≡ k + 0 = omega arith in e)))
elements_have path v k (suc n) (suc j) h =
    has_back ((path ++ k ∷ [], v) ∷ []) (map (λ i. (path ++ i ∷ [], v)) (range_with_len (k + 1) n)) (path ++ (k + suc j) ∷ [])
    (subst (λ (m : ℕ). has (map (λ i. (path ++ i ∷ [], v)) (range_with_len (k + 1) n)) (path ++ m ∷ []) ≡ true) (let e : k + 1 + j ≡ k + suc j = omega arith in e)
    (elements_have path v (k + 1) n j (omega (arith, h))))

module _ (fields_of : ℕ → List Field) (rank : ℕ → ℕ) where
  abbrev shapes : ℕ → List Shape
  shapes c = map shape_of (fields_of c)

  -- objects of classes of a rank below n have their paths
  abbrev ObjectsHave : ℕ → (ℕ → Path → Contents) → Type 0
  ObjectsHave n object = (t : ℕ) → rank t < n → (path rest : Path) (g : FieldForm) → IsLeaf g → form_of shapes (shapes t) rest ≡ Some g → has (object t path) (path ++ rest) ≡ true

  not_leaf : {P : Type 0} (f g : FieldForm) → Some f ≡ Some g → IsLeaf g → (IsLeaf f → ⊥) → P
  not_leaf f g e leaf never = absurd (never (subst IsLeaf (sym (same_Some f g e)) leaf))

  begun_has : (n : ℕ) (object : ℕ → Path → Contents) → ObjectsHave n object → (path : Path) (f : FieldForm) (v : Value) → Within rank n f →
      (rest : Path) (g : FieldForm) → IsLeaf g → form_below shapes rest (Some f) ≡ Some g → has (begun object path f v) (path ++ rest) ≡ true
  begun_has n object objects path (form.Prim p) v w [] g leaf e = one_has path (path ++ []) v (sym (append-nil path))
  begun_has n object objects path (form.Prim p) v w (j ∷ rest) g leaf e = absent g e
  begun_has n object objects path (form.Str m) v w [] g leaf e = one_has path (path ++ []) (kept.Buf (replicate m 0)) (sym (append-nil path))
  begun_has n object objects path (form.Str m) v w (j ∷ rest) g leaf e = absent g e
  begun_has n object objects path (form.Buf m) v w [] g leaf e = one_has path (path ++ []) v (sym (append-nil path))
  begun_has n object objects path (form.Buf m) v w (j ∷ rest) g leaf e = absent g e
  begun_has n object objects path (form.Array p m) v w [] g leaf e = not_leaf (form.Array p m) g e leaf (λ x. x)
  begun_has n object objects path (form.Array p m) v w (j ∷ rest) g leaf e = go (nat_lt j m) refl rest e
    where
      go : (b : Bool) → nat_lt j m ≡ b → (rest : Path) → form_below shapes rest (if b then Some (form.Prim p) else None) ≡ Some g → has (map (λ i. (path ++ i ∷ [], zero_value p)) (range_with_len 0 m)) (path ++ j ∷ rest) ≡ true
      go true less [] e =
          subst (λ (i : ℕ). has (map (λ i. (path ++ i ∷ [], zero_value p)) (range_with_len 0 m)) (path ++ i ∷ []) ≡ true) (let same : 0 + j ≡ j = omega arith in same)
          (elements_have path (zero_value p) 0 m j (ltb-true j m less))
      go true less (i ∷ rest) e = absent g e
      go false less rest e = absent g e
  begun_has n object objects path (form.Object t) v w [] g leaf e = not_leaf (form.Object t) g e leaf (λ x. x)
  begun_has n object objects path (form.Object t) v w (j ∷ rest) g leaf e = objects t.0 w path (j ∷ rest) g leaf e

  fields_have : (n : ℕ) (object : ℕ → Path → Contents) → ObjectsHave n object → (path : Path) (k : ℕ) (all : List Field) → All (λ (f : Field). Within rank n f.form) all →
      (j : ℕ) (rest : Path) (g : FieldForm) → IsLeaf g → form_below shapes rest (form_at (map shape_of all) j) ≡ Some g →
      has (flat_map (λ (at : ℕ × Field). begun object (path ++ at.0 ∷ []) at.1.form at.1.initial) (enumerate_from k all)) (path ++ (k + j) ∷ rest) ≡ true
  fields_have n object objects path k [] w j rest g leaf e = absent g e
  fields_have n object objects path k (f ∷ fs) w zero rest g leaf e =
      has_front (begun object (path ++ k ∷ []) f.form f.initial) (flat_map (λ (at : ℕ × Field). begun object (path ++ at.0 ∷ []) at.1.form at.1.initial) (enumerate_from (k + 1) fs)) (path ++ (k + 0) ∷ rest)
      (subst (λ (p : Path). has (begun object (path ++ k ∷ []) f.form f.initial) p ≡ true)
      (append_assoc path (k ∷ []) rest ∙ ap (λ (m : ℕ). path ++ m ∷ rest) (let same : k ≡ k + 0 = omega arith in same))
      (begun_has n object objects (path ++ k ∷ []) f.form f.initial (All-head (λ (x : Field). Within rank n x.form) f fs w) rest g leaf e))
  fields_have n object objects path k (f ∷ fs) w (suc j) rest g leaf e =
      has_back (begun object (path ++ k ∷ []) f.form f.initial) (flat_map (λ (at : ℕ × Field). begun object (path ++ at.0 ∷ []) at.1.form at.1.initial) (enumerate_from (k + 1) fs)) (path ++ (k + suc j) ∷ rest)
      (subst (λ (m : ℕ). has (flat_map (λ (at : ℕ × Field). begun object (path ++ at.0 ∷ []) at.1.form at.1.initial) (enumerate_from (k + 1) fs)) (path ++ m ∷ rest) ≡ true) (let same : k + 1 + j ≡ k + suc j = omega arith in same)
      (fields_have n object objects path (k + 1) fs (All-tail (λ (x : Field). Within rank n x.form) f fs w) j rest g leaf e))

-- the rank of a class of a typed program
abbrev rank_of : (program : Program) → Typed program → ℕ → ℕ
rank_of program typed class = rank_in typed.depth (typed.depth class) (length program.schema.classes)

within_of : (program : Program) (typed : Typed program) (f : Field) → IsField program f → Within (rank_of program typed) (length program.schema.classes) f.form
within_of program typed f is = go f.form is.form
  where
    go : (g : FieldForm) → IsForm program f g → Within (rank_of program typed) (length program.schema.classes) g
    go (form.Prim p) h = tt
    go (form.Str n) h = tt
    go (form.Buf n) h = tt
    go (form.Array p n) h = tt
    go (form.Object t) h = rank_below typed.depth t.0 (length program.schema.classes) h.0

deeper_of : (program : Program) (typed : Typed program) (class : ℕ) (f : Field) → IsField program f → LiesDeeper typed.depth class f.form → Within (rank_of program typed) (rank_of program typed class) f.form
deeper_of program typed class f is deep = go f.form is.form deep
  where
    go : (g : FieldForm) → IsForm program f g → LiesDeeper typed.depth class g → Within (rank_of program typed) (rank_of program typed class) g
    go (form.Prim p) h d = tt
    go (form.Str n) h d = tt
    go (form.Buf n) h d = tt
    go (form.Array p n) h d = tt
    go (form.Object t) h d = rank_deeper typed.depth t.0 (typed.depth class) (length program.schema.classes) h.0 d

within_more : (rank : ℕ → ℕ) (m n : ℕ) → m ≤ n → (f : FieldForm) → Within rank m f → Within rank n f
within_more rank m n h (form.Prim p) w = tt
within_more rank m n h (form.Str k) w = tt
within_more rank m n h (form.Buf k) w = tt
within_more rank m n h (form.Array p k) w = tt
within_more rank m n h (form.Object t) w = omega (arith, h, w)

objects_have : (program : Program) (typed : Typed program) (n : ℕ) → ObjectsHave (fields program) (rank_of program typed) n (object_begun program n)
objects_have program typed zero t below path rest g leaf e = absurd (omega (arith, below))
objects_have program typed (suc n) t below path [] g leaf e = absent g e
objects_have program typed (suc n) t below path (j ∷ rest) g leaf e =
    let deep : All (λ (f : Field). Within (rank_of program typed) n f.form) (fields program t) =
    λ k d h. within_more (rank_of program typed) (rank_of program typed t) n (omega (arith, below)) (slice_index_or (fields program t) k d).form
    (deeper_of program typed t (slice_index_or (fields program t) k d) (of_fields (IsField program) program typed.fields t k d h) (typed.deeper t k d h)) in
    subst (λ (m : ℕ). has (object_begun program (suc n) t path) (path ++ m ∷ rest) ≡ true) (let same : 0 + j ≡ j = omega arith in same)
    (fields_have (fields program) (rank_of program typed) n (object_begun program n) (objects_have program typed n) path 0 (fields program t) deep j rest g leaf e)

abbrev pub shapes_of : Program → ℕ → List Shape
shapes_of program c = map shape_of (fields program c)

pub initial_has : (program : Program) → Typed program → (class : ℕ) → class < length program.schema.classes → (path : Path) (g : FieldForm) → IsLeaf g →
    form_of (shapes_of program) (shapes_of program class) path ≡ Some g → has (initial program class) path ≡ true
initial_has program typed class known path g leaf e =
    objects_have program typed (length program.schema.classes) class (rank_below typed.depth class (length program.schema.classes) known) [] path g leaf e

pub statics_have : (program : Program) → Typed program → (path : Path) (g : FieldForm) → IsLeaf g →
    form_of (shapes_of program) (map shape_of program.statics) path ≡ Some g → has (initial_statics program) path ≡ true
statics_have program typed [] g leaf e = absent g e
statics_have program typed (j ∷ rest) g leaf e =
    subst (λ (m : ℕ). has (initial_statics program) (m ∷ rest) ≡ true) (let same : 0 + j ≡ j = omega arith in same)
    (fields_have (fields program) (rank_of program typed) (length program.schema.classes) (object_begun program (length program.schema.classes))
    (objects_have program typed (length program.schema.classes)) [] 0 program.statics
    (λ k d h. within_of program typed (slice_index_or program.statics k d) (typed.statics k d h)) j rest g leaf e)
