-- Rows of decoded instructions: how they grow, and what is found in them.
use Rattle.std.proofs.Common.{◌≡◌, ◌+◌, ◌<◌, ◌≤◌, inl, inr, ◌⊎◌, ℕ, zero, suc, List, [], ◌∷◌, ◌++◌, length, length-append, None, Some, refl, sym, ◌∙◌, ap, subst, arith}
use Rattle.std.specs.Prelude.{slice_get}
use Rattle.std.proofs.lemmas.Option.{same_Some, slice_get_within}
use Rattle.scode_ops.specs.declared.op.Op.{Op}
use Rattle.scode_ops.specs.Decoding.{op_at, size_of}
use Rattle.scode_image.specs.declared.image.Image.{Image}
use Rattle.scode_image.specs.declared.image.ImageMethod.{ImageMethod}
use Rattle.scode_code.specs.Steps.{instruction_at}
use Rattle.scode_engine.specs.Rows.{AreRows, IsDecoded, IsRow}
use Rattle.scode_engine.proofs.Fetching.{at_code, method_there, no_code}

-- an instruction stands within the code
pub within_code : (code : List ℕ) (at : ℕ) (i : Op) → op_at code at ≡ Some i → at < length code
within_code [] at i e = absurd (let both = sym (no_code at) ∙ e in cc)
within_code (b ∷ bs) zero i e = omega arith
within_code (b ∷ bs) (suc n) i e = (let below = within_code bs n i e in omega (arith, below))

nothing_in : {A : Type 0} (k : ℕ) → slice_get {X = A} [] k ≡ None
nothing_in zero = refl
nothing_in (suc k) = refl

-- what stands in a list with one more at its end: an element of it, or that one
pub with_one_more : {A : Type 0} (xs : List A) (x : A) (k : ℕ) (y : A) → slice_get (xs ++ x ∷ []) k ≡ Some y
    → (slice_get xs k ≡ Some y) ⊎ ((k ≡ length xs) × (y ≡ x))
with_one_more [] x zero y e = inr (refl, sym (same_Some x y e))
with_one_more [] x (suc k) y e = absurd (let both : None ≡ Some y = sym (nothing_in k) ∙ e in cc)
with_one_more (z ∷ zs) x zero y e = inl e
with_one_more (z ∷ zs) x (suc k) y e = elim (with_one_more zs x k y e) [
  | inl there ↦ inl there
  | inr here ↦ inr (ap suc here.0, here.1)
]

-- ---- as far as they are decoded

pub record RowTo (code : List ℕ) (row : List Op) (far : ℕ) : Type 0 where
  pub count : length row ≡ far
  pub each : (at : ℕ) (f : Op) → slice_get row at ≡ Some f → IsDecoded code at f

pub record RowsTo (methods : List ImageMethod) (rows : List (List Op)) (far : ℕ) : Type 0 where
  pub count : length rows ≡ far
  pub each : (n : ℕ) (m : ImageMethod) (row : List Op) → slice_get methods n ≡ Some m
      → slice_get rows n ≡ Some row → IsRow m.code row

pub row_begins : (code : List ℕ) → RowTo code [] 0
row_begins code = record { count = refl; each = λ at f e. absurd (let both : None ≡ Some f = sym (nothing_in at) ∙ e in cc) }

pub row_grows : (code : List ℕ) (row : List Op) (at : ℕ) (f : Op) → RowTo code row at → IsDecoded code at f
    → RowTo code (row ++ f ∷ []) (at + 1)
row_grows code row at f to here = record {
  count = (let longer = length-append row (f ∷ []) in let old = to.count in omega (arith, longer, old));
  each = λ k g e. elim (with_one_more row f k g e) [
    | inl there ↦ to.each k g there
    | inr last ↦ subst (λ (h : Op). IsDecoded code k h) (sym last.1)
        (subst (λ (n : ℕ). IsDecoded code n f) (sym (last.0 ∙ to.count)) here)
  ];
}

pub row_ends : (code : List ℕ) (row : List Op) (far : ℕ) → RowTo code row far → far ≡ length code
    → IsRow code row
row_ends code row far to e = record { count = to.count ∙ e; each = to.each }

pub rows_begin : (methods : List ImageMethod) → RowsTo methods [] 0
rows_begin methods = record {
  count = refl;
  each = λ n m row at e. absurd (let both : None ≡ Some row = sym (nothing_in n) ∙ e in cc);
}

pub rows_grow : (methods : List ImageMethod) (rows : List (List Op)) (far : ℕ) (m : ImageMethod)
    (row : List Op) → RowsTo methods rows far → slice_get methods far ≡ Some m → IsRow m.code row
    → RowsTo methods (rows ++ row ∷ []) (far + 1)
rows_grow methods rows far m row to known here = record {
  count = (let longer = length-append rows (row ∷ []) in let old = to.count in omega (arith, longer, old));
  each = λ n x r at e. elim (with_one_more rows row n r e) [
    | inl there ↦ to.each n x r at there
    | inr last ↦
        let same : x ≡ m = same_Some x m (sym at ∙ ap (slice_get methods) (last.0 ∙ to.count) ∙ known) in
        subst (λ (y : ImageMethod). IsRow y.code r) (sym same) (subst (λ (l : List Op). IsRow m.code l) (sym last.1)
        here)
  ];
}

pub rows_end : (methods : List ImageMethod) (rows : List (List Op)) (far : ℕ) → RowsTo methods rows far
    → far ≡ length methods → AreRows methods rows
rows_end methods rows far to e = record { count = to.count ∙ e; each = to.each }

-- ---- what is fetched

-- the entry of a place at which an instruction stands
module _ (methods : List ImageMethod) (rows : List (List Op)) (are : AreRows methods rows) (n : ℕ)
    (m : ImageMethod) (known : slice_get methods n ≡ Some m) where
  pub row_there : n < length rows
  row_there = (let within = slice_get_within methods n m known in let same = are.count in omega (arith, within, same))

  module _ (row : List Op) (is : slice_get rows n ≡ Some row) (place : ℕ) (i : Op)
      (here : op_at m.code place ≡ Some i) where
    pub entry_there : place < length row
    entry_there =
        let within = within_code m.code place i here in
        let same = (are.each n m row known is).count in
        omega (arith, within, same)

    pub entry_is : (decoded : Op) → slice_get row place ≡ Some decoded
        → (decoded ≡ i) × (place + size_of decoded ≤ 65535)
    entry_is decoded at =
        let is_it = (are.each n m row known is).each place decoded at in
        let same : decoded ≡ i = is_it.op i here in
        (same, subst (λ (o : Op). place + size_of o ≤ 65535) (sym same) (is_it.fits i here))

-- so where an instruction stands in an image it is found in the row of its method
module _ (image : Image) (rows : List (List Op)) (are : AreRows image.methods rows) (n place : ℕ)
    (stands : (i : Op) × (instruction_at image n place ≡ Some i)) where
  there : (m : ImageMethod) × (slice_get image.methods n ≡ Some m)
  there = method_there image n place stands.0 stands.1

  here : op_at there.0.code place ≡ Some stands.0
  here = sym (at_code image n place there.0 there.1) ∙ stands.1

  pub row_within : n < length rows
  row_within = row_there image.methods rows are n there.0 there.1

  module _ (k : ℕ) (same : k ≡ n) (row : List Op) (is : slice_get rows k ≡ Some row) where
    own_row : slice_get rows n ≡ Some row
    own_row = ap (slice_get rows) (sym same) ∙ is

    pub op_within : place < length row
    op_within = entry_there image.methods rows are n there.0 there.1 row own_row place stands.0 here

    pub op_is : (at : ℕ) → at ≡ place → (decoded : Op) → slice_get row at ≡ Some decoded
        → (instruction_at image n place ≡ Some decoded) × (place + size_of decoded ≤ 65535)
    op_is at e decoded found =
        let entry =
        entry_is image.methods rows are n there.0 there.1 row own_row place stands.0 here decoded
        (ap (slice_get row) (sym e) ∙ found) in
        (stands.1 ∙ ap Some (sym entry.0), entry.1)
