-- The first bytes of an object are as many as its data size.
use Rattle.std.proofs.Common.{◌≡◌, ℕ, zero, suc, ◌+◌, ◌*◌, ◌-◌, ◌≤◌, List, ◌++◌, length, replicate, true, refl, ◌∙◌, arith}
use Rattle.std.specs.Prelude.{All, IsTrue, nat_le}
use Rattle.std.specs.Int.{bytes_high_first}
use Rattle.std.specs.List.{sum_by}
use Rattle.std.proofs.lemmas.Bool.{and_parts}
use Rattle.std.proofs.lemmas.Bool.Decides.{nat_tests}
use Rattle.std.proofs.lemmas.List.{length-append, length-replicate}
use Rattle.std.proofs.lemmas.List.Concat.{length-flat_map}
use Rattle.std.proofs.lemmas.List.Elements.{All-weaker}
use Rattle.sed_value.specs.SlotType.{width_of}
use Rattle.sed_value.specs.Value.{are_bytes}
use Rattle.sed_value.specs.declared.value.Value.{Value}
use Rattle.sed_value.specs.declared.value.Value.TheVariants as kept
use Rattle.sed_typed.specs.declared.program.Field.{Field}
use Rattle.sed_typed.specs.declared.program.FieldForm.{FieldForm}
use Rattle.sed_typed.specs.declared.program.FieldForm.TheVariants as form
use Rattle.sed_typed.specs.declared.program.Program.{Program}
use Rattle.sed_typed.specs.Classes.{fields}
use Rattle.sed_typed.specs.Sizes.{data_size, data_within, form_size}
use Rattle.sed_typed.specs.Typed.{Typed}
use Rattle.sed_typed.specs.TypedSchema.{IsField, is_initial}
use Rattle.sed_layout.proofs.Data.{sums_agree}
use Rattle.sed_layout.proofs.Inherited.{of_fields}
use Rattle.scode_gen.specs.FirstBytes.{buf_bytes, contents_in, field_bytes, fields_bytes, first_bytes, object_bytes}

pub high_first : (n x : ℕ) → length (bytes_high_first n x) ≡ n
high_first zero x = refl
high_first (suc n) x = let rest = high_first n x in omega (arith, rest)

-- a field's first contents are no longer than the field
pub contents_fit : (n : ℕ) (v : Value) → IsTrue (is_initial (form.Buf n) v) → length (contents_in v) ≤ n
contents_fit n (kept.Bool truth) h = omega arith
contents_fit n (kept.Byte number) h = omega arith
contents_fit n (kept.Short number) h = omega arith
contents_fit n (kept.Int number) h = omega arith
contents_fit n (kept.Long number) h = omega arith
contents_fit n (kept.Buf bytes) h =
    let few : nat_le (length bytes) n ≡ true = (and_parts (are_bytes bytes) (nat_le (length bytes) n) h).1 in
    grind (arith, nat_tests, few)
contents_fit n kept.Nothing h = omega arith

buf_many : (n : ℕ) (bytes : List ℕ) → length bytes ≤ n → length (buf_bytes n bytes) ≡ n + 2
buf_many n bytes h =
    let front : List ℕ = bytes_high_first 2 (length bytes) in
    let two : length front ≡ 2 = high_first 2 (length bytes) in
    let both : length (front ++ bytes) ≡ length front + length bytes = length-append front bytes in
    let zeros : List ℕ = replicate (n - length bytes) 0 in
    let as_many : length zeros ≡ n - length bytes = length-replicate {A = ℕ} (n - length bytes) 0 in
    let all = length-append (front ++ bytes) zeros in
    omega (arith, h, two, both, all, as_many)

module _ (size : ℕ → ℕ) (object : ℕ → List ℕ) (sized : (class : ℕ) → length (object class) ≡ size class) where
  pub field_many : (f : FieldForm) (v : Value) → IsTrue (is_initial f v) → length (field_bytes object f v) ≡ form_size size f
  field_many (form.Prim p) v h = high_first (width_of p) _
  field_many (form.Str n) v h = length-replicate {A = ℕ} n 0
  field_many (form.Buf n) v h = buf_many n (contents_in v) (contents_fit n v h)
  field_many (form.Array p n) v h = length-replicate {A = ℕ} (n * width_of p) 0
  field_many (form.Object class) v h = sized class.0

  pub fields_many : (all : List Field) → All (λ f. IsTrue (is_initial f.form f.initial)) all → length (fields_bytes object all) ≡ sum_by (λ f. form_size size f.form) all
  fields_many all h =
      length-flat_map (λ (f : Field). field_bytes object f.form f.initial) all
      ∙ sums_agree (λ (f : Field). length (field_bytes object f.form f.initial)) (λ (f : Field). form_size size f.form) all
      (All-weaker (λ (f : Field). IsTrue (is_initial f.form f.initial)) (λ (f : Field). length (field_bytes object f.form f.initial) ≡ form_size size f.form)
      (λ f begins. field_many f.form f.initial begins) all h)

-- what the fields of a class begin with
all_begin : (program : Program) → Typed program → (class : ℕ) → All (λ f. IsTrue (is_initial f.form f.initial)) (fields program class)
all_begin program typed class =
    All-weaker (IsField program) (λ (f : Field). IsTrue (is_initial f.form f.initial)) (λ f is. is.initial) (fields program class)
    (of_fields (IsField program) program typed.fields class)

pub objects_many : (program : Program) → Typed program → (depth class : ℕ) → length (object_bytes program depth class) ≡ data_within program depth class
objects_many program typed zero class = refl
objects_many program typed (suc depth) class =
    fields_many (data_within program depth) (object_bytes program depth) (objects_many program typed depth) (fields program class) (all_begin program typed class)

pub first_many : (program : Program) → Typed program → (class : ℕ) → length (first_bytes program class) ≡ data_size program class
first_many program typed class = objects_many program typed (length program.schema.classes) class
