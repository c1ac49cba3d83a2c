-- The first bytes of objects and of the statics, and the bytes of code, are bytes.
use Rattle.std.proofs.Common.{◌≡◌, ℕ, zero, suc, ◌-◌, ◌*◌, ◌^◌, true, List, [], ◌∷◌, ◌++◌, length}
use Rattle.std.proofs.Common.{replicate, nat_lt, nat_le, refl}
use Rattle.std.specs.Prelude.{All, IsTrue}
use Rattle.std.specs.Int.{bytes_high_first, cast_unsigned, w32, w64}
use Rattle.std.proofs.lemmas.Bool.{and_from, and_parts}
use Rattle.std.proofs.lemmas.List.Elements.{All-head, All-tail}
use Rattle.sed_value.specs.SlotType.{width_of}
use Rattle.sed_value.specs.Value.{are_bytes}
use Rattle.sed_value.specs.declared.value.Value.{Value}
use Rattle.sed_value.specs.declared.value.Value.TheVariants as kept
use Rattle.sed_wire.proofs.NumberLemmas.{are_bytes-high_first}
use Rattle.sed_typed.specs.declared.program.Field.{Field}
use Rattle.sed_typed.specs.declared.program.FieldForm.{FieldForm}
use Rattle.sed_typed.specs.declared.program.FieldForm.TheVariants as form
use Rattle.sed_typed.specs.declared.program.Program.{Program}
use Rattle.sed_typed.specs.Classes.{fields}
use Rattle.sed_typed.specs.Typed.{Typed}
use Rattle.sed_typed.specs.TypedSchema.{IsField, is_initial}
use Rattle.sed_engine.proofs.FirstFits.{zeros_bytes}
use Rattle.sed_engine.proofs.StrBytes.{bytes_append}
use Rattle.sed_layout.proofs.Inherited.{of_fields}
use Rattle.scode_ops.specs.declared.op.Op.{Op}
use Rattle.scode_ops.specs.declared.op.Op.TheVariants as ops
use Rattle.scode_ops.specs.Codes.{IsOp, code_of, fits, operands_of}
use Rattle.scode_emit.specs.Code.{bytes_of}
use Rattle.scode_gen.specs.FirstBytes.{field_bytes, fields_bytes, first_bytes, number_in, object_bytes, static_bytes}

-- ---- numbers

one_byte : (n : ℕ) → nat_lt n 256 ≡ true → are_bytes (n ∷ []) ≡ true
one_byte n h = and_from (nat_lt n 256) true h refl

-- ---- first bytes

module _ (object : ℕ → List ℕ) (are : (class : ℕ) → are_bytes (object class) ≡ true) where
  field_is_bytes : (f : FieldForm) (v : Value) → IsTrue (is_initial f v) → are_bytes (field_bytes object f v) ≡ true
  field_is_bytes (form.Prim p) v h = are_bytes-high_first (width_of p) (number_in v)
  field_is_bytes (form.Str n) v h = zeros_bytes n
  field_is_bytes (form.Buf n) (kept.Buf bytes) h =
      let held : are_bytes bytes ≡ true = (and_parts (are_bytes bytes) (nat_le (length bytes) n) h).0 in
      let count : List ℕ = bytes_high_first 2 (length bytes) in
      bytes_append (count ++ bytes) (replicate (n - length bytes) 0)
      (bytes_append count bytes (are_bytes-high_first 2 (length bytes)) held) (zeros_bytes (n - length bytes))
  field_is_bytes (form.Buf n) v h = let never : ⊥ = cc in absurd never
  field_is_bytes (form.Array p n) v h = zeros_bytes (n * width_of p)
  field_is_bytes (form.Object class) v h = are class.0

  fields_are_bytes : (program : Program) (all : List Field) → All (IsField program) all
      → are_bytes (fields_bytes object all) ≡ true
  fields_are_bytes program [] known = refl
  fields_are_bytes program (f ∷ fs) known =
      bytes_append (field_bytes object f.form f.initial) (fields_bytes object fs)
      (field_is_bytes f.form f.initial (All-head (IsField program) f fs known).initial)
      (fields_are_bytes program fs (All-tail (IsField program) f fs known))

module _ (program : Program) (typed : Typed program) where
  objects_are_bytes : (depth class : ℕ) → are_bytes (object_bytes program depth class) ≡ true
  objects_are_bytes zero class = refl
  objects_are_bytes (suc depth) class =
      fields_are_bytes (object_bytes program depth) (objects_are_bytes depth) program (fields program class)
      (of_fields (IsField program) program typed.fields class)

  pub first_are_bytes : (class : ℕ) → are_bytes (first_bytes program class) ≡ true
  first_are_bytes class = objects_are_bytes (length program.schema.classes) class

  pub statics_are_bytes : are_bytes (static_bytes program) ≡ true
  statics_are_bytes =
      fields_are_bytes (object_bytes program (length program.schema.classes))
      (objects_are_bytes (length program.schema.classes)) program program.statics typed.statics

-- ---- code

pair_bytes : (a b : ℕ) → are_bytes (bytes_high_first 2 a ++ bytes_high_first 2 b) ≡ true
pair_bytes a b =
    bytes_append (bytes_high_first 2 a) (bytes_high_first 2 b) (are_bytes-high_first 2 a) (are_bytes-high_first 2 b)

-- an instruction that has operands is made of bytes, as one that has none is
op_is_bytes : (op : Op) → fits (operands_of op) ≡ true → are_bytes (code_of op) ≡ true
op_is_bytes (ops.Int n) h = are_bytes-high_first 4 (cast_unsigned w32 n)
op_is_bytes (ops.Long n) h = are_bytes-high_first 8 (cast_unsigned w64 n)
op_is_bytes (ops.Bool a) h = one_byte a h
op_is_bytes (ops.Text a) h = are_bytes-high_first 2 a
op_is_bytes (ops.Load a) h = one_byte a h
op_is_bytes (ops.Store a) h = one_byte a h
op_is_bytes (ops.Jump a) h = are_bytes-high_first 2 a
op_is_bytes (ops.JumpFalse a) h = are_bytes-high_first 2 a
op_is_bytes (ops.JumpTrue a) h = are_bytes-high_first 2 a
op_is_bytes (ops.GetBool a) h = are_bytes-high_first 2 a
op_is_bytes (ops.GetByte a) h = are_bytes-high_first 2 a
op_is_bytes (ops.GetShort a) h = are_bytes-high_first 2 a
op_is_bytes (ops.GetInt a) h = are_bytes-high_first 2 a
op_is_bytes (ops.GetLong a) h = are_bytes-high_first 2 a
op_is_bytes (ops.PutBool a) h = are_bytes-high_first 2 a
op_is_bytes (ops.PutByte a) h = are_bytes-high_first 2 a
op_is_bytes (ops.PutShort a) h = are_bytes-high_first 2 a
op_is_bytes (ops.PutInt a) h = are_bytes-high_first 2 a
op_is_bytes (ops.PutLong a) h = are_bytes-high_first 2 a
op_is_bytes (ops.BufSize a) h = are_bytes-high_first 2 a
op_is_bytes (ops.Call a) h = are_bytes-high_first 2 a
op_is_bytes (ops.Inner a b) h = pair_bytes a b
op_is_bytes (ops.Str a b) h = pair_bytes a b
op_is_bytes (ops.BufGet a b) h = pair_bytes a b
op_is_bytes (ops.ArrayGetBool a b) h = pair_bytes a b
op_is_bytes (ops.ArrayGetByte a b) h = pair_bytes a b
op_is_bytes (ops.ArrayGetShort a b) h = pair_bytes a b
op_is_bytes (ops.ArrayGetInt a b) h = pair_bytes a b
op_is_bytes (ops.ArrayGetLong a b) h = pair_bytes a b
op_is_bytes (ops.ArrayPutBool a b) h = pair_bytes a b
op_is_bytes (ops.ArrayPutByte a b) h = pair_bytes a b
op_is_bytes (ops.ArrayPutShort a b) h = pair_bytes a b
op_is_bytes (ops.ArrayPutInt a b) h = pair_bytes a b
op_is_bytes (ops.ArrayPutLong a b) h = pair_bytes a b
op_is_bytes (ops.VirtualCall a b) h =
    bytes_append (bytes_high_first 2 a) (b ∷ []) (are_bytes-high_first 2 a)
    (one_byte b (and_parts (nat_lt a (2 ^ 16)) (nat_lt b (2 ^ 8)) h).1)
op_is_bytes op h = refl

pub code_is_bytes : (all : List Op) → All IsOp all → are_bytes (bytes_of all) ≡ true
code_is_bytes [] are = refl
code_is_bytes (op ∷ rest) are =
    let is : IsOp op = All-head IsOp op rest are in
    bytes_append (code_of op) (bytes_of rest) (op_is_bytes op is.fits) (code_is_bytes rest (All-tail IsOp op rest are))
