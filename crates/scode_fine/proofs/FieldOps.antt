-- What instructions on fields do, where the object on the stack has the field.
use Rattle.std.proofs.Common.{◌≡◌, ℕ, ◌&&◌, ◌||◌, true, false, ◌∷◌, Some, refl}
use Rattle.std.proofs.lemmas.Bool.{and_from}
use Rattle.sed_value.specs.declared.slot_type.Primitive.{Primitive}
use Rattle.sed_value.specs.declared.slot_type.Primitive.TheVariants as prim
use Rattle.sed_typed.specs.Kinds.{read_kind}
use Rattle.scode_image.specs.declared.image.ImageKind.{ImageKind}
use Rattle.scode_code.specs.CodeRules.{lacks_buf, lacks_field, number_missing}
use Rattle.scode_code.specs.Effect.{array_number, form_number}
use Rattle.scode_code.specs.Kinds.{bool, int, is_null, is_object, long, object, str}
use Rattle.scode_code.proofs.Verifies.{all_go_to_themselves}
use Rattle.scode_ops.specs.declared.op.Op.TheVariants as op
use Rattle.scode_emit.specs.Instructions.{get_element_op, get_op, put_element_op, put_op}
use Rattle.scode_entries.specs.Entries.{cell_of}
use Rattle.scode_fine.proofs.Builds.{Does, builds}
use Rattle.scode_fine.proofs.Walks.{Ground, Stack}

-- an object, a null or the static block
abbrev pub IsHolder : ImageKind → Type 0
IsHolder k = (is_object k || is_null k) ≡ true

module _ (g : Ground) (k : ImageKind) (holds : IsHolder k) where
  cell : ((is_object k || is_null k) && true) ≡ true
  cell = and_from (is_object k || is_null k) true holds refl

  pub get_does : (p : Primitive) (offset : ℕ) (below : Stack) →
      lacks_field g.image (Some k) (form_number p) offset 0 ≡ false →
      Does g (get_op p offset) (k ∷ below) (cell_of (read_kind p) ∷ below)
  get_does prim.Bool offset below h at low high =
      builds (k ∷ below) (bool ∷ below) (op.GetBool offset) refl cell h refl
      (all_go_to_themselves g.image g.m.locals) refl refl (all_go_to_themselves g.image (bool ∷ below)) low high
  get_does prim.Byte offset below h at low high =
      builds (k ∷ below) (int ∷ below) (op.GetByte offset) refl cell h refl
      (all_go_to_themselves g.image g.m.locals) refl refl (all_go_to_themselves g.image (int ∷ below)) low high
  get_does prim.Short offset below h at low high =
      builds (k ∷ below) (int ∷ below) (op.GetShort offset) refl cell h refl
      (all_go_to_themselves g.image g.m.locals) refl refl (all_go_to_themselves g.image (int ∷ below)) low high
  get_does prim.Int offset below h at low high =
      builds (k ∷ below) (int ∷ below) (op.GetInt offset) refl cell h refl
      (all_go_to_themselves g.image g.m.locals) refl refl (all_go_to_themselves g.image (int ∷ below)) low high
  get_does prim.Long offset below h at low high =
      builds (k ∷ below) (long ∷ below) (op.GetLong offset) refl cell h refl
      (all_go_to_themselves g.image g.m.locals) refl refl (all_go_to_themselves g.image (long ∷ below)) low high

  pub put_does : (p : Primitive) (offset : ℕ) (below : Stack) →
      lacks_field g.image (Some k) (form_number p) offset 0 ≡ false →
      Does g (put_op p offset) (cell_of (read_kind p) ∷ k ∷ below) below
  put_does prim.Bool offset below h at low high =
      builds (bool ∷ k ∷ below) below (op.PutBool offset) refl cell h refl
      (all_go_to_themselves g.image g.m.locals) refl refl (all_go_to_themselves g.image below) low high
  put_does prim.Byte offset below h at low high =
      builds (int ∷ k ∷ below) below (op.PutByte offset) refl cell h refl
      (all_go_to_themselves g.image g.m.locals) refl refl (all_go_to_themselves g.image below) low high
  put_does prim.Short offset below h at low high =
      builds (int ∷ k ∷ below) below (op.PutShort offset) refl cell h refl
      (all_go_to_themselves g.image g.m.locals) refl refl (all_go_to_themselves g.image below) low high
  put_does prim.Int offset below h at low high =
      builds (int ∷ k ∷ below) below (op.PutInt offset) refl cell h refl
      (all_go_to_themselves g.image g.m.locals) refl refl (all_go_to_themselves g.image below) low high
  put_does prim.Long offset below h at low high =
      builds (long ∷ k ∷ below) below (op.PutLong offset) refl cell h refl
      (all_go_to_themselves g.image g.m.locals) refl refl (all_go_to_themselves g.image below) low high

  pub get_element_does : (p : Primitive) (offset n : ℕ) (below : Stack) →
      lacks_field g.image (Some k) (array_number p) offset n ≡ false →
      Does g (get_element_op p offset n) (int ∷ k ∷ below) (cell_of (read_kind p) ∷ below)
  get_element_does prim.Bool offset n below h at low high =
      builds (int ∷ k ∷ below) (bool ∷ below) (op.ArrayGetBool offset n) refl cell h refl
      (all_go_to_themselves g.image g.m.locals) refl refl (all_go_to_themselves g.image (bool ∷ below)) low high
  get_element_does prim.Byte offset n below h at low high =
      builds (int ∷ k ∷ below) (int ∷ below) (op.ArrayGetByte offset n) refl cell h refl
      (all_go_to_themselves g.image g.m.locals) refl refl (all_go_to_themselves g.image (int ∷ below)) low high
  get_element_does prim.Short offset n below h at low high =
      builds (int ∷ k ∷ below) (int ∷ below) (op.ArrayGetShort offset n) refl cell h refl
      (all_go_to_themselves g.image g.m.locals) refl refl (all_go_to_themselves g.image (int ∷ below)) low high
  get_element_does prim.Int offset n below h at low high =
      builds (int ∷ k ∷ below) (int ∷ below) (op.ArrayGetInt offset n) refl cell h refl
      (all_go_to_themselves g.image g.m.locals) refl refl (all_go_to_themselves g.image (int ∷ below)) low high
  get_element_does prim.Long offset n below h at low high =
      builds (int ∷ k ∷ below) (long ∷ below) (op.ArrayGetLong offset n) refl cell h refl
      (all_go_to_themselves g.image g.m.locals) refl refl (all_go_to_themselves g.image (long ∷ below)) low high

  pub put_element_does : (p : Primitive) (offset n : ℕ) (below : Stack) →
      lacks_field g.image (Some k) (array_number p) offset n ≡ false →
      Does g (put_element_op p offset n) (cell_of (read_kind p) ∷ int ∷ k ∷ below) below
  put_element_does prim.Bool offset n below h at low high =
      builds (bool ∷ int ∷ k ∷ below) below (op.ArrayPutBool offset n) refl cell h refl
      (all_go_to_themselves g.image g.m.locals) refl refl (all_go_to_themselves g.image below) low high
  put_element_does prim.Byte offset n below h at low high =
      builds (int ∷ int ∷ k ∷ below) below (op.ArrayPutByte offset n) refl cell h refl
      (all_go_to_themselves g.image g.m.locals) refl refl (all_go_to_themselves g.image below) low high
  put_element_does prim.Short offset n below h at low high =
      builds (int ∷ int ∷ k ∷ below) below (op.ArrayPutShort offset n) refl cell h refl
      (all_go_to_themselves g.image g.m.locals) refl refl (all_go_to_themselves g.image below) low high
  put_element_does prim.Int offset n below h at low high =
      builds (int ∷ int ∷ k ∷ below) below (op.ArrayPutInt offset n) refl cell h refl
      (all_go_to_themselves g.image g.m.locals) refl refl (all_go_to_themselves g.image below) low high
  put_element_does prim.Long offset n below h at low high =
      builds (long ∷ int ∷ k ∷ below) below (op.ArrayPutLong offset n) refl cell h refl
      (all_go_to_themselves g.image g.m.locals) refl refl (all_go_to_themselves g.image below) low high

  pub inner_does : (offset class : ℕ) (below : Stack) → number_missing g.image g.m (op.Inner offset class) ≡ false →
      lacks_field g.image (Some k) 8 offset class ≡ false → Does g (op.Inner offset class) (k ∷ below) (object class ∷ below)
  inner_does offset class below there h at low high =
      builds (k ∷ below) (object class ∷ below) (op.Inner offset class) there cell h refl
      (all_go_to_themselves g.image g.m.locals) refl refl (all_go_to_themselves g.image (object class ∷ below)) low high

  pub str_does : (offset size : ℕ) (below : Stack) → lacks_field g.image (Some k) 6 offset size ≡ false →
      Does g (op.Str offset size) (k ∷ below) (str ∷ below)
  str_does offset size below h at low high =
      builds (k ∷ below) (str ∷ below) (op.Str offset size) refl cell h refl
      (all_go_to_themselves g.image g.m.locals) refl refl (all_go_to_themselves g.image (str ∷ below)) low high

  pub size_does : (offset : ℕ) (below : Stack) → lacks_buf g.image (Some k) offset ≡ false →
      Does g (op.BufSize offset) (k ∷ below) (int ∷ below)
  size_does offset below h at low high =
      builds (k ∷ below) (int ∷ below) (op.BufSize offset) refl cell h refl
      (all_go_to_themselves g.image g.m.locals) refl refl (all_go_to_themselves g.image (int ∷ below)) low high

  pub byte_does : (offset capacity : ℕ) (below : Stack) → lacks_field g.image (Some k) 7 offset capacity ≡ false →
      Does g (op.BufGet offset capacity) (int ∷ k ∷ below) (int ∷ below)
  byte_does offset capacity below h at low high =
      builds (int ∷ k ∷ below) (int ∷ below) (op.BufGet offset capacity) refl cell h refl
      (all_go_to_themselves g.image g.m.locals) refl refl (all_go_to_themselves g.image (int ∷ below)) low high
