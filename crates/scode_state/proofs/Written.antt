-- Bytes that are put into a block, and the value that they are.
use Rattle.std.proofs.Common.{◌≡◌, ◌<◌, ◌≤◌, ◌+◌, ◌^◌, ◌⊎◌, inl, inr, ℕ, true, List, ◌++◌, length, take, Option, Some, None, refl, sym, ap, subst, ◌∙◌, arith}
use Rattle.std.specs.Int.{bytes_high_first}
use Rattle.std.proofs.lemmas.List.{length-append, take_at}
use Rattle.sed_value.specs.declared.slot_type.Primitive.{Primitive}
use Rattle.sed_value.specs.declared.value.Value.{Value}
use Rattle.sed_value.specs.declared.value.Value.TheVariants as kept
use Rattle.sed_value.specs.SlotType.{width_of}
use Rattle.sed_typed.specs.declared.program.FieldForm.{FieldForm}
use Rattle.sed_typed.specs.declared.program.FieldForm.TheVariants as form
use Rattle.sed_typed.specs.Contents.{Contents, Path, with_value}
use Rattle.sed_wire.specs.Number.{number_of}
use Rattle.sed_engine.specs.Values.{Base}
use Rattle.scode_image.specs.declared.image.Image.{Image}
use Rattle.scode_code.specs.Contents.{primitive_from}
use Rattle.scode_code.specs.Parts.{Part, part_of}
use Rattle.scode_code.specs.TableRules.{tables_agree}
use Rattle.scode_mem.specs.Blocks.{bytes_at, put_at}
use Rattle.scode_mem.proofs.Bytes.{range_after, range_before, range_over, range_put}
use Rattle.scode_whole.proofs.Rule.{agrees}
use Rattle.scode_whole.proofs.Truths.{no_value, same_value}
use Rattle.scode_state.specs.Values.{BufsFit, held_in, part_width, size_in, value_from}
use Rattle.scode_state.proofs.Changes.{LeafFits, StaysBeside, fits_on, leaf_lies, one_changes}
use Rattle.scode_state.proofs.Leaves.{IsLeaf, leaf_value, part_value}

-- a leaf fits if its Buf does, where it is one
own_fits : (bytes : List ℕ) (part : Part)
    → ((n : ℕ) → part.1 ≡ form.Buf n → number_of (bytes_at bytes part.0 2) ≤ n) → LeafFits bytes part
own_fits bytes (o, form.Prim p) h = tt
own_fits bytes (o, form.Str n) h = tt
own_fits bytes (o, form.Buf n) h = h n refl
own_fits bytes (o, form.Array p n) h = tt
own_fits bytes (o, form.Object t) h = tt

-- a part that stands for a value is a leaf
pub value_leaf : (bytes : List ℕ) (part : Part) (v : Value) → value_from bytes part ≡ Some v → IsLeaf part.1
value_leaf bytes (o, form.Prim p) v e = tt
value_leaf bytes (o, form.Str n) v e = tt
value_leaf bytes (o, form.Buf n) v e = tt
value_leaf bytes (o, form.Array p n) v e = no_value v e
value_leaf bytes (o, form.Object t) v e = no_value v e

beside : (bytes new : List ℕ) (at : ℕ) → at + length new ≤ length bytes
    → StaysBeside (put_at bytes at new) bytes at (length new)
beside bytes new at room start size (inl h) = range_before bytes at new room start size h
beside bytes new at room start size (inr h) = range_after bytes at new room start size h

module _ (image : Image) (class : ℕ) (base : Base) (path : Path) (part : Part) (bytes new : List ℕ) (at : ℕ)
    (tables : tables_agree image ≡ true) (fits : BufsFit image class base bytes)
    (whole : length bytes ≡ size_in image class base) (there : part_of image class base path ≡ Some part)
    (leaf : IsLeaf part.1) (low : part.0 ≤ at) (high : at + length new ≤ part.0 + part_width image part.1) where
  room : at + length new ≤ length bytes
  room =
      let lies = leaf_lies image (agrees image tables) class base path part there leaf in
      omega (arith, lies, high, whole)

  pub leaf_changes : held_in image class base (put_at bytes at new)
      ≡ with_value (held_in image class base bytes) path (part_value (put_at bytes at new) part)
  leaf_changes =
      one_changes image (agrees image tables) class base path part there leaf bytes (put_at bytes at new) at (length new)
      fits low high (beside bytes new at room)

  pub part_changes : (v : Value) → value_from (put_at bytes at new) part ≡ Some v
      → held_in image class base (put_at bytes at new) ≡ with_value (held_in image class base bytes) path v
  part_changes v e =
      let is : part_value (put_at bytes at new) part ≡ v =
      same_value (part_value (put_at bytes at new) part) v (sym (leaf_value (put_at bytes at new) part leaf) ∙ e) in
      leaf_changes ∙ ap (λ (x : Value). with_value (held_in image class base bytes) path x) is

  pub stay_fit : LeafFits (put_at bytes at new) part → BufsFit image class base (put_at bytes at new)
  stay_fit own =
      fits_on image (agrees image tables) class base path part there leaf bytes (put_at bytes at new) at (length new)
      fits low high (beside bytes new at room) own

  pub fit_stays : ((n : ℕ) → part.1 ≡ form.Buf n → number_of (bytes_at (put_at bytes at new) part.0 2) ≤ n)
      → BufsFit image class base (put_at bytes at new)
  fit_stays h = stay_fit (own_fits (put_at bytes at new) part h)

module _ (image : Image) (class : ℕ) (base : Base) (path : Path) (o : ℕ) (bytes new : List ℕ)
    (tables : tables_agree image ≡ true) (fits : BufsFit image class base bytes)
    (whole : length bytes ≡ size_in image class base) where
  there_room : (part : Part) → part_of image class base path ≡ Some part → IsLeaf part.1
      → part.0 + part_width image part.1 ≤ length bytes
  there_room part e leaf =
      let lies = leaf_lies image (agrees image tables) class base path part e leaf in omega (arith, lies, whole)

  -- a number in all bytes of a primitive
  pub primitive_changes : (p : Primitive) → part_of image class base path ≡ Some (o, form.Prim p)
      → length new ≡ width_of p
      → held_in image class base (put_at bytes o new)
      ≡ with_value (held_in image class base bytes) path (primitive_from p new)
  primitive_changes p there wide =
      let room : o + width_of p ≤ length bytes = there_room (o, form.Prim p) there tt in
      let put : bytes_at (put_at bytes o new) o (width_of p) ≡ new =
      ap (λ (n : ℕ). bytes_at (put_at bytes o new) o n) (sym wide) ∙ range_put bytes o new (omega (arith, room, wide)) in
      part_changes image class base path (o, form.Prim p) bytes new o tables fits whole there tt (omega arith)
      (omega (arith, wide)) (primitive_from p new) (ap (λ (b : List ℕ). Some (primitive_from p b)) put)

  -- all bytes of a Str
  pub str_changes : (n : ℕ) → part_of image class base path ≡ Some (o, form.Str n) → length new ≡ n
      → held_in image class base (put_at bytes o new) ≡ with_value (held_in image class base bytes) path (kept.Buf new)
  str_changes n there wide =
      let room : o + n ≤ length bytes = there_room (o, form.Str n) there tt in
      let put : bytes_at (put_at bytes o new) o n ≡ new =
      ap (λ (m : ℕ). bytes_at (put_at bytes o new) o m) (sym wide) ∙ range_put bytes o new (omega (arith, room, wide)) in
      part_changes image class base path (o, form.Str n) bytes new o tables fits whole there tt (omega arith)
      (omega (arith, wide)) (kept.Buf new) (ap (λ (b : List ℕ). Some (kept.Buf b)) put)

  -- some bytes of a Str
  pub str_part_changes : (n i : ℕ) → part_of image class base path ≡ Some (o, form.Str n) → i + length new ≤ n
      → held_in image class base (put_at bytes (o + i) new)
      ≡ with_value (held_in image class base bytes) path (kept.Buf (put_at (bytes_at bytes o n) i new))
  str_part_changes n i there within =
      let room : o + n ≤ length bytes = there_room (o, form.Str n) there tt in
      part_changes image class base path (o, form.Str n) bytes new (o + i) tables fits whole there tt (omega arith)
      (omega (arith, within)) (kept.Buf (put_at (bytes_at bytes o n) i new))
      (ap (λ (b : List ℕ). Some (kept.Buf b)) (range_over bytes o n i new within room))
