-- How instructions on objects, Strs and Bufs inside an object end.
use Rattle.std.proofs.Common.{◌≡◌, ◌+◌, ◌<◌, ◌≤◌, ℕ, ℤ, pos, List, [], ◌∷◌, length, Option, Some, None, Result, Ok, Err, refl, sym, ap, subst, ◌∙◌, arith}
use Rattle.std.specs.Prelude.{IfSome, IsSomeAnd, slice_index}
use Rattle.sed_value.specs.declared.value.Value.{Value}
use Rattle.sed_value.specs.declared.value.Value.TheVariants as kept
use Rattle.sed_typed.specs.declared.program.FieldForm.{FieldForm}
use Rattle.sed_typed.specs.declared.program.FieldForm.TheVariants as form
use Rattle.sed_typed.specs.Contents.{Contents, Path, value_at}
use Rattle.sed_engine.specs.declared.call.Place.{Place}
use Rattle.sed_engine.specs.declared.trap.Trap.{Trap}
use Rattle.sed_engine.specs.State.{State, End, answers, gives, then_do}
use Rattle.sed_engine.specs.Steps.{contents_of, inside, read_bytes}
use Rattle.sed_engine.specs.Stops.{Stop, Traps, there}
use Rattle.sed_engine.specs.Texts.{index_of, index_within}
use Rattle.sed_engine.specs.Values.{Base, Spot, Val, At, Int, bytes_of}
use Rattle.scode_image.specs.declared.image.Image.{Image}
use Rattle.scode_image.specs.declared.image.ImageField.{ImageField}
use Rattle.scode_code.specs.Effect.{buf_get, buf_size, int_cell, part}
use Rattle.scode_code.specs.Fields.{Setting, buf_at, field_at}
use Rattle.scode_code.specs.Machine.{Move, Onward}
use Rattle.scode_mem.specs.declared.block.Block.{Block}
use Rattle.sed_wire.specs.Number.{number_of}
use Rattle.scode_mem.specs.Blocks.{HasBytes, Held, bytes_at}
use Rattle.scode_mem.specs.Blocks.{bytes_of as bytes_in}
use Rattle.scode_cells.specs.declared.cell.Cell.{Cell}
use Rattle.scode_cells.specs.declared.cell.Cell.TheVariants as cell
use Rattle.scode_state.specs.Stands.{HasBuf, StandsAt, contents_in}
use Rattle.scode_vm.specs.Seen.{shared_seen, spot_in, val_of, val_or, vals}
use Rattle.scode_vm.specs.Doings.{EndsTyped}
use Rattle.scode_vm.specs.Tops.{IsInt, Top}
use Rattle.scode_access.specs.Found.{BufFound, BufsAreFound, BufsAreOfObjects, FieldFound, FieldsAreFound, FieldsAreOfObjects, Standing}
use Rattle.scode_access.specs.Tops.{IsObject}
use Rattle.scode_access.specs.Within.{IsGround}
use Rattle.scode_access.proofs.Finding.{buf_ends, field_ends}
use Rattle.scode_access.proofs.OnArrays.{int_wanted}
use Rattle.scode_access.proofs.Reading.{spot_holds}
use Rattle.scode_access.proofs.Typed.{first_typed}

-- ---- the bytes at a place

-- what is read there, typed, is a row of bytes
pub record BytesRead (spot : Spot) (s : State) : Type 0 where
  pub bytes : List ℕ
  pub are : value_at (contents_of spot.base s.shared) spot.path ≡ Some (kept.Buf bytes)
  pub ends : read_bytes spot s ≡ gives bytes s

pub bytes_read : (spot : Spot) (s : State) → EndsTyped (read_bytes spot s).result → BytesRead spot s
bytes_read spot s typed = by_value (value_at (contents_of spot.base s.shared) spot.path) refl typed
  where
    of_value : (v : Value) → value_at (contents_of spot.base s.shared) spot.path ≡ Some v → EndsTyped (bytes_of v)
        → BytesRead spot s
    of_value (kept.Buf bytes) e h = record {
      bytes = bytes;
      are = e;
      ends = ap (λ (o : Option Value). then_do (answers (there o) s) (λ v s1. answers (bytes_of v) s1)) e;
    }
    of_value (kept.Bool t) e h = absurd h
    of_value (kept.Byte n) e h = absurd h
    of_value (kept.Short n) e h = absurd h
    of_value (kept.Int n) e h = absurd h
    of_value (kept.Long n) e h = absurd h
    of_value kept.Nothing e h = absurd h

    by_value : (o : Option Value) → value_at (contents_of spot.base s.shared) spot.path ≡ o
        → EndsTyped (then_do (answers (there o) s) (λ v s1. answers (bytes_of v) s1)).result → BytesRead spot s
    by_value None e h = absurd h
    by_value (Some v) e h = of_value v e h

-- fewer bytes stand where some do
pub has_front : (h : Held) (b : Block) (at width less : ℕ) → HasBytes h b at width → less ≤ width → HasBytes h b at less
has_front h b at width less has le = by_bytes (bytes_in h b) has
  where
    by_bytes : (o : Option (List ℕ)) → IsSomeAnd o (λ bytes. at + width ≤ length bytes)
        → IsSomeAnd o (λ bytes. at + less ≤ length bytes)
    by_bytes None has = has
    by_bytes (Some bytes) has = omega (arith, has, le)

-- a byte of a Buf that is below its length, and the length
pub byte_there : (h : Held) (b : Block) (at n size i : ℕ) → HasBuf h b at n
    → IfSome (bytes_in h b) (λ bytes. size ≡ number_of (bytes_at bytes at 2)) → i < size
    → HasBytes h b (at + 2 + i) 1 × (size ≤ n)
byte_there h b at n size i buf told below =
    let same : size ≡ number_of (bytes_at buf.bytes at 2) =
    subst (λ (o : Option (List ℕ)). IfSome o (λ bytes. size ≡ number_of (bytes_at bytes at 2))) buf.are told in
    let few = buf.few in
    let there = buf.there in
    let within : at + 2 + i + 1 ≤ length buf.bytes = omega (arith, same, there, below) in (
      subst (λ (o : Option (List ℕ)). IsSomeAnd o (λ bytes. at + 2 + i + 1 ≤ length bytes)) (sym buf.are) within,
      omega (arith, same, few),
    )

-- what the read of a length gives, and of a byte, over blocks
abbrev pub TellsLength : Held → Block → ℕ → ℕ → Type 0
TellsLength h b at size = (image : Image) (class : ℕ) (base : Base) (path : Path) (n : ℕ) (bytes : List ℕ)
    → StandsAt image class base path h b at (form.Buf n)
    → value_at (contents_in image class base h b) path ≡ Some (kept.Buf bytes) → size ≡ length bytes

abbrev pub TellsByte : Held → Block → ℕ → ℕ → ℕ → Type 0
TellsByte h b at i byte = (image : Image) (class : ℕ) (base : Base) (path : Path) (n : ℕ) (bytes : List ℕ)
    → StandsAt image class base path h b at (form.Buf n)
    → value_at (contents_in image class base h b) path ≡ Some (kept.Buf bytes) → i < length bytes
    → byte ≡ slice_index bytes i

module _ (w : Setting) (place : Place) (h : Held) (turns : ℕ) (moment : ℤ) (locals : List Val) where
  abbrev pub seen : State
  seen = record { shared = shared_seen w place h turns moment; locals = locals }

  -- the bytes that stand in a block
  pub block_bytes : (b : Block) (at : ℕ) (spot : Spot) (f : FieldForm) (s : Standing w place h b at spot f)
      (r : BytesRead spot seen)
      → value_at (contents_in w.image w.class spot.base h b) spot.path ≡ Some (kept.Buf r.bytes)
  block_bytes b at spot f s r =
      ap (λ (m : Contents). value_at m spot.path) (sym (spot_holds w place h turns moment b at spot f s)) ∙ r.are

  -- ---- objects and Strs

  module _ (number offset n : ℕ) where
    abbrev pub part_so : List Cell → End Move
    part_so cells = part w number offset n (vals w place cells) seen

    abbrev pub part_next : List Cell → Spot → State → End Move
    part_next rest spot s2 = gives (Onward (At spot ∷ vals w place rest)) s2

    abbrev pub part_field : ImageField
    part_field = record { offset = offset; form = number; n = n }

    pub part_top : FieldsAreOfObjects → (cells : List Cell) → EndsTyped (part_so cells).result → Top IsObject cells
    part_top objects [] typed = absurd typed
    part_top objects (c ∷ rest) typed =
        let e = field_at w (val_of w place c) number offset n seen in
        objects w place c number offset n seen (first_typed e.result e.state (part_next rest) typed)

    module _ (found : FieldsAreFound) (ground : IsGround w place h) (b : Block) (start class : ℕ) (rest : List Cell)
        (typed : EndsTyped (part_so (cell.Object b start class ∷ rest)).result) where
      pub part_found : FieldFound w place h b start class part_field
      part_found =
          let e = field_at w (val_of w place (cell.Object b start class)) number offset n seen in
          found w place h b start class part_field seen ground (first_typed e.result e.state (part_next rest) typed)

      -- where a cell leads to the part
      pub part_ends : (v : Cell) → val_of w place v ≡ At (inside part_found.spot part_found.number)
          → part_so (cell.Object b start class ∷ rest) ≡ gives (Onward (vals w place (v ∷ rest))) seen
      part_ends v is =
          ap (λ (e : End Spot). then_do e (part_next rest))
          (field_ends w place h b start class part_field part_found seen)
          ∙ ap (λ (x : Val). gives (Onward (x ∷ vals w place rest)) seen) (sym is)

  pub object_val : (b : Block) (at class : ℕ) (spot : Spot) → spot_in w place (cell.Object b at class) ≡ Some spot
      → val_of w place (cell.Object b at class) ≡ At spot
  object_val b at class spot e = ap (val_or None) e

  pub str_val : (b : Block) (at size : ℕ) (spot : Spot) → spot_in w place (cell.Str b at size) ≡ Some spot
      → val_of w place (cell.Str b at size) ≡ At spot
  str_val b at size spot e = ap (val_or None) e

  -- ---- Bufs

  module _ (offset : ℕ) where
    abbrev pub size_so : List Cell → End Move
    size_so cells = buf_size w offset (vals w place cells) seen

    abbrev pub size_next : List Cell → Spot → State → End Move
    size_next rest spot s2 =
        then_do (read_bytes spot s2) (λ bytes s3. gives (Onward (Int (pos (length bytes)) ∷ vals w place rest)) s3)

    pub size_top : BufsAreOfObjects → (cells : List Cell) → EndsTyped (size_so cells).result → Top IsObject cells
    size_top objects [] typed = absurd typed
    size_top objects (c ∷ rest) typed =
        let e = buf_at w (val_of w place c) offset seen in
        objects w place c offset seen (first_typed e.result e.state (size_next rest) typed)

    module _ (found : BufsAreFound) (ground : IsGround w place h) (b : Block) (start class : ℕ) (rest : List Cell)
        (typed : EndsTyped (size_so (cell.Object b start class ∷ rest)).result) where
      pub size_found : BufFound w place h b start class offset
      size_found =
          let e = buf_at w (val_of w place (cell.Object b start class)) offset seen in
          found w place h b start class offset seen ground (first_typed e.result e.state (size_next rest) typed)

      size_opened : size_so (cell.Object b start class ∷ rest)
          ≡ size_next rest (inside size_found.spot size_found.number) seen
      size_opened =
          ap (λ (e : End Spot). then_do e (size_next rest)) (buf_ends w place h b start class offset size_found seen)

      pub size_ends : (size : ℕ) → TellsLength h b (start + offset) size
          → size_so (cell.Object b start class ∷ rest) ≡ gives (Onward (vals w place (cell.Int (pos size) ∷ rest))) seen
      size_ends size tells =
          let spot = inside size_found.spot size_found.number in
          let again : EndsTyped (size_next rest spot seen).result =
          subst (λ (e : End Move). EndsTyped e.result) size_opened typed in
          let e = read_bytes spot seen in
          let r = bytes_read spot seen (first_typed e.result e.state
          (λ bytes s3. gives (Onward (Int (pos (length bytes)) ∷ vals w place rest)) s3) again) in
          let same : size ≡ length r.bytes =
          tells w.image w.class spot.base spot.path size_found.room r.bytes size_found.standing.stands
          (block_bytes b (start + offset) spot (form.Buf size_found.room) size_found.standing r) in
          size_opened
          ∙ ap (λ (x : End (List ℕ)). then_do x
          (λ bytes s3. gives (Onward (Int (pos (length bytes)) ∷ vals w place rest)) s3)) r.ends
          ∙ ap (λ (m : ℕ). gives (Onward (Int (pos m) ∷ vals w place rest)) seen) (sym same)

  -- a byte of one
  module _ (offset capacity : ℕ) where
    abbrev pub byte_so : List Cell → End Move
    byte_so cells = buf_get w offset capacity (vals w place cells) seen

    abbrev pub byte_put : List Cell → List ℕ → ℕ → State → End Move
    byte_put rest bytes at s5 = gives (Onward (Int (pos (slice_index bytes at)) ∷ vals w place rest)) s5

    abbrev pub byte_in : List Cell → Val → List ℕ → State → End Move
    byte_in rest i bytes s4 = then_do (answers (index_of (length bytes) i) s4) (byte_put rest bytes)

    abbrev pub byte_next : List Cell → Val → Spot → State → End Move
    byte_next rest i spot s3 = then_do (read_bytes spot s3) (byte_in rest i)

    abbrev pub buf_field : ImageField
    buf_field = record { offset = offset; form = 7; n = capacity }

    pub byte_int : (cells : List Cell) → EndsTyped (byte_so cells).result → Top IsInt cells
    byte_int [] typed = absurd typed
    byte_int (c ∷ []) typed = absurd typed
    byte_int (c ∷ o ∷ rest) typed =
        int_wanted w place c
        (first_typed (int_cell (val_of w place c)) seen
        (λ i s2. then_do (field_at w (val_of w place o) 7 offset capacity s2) (byte_next rest i)) typed)

    pub byte_top : FieldsAreOfObjects → (n : ℤ) (cells : List Cell) → EndsTyped (byte_so (cell.Int n ∷ cells)).result
        → Top IsObject cells
    byte_top objects n [] typed = absurd typed
    byte_top objects n (c ∷ rest) typed =
        let e = field_at w (val_of w place c) 7 offset capacity seen in
        objects w place c 7 offset capacity seen (first_typed e.result e.state (byte_next rest (Int n)) typed)

    module _ (found : FieldsAreFound) (ground : IsGround w place h) (b : Block) (start class : ℕ) (n : ℤ)
        (rest : List Cell) (typed : EndsTyped (byte_so (cell.Int n ∷ cell.Object b start class ∷ rest)).result) where
      pub byte_found : FieldFound w place h b start class buf_field
      byte_found =
          let e = field_at w (val_of w place (cell.Object b start class)) 7 offset capacity seen in
          found w place h b start class buf_field seen ground
          (first_typed e.result e.state (byte_next rest (Int n)) typed)

      abbrev pub byte_spot : Spot
      byte_spot = inside byte_found.spot byte_found.number

      byte_opened : byte_so (cell.Int n ∷ cell.Object b start class ∷ rest) ≡ byte_next rest (Int n) byte_spot seen
      byte_opened =
          ap (λ (e : End Spot). then_do e (byte_next rest (Int n)))
          (field_ends w place h b start class buf_field byte_found seen)

      pub byte_read : BytesRead byte_spot seen
      byte_read =
          let again : EndsTyped (byte_next rest (Int n) byte_spot seen).result =
          subst (λ (e : End Move). EndsTyped e.result) byte_opened typed in
          let e = read_bytes byte_spot seen in
          bytes_read byte_spot seen (first_typed e.result e.state (byte_in rest (Int n)) again)

      -- the Buf has as many bytes as is told
      pub byte_long : (size : ℕ) → TellsLength h b (start + offset) size → size ≡ length byte_read.bytes
      byte_long size tells =
          tells w.image w.class byte_spot.base byte_spot.path capacity byte_read.bytes byte_found.standing.stands
          (block_bytes b (start + offset) byte_spot (form.Buf capacity) byte_found.standing byte_read)

      by_index : (size : ℕ) → TellsLength h b (start + offset) size
          → byte_so (cell.Int n ∷ cell.Object b start class ∷ rest)
          ≡ then_do (answers (index_within size n) seen) (byte_put rest byte_read.bytes)
      by_index size tells =
          byte_opened ∙ ap (λ (x : End (List ℕ)). then_do x (byte_in rest (Int n))) byte_read.ends
          ∙ ap (λ (m : ℕ). then_do (answers (index_within m n) seen) (byte_put rest byte_read.bytes))
          (sym (byte_long size tells))

      pub byte_traps : (size : ℕ) (trap : Trap) → TellsLength h b (start + offset) size
          → index_within size n ≡ Err (Traps trap)
          → byte_so (cell.Int n ∷ cell.Object b start class ∷ rest) ≡ answers (Err (Traps trap)) seen
      byte_traps size trap tells out =
          by_index size tells
          ∙ ap (λ (r : Result ℕ Stop). then_do (answers r seen) (byte_put rest byte_read.bytes)) out

      pub byte_ends : (size i byte : ℕ) → TellsLength h b (start + offset) size → index_within size n ≡ Ok i → i < size
          → TellsByte h b (start + offset) i byte
          → byte_so (cell.Int n ∷ cell.Object b start class ∷ rest)
          ≡ gives (Onward (vals w place (cell.Int (pos byte) ∷ rest))) seen
      byte_ends size i byte tells within below one =
          let same : byte ≡ slice_index byte_read.bytes i =
          one w.image w.class byte_spot.base byte_spot.path capacity byte_read.bytes byte_found.standing.stands
          (block_bytes b (start + offset) byte_spot (form.Buf capacity) byte_found.standing byte_read)
          (subst (λ (m : ℕ). i < m) (byte_long size tells) below) in
          by_index size tells
          ∙ ap (λ (r : Result ℕ Stop). then_do (answers r seen) (byte_put rest byte_read.bytes)) within
          ∙ ap (λ (m : ℕ). gives (Onward (Int (pos m) ∷ vals w place rest)) seen) (sym same)
