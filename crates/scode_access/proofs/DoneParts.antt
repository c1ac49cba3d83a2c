-- That instructions on objects, Strs and Bufs inside an object are done as the table of instructions has them.
use Rattle.std.proofs.Common.{◌≡◌, ◌+◌, ◌<◌, ◌≤◌, ℕ, ℤ, pos, List, [], ◌∷◌, length, Ok, Err, ap, subst, ◌∙◌}
use Rattle.sed_typed.specs.declared.program.FieldForm.{FieldForm}
use Rattle.sed_typed.specs.declared.program.FieldForm.TheVariants as form
use Rattle.sed_engine.specs.declared.call.Place.{Place}
use Rattle.sed_engine.specs.declared.trap.Trap.{Trap}
use Rattle.sed_engine.specs.declared.trap.Trap.TheVariants.{NullReference}
use Rattle.sed_engine.specs.State.{End, gives}
use Rattle.sed_engine.specs.Steps.{inside}
use Rattle.sed_engine.specs.Stops.{Traps}
use Rattle.sed_engine.specs.Texts.{index_within}
use Rattle.sed_engine.specs.Values.{Spot, Val, At}
use Rattle.scode_image.specs.declared.image.Image.{Image}
use Rattle.scode_code.specs.Effect.{buf_get, buf_size, part}
use Rattle.scode_code.specs.Machine.{Move, Onward}
use Rattle.scode_code.specs.Tables.{form_of}
use Rattle.scode_mem.specs.declared.block.Block.{Block}
use Rattle.scode_mem.specs.Blocks.{Held}
use Rattle.scode_cells.specs.declared.cell.Cell.{Cell}
use Rattle.scode_cells.specs.declared.cell.Cell.TheVariants as cell
use Rattle.scode_cells.specs.Frames.{Frames, running, with_stack}
use Rattle.scode_vm.specs.Seen.{val_of, vals}
use Rattle.scode_vm.specs.Doings.{Doing, EndsTyped, IsTypedOn, ending, state_seen}
use Rattle.scode_vm.specs.Tops.{IsInt, Top}
use Rattle.scode_access.specs.Found.{BufsAreFound, BufsAreOfObjects, FieldFound, FieldsAreFound, FieldsAreOfObjects, ObjectsAreLedTo, Standing, StrsAreLedTo}
use Rattle.scode_access.specs.Tops.{IsObject}
use Rattle.scode_access.specs.Within.{DoesIn, IsGround, MayDoIn, setting}
use Rattle.scode_access.proofs.Going.{InEach, goes_on_there, has_room, shared_in, traps}
use Rattle.scode_access.proofs.OnParts as parts
use Rattle.scode_access.proofs.OnParts.{TellsByte, TellsLength}

abbrev pub StandsAs : Image → ℕ → Place → Held → Block → ℕ → FieldForm → Type 0
StandsAs image class place h b at f = (spot : Spot) × Standing (setting image class) place h b at spot f

module _ (image : Image) (s : Frames) (h : Held) where
  abbrev locals_in : ℕ → Place → List Val
  locals_in class place = vals (setting image class) place (running s).locals

  -- ---- objects and Strs

  module _ (objects : FieldsAreOfObjects) (found : FieldsAreFound) (number offset n : ℕ) where
    abbrev takes : Doing
    takes = λ w. part w number offset n

    abbrev taken : ℕ → Place → ℕ → ℤ → List Cell → End Move
    taken class place turns moment cells =
        parts.part_so (setting image class) place h turns moment (locals_in class place) number offset n cells

    taken_on : (class : ℕ) (place : Place) (turns : ℕ) (moment : ℤ) (cells : List Cell) → (running s).stack ≡ cells
        → IsTypedOn takes (setting image class) place (shared_in image class place h turns moment) s
        → EndsTyped (taken class place turns moment cells).result
    taken_on class place turns moment cells e typed =
        subst (λ (x : List Cell). EndsTyped (taken class place turns moment x).result) e typed.ends

    pub part_pops : MayDoIn takes image s h → Top IsObject (running s).stack
    part_pops m =
        parts.part_top (setting image m.class) m.place h m.turns m.moment (locals_in m.class m.place) number offset n
        objects (running s).stack m.typed.ends

    pub part_null : (rest : List Cell) → (running s).stack ≡ cell.Null ∷ rest → (new : Frames) → new ≡ with_stack s rest
        → DoesIn takes image s h (Err NullReference) new h
    part_null rest e new is =
        traps takes image s new h rest NullReference is (λ class place turns moment ground typed.
        ap (taken class place turns moment) e)

    module _ (b : Block) (start k : ℕ) (rest : List Cell) (e : (running s).stack ≡ cell.Object b start k ∷ rest) where
      abbrev part_found : (class : ℕ) (place : Place) (turns : ℕ) (moment : ℤ) → IsGround (setting image class) place h
          → IsTypedOn takes (setting image class) place (shared_in image class place h turns moment) s
          → FieldFound (setting image class) place h b start k (record { offset = offset; form = number; n = n })
      part_found class place turns moment ground typed =
          parts.part_found (setting image class) place h turns moment (locals_in class place) number offset n found ground
          b start k rest (taken_on class place turns moment (cell.Object b start k ∷ rest) e typed)

      pub part_stands : (m : MayDoIn takes image s h)
          → StandsAs image m.class m.place h b (start + offset)
          (form_of (record { offset = offset; form = number; n = n }))
      part_stands m =
          let f = part_found m.class m.place m.turns m.moment m.ground m.typed in
          (inside f.spot f.number, f.standing)

      -- a cell that leads to it wherever it stands
      abbrev pub LeadsThere : Cell → Type 0
      LeadsThere v = (class : ℕ) (place : Place) (spot : Spot) → IsGround (setting image class) place h
          → Standing (setting image class) place h b (start + offset) spot
          (form_of (record { offset = offset; form = number; n = n }))
          → val_of (setting image class) place v ≡ At spot

      takes_so : (v : Cell) → LeadsThere v
          → InEach takes image s h (λ class place turns moment.
          ending takes (setting image class) place s (shared_in image class place h turns moment)
          ≡ gives (Onward (vals (setting image class) place (v ∷ rest)))
          (state_seen (setting image class) place s (shared_in image class place h turns moment)))
      takes_so v leads class place turns moment ground typed =
          let f = part_found class place turns moment ground typed in
          ap (taken class place turns moment) e
          ∙ parts.part_ends (setting image class) place h turns moment (locals_in class place) number offset n found
          ground b start k rest (taken_on class place turns moment (cell.Object b start k ∷ rest) e typed) v
          (leads class place (inside f.spot f.number) ground f.standing)

      pub part_room : MayDoIn takes image s h → (v : Cell) → LeadsThere v
          → length (running s).locals + length (v ∷ rest) ≤ s.most
      part_room m v leads =
          has_room takes image s h m (v ∷ rest)
          (state_seen (setting image m.class) m.place s (shared_in image m.class m.place h m.turns m.moment))
          (takes_so v leads m.class m.place m.turns m.moment m.ground m.typed)

      pub part_does : (v : Cell) → LeadsThere v → (new : Frames) → new ≡ with_stack s (v ∷ rest)
          → DoesIn takes image s h (Ok tt) new h
      part_does v leads new is = goes_on_there takes image s new h (v ∷ rest) is (takes_so v leads)

  -- the cells that lead to an object and to a Str
  pub object_leads : ObjectsAreLedTo → (class offset : ℕ) (b : Block) (start : ℕ) (k : ℕ) (place : Place) (spot : Spot)
      → IsGround (setting image k) place h
      → Standing (setting image k) place h b (start + offset) spot (form.Object (record { 0 = class }))
      → val_of (setting image k) place (cell.Object b (start + offset) class) ≡ At spot
  object_leads led class offset b start k place spot ground stands =
      parts.object_val (setting image k) place h 0 (pos 0) [] b (start + offset) class spot
      (led (setting image k) place h b (start + offset) class spot ground stands)

  pub str_leads : StrsAreLedTo → (size offset : ℕ) (b : Block) (start : ℕ) (k : ℕ) (place : Place) (spot : Spot)
      → IsGround (setting image k) place h
      → Standing (setting image k) place h b (start + offset) spot (form.Str size)
      → val_of (setting image k) place (cell.Str b (start + offset) size) ≡ At spot
  str_leads led size offset b start k place spot ground stands =
      parts.str_val (setting image k) place h 0 (pos 0) [] b (start + offset) size spot
      (led (setting image k) place h b (start + offset) size spot ground stands).2

  -- ---- the size of a Buf

  module _ (objects : BufsAreOfObjects) (found : BufsAreFound) (offset : ℕ) where
    abbrev sizes : Doing
    sizes = λ w. buf_size w offset

    abbrev sized : ℕ → Place → ℕ → ℤ → List Cell → End Move
    sized class place turns moment cells =
        parts.size_so (setting image class) place h turns moment (locals_in class place) offset cells

    sized_on : (class : ℕ) (place : Place) (turns : ℕ) (moment : ℤ) (cells : List Cell) → (running s).stack ≡ cells
        → IsTypedOn sizes (setting image class) place (shared_in image class place h turns moment) s
        → EndsTyped (sized class place turns moment cells).result
    sized_on class place turns moment cells e typed =
        subst (λ (x : List Cell). EndsTyped (sized class place turns moment x).result) e typed.ends

    pub size_pops : MayDoIn sizes image s h → Top IsObject (running s).stack
    size_pops m =
        parts.size_top (setting image m.class) m.place h m.turns m.moment (locals_in m.class m.place) offset objects
        (running s).stack m.typed.ends

    pub size_null : (rest : List Cell) → (running s).stack ≡ cell.Null ∷ rest → (new : Frames) → new ≡ with_stack s rest
        → DoesIn sizes image s h (Err NullReference) new h
    size_null rest e new is =
        traps sizes image s new h rest NullReference is (λ class place turns moment ground typed.
        ap (sized class place turns moment) e)

    module _ (b : Block) (start k : ℕ) (rest : List Cell) (e : (running s).stack ≡ cell.Object b start k ∷ rest) where
      pub size_stands : (m : MayDoIn sizes image s h)
          → (room : ℕ) × StandsAs image m.class m.place h b (start + offset) (form.Buf room)
      size_stands m =
          let f = parts.size_found (setting image m.class) m.place h m.turns m.moment (locals_in m.class m.place) offset
          found m.ground b start k rest
          (sized_on m.class m.place m.turns m.moment (cell.Object b start k ∷ rest) e m.typed) in
          (f.room, (inside f.spot f.number, f.standing))

      sizes_so : (size : ℕ) → TellsLength h b (start + offset) size
          → InEach sizes image s h (λ class place turns moment.
          ending sizes (setting image class) place s (shared_in image class place h turns moment)
          ≡ gives (Onward (vals (setting image class) place (cell.Int (pos size) ∷ rest)))
          (state_seen (setting image class) place s (shared_in image class place h turns moment)))
      sizes_so size tells class place turns moment ground typed =
          ap (sized class place turns moment) e
          ∙ parts.size_ends (setting image class) place h turns moment (locals_in class place) offset found ground b start
          k rest (sized_on class place turns moment (cell.Object b start k ∷ rest) e typed) size tells

      pub size_room : MayDoIn sizes image s h → (size : ℕ) → TellsLength h b (start + offset) size
          → length (running s).locals + length (cell.Int (pos size) ∷ rest) ≤ s.most
      size_room m size tells =
          has_room sizes image s h m (cell.Int (pos size) ∷ rest)
          (state_seen (setting image m.class) m.place s (shared_in image m.class m.place h m.turns m.moment))
          (sizes_so size tells m.class m.place m.turns m.moment m.ground m.typed)

      pub size_does : (size : ℕ) → TellsLength h b (start + offset) size → (new : Frames)
          → new ≡ with_stack s (cell.Int (pos size) ∷ rest) → DoesIn sizes image s h (Ok tt) new h
      size_does size tells new is =
          goes_on_there sizes image s new h (cell.Int (pos size) ∷ rest) is (sizes_so size tells)

  -- ---- a byte of a Buf

  module _ (objects : FieldsAreOfObjects) (found : FieldsAreFound) (offset capacity : ℕ) where
    abbrev bytes : Doing
    bytes = λ w. buf_get w offset capacity

    abbrev byte_so : ℕ → Place → ℕ → ℤ → List Cell → End Move
    byte_so class place turns moment cells =
        parts.byte_so (setting image class) place h turns moment (locals_in class place) offset capacity cells

    byte_on : (class : ℕ) (place : Place) (turns : ℕ) (moment : ℤ) (cells : List Cell) → (running s).stack ≡ cells
        → IsTypedOn bytes (setting image class) place (shared_in image class place h turns moment) s
        → EndsTyped (byte_so class place turns moment cells).result
    byte_on class place turns moment cells e typed =
        subst (λ (x : List Cell). EndsTyped (byte_so class place turns moment x).result) e typed.ends

    pub byte_int : MayDoIn bytes image s h → Top IsInt (running s).stack
    byte_int m =
        parts.byte_int (setting image m.class) m.place h m.turns m.moment (locals_in m.class m.place) offset capacity
        (running s).stack m.typed.ends

    pub byte_object : MayDoIn bytes image s h → (n : ℤ) (rest : List Cell) → (running s).stack ≡ cell.Int n ∷ rest
        → Top IsObject rest
    byte_object m n rest e =
        parts.byte_top (setting image m.class) m.place h m.turns m.moment (locals_in m.class m.place) offset capacity
        objects n rest (byte_on m.class m.place m.turns m.moment (cell.Int n ∷ rest) e m.typed)

    pub byte_null : (n : ℤ) (rest : List Cell) → (running s).stack ≡ cell.Int n ∷ cell.Null ∷ rest → (new : Frames)
        → new ≡ with_stack s rest → DoesIn bytes image s h (Err NullReference) new h
    byte_null n rest e new is =
        traps bytes image s new h rest NullReference is (λ class place turns moment ground typed.
        ap (byte_so class place turns moment) e)

    module _ (n : ℤ) (b : Block) (start k : ℕ) (rest : List Cell)
        (e : (running s).stack ≡ cell.Int n ∷ cell.Object b start k ∷ rest) where
      abbrev all : List Cell
      all = cell.Int n ∷ cell.Object b start k ∷ rest

      pub byte_stands : (m : MayDoIn bytes image s h)
          → StandsAs image m.class m.place h b (start + offset) (form.Buf capacity)
      byte_stands m =
          let f = parts.byte_found (setting image m.class) m.place h m.turns m.moment (locals_in m.class m.place) offset
          capacity found m.ground b start k n rest (byte_on m.class m.place m.turns m.moment all e m.typed) in
          (inside f.spot f.number, f.standing)

      -- the Buf has as many bytes as is told, and so the last of them within its room
      pub byte_traps : (size : ℕ) (trap : Trap) → TellsLength h b (start + offset) size
          → index_within size n ≡ Err (Traps trap) → (new : Frames) → new ≡ with_stack s rest
          → DoesIn bytes image s h (Err trap) new h
      byte_traps size trap tells out new is =
          traps bytes image s new h rest trap is (λ class place turns moment ground typed.
          ap (byte_so class place turns moment) e
          ∙ parts.byte_traps (setting image class) place h turns moment (locals_in class place) offset capacity found
          ground b start k n rest (byte_on class place turns moment all e typed) size trap tells out)

      module _ (size i byte : ℕ) (tells : TellsLength h b (start + offset) size) (within : index_within size n ≡ Ok i)
          (below : i < size) (one : TellsByte h b (start + offset) i byte) where
        bytes_so : InEach bytes image s h (λ class place turns moment.
            ending bytes (setting image class) place s (shared_in image class place h turns moment)
            ≡ gives (Onward (vals (setting image class) place (cell.Int (pos byte) ∷ rest)))
            (state_seen (setting image class) place s (shared_in image class place h turns moment)))
        bytes_so class place turns moment ground typed =
            ap (byte_so class place turns moment) e
            ∙ parts.byte_ends (setting image class) place h turns moment (locals_in class place) offset capacity found
            ground b start k n rest (byte_on class place turns moment all e typed) size i byte tells within below one

        pub byte_room : MayDoIn bytes image s h
            → length (running s).locals + length (cell.Int (pos byte) ∷ rest) ≤ s.most
        byte_room m =
            has_room bytes image s h m (cell.Int (pos byte) ∷ rest)
            (state_seen (setting image m.class) m.place s (shared_in image m.class m.place h m.turns m.moment))
            (bytes_so m.class m.place m.turns m.moment m.ground m.typed)

        pub byte_does : (new : Frames) → new ≡ with_stack s (cell.Int (pos byte) ∷ rest)
            → DoesIn bytes image s h (Ok tt) new h
        byte_does new is = goes_on_there bytes image s new h (cell.Int (pos byte) ∷ rest) is bytes_so
