-- That reads and stores of elements are done as the table of instructions has them.
use Rattle.std.proofs.Common.{◌≡◌, ◌+◌, ◌*◌, ◌<◌, ◌≤◌, ℕ, ℤ, List, [], ◌∷◌, length, Ok, Err, ap, subst, ◌∙◌, arith}
use Rattle.std.specs.Prelude.{IsSome}
use Rattle.sed_value.specs.declared.slot_type.Primitive.{Primitive}
use Rattle.sed_value.specs.SlotType.{width_of}
use Rattle.sed_engine.specs.declared.call.Place.{Place}
use Rattle.sed_engine.specs.declared.trap.Trap.{Trap}
use Rattle.sed_engine.specs.declared.trap.Trap.TheVariants.{NullReference}
use Rattle.sed_engine.specs.State.{End, gives}
use Rattle.sed_engine.specs.Stops.{Traps}
use Rattle.sed_engine.specs.Texts.{index_within}
use Rattle.sed_engine.specs.Values.{Val}
use Rattle.scode_image.specs.declared.image.Image.{Image}
use Rattle.scode_code.specs.Effect.{array_get, array_put}
use Rattle.scode_code.specs.Machine.{Move, Onward}
use Rattle.scode_mem.specs.declared.block.Block.{Block}
use Rattle.scode_mem.specs.Blocks.{Held}
use Rattle.scode_cells.specs.declared.cell.Cell.{Cell}
use Rattle.scode_cells.specs.declared.cell.Cell.TheVariants as cell
use Rattle.scode_cells.specs.Frames.{Frames, running, with_stack}
use Rattle.scode_state.specs.Cells.{number_for}
use Rattle.scode_vm.specs.Seen.{vals}
use Rattle.scode_vm.specs.Doings.{Doing, EndsTyped, IsTypedOn, ending, state_seen}
use Rattle.scode_vm.specs.Tops.{IsInt, Top}
use Rattle.scode_access.specs.Found.{ElementsStand, FieldsAreFound, FieldsAreOfObjects}
use Rattle.scode_access.specs.Tops.{IsObject}
use Rattle.scode_access.specs.Within.{DoesIn, MayDoIn, setting}
use Rattle.scode_access.proofs.DoneFields.{Stands}
use Rattle.scode_access.proofs.Going.{InEach, goes_on, goes_on_there, has_room, shared_in, traps}
use Rattle.scode_access.proofs.OnArrays as array
use Rattle.scode_access.proofs.Reading.{ReadsCell}
use Rattle.scode_access.proofs.Storing.{StoresCell}

module _ (objects : FieldsAreOfObjects) (found : FieldsAreFound) (elements : ElementsStand) (p : Primitive)
    (offset count : ℕ) (image : Image) (s : Frames) (h : Held) where
  abbrev locals_in : ℕ → Place → List Val
  locals_in class place = vals (setting image class) place (running s).locals

  -- ---- get

  abbrev gets : Doing
  gets = λ w. array_get w p offset count

  abbrev got : ℕ → Place → ℕ → ℤ → List Cell → End Move
  got class place turns moment cells =
      array.got (setting image class) place h turns moment (locals_in class place) p offset count cells

  got_on : (class : ℕ) (place : Place) (turns : ℕ) (moment : ℤ) (cells : List Cell) → (running s).stack ≡ cells
      → IsTypedOn gets (setting image class) place (shared_in image class place h turns moment) s
      → EndsTyped (got class place turns moment cells).result
  got_on class place turns moment cells e typed =
      subst (λ (x : List Cell). EndsTyped (got class place turns moment x).result) e typed.ends

  pub get_int : MayDoIn gets image s h → Top IsInt (running s).stack
  get_int m =
      array.get_int (setting image m.class) m.place h m.turns m.moment (locals_in m.class m.place) p offset count
      (running s).stack m.typed.ends

  pub get_object : MayDoIn gets image s h → (n : ℤ) (rest : List Cell) → (running s).stack ≡ cell.Int n ∷ rest
      → Top IsObject rest
  get_object m n rest e =
      array.get_object (setting image m.class) m.place h m.turns m.moment (locals_in m.class m.place) p offset count
      objects n rest (got_on m.class m.place m.turns m.moment (cell.Int n ∷ rest) e m.typed)

  pub get_null : (n : ℤ) (rest : List Cell) → (running s).stack ≡ cell.Int n ∷ cell.Null ∷ rest → (new : Frames)
      → new ≡ with_stack s rest → DoesIn gets image s h (Err NullReference) new h
  get_null n rest e new is =
      traps gets image s new h rest NullReference is (λ class place turns moment ground typed.
      ap (got class place turns moment) e)

  module _ (n : ℤ) (b : Block) (start k : ℕ) (rest : List Cell)
      (e : (running s).stack ≡ cell.Int n ∷ cell.Object b start k ∷ rest) where
    pub get_traps : (trap : Trap) → index_within count n ≡ Err (Traps trap) → (new : Frames) → new ≡ with_stack s rest
        → DoesIn gets image s h (Err trap) new h
    get_traps trap out new is =
        traps gets image s new h rest trap is (λ class place turns moment ground typed.
        ap (got class place turns moment) e
        ∙ array.index_traps (setting image class) place h turns moment (locals_in class place) p offset count found
        elements ground b start k n
        (array.read_next (setting image class) place h turns moment (locals_in class place) p offset count rest)
        (got_on class place turns moment (cell.Int n ∷ cell.Object b start k ∷ rest) e typed) trap out)

    module _ (i : ℕ) (below : i < count) (within : index_within count n ≡ Ok i) where
      pub get_stands : (m : MayDoIn gets image s h)
          → Stands image m.class m.place h b (start + offset + i * width_of p) p
      get_stands m = (
        _,
        array.get_stands (setting image m.class) m.place h m.turns m.moment (locals_in m.class m.place) p offset count
            found elements m.ground b start k n rest i below within
            (got_on m.class m.place m.turns m.moment (cell.Int n ∷ cell.Object b start k ∷ rest) e m.typed),
      )

      gets_so : (v : Cell) → ReadsCell p h b (start + offset + i * width_of p) v
          → InEach gets image s h (λ class place turns moment.
          ending gets (setting image class) place s (shared_in image class place h turns moment)
          ≡ gives (Onward (vals (setting image class) place (v ∷ rest)))
          (state_seen (setting image class) place s (shared_in image class place h turns moment)))
      gets_so v reads class place turns moment ground typed =
          ap (got class place turns moment) e
          ∙ array.get_ends (setting image class) place h turns moment (locals_in class place) p offset count found
          elements ground b start k n rest i below within v reads
          (got_on class place turns moment (cell.Int n ∷ cell.Object b start k ∷ rest) e typed)

      pub get_room : MayDoIn gets image s h → (v : Cell) → ReadsCell p h b (start + offset + i * width_of p) v
          → length (running s).locals + length (v ∷ rest) ≤ s.most
      get_room m v reads =
          has_room gets image s h m (v ∷ rest)
          (state_seen (setting image m.class) m.place s (shared_in image m.class m.place h m.turns m.moment))
          (gets_so v reads m.class m.place m.turns m.moment m.ground m.typed)

      pub get_does : (v : Cell) → ReadsCell p h b (start + offset + i * width_of p) v → (new : Frames)
          → new ≡ with_stack s (v ∷ rest) → DoesIn gets image s h (Ok tt) new h
      get_does v reads new is = goes_on_there gets image s new h (v ∷ rest) is (gets_so v reads)

  -- ---- put

  abbrev puts : Doing
  puts = λ w. array_put w p offset count

  abbrev put_so : ℕ → Place → ℕ → ℤ → List Cell → End Move
  put_so class place turns moment cells =
      array.put_so (setting image class) place h turns moment (locals_in class place) p offset count cells

  put_on : (class : ℕ) (place : Place) (turns : ℕ) (moment : ℤ) (cells : List Cell) → (running s).stack ≡ cells
      → IsTypedOn puts (setting image class) place (shared_in image class place h turns moment) s
      → EndsTyped (put_so class place turns moment cells).result
  put_on class place turns moment cells e typed =
      subst (λ (x : List Cell). EndsTyped (put_so class place turns moment x).result) e typed.ends

  pub put_some : MayDoIn puts image s h → 0 < length (running s).stack
  put_some m = not_empty (running s).stack m.typed.ends
    where
      not_empty : (cells : List Cell) → EndsTyped (put_so m.class m.place m.turns m.moment cells).result
          → 0 < length cells
      not_empty [] typed = absurd typed
      not_empty (c ∷ rest) typed = omega arith

  module _ (v : Cell) (cells : List Cell) (e : (running s).stack ≡ v ∷ cells) (m : MayDoIn puts image s h) where
    put_typed : EndsTyped (put_so m.class m.place m.turns m.moment (v ∷ cells)).result
    put_typed = put_on m.class m.place m.turns m.moment (v ∷ cells) e m.typed

    pub put_number : IsSome (number_for p v)
    put_number =
        (array.put_kind (setting image m.class) m.place h m.turns m.moment (locals_in m.class m.place) p offset count v
        cells put_typed).number

    pub put_int : Top IsInt cells
    put_int =
        array.put_int (setting image m.class) m.place h m.turns m.moment (locals_in m.class m.place) p offset count v
        cells put_typed

  pub put_object : MayDoIn puts image s h → (v : Cell) (n : ℤ) (rest : List Cell)
      → (running s).stack ≡ v ∷ cell.Int n ∷ rest → Top IsObject rest
  put_object m v n rest e =
      array.put_object (setting image m.class) m.place h m.turns m.moment (locals_in m.class m.place) p offset count
      objects v n rest (put_on m.class m.place m.turns m.moment (v ∷ cell.Int n ∷ rest) e m.typed)

  pub put_null : (v : Cell) (n : ℤ) (rest : List Cell) → (running s).stack ≡ v ∷ cell.Int n ∷ cell.Null ∷ rest
      → (new : Frames) → new ≡ with_stack s rest → DoesIn puts image s h (Err NullReference) new h
  put_null v n rest e new is =
      traps puts image s new h rest NullReference is (λ class place turns moment ground typed.
      ap (put_so class place turns moment) e
      ∙ array.put_opened (setting image class) place h turns moment (locals_in class place) p offset count v (cell.Int n)
      cell.Null rest
      (array.put_kind (setting image class) place h turns moment (locals_in class place) p offset count v
      (cell.Int n ∷ cell.Null ∷ rest)
      (put_on class place turns moment (v ∷ cell.Int n ∷ cell.Null ∷ rest) e typed)))

  module _ (v : Cell) (n : ℤ) (b : Block) (start k : ℕ) (rest : List Cell)
      (e : (running s).stack ≡ v ∷ cell.Int n ∷ cell.Object b start k ∷ rest) where
    pub put_traps : (trap : Trap) → index_within count n ≡ Err (Traps trap) → (new : Frames) → new ≡ with_stack s rest
        → DoesIn puts image s h (Err trap) new h
    put_traps trap out new is =
        traps puts image s new h rest trap is (λ class place turns moment ground typed.
        ap (put_so class place turns moment) e
        ∙ array.put_traps (setting image class) place h turns moment (locals_in class place) p offset count found
        elements ground b start k n rest v
        (put_on class place turns moment (v ∷ cell.Int n ∷ cell.Object b start k ∷ rest) e typed) trap out)

    module _ (i : ℕ) (below : i < count) (within : index_within count n ≡ Ok i) where
      pub put_stands : (m : MayDoIn puts image s h)
          → Stands image m.class m.place h b (start + offset + i * width_of p) p
      put_stands m = (
        _,
        array.put_stands (setting image m.class) m.place h m.turns m.moment (locals_in m.class m.place) p offset count
            found elements m.ground b start k n rest i below within v
            (put_on m.class m.place m.turns m.moment (v ∷ cell.Int n ∷ cell.Object b start k ∷ rest) e m.typed),
      )

      pub put_does : (after : Held) → StoresCell p h after b (start + offset + i * width_of p) v → (new : Frames)
          → new ≡ with_stack s rest → DoesIn puts image s h (Ok tt) new after
      put_does after stores new is =
          goes_on puts image s new h after rest is
          (λ class place turns moment ground typed.
          ap (put_so class place turns moment) e
          ∙ (array.put_done (setting image class) place h turns moment (locals_in class place) p offset count found
          elements ground b start k n rest i below within v
          (put_on class place turns moment (v ∷ cell.Int n ∷ cell.Object b start k ∷ rest) e typed) after stores).ends)
          (λ class place turns moment ground typed.
          (array.put_done (setting image class) place h turns moment (locals_in class place) p offset count found
          elements ground b start k n rest i below within v
          (put_on class place turns moment (v ∷ cell.Int n ∷ cell.Object b start k ∷ rest) e typed) after stores).keeps)
