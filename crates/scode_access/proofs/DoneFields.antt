-- That reads and stores of fields are done as the table of instructions has them.
use Rattle.std.proofs.Common.{◌≡◌, ◌+◌, ◌<◌, ◌≤◌, ℕ, ℤ, List, [], ◌∷◌, length, Ok, Err, ap, subst, ◌∙◌, arith}
use Rattle.std.specs.Prelude.{IsSome}
use Rattle.sed_value.specs.declared.slot_type.Primitive.{Primitive}
use Rattle.sed_typed.specs.declared.program.FieldForm.TheVariants as form
use Rattle.sed_engine.specs.declared.call.Place.{Place}
use Rattle.sed_engine.specs.declared.trap.Trap.TheVariants.{NullReference}
use Rattle.sed_engine.specs.State.{gives}
use Rattle.sed_engine.specs.Steps.{inside}
use Rattle.sed_engine.specs.Values.{Spot, Val}
use Rattle.scode_image.specs.declared.image.Image.{Image}
use Rattle.scode_code.specs.Effect.{get, put}
use Rattle.scode_code.specs.Machine.{Onward}
use Rattle.scode_mem.specs.declared.block.Block.{Block}
use Rattle.scode_mem.specs.Blocks.{Held}
use Rattle.scode_cells.specs.declared.cell.Cell.{Cell}
use Rattle.scode_cells.specs.declared.cell.Cell.TheVariants as cell
use Rattle.scode_cells.specs.Frames.{Frames, running, with_stack}
use Rattle.scode_state.specs.Cells.{number_for}
use Rattle.scode_vm.specs.Seen.{vals}
use Rattle.scode_vm.specs.Doings.{Doing, EndsTyped, IsTypedOn, ending, state_seen}
use Rattle.scode_vm.specs.Tops.{Top}
use Rattle.scode_access.specs.Found.{FieldsAreFound, FieldsAreOfObjects, Standing}
use Rattle.scode_access.specs.Tops.{IsObject}
use Rattle.scode_access.specs.Within.{DoesIn, MayDoIn, setting}
use Rattle.scode_access.proofs.Going.{InEach, goes_on, goes_on_there, has_room, shared_in, traps}
use Rattle.scode_access.proofs.OnFields as field
use Rattle.scode_access.proofs.Reading.{ReadsCell, prim_stands}
use Rattle.scode_access.proofs.Storing.{StoresCell}

-- a part that stands somewhere
abbrev pub Stands : Image → ℕ → Place → Held → Block → ℕ → Primitive → Type 0
Stands image class place h b at p = (spot : Spot) × Standing (setting image class) place h b at spot (form.Prim p)

module _ (objects : FieldsAreOfObjects) (found : FieldsAreFound) (p : Primitive) (offset : ℕ) (image : Image) (s : Frames)
    (h : Held) where
  abbrev locals_in : ℕ → Place → List Val
  locals_in class place = vals (setting image class) place (running s).locals

  -- ---- get

  abbrev gets : Doing
  gets = λ w. get w p offset

  pub get_pops : MayDoIn gets image s h → Top IsObject (running s).stack
  get_pops m =
      field.get_top (setting image m.class) m.place h m.turns m.moment (locals_in m.class m.place) p offset objects
      (running s).stack m.typed.ends

  module _ (b : Block) (start k : ℕ) (rest : List Cell) (e : (running s).stack ≡ cell.Object b start k ∷ rest) where
    got_typed : (class : ℕ) (place : Place) (turns : ℕ) (moment : ℤ)
        → IsTypedOn gets (setting image class) place (shared_in image class place h turns moment) s
        → EndsTyped (field.got (setting image class) place h turns moment (locals_in class place) p offset
        (cell.Object b start k ∷ rest)).result
    got_typed class place turns moment typed =
        subst (λ (cells : List Cell). EndsTyped (field.got (setting image class) place h turns moment
        (locals_in class place) p offset cells).result) e typed.ends

    pub get_stands : (m : MayDoIn gets image s h) → Stands image m.class m.place h b (start + offset) p
    get_stands m =
        let f = field.get_found (setting image m.class) m.place h m.turns m.moment (locals_in m.class m.place) p offset
        found m.ground b start k rest (got_typed m.class m.place m.turns m.moment m.typed) in
        (inside f.spot f.number, prim_stands (setting image m.class) m.place h b start k offset p f)

    gets_so : (v : Cell) → ReadsCell p h b (start + offset) v
        → InEach gets image s h (λ class place turns moment.
        ending gets (setting image class) place s (shared_in image class place h turns moment)
        ≡ gives (Onward (vals (setting image class) place (v ∷ rest)))
        (state_seen (setting image class) place s (shared_in image class place h turns moment)))
    gets_so v reads class place turns moment ground typed =
        ap (λ (cells : List Cell). field.got (setting image class) place h turns moment (locals_in class place) p offset
        cells) e
        ∙ field.get_ends (setting image class) place h turns moment (locals_in class place) p offset found ground b start k
        rest v reads (got_typed class place turns moment typed)

    pub get_room : MayDoIn gets image s h → (v : Cell) → ReadsCell p h b (start + offset) v
        → length (running s).locals + length (v ∷ rest) ≤ s.most
    get_room m v reads =
        has_room gets image s h m (v ∷ rest)
        (state_seen (setting image m.class) m.place s (shared_in image m.class m.place h m.turns m.moment))
        (gets_so v reads m.class m.place m.turns m.moment m.ground m.typed)

    pub get_does : (v : Cell) → ReadsCell p h b (start + offset) v → (new : Frames) → new ≡ with_stack s (v ∷ rest)
        → DoesIn gets image s h (Ok tt) new h
    get_does v reads new is = goes_on_there gets image s new h (v ∷ rest) is (gets_so v reads)

  pub get_null : (rest : List Cell) → (running s).stack ≡ cell.Null ∷ rest → (new : Frames) → new ≡ with_stack s rest
      → DoesIn gets image s h (Err NullReference) new h
  get_null rest e new is =
      traps gets image s new h rest NullReference is (λ class place turns moment ground typed.
      ap (λ (cells : List Cell). field.got (setting image class) place h turns moment (locals_in class place) p offset
      cells) e)

  -- ---- put

  abbrev puts : Doing
  puts = λ w. put w p offset

  pub put_some : MayDoIn puts image s h → 0 < length (running s).stack
  put_some m = not_empty (running s).stack m.typed.ends
    where
      not_empty : (cells : List Cell) → EndsTyped (field.put_so (setting image m.class) m.place h m.turns m.moment
          (locals_in m.class m.place) p offset cells).result → 0 < length cells
      not_empty [] typed = absurd typed
      not_empty (c ∷ rest) typed = omega arith

  pub put_pops : MayDoIn puts image s h → (v : Cell) (rest : List Cell) → (running s).stack ≡ v ∷ rest → Top IsObject rest
  put_pops m v rest e =
      field.put_top (setting image m.class) m.place h m.turns m.moment (locals_in m.class m.place) p offset objects v rest
      (subst (λ (cells : List Cell). EndsTyped (field.put_so (setting image m.class) m.place h m.turns m.moment
      (locals_in m.class m.place) p offset cells).result) e m.typed.ends)

  pub put_number : MayDoIn puts image s h → (v : Cell) (rest : List Cell) → (running s).stack ≡ v ∷ rest
      → IsSome (number_for p v)
  put_number m v rest e =
      (field.put_kind (setting image m.class) m.place h m.turns m.moment (locals_in m.class m.place) p offset v rest
      (subst (λ (cells : List Cell). EndsTyped (field.put_so (setting image m.class) m.place h m.turns m.moment
      (locals_in m.class m.place) p offset cells).result) e m.typed.ends)).number

  module _ (v : Cell) (b : Block) (start k : ℕ) (rest : List Cell)
      (e : (running s).stack ≡ v ∷ cell.Object b start k ∷ rest) where
    put_typed : (class : ℕ) (place : Place) (turns : ℕ) (moment : ℤ)
        → IsTypedOn puts (setting image class) place (shared_in image class place h turns moment) s
        → EndsTyped (field.put_so (setting image class) place h turns moment (locals_in class place) p offset
        (v ∷ cell.Object b start k ∷ rest)).result
    put_typed class place turns moment typed =
        subst (λ (cells : List Cell). EndsTyped (field.put_so (setting image class) place h turns moment
        (locals_in class place) p offset cells).result) e typed.ends

    pub put_stands : (m : MayDoIn puts image s h) → Stands image m.class m.place h b (start + offset) p
    put_stands m =
        let f = field.put_found (setting image m.class) m.place h m.turns m.moment (locals_in m.class m.place) p offset
        found m.ground v b start k rest (put_typed m.class m.place m.turns m.moment m.typed) in
        (inside f.spot f.number, prim_stands (setting image m.class) m.place h b start k offset p f)

    pub put_does : (after : Held) → StoresCell p h after b (start + offset) v → (new : Frames)
        → new ≡ with_stack s rest → DoesIn puts image s h (Ok tt) new after
    put_does after stores new is =
        goes_on puts image s new h after rest is
        (λ class place turns moment ground typed.
        ap (λ (cells : List Cell). field.put_so (setting image class) place h turns moment (locals_in class place) p
        offset cells) e
        ∙ field.put_ends (setting image class) place h turns moment (locals_in class place) p offset found ground v b
        start k rest (put_typed class place turns moment typed) after stores)
        (λ class place turns moment ground typed.
        field.put_keeps (setting image class) place h turns moment (locals_in class place) p offset found ground v b
        start k rest (put_typed class place turns moment typed) after stores)

  pub put_null : (v : Cell) (rest : List Cell) → (running s).stack ≡ v ∷ cell.Null ∷ rest → (new : Frames)
      → new ≡ with_stack s rest → DoesIn puts image s h (Err NullReference) new h
  put_null v rest e new is =
      traps puts image s new h rest NullReference is (λ class place turns moment ground typed.
      let k = field.put_kind (setting image class) place h turns moment (locals_in class place) p offset v
      (cell.Null ∷ rest)
      (subst (λ (cells : List Cell). EndsTyped (field.put_so (setting image class) place h turns moment
      (locals_in class place) p offset cells).result) e typed.ends) in
      ap (λ (cells : List Cell). field.put_so (setting image class) place h turns moment (locals_in class place) p
      offset cells) e
      ∙ field.put_opened (setting image class) place h turns moment (locals_in class place) p offset v cell.Null rest k)
