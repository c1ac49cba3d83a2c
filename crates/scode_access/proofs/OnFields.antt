-- How instructions on fields end.
use Rattle.std.proofs.Common.{◌≡◌, ◌+◌, ℕ, ℤ, List, [], ◌∷◌, Result, ap, subst, ◌∙◌}
use Rattle.sed_value.specs.declared.slot_type.Primitive.{Primitive}
use Rattle.sed_typed.specs.declared.program.FieldForm.TheVariants as form
use Rattle.sed_engine.specs.declared.call.Place.{Place}
use Rattle.sed_engine.specs.State.{State, End, answers, gives, then_do}
use Rattle.sed_engine.specs.Steps.{inside, read_spot, write_spot}
use Rattle.sed_engine.specs.Stops.{Stop}
use Rattle.sed_engine.specs.Values.{Spot, Val}
use Rattle.scode_code.specs.Effect.{cell_for, form_number, get, no_push, push, put}
use Rattle.scode_code.specs.Fields.{Setting, field_at}
use Rattle.scode_code.specs.Machine.{Move, Onward}
use Rattle.scode_mem.specs.declared.block.Block.{Block}
use Rattle.scode_mem.specs.Blocks.{Held}
use Rattle.scode_cells.specs.declared.cell.Cell.{Cell}
use Rattle.scode_cells.specs.declared.cell.Cell.TheVariants as cell
use Rattle.scode_vm.specs.Seen.{shared_seen, val_of, vals}
use Rattle.scode_vm.specs.Doings.{EndsTyped}
use Rattle.scode_vm.specs.Tops.{Top}
use Rattle.scode_access.specs.Found.{FieldFound, FieldsAreFound, FieldsAreOfObjects, Standing}
use Rattle.scode_access.specs.Tops.{IsObject}
use Rattle.scode_access.specs.Within.{IsGround, KeepsBlocks}
use Rattle.scode_access.proofs.Finding.{field_ends}
use Rattle.scode_access.proofs.Reading.{ReadsCell, cell_pushed, field_of, prim_stands}
use Rattle.scode_access.proofs.Storing.{OfKind, Stores, StoresCell, of_kind, put_there}
use Rattle.scode_access.proofs.Typed.{first_typed}

module _ (w : Setting) (place : Place) (h : Held) (turns : ℕ) (moment : ℤ) (locals : List Val) where
  abbrev pub seen : Held → State
  seen blocks = record { shared = shared_seen w place blocks turns moment; locals = locals }

  -- ---- get

  module _ (p : Primitive) (offset : ℕ) where
    abbrev pub got : List Cell → End Move
    got cells = get w p offset (vals w place cells) (seen h)

    pub get_top : FieldsAreOfObjects → (cells : List Cell) → EndsTyped (got cells).result → Top IsObject cells
    get_top objects [] typed = absurd typed
    get_top objects (c ∷ rest) typed =
        objects w place c (form_number p) offset 0 (seen h)
        (first_typed (field_at w (val_of w place c) (form_number p) offset 0 (seen h)).result
        (field_at w (val_of w place c) (form_number p) offset 0 (seen h)).state
        (λ spot s2. push (vals w place rest) (read_spot spot s2)) typed)

    module _ (found : FieldsAreFound) (ground : IsGround w place h) (b : Block) (start class : ℕ) (rest : List Cell) where
      pub get_found : EndsTyped (got (cell.Object b start class ∷ rest)).result
          → FieldFound w place h b start class (field_of p offset)
      get_found typed =
          let e = field_at w (val_of w place (cell.Object b start class)) (form_number p) offset 0 (seen h) in
          found w place h b start class (field_of p offset) (seen h) ground
          (first_typed e.result e.state (λ spot s2. push (vals w place rest) (read_spot spot s2)) typed)

      pub get_ends : (v : Cell) → ReadsCell p h b (start + offset) v
          → EndsTyped (got (cell.Object b start class ∷ rest)).result
          → got (cell.Object b start class ∷ rest) ≡ gives (Onward (vals w place (v ∷ rest))) (seen h)
      get_ends v reads typed =
          let f = get_found typed in
          let opened : got (cell.Object b start class ∷ rest)
          ≡ push (vals w place rest) (read_spot (inside f.spot f.number) (seen h)) =
          ap (λ (e : End Spot). then_do e (λ spot s2. push (vals w place rest) (read_spot spot s2)))
          (field_ends w place h b start class (field_of p offset) f (seen h)) in
          opened
          ∙ cell_pushed w place h turns moment p locals b (start + offset) (inside f.spot f.number) v rest
          (prim_stands w place h b start class offset p f) reads
          (subst (λ (e : End Move). EndsTyped e.result) opened typed)

  -- ---- put

  module _ (p : Primitive) (offset : ℕ) where
    abbrev pub put_so : List Cell → End Move
    put_so cells = put w p offset (vals w place cells) (seen h)

    -- from where the object is looked for
    abbrev pub put_into : List Cell → Val → Val → End Move
    put_into rest object x =
        then_do (field_at w object (form_number p) offset 0 (seen h))
        (λ spot s3. no_push (vals w place rest) (write_spot p spot x s3))

    pub put_kind : (v : Cell) (cells : List Cell) → EndsTyped (put_so (v ∷ cells)).result → OfKind w place p v
    put_kind v [] typed = absurd typed
    put_kind v (c ∷ rest) typed =
        of_kind w place p v
        (first_typed (cell_for p (val_of w place v)) (seen h)
        (λ x s2. then_do (field_at w (val_of w place c) (form_number p) offset 0 s2)
        (λ spot s3. no_push (vals w place rest) (write_spot p spot x s3))) typed)

    pub put_opened : (v c : Cell) (rest : List Cell) → OfKind w place p v
        → put_so (v ∷ c ∷ rest) ≡ put_into rest (val_of w place c) (val_of w place v)
    put_opened v c rest k =
        ap (λ (r : Result Val Stop). then_do (answers r (seen h))
        (λ x s2. then_do (field_at w (val_of w place c) (form_number p) offset 0 s2)
        (λ spot s3. no_push (vals w place rest) (write_spot p spot x s3)))) k.wanted

    pub put_top : FieldsAreOfObjects → (v : Cell) (cells : List Cell) → EndsTyped (put_so (v ∷ cells)).result
        → Top IsObject cells
    put_top objects v [] typed = absurd typed
    put_top objects v (c ∷ rest) typed =
        let k = put_kind v (c ∷ rest) typed in
        let e = field_at w (val_of w place c) (form_number p) offset 0 (seen h) in
        objects w place c (form_number p) offset 0 (seen h)
        (first_typed e.result e.state (λ spot s3. no_push (vals w place rest) (write_spot p spot (val_of w place v) s3))
        (subst (λ (e : End Move). EndsTyped e.result) (put_opened v c rest k) typed))

    module _ (found : FieldsAreFound) (ground : IsGround w place h) (v : Cell) (b : Block) (start class : ℕ)
        (rest : List Cell) (typed : EndsTyped (put_so (v ∷ cell.Object b start class ∷ rest)).result) where
      pub put_of : OfKind w place p v
      put_of = put_kind v (cell.Object b start class ∷ rest) typed

      into_typed : EndsTyped (put_into rest (val_of w place (cell.Object b start class)) (val_of w place v)).result
      into_typed =
          subst (λ (e : End Move). EndsTyped e.result) (put_opened v (cell.Object b start class) rest put_of) typed

      pub put_found : FieldFound w place h b start class (field_of p offset)
      put_found =
          let e = field_at w (val_of w place (cell.Object b start class)) (form_number p) offset 0 (seen h) in
          found w place h b start class (field_of p offset) (seen h) ground
          (first_typed e.result e.state
          (λ spot s3. no_push (vals w place rest) (write_spot p spot (val_of w place v) s3)) into_typed)

      pub put_stands : Standing w place h b (start + offset) (inside put_found.spot put_found.number) (form.Prim p)
      put_stands = prim_stands w place h b start class offset p put_found

      -- the store itself
      into_spot : put_into rest (val_of w place (cell.Object b start class)) (val_of w place v)
          ≡ no_push (vals w place rest)
          (write_spot p (inside put_found.spot put_found.number) (val_of w place v) (seen h))
      into_spot =
          ap (λ (e : End Spot). then_do e (λ at s3. no_push (vals w place rest) (write_spot p at (val_of w place v) s3)))
          (field_ends w place h b start class (field_of p offset) put_found (seen h))

      module _ (after : Held) (stores : StoresCell p h after b (start + offset) v) where
        put_done : Stores w place h after turns moment locals (vals w place rest)
            (no_push (vals w place rest)
            (write_spot p (inside put_found.spot put_found.number) (val_of w place v) (seen h)))
        put_done =
            put_there w place h after turns moment locals (vals w place rest) b (start + offset)
            (inside put_found.spot put_found.number) p v put_of put_stands stores
            (subst (λ (e : End Move). EndsTyped e.result) into_spot into_typed)

        pub put_keeps : KeepsBlocks w.image place h after
        put_keeps = put_done.keeps

        pub put_ends : put_so (v ∷ cell.Object b start class ∷ rest) ≡ gives (Onward (vals w place rest)) (seen after)
        put_ends = put_opened v (cell.Object b start class) rest put_of ∙ into_spot ∙ put_done.ends
