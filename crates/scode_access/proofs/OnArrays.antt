-- How instructions on arrays end.
use Rattle.std.proofs.Common.{◌≡◌, ◌+◌, ◌*◌, ◌<◌, ℕ, ℤ, List, [], ◌∷◌, Result, Ok, Err, refl, ap, subst, ◌∙◌}
use Rattle.sed_value.specs.declared.slot_type.Primitive.{Primitive}
use Rattle.sed_value.specs.declared.slot_type.Primitive.TheVariants as prim
use Rattle.sed_value.specs.SlotType.{width_of}
use Rattle.sed_typed.specs.declared.program.FieldForm.TheVariants as form
use Rattle.sed_engine.specs.declared.call.Place.{Place}
use Rattle.sed_engine.specs.declared.trap.Trap.{Trap}
use Rattle.sed_engine.specs.Places.{element_spot}
use Rattle.sed_engine.specs.State.{State, End, answers, gives, then_do}
use Rattle.sed_engine.specs.Steps.{inside, read_spot, write_spot}
use Rattle.sed_engine.specs.Stops.{Stop, Traps}
use Rattle.sed_engine.specs.Texts.{index_within}
use Rattle.sed_engine.specs.Values.{Spot, Val, Int}
use Rattle.scode_image.specs.declared.image.ImageField.{ImageField}
use Rattle.scode_code.specs.Effect.{array_get, array_number, array_put, cell_for, int_cell, no_push, push}
use Rattle.scode_code.specs.Fields.{Setting, field_at}
use Rattle.scode_code.specs.Machine.{Move, Onward}
use Rattle.scode_code.specs.Tables.{form_of}
use Rattle.scode_mem.specs.declared.block.Block.{Block}
use Rattle.scode_mem.specs.Blocks.{Held}
use Rattle.scode_cells.specs.declared.cell.Cell.{Cell}
use Rattle.scode_cells.specs.declared.cell.Cell.TheVariants as cell
use Rattle.scode_vm.specs.Seen.{shared_seen, spot_in, val_of, vals}
use Rattle.scode_vm.specs.Doings.{EndsTyped}
use Rattle.scode_vm.specs.Tops.{IsInt, Top}
use Rattle.scode_access.specs.Found.{ElementsStand, FieldFound, FieldsAreFound, FieldsAreOfObjects, Standing}
use Rattle.scode_access.specs.Tops.{IsObject}
use Rattle.scode_access.specs.Within.{IsGround}
use Rattle.scode_access.proofs.Finding.{field_ends}
use Rattle.scode_access.proofs.Reading.{ReadsCell, cell_pushed}
use Rattle.scode_access.proofs.Storing.{OfKind, Stores, StoresCell, no_reference, of_kind, put_there}
use Rattle.scode_access.proofs.Typed.{first_typed}

-- ---- an array, and an index of it

abbrev pub array_of : Primitive → ℕ → ℕ → ImageField
array_of p offset count = record { offset = offset; form = array_number p; n = count }

pub array_form : (p : Primitive) (offset count : ℕ) → form_of (array_of p offset count) ≡ form.Array p count
array_form prim.Bool offset count = refl
array_form prim.Byte offset count = refl
array_form prim.Short offset count = refl
array_form prim.Int offset count = refl
array_form prim.Long offset count = refl

-- an int is asked for
pub int_wanted : (w : Setting) (place : Place) (c : Cell) → EndsTyped (int_cell (val_of w place c)) → IsInt c
int_wanted w place (cell.Int n) h = tt
int_wanted w place (cell.Long n) h = h
int_wanted w place (cell.Bool t) h = h
int_wanted w place cell.Null h = h
int_wanted w place (cell.Text n) h = h
int_wanted w place (cell.Object b o k) h = no_reference prim.Int (spot_in w place (cell.Object b o k)) h
int_wanted w place (cell.Str b o k) h = no_reference prim.Int (spot_in w place (cell.Str b o k)) h

module _ (w : Setting) (place : Place) (h : Held) (turns : ℕ) (moment : ℤ) (locals : List Val) (p : Primitive)
    (offset count : ℕ) where
  abbrev pub seen : Held → State
  seen blocks = record { shared = shared_seen w place blocks turns moment; locals = locals }

  -- the element that an index is of, and what is done with it
  abbrev pub at_element : {A : Type 0} → Val → Val → (Spot → State → End A) → End A
  at_element object index next =
      then_do (field_at w object (array_number p) offset count (seen h))
      (λ array s3. then_do (element_spot count array index s3) next)

  module _ (found : FieldsAreFound) (elements : ElementsStand) (ground : IsGround w place h) (b : Block)
      (start class : ℕ) (n : ℤ) where
    module _ {A : Type 0} (next : Spot → State → End A)
        (typed : EndsTyped (at_element (val_of w place (cell.Object b start class)) (Int n) next).result) where
      pub array_found : FieldFound w place h b start class (array_of p offset count)
      array_found =
          let e = field_at w (val_of w place (cell.Object b start class)) (array_number p) offset count (seen h) in
          found w place h b start class (array_of p offset count) (seen h) ground
          (first_typed e.result e.state (λ array s3. then_do (element_spot count array (Int n) s3) next) typed)

      array_stands : Standing w place h b (start + offset) (inside array_found.spot array_found.number)
          (form.Array p count)
      array_stands =
          subst (Standing w place h b (start + offset) (inside array_found.spot array_found.number))
          (array_form p offset count) array_found.standing

      -- what follows where the array was found
      array_opened : at_element (val_of w place (cell.Object b start class)) (Int n) next
          ≡ then_do (element_spot count (inside array_found.spot array_found.number) (Int n) (seen h)) next
      array_opened =
          ap (λ (e : End Spot). then_do e (λ array s3. then_do (element_spot count array (Int n) s3) next))
          (field_ends w place h b start class (array_of p offset count) array_found (seen h))

      -- an index outside it traps
      pub index_traps : (trap : Trap) → index_within count n ≡ Err (Traps trap)
          → at_element (val_of w place (cell.Object b start class)) (Int n) next ≡ answers (Err (Traps trap)) (seen h)
      index_traps trap out =
          array_opened
          ∙ ap (λ (r : Result ℕ Stop). then_do (then_do (answers r (seen h))
          (λ i s1. gives (inside (inside array_found.spot array_found.number) i) s1)) next) out

      module _ (i : ℕ) (below : i < count) (within : index_within count n ≡ Ok i) where
        abbrev pub element : Spot
        element = inside (inside array_found.spot array_found.number) i

        pub element_stands : Standing w place h b (start + offset + i * width_of p) element (form.Prim p)
        element_stands =
            elements w place h b (start + offset) (inside array_found.spot array_found.number) p count i ground
            array_stands below

        pub element_next : at_element (val_of w place (cell.Object b start class)) (Int n) next ≡ next element (seen h)
        element_next =
            array_opened
            ∙ ap (λ (r : Result ℕ Stop). then_do (then_do (answers r (seen h))
            (λ i s1. gives (inside (inside array_found.spot array_found.number) i) s1)) next) within

  -- ---- get

  abbrev pub got : List Cell → End Move
  got cells = array_get w p offset count (vals w place cells) (seen h)

  abbrev pub read_next : List Cell → Spot → State → End Move
  read_next rest spot s = push (vals w place rest) (read_spot spot s)

  pub get_int : (cells : List Cell) → EndsTyped (got cells).result → Top IsInt cells
  get_int [] typed = absurd typed
  get_int (c ∷ []) typed = absurd typed
  get_int (c ∷ o ∷ rest) typed =
      int_wanted w place c
      (first_typed (int_cell (val_of w place c)) (seen h)
      (λ i s2. then_do (field_at w (val_of w place o) (array_number p) offset count s2)
      (λ array s3. then_do (element_spot count array i s3) (read_next rest))) typed)

  pub get_object : FieldsAreOfObjects → (n : ℤ) (cells : List Cell) → EndsTyped (got (cell.Int n ∷ cells)).result
      → Top IsObject cells
  get_object objects n [] typed = absurd typed
  get_object objects n (c ∷ rest) typed =
      let e = field_at w (val_of w place c) (array_number p) offset count (seen h) in
      objects w place c (array_number p) offset count (seen h)
      (first_typed e.result e.state (λ array s3. then_do (element_spot count array (Int n) s3) (read_next rest)) typed)

  -- ---- put

  abbrev pub put_so : List Cell → End Move
  put_so cells = array_put w p offset count (vals w place cells) (seen h)

  abbrev pub write_next : List Cell → Val → Spot → State → End Move
  write_next rest x spot s = no_push (vals w place rest) (write_spot p spot x s)

  -- what the index is taken for
  abbrev pub put_at : List Cell → Val → Val → Val → End Move
  put_at rest object index x =
      then_do (answers (int_cell index) (seen h))
      (λ i s3. then_do (field_at w object (array_number p) offset count s3)
      (λ array s4. then_do (element_spot count array i s4) (write_next rest x)))

  pub put_kind : (v : Cell) (cells : List Cell) → EndsTyped (put_so (v ∷ cells)).result → OfKind w place p v
  put_kind v [] typed = absurd typed
  put_kind v (c ∷ []) typed = absurd typed
  put_kind v (c ∷ o ∷ rest) typed =
      of_kind w place p v
      (first_typed (cell_for p (val_of w place v)) (seen h)
      (λ x s2. then_do (answers (int_cell (val_of w place c)) s2)
      (λ i s3. then_do (field_at w (val_of w place o) (array_number p) offset count s3)
      (λ array s4. then_do (element_spot count array i s4) (write_next rest x)))) typed)

  pub put_opened : (v c o : Cell) (rest : List Cell) → OfKind w place p v
      → put_so (v ∷ c ∷ o ∷ rest) ≡ put_at rest (val_of w place o) (val_of w place c) (val_of w place v)
  put_opened v c o rest k =
      ap (λ (r : Result Val Stop). then_do (answers r (seen h))
      (λ x s2. then_do (answers (int_cell (val_of w place c)) s2)
      (λ i s3. then_do (field_at w (val_of w place o) (array_number p) offset count s3)
      (λ array s4. then_do (element_spot count array i s4) (write_next rest x))))) k.wanted

  pub put_int : (v : Cell) (cells : List Cell) → EndsTyped (put_so (v ∷ cells)).result → Top IsInt cells
  put_int v [] typed = absurd typed
  put_int v (c ∷ []) typed = absurd typed
  put_int v (c ∷ o ∷ rest) typed =
      let k = put_kind v (c ∷ o ∷ rest) typed in
      int_wanted w place c
      (first_typed (int_cell (val_of w place c)) (seen h)
      (λ i s3. then_do (field_at w (val_of w place o) (array_number p) offset count s3)
      (λ array s4. then_do (element_spot count array i s4) (write_next rest (val_of w place v))))
      (subst (λ (e : End Move). EndsTyped e.result) (put_opened v c o rest k) typed))

  pub put_object : FieldsAreOfObjects → (v : Cell) (n : ℤ) (cells : List Cell)
      → EndsTyped (put_so (v ∷ cell.Int n ∷ cells)).result → Top IsObject cells
  put_object objects v n [] typed = absurd typed
  put_object objects v n (o ∷ rest) typed =
      let k = put_kind v (cell.Int n ∷ o ∷ rest) typed in
      let e = field_at w (val_of w place o) (array_number p) offset count (seen h) in
      objects w place o (array_number p) offset count (seen h)
      (first_typed e.result e.state
      (λ array s4. then_do (element_spot count array (Int n) s4) (write_next rest (val_of w place v)))
      (subst (λ (e : End Move). EndsTyped e.result) (put_opened v (cell.Int n) o rest k) typed))

  -- ---- at an index outside, and at one within

  pub put_traps : (found : FieldsAreFound) (elements : ElementsStand) (ground : IsGround w place h) (b : Block)
      (start class : ℕ) (n : ℤ) (rest : List Cell) (v : Cell)
      → EndsTyped (put_so (v ∷ cell.Int n ∷ cell.Object b start class ∷ rest)).result → (trap : Trap)
      → index_within count n ≡ Err (Traps trap)
      → put_so (v ∷ cell.Int n ∷ cell.Object b start class ∷ rest) ≡ answers (Err (Traps trap)) (seen h)
  put_traps found elements ground b start class n rest v typed trap out =
      let k = put_kind v (cell.Int n ∷ cell.Object b start class ∷ rest) typed in
      let first = put_opened v (cell.Int n) (cell.Object b start class) rest k in
      first
      ∙ index_traps found elements ground b start class n (write_next rest (val_of w place v))
      (subst (λ (e : End Move). EndsTyped e.result) first typed) trap out

  module _ (found : FieldsAreFound) (elements : ElementsStand) (ground : IsGround w place h) (b : Block)
      (start class : ℕ) (n : ℤ) (rest : List Cell) (i : ℕ) (below : i < count) (within : index_within count n ≡ Ok i) where
    pub get_stands : (typed : EndsTyped (got (cell.Int n ∷ cell.Object b start class ∷ rest)).result)
        → Standing w place h b (start + offset + i * width_of p)
        (element found elements ground b start class n (read_next rest) typed i below within) (form.Prim p)
    get_stands typed = element_stands found elements ground b start class n (read_next rest) typed i below within

    pub get_ends : (v : Cell) → ReadsCell p h b (start + offset + i * width_of p) v
        → EndsTyped (got (cell.Int n ∷ cell.Object b start class ∷ rest)).result
        → got (cell.Int n ∷ cell.Object b start class ∷ rest) ≡ gives (Onward (vals w place (v ∷ rest))) (seen h)
    get_ends v reads typed =
        let spot = element found elements ground b start class n (read_next rest) typed i below within in
        let is = element_next found elements ground b start class n (read_next rest) typed i below within in
        is ∙ cell_pushed w place h turns moment p locals b (start + offset + i * width_of p) spot v rest
        (get_stands typed) reads (subst (λ (e : End Move). EndsTyped e.result) is typed)

    module _ (v : Cell) (typed : EndsTyped (put_so (v ∷ cell.Int n ∷ cell.Object b start class ∷ rest)).result) where
      abbrev put_of : OfKind w place p v
      put_of = put_kind v (cell.Int n ∷ cell.Object b start class ∷ rest) typed

      abbrev at_typed : EndsTyped (at_element (val_of w place (cell.Object b start class)) (Int n)
          (write_next rest (val_of w place v))).result
      at_typed =
          subst (λ (e : End Move). EndsTyped e.result)
          (put_opened v (cell.Int n) (cell.Object b start class) rest put_of) typed

      pub put_stands : Standing w place h b (start + offset + i * width_of p)
          (element found elements ground b start class n (write_next rest (val_of w place v)) at_typed i below within)
          (form.Prim p)
      put_stands =
          element_stands found elements ground b start class n (write_next rest (val_of w place v)) at_typed i below within

      pub put_done : (after : Held) → StoresCell p h after b (start + offset + i * width_of p) v
          → Stores w place h after turns moment locals (vals w place rest)
          (put_so (v ∷ cell.Int n ∷ cell.Object b start class ∷ rest))
      put_done after stores =
          let spot =
          element found elements ground b start class n (write_next rest (val_of w place v)) at_typed i below within in
          let first = put_opened v (cell.Int n) (cell.Object b start class) rest put_of in
          let second =
          element_next found elements ground b start class n (write_next rest (val_of w place v)) at_typed i below within
          in
          let done = put_there w place h after turns moment locals (vals w place rest) b
          (start + offset + i * width_of p) spot p v put_of put_stands stores
          (subst (λ (e : End Move). EndsTyped e.result) second at_typed) in
          record { ends = first ∙ second ∙ done.ends; keeps = done.keeps }
