-- How instructions that change Strs end.
use Rattle.std.proofs.Common.{◌≡◌, ◌+◌, ◌-◌, ◌≤◌, ℕ, ℤ, Bool, true, false, if◌then◌else◌, List, [], ◌∷◌, drop, length, Option, Some, None, Result, Ok, Err, refl, sym, ap, subst, ◌∙◌, arith}
use Rattle.std.specs.Prelude.{IsSomeAnd}
use Rattle.std.specs.Option.{option_and_then, option_map_or}
use Rattle.std.proofs.lemmas.List.{length-drop, length-take-le}
use Rattle.sed_value.specs.declared.value.Value.{Value}
use Rattle.sed_value.specs.declared.value.Value.TheVariants as kept
use Rattle.sed_typed.specs.declared.operators.TextCall.TheVariants as text
use Rattle.sed_typed.specs.declared.operators.Width.TheVariants as width
use Rattle.sed_typed.specs.declared.program.FieldForm.TheVariants as form
use Rattle.sed_typed.specs.Contents.{Contents, value_at}
use Rattle.sed_engine.specs.declared.call.Place.{Place}
use Rattle.sed_engine.specs.declared.trap.Trap.{Trap}
use Rattle.sed_engine.specs.Expressions.{changeable, text_bytes}
use Rattle.sed_engine.specs.State.{Shared, State, End, answers, gives, then_do}
use Rattle.sed_engine.specs.Steps.{read_bytes, write_bytes}
use Rattle.sed_engine.specs.Stops.{Stop, Traps, Untyped, there}
use Rattle.sed_engine.specs.Texts.{characters, filled, index_of, index_within, with_character}
use Rattle.sed_engine.specs.Values.{Spot, Val, Int, Nothing, bytes_of, is_reference, whole}
use Rattle.scode_code.specs.Calls.{str_copy, str_set, text_call}
use Rattle.scode_code.specs.Effect.{int_cell, no_push}
use Rattle.scode_code.specs.Fields.{Setting}
use Rattle.scode_code.specs.Machine.{Move, Onward}
use Rattle.scode_code.specs.Parts.{Part}
use Rattle.scode_mem.specs.declared.block.Block.{Block}
use Rattle.scode_mem.specs.Blocks.{Held, bytes_at}
use Rattle.scode_cells.specs.declared.cell.Cell.{Cell}
use Rattle.scode_cells.specs.declared.cell.Cell.TheVariants as cell
use Rattle.scode_state.specs.References.{block_of}
use Rattle.scode_state.specs.Stands.{IsStored}
use Rattle.scode_state.specs.Values.{held_in, value_from}
use Rattle.scode_vm.specs.Seen.{shared_seen, spot_in, val_of, val_or, vals}
use Rattle.scode_vm.specs.Doings.{EndsTyped}
use Rattle.scode_vm.specs.Tops.{IsInt, Top}
use Rattle.scode_access.specs.Found.{ObjectsAreNotRead, Standing}
use Rattle.scode_access.specs.StrStores.{StrHeld, StrsHoldBytes}
use Rattle.scode_access.specs.Strs.{as_text}
use Rattle.scode_access.specs.Tops.{IsText}
use Rattle.scode_access.specs.Within.{IsGround}
use Rattle.scode_access.proofs.Finding.{PartsRead}
use Rattle.scode_access.proofs.OnArrays.{int_wanted}
use Rattle.scode_access.proofs.OnStrs.{text_characters}
use Rattle.scode_access.proofs.Reading.{base_holds, spot_holds}
use Rattle.scode_access.proofs.Storing.{Stores, shared_stored, stored_keeps, stored_over}
use Rattle.scode_access.proofs.Typed.{first_typed}

-- ---- what a Str holds

pub str_held : PartsRead → StrsHoldBytes
str_held reads w place h b at size spot s =
    let fits = s.stands.blocks w.class spot.base b s.stands.block in
    let within : at + size ≤ length fits.bytes =
    subst (λ (o : Option (List ℕ)). IsSomeAnd o (λ bytes. at + size ≤ length bytes)) fits.are s.has in
    let long : length (drop at fits.bytes) ≡ length fits.bytes - at = length-drop at fits.bytes in
    record {
      bytes = fits.bytes;
      are = fits.are;
      long = length-take-le size (drop at fits.bytes) (omega (arith, within, long));
      value = ap (λ (o : Option (List ℕ)). value_at (option_map_or (held_in w.image w.class spot.base) o []) spot.path)
          fits.are
          ∙ reads w.image w.class spot.base spot.path fits.bytes s.stands.agree
          ∙ ap (λ (o : Option Part). option_and_then (value_from fits.bytes) o) s.stands.part;
    }

-- ---- a store of bytes

-- where a Str stands, a typed store of bytes leads to the state that the blocks then stand for
pub bytes_stored : (w : Setting) (place : Place) (h after : Held) (turns : ℕ) (moment : ℤ) (locals rest : List Val)
    (spot : Spot) (new : List ℕ)
    → IsStored w.image w.class spot.base spot.path h after (block_of place spot.base) (kept.Buf new)
    → EndsTyped (no_push rest (write_bytes spot new
    (record { shared = shared_seen w place h turns moment; locals = locals }))).result
    → Stores w place h after turns moment locals rest (no_push rest (write_bytes spot new
    (record { shared = shared_seen w place h turns moment; locals = locals })))
bytes_stored w place h after turns moment locals rest spot new is typed =
    let st : State = record { shared = shared_seen w place h turns moment; locals = locals } in
    let e = write_bytes spot new st in
    record {
      ends = ap (no_push rest) (stored_over spot (kept.Buf new) st (λ _ s1. gives Nothing s1)
          (first_typed e.result e.state (λ _ s1. gives (Onward rest) s1) typed))
          ∙ ap (λ (x : Shared). gives (Onward rest) (let y : State = record { shared = x; locals = locals } in y))
          (sym (shared_stored w place h after turns moment spot.base spot.path (kept.Buf new) is));
      keeps = stored_keeps w place h after spot.base spot.path (kept.Buf new) is;
    }

module _ (w : Setting) (place : Place) (h : Held) (turns : ℕ) (moment : ℤ) (locals : List Val) where
  abbrev pub seen : State
  seen = record { shared = shared_seen w place h turns moment; locals = locals }

  -- what is read where a Str stands
  read_there : (b : Block) (at size : ℕ) (spot : Spot) → Standing w place h b at spot (form.Str size)
      → (held : StrHeld w h b at size spot) → read_bytes spot seen ≡ gives (bytes_at held.bytes at size) seen
  read_there b at size spot s held =
      ap (λ (o : Option Value). then_do (answers (there o) seen) (λ v s1. answers (bytes_of v) s1))
      (ap (λ (m : Contents). value_at m spot.path)
      (spot_holds w place h turns moment b at spot (form.Str size) s)
      ∙ held.value)

  -- ---- set

  abbrev pub set_so : List Cell → End Move
  set_so cells = str_set w (vals w place cells) seen

  -- with its numbers
  abbrev pub set_of : Cell → List Cell → ℤ → ℤ → End Move
  set_of v rest n x =
      no_push (vals w place rest) (text_call w text.Set (val_of w place v) (Int n ∷ Int x ∷ []) seen)

  -- what follows where an index was tested, and where bytes were read
  abbrev set_at : Spot → List ℕ → ℤ → ℕ → State → End Val
  set_at spot bytes x i s3 =
      then_do (answers (whole width.Int (Int x)) s3) (λ c s4. write_bytes spot (with_character bytes i c) s4)

  abbrev set_over : Spot → ℤ → ℤ → List ℕ → State → End Val
  set_over spot n x bytes s2 =
      then_do (answers (index_of (length bytes - 1) (Int n)) s2) (λ i s3. set_at spot bytes x i s3)

  pub set_index : (c d v : Cell) (rest : List Cell) → EndsTyped (set_so (c ∷ d ∷ v ∷ rest)).result → IsInt d
  set_index c d v rest typed =
      int_wanted w place d
      (first_typed (int_cell (val_of w place d)) seen
      (λ i s2. then_do (answers (int_cell (val_of w place c)) s2)
      (λ x s3. no_push (vals w place rest) (text_call w text.Set (val_of w place v) (i ∷ x ∷ []) s3))) typed)

  pub set_number : (c d v : Cell) (rest : List Cell) → EndsTyped (set_so (c ∷ d ∷ v ∷ rest)).result → IsInt d → IsInt c
  set_number c (cell.Int n) v rest typed is =
      int_wanted w place c
      (first_typed (int_cell (val_of w place c)) seen
      (λ x s3. no_push (vals w place rest) (text_call w text.Set (val_of w place v) (Int n ∷ x ∷ []) s3)) typed)
  set_number c d v rest typed is = absurd is

  pub set_top : (cells : List Cell) → EndsTyped (set_so cells).result → Top IsInt cells
  set_top [] typed = absurd typed
  set_top (c ∷ []) typed = absurd typed
  set_top (c ∷ d ∷ []) typed = absurd typed
  set_top (c ∷ d ∷ v ∷ rest) typed = set_number c d v rest typed (set_index c d v rest typed)

  pub set_second : (c : Cell) (cells : List Cell) → EndsTyped (set_so (c ∷ cells)).result → Top IsInt cells
  set_second c [] typed = absurd typed
  set_second c (d ∷ []) typed = absurd typed
  set_second c (d ∷ v ∷ rest) typed = set_index c d v rest typed

  -- the Str, a text, or null
  pub set_kind : ObjectsAreNotRead → IsGround w place h → (v : Cell) (rest : List Cell) (n x : ℤ)
      → EndsTyped (set_of v rest n x).result → IsText v
  set_kind never ground (cell.Str b o k) rest n x typed = tt
  set_kind never ground (cell.Text k) rest n x typed = tt
  set_kind never ground cell.Null rest n x typed = tt
  set_kind never ground (cell.Int m) rest n x typed = typed
  set_kind never ground (cell.Long m) rest n x typed = typed
  set_kind never ground (cell.Bool t) rest n x typed = typed
  set_kind never ground (cell.Object b o k) rest n x typed = by_spot (spot_in w place (cell.Object b o k)) refl typed
    where
      by_spot : (o2 : Option Spot) → spot_in w place (cell.Object b o k) ≡ o2
          → EndsTyped (no_push (vals w place rest)
          (text_call w text.Set (val_or None o2) (Int n ∷ Int x ∷ []) seen)).result → ⊥
      by_spot None e h2 = h2
      by_spot (Some spot) e h2 =
          let made = then_do (read_bytes spot seen) (set_over spot n x) in
          let read = first_typed (read_bytes spot seen).result (read_bytes spot seen).state (set_over spot n x)
          (first_typed made.result made.state (λ _ s1. gives (Onward (vals w place rest)) s1) h2) in
          subst (λ (o3 : Option Value). EndsTyped (then_do (answers (there o3) seen)
          (λ v s1. answers (bytes_of v) s1)).result)
          (ap (λ (m : Contents). value_at m spot.path) (base_holds w place h turns moment spot.base)
          ∙ never w place h b o k spot ground e) read

  -- a Str leads somewhere
  pub set_leads : (b : Block) (at size : ℕ) (rest : List Cell) (n x : ℤ)
      → EndsTyped (set_of (cell.Str b at size) rest n x).result
      → (spot : Spot) × (spot_in w place (cell.Str b at size) ≡ Some spot)
  set_leads b at size rest n x typed = by_spot (spot_in w place (cell.Str b at size)) refl typed
    where
      by_spot : (o : Option Spot) → spot_in w place (cell.Str b at size) ≡ o
          → EndsTyped (no_push (vals w place rest)
          (text_call w text.Set (val_or None o) (Int n ∷ Int x ∷ []) seen)).result
          → (spot : Spot) × (spot_in w place (cell.Str b at size) ≡ Some spot)
      by_spot None e h2 = absurd h2
      by_spot (Some spot) e h2 = (spot, e)

  -- ---- copy

  abbrev pub copy_so : List Cell → End Move
  copy_so cells = str_copy w (vals w place cells) seen

  -- with what is a reference
  abbrev pub copy_of : Cell → Cell → List Cell → End Move
  copy_of from into rest =
      no_push (vals w place rest) (text_call w text.Copy (val_of w place into) (val_of w place from ∷ []) seen)

  abbrev pub read_of : Cell → End (List ℕ)
  read_of v = text_bytes w.image.texts (val_of w place v) seen

  -- what follows where both were read, and where the one was
  abbrev copy_over : Val → List ℕ → List ℕ → State → End Val
  copy_over into old new s2 =
      then_do (answers (changeable into) s2) (λ spot s3. write_bytes spot (filled (length old) (characters new)) s3)

  abbrev copy_from : Cell → Val → List ℕ → State → End Val
  copy_from from into old s1 =
      then_do (text_bytes w.image.texts (val_of w place from) s1) (λ new s2. copy_over into old new s2)

  pub copy_opened : (from into : Cell) (rest : List Cell) → EndsTyped (copy_so (from ∷ into ∷ rest)).result
      → copy_so (from ∷ into ∷ rest) ≡ copy_of from into rest
  copy_opened from into rest typed = by_test (is_reference (val_of w place from)) typed
    where
      by_test : (t : Bool)
          → EndsTyped (then_do (answers (if t then Ok (val_of w place from) else Err Untyped) seen)
          (λ x s2. no_push (vals w place rest) (text_call w text.Copy (val_of w place into) (x ∷ []) s2))).result
          → then_do (answers (if t then Ok (val_of w place from) else Err Untyped) seen)
          (λ x s2. no_push (vals w place rest) (text_call w text.Copy (val_of w place into) (x ∷ []) s2))
          ≡ copy_of from into rest
      by_test true h2 = refl
      by_test false h2 = absurd h2

  module _ (from into : Cell) (rest : List Cell) where
    -- what is to change is read first
    pub copy_reads : EndsTyped (copy_of from into rest).result → EndsTyped (read_of into).result
    copy_reads typed =
        let made = then_do (read_of into) (copy_from from (val_of w place into)) in
        first_typed (read_of into).result (read_of into).state (copy_from from (val_of w place into))
        (first_typed made.result made.state (λ _ s1. gives (Onward (vals w place rest)) s1) typed)

    module _ (old : List ℕ) (e : read_of into ≡ gives old seen) where
      copy_on : copy_of from into rest ≡ no_push (vals w place rest) (copy_from from (val_of w place into) old seen)
      copy_on =
          ap (λ (r : End (List ℕ)). no_push (vals w place rest) (then_do r (copy_from from (val_of w place into)))) e

      -- and then what is copied
      pub copy_reads_from : EndsTyped (copy_of from into rest).result → EndsTyped (read_of from).result
      copy_reads_from typed =
          let made = copy_from from (val_of w place into) old seen in
          first_typed (read_of from).result (read_of from).state (λ new s2. copy_over (val_of w place into) old new s2)
          (first_typed made.result made.state (λ _ s1. gives (Onward (vals w place rest)) s1)
          (subst (λ (r : End Move). EndsTyped r.result) copy_on typed))

      pub copy_traps : (trap : Trap) → read_of from ≡ answers (Err (Traps trap)) seen
          → copy_of from into rest ≡ answers (Err (Traps trap)) seen
      copy_traps trap r =
          copy_on
          ∙ ap (λ (r : End (List ℕ)). no_push (vals w place rest)
          (then_do r (λ new s2. copy_over (val_of w place into) old new s2))) r

      pub copy_both : (new : List ℕ) → read_of from ≡ gives new seen
          → copy_of from into rest ≡ no_push (vals w place rest) (copy_over (val_of w place into) old new seen)
      copy_both new r =
          copy_on
          ∙ ap (λ (r : End (List ℕ)). no_push (vals w place rest)
          (then_do r (λ new s2. copy_over (val_of w place into) old new s2))) r

  -- ---- where the Str stands

  module _ (b : Block) (at size : ℕ) (spot : Spot) (e : spot_in w place (cell.Str b at size) ≡ Some spot)
      (s : Standing w place h b at spot (form.Str size)) (held : StrHeld w h b at size spot) (rest : List Cell) where
    abbrev pub old : List ℕ
    old = bytes_at held.bytes at size

    module _ (n x : ℤ) where
      set_found : set_of (cell.Str b at size) rest n x
          ≡ no_push (vals w place rest)
          (then_do (answers (index_within (size - 1) n) seen) (λ i s3. set_at spot old x i s3))
      set_found =
          ap (λ (o : Option Spot). no_push (vals w place rest)
          (text_call w text.Set (val_or None o) (Int n ∷ Int x ∷ []) seen)) e
          ∙ ap (λ (r : End (List ℕ)). no_push (vals w place rest) (then_do r (set_over spot n x)))
          (read_there b at size spot s held)
          ∙ ap (λ (k : ℕ). no_push (vals w place rest)
          (then_do (answers (index_within (k - 1) n) seen) (λ i s3. set_at spot old x i s3))) held.long

      pub set_traps : (trap : Trap) → index_within (size - 1) n ≡ Err (Traps trap)
          → set_of (cell.Str b at size) rest n x ≡ answers (Err (Traps trap)) seen
      set_traps trap out =
          set_found
          ∙ ap (λ (r : Result ℕ Stop). no_push (vals w place rest)
          (then_do (answers r seen) (λ i s3. set_at spot old x i s3))) out

      pub set_done : (i : ℕ) → index_within (size - 1) n ≡ Ok i → (after : Held)
          → IsStored w.image w.class spot.base spot.path h after b (kept.Buf (with_character old i x))
          → EndsTyped (set_of (cell.Str b at size) rest n x).result
          → Stores w place h after turns moment locals (vals w place rest) (set_of (cell.Str b at size) rest n x)
      set_done i within after stored typed =
          let is = set_found
          ∙ ap (λ (r : Result ℕ Stop). no_push (vals w place rest)
          (then_do (answers r seen) (λ i s3. set_at spot old x i s3))) within in
          let done = bytes_stored w place h after turns moment locals (vals w place rest) spot (with_character old i x)
          (subst (λ (y : Block). IsStored w.image w.class spot.base spot.path h after y
          (kept.Buf (with_character old i x))) s.block stored)
          (subst (λ (r : End Move). EndsTyped r.result) is typed) in
          record { ends = is ∙ done.ends; keeps = done.keeps }

    pub str_read : read_of (cell.Str b at size) ≡ gives old seen
    str_read =
        ap (λ (o : Option Spot). text_bytes w.image.texts (val_or None o) seen) e
        ∙ read_there b at size spot s held

    pub copy_done : (from : Cell) (new : List ℕ) → read_of from ≡ gives (as_text from new) seen → (after : Held)
        → IsStored w.image w.class spot.base spot.path h after b (kept.Buf (filled size (characters new)))
        → EndsTyped (copy_of from (cell.Str b at size) rest).result
        → Stores w place h after turns moment locals (vals w place rest) (copy_of from (cell.Str b at size) rest)
    copy_done from new r after stored typed =
        let is = copy_both from (cell.Str b at size) rest old str_read (as_text from new) r
        ∙ ap (λ (o : Option Spot). no_push (vals w place rest) (copy_over (val_or None o) old (as_text from new) seen)) e
        ∙ ap (λ (k : ℕ). no_push (vals w place rest)
        (write_bytes spot (filled k (characters (as_text from new))) seen)) held.long
        ∙ ap (λ (c : List ℕ). no_push (vals w place rest) (write_bytes spot (filled size c) seen))
        (text_characters from new) in
        let done = bytes_stored w place h after turns moment locals (vals w place rest) spot
        (filled size (characters new))
        (subst (λ (y : Block). IsStored w.image w.class spot.base spot.path h after y
        (kept.Buf (filled size (characters new)))) s.block stored)
        (subst (λ (r : End Move). EndsTyped r.result) is typed) in
        record { ends = is ∙ done.ends; keeps = done.keeps }
