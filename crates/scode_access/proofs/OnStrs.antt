-- How the bytes of what a cell refers to are read.
use Rattle.std.proofs.Common.{◌≡◌, ℕ, zero, suc, ℤ, cond, not, ◌==◌, List, [], ◌∷◌, Option, Some, None, Result, Ok, Err, refl, sym, ap, subst, ◌∙◌}
use Rattle.std.specs.Prelude.{pos, length, slice_get, slice_index}
use Rattle.std.specs.Str.{bytes_eq}
use Rattle.std.proofs.lemmas.List.Sums.{take_while-cons}
use Rattle.sed_value.specs.declared.value.Value.{Value}
use Rattle.sed_value.specs.declared.value.Value.TheVariants as kept
use Rattle.sed_typed.specs.declared.operators.TextCall.TheVariants as calls
use Rattle.sed_typed.specs.declared.program.FieldForm.TheVariants as form
use Rattle.sed_typed.specs.Contents.{Contents, Path, value_at}
use Rattle.sed_engine.specs.declared.call.Place.{Place}
use Rattle.sed_engine.specs.declared.trap.Trap.{Trap}
use Rattle.sed_engine.specs.declared.trap.Trap.TheVariants.{NullReference}
use Rattle.sed_engine.specs.Expressions.{text_bytes}
use Rattle.sed_engine.specs.State.{State, End, answers, gives, then_do}
use Rattle.sed_engine.specs.Stops.{Stop, Traps, and_then, map_ok, there}
use Rattle.sed_engine.specs.Texts.{characters, index_within, literal_bytes}
use Rattle.sed_engine.specs.Values.{Base, Int, Spot, Val, bytes_of, truth}
use Rattle.scode_image.specs.declared.image.Image.{Image}
use Rattle.scode_code.specs.Fields.{Setting}
use Rattle.scode_mem.specs.declared.block.Block.{Block}
use Rattle.scode_mem.specs.Blocks.{Held}
use Rattle.scode_cells.specs.declared.cell.Cell.{Cell}
use Rattle.scode_cells.specs.declared.cell.Cell.TheVariants as cell
use Rattle.scode_state.specs.Stands.{StandsAt, contents_in}
use Rattle.scode_state.specs.Cells.{plain_of}
use Rattle.scode_vm.specs.Seen.{shared_seen, spot_in, val_of, val_or}
use Rattle.scode_vm.specs.Doings.{EndsTyped, as_stop}
use Rattle.scode_vm.specs.Tops.{truth_cell}
use Rattle.scode_access.specs.Found.{ObjectsAreNotRead, Standing, StrsAreFound}
use Rattle.scode_access.specs.Strs.{Asked, Calls, ComesTo, MayAsk, MayCall, MayRead, Reads, answer_of, as_text, reading, state_in}
use Rattle.scode_access.specs.Tops.{IsText}
use Rattle.scode_access.specs.Within.{IsGround, setting}
use Rattle.scode_access.proofs.Reading.{base_holds, spot_holds}
use Rattle.scode_access.proofs.Typed.{first_typed}

-- ---- texts as Strs

-- the 0 behind a text is no character
zero_ends : (text : List ℕ) → characters (literal_bytes text) ≡ characters text
zero_ends [] = refl
zero_ends (b ∷ text) =
    take_while-cons (λ x. not (x == 0)) b (literal_bytes text)
    ∙ ap (λ (x : List ℕ). cond (not (b == 0)) (b ∷ x) []) (zero_ends text)
    ∙ sym (take_while-cons (λ x. not (x == 0)) b text)

pub text_characters : (v : Cell) (text : List ℕ) → characters (as_text v text) ≡ characters text
text_characters (cell.Text n) text = zero_ends text
text_characters (cell.Int n) text = refl
text_characters (cell.Long n) text = refl
text_characters (cell.Bool t) text = refl
text_characters cell.Null text = refl
text_characters (cell.Object b o k) text = refl
text_characters (cell.Str b o k) text = refl

-- and is what is read past the last
zero_behind : (text : List ℕ) (i : ℕ) → slice_index (literal_bytes text) i ≡ slice_index text i
zero_behind [] zero = refl
zero_behind [] (suc i) = refl
zero_behind (b ∷ text) zero = refl
zero_behind (b ∷ text) (suc i) = zero_behind text i

pub text_index : (v : Cell) (text : List ℕ) (i : ℕ) → slice_index (as_text v text) i ≡ slice_index text i
text_index (cell.Text n) text i = zero_behind text i
text_index (cell.Int n) text i = refl
text_index (cell.Long n) text i = refl
text_index (cell.Bool t) text i = refl
text_index cell.Null text i = refl
text_index (cell.Object b o k) text i = refl
text_index (cell.Str b o k) text i = refl

-- ---- reads

-- what the read of a Str gives, over blocks
abbrev pub ReadsStr : Held → Block → ℕ → ℕ → List ℕ → Type 0
ReadsStr h b at size bytes = (image : Image) (class : ℕ) (base : Base) (path : Path)
    → StandsAt image class base path h b at (form.Str size)
    → value_at (contents_in image class base h b) path ≡ Some (kept.Buf bytes)

module _ (w : Setting) (place : Place) (h : Held) (turns : ℕ) (moment : ℤ) (locals : List Val) where
  abbrev pub seen : State
  seen = record { shared = shared_seen w place h turns moment; locals = locals }

  abbrev pub read_of : Cell → End (List ℕ)
  read_of v = text_bytes w.image.texts (val_of w place v) seen

  -- a Str leads somewhere
  pub str_leads : (b : Block) (at size : ℕ) → EndsTyped (read_of (cell.Str b at size)).result
      → (spot : Spot) × (spot_in w place (cell.Str b at size) ≡ Some spot)
  str_leads b at size typed = by_spot (spot_in w place (cell.Str b at size)) refl typed
    where
      by_spot : (o : Option Spot) → spot_in w place (cell.Str b at size) ≡ o
          → EndsTyped (text_bytes w.image.texts (val_or None o) seen).result
          → (spot : Spot) × (spot_in w place (cell.Str b at size) ≡ Some spot)
      by_spot None e h = absurd h
      by_spot (Some spot) e h = (spot, e)

  pub str_read : (b : Block) (at size : ℕ) (spot : Spot) (bytes : List ℕ)
      → spot_in w place (cell.Str b at size) ≡ Some spot → Standing w place h b at spot (form.Str size)
      → ReadsStr h b at size bytes → read_of (cell.Str b at size) ≡ gives bytes seen
  str_read b at size spot bytes e s reads =
      ap (λ (o : Option Spot). text_bytes w.image.texts (val_or None o) seen) e
      ∙ ap (λ (o : Option Value). then_do (answers (there o) seen) (λ v s1. answers (bytes_of v) s1))
      (ap (λ (m : Contents). value_at m spot.path)
      (spot_holds w place h turns moment b at spot (form.Str size) s)
      ∙ reads w.image w.class spot.base spot.path s.stands)

  -- a text is there
  pub text_there : (n : ℕ) → EndsTyped (read_of (cell.Text n)).result
      → (text : List ℕ) × (slice_get w.image.texts n ≡ Some text)
  text_there n typed = by_text (slice_get w.image.texts n) refl typed
    where
      by_text : (o : Option (List ℕ)) → slice_get w.image.texts n ≡ o
          → EndsTyped (map_ok literal_bytes (there o)) → (text : List ℕ) × (slice_get w.image.texts n ≡ Some text)
      by_text None e h = absurd h
      by_text (Some text) e h = (text, e)

  pub text_read : (n : ℕ) (text : List ℕ) → slice_get w.image.texts n ≡ Some text
      → read_of (cell.Text n) ≡ gives (literal_bytes text) seen
  text_read n text e = ap (λ (o : Option (List ℕ)). answers (map_ok literal_bytes (there o)) seen) e

  -- nothing but a Str, a text or null is read
  pub text_kind : ObjectsAreNotRead → IsGround w place h → (v : Cell) → EndsTyped (read_of v).result → IsText v
  text_kind never ground (cell.Str b o k) typed = tt
  text_kind never ground (cell.Text n) typed = tt
  text_kind never ground cell.Null typed = tt
  text_kind never ground (cell.Int n) typed = typed
  text_kind never ground (cell.Long n) typed = typed
  text_kind never ground (cell.Bool t) typed = typed
  text_kind never ground (cell.Object b o k) typed = by_spot (spot_in w place (cell.Object b o k)) refl typed
    where
      by_spot : (x : Option Spot) → spot_in w place (cell.Object b o k) ≡ x
          → EndsTyped (text_bytes w.image.texts (val_or None x) seen).result → ⊥
      by_spot None e h = h
      by_spot (Some spot) e h2 =
          subst (λ (x : Option Value). EndsTyped (then_do (answers (there x) seen) (λ v s1. answers (bytes_of v) s1)).result)
          (ap (λ (m : Contents). value_at m spot.path) (base_holds w place h turns moment spot.base)
          ∙ never w place h b o k spot ground e) h2

-- ---- what may be read, and is

module _ (image : Image) (v : Cell) (h : Held) where
  pub may_kind : ObjectsAreNotRead → MayRead image v h → IsText v
  may_kind never m =
      text_kind (setting image m.class) m.place h m.turns m.moment m.locals never m.ground v m.typed

  pub may_stand : StrsAreFound → (m : MayRead image v h) (b : Block) (at size : ℕ) → v ≡ cell.Str b at size
      → (spot : Spot) × Standing (setting image m.class) m.place h b at spot (form.Str size)
  may_stand found m b at size is =
      let l = str_leads (setting image m.class) m.place h m.turns m.moment m.locals b at size
      (subst (λ (x : Cell). EndsTyped (text_bytes image.texts (val_of (setting image m.class) m.place x)
      (state_in image m.class m.place h m.turns m.moment m.locals)).result) is m.typed) in (
        l.0,
        found (setting image m.class) m.place h b at size l.0 m.ground l.1,
      )

  pub may_text : (m : MayRead image v h) (n : ℕ) → v ≡ cell.Text n
      → (text : List ℕ) × (slice_get image.texts n ≡ Some text)
  may_text m n is =
      text_there (setting image m.class) m.place h m.turns m.moment m.locals n
      (subst (λ (x : Cell). EndsTyped (text_bytes image.texts (val_of (setting image m.class) m.place x)
      (state_in image m.class m.place h m.turns m.moment m.locals)).result) is m.typed)

  pub reads_str : StrsAreFound → (b : Block) (at size : ℕ) (bytes : List ℕ) → v ≡ cell.Str b at size
      → ReadsStr h b at size bytes → Reads image v h (Ok bytes)
  reads_str found b at size bytes is reads =
      subst (λ (x : Cell). Reads image x h (Ok bytes)) (sym is)
      (λ class place turns moment locals ground typed.
      let l = str_leads (setting image class) place h turns moment locals b at size typed in
      str_read (setting image class) place h turns moment locals b at size l.0 bytes l.1
      (found (setting image class) place h b at size l.0 ground l.1) reads)

  pub reads_text : (n : ℕ) (text : List ℕ) → v ≡ cell.Text n → slice_get image.texts n ≡ Some text
      → Reads image v h (Ok text)
  reads_text n text is e =
      subst (λ (x : Cell). Reads image x h (Ok text)) (sym is)
      (λ class place turns moment locals ground typed.
      text_read (setting image class) place h turns moment locals n text e)

  pub reads_null : v ≡ cell.Null → Reads image v h (Err NullReference)
  reads_null is =
      subst (λ (x : Cell). Reads image x h (Err NullReference)) (sym is)
      (λ class place turns moment locals ground typed. refl)

-- ---- a call reads first what it is made on

abbrev pub Next : Type 0 → Type 0
Next A = Setting → Place → List ℕ → State → End A

abbrev pub read_then : (A : Type 0) → Cell → Next A → Asked A
read_then A v next = λ w place s. then_do (reading v w place s) (next w place)

module _ (image : Image) (h : Held) where
  pub may_first : (A : Type 0) (v : Cell) (next : Next A) → MayAsk A (read_then A v next) image h → MayRead image v h
  may_first A v next m =
      let e = reading v (setting image m.class) m.place
      (state_in image m.class m.place h m.turns m.moment m.locals) in
      record {
        class = m.class;
        place = m.place;
        turns = m.turns;
        moment = m.moment;
        locals = m.locals;
        ground = m.ground;
        typed = first_typed e.result e.state (next (setting image m.class) m.place) m.typed;
      }

  module _ (A : Type 0) (v : Cell) (next : Next A) (r : Result (List ℕ) Trap) (reads : Reads image v h r) where
    -- what follows what was read
    abbrev pub next_on : ℕ → Place → ℕ → ℤ → List Val → End A
    next_on class place turns moment locals =
        then_do (answers (map_ok (as_text v) (as_stop r)) (state_in image class place h turns moment locals))
        (next (setting image class) place)

    pub read_opens : (class : ℕ) (place : Place) (turns : ℕ) (moment : ℤ) (locals : List Val)
        → IsGround (setting image class) place h
        → EndsTyped (read_then A v next (setting image class) place
        (state_in image class place h turns moment locals)).result
        → read_then A v next (setting image class) place (state_in image class place h turns moment locals)
        ≡ next_on class place turns moment locals
    read_opens class place turns moment locals ground typed =
        let e = reading v (setting image class) place (state_in image class place h turns moment locals) in
        ap (λ (x : End (List ℕ)). then_do x (next (setting image class) place))
        (reads class place turns moment locals ground
        (first_typed e.result e.state (next (setting image class) place) typed))

    pub read_comes : (out : Result A Stop)
        → ((class : ℕ) (place : Place) (turns : ℕ) (moment : ℤ) (locals : List Val)
        → IsGround (setting image class) place h → EndsTyped (next_on class place turns moment locals).result
        → next_on class place turns moment locals
        ≡ answers out (state_in image class place h turns moment locals))
        → ComesTo A (read_then A v next) image h out
    read_comes out goes class place turns moment locals ground typed =
        let o = read_opens class place turns moment locals ground typed in
        o
        ∙ goes class place turns moment locals ground (subst (λ (x : End A). EndsTyped x.result) o typed)

  read_traps : (A : Type 0) (v : Cell) (next : Next A) (trap : Trap) → Reads image v h (Err trap)
      → ComesTo A (read_then A v next) image h (Err (Traps trap))
  read_traps A v next trap reads =
      read_comes A v next (Err trap) reads (Err (Traps trap)) (λ class place turns moment locals ground typed. refl)

  -- ---- how many characters

  abbrev length_next : Next Val
  length_next w place bytes s = gives (Int (pos (length (characters bytes)))) s

  pub length_reads : (v : Cell) → MayCall calls.Length v [] image h → MayRead image v h
  length_reads v m = may_first Val v length_next m

  pub length_calls : (v : Cell) (text : List ℕ) → Reads image v h (Ok text)
      → Calls calls.Length v [] image h (Ok (cell.Int (pos (length (characters text)))))
  length_calls v text reads =
      read_comes Val v length_next (Ok text) reads (answer_of (Ok (cell.Int (pos (length (characters text))))))
      (λ class place turns moment locals ground typed.
      ap (λ (x : List ℕ). gives (Int (pos (length x))) (state_in image class place h turns moment locals))
      (text_characters v text))

  pub length_traps : (v : Cell) (trap : Trap) → Reads image v h (Err trap)
      → Calls calls.Length v [] image h (Err trap)
  length_traps v trap reads = read_traps Val v length_next trap reads

  -- ---- a byte

  abbrev byte_put : List ℕ → ℕ → State → End Val
  byte_put bytes i s = gives (Int (pos (slice_index bytes i))) s

  abbrev byte_next : ℤ → Next Val
  byte_next n w place bytes s = then_do (answers (index_within (length bytes) n) s) (byte_put bytes)

  pub byte_reads : (v : Cell) (n : ℤ) → MayCall calls.Get v (cell.Int n ∷ []) image h → MayRead image v h
  byte_reads v n m = may_first Val v (byte_next n) m

  by_index : (bytes : List ℕ) (i : Result ℕ Stop) (s : State)
      → then_do (answers i s) (byte_put bytes)
      ≡ answers (and_then (map_ok (λ i. cell.Int (pos (slice_index bytes i))) i) (λ c. there (plain_of c))) s
  by_index bytes (Ok i) s = refl
  by_index bytes (Err stop) s = refl

  pub byte_calls : (v : Cell) (n : ℤ) (text : List ℕ) (result : Result Cell Trap) → Reads image v h (Ok text)
      → as_stop result ≡ map_ok (λ i. cell.Int (pos (slice_index (as_text v text) i)))
      (index_within (length (as_text v text)) n)
      → Calls calls.Get v (cell.Int n ∷ []) image h result
  byte_calls v n text result reads told =
      read_comes Val v (byte_next n) (Ok text) reads (answer_of result)
      (λ class place turns moment locals ground typed.
      by_index (as_text v text) (index_within (length (as_text v text)) n)
      (state_in image class place h turns moment locals)
      ∙ ap (λ (x : Result Cell Stop). answers (and_then x (λ c. there (plain_of c)))
      (state_in image class place h turns moment locals)) (sym told))

  pub byte_traps : (v : Cell) (n : ℤ) (trap : Trap) → Reads image v h (Err trap)
      → Calls calls.Get v (cell.Int n ∷ []) image h (Err trap)
  byte_traps v n trap reads = read_traps Val v (byte_next n) trap reads

  -- ---- whether two are the same

  abbrev same_last : List ℕ → Next Val
  same_last a w place b s = gives (truth (bytes_eq (characters a) (characters b))) s

  abbrev same_next : Cell → Next Val
  same_next other w place a s = then_do (reading other w place s) (same_last a w place)

  pub same_reads : (v other : Cell) → MayCall calls.Equals v (other ∷ []) image h → MayRead image v h
  same_reads v other m = may_first Val v (same_next other) m

  pub same_reads_other : (v other : Cell) (a : List ℕ) → Reads image v h (Ok a)
      → MayCall calls.Equals v (other ∷ []) image h → MayRead image other h
  same_reads_other v other a reads m =
      may_first Val other (same_last (as_text v a)) (record {
        class = m.class;
        place = m.place;
        turns = m.turns;
        moment = m.moment;
        locals = m.locals;
        ground = m.ground;
        typed = subst (λ (x : End Val). EndsTyped x.result)
            (read_opens Val v (same_next other) (Ok a) reads m.class m.place m.turns m.moment m.locals m.ground m.typed)
            m.typed;
      })

  same_comes : (v other : Cell) (a : List ℕ) (out : Result Val Stop) → Reads image v h (Ok a)
      → ComesTo Val (read_then Val other (same_last (as_text v a))) image h out
      → ComesTo Val (read_then Val v (same_next other)) image h out
  same_comes v other a out reads comes = read_comes Val v (same_next other) (Ok a) reads out comes

  pub same_calls : (v other : Cell) (a b : List ℕ) → Reads image v h (Ok a) → Reads image other h (Ok b)
      → Calls calls.Equals v (other ∷ []) image h (Ok (truth_cell (bytes_eq (characters a) (characters b))))
  same_calls v other a b reads more =
      same_comes v other a (answer_of (Ok (truth_cell (bytes_eq (characters a) (characters b))))) reads
      (read_comes Val other (same_last (as_text v a)) (Ok b) more
      (answer_of (Ok (truth_cell (bytes_eq (characters a) (characters b)))))
      (λ class place turns moment locals ground typed.
      ap (λ (x : List ℕ). gives (truth (bytes_eq x (characters (as_text other b))))
      (state_in image class place h turns moment locals)) (text_characters v a)
      ∙ ap (λ (x : List ℕ). gives (truth (bytes_eq (characters a) x))
      (state_in image class place h turns moment locals)) (text_characters other b)))

  pub same_traps : (v other : Cell) (trap : Trap) → Reads image v h (Err trap)
      → Calls calls.Equals v (other ∷ []) image h (Err trap)
  same_traps v other trap reads = read_traps Val v (same_next other) trap reads

  pub same_traps_other : (v other : Cell) (a : List ℕ) (trap : Trap) → Reads image v h (Ok a)
      → Reads image other h (Err trap) → Calls calls.Equals v (other ∷ []) image h (Err trap)
  same_traps_other v other a trap reads more =
      same_comes v other a (Err (Traps trap)) reads (read_traps Val other (same_last (as_text v a)) trap more)
