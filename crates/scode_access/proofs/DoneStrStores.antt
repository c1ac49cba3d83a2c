-- That stores into Strs are done as the table of instructions has them.
use Rattle.std.proofs.Common.{◌≡◌, ◌-◌, ◌<◌, ℕ, ℤ, List, [], ◌∷◌, drop, length, Some, Result, Ok, Err, refl, ap, subst, ◌∙◌, arith}
use Rattle.std.specs.Prelude.{slice_get}
use Rattle.sed_value.specs.declared.value.Value.TheVariants as kept
use Rattle.sed_typed.specs.declared.program.FieldForm.TheVariants as form
use Rattle.sed_typed.specs.Contents.{Path}
use Rattle.sed_engine.specs.declared.call.Place.{Place}
use Rattle.sed_engine.specs.declared.trap.Trap.{Trap}
use Rattle.sed_engine.specs.declared.trap.Trap.TheVariants.{NullReference, OutOfRange}
use Rattle.sed_engine.specs.State.{End, gives}
use Rattle.sed_engine.specs.Stops.{Traps}
use Rattle.sed_engine.specs.Texts.{characters, filled, index_within, literal_bytes, with_character}
use Rattle.sed_engine.specs.Values.{Base, Spot, Val}
use Rattle.scode_image.specs.declared.image.Image.{Image}
use Rattle.scode_code.specs.Calls.{str_copy, str_set}
use Rattle.scode_code.specs.Fields.{Setting}
use Rattle.scode_code.specs.Machine.{Move}
use Rattle.scode_mem.specs.declared.block.Block.{Block}
use Rattle.scode_mem.specs.Blocks.{Held, bytes_at}
use Rattle.scode_mem.specs.Blocks.{bytes_of as bytes_in}
use Rattle.scode_cells.specs.declared.cell.Cell.{Cell}
use Rattle.scode_cells.specs.declared.cell.Cell.TheVariants as cell
use Rattle.scode_cells.specs.Frames.{Frames, popped, running, with_stack}
use Rattle.scode_state.specs.Stands.{IsStored, StandsAt}
use Rattle.scode_vm.specs.Seen.{spot_in, vals}
use Rattle.scode_vm.specs.Doings.{Doing, EndsTyped, IsTypedOn}
use Rattle.scode_vm.specs.Tops.{IsInt, Top}
use Rattle.scode_access.specs.Found.{ObjectsAreNotRead, Standing, StrsAreFound}
use Rattle.scode_access.specs.StrStores.{StrHeld, StrsHoldBytes}
use Rattle.scode_access.specs.Strs.{MayRead, Reads, as_text}
use Rattle.scode_access.specs.Tops.{IsText}
use Rattle.scode_access.specs.Within.{DoesIn, IsGround, MayDoIn, setting}
use Rattle.scode_access.proofs.Going.{InEach, goes_on, left_is, popped_is, shared_in, traps}
use Rattle.scode_access.proofs.OnStrs.{may_kind, str_leads, text_kind, text_read, text_there}
use Rattle.scode_access.proofs.OnStrStores as store
use Rattle.scode_access.proofs.Storing.{Stores}

-- a Str, a text or null is one of these
pub none_else : (v : Cell) → IsText v → ((b : Block) (at size : ℕ) → v ≡ cell.Str b at size → ⊥)
    → ((n : ℕ) → v ≡ cell.Text n → ⊥) → (v ≡ cell.Null → ⊥) → ⊥
none_else (cell.Str b at size) is no_str no_text no_null = no_str b at size refl
none_else (cell.Text n) is no_str no_text no_null = no_text n refl
none_else cell.Null is no_str no_text no_null = no_null refl
none_else v is no_str no_text no_null = is

-- two cells taken off, and three of which the first are ints
module _ (s one two : Frames) (from into : Cell) (first : slice_get (running s).stack 0 ≡ Some from)
    (one_is : one ≡ popped s) (second : slice_get (running one).stack 0 ≡ Some into) (two_is : two ≡ popped one) where
  pub two_off : (running s).stack ≡ from ∷ into ∷ (running two).stack
  two_off =
      popped_is s one from first one_is
      ∙ ap (λ (cells : List Cell). from ∷ cells) (popped_is one two into second two_is)

  pub two_left : two ≡ with_stack s (running two).stack
  two_left = left_is s two (drop 1 (drop 1 (running s).stack)) (two_is ∙ ap popped one_is)

module _ (s one two three : Frames) (x n : ℤ) (into : Cell)
    (first : (running s).stack ≡ cell.Int x ∷ (running one).stack) (one_is : one ≡ popped s)
    (second : (running one).stack ≡ cell.Int n ∷ (running two).stack) (two_is : two ≡ popped one)
    (third : slice_get (running two).stack 0 ≡ Some into) (three_is : three ≡ popped two) where
  pub three_off : (running s).stack ≡ cell.Int x ∷ cell.Int n ∷ into ∷ (running three).stack
  three_off =
      first
      ∙ ap (λ (cells : List Cell). cell.Int x ∷ cells) (second
      ∙ ap (λ (cells : List Cell). cell.Int n ∷ cells) (popped_is two three into third three_is))

  pub three_left : three ≡ with_stack s (running three).stack
  three_left =
      left_is s three (drop 1 (drop 1 (drop 1 (running s).stack))) (three_is ∙ ap popped (two_is ∙ ap popped one_is))

-- what a store into a Str does, over blocks
abbrev pub SetsCharacter : Held → Held → Block → ℕ → ℕ → ℕ → ℤ → Type 0
SetsCharacter h after b at size i x = (image : Image) (class : ℕ) (base : Base) (path : Path) (bytes : List ℕ)
    → StandsAt image class base path h b at (form.Str size) → bytes_in h b ≡ Some bytes
    → IsStored image class base path h after b (kept.Buf (with_character (bytes_at bytes at size) i x))

abbrev pub FillsStr : Held → Held → Block → ℕ → ℕ → List ℕ → Type 0
FillsStr h after b at size new = (image : Image) (class : ℕ) (base : Base) (path : Path)
    → StandsAt image class base path h b at (form.Str size)
    → IsStored image class base path h after b (kept.Buf (filled size new))

-- where a Str stands in a root call, and what it holds
pub record Met (w : Setting) (place : Place) (h : Held) (b : Block) (at size : ℕ) : Type 0 where
  pub spot : Spot
  pub leads : spot_in w place (cell.Str b at size) ≡ Some spot
  pub stands : Standing w place h b at spot (form.Str size)
  pub held : StrHeld w h b at size spot

module _ (found : StrsAreFound) (never : ObjectsAreNotRead) (holds : StrsHoldBytes) (image : Image) (s : Frames)
    (h : Held) where
  abbrev locals_in : ℕ → Place → List Val
  locals_in class place = vals (setting image class) place (running s).locals

  met : (class : ℕ) (place : Place) → IsGround (setting image class) place h → (b : Block) (at size : ℕ) (spot : Spot)
      → spot_in (setting image class) place (cell.Str b at size) ≡ Some spot
      → Met (setting image class) place h b at size
  met class place ground b at size spot e =
      let stands = found (setting image class) place h b at size spot ground e in
      record {
        spot = spot;
        leads = e;
        stands = stands;
        held = holds (setting image class) place h b at size spot stands;
      }

  -- ---- set

  abbrev sets : Doing
  sets = λ w. str_set w

  abbrev set_so : ℕ → Place → ℕ → ℤ → List Cell → End Move
  set_so class place turns moment cells =
      store.set_so (setting image class) place h turns moment (locals_in class place) cells

  set_on : (class : ℕ) (place : Place) (turns : ℕ) (moment : ℤ) (cells : List Cell) → (running s).stack ≡ cells
      → IsTypedOn sets (setting image class) place (shared_in image class place h turns moment) s
      → EndsTyped (set_so class place turns moment cells).result
  set_on class place turns moment cells e typed =
      subst (λ (x : List Cell). EndsTyped (set_so class place turns moment x).result) e typed.ends

  pub set_top : MayDoIn sets image s h → Top IsInt (running s).stack
  set_top m =
      store.set_top (setting image m.class) m.place h m.turns m.moment (locals_in m.class m.place) (running s).stack
      m.typed.ends

  pub set_second : MayDoIn sets image s h → (x : ℤ) (cells : List Cell) → (running s).stack ≡ cell.Int x ∷ cells
      → Top IsInt cells
  set_second m x cells e =
      store.set_second (setting image m.class) m.place h m.turns m.moment (locals_in m.class m.place) (cell.Int x) cells
      (set_on m.class m.place m.turns m.moment (cell.Int x ∷ cells) e m.typed)

  pub set_some : MayDoIn sets image s h → (x n : ℤ) (cells : List Cell)
      → (running s).stack ≡ cell.Int x ∷ cell.Int n ∷ cells → 0 < length cells
  set_some m x n cells e =
      not_empty cells (set_on m.class m.place m.turns m.moment (cell.Int x ∷ cell.Int n ∷ cells) e m.typed)
    where
      not_empty : (cells : List Cell)
          → EndsTyped (set_so m.class m.place m.turns m.moment (cell.Int x ∷ cell.Int n ∷ cells)).result
          → 0 < length cells
      not_empty [] typed = absurd typed
      not_empty (c ∷ rest) typed = omega arith

  pub set_kind : MayDoIn sets image s h → (x n : ℤ) (v : Cell) (rest : List Cell)
      → (running s).stack ≡ cell.Int x ∷ cell.Int n ∷ v ∷ rest → IsText v
  set_kind m x n v rest e =
      store.set_kind (setting image m.class) m.place h m.turns m.moment (locals_in m.class m.place) never m.ground v rest
      n x (set_on m.class m.place m.turns m.moment (cell.Int x ∷ cell.Int n ∷ v ∷ rest) e m.typed)

  pub set_null : (x n : ℤ) (rest : List Cell) → (running s).stack ≡ cell.Int x ∷ cell.Int n ∷ cell.Null ∷ rest
      → (new : Frames) → new ≡ with_stack s rest → DoesIn sets image s h (Err NullReference) new h
  set_null x n rest e new is =
      traps sets image s new h rest NullReference is (λ class place turns moment ground typed.
      ap (set_so class place turns moment) e)

  pub set_text : (x n : ℤ) (k : ℕ) (rest : List Cell)
      → (running s).stack ≡ cell.Int x ∷ cell.Int n ∷ cell.Text k ∷ rest
      → (new : Frames) → new ≡ with_stack s rest → DoesIn sets image s h (Err OutOfRange) new h
  set_text x n k rest e new is =
      traps sets image s new h rest OutOfRange is (λ class place turns moment ground typed.
      ap (set_so class place turns moment) e)

  module _ (x n : ℤ) (b : Block) (at size : ℕ) (rest : List Cell)
      (e : (running s).stack ≡ cell.Int x ∷ cell.Int n ∷ cell.Str b at size ∷ rest) where
    set_met : (class : ℕ) (place : Place) (turns : ℕ) (moment : ℤ) → IsGround (setting image class) place h
        → IsTypedOn sets (setting image class) place (shared_in image class place h turns moment) s
        → Met (setting image class) place h b at size
    set_met class place turns moment ground typed =
        let l = store.set_leads (setting image class) place h turns moment (locals_in class place) b at size rest n x
        (set_on class place turns moment (cell.Int x ∷ cell.Int n ∷ cell.Str b at size ∷ rest) e typed) in
        met class place ground b at size l.0 l.1

    pub set_stands : (m : MayDoIn sets image s h) → Met (setting image m.class) m.place h b at size
    set_stands m = set_met m.class m.place m.turns m.moment m.ground m.typed

    pub set_traps : (trap : Trap) → index_within (size - 1) n ≡ Err (Traps trap) → (new : Frames)
        → new ≡ with_stack s rest → DoesIn sets image s h (Err trap) new h
    set_traps trap out new is =
        traps sets image s new h rest trap is (λ class place turns moment ground typed.
        let t = set_met class place turns moment ground typed in
        ap (set_so class place turns moment) e
        ∙ store.set_traps (setting image class) place h turns moment (locals_in class place) b at size t.spot t.leads
        t.stands t.held rest n x trap out)

    pub set_does : (i : ℕ) → index_within (size - 1) n ≡ Ok i → (after : Held) → SetsCharacter h after b at size i x
        → (new : Frames) → new ≡ with_stack s rest → DoesIn sets image s h (Ok tt) new after
    set_does i within after stores new is =
        goes_on sets image s new h after rest is
        (λ class place turns moment ground typed.
        ap (set_so class place turns moment) e ∙ (done class place turns moment ground typed).ends)
        (λ class place turns moment ground typed. (done class place turns moment ground typed).keeps)
      where
        done : (class : ℕ) (place : Place) (turns : ℕ) (moment : ℤ) → IsGround (setting image class) place h
            → IsTypedOn sets (setting image class) place (shared_in image class place h turns moment) s
            → Stores (setting image class) place h after turns moment (locals_in class place)
            (vals (setting image class) place rest)
            (set_so class place turns moment (cell.Int x ∷ cell.Int n ∷ cell.Str b at size ∷ rest))
        done class place turns moment ground typed =
            let t = set_met class place turns moment ground typed in
            store.set_done (setting image class) place h turns moment (locals_in class place) b at size t.spot t.leads
            t.stands t.held rest n x i within after
            (stores image class t.spot.base t.spot.path t.held.bytes t.stands.stands t.held.are)
            (set_on class place turns moment (cell.Int x ∷ cell.Int n ∷ cell.Str b at size ∷ rest) e typed)

  -- ---- copy

  abbrev copies : Doing
  copies = λ w. str_copy w

  abbrev copy_so : ℕ → Place → ℕ → ℤ → List Cell → End Move
  copy_so class place turns moment cells =
      store.copy_so (setting image class) place h turns moment (locals_in class place) cells

  copy_on : (class : ℕ) (place : Place) (turns : ℕ) (moment : ℤ) (cells : List Cell) → (running s).stack ≡ cells
      → IsTypedOn copies (setting image class) place (shared_in image class place h turns moment) s
      → EndsTyped (copy_so class place turns moment cells).result
  copy_on class place turns moment cells e typed =
      subst (λ (x : List Cell). EndsTyped (copy_so class place turns moment x).result) e typed.ends

  pub copy_some : MayDoIn copies image s h → 0 < length (running s).stack
  copy_some m = not_empty (running s).stack m.typed.ends
    where
      not_empty : (cells : List Cell) → EndsTyped (copy_so m.class m.place m.turns m.moment cells).result
          → 0 < length cells
      not_empty [] typed = absurd typed
      not_empty (c ∷ rest) typed = omega arith

  pub copy_two : MayDoIn copies image s h → (from : Cell) (cells : List Cell) → (running s).stack ≡ from ∷ cells
      → 0 < length cells
  copy_two m from cells e = not_empty cells (copy_on m.class m.place m.turns m.moment (from ∷ cells) e m.typed)
    where
      not_empty : (cells : List Cell) → EndsTyped (copy_so m.class m.place m.turns m.moment (from ∷ cells)).result
          → 0 < length cells
      not_empty [] typed = absurd typed
      not_empty (c ∷ rest) typed = omega arith

  module _ (from into : Cell) (rest : List Cell) (e : (running s).stack ≡ from ∷ into ∷ rest) where
    module _ (class : ℕ) (place : Place) (turns : ℕ) (moment : ℤ)
        (typed : IsTypedOn copies (setting image class) place (shared_in image class place h turns moment) s) where
      abbrev of_both : End Move
      of_both = store.copy_of (setting image class) place h turns moment (locals_in class place) from into rest

      copy_first : copy_so class place turns moment (running s).stack ≡ of_both
      copy_first =
          ap (copy_so class place turns moment) e
          ∙ store.copy_opened (setting image class) place h turns moment (locals_in class place) from into rest
          (copy_on class place turns moment (from ∷ into ∷ rest) e typed)

      copy_typed : EndsTyped of_both.result
      copy_typed = subst (λ (r : End Move). EndsTyped r.result) copy_first typed.ends

      into_typed : EndsTyped (store.read_of (setting image class) place h turns moment (locals_in class place) into).result
      into_typed =
          store.copy_reads (setting image class) place h turns moment (locals_in class place) from into rest copy_typed

    pub copy_kind : MayDoIn copies image s h → IsText into
    copy_kind m =
        text_kind (setting image m.class) m.place h m.turns m.moment (locals_in m.class m.place) never m.ground into
        (into_typed m.class m.place m.turns m.moment m.typed)

    pub copy_null : into ≡ cell.Null → (new : Frames) → new ≡ with_stack s rest
        → DoesIn copies image s h (Err NullReference) new h
    copy_null null new is =
        traps copies image s new h rest NullReference is (λ class place turns moment ground typed.
        copy_first class place turns moment typed
        ∙ ap (λ (v : Cell). store.copy_of (setting image class) place h turns moment (locals_in class place) from v rest)
        null)

    -- in each root call in which it is typed, what is to change is read
    abbrev pub IntoRead : Type 0
    IntoRead = InEach copies image s h (λ class place turns moment. (old : List ℕ)
        × (store.read_of (setting image class) place h turns moment (locals_in class place) into
        ≡ gives old (store.seen (setting image class) place h turns moment (locals_in class place))))

    pub str_into : (b : Block) (at size : ℕ) → into ≡ cell.Str b at size → IntoRead
    str_into b at size is class place turns moment ground typed =
        let l = str_leads (setting image class) place h turns moment (locals_in class place) b at size
        (subst (λ (v : Cell). EndsTyped
        (store.read_of (setting image class) place h turns moment (locals_in class place) v).result) is
        (into_typed class place turns moment typed)) in
        let t = met class place ground b at size l.0 l.1 in (
          bytes_at t.held.bytes at size,
          ap (store.read_of (setting image class) place h turns moment (locals_in class place)) is
              ∙ store.str_read (setting image class) place h turns moment (locals_in class place) b at size t.spot
              t.leads t.stands t.held rest,
        )

    pub text_into : (n : ℕ) → into ≡ cell.Text n → IntoRead
    text_into n is class place turns moment ground typed =
        let l = text_there (setting image class) place h turns moment (locals_in class place) n
        (subst (λ (v : Cell). EndsTyped
        (store.read_of (setting image class) place h turns moment (locals_in class place) v).result) is
        (into_typed class place turns moment typed)) in (
          literal_bytes l.0,
          ap (store.read_of (setting image class) place h turns moment (locals_in class place)) is
              ∙ text_read (setting image class) place h turns moment (locals_in class place) n l.0 l.1,
        )

    module _ (reads : IntoRead) where
      from_typed : InEach copies image s h (λ class place turns moment. EndsTyped
          (store.read_of (setting image class) place h turns moment (locals_in class place) from).result)
      from_typed class place turns moment ground typed =
          let r = reads class place turns moment ground typed in
          store.copy_reads_from (setting image class) place h turns moment (locals_in class place) from into rest r.0 r.1
          (copy_typed class place turns moment typed)

      pub copy_may : MayDoIn copies image s h → MayRead image from h
      copy_may m = record {
        class = m.class;
        place = m.place;
        turns = m.turns;
        moment = m.moment;
        locals = locals_in m.class m.place;
        ground = m.ground;
        typed = from_typed m.class m.place m.turns m.moment m.ground m.typed;
      }

      pub copy_from_kind : MayDoIn copies image s h → IsText from
      copy_from_kind m = may_kind image from h never (copy_may m)

      pub copy_traps : (r : Result (List ℕ) Trap) (trap : Trap) → r ≡ Err trap → Reads image from h r → (new : Frames)
          → new ≡ with_stack s rest → DoesIn copies image s h (Err trap) new h
      copy_traps r trap err told new is =
          traps copies image s new h rest trap is (λ class place turns moment ground typed.
          let i = reads class place turns moment ground typed in
          copy_first class place turns moment typed
          ∙ store.copy_traps (setting image class) place h turns moment (locals_in class place) from into rest i.0 i.1
          trap
          (subst (λ (r : Result (List ℕ) Trap). Reads image from h r) err told class place turns moment
          (locals_in class place) ground (from_typed class place turns moment ground typed)))

  pub copy_text : (from : Cell) (k : ℕ) (rest : List Cell) → (running s).stack ≡ from ∷ cell.Text k ∷ rest
      → (r : Result (List ℕ) Trap) (new : List ℕ) → r ≡ Ok new → Reads image from h r → (left : Frames)
      → left ≡ with_stack s rest → DoesIn copies image s h (Err OutOfRange) left h
  copy_text from k rest e r new ok told left is =
      traps copies image s left h rest OutOfRange is (λ class place turns moment ground typed.
      let reads = text_into from (cell.Text k) rest e k refl in
      let i = reads class place turns moment ground typed in
      copy_first from (cell.Text k) rest e class place turns moment typed
      ∙ store.copy_both (setting image class) place h turns moment (locals_in class place) from (cell.Text k) rest i.0
      i.1 (as_text from new)
      (subst (λ (r : Result (List ℕ) Trap). Reads image from h r) ok told class place turns moment
      (locals_in class place) ground (from_typed from (cell.Text k) rest e reads class place turns moment ground typed)))

  module _ (from : Cell) (b : Block) (at size : ℕ) (rest : List Cell)
      (e : (running s).stack ≡ from ∷ cell.Str b at size ∷ rest) where
    copy_met : (class : ℕ) (place : Place) (turns : ℕ) (moment : ℤ) → IsGround (setting image class) place h
        → IsTypedOn copies (setting image class) place (shared_in image class place h turns moment) s
        → Met (setting image class) place h b at size
    copy_met class place turns moment ground typed =
        let l = str_leads (setting image class) place h turns moment (locals_in class place) b at size
        (into_typed from (cell.Str b at size) rest e class place turns moment typed) in
        met class place ground b at size l.0 l.1

    pub copy_stands : (m : MayDoIn copies image s h) → Met (setting image m.class) m.place h b at size
    copy_stands m = copy_met m.class m.place m.turns m.moment m.ground m.typed

    pub copy_does : (r : Result (List ℕ) Trap) (new : List ℕ) → r ≡ Ok new → Reads image from h r → (after : Held)
        → FillsStr h after b at size (characters new) → (left : Frames) → left ≡ with_stack s rest
        → DoesIn copies image s h (Ok tt) left after
    copy_does r new ok told after stores left is =
        goes_on copies image s left h after rest is
        (λ class place turns moment ground typed.
        copy_first from (cell.Str b at size) rest e class place turns moment typed
        ∙ (done class place turns moment ground typed).ends)
        (λ class place turns moment ground typed. (done class place turns moment ground typed).keeps)
      where
        done : (class : ℕ) (place : Place) (turns : ℕ) (moment : ℤ) → IsGround (setting image class) place h
            → (typed : IsTypedOn copies (setting image class) place (shared_in image class place h turns moment) s)
            → Stores (setting image class) place h after turns moment (locals_in class place)
            (vals (setting image class) place rest)
            (of_both from (cell.Str b at size) rest e class place turns moment typed)
        done class place turns moment ground typed =
            let t = copy_met class place turns moment ground typed in
            let reads = str_into from (cell.Str b at size) rest e b at size refl in
            store.copy_done (setting image class) place h turns moment (locals_in class place) b at size t.spot t.leads
            t.stands t.held rest from new
            (subst (λ (r : Result (List ℕ) Trap). Reads image from h r) ok told class place turns moment
            (locals_in class place) ground
            (from_typed from (cell.Str b at size) rest e reads class place turns moment ground typed))
            after (stores image class t.spot.base t.spot.path t.stands.stands)
            (copy_typed from (cell.Str b at size) rest e class place turns moment typed)
