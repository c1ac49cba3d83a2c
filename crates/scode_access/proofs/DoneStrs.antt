-- That reads of Strs are done as the table of instructions has them.
use Rattle.std.proofs.Common.{◌≡◌, ◌+◌, ◌<◌, ◌≤◌, ℕ, ℤ, Bool, true, false, List, [], ◌∷◌, length, Result, Ok, Err, refl, ap, subst, ◌∙◌, arith}
use Rattle.std.specs.Prelude.{if◌then◌else◌}
use Rattle.sed_typed.specs.declared.operators.TextCall.{TextCall}
use Rattle.sed_typed.specs.declared.operators.TextCall.TheVariants as calls
use Rattle.sed_engine.specs.declared.call.Place.{Place}
use Rattle.sed_engine.specs.declared.trap.Trap.{Trap}
use Rattle.sed_engine.specs.State.{State, End, answers, gives, then_do}
use Rattle.sed_engine.specs.Stops.{Stop, Untyped, there}
use Rattle.sed_engine.specs.Values.{Val, is_reference}
use Rattle.scode_image.specs.declared.image.Image.{Image}
use Rattle.scode_code.specs.Calls.{str_equal, str_get, str_length, text_call}
use Rattle.scode_code.specs.Effect.{int_cell, push, reference_cell}
use Rattle.scode_code.specs.Machine.{Move, Onward, pushed}
use Rattle.scode_mem.specs.Blocks.{Held}
use Rattle.scode_cells.specs.declared.cell.Cell.{Cell}
use Rattle.scode_cells.specs.declared.cell.Cell.TheVariants as cell
use Rattle.scode_cells.specs.Frames.{Frames, running, with_stack}
use Rattle.scode_state.specs.Cells.{plain_of}
use Rattle.scode_vm.specs.Seen.{val_of, vals}
use Rattle.scode_vm.specs.Doings.{Doing, EndsTyped, IsTypedOn, ending, state_seen}
use Rattle.scode_vm.specs.Tops.{IsInt, Top}
use Rattle.scode_access.specs.Strs.{Calls, MayCall, calling}
use Rattle.scode_access.specs.Within.{DoesIn, MayDoIn, setting}
use Rattle.scode_access.proofs.Going.{InEach, goes_on_there, has_room, shared_in, traps}
use Rattle.scode_access.proofs.OnArrays.{int_wanted}
use Rattle.scode_access.proofs.Reading.{plain_pushed}
use Rattle.scode_access.proofs.Typed.{first_typed}

-- the instructions
abbrev pub measures : Doing
measures = λ w. str_length w

abbrev pub gets : Doing
gets = λ w. str_get w

abbrev pub compares : Doing
compares = λ w. str_equal w

module _ (image : Image) (s : Frames) (h : Held) where
  abbrev locals_in : ℕ → Place → List Val
  locals_in class place = vals (setting image class) place (running s).locals

  abbrev state_on : ℕ → Place → ℕ → ℤ → State
  state_on class place turns moment =
      state_seen (setting image class) place s (shared_in image class place h turns moment)

  -- ---- an instruction that pushes what a call answers

  abbrev pub asked : TextCall → Cell → List Cell → ℕ → Place → ℕ → ℤ → End Val
  asked which v args class place turns moment =
      calling which v args (setting image class) place (state_on class place turns moment)

  abbrev pub Opens : Doing → TextCall → Cell → List Cell → List Cell → Type 0
  Opens f which v args rest = (class : ℕ) (place : Place) (turns : ℕ) (moment : ℤ)
      → IsTypedOn f (setting image class) place (shared_in image class place h turns moment) s
      → ending f (setting image class) place s (shared_in image class place h turns moment)
      ≡ push (vals (setting image class) place rest) (asked which v args class place turns moment)

  module _ (f : Doing) (which : TextCall) (v : Cell) (args rest : List Cell) (opens : Opens f which v args rest) where
    asked_typed : (class : ℕ) (place : Place) (turns : ℕ) (moment : ℤ)
        → IsTypedOn f (setting image class) place (shared_in image class place h turns moment) s
        → EndsTyped (asked which v args class place turns moment).result
    asked_typed class place turns moment typed =
        let e = asked which v args class place turns moment in
        first_typed e.result e.state
        (λ x s1. gives (Onward (pushed x (vals (setting image class) place rest))) s1)
        (subst (λ (x : End Move). EndsTyped x.result) (opens class place turns moment typed) typed.ends)

    pub may_call : MayDoIn f image s h → MayCall which v args image h
    may_call m = record {
      class = m.class;
      place = m.place;
      turns = m.turns;
      moment = m.moment;
      locals = locals_in m.class m.place;
      ground = m.ground;
      typed = asked_typed m.class m.place m.turns m.moment m.typed;
    }

    module _ (c : Cell) (so : Calls which v args image h (Ok c)) where
      call_ends : InEach f image s h (λ class place turns moment.
          ending f (setting image class) place s (shared_in image class place h turns moment)
          ≡ gives (Onward (vals (setting image class) place (c ∷ rest))) (state_on class place turns moment))
      call_ends class place turns moment ground typed =
          let e : EndsTyped (asked which v args class place turns moment).result =
          asked_typed class place turns moment typed in
          let is : asked which v args class place turns moment
          ≡ answers (there (plain_of c)) (state_on class place turns moment) =
          so class place turns moment (locals_in class place) ground e in
          opens class place turns moment typed
          ∙ ap (push (vals (setting image class) place rest)) is
          ∙ plain_pushed (setting image class) place rest c (state_on class place turns moment)
          (subst (λ (x : End Val). EndsTyped x.result) is e)

      pub call_room : MayDoIn f image s h → length (running s).locals + length (c ∷ rest) ≤ s.most
      call_room m =
          has_room f image s h m (c ∷ rest) (state_on m.class m.place m.turns m.moment)
          (call_ends m.class m.place m.turns m.moment m.ground m.typed)

      pub call_does : (new : Frames) → new ≡ with_stack s (c ∷ rest) → DoesIn f image s h (Ok tt) new h
      call_does new is = goes_on_there f image s new h (c ∷ rest) is call_ends

    pub call_traps : (trap : Trap) → Calls which v args image h (Err trap) → (new : Frames) → new ≡ with_stack s rest
        → DoesIn f image s h (Err trap) new h
    call_traps trap so new is =
        traps f image s new h rest trap is (λ class place turns moment ground typed.
        opens class place turns moment typed
        ∙ ap (push (vals (setting image class) place rest))
        (so class place turns moment (locals_in class place) ground (asked_typed class place turns moment typed)))

  -- ---- how many characters

  pub length_some : MayDoIn measures image s h → 0 < length (running s).stack
  length_some m = not_empty (running s).stack m.typed.ends
    where
      not_empty : (cells : List Cell)
          → EndsTyped (str_length (setting image m.class) (vals (setting image m.class) m.place cells)
          (state_on m.class m.place m.turns m.moment)).result → 0 < length cells
      not_empty [] typed = absurd typed
      not_empty (c ∷ rest) typed = omega arith

  pub length_opens : (v : Cell) (rest : List Cell) → (running s).stack ≡ v ∷ rest
      → Opens measures calls.Length v [] rest
  length_opens v rest e class place turns moment typed =
      ap (λ (cells : List Cell). str_length (setting image class) (vals (setting image class) place cells)
      (state_on class place turns moment)) e

  -- ---- a byte

  abbrev got : ℕ → Place → ℕ → ℤ → List Cell → End Move
  got class place turns moment cells =
      str_get (setting image class) (vals (setting image class) place cells) (state_on class place turns moment)

  pub get_int : MayDoIn gets image s h → Top IsInt (running s).stack
  get_int m = on_cells (running s).stack m.typed.ends
    where
      on_cells : (cells : List Cell) → EndsTyped (got m.class m.place m.turns m.moment cells).result → Top IsInt cells
      on_cells [] typed = absurd typed
      on_cells (c ∷ []) typed = absurd typed
      on_cells (c ∷ v ∷ rest) typed =
          let w = setting image m.class in
          int_wanted w m.place c
          (first_typed (int_cell (val_of w m.place c)) (state_on m.class m.place m.turns m.moment)
          (λ i s1. push (vals w m.place rest) (text_call w calls.Get (val_of w m.place v) (i ∷ []) s1)) typed)

  pub get_some : MayDoIn gets image s h → (n : ℤ) (cells : List Cell) → (running s).stack ≡ cell.Int n ∷ cells
      → 0 < length cells
  get_some m n cells e =
      not_empty cells
      (subst (λ (x : List Cell). EndsTyped (got m.class m.place m.turns m.moment x).result) e m.typed.ends)
    where
      not_empty : (x : List Cell) → EndsTyped (got m.class m.place m.turns m.moment (cell.Int n ∷ x)).result
          → 0 < length x
      not_empty [] typed = absurd typed
      not_empty (c ∷ rest) typed = omega arith

  pub get_opens : (n : ℤ) (v : Cell) (rest : List Cell) → (running s).stack ≡ cell.Int n ∷ v ∷ rest
      → Opens gets calls.Get v (cell.Int n ∷ []) rest
  get_opens n v rest e class place turns moment typed = ap (got class place turns moment) e

  -- ---- whether two are the same

  abbrev compared : ℕ → Place → ℕ → ℤ → List Cell → End Move
  compared class place turns moment cells =
      str_equal (setting image class) (vals (setting image class) place cells) (state_on class place turns moment)

  pub equal_some : MayDoIn compares image s h → 0 < length (running s).stack
  equal_some m = not_empty (running s).stack m.typed.ends
    where
      not_empty : (cells : List Cell) → EndsTyped (compared m.class m.place m.turns m.moment cells).result
          → 0 < length cells
      not_empty [] typed = absurd typed
      not_empty (c ∷ rest) typed = omega arith

  pub equal_more : MayDoIn compares image s h → (other : Cell) (cells : List Cell) → (running s).stack ≡ other ∷ cells
      → 0 < length cells
  equal_more m other cells e =
      not_empty cells
      (subst (λ (x : List Cell). EndsTyped (compared m.class m.place m.turns m.moment x).result) e m.typed.ends)
    where
      not_empty : (x : List Cell) → EndsTyped (compared m.class m.place m.turns m.moment (other ∷ x)).result
          → 0 < length x
      not_empty [] typed = absurd typed
      not_empty (c ∷ rest) typed = omega arith

  -- what is typed as a reference is one
  pub reference_is : (v : Val) → EndsTyped (reference_cell v) → reference_cell v ≡ Ok v
  reference_is v typed = by_test (is_reference v) typed
    where
      by_test : (t : Bool) → EndsTyped {A = Val} (if t then Ok v else Err Untyped)
          → ◌≡◌ {A = Result Val Stop} (if t then Ok v else Err Untyped) (Ok v)
      by_test true h = refl
      by_test false h = absurd h

  pub equal_opens : (other v : Cell) (rest : List Cell) → (running s).stack ≡ other ∷ v ∷ rest
      → Opens compares calls.Equals v (other ∷ []) rest
  equal_opens other v rest e class place turns moment typed =
      let w = setting image class in
      let next : Val → State → End Move =
      λ x s2. push (vals w place rest) (text_call w calls.Equals (val_of w place v) (x ∷ []) s2) in
      let again : EndsTyped (compared class place turns moment (other ∷ v ∷ rest)).result =
      subst (λ (x : List Cell). EndsTyped (compared class place turns moment x).result) e typed.ends in
      ap (compared class place turns moment) e
      ∙ ap (λ (r : Result Val Stop). then_do (answers r (state_on class place turns moment)) next)
      (reference_is (val_of w place other)
      (first_typed (reference_cell (val_of w place other)) (state_on class place turns moment) next again))
