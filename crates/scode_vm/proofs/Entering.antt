-- Into a method: the arguments that are taken off the stack, the locals of the new frame, and where it leads.
use Rattle.std.proofs.Common.{◌≡◌, ℕ, zero, suc, ℤ, pos, ◌+◌, ◌-◌, ◌==◌, ◌<◌, ◌≤◌, nat_lt, Bool, true, false, if◌then◌else◌, List, [], ◌∷◌, ◌++◌, length, map, reverse, take, drop, get_or, Option, Some, None, Result, Ok, Err, refl, sym, ap, subst, ◌∙◌, arith, append_assoc, append-nil, length-append}
use Rattle.std.specs.Prelude.{slice_get, slice_index_or, IfSome}
use Rattle.std.proofs.lemmas.Bool.{le-ltb, lt-ltb}
use Rattle.std.proofs.lemmas.Grind.{reverse_onto}
use Rattle.std.proofs.lemmas.List.{drop-map, get_or-map, get_or-reverse, get_or-take, length-drop, length-map, length-reverse, length-take-le, map-append}
use Rattle.std.proofs.lemmas.Option.{slice_get-get_or, slice_get_within}
use Rattle.sed_typed.specs.Contents.{Contents}
use Rattle.sed_engine.specs.declared.call.Place.{Place}
use Rattle.sed_engine.specs.declared.trap.Trap.{Trap}
use Rattle.sed_engine.specs.declared.trap.Trap.TheVariants.{TooDeep, TurnsSpent}
use Rattle.sed_engine.specs.State.{Shared, State, End, answers, gives, then_do}
use Rattle.sed_engine.specs.Steps.{turn_of, turn_taken}
use Rattle.sed_engine.specs.Stops.{Stop, Traps, Untyped, there}
use Rattle.sed_engine.specs.Values.{Val, Nothing, Truth, Int, Long, Null}
use Rattle.scode_image.specs.declared.image.Image.{Image}
use Rattle.scode_image.specs.declared.image.ImageKind.{ImageKind}
use Rattle.scode_image.specs.declared.image.ImageMethod.{ImageMethod}
use Rattle.scode_code.specs.Calls.{goes_into, locals_of, zero_of}
use Rattle.scode_code.specs.Effect.{taken}
use Rattle.scode_code.specs.Fields.{Setting}
use Rattle.scode_code.specs.Machine.{Frame, Move, Point, At as AtWork, Over as IsOver, Enter, enters}
use Rattle.scode_cells.specs.declared.cell.Cell.{Cell}
use Rattle.scode_cells.specs.declared.cell.Cell.TheVariants as cell
use Rattle.scode_cells.specs.Frames as cells
use Rattle.scode_cells.specs.Frames.{Frames, IsRunning, below, entered, frames_below, most_frames, running}
use Rattle.scode_vm.specs.declared.course.Course.{Course}
use Rattle.scode_vm.specs.Calling.{GoesInto, Spent, Deep, Entered, HasRoomFor, RunsUnlessOver, arrived, zero_cell}
use Rattle.scode_vm.specs.Doings.{EndsTyped, point_from, sharing, state_seen}
use Rattle.scode_vm.specs.Seen.{frame_seen, machine_seen, val_of, vals}

-- ---- steps that ended typed

pub there_typed : {A B : Type 0} (o : Option A) (s : State) (next : A → State → End B)
    → EndsTyped (then_do (answers (there o) s) next).result → (a : A) × (o ≡ Some a)
there_typed None s next h = absurd h
there_typed (Some a) s next h = (a, refl)

pub first_typed : {A B : Type 0} (r : Result A Stop) (s : State) (next : A → State → End B)
    → EndsTyped (then_do (answers r s) next).result → EndsTyped r
first_typed (Ok a) s next h = tt
first_typed (Err (Traps trap)) s next h = tt
first_typed (Err Untyped) s next h = h

-- ---- arguments

pub taken_typed : (n : ℕ) (stack args : List Val) → EndsTyped (taken n stack args) → n ≤ length stack
taken_typed zero stack args h = omega arith
taken_typed (suc n) [] args h = absurd h
taken_typed (suc n) (v ∷ stack) args h = (let few = taken_typed n stack (v ∷ args) h in omega (arith, few))

-- the first local is the lowest argument
first_of : (n : ℕ) (stack : List Cell) (c : Cell) → slice_get stack n ≡ Some c
    → get_or (reverse (take (suc n) stack)) 0 c ≡ c
first_of n stack c e =
    let within : n < length stack = slice_get_within stack n c e in
    let long : length (take (suc n) stack) ≡ suc n = length-take-le (suc n) stack (omega (arith, within)) in
    let back : length (take (suc n) stack) - 1 - 0 ≡ n = omega (arith, long) in
    let here : Some (get_or stack n c) ≡ Some c = sym (slice_get-get_or stack n c within) ∙ e in
    get_or-reverse (take (suc n) stack) 0 c (omega (arith, long))
    ∙ ap (λ (k : ℕ). get_or (take (suc n) stack) k c) back
    ∙ get_or-take (suc n) stack n c (omega arith)
    ∙ cc

pub frames_long : (fs : List cells.Frame) → 0 < length fs → suc (length (frames_below fs)) ≡ length fs
frames_long [] h = absurd (omega arith)
frames_long (f ∷ fs) h = refl

module _ (w : Setting) (place : Place) where
  -- so many cells off the stack, the topmost last, and the rest of it
  abbrev pub args_off : ℕ → List Cell → List Val
  args_off n stack = vals w place (reverse (take n stack))

  abbrev pub rest_off : ℕ → List Cell → List Val
  rest_off n stack = vals w place (drop n stack)

  taken_onto : (n : ℕ) (stack args : List Cell) → n ≤ length stack
      → taken n (vals w place stack) (vals w place args)
      ≡ Ok (vals w place (reverse (take n stack) ++ args), rest_off n stack)
  taken_onto zero stack args few = refl
  taken_onto (suc n) [] args few = absurd (omega (arith, few))
  taken_onto (suc n) (c ∷ cs) args few =
      taken_onto n cs (c ∷ args) (omega (arith, few))
      ∙ ap (λ (all : List Cell). Ok (vals w place all, rest_off n cs))
      (sym (ap (λ (front : List Cell). front ++ args) (reverse_onto (take n cs) c [])
      ∙ append_assoc (reverse (take n cs)) (c ∷ []) args))

  pub taken_off : (n : ℕ) (stack : List Cell) → n ≤ length stack
      → taken n (vals w place stack) [] ≡ Ok (args_off n stack, rest_off n stack)
  taken_off n stack few =
      taken_onto n stack [] few
      ∙ ap (λ (all : List Cell). Ok (vals w place all, rest_off n stack)) (append-nil (reverse (take n stack)))

  pub few_taken : (n : ℕ) (stack : List Cell) → EndsTyped (taken n (vals w place stack) []) → n ≤ length stack
  few_taken n stack h =
      let few = taken_typed n (vals w place stack) [] h in
      let long : length (vals w place stack) ≡ length stack = length-map stack (val_of w place) in
      omega (arith, few, long)

  args_long : (n : ℕ) (stack : List Cell) → n ≤ length stack → length (args_off n stack) ≡ n
  args_long n stack few =
      length-map (reverse (take n stack)) (val_of w place)
      ∙ length-reverse (take n stack) ∙ length-take-le n stack few

  -- the lowest argument
  pub lowest : (n : ℕ) (stack : List Cell) (c : Cell) → slice_get stack n ≡ Some c
      → slice_index_or (args_off (suc n) stack) 0 Nothing ≡ val_of w place c
  lowest n stack c e =
      let within : n < length stack = slice_get_within stack n c e in
      let long : length (reverse (take (suc n) stack)) ≡ suc n =
      length-reverse (take (suc n) stack) ∙ length-take-le (suc n) stack (omega (arith, within)) in
      get_or-map (val_of w place) (reverse (take (suc n) stack)) 0 c Nothing (omega (arith, long))
      ∙ ap (val_of w place) (first_of n stack c e)

  -- ---- the locals of a new frame

  zero_seen : (k : ImageKind) → val_of w place (zero_cell k) ≡ zero_of k
  zero_seen k = by_tests (k.kind == 1) (k.kind == 2) (k.kind == 3)
    where
      by_tests : (a b c : Bool)
          → val_of w place (if a then cell.Bool 0 else if b then cell.Int (pos 0) else if c then cell.Long (pos 0)
          else cell.Null)
          ≡ (if a then Truth 0 else if b then Int (pos 0) else if c then Long (pos 0) else Null)
      by_tests true b c = refl
      by_tests false true c = refl
      by_tests false false true = refl
      by_tests false false false = refl

  zeros_seen : (ks : List ImageKind) → vals w place (map zero_cell ks) ≡ map zero_of ks
  zeros_seen [] = refl
  zeros_seen (k ∷ ks) = (λ i. zero_seen k i ∷ zeros_seen ks i)

  pub zeros_behind : (n : ℕ) (zeros : List Cell) (m : ImageMethod) → zeros ≡ map zero_cell m.locals
      → vals w place (drop n zeros) ≡ map zero_of (drop n m.locals)
  zeros_behind n zeros m is =
      ap (λ (zs : List Cell). vals w place zs) (ap (drop n) is ∙ drop-map zero_cell n m.locals)
      ∙ zeros_seen (drop n m.locals)

  locals_seen : (n : ℕ) (stack zeros : List Cell) (m : ImageMethod) → zeros ≡ map zero_cell m.locals
      → n ≤ length stack
      → vals w place (reverse (take n stack) ++ drop n zeros) ≡ locals_of m (args_off n stack)
  locals_seen n stack zeros m is few =
      map-append (val_of w place) (reverse (take n stack)) (drop n zeros)
      ∙ ap (λ (vs : List Val). args_off n stack ++ vs) (zeros_behind n zeros m is)
      ∙ ap (λ (k : ℕ). args_off n stack ++ map zero_of (drop k m.locals)) (sym (args_long n stack few))

  -- ---- the turn, and the frame

  turn_there : (n : ℕ) → turn_of (suc n) ≡ Ok tt
  turn_there n = (let e : (suc n == 0) ≡ false = grind arith in ap (λ (b : Bool). if b then Err (Traps TurnsSpent) else Ok tt) e)

  module _ (s : Frames) (contents statics : Contents) (moment : ℤ) (runs : IsRunning s) where
    abbrev shares : ℕ → Shared
    shares turns = sharing contents statics turns moment

    abbrev state_with : ℕ → State
    state_with turns = state_seen w place s (shares turns)

    abbrev into : ℕ → ImageMethod → ℕ → ℕ → End Move
    into number m n turns =
        goes_into number m (args_off n (running s).stack) (rest_off n (running s).stack) (state_with turns)

    -- with a turn left it is entered
    pub into_is : (number : ℕ) (m : ImageMethod) (n turns : ℕ)
        → into number m n (suc turns)
        ≡ gives (Enter number (locals_of m (args_off n (running s).stack)) (rest_off n (running s).stack))
        (state_with turns)
    into_is number m n turns =
        let one : suc turns - 1 ≡ turns = omega arith in
        ap (λ (r : Result (Unit {0}) Stop). then_do
        (record { result = r; state = record { shared = turn_taken (shares (suc turns)); locals = vals w place (running s).locals } })
        (λ _ s1. gives (Enter number (locals_of m (args_off n (running s).stack)) (rest_off n (running s).stack)) s1))
        (turn_there turns)
        ∙ ap (λ (k : ℕ). gives
        (Enter number (locals_of m (args_off n (running s).stack)) (rest_off n (running s).stack)) (state_with k)) one

    -- the frames that a new one is entered above
    abbrev callers : ℕ → List Frame
    callers n = frame_seen w place (record (running s) { stack = drop n (running s).stack })
        ∷ map (frame_seen w place) (below s)

    callers_long : (n : ℕ) → length (callers n) ≡ length s.frames
    callers_long n =
        ap suc (length-map (below s) (frame_seen w place)) ∙ frames_long s.frames runs

    abbrev new_machine : ℕ → List Val → ℕ → ℕ → Point
    new_machine number locals n turns = AtWork (record {
      top = record { method = number; place = 0; locals = locals; stack = [] };
      below = callers n;
      shared = shares turns;
    })

    entered_if : (number : ℕ) (locals : List Val) (n turns : ℕ) (b : Bool) → nat_lt (length (callers n)) most_frames ≡ b
        → enters number locals (callers n) (shares turns)
        ≡ (if b then new_machine number locals n turns
        else IsOver (record { result = Err (Traps TooDeep); shared = shares turns }))
    entered_if number locals n turns b e =
        ap (λ (t : Bool). if t then new_machine number locals n turns
        else IsOver (record { result = Err (Traps TooDeep); shared = shares turns })) e

    abbrev led : ℕ → ImageMethod → ℕ → ℕ → Point
    led number m n turns = point_from (machine_seen w place s (shares turns)) (into number m n turns)

    led_is : (number : ℕ) (m : ImageMethod) (n turns : ℕ)
        → led number m n (suc turns)
        ≡ enters number (locals_of m (args_off n (running s).stack)) (callers n) (shares turns)
    led_is number m n turns =
        ap (point_from (machine_seen w place s (shares (suc turns)))) (into_is number m n turns)

    -- where it leads
    pub into_leads : (number : ℕ) (m : ImageMethod) (n : ℕ) (zeros : List Cell) (turns : ℕ) (result : Result Course Trap)
        (new : Frames) (remaining : ℕ) → zeros ≡ map zero_cell m.locals → n ≤ length (running s).stack
        → GoesInto number n zeros s turns result new remaining
        → arrived w place result new (shares remaining) ≡ led number m n turns
    into_leads number m n zeros turns result new remaining is few (Spent none no_more e same) =
        ap (λ (r : Result Course Trap). arrived w place r new (shares remaining)) e
        ∙ ap (λ (k : ℕ). arrived w place (Err TurnsSpent) new (shares k)) no_more
        ∙ sym (ap (led number m n) none)
    into_leads number m n zeros turns result new remaining is few (Deep one full e same) =
        let long = callers_long n in
        let test : nat_lt (length (callers n)) most_frames ≡ false =
        le-ltb (length (callers n)) most_frames (omega (arith, long, full)) in
        ap (λ (r : Result Course Trap). arrived w place r new (shares remaining)) e
        ∙ sym (entered_if number (locals_of m (args_off n (running s).stack)) n remaining false test)
        ∙ sym (led_is number m n remaining)
        ∙ sym (ap (led number m n) one)
    into_leads number m n zeros turns result new remaining is few (Entered one some e frames) =
        let long = callers_long n in
        let test : nat_lt (length (callers n)) most_frames ≡ true =
        lt-ltb (length (callers n)) most_frames (omega (arith, long, some)) in
        ap (λ (r : Result Course Trap). arrived w place r new (shares remaining)) e
        ∙ ap (λ (x : Frames). AtWork (machine_seen w place x (shares remaining))) frames
        ∙ ap (λ (locals : List Val). new_machine number locals n remaining)
        (locals_seen n (running s).stack zeros m is few)
        ∙ sym (entered_if number (locals_of m (args_off n (running s).stack)) n remaining true test)
        ∙ sym (led_is number m n remaining)
        ∙ sym (ap (led number m n) one)

    -- the room for it
    pub into_room : (image : Image) (number : ℕ) (m : ImageMethod) (n turns : ℕ)
        → slice_get image.methods number ≡ Some m → n ≤ length (running s).stack
        → HasRoomFor image s (into number m n turns).result → 0 < turns → length s.frames < most_frames
        → (n ≤ length m.locals) × (length m.locals ≤ s.most)
    into_room image number m n zero known few room some deep = absurd (omega arith)
    into_room image number m n (suc turns) known few room some deep =
        let locals : List Val = locals_of m (args_off n (running s).stack) in
        let h : HasRoomFor image s (Ok (Enter number locals (rest_off n (running s).stack))) =
        subst (λ (e : End Move). HasRoomFor image s e.result) (into_is number m n turns) room in
        let both : (length locals ≡ length m.locals) × (length m.locals ≤ s.most) =
        subst (λ (o : Option ImageMethod). IfSome o
        (λ m. (length locals ≡ length m.locals) × (length m.locals ≤ s.most))) known (h deep) in
        let args = args_long n (running s).stack few in
        let whole : length locals
        ≡ length (args_off n (running s).stack)
        + length (map zero_of (drop (length (args_off n (running s).stack)) m.locals)) =
        length-append (args_off n (running s).stack)
        (map zero_of (drop (length (args_off n (running s).stack)) m.locals)) in
        let others : length (map zero_of (drop (length (args_off n (running s).stack)) m.locals))
        ≡ length m.locals - length (args_off n (running s).stack) =
        length-map (drop (length (args_off n (running s).stack)) m.locals) zero_of
        ∙ length-drop (length (args_off n (running s).stack)) m.locals in
        (omega (arith, args, whole, others, both.0), both.1)

-- ---- what is kept

pub into_runs : (number n : ℕ) (zeros : List Cell) (s : Frames) (turns : ℕ) (result : Result Course Trap) (new : Frames)
    (remaining : ℕ) → GoesInto number n zeros s turns result new remaining → RunsUnlessOver result new
into_runs number n zeros s turns result new remaining (Spent none no_more e same) =
    subst (λ (r : Result Course Trap). RunsUnlessOver r new) (sym e) tt
into_runs number n zeros s turns result new remaining (Deep one full e same) =
    subst (λ (r : Result Course Trap). RunsUnlessOver r new) (sym e) tt
into_runs number n zeros s turns result new remaining (Entered one some e frames) =
    let running_on : IsRunning (entered s number n (drop n zeros)) = omega arith in
    subst (λ (r : Result Course Trap). RunsUnlessOver r new) (sym e) (subst IsRunning (sym frames) running_on)

pub into_most : (number n : ℕ) (zeros : List Cell) (s : Frames) (turns : ℕ) (result : Result Course Trap) (new : Frames)
    (remaining : ℕ) → GoesInto number n zeros s turns result new remaining → new.most ≡ s.most
into_most number n zeros s turns result new remaining (Spent none no_more e same) = ap (λ (x : Frames). x.most) same
into_most number n zeros s turns result new remaining (Deep one full e same) = ap (λ (x : Frames). x.most) same
into_most number n zeros s turns result new remaining (Entered one some e frames) = ap (λ (x : Frames). x.most) frames
