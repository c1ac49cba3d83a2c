-- How calls by number end, where they are typed.
use Rattle.std.proofs.Common.{◌≡◌, ℕ, suc, ℤ, ◌+◌, ◌-◌, ◌<◌, ◌≤◌, Bool, true, false, if◌then◌else◌, List, [], length, map, get_or, Option, Some, None, Result, Ok, Err, refl, sym, ap, subst, ◌∙◌, arith}
use Rattle.std.specs.Prelude.{slice_get, slice_index_or}
use Rattle.std.specs.Option.{option_map}
use Rattle.std.proofs.lemmas.List.{length-map}
use Rattle.std.proofs.lemmas.Option.{slice_get-get_or, slice_get-map, slice_get_within}
use Rattle.sed_engine.specs.declared.call.Place.{Place}
use Rattle.sed_engine.specs.declared.trap.Trap.{Trap}
use Rattle.sed_engine.specs.declared.trap.Trap.TheVariants.{NullReference}
use Rattle.sed_engine.specs.State.{Shared, State, End, answers, then_do}
use Rattle.sed_engine.specs.Stops.{Stop, Traps, map_ok, there}
use Rattle.sed_engine.specs.Values.{Val, Nothing, Spot, spot_of}
use Rattle.scode_ops.specs.declared.op.Op.TheVariants as op
use Rattle.scode_image.specs.declared.image.Image.{Image}
use Rattle.scode_image.specs.declared.image.ImageMethod.{ImageMethod}
use Rattle.scode_code.specs.Calls.{argument_count, goes_into, is_instance, receiver_there}
use Rattle.scode_code.specs.Effect.{taken}
use Rattle.scode_code.specs.Fields.{Setting}
use Rattle.scode_code.specs.Machine.{Move}
use Rattle.scode_code.specs.Steps.{effect}
use Rattle.scode_cells.specs.declared.cell.Cell.{Cell}
use Rattle.scode_cells.specs.declared.cell.Cell.TheVariants as cell
use Rattle.scode_cells.specs.Frames.{Frames, IsRunning, running}
use Rattle.scode_vm.specs.declared.course.Course.{Course}
use Rattle.scode_vm.specs.Calling.{AreZeros, DoesOf, GoesInto, HasNullReceiver, HasRoomFor, MayDoOf, in_image, zero_cell}
use Rattle.scode_vm.specs.Doings.{EndsTyped, IsTypedOn, ending, point_from, sharing, state_seen}
use Rattle.scode_vm.specs.Seen.{machine_seen, val_of, val_or, spot_in, vals}
use Rattle.scode_vm.proofs.Entering.{args_off, few_taken, first_typed, into_leads, into_most, into_room, into_runs, lowest, rest_off, taken_off, there_typed}

-- ---- receivers

-- a receiver that is not null passes, where the test of it is typed
pub passes : (w : Setting) (place : Place) (c : Cell) → EndsTyped (map_ok (λ spot. tt {0}) (spot_of (val_of w place c)))
    → (c ≡ cell.Null → ⊥) → map_ok (λ spot. tt {0}) (spot_of (val_of w place c)) ≡ Ok tt
passes w place (cell.Int k) h n = absurd h
passes w place (cell.Long k) h n = absurd h
passes w place (cell.Bool t) h n = absurd h
passes w place cell.Null h n = absurd (n refl)
passes w place (cell.Text k) h n = absurd h
passes w place (cell.Object b offset k) h n = by_spot (spot_in w place (cell.Object b offset k)) h
  where
    by_spot : (o : Option Spot) → EndsTyped (map_ok (λ spot. tt {0}) (spot_of (val_or None o)))
        → map_ok (λ spot. tt {0}) (spot_of (val_or None o)) ≡ Ok tt
    by_spot (Some spot) h = refl
    by_spot None h = absurd h
passes w place (cell.Str b offset k) h n = by_spot (spot_in w place (cell.Str b offset k)) h
  where
    by_spot : (o : Option Spot) → EndsTyped (map_ok (λ spot. tt {0}) (spot_of (val_or None o)))
        → map_ok (λ spot. tt {0}) (spot_of (val_or None o)) ≡ Ok tt
    by_spot (Some spot) h = refl
    by_spot None h = absurd h

-- so many arguments are one at least
counted : (m : ImageMethod) → is_instance m ≡ true → argument_count m ≡ suc (argument_count m - 1)
counted m e =
    let one : argument_count m ≡ 1 + length m.params =
    ap (λ (b : Bool). (if b then 1 else 0) + length m.params) e in
    omega (arith, one)

module _ (w : Setting) (place : Place) (m : ImageMethod) (stack : List Cell) (few : argument_count m ≤ length stack) where
  abbrev args : List Val
  args = args_off w place (argument_count m) stack

  -- the receiver by its cell
  received : (c : Cell) → is_instance m ≡ true → slice_get stack (argument_count m - 1) ≡ Some c
      → receiver_there m args ≡ map_ok (λ spot. tt) (spot_of (val_of w place c))
  received c e at =
      ap (λ (b : Bool). if b then map_ok (λ spot. tt) (spot_of (slice_index_or args 0 Nothing)) else Ok tt) e
      ∙ ap (λ (n : ℕ). map_ok (λ spot. tt) (spot_of (slice_index_or (args_off w place n stack) 0 Nothing))) (counted m e)
      ∙ ap (λ (v : Val). map_ok (λ spot. tt) (spot_of v)) (lowest w place (argument_count m - 1) stack c at)

  pub receiver_is_null : HasNullReceiver m stack → receiver_there m args ≡ Err (Traps NullReference)
  receiver_is_null h = received cell.Null h.0 h.1

  pub receiver_passes : (HasNullReceiver m stack → ⊥) → EndsTyped (receiver_there m args) → receiver_there m args ≡ Ok tt
  receiver_passes n h = by_test (is_instance m) refl
    where
      by_test : (b : Bool) → is_instance m ≡ b → receiver_there m args ≡ Ok tt
      by_test false e =
          ap (λ (b : Bool). if b then map_ok (λ spot. tt) (spot_of (slice_index_or args 0 Nothing)) else Ok tt) e
      by_test true e =
          let c : Cell = get_or stack (argument_count m - 1) cell.Null in
          let at : slice_get stack (argument_count m - 1) ≡ Some c =
          slice_get-get_or stack (argument_count m - 1) cell.Null (omega (arith, few, counted m e)) in
          let is = received c e at in
          is ∙ passes w place c (subst EndsTyped is h) (λ null. n (e, at ∙ ap Some null))

-- ---- calls by number

-- the method that is called, for which there are arguments enough
pub record CallsIt (image : Image) (number : ℕ) (s : Frames) : Type 0 where
  pub m : ImageMethod
  pub known : slice_get image.methods number ≡ Some m
  pub few : argument_count m ≤ length (running s).stack

module _ (image : Image) (number : ℕ) (s : Frames) where
  module _ (class : ℕ) (place : Place) (shared : Shared) where
    abbrev w : Setting
    w = in_image image class

    abbrev st : State
    st = state_seen w place s shared

    abbrev taken_from : ImageMethod → State → End Move
    taken_from m s1 =
        then_do (answers (taken (argument_count m) (vals w place (running s).stack) []) s1)
        (λ t s2. then_do (answers (receiver_there m t.0) s2) (λ _ s3. goes_into number m t.0 t.1 s3))

    pub calls_it : IsTypedOn (λ w. effect w (op.Call number)) w place shared s → CallsIt image number s
    calls_it typed =
        let t = there_typed (slice_get image.methods number) st taken_from typed.ends in
        let h : EndsTyped (taken_from t.0 st).result =
        subst (λ (o : Option ImageMethod). EndsTyped (then_do (answers (there o) st) taken_from).result) t.1 typed.ends in
        record {
          m = t.0;
          known = t.1;
          few = few_taken w place (argument_count t.0) (running s).stack
              (first_typed (taken (argument_count t.0) (vals w place (running s).stack) []) st
              (λ x s2. then_do (answers (receiver_there t.0 x.0) s2) (λ _ s3. goes_into number t.0 x.0 x.1 s3)) h);
        }

    module _ (m : ImageMethod) (known : slice_get image.methods number ≡ Some m)
        (few : argument_count m ≤ length (running s).stack) where
      abbrev off : List Val
      off = args_off w place (argument_count m) (running s).stack

      abbrev rest : List Val
      rest = rest_off w place (argument_count m) (running s).stack

      abbrev behind_test : Unit {0} → State → End Move
      behind_test u s3 = goes_into number m off rest s3

      call_is : ending (λ w. effect w (op.Call number)) w place s shared
          ≡ then_do (answers (receiver_there m off) st) behind_test
      call_is =
          ap (λ (o : Option ImageMethod). then_do (answers (there o) st) taken_from) known
          ∙ ap (λ (r : Result (List Val × List Val) Stop). then_do (answers r st)
          (λ t s2. then_do (answers (receiver_there m t.0) s2) (λ _ s3. goes_into number m t.0 t.1 s3)))
          (taken_off w place (argument_count m) (running s).stack few)

      pub call_traps : HasNullReceiver m (running s).stack
          → ending (λ w. effect w (op.Call number)) w place s shared ≡ answers (Err (Traps NullReference)) st
      call_traps h =
          call_is
          ∙ ap (λ (r : Result (Unit {0}) Stop). then_do (answers r st) behind_test)
          (receiver_is_null w place m (running s).stack few h)

      pub call_goes : (HasNullReceiver m (running s).stack → ⊥) → IsTypedOn (λ w. effect w (op.Call number)) w place shared s
          → ending (λ w. effect w (op.Call number)) w place s shared ≡ goes_into number m off rest st
      call_goes n typed =
          let h : EndsTyped (then_do (answers (receiver_there m off) st) behind_test).result =
          subst (λ (e : End Move). EndsTyped e.result) call_is typed.ends in
          call_is
          ∙ ap (λ (r : Result (Unit {0}) Stop). then_do (answers r st) behind_test)
          (receiver_passes w place m (running s).stack few n (first_typed (receiver_there m off) st behind_test h))

  module _ (m : ImageMethod) (known : slice_get image.methods number ≡ Some m)
      (few : argument_count m ≤ length (running s).stack) where
    pub null_traps : (turns : ℕ) (moment : ℤ) → HasNullReceiver m (running s).stack
        → DoesOf image (λ w. effect w (op.Call number)) s turns moment (Err NullReference) s turns
    null_traps turns moment h = record {
      leads = λ class place contents statics typed.
          ap (point_from (machine_seen (in_image image class) place s (sharing contents statics turns moment)))
          (sym (call_traps class place (sharing contents statics turns moment) m known few h));
      runs = tt;
      most = refl;
    }

    pub call_does : (zeros : List Cell) (turns : ℕ) (moment : ℤ) (result : Result Course Trap) (new : Frames)
        (remaining : ℕ) → zeros ≡ map zero_cell m.locals → IsRunning s → (HasNullReceiver m (running s).stack → ⊥)
        → GoesInto number (argument_count m) zeros s turns result new remaining
        → DoesOf image (λ w. effect w (op.Call number)) s turns moment result new remaining
    call_does zeros turns moment result new remaining is runs n into = record {
      leads = λ class place contents statics typed.
          into_leads (in_image image class) place s contents statics moment runs number m (argument_count m) zeros turns
          result new remaining is few into
          ∙ ap (point_from (machine_seen (in_image image class) place s (sharing contents statics turns moment)))
          (sym (call_goes class place (sharing contents statics turns moment) m known few n typed));
      runs = into_runs number (argument_count m) zeros s turns result new remaining into;
      most = into_most number (argument_count m) zeros s turns result new remaining into;
    }

    pub call_room : (turns : ℕ) → MayDoOf image (λ w. effect w (op.Call number)) s turns
        → (HasNullReceiver m (running s).stack → ⊥) → 0 < turns → length s.frames < 32
        → (argument_count m ≤ length m.locals) × (length m.locals ≤ s.most)
    call_room turns may n some deep =
        into_room (in_image image may.class) may.place s may.contents may.statics may.moment may.runs image number m
        (argument_count m) turns known few
        (subst (λ (e : End Move). HasRoomFor image s e.result)
        (call_goes may.class may.place (sharing may.contents may.statics turns may.moment) m known few n may.typed)
        may.room)
        some deep

-- ---- what stands at an index

pub at_index : {T : Type 0} (xs ys : List T) (n i : ℕ) (x : T) → ys ≡ xs → i ≡ n → x ≡ get_or ys i x → n < length xs
    → slice_get xs n ≡ Some x
at_index xs ys n i x e f is lt =
    slice_get-get_or xs n x lt
    ∙ ap Some (sym (ap (λ l. get_or l i x) e ∙ ap (λ k. get_or xs k x) f) ∙ sym is)

pub one_item : {T : Type 0} (o : Option T) (x y : T) → o ≡ Some x → o ≡ Some y → x ≡ y
one_item o x y e f = (let both : Some x ≡ Some y = sym e ∙ f in cc)

-- the zeros of a method
pub zeros_row : (image : Image) (zeros : List (List Cell)) (n i : ℕ) (m : ImageMethod) (row : List Cell)
    → AreZeros image zeros → slice_get image.methods n ≡ Some m → i ≡ n → row ≡ get_or zeros i row
    → row ≡ map zero_cell m.locals
zeros_row image zeros n i m row are known e is =
    let here : slice_get zeros n ≡ Some (map zero_cell m.locals) =
    ap (λ (z : List (List Cell)). slice_get z n) are
    ∙ slice_get-map (λ (m : ImageMethod). map zero_cell m.locals) image.methods n
    ∙ ap (option_map (λ (m : ImageMethod). map zero_cell m.locals)) known in
    let lt : n < length zeros = slice_get_within zeros n (map zero_cell m.locals) here in
    one_item (slice_get zeros n) row (map zero_cell m.locals) (at_index zeros zeros n i row refl e is lt) here

pub zeros_long : (image : Image) (zeros : List (List Cell)) (n : ℕ) (m : ImageMethod) → AreZeros image zeros
    → slice_get image.methods n ≡ Some m → n < length zeros
zeros_long image zeros n m are known =
    let lt = slice_get_within image.methods n m known in
    let long : length zeros ≡ length image.methods =
    ap length are ∙ length-map image.methods (λ (m : ImageMethod). map zero_cell m.locals) in
    omega (arith, lt, long)
