-- How virtual calls end, where they are typed.
use Rattle.std.proofs.Common.{◌≡◌, ℕ, zero, suc, ℤ, ◌-◌, ◌<◌, ◌≤◌, List, [], length, map, get_or, Option, Some, None, Result, Err, refl, sym, ap, subst, ◌∙◌, arith}
use Rattle.std.specs.Prelude.{slice_get, slice_index_or}
use Rattle.std.specs.Option.{option_and_then}
use Rattle.std.proofs.lemmas.Option.{slice_get_within}
use Rattle.sed_engine.specs.declared.call.Place.{Place}
use Rattle.sed_engine.specs.declared.trap.Trap.{Trap}
use Rattle.sed_engine.specs.declared.trap.Trap.TheVariants.{NullReference}
use Rattle.sed_engine.specs.State.{Shared, State, End, answers, then_do}
use Rattle.sed_engine.specs.Stops.{Stop, Traps, there}
use Rattle.sed_engine.specs.Values.{Val, Nothing, Spot, spot_of}
use Rattle.scode_ops.specs.declared.op.Op.TheVariants as op
use Rattle.scode_image.specs.declared.image.Image.{Image}
use Rattle.scode_image.specs.declared.image.ImageMethod.{ImageMethod}
use Rattle.scode_code.specs.Calls.{argument_count, found_for, goes_into, method_there, table_method}
use Rattle.scode_code.specs.Effect.{taken}
use Rattle.scode_code.specs.Fields.{Setting, class_of}
use Rattle.scode_code.specs.Machine.{Move}
use Rattle.scode_code.specs.Steps.{effect}
use Rattle.scode_mem.specs.declared.block.Block.{Block}
use Rattle.scode_cells.specs.declared.cell.Cell.{Cell}
use Rattle.scode_cells.specs.declared.cell.Cell.TheVariants as cell
use Rattle.scode_cells.specs.Frames.{Frames, IsRunning, running}
use Rattle.scode_vm.specs.declared.course.Course.{Course}
use Rattle.scode_vm.specs.Calling.{DoesOf, GoesInto, HasRoomFor, MayDoOf, in_image, zero_cell}
use Rattle.scode_vm.specs.Doings.{EndsTyped, IsTypedOn, ending, point_from, sharing, state_seen}
use Rattle.scode_vm.specs.Seen.{machine_seen, val_of, val_or, spot_in, vals}
use Rattle.scode_vm.proofs.Entering.{args_off, few_taken, first_typed, into_leads, into_most, into_room, into_runs, lowest, rest_off, taken_off, there_typed}
use Rattle.scode_vm.proofs.DirectCalls.{at_index, one_item}
use Rattle.scode_vm.proofs.Receivers.{ClassesAre, ObjectsLead, StrsLead, class_in_cell, class_of_str}

-- the declared method says how many arguments there are: one at least, and there are enough
pub record Declared (image : Image) (class at : ℕ) (s : Frames) : Type 0 where
  pub number : ℕ
  pub m : ImageMethod
  pub found : table_method image class at ≡ Some number
  pub known : slice_get image.methods number ≡ Some m
  pub some : 0 < argument_count m
  pub few : argument_count m ≤ length (running s).stack

-- the method in the table of a class
pub record Received (image : Image) (class at : ℕ) : Type 0 where
  pub number : ℕ
  pub m : ImageMethod
  pub found : table_method image class at ≡ Some number
  pub known : slice_get image.methods number ≡ Some m

-- the first local of nothing
first_there : (n : ℕ) (w : Setting) (place : Place) (stack : List Cell)
    → EndsTyped (spot_of (slice_index_or (args_off w place n stack) 0 Nothing)) → 0 < n
first_there zero w place stack h = absurd h
first_there (suc n) w place stack h = omega arith

-- a receiver is an object or null
abbrev pub MayReceive : Cell → Type 0
MayReceive (cell.Object b offset k) = Unit {0}
MayReceive cell.Null = Unit {0}
MayReceive other = ⊥

pub none_else : (c : Cell) → MayReceive c → ((b : Block) (offset k : ℕ) → c ≡ cell.Object b offset k → ⊥)
    → (c ≡ cell.Null → ⊥) → ⊥
none_else (cell.Int n) h no_object no_null = h
none_else (cell.Long n) h no_object no_null = h
none_else (cell.Bool t) h no_object no_null = h
none_else cell.Null h no_object no_null = no_null refl
none_else (cell.Text n) h no_object no_null = h
none_else (cell.Object b offset k) h no_object no_null = no_object b offset k refl
none_else (cell.Str b offset n) h no_object no_null = h

module _ (image : Image) (class at : ℕ) (s : Frames) where
  abbrev doing : Setting → List Val → State → End Move
  doing w = effect w (op.VirtualCall class at)

  module _ (own : ℕ) (place : Place) (shared : Shared) where
    abbrev w : Setting
    w = in_image image own

    abbrev st : State
    st = state_seen w place s shared

    abbrev go_method : ℕ → List Val → List Val → ImageMethod → State → End Move
    go_method number off rest m s5 = goes_into number m off rest s5

    abbrev go_number : List Val → List Val → ℕ → State → End Move
    go_number off rest number s4 = then_do (answers (method_there image number) s4) (go_method number off rest)

    abbrev go_spot : List Val → List Val → Spot → State → End Move
    go_spot off rest spot s3 = then_do (answers (found_for w spot at) s3) (go_number off rest)

    abbrev go_taken : List Val × List Val → State → End Move
    go_taken t s2 = then_do (answers (spot_of (slice_index_or t.0 0 Nothing)) s2) (go_spot t.0 t.1)

    abbrev go_declared : ImageMethod → State → End Move
    go_declared m s1 = then_do (answers (taken (argument_count m) (vals w place (running s).stack) []) s1) go_taken

    abbrev declared_method : Option ImageMethod
    declared_method = option_and_then (λ n. slice_get image.methods n) (table_method image class at)

    method_of : (o : Option ℕ) (m : ImageMethod) → option_and_then (λ n. slice_get image.methods n) o ≡ Some m
        → (n : ℕ) × (o ≡ Some n) × (slice_get image.methods n ≡ Some m)
    method_of None m e = absurd (cc)
    method_of (Some n) m e = (n, refl, e)

    module _ (m : ImageMethod) (known : declared_method ≡ Some m)
        (few : argument_count m ≤ length (running s).stack) where
      abbrev off : List Val
      off = args_off w place (argument_count m) (running s).stack

      abbrev rest : List Val
      rest = rest_off w place (argument_count m) (running s).stack

      taken_is : ending doing w place s shared ≡ go_taken (off, rest) st
      taken_is =
          ap (λ (o : Option ImageMethod). then_do (answers (there o) st) go_declared) known
          ∙ ap (λ (r : Result (List Val × List Val) Stop). then_do (answers r st) go_taken)
          (taken_off w place (argument_count m) (running s).stack few)

      module _ (c : Cell) (some : 0 < argument_count m)
          (top : slice_get (running s).stack (argument_count m - 1) ≡ Some c) where
        first_is : slice_index_or off 0 Nothing ≡ val_of w place c
        first_is =
            let count : argument_count m ≡ suc (argument_count m - 1) = omega (arith, some) in
            ap (λ (n : ℕ). slice_index_or (args_off w place n (running s).stack) 0 Nothing) count
            ∙ lowest w place (argument_count m - 1) (running s).stack c top

        pub received_is : ending doing w place s shared
            ≡ then_do (answers (spot_of (val_of w place c)) st) (go_spot off rest)
        received_is =
            taken_is ∙ ap (λ (v : Val). then_do (answers (spot_of v) st) (go_spot off rest)) first_is

    -- ---- typed calls

    pub declared : IsTypedOn doing w place shared s → Declared image class at s
    declared typed =
        let t = there_typed declared_method st go_declared typed.ends in
        let d = method_of (table_method image class at) t.0 t.1 in
        let h : EndsTyped (go_declared t.0 st).result =
        subst (λ (o : Option ImageMethod). EndsTyped (then_do (answers (there o) st) go_declared).result) t.1 typed.ends in
        let few : argument_count t.0 ≤ length (running s).stack =
        few_taken w place (argument_count t.0) (running s).stack
        (first_typed (taken (argument_count t.0) (vals w place (running s).stack) []) st go_taken h) in
        let g : EndsTyped (go_taken (off t.0 t.1 few, rest t.0 t.1 few) st).result =
        subst (λ (e : End Move). EndsTyped e.result) (taken_is t.0 t.1 few) typed.ends in
        record {
          number = d.0;
          m = t.0;
          found = d.1;
          known = d.2;
          some = first_there (argument_count t.0) w place (running s).stack
              (first_typed (spot_of (slice_index_or (off t.0 t.1 few) 0 Nothing)) st
              (go_spot (off t.0 t.1 few) (rest t.0 t.1 few)) g);
          few = few;
        }

    -- ---- by the receiver's cell

    module _ (d : Declared image class at s) (c : Cell)
        (top : slice_get (running s).stack (argument_count d.m - 1) ≡ Some c) where
      abbrev args : List Val
      args = args_off w place (argument_count d.m) (running s).stack

      abbrev others : List Val
      others = rest_off w place (argument_count d.m) (running s).stack

      stands : declared_method ≡ Some d.m
      stands = ap (λ (o : Option ℕ). option_and_then (λ n. slice_get image.methods n) o) d.found ∙ d.known

      by_cell : ending doing w place s shared
          ≡ then_do (answers (spot_of (val_of w place c)) st) (go_spot args others)
      by_cell = received_is d.m stands d.few c d.some top

      typed_cell : IsTypedOn doing w place shared s
          → EndsTyped (then_do (answers (spot_of (val_of w place c)) st) (go_spot args others)).result
      typed_cell typed = subst (λ (e : End Move). EndsTyped e.result) by_cell typed.ends

      pub null_ends : c ≡ cell.Null → ending doing w place s shared ≡ answers (Err (Traps NullReference)) st
      null_ends e =
          by_cell ∙ ap (λ (x : Cell). then_do (answers (spot_of (val_of w place x)) st) (go_spot args others)) e

    -- where a reference leads whose test is typed
    led_to : {B : Type 0} (o : Option Spot) (next : Spot → State → End B)
        → EndsTyped (then_do (answers (spot_of (val_or None o)) st) next).result → (spot : Spot) × (o ≡ Some spot)
    led_to None next h = absurd h
    led_to (Some spot) next h = (spot, refl)

    class_there : (o : Option ℕ) → (n : ℕ) → option_and_then (λ k. table_method image k at) o ≡ Some n
        → (k : ℕ) × (o ≡ Some k)
    class_there None n e = absurd (cc)
    class_there (Some k) n e = (k, refl)

    -- what a call on an object looks up
    record Looked (b : Block) (offset k : ℕ) : Type 0 where
      spot : Spot
      led : spot_in w place (cell.Object b offset k) ≡ Some spot
      classed : class_of w spot ≡ Some k
      method : Received image k at

    module _ (objects : ObjectsLead) (classes : ClassesAre) (d : Declared image class at s) (b : Block) (offset k : ℕ)
        (top : slice_get (running s).stack (argument_count d.m - 1) ≡ Some (cell.Object b offset k)) where
      looked : IsTypedOn doing w place shared s → Looked b offset k
      looked typed =
          let off : List Val = args d (cell.Object b offset k) top in
          let rest : List Val = others d (cell.Object b offset k) top in
          let h = typed_cell d (cell.Object b offset k) top typed in
          let l = led_to (spot_in w place (cell.Object b offset k)) (go_spot off rest) h in
          let g : EndsTyped (go_spot off rest l.0 st).result =
          subst (λ (o : Option Spot). EndsTyped (then_do (answers (spot_of (val_or None o)) st) (go_spot off rest)).result)
          l.1 h in
          let n = there_typed (option_and_then (λ class. table_method image class at) (class_of w l.0)) st
          (go_number off rest) g in
          let t = class_there (class_of w l.0) n.0 n.1 in
          let own : class_of w l.0 ≡ Some k = class_in_cell objects classes image own place b offset k l.0 t.0 l.1 t.1 in
          let found : table_method image k at ≡ Some n.0 =
          sym (ap (λ (o : Option ℕ). option_and_then (λ class. table_method image class at) o) own) ∙ n.1 in
          let f : EndsTyped (go_number off rest n.0 st).result =
          subst (λ (o : Option ℕ). EndsTyped (then_do (answers (there o) st) (go_number off rest)).result) n.1 g in
          let m = there_typed (slice_get image.methods n.0) st (go_method n.0 off rest) f in
          record {
            spot = l.0;
            led = l.1;
            classed = own;
            method = record { number = n.0; m = m.0; found = found; known = m.1 };
          }

      pub received : IsTypedOn doing w place shared s → Received image k at
      received typed = (looked typed).method

      pub object_goes : (r : Received image k at) → IsTypedOn doing w place shared s
          → ending doing w place s shared
          ≡ goes_into r.number r.m (args_off w place (argument_count d.m) (running s).stack)
          (rest_off w place (argument_count d.m) (running s).stack) st
      object_goes r typed =
          let off : List Val = args d (cell.Object b offset k) top in
          let rest : List Val = others d (cell.Object b offset k) top in
          let l = looked typed in
          let number : option_and_then (λ class. table_method image class at) (class_of w l.spot) ≡ Some r.number =
          ap (λ (o : Option ℕ). option_and_then (λ class. table_method image class at) o) l.classed ∙ r.found in
          by_cell d (cell.Object b offset k) top
          ∙ ap (λ (o : Option Spot). then_do (answers (spot_of (val_or None o)) st) (go_spot off rest)) l.led
          ∙ ap (λ (o : Option ℕ). then_do (answers (there o) st) (go_number off rest)) number
          ∙ ap (λ (o : Option ImageMethod). then_do (answers (there o) st) (go_method r.number off rest)) r.known

    str_ends : {A : Type 0} (o : Option Spot) (taking leaving : List Val)
        → ((spot : Spot) → o ≡ Some spot → class_of w spot ≡ None)
        → EndsTyped (then_do (answers (spot_of (val_or None o)) st) (go_spot taking leaving)).result → A
    str_ends None taking leaving none h = absurd h
    str_ends (Some spot) taking leaving none h =
        absurd (subst (λ (o : Option ℕ). EndsTyped (then_do
        (answers (there (option_and_then (λ class. table_method image class at) o)) st) (go_number taking leaving)).result)
        (none spot refl) h)

    by_form : StrsLead → (c : Cell) (taking leaving : List Val)
        → EndsTyped (then_do (answers (spot_of (val_of w place c)) st) (go_spot taking leaving)).result → MayReceive c
    by_form strs (cell.Int n) taking leaving h = h
    by_form strs (cell.Long n) taking leaving h = h
    by_form strs (cell.Bool t) taking leaving h = h
    by_form strs cell.Null taking leaving h = tt
    by_form strs (cell.Text n) taking leaving h = h
    by_form strs (cell.Object b offset k) taking leaving h = tt
    by_form strs (cell.Str b offset n) taking leaving h =
        str_ends (spot_in w place (cell.Str b offset n)) taking leaving
        (λ spot led. class_of_str strs image own place b offset n spot led) h

    pub receives : StrsLead → (d : Declared image class at s) (c : Cell)
        → slice_get (running s).stack (argument_count d.m - 1) ≡ Some c → IsTypedOn doing w place shared s
        → MayReceive c
    receives strs d c top typed = by_form strs c (args d c top) (others d c top) (typed_cell d c top typed)

  -- ---- what they do

  module _ (d : Declared image class at s) where
    pub null_traps : (turns : ℕ) (moment : ℤ)
        → slice_get (running s).stack (argument_count d.m - 1) ≡ Some cell.Null
        → DoesOf image doing s turns moment (Err NullReference) s turns
    null_traps turns moment top = record {
      leads = λ own place contents statics typed.
          ap (point_from (machine_seen (in_image image own) place s (sharing contents statics turns moment)))
          (sym (null_ends own place (sharing contents statics turns moment) d cell.Null top refl));
      runs = tt;
      most = refl;
    }

    module _ (objects : ObjectsLead) (classes : ClassesAre) (b : Block) (offset k : ℕ)
        (top : slice_get (running s).stack (argument_count d.m - 1) ≡ Some (cell.Object b offset k))
        (r : Received image k at) where
      pub call_does : (zeros : List Cell) (turns : ℕ) (moment : ℤ) (result : Result Course Trap) (new : Frames)
          (remaining : ℕ) → zeros ≡ map zero_cell r.m.locals → IsRunning s
          → GoesInto r.number (argument_count d.m) zeros s turns result new remaining
          → DoesOf image doing s turns moment result new remaining
      call_does zeros turns moment result new remaining is runs into = record {
        leads = λ own place contents statics typed.
            into_leads (in_image image own) place s contents statics moment runs r.number r.m (argument_count d.m) zeros
            turns result new remaining is d.few into
            ∙ ap (point_from (machine_seen (in_image image own) place s (sharing contents statics turns moment)))
            (sym (object_goes own place (sharing contents statics turns moment) objects classes d b offset k top r typed));
        runs = into_runs r.number (argument_count d.m) zeros s turns result new remaining into;
        most = into_most r.number (argument_count d.m) zeros s turns result new remaining into;
      }

      pub call_room : (turns : ℕ) → MayDoOf image doing s turns → 0 < turns → length s.frames < 32
          → (argument_count d.m ≤ length r.m.locals) × (length r.m.locals ≤ s.most)
      call_room turns may some deep =
          into_room (in_image image may.class) may.place s may.contents may.statics may.moment may.runs image r.number
          r.m (argument_count d.m) turns r.known d.few
          (subst (λ (e : End Move). HasRoomFor image s e.result)
          (object_goes may.class may.place (sharing may.contents may.statics turns may.moment) objects classes d b
          offset k top r may.typed)
          may.room)
          some deep

-- ---- by other names

module _ (image : Image) (class at : ℕ) where
  pub same_method : (n k : ℕ) (m : ImageMethod) → table_method image class at ≡ Some n → table_method image class at ≡ Some k
      → slice_get image.methods n ≡ Some m → slice_get image.methods k ≡ Some m
  same_method n k m e f known =
      subst (λ (x : ℕ). slice_get image.methods x ≡ Some m) (one_item (table_method image class at) n k e f) known

  -- the declared method is the one at the index
  pub at_place : (s : Frames) (d : Declared image class at s) (methods : List ImageMethod) (number i : ℕ) (m : ImageMethod)
      → table_method image class at ≡ Some number → methods ≡ image.methods → i ≡ number → m ≡ get_or methods i m
      → slice_get image.methods number ≡ Some m
  at_place s d methods number i m found e f is =
      at_index image.methods methods number i m e f is
      (slice_get_within image.methods number d.m (same_method d.number number d.m d.found found d.known))

  abbrev pub declared_as : (s : Frames) (d : Declared image class at s) (number : ℕ) (m : ImageMethod)
      → table_method image class at ≡ Some number → slice_get image.methods number ≡ Some m → Declared image class at s
  declared_as s d number m found known =
      let same : d.m ≡ m =
      one_item (slice_get image.methods number) d.m m (same_method d.number number d.m d.found found d.known) known in
      record {
        number = number;
        m = m;
        found = found;
        known = known;
        some = subst (λ (x : ImageMethod). 0 < argument_count x) same d.some;
        few = subst (λ (x : ImageMethod). argument_count x ≤ length (running s).stack) same d.few;
      }

  abbrev pub received_as : (r : Received image class at) (number : ℕ) → table_method image class at ≡ Some number
      → Received image class at
  received_as r number found =
      record { number = number; m = r.m; found = found; known = same_method r.number number r.m r.found found r.known }
