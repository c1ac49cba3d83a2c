-- The instruction at the place of a fine machine may be done, and it leads to where the machine's next step does.
use Rattle.std.proofs.Common.{◌≡◌, ℕ, suc, ◌+◌, ◌<◌, ◌≤◌, nat_lt, Bool, true, if◌then◌else◌, List, [], ◌∷◌, length, map, Option, Some, Result, Ok, Err, refl, sym, ap, subst, ◌∙◌, arith}
use Rattle.std.specs.Prelude.{slice_get, IfSome}
use Rattle.std.specs.Option.{option_map_or}
use Rattle.std.proofs.lemmas.Bool.{lt-ltb}
use Rattle.std.proofs.lemmas.List.{length-map}
use Rattle.std.proofs.lemmas.List.Elements.{All-cons, All-nil}
use Rattle.sed_engine.specs.declared.call.Place.{Place}
use Rattle.sed_engine.specs.declared.trap.Trap.TheVariants.{TooDeep}
use Rattle.sed_engine.specs.State.{Shared, State, End}
use Rattle.sed_engine.specs.Stops.{Stop, Traps, Untyped}
use Rattle.sed_engine.specs.Values.{Val, Nothing, Truth, Int, Long, Null, At, Literal}
use Rattle.scode_ops.specs.declared.op.Op.{Op}
use Rattle.scode_ops.specs.Decoding.{op_at, size_of}
use Rattle.scode_image.specs.declared.image.Image.{Image}
use Rattle.scode_image.specs.declared.image.ImageKind.{ImageKind}
use Rattle.scode_image.specs.declared.image.ImageMethod.{ImageMethod}
use Rattle.scode_code.specs.Faults.{IsVerified}
use Rattle.scode_code.specs.Fields.{Setting}
use Rattle.scode_code.specs.Kinds.{Shape}
use Rattle.scode_code.specs.Machine as language
use Rattle.scode_code.specs.Machine.{Machine, At as AtWork, Over, Move, Onward, Goto, Enter, Leave, frame_at, moves, pushed, returned}
use Rattle.scode_code.specs.Steps.{act, effect, instruction_at, step}
use Rattle.scode_code.specs.Verified.{KindsIn, Stands}
use Rattle.scode_sound.specs.Cells.{Concrete, Fit, HasKind}
use Rattle.scode_sound.specs.Fine.{Fine, FineAt}
use Rattle.scode_cells.specs.declared.cell.Cell.{Cell}
use Rattle.scode_cells.specs.Frames as cells
use Rattle.scode_cells.specs.Frames.{Frames, IsRunning, below, first_frame, most_frames, running}
use Rattle.scode_vm.specs.Calling.{HasRoomFor}
use Rattle.scode_vm.specs.Seen.{frame_seen, machine_seen, val_of, vals}
use Rattle.scode_vm.specs.Doings.{AreValues, EndsTyped, behind, HasCells, HasRoom, IsTypedOn, IsValue, MayDo, ending, point_from}
use Rattle.scode_vm.proofs.Entering.{frames_long}

-- ---- cells that fit kinds

kind_value : (w : Setting) (k : ImageKind) (v : Val) → HasKind w k v → IsValue v
kind_value w k Nothing h = absurd h
kind_value w k (Truth t) h = tt
kind_value w k (Int n) h = tt
kind_value w k (Long n) h = tt
kind_value w k Null h = tt
kind_value w k (At spot) h = tt
kind_value w k (Literal n) h = tt

fit_values : (w : Setting) (place : Place) (ks : List ImageKind) (cells : List Cell) → Fit w ks (vals w place cells)
    → AreValues w place cells
fit_values w place ks [] h = All-nil (λ c. IsValue (val_of w place c))
fit_values w place [] (c ∷ cs) h = absurd h
fit_values w place (k ∷ ks) (c ∷ cs) h =
    All-cons (λ c. IsValue (val_of w place c)) c cs (kind_value w k (val_of w place c) h.0)
    (fit_values w place ks cs h.1)

fit_long : (w : Setting) (ks : List ImageKind) (vs : List Val) → Fit w ks vs → length vs ≡ length ks
fit_long w [] [] h = refl
fit_long w [] (v ∷ vs) h = absurd h
fit_long w (k ∷ ks) [] h = absurd h
fit_long w (k ∷ ks) (v ∷ vs) h = ap suc (fit_long w ks vs h.1)

-- ---- what the laws of the code say

abbrev pub GoOn : Type 0
GoOn = (w : Setting) (given : ℕ) (x : Machine) → IsVerified w.image → Concrete w.image w.class
    → FineAt w given (KindsIn w.image) x → Fine w given (KindsIn w.image) (step w (AtWork x))

abbrev pub KeepTheirMaximum : Type 0
KeepTheirMaximum = (image : Image) (method place : ℕ) (shape : Shape) → IsVerified image
    → (here : KindsIn image method place shape) → length shape.stack ≤ here.m.stack

-- ---- where an end leads that is fine

module _ (maximum : KeepTheirMaximum) (w : Setting) (given : ℕ) (verified : IsVerified w.image) where
  -- a method is the one of its number
  one_method : (n : ℕ) (a b : ImageMethod) → slice_get w.image.methods n ≡ Some a → slice_get w.image.methods n ≡ Some b
      → a ≡ b
  one_method n a b p q = (let both : Some a ≡ Some b = sym p ∙ q in cc)

  stack_kept : (x : Machine) (m : ImageMethod) → slice_get w.image.methods x.top.method ≡ Some m
      → FineAt w given (KindsIn w.image) x → length x.top.stack ≤ m.stack
  stack_kept x m known f =
      let few : length f.shape.stack ≤ f.at.stands.m.stack =
      maximum w.image x.top.method x.top.place f.shape verified f.at.stands in
      let same : f.at.stands.m ≡ m = one_method x.top.method f.at.stands.m m f.at.stands.there known in
      let long : length x.top.stack ≡ length f.shape.stack = fit_long w f.shape.stack x.top.stack f.fit_stack in
      let as_many : f.at.stands.m.stack ≡ m.stack = ap (λ (x : ImageMethod). x.stack) same in
      omega arith

  locals_long : (x : Machine) (m : ImageMethod) → slice_get w.image.methods x.top.method ≡ Some m
      → FineAt w given (KindsIn w.image) x → length x.top.locals ≡ length m.locals
  locals_long x m known f =
      fit_long w f.shape.locals x.top.locals f.fit_locals ∙ f.at.many
      ∙ ap (λ (x : ImageMethod). length x.locals) (one_method x.top.method f.at.m m f.at.known known)

  ends_typed : (f : language.Frame) (below : List language.Frame) (next : ℕ) (r : Result Move Stop) (s : State)
      → Fine w given (KindsIn w.image) (moves f below next r s) → EndsTyped r
  ends_typed f below next (Ok move) s h = tt
  ends_typed f below next (Err (Traps trap)) s h = tt
  ends_typed f below next (Err Untyped) s h = h.typed

  room_left : (f : language.Frame) (below : List language.Frame) (next most locals : ℕ) (m : ImageMethod)
      → slice_get w.image.methods f.method ≡ Some m → locals + m.stack ≤ most → (r : Result Move Stop) (s : State)
      → Fine w given (KindsIn w.image) (moves f below next r s) → HasRoom most locals r
  room_left f below next most locals m known few (Ok (Onward stack)) s h =
      let kept = stack_kept _ m known h in
      omega (arith, kept, few)
  room_left f below next most locals m known few (Ok (Goto to stack)) s h =
      let kept = stack_kept _ m known h in
      omega (arith, kept, few)
  room_left f below next most locals m known few (Ok (Enter method args stack)) s h = tt
  room_left f below next most locals m known few (Ok (Leave v)) s h = tt
  room_left f below next most locals m known few (Err stop) s h = tt

  -- ---- the room for a new frame, and in the frame below

  pushed_long : (v : Val) (stack : List Val) → length (pushed v stack) ≡ length (pushed v []) + length stack
  pushed_long Nothing stack = omega arith
  pushed_long (Truth t) stack = omega arith
  pushed_long (Int n) stack = omega arith
  pushed_long (Long n) stack = omega arith
  pushed_long Null stack = omega arith
  pushed_long (At spot) stack = omega arith
  pushed_long (Literal n) stack = omega arith

  -- a frame that goes on with a value
  abbrev given_to : Place → cells.Frame → List cells.Frame → Val → Shared → Machine
  given_to place f fs v shared = record {
    top = record {
      method = f.method;
      place = f.place;
      locals = vals w place f.locals;
      stack = pushed v (vals w place f.stack);
    };
    below = map (frame_seen w place) fs;
    shared = shared;
  }

  has_room_below : (most : ℕ) (fs : List cells.Frame) (v : Val) (shared : Shared) (place : Place)
      → HasCells w.image most → 0 < length fs
      → Fine w given (KindsIn w.image) (returned v (map (frame_seen w place) fs) shared)
      → length (first_frame fs).locals + (length (pushed v []) + length (first_frame fs).stack) ≤ most
  has_room_below most [] v shared place many some h = absurd (omega arith)
  has_room_below most (f ∷ fs) v shared place many some h =
      let kept : length (pushed v (vals w place f.stack)) ≤ h.at.m.stack =
      stack_kept (given_to place f fs v shared) h.at.m h.at.known h in
      let locals : length (vals w place f.locals) ≡ length h.at.m.locals =
      locals_long (given_to place f fs v shared) h.at.m h.at.known h in
      let few = many f.method h.at.m h.at.known in
      let same_locals : length (vals w place f.locals) ≡ length f.locals = length-map f.locals (val_of w place) in
      let same_stack : length (vals w place f.stack) ≡ length f.stack = length-map f.stack (val_of w place) in
      let more : length (pushed v (vals w place f.stack)) ≡ length (pushed v []) + length (vals w place f.stack) =
      pushed_long v (vals w place f.stack) in
      omega (arith, kept, locals, few, same_locals, same_stack, more)

  room_for : (place : Place) (s : Frames) (next : ℕ) → HasCells w.image s.most → IsRunning s
      → (r : Result Move Stop) (st : State)
      → Fine w given (KindsIn w.image)
      (moves (frame_seen w place (running s)) (map (frame_seen w place) (below s)) next r st)
      → HasRoomFor w.image s r
  room_for place s next many runs (Ok (Enter number locals stack)) st h = λ few.
      let frames : List language.Frame =
      frame_at (frame_seen w place (running s)) next st.locals stack ∷ map (frame_seen w place) (below s) in
      let long : length frames ≡ length s.frames =
      ap suc (length-map (below s) (frame_seen w place)) ∙ frames_long s.frames runs in
      let test : nat_lt (length frames) most_frames ≡ true = lt-ltb (length frames) most_frames (omega (arith, long, few)) in
      let x : Machine = record {
        top = record { method = number; place = 0; locals = locals; stack = [] };
        below = frames;
        shared = st.shared;
      } in
      let fine : FineAt w given (KindsIn w.image) x =
      subst (λ (b : Bool). Fine w given (KindsIn w.image)
      (if b then AtWork x else Over (record { result = Err (Traps TooDeep); shared = st.shared }))) test h in
      let cells = many number fine.at.m fine.at.known in
      subst (λ (o : Option ImageMethod). IfSome o (λ m. (length locals ≡ length m.locals) × (length m.locals ≤ s.most)))
      (sym fine.at.known) (locals_long x fine.at.m fine.at.known fine, omega (arith, cells))
  room_for place s next many runs (Ok (Leave v)) st h = λ more.
      has_room_below s.most (below s) v st.shared place many more h
  room_for place s next many runs (Ok (Onward stack)) st h = tt
  room_for place s next many runs (Ok (Goto to stack)) st h = tt
  room_for place s next many runs (Err stop) st h = tt

-- ---- the instruction at the place

-- it stands there
pub at_place : (w : Setting) (given : ℕ) (x : Machine)
    → ((method place : ℕ) (shape : Shape) → KindsIn w.image method place shape
    → Stands w.image (KindsIn w.image) method place shape)
    → FineAt w given (KindsIn w.image) x → (i : Op) × (instruction_at w.image x.top.method x.top.place ≡ Some i)
at_place w given x each fine =
    let known = each x.top.method x.top.place fine.shape fine.at.stands in (
      known.i,
      ap (λ (o : Option ImageMethod). op_at (option_map_or (λ m. m.code) o []) x.top.place) known.there
          ∙ known.instruction,
    )

module _ (w : Setting) (place : Place) (s : Frames) (shared : Shared) (i : Op)
    (here : instruction_at w.image (running s).method (running s).place ≡ Some i) where
  abbrev now : Machine
  now = machine_seen w place s shared

  abbrev ends_so : End Move
  ends_so = ending (λ w. effect w i) w place (behind s i) shared

  pub step_leads : step w (AtWork now) ≡ point_from (machine_seen w place (behind s i) shared) ends_so
  step_leads = ap (λ (o : Option Op). act w o now.top now.below shared) here

  module _ (go_on : GoOn) (given : ℕ) (verified : IsVerified w.image) (concrete : Concrete w.image w.class)
      (fine : FineAt w given (KindsIn w.image) now) where
    next : Fine w given (KindsIn w.image) (point_from (machine_seen w place (behind s i) shared) ends_so)
    next = subst (Fine w given (KindsIn w.image)) step_leads (go_on w given now verified concrete fine)

    pub typed_on : KeepTheirMaximum → IsTypedOn (λ w. effect w i) w place shared (behind s i)
    typed_on maximum = record {
      locals = fit_values w place fine.shape.locals (running s).locals fine.fit_locals;
      stack = fit_values w place fine.shape.stack (running s).stack fine.fit_stack;
      ends = ends_typed maximum w given verified (machine_seen w place (behind s i) shared).top
          (machine_seen w place (behind s i) shared).below ((running s).place + size_of i) ends_so.result ends_so.state
          next;
    }

    runs_on : IsRunning (behind s i)
    runs_on = omega arith

    pub room_left_here : KeepTheirMaximum → HasCells w.image s.most
        → HasRoom s.most (length (running s).locals) ends_so.result
    room_left_here maximum many =
        let few = many (running s).method fine.at.m fine.at.known in
        let long : length (vals w place (running s).locals) ≡ length fine.at.m.locals =
        locals_long maximum w given verified now fine.at.m fine.at.known fine in
        let as_many : length (vals w place (running s).locals) ≡ length (running s).locals =
        length-map (running s).locals (val_of w place) in
        let room : length (running s).locals + fine.at.m.stack ≤ s.most = omega (arith, few, long, as_many) in
        room_left maximum w given verified (machine_seen w place (behind s i) shared).top
        (machine_seen w place (behind s i) shared).below ((running s).place + size_of i) s.most
        (length (running s).locals) fine.at.m fine.at.known room ends_so.result ends_so.state next

    pub may_do : KeepTheirMaximum → HasCells w.image s.most → MayDo (λ w. effect w i) (behind s i)
    may_do maximum many = record {
      runs = runs_on;
      w = w;
      place = place;
      shared = shared;
      typed = typed_on maximum;
      room = room_left_here maximum many;
    }

    pub room_for_here : KeepTheirMaximum → HasCells w.image s.most → HasRoomFor w.image (behind s i) ends_so.result
    room_for_here maximum many =
        room_for maximum w given verified place (behind s i) ((running s).place + size_of i) many runs_on
        ends_so.result ends_so.state next
