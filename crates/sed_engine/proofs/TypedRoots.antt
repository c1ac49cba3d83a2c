-- Root calls of typed programs end well.
use Rattle.std.proofs.Common.{◌≡◌, ◌≤◌, ◌&&◌, not, ℕ, Bool, true, false, if◌then◌else◌, List, [], ◌∷◌, ◌++◌, replicate, codes, Option, Some, None, Result, Ok, Err, refl, sym, ap, subst, ◌∙◌, lit≤}
use Rattle.std.specs.Prelude.{IfSome, IsSomeAnd, is_some, slice_get}
use Rattle.std.specs.Option.{option_map, option_map_or}
use Rattle.std.proofs.lemmas.Bool.{not-true, and_parts}
use Rattle.std.proofs.lemmas.Option.{slice_get_within}
use Rattle.sed_value.specs.declared.value.Value.{Value}
use Rattle.sed_value.specs.declared.value.Value.TheVariants as kept
use Rattle.sed_typed.specs.declared.kind.Kind.{Kind}
use Rattle.sed_typed.specs.declared.kind.Kind.TheVariants as kind
use Rattle.sed_typed.specs.declared.program.Method.{Method}
use Rattle.sed_typed.specs.declared.program.Program.{Program}
use Rattle.sed_typed.specs.declared.schema.ActionArg.{ActionArg}
use Rattle.sed_typed.specs.declared.schema.ActionArg.TheVariants as argument
use Rattle.sed_typed.specs.declared.schema.ClassInfo.{ClassInfo}
use Rattle.sed_typed.specs.declared.schema.SlotForm.{SlotForm}
use Rattle.sed_typed.specs.declared.schema.SlotForm.TheVariants.{Prop, Action as OfAction}
use Rattle.sed_typed.specs.declared.schema.SlotInfo.{SlotInfo}
use Rattle.sed_typed.specs.Classes.{find, method_name, slot_name}
use Rattle.sed_typed.specs.SysTypes.{component_type}
use Rattle.sed_typed.specs.Typed.{Typed, receiver_of}
use Rattle.sed_typed.specs.TypedSchema.{IsClass, HasSlots, HasSlot, IsAction, argument_kinds, is_below}
use Rattle.sed_engine.specs.declared.call.Callback.TheVariants as callback
use Rattle.sed_engine.specs.declared.call.Root.{Root}
use Rattle.sed_engine.specs.declared.call.Root.TheVariants.{Execute, Action, Callback}
use Rattle.sed_engine.specs.declared.trap.Trap.{Trap}
use Rattle.sed_engine.specs.declared.trap.Trap.TheVariants.{ZeroDivisor, NullReference, OutOfRange, TurnsSpent, TooDeep}
use Rattle.sed_engine.specs.Traps.{number_of}
use Rattle.sed_engine.specs.Stops.{Stop, Traps, Untyped, there, map_ok, and_then}
use Rattle.sed_engine.specs.Values.{Val, Nothing}
use Rattle.sed_engine.specs.Code.{is_argument, action_takes, slot_form, may_call, is_creatable}
use Rattle.sed_engine.specs.Program.{code_of}
use Rattle.sed_engine.specs.State.{Shared}
use Rattle.sed_engine.specs.Expressions.{Called, Calls}
use Rattle.sed_engine.specs.Root.{method_at, callback_method, root_method, argument_of, root_frame, start_root, end_of, most_frames, calls_with}
use Rattle.sed_engine.specs.Whole.{EndsWell, NeverGoesWrong}
use Rattle.sed_engine.proofs.Below.{Below, Itself, below_of, no, of_some, FoundFor, found_below, found_above}
use Rattle.sed_engine.proofs.CallSteps.{CallsSound}
use Rattle.sed_engine.proofs.Frames.{FrameHas, no_locals}
use Rattle.sed_engine.proofs.Kinded.{HasKind}
use Rattle.sed_engine.proofs.Ranges.{Sound}
use Rattle.sed_engine.proofs.Ready.{Fitting}
use Rattle.sed_engine.proofs.RootLaws.{run_leaves, LeavesAtMost}
use Rattle.sed_engine.proofs.Spots.{Concrete, found_body}
use Rattle.sed_engine.proofs.SysMethods.{IsRoot, SysClass, sys_class, root_there}
use Rattle.sed_engine.proofs.TypedBodies.{calls_sound}
use Rattle.sed_engine.proofs.Within.{calls_keep}

-- ---- the class of a component

-- a class of which components are made: a concrete one at or below `Component`
pub record IsComponent (program : Program) (class : ℕ) : Type 0 where
  pub concrete : Concrete program class
  pub component : SysClass program.schema.classes component_type (λ _. Unit {0})
  pub below : Below program.schema.classes component.class class

pub component_in : (program : Program) → Typed program → SysClass program.schema.classes component_type (λ _. Unit {0})
component_in program typed =
    let c = sys_class program.schema.classes component_type _ typed.kits.sys_types.component in
    record { class = c.class; is = c.is; info = c.info; there = c.there; kit = c.kit; number_is = c.number_is; has = tt }

pub component_of : (program : Program) → Typed program → (class : ℕ) → is_creatable (code_of program) class ≡ true → IsComponent program class
component_of program typed class h = go (slice_get program.schema.classes class) refl (typed.classes class) h
  where
    go : (o : Option ClassInfo) → slice_get program.schema.classes class ≡ o → IfSome o (IsClass program class) → option_map_or (λ c. c.is_component && not c.is_abstract) o false ≡ true → IsComponent program class
    go None is k h = no h
    go (Some info) is k h =
        let parts : (info.is_component ≡ true) × (not info.is_abstract ≡ true) = and_parts info.is_component (not info.is_abstract) h in
        let c = component_in program typed in
        record {
          concrete = (slice_get_within program.schema.classes class info is, ap (λ (o : Option ClassInfo). option_map_or (λ c. c.is_abstract) o false) is ∙ not-true info.is_abstract parts.1);
          component = c;
          below =
              below_of program.schema.classes c.class class
              (sym (ap (λ (o : Option ℕ). option_map_or (λ above. is_below program.schema.classes above class) o false) c.is) ∙ sym k.component ∙ parts.0);
        }

-- ---- the method of a root call

-- a method that a root call may run with such an argument
pub record RunsWith (program : Program) (class : ℕ) (a : ActionArg) (n : ℕ) : Type 0 where
  pub method : Method
  pub is : slice_get program.methods n ≡ Some method
  pub instance : method.is_static ≡ false
  pub takes : method.params ≡ argument_kinds a
  pub above : Below program.schema.classes method.class.0 class
  pub some : method.body ≡ None → ⊥

runs_with : (program : Program) → Typed program → (class : ℕ) → Concrete program class → (a : ActionArg) (name : List ℕ) (n : ℕ) (x : Method) → find program class name ≡ Some n → slice_get program.methods n ≡ Some x →
    x.is_static ≡ false → x.params ≡ argument_kinds a → RunsWith program class a n
runs_with program typed class known a name n x found is instance takes =
    let above : Below program.schema.classes x.class.0 class × (x.name ≡ name) = found_above program class n name x found is in
    let named : method_name program n ≡ name = ap (λ (o : Option Method). option_map_or (λ m. m.name) o []) is ∙ above.1 in
    record {
      method = x;
      is = is;
      instance = instance;
      takes = takes;
      above = above.0;
      some = found_body program typed class n n x known (ap (find program class) named ∙ found) is;
    }

-- a root call runs no method, or one that takes its argument
abbrev pub RunsRoot : Program → ℕ → ActionArg → Option ℕ → Type 0
RunsRoot program class a None = Unit {0}
RunsRoot program class a (Some n) = RunsWith program class a n

-- the nearest method of a name that a class at or above has for roots
root_at : (program : Program) → Typed program → (class : ℕ) → Concrete program class → (above : ℕ) → Below program.schema.classes above class → (a : ActionArg) (name : List ℕ) →
    IsSomeAnd (find program above name) (IsRoot program a) → Sound (RunsRoot program class a) (method_at program class name)
root_at program typed class known above b a name h =
    let n : (n : ℕ) × (find program above name ≡ Some n) × IsRoot program a n = of_some (find program above name) h in
    let x : (x : Method) × (slice_get program.methods n.0 ≡ Some x) × IsAction a x = of_some (slice_get program.methods n.0) n.2 in
    let f : FoundFor program class name x.0 = found_below program typed above class n.0 name x.0 b n.1 x.1 in
    subst (λ (o : Option ℕ). Sound (RunsRoot program class a) (map_ok (λ m. Some m) (there o))) (sym f.found)
    (runs_with program typed class known a name f.number f.method f.found f.is (f.same.static ∙ x.2.0) (f.same.params ∙ x.2.3))

callback_at : (program : Program) → Typed program → (class : ℕ) → (c : IsComponent program class) → (a : ActionArg) (name : List ℕ) → IsSomeAnd (find program c.component.class name) (IsRoot program a) →
    Sound (RunsRoot program class a) (callback_method program class name)
callback_at program typed class c a name h =
    subst (λ (o : Option ℕ). Sound (RunsRoot program class a) (and_then (there o) (λ (component : ℕ). if is_some (find program component name) then method_at program class name else Ok None)))
    (sym c.component.is) (go (find program c.component.class name) refl h)
  where
    go : (o : Option ℕ) → find program c.component.class name ≡ o → IsSomeAnd o (IsRoot program a) → Sound (RunsRoot program class a) (if is_some o then method_at program class name else Ok None)
    go None e h = absurd h
    go (Some n) e h = root_at program typed class c.concrete c.component.class c.below a name (subst (λ (o : Option ℕ). IsSomeAnd o (IsRoot program a)) (sym e) h)

-- a root call has an argument of a kind, and what it runs takes it
abbrev pub Starts : (program : Program) (class : ℕ) → Value → Result (Option ℕ) Stop → Type 0
Starts program class v m = (a : ActionArg) × (is_argument a v ≡ true) × Sound (RunsRoot program class a) m

action_at : (program : Program) → Typed program → (class slot : ℕ) → IsComponent program class → (v : Value) → action_takes (slot_form (code_of program) class slot) v ≡ true →
    Starts program class v (method_at program class (slot_name program.schema.classes class slot))
action_at program typed class slot c v h = of_info (slice_get program.schema.classes class) (typed.slots class) h
  where
    of_form : (s : SlotInfo) (f : SlotForm) → HasSlot program class slot s f → action_takes (Some f) v ≡ true → Starts program class v (method_at program class s.name)
    of_form s (Prop t) has h = no h
    of_form s (OfAction a) has h = (a, h, root_at program typed class c.concrete class Itself a s.name has.1)

    of_slot : (o : Option SlotInfo) → IfSome o (λ s. HasSlot program class slot s s.form) → action_takes (option_map (λ s. s.form) o) v ≡ true → Starts program class v (method_at program class (option_map_or (λ s. s.name) o []))
    of_slot None has h = no h
    of_slot (Some s) has h = of_form s s.form has h

    of_info : (o : Option ClassInfo) → IfSome o (HasSlots program class) → action_takes (option_map (λ s. s.form) (slice_get (option_map_or (λ info. info.slots) o []) slot)) v ≡ true →
        Starts program class v (method_at program class (option_map_or (λ s. s.name) (slice_get (option_map_or (λ info. info.slots) o []) slot) []))
    of_info None has h = no h
    of_info (Some info) has h = of_slot (slice_get info.slots slot) (has.each slot) h

-- the methods of `Component` by name: each takes its argument
other : {P : Type 0} → false ≡ true → P
other e = no e

pub root_is : (program : Program) → Typed program → (class : ℕ) → IsComponent program class → (which : Root) (v : Value) → may_call (code_of program) class which v ≡ true → Starts program class v (root_method program class which)
root_is program typed class c Execute v h = (
  argument.Void,
  h,
  root_at program typed class c.concrete c.component.class c.below argument.Void (codes "execute")
      (root_there program typed c.component (codes "execute") argument.Void refl (λ e. refl, (other, (other, (other, tt))))),
)
root_is program typed class c (Action slot) v h = action_at program typed class slot.0 c v h
root_is program typed class c (Callback callback.Start) v h =
    (argument.Void, h, callback_at program typed class c argument.Void (codes "start") (root_there program typed c.component (codes "start") argument.Void refl (other, (λ e. refl, (other, (other, tt))))))
root_is program typed class c (Callback callback.Stop) v h =
    (argument.Void, h, callback_at program typed class c argument.Void (codes "stop") (root_there program typed c.component (codes "stop") argument.Void refl (other, (other, (λ e. refl, (other, tt))))))
root_is program typed class c (Callback callback.Changed) v h =
    (argument.Int, h, callback_at program typed class c argument.Int (codes "changed") (root_there program typed c.component (codes "changed") argument.Int refl (other, (other, (other, (λ e. refl, tt))))))

-- ---- the argument

pub argument_is : (program : Program) (class : ℕ) (a : ActionArg) (v : Value) → is_argument a v ≡ true → Sound (λ u. FrameHas program class (argument_kinds a) (u ∷ replicate 63 Nothing)) (argument_of v)
argument_is program class argument.Void kept.Nothing h = (refl, no_locals program class 63)
argument_is program class argument.Void v h = no h
argument_is program class argument.Bool (kept.Bool t) h = (h, no_locals program class 63)
argument_is program class argument.Bool v h = no h
argument_is program class argument.Int (kept.Int n) h = (h, no_locals program class 63)
argument_is program class argument.Int v h = no h
argument_is program class argument.Long (kept.Long n) h = (h, no_locals program class 63)
argument_is program class argument.Long v h = no h

-- ---- the whole call

any_value : (P : Val → Type 0) (r : Result Val Stop) → Sound P r → Sound (λ _. Unit {0}) r
any_value P (Ok v) h = tt
any_value P (Err (Traps t)) h = tt
any_value P (Err Untyped) h = h

-- the frame of a root call is one of its method
pub frame_is : (program : Program) (class : ℕ) (a : ActionArg) (n : ℕ) (r : RunsWith program class a n) (v : Val) → FrameHas program class (argument_kinds a) (v ∷ replicate 63 Nothing) →
    FrameHas program class (receiver_of r.method ++ r.method.params) (root_frame v)
frame_is program class a n r v k =
    let first : FrameHas program class ((kind.Object r.method.class ∷ []) ++ argument_kinds a) (root_frame v) = (record { at = class; is = refl; below = r.above }, k) in
    let one : receiver_of r.method ≡ kind.Object r.method.class ∷ [] = ap (λ (b : Bool). if b then [] else kind.Object r.method.class ∷ []) r.instance in
    subst (λ (ks : List Kind). FrameHas program class ks (root_frame v))
    (ap (λ (ks : List Kind). (kind.Object r.method.class ∷ []) ++ ks) (sym r.takes) ∙ ap (λ (ks : List Kind). ks ++ r.method.params) (sym one)) first

started : (program : Program) (class : ℕ) (calls : Calls) → CallsSound program class calls → (a : ActionArg) (m : Result (Option ℕ) Stop) (u : Result Val Stop) (s : Shared) → Fitting program class s →
    Sound (RunsRoot program class a) m → Sound (λ v. FrameHas program class (argument_kinds a) (v ∷ replicate 63 Nothing)) u → Sound (λ _. Unit {0}) (start_root calls m u s).result
started program class calls sound a (Ok None) (Ok v) s fitting h k = tt
started program class calls sound a (Ok (Some n)) (Ok v) s fitting h k = any_value (HasKind program class h.method.result) (calls n (root_frame v) s).result (sound.sound n h.method (root_frame v) s h.is h.some (frame_is program class a n h v k) refl fitting).1
started program class calls sound a (Ok m) (Err (Traps t)) s fitting h k = tt
started program class calls sound a (Ok m) (Err Untyped) s fitting h k = absurd k
started program class calls sound a (Err (Traps t)) u s fitting h k = tt
started program class calls sound a (Err Untyped) u s fitting h k = absurd h

trap_number : (t : Trap) → (1 ≤ number_of t) × (number_of t ≤ 5)
trap_number ZeroDivisor = (lit≤ tt, lit≤ tt)
trap_number NullReference = (lit≤ tt, lit≤ tt)
trap_number OutOfRange = (lit≤ tt, lit≤ tt)
trap_number TurnsSpent = (lit≤ tt, lit≤ tt)
trap_number TooDeep = (lit≤ tt, lit≤ tt)

ended : (r : Result Val Stop) (left turns : ℕ) → Sound (λ _. Unit {0}) r → LeavesAtMost (end_of r left) turns → EndsWell turns (end_of r left)
ended (Ok v) left turns h most = most
ended (Err (Traps t)) left turns h most = trap_number t
ended (Err Untyped) left turns h most = absurd h

pub roots_end : (program : Program) → Typed program → NeverGoesWrong (code_of program)
roots_end program typed q creatable fits statics_fit may long =
    let s : Shared = record { contents = q.contents; statics = q.statics; turns = q.turns; moment = q.moment } in
    let c : IsComponent program q.class = component_of program typed q.class creatable in
    let calls : Calls = calls_with program q.class most_frames in
    let fitting : Fitting program q.class s = record { fits = record { contents = fits.values; statics = statics_fit.values }; contents = fits.paths; statics = statics_fit.paths; moment = long } in
    let starts : Starts program q.class q.argument (root_method program q.class q.which) = root_is program typed q.class c q.which q.argument may in
    let e : Called = start_root calls (root_method program q.class q.which) (argument_of q.argument) s in
    ended e.result e.shared.turns q.turns
    (started program q.class calls (calls_sound program typed q.class c.concrete most_frames) starts.0 (root_method program q.class q.which) (argument_of q.argument) s fitting starts.2 (argument_is program q.class starts.0 q.argument starts.1))
    (run_leaves calls (calls_keep program q.class most_frames) (root_method program q.class q.which) (argument_of q.argument) s)
