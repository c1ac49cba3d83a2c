-- The machine follows the source: root calls.
use Rattle.std.proofs.Common.{◌≡◌, ℕ, ◌+◌, ◌≤◌, suc, Bool, if◌then◌else◌, List, [], ◌∷◌, ◌++◌, length, replicate, Option, Some, Result, Ok, Err, slice_get, refl, sym, ap, ◌∙◌, subst, arith}
use Rattle.sed_typed.specs.declared.kind.Kind.{Kind}
use Rattle.sed_typed.specs.declared.kind.Kind.TheVariants as kind
use Rattle.sed_typed.specs.declared.program.Program.{Program}
use Rattle.sed_typed.specs.declared.schema.ActionArg.{ActionArg}
use Rattle.sed_typed.specs.declared.schema.ActionArg.TheVariants as argument
use Rattle.sed_typed.specs.Typed.{Typed, locals_of, receiver_of}
use Rattle.sed_typed.specs.TypedSchema.{argument_kinds}
use Rattle.sed_engine.specs.Asked.{Asked}
use Rattle.sed_engine.specs.Code.{Question}
use Rattle.sed_engine.specs.Program.{code_of}
use Rattle.sed_engine.specs.Root.{root_method, argument_of, root_frame, calls_with, most_frames}
use Rattle.sed_engine.specs.State.{Shared}
use Rattle.sed_engine.specs.Stops.{Stop, Traps, Untyped}
use Rattle.sed_engine.specs.Values.{Val, Nothing, Truth, Int, Long, Null, At, Literal, Component}
use Rattle.sed_engine.proofs.Below.{at_place}
use Rattle.sed_engine.proofs.Frames.{FrameHas}
use Rattle.sed_engine.proofs.Ranges.{Sound}
use Rattle.sed_engine.proofs.Ready.{Fitting}
use Rattle.sed_engine.proofs.TypedBodies.{calls_sound}
use Rattle.sed_engine.proofs.TypedRoots.{IsComponent, RunsWith, component_of, RunsRoot, Starts, root_is, argument_is, frame_is}
use Rattle.sed_typed.specs.Typed.{IsMethod}
use Rattle.scode_image.specs.declared.image.Image.{Image}
use Rattle.scode_image.specs.declared.image.ImageMethod.{ImageMethod}
use Rattle.scode_code.specs.Calls as machine_calls
use Rattle.scode_code.specs.Fields.{Setting}
use Rattle.scode_code.specs.Machine.{Point, Over, enters, pushed}
use Rattle.scode_code.specs.Root.{begins, root_arguments}
use Rattle.scode_code.specs.Steps.{steps}
use Rattle.scode_emit.specs.Site.{Layout}
use Rattle.scode_sim.specs.Made.{IsMade}
use Rattle.scode_sim.specs.Reaches.{Reaches, begun_with}
use Rattle.scode_sim.proofs.Arguments.{AllCells, AllNothing, nothings, locals_agree, others_of}
use Rattle.scode_sim.proofs.Bodies.{Stand, calls_followed}
use Rattle.scode_sim.proofs.CallSims.{Returned, running_of}
use Rattle.scode_sim.proofs.Callees.{others_room}
use Rattle.scode_sim.proofs.Context.{Known, machine}
use Rattle.scode_sim.proofs.Follows.{Ends}
use Rattle.scode_sim.proofs.Frames.{Agree, AgreeOn, IsCell}

-- the component, and the argument where there is one
pub record Given (v : Val) (many : ℕ) : Type 0 where
  pub args : List Val
  pub blank : List Val
  pub is : root_frame v ≡ args ++ blank
  pub machine_is : root_arguments v ≡ args
  pub cells : AllCells args
  pub nothing : AllNothing blank
  pub long : length args ≡ many
  pub whole : length args + length blank ≡ 65
  pub first : slice_get args 0 ≡ Some (At (record { base = Component; path = [] }))

the_component : Val
the_component = At (record { base = Component; path = [] })

with_value : (v : Val) → pushed v [] ≡ v ∷ [] → IsCell v → Given v 2
with_value v e cell = record {
  args = At (record { base = Component; path = [] }) ∷ v ∷ [];
  blank = replicate 63 Nothing;
  is = refl;
  machine_is = ap (λ (vs : List Val). At (record { base = Component; path = [] }) ∷ vs) e;
  cells = (tt, (cell, tt));
  nothing = nothings 63;
  long = refl;
  whole = refl;
  first = refl;
}

without : (v : Val) → v ≡ Nothing → Given v 1
without v e = subst (λ (v : Val). Given v 1) (sym e) (record {
  args = At (record { base = Component; path = [] }) ∷ [];
  blank = replicate 64 Nothing;
  is = refl;
  machine_is = refl;
  cells = (tt, tt);
  nothing = nothings 64;
  long = refl;
  whole = refl;
  first = refl;
})

given : (program : Program) (class : ℕ) (a : ActionArg) (v : Val) → FrameHas program class (argument_kinds a) (v ∷ replicate 63 Nothing) → Given v (suc (length (argument_kinds a)))
given program class argument.Void v h = without v h.0
given program class argument.Bool (Truth t) h = with_value (Truth t) refl tt
given program class argument.Bool Nothing h = absurd h.0
given program class argument.Bool (Int n) h = absurd h.0
given program class argument.Bool (Long n) h = absurd h.0
given program class argument.Bool Null h = absurd h.0
given program class argument.Bool (At spot) h = absurd h.0
given program class argument.Bool (Literal n) h = absurd h.0
given program class argument.Int (Int n) h = with_value (Int n) refl tt
given program class argument.Int Nothing h = absurd h.0
given program class argument.Int (Truth t) h = absurd h.0
given program class argument.Int (Long n) h = absurd h.0
given program class argument.Int Null h = absurd h.0
given program class argument.Int (At spot) h = absurd h.0
given program class argument.Int (Literal n) h = absurd h.0
given program class argument.Long (Long n) h = with_value (Long n) refl tt
given program class argument.Long Nothing h = absurd h.0
given program class argument.Long (Truth t) h = absurd h.0
given program class argument.Long (Int n) h = absurd h.0
given program class argument.Long Null h = absurd h.0
given program class argument.Long (At spot) h = absurd h.0
given program class argument.Long (Literal n) h = absurd h.0

module _ (program : Program) (typed : Typed program) (layout : Layout) (image : Image) (made : IsMade program layout image) (stand : Stand) where
  -- what is over is what the source comes to
  over : (w : Setting) (n : ℕ) (k : Kind) (r : Result Val Stop) (shared : Shared) (q : Point) → (Sound (λ _. Unit {0}) r) → Ends (Returned n k []) r (record { shared = shared; locals = [] }) q → q ≡ Over (record { result = r; shared = shared })
  over w n k (Ok v) shared q sound e = e.is
  over w n k (Err (Traps trap)) shared q sound e = e
  over w n k (Err Untyped) shared q sound e = absurd sound

  any_value : (P : Val → Type 0) (r : Result Val Stop) → Sound P r → Sound (λ _. Unit {0}) r
  any_value P (Ok v) h = tt
  any_value P (Err (Traps t)) h = tt
  any_value P (Err Untyped) h = h

  reaches : (class : ℕ) (known : Known program layout image class) (a : ActionArg) (number : ℕ) (r : RunsWith program class a number) (v : Val) → FrameHas program class (argument_kinds a) (v ∷ replicate 63 Nothing) → (shared : Shared) → Fitting program class shared →
      Reaches (machine image class) (begins (slice_get image.methods number) number v shared) (calls_with program class most_frames number (root_frame v) shared)
  reaches class known a number r v has shared fitting =
      let m = r.method in
      let w = machine image class in
      let method : IsMethod program m = at_place (IsMethod program) program.methods number m typed.methods r.is in
      let found = made.methods number m r.is in
      let g = given program class a v has in
      let frame_has = frame_is program class a number r v has in
      let one : receiver_of m ≡ kind.Object m.class ∷ [] = ap (λ (b : Bool). if b then [] else kind.Object m.class ∷ []) r.instance in
      let count : length (receiver_of m ++ m.params) ≡ suc (length (argument_kinds a)) = ap (λ (ks : List Kind). length (ks ++ m.params)) one ∙ ap (λ (ks : List Kind). suc (length ks)) r.takes in
      let room : length (others_of m) ≤ length g.blank = let l = g.long in let wh = g.whole in let o = others_room program m method r.some in omega (arith, l, wh, o, count) in
      let agree : Agree (running_of number m []) (root_frame v) (machine_calls.locals_of found.0 g.args) = record {
        each = subst (λ (f : List Val). AgreeOn (locals_of m) f (machine_calls.locals_of found.0 g.args)) (sym g.is) (locals_agree program layout m found.0 found.2 g.args g.blank g.cells g.nothing (g.long ∙ sym count) room);
        this = λ instance. (record { base = Component; path = [] }, refl);
      } in
      let c = calls_with program class most_frames number (root_frame v) shared in
      let sound = (calls_sound program typed class known.component most_frames).sound number m (root_frame v) shared r.is r.some frame_has refl fitting in
      let run = (calls_followed program layout image class known stand most_frames).comes number m r.is r.some (root_frame v) (machine_calls.locals_of found.0 g.args) frame_has refl [] agree refl shared.turns shared fitting (omega arith) in
      let start : begins (slice_get image.methods number) number v shared ≡ enters number (machine_calls.locals_of found.0 g.args) [] shared =
      ap (λ (o : Option ImageMethod). begins o number v shared) found.1 ∙ ap (λ (vs : List Val). enters number (machine_calls.locals_of found.0 vs) [] shared) g.machine_is in
      record {
        count = run.count;
        is = ap (λ p. steps w run.count p) start ∙ over w shared.turns m.result c.result c.shared (steps w run.count (enters number (machine_calls.locals_of found.0 g.args) [] shared)) (any_value _ c.result sound.1) run.holds;
      }

  -- a root call that may be asked
  pub root_reaches : (q : Question) → Asked (code_of program) q → (number : ℕ) (value : Val) → root_method program q.class q.which ≡ Ok (Some number) → argument_of q.argument ≡ Ok value →
      Reaches (machine image q.class) (begins (slice_get image.methods number) number value (begun_with q)) (calls_with program q.class most_frames number (root_frame value) (begun_with q))
  root_reaches q asked number value method argument =
      let c : IsComponent program q.class = component_of program typed q.class asked.creatable in
      let known : Known program layout image q.class = record { typed = typed; made = made; component = c.concrete } in
      let starts : Starts program q.class q.argument (root_method program q.class q.which) = root_is program typed q.class c q.which q.argument asked.argument in
      let fitting : Fitting program q.class (begun_with q) = record { fits = record { contents = asked.contents.values; statics = asked.statics.values }; contents = asked.contents.paths; statics = asked.statics.paths; moment = asked.moment } in
      let runs : RunsWith program q.class starts.0 number = subst (λ r. Sound (RunsRoot program q.class starts.0) r) method starts.2 in
      let has : FrameHas program q.class (argument_kinds starts.0) (value ∷ replicate 63 Nothing) = subst (λ r. Sound (λ u. FrameHas program q.class (argument_kinds starts.0) (u ∷ replicate 63 Nothing)) r) argument (argument_is program q.class starts.0 q.argument starts.1) in
      reaches q.class known starts.0 number runs value has (begun_with q) fitting
