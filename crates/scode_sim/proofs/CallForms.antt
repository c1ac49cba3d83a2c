-- Calls whose arguments are followed: of a static method, of one above, and of one of an object.
use Rattle.std.proofs.Common.{◌≡◌, ℕ, ◌+◌, ◌≤◌, suc, Bool, true, false, if◌then◌else◌, List, [], ◌∷◌, ◌++◌, length, Option, Some, None, slice_get, refl, sym, ap, ◌∙◌, subst, arith}
use Rattle.std.specs.Option.{option_and_then}
use Rattle.std.proofs.lemmas.Option.{same_Some}
use Rattle.std.proofs.Math.ListN.{length-set}
use Rattle.sed_typed.specs.declared.kind.Kind.{Kind}
use Rattle.sed_typed.specs.declared.kind.Kind.TheVariants as kind
use Rattle.sed_typed.specs.declared.number.TypeNo.{TypeNo}
use Rattle.sed_typed.specs.declared.program.Method.{Method}
use Rattle.sed_typed.specs.declared.program.Program.{Program}
use Rattle.sed_typed.specs.Classes.{base_of, find, method_name}
use Rattle.sed_typed.specs.Typed.{IsMethod, receiver_of}
use Rattle.sed_typed.specs.TypedExpr.{AllGoTo, IsCallOf, IsStaticCall, IsSuperCall}
use Rattle.sed_engine.specs.Expressions.{Calls, put_all, new_frame, frame_of, call, call_static}
use Rattle.sed_engine.specs.State.{State, End, then_do}
use Rattle.sed_engine.specs.Values.{Val, Nothing, Truth, Int, Long, Null, At, Literal, Spot}
use Rattle.sed_engine.proofs.Below.{Below, Based, absent, of_some, below_then, found_above}
use Rattle.sed_engine.proofs.CallSteps.{ArgsHold, args_put, is_method, weaker}
use Rattle.sed_engine.proofs.Frames.{FrameHas, no_locals, local_put}
use Rattle.sed_engine.proofs.Kinded.{HasKind}
use Rattle.sed_engine.proofs.Ready.{Holds}
use Rattle.scode_ops.specs.declared.op.Op.TheVariants as op
use Rattle.scode_image.specs.declared.image.Image.{Image}
use Rattle.scode_code.specs.Fields.{Setting}
use Rattle.scode_code.specs.Machine.{Point}
use Rattle.scode_code.specs.Steps.{instruction_at}
use Rattle.scode_emit.specs.Site.{Site, Layout}
use Rattle.scode_sim.proofs.Arguments.{Built, others_of}
use Rattle.scode_sim.proofs.CallSims.{CallsFollowed, call_comes}
use Rattle.scode_sim.proofs.Callees.{args_many, others_room, new_long}
use Rattle.scode_sim.proofs.Comes.{Comes}
use Rattle.scode_sim.proofs.Context.{Known, Body, running, site, machine, source, runs}
use Rattle.scode_sim.proofs.Follows.{Ends, Pushed, Sim, then_sim}
use Rattle.scode_sim.proofs.Frames.{Running}

module _ (program : Program) (layout : Layout) (image : Image) (class : ℕ) (known : Known program layout image class) (b : Body) (calls : Calls) (frames : ℕ) (followed : CallsFollowed program image class frames calls) (deep : suc (length b.below) + frames ≡ 32) where
  abbrev w : Setting
  w = machine image class

  abbrev x : Running
  x = running b

  abbrev S : Site
  S = site program layout b

  abbrev G : State → Type 0
  G s = runs program class b s

  abbrev Has : Kind → Val → Type 0
  Has k v = HasKind program class k v

  -- the locals of a method's frame
  abbrev pub FrameFor : Method → List Val → Type 0
  FrameFor m fr = FrameHas program class (receiver_of m ++ m.params) fr × (length fr ≡ 65)

  -- a frame that is built, and the call of a method that is no virtual one
  pub built_call : (n q number : ℕ) (m : Method) (st first fr : List Val) (many : ℕ) → slice_get program.methods number ≡ Some m → (m.body ≡ None → ⊥) → many ≡ length (receiver_of m ++ m.params) →
      (m.is_static ≡ false → (spot : Spot) × (slice_get first 0 ≡ Some (At spot))) → FrameFor m fr → (s : State) (p : Point) → G s → Built x n q st many 65 first fr s p → instruction_at image x.method q ≡ Some (op.Call number) →
      (let f = call (source program class calls) number fr s in Comes w p (Ends (Pushed x n m.result (q + 3) st) f.result f.state))
  built_call n q number m st first fr many is some count receiver has s p g built at =
      let f = call (source program class calls) number fr s in
      let stands = built.stands in
      let room : length (others_of m) ≤ length built.blank =
      let l = built.long in let wh = built.whole in let o = others_room program m (is_method program known.typed class known.component b.frame number m is) some in omega (arith, l, wh, o, count) in
      subst (λ p. Comes w p (Ends (Pushed x n m.result (q + 3) st) f.result f.state)) (sym stands.is)
      (call_comes program layout image class known b calls frames followed deep n q number m is some st fr built.args built.blank built.is built.cells built.nothing (built.long ∙ count)
      (λ instance. let r = receiver instance in (r.0, built.begins 0 (At r.0) r.1)) has.0 has.1 room stands.locals s g stands.agree stands.turns at)

  -- ---- static methods

  pub static_sim : (n at q number : ℕ) (k : Kind) (st : List Val) (ks : List Kind) (fs : List (State → End Val)) → ArgsHold G Has ks fs → IsStaticCall program number k ks →
      Sim w G x n (List Val) (put_all 0 fs new_frame) at st (Built x n q st (length ks) 65 []) → instruction_at image x.method q ≡ Some (op.Call number) →
      Sim w G x n Val (call_static (source program class calls) number fs) at st (Pushed x n k (q + 3) st)
  static_sim n at q number k st ks fs args is sim code =
      let m : (m : Method) × (slice_get program.methods number ≡ Some m) × ((m.is_static ≡ true) × IsCallOf program m k ks) = of_some (slice_get program.methods number) is in
      let method = is_method program known.typed class known.component b.frame number m.0 m.1 in
      let none : receiver_of m.0 ≡ [] = ap (λ (b : Bool). if b then [] else kind.Object m.0.class ∷ []) m.2.0 in
      let few : length m.0.params ≤ 8 = method.params_most in
      let count : length ks ≡ length (receiver_of m.0 ++ m.0.params) = args_many program ks m.0.params m.2.1.takes ∙ ap (λ (r : List Kind). length (r ++ m.0.params)) (sym none) in
      subst (λ (k : Kind). Sim w G x n Val (call_static (source program class calls) number fs) at st (Pushed x n k (q + 3) st)) m.2.1.gives
      (then_sim w G sim (args_put program known.typed class known.component b.frame [] ks m.0.params fs new_frame args m.2.1.takes (no_locals program class 65) (let l = new_long in omega (arith, few, l)))
      (record {
        each = λ fr p s point g built.
            built_call n q number m.0 st [] fr (length ks) m.1 (body_there m.0 method m.2.0) count (λ instance. absurd (clash m.0 m.2.0 instance))
            (subst (λ (ks : List Kind). FrameHas program class (ks ++ m.0.params) fr) (sym none) p.0, p.1 ∙ new_long) s point g built code;
      }))
    where
      body_there : (m : Method) → IsMethod program m → m.is_static ≡ true → m.body ≡ None → ⊥
      body_there m is static none = let instance : m.is_static ≡ false = (is.virtual (is.no_body none).0).0 in let never : ⊥ = cc in never

      clash : (m : Method) → m.is_static ≡ true → m.is_static ≡ false → ⊥
      clash m a b = let never : ⊥ = cc in never

  -- ---- methods of an object

  -- the frame of an instance method on a receiver
  pub framed : (m : Method) (v : Val) (ks : List Kind) (fs : List (State → End Val)) → ArgsHold G Has ks fs → AllGoTo program ks m.params → m.is_static ≡ false → Has (kind.Object m.class) v → length m.params ≤ 8 →
      Holds G (List Val) (FrameFor m) (put_all 1 fs (frame_of v))
  framed m v ks fs args takes instance h few =
      let first : FrameHas program class (kind.Object m.class ∷ []) (frame_of v) = local_put program class [] new_frame (kind.Object m.class) v (no_locals program class 65) (let l = new_long in omega (arith, l)) h in
      let long : length (frame_of v) ≡ 65 = length-set new_frame 0 v ∙ new_long in
      let one : receiver_of m ≡ kind.Object m.class ∷ [] = ap (λ (b : Bool). if b then [] else kind.Object m.class ∷ []) instance in
      weaker (args_put program known.typed class known.component b.frame (kind.Object m.class ∷ []) ks m.params fs (frame_of v) args takes first (omega (arith, few, long)))
      (λ frame p. (subst (λ (ks : List Kind). FrameHas program class (ks ++ m.params) frame) (sym one) p.0, p.1 ∙ long))

  pub instance_count : (m : Method) (ks : List Kind) → AllGoTo program ks m.params → m.is_static ≡ false → suc (length ks) ≡ length (receiver_of m ++ m.params)
  instance_count m ks takes instance = ap suc (args_many program ks m.params takes) ∙ ap (λ (b : Bool). length ((if b then [] else kind.Object m.class ∷ []) ++ m.params)) (sym instance)

  raised : (c d : TypeNo) (v : Val) → Below program.schema.classes d.0 c.0 → Has (kind.Object c) v → Has (kind.Object d) v
  raised c d Null b h = tt
  raised c d (At spot) b h = record { at = h.at; is = h.is; below = below_then b h.below }
  raised c d Nothing b h = absurd h
  raised c d (Truth t) b h = absurd h
  raised c d (Int n) b h = absurd h
  raised c d (Long n) b h = absurd h
  raised c d (Literal n) b h = absurd h

  -- of the method above, on the receiver that is on the stack
  pub super_sim : (n at q number : ℕ) (k : Kind) (st : List Val) (ks : List Kind) (fs : List (State → End Val)) (spot : Spot) → ArgsHold G Has ks fs → IsSuperCall program b.frame.own.0 number k ks → Has (kind.Object b.frame.own) (At spot) →
      Sim w G x n (List Val) (put_all 1 fs (frame_of (At spot))) at (At spot ∷ st) (Built x n q st (suc (length ks)) 65 (At spot ∷ [])) → instruction_at image x.method q ≡ Some (op.Call number) →
      Sim w G x n Val (λ s. then_do (put_all 1 fs (frame_of (At spot)) s) (λ frame s2. call (source program class calls) number frame s2)) at (At spot ∷ st) (Pushed x n k (q + 3) st)
  super_sim n at q number k st ks fs spot args is h sim code =
      let m : (m : Method) × (slice_get program.methods number ≡ Some m) × ((m.is_static ≡ false) × IsCallOf program m k ks) = of_some (slice_get program.methods number) is.0.1 in
      let y : (y : Method) × (slice_get program.methods number ≡ Some y) × (y.body ≡ None → ⊥) = of_some (slice_get program.methods number) is.1 in
      let same : y.0 ≡ m.0 = same_Some y.0 m.0 (sym y.1 ∙ m.1) in
      let some : m.0.body ≡ None → ⊥ = subst (λ (z : Method). z.body ≡ None → ⊥) same y.2 in
      let method = is_method program known.typed class known.component b.frame number m.0 m.1 in
      let above : Below program.schema.classes m.0.class.0 b.frame.own.0 = of_base (base_of program.schema.classes b.frame.own.0) refl m.0 m.1 is.0.0 in
      subst (λ (k : Kind). Sim w G x n Val (λ s. then_do (put_all 1 fs (frame_of (At spot)) s) (λ frame s2. call (source program class calls) number frame s2)) at (At spot ∷ st) (Pushed x n k (q + 3) st)) m.2.1.gives
      (then_sim w G sim (framed m.0 (At spot) ks fs args m.2.1.takes m.2.0 (raised b.frame.own m.0.class (At spot) above h) method.params_most)
      (record {
        each = λ fr p s point g built.
            built_call n q number m.0 st (At spot ∷ []) fr (suc (length ks)) m.1 some (instance_count m.0 ks m.2.1.takes m.2.0) (λ instance. (spot, refl)) p s point g built code;
      }))
    where
      of_base : (o : Option ℕ) → base_of program.schema.classes b.frame.own.0 ≡ o → (m : Method) → slice_get program.methods number ≡ Some m → option_and_then (λ c. find program c (method_name program number)) o ≡ Some number →
          Below program.schema.classes m.class.0 b.frame.own.0
      of_base None e m is found = absent number found
      of_base (Some base) e m is found = Based base b.frame.own.0 e (found_above program base number (method_name program number) m found is).0
