-- Calls of typed methods.
use Rattle.std.proofs.Common.{◌≡◌, ◌<◌, ◌≤◌, ◌+◌, ℕ, suc, Bool, true, false, if◌then◌else◌, List, [], ◌∷◌, ◌++◌, length, Option, Some, None, Result, Ok, Err, refl, sym, ap, subst, ◌∙◌, append_assoc, append-nil, length-append, arith}
use Rattle.std.specs.Prelude.{slice_get, slice_set}
use Rattle.std.specs.Option.{option_and_then, option_map_or}
use Rattle.std.proofs.lemmas.Option.{same_Some, slice_get-get_or}
use Rattle.std.proofs.Math.ListN.{length-set}
use Rattle.sed_typed.specs.declared.kind.Kind.{Kind}
use Rattle.sed_typed.specs.declared.kind.Kind.TheVariants as kind
use Rattle.sed_typed.specs.declared.number.TypeNo.{TypeNo}
use Rattle.sed_typed.specs.declared.program.Method.{Method}
use Rattle.sed_typed.specs.declared.program.Program.{Program}
use Rattle.sed_typed.specs.Classes.{base_of, find, method_name}
use Rattle.sed_typed.specs.Typed.{Typed, IsMethod, receiver_of}
use Rattle.sed_typed.specs.TypedExpr.{AllGoTo, IsCallOf, IsStaticCall, IsInvocation, IsSuperCall, object_class}
use Rattle.sed_engine.specs.Stops.{Stop, Traps, Untyped, there, map_ok}
use Rattle.sed_engine.specs.Values.{Val, Null, At, Spot}
use Rattle.sed_engine.specs.State.{Shared, State, End}
use Rattle.sed_engine.specs.Steps.{with_local}
use Rattle.sed_engine.specs.Expressions.{Setting, Calls, class_from, put_all, new_frame, frame_of, back, call, call_static, call_super, method_for, invoke}
use Rattle.sed_engine.proofs.Below.{Below, Based, absent, at_place, of_some, below_then, FoundFor, found_below, found_above}
use Rattle.sed_engine.proofs.Frames.{FrameHas, no_locals, local_put}
use Rattle.sed_engine.proofs.Kinded.{HasKind, goes}
use Rattle.sed_engine.proofs.Ranges.{Sound}
use Rattle.sed_engine.proofs.Ready.{Fitting, Ready, Frame, Holds, then_holds, gives_it, answers_it, this_holds, turn_holds}
use Rattle.sed_engine.proofs.Spots.{Concrete, concrete, found_body}

-- calls of typed methods with frames of their kinds come to values of their results
pub record CallsSound (program : Program) (class : ℕ) (calls : Calls) : Type 0 where
  pub sound : (n : ℕ) (x : Method) (frame : List Val) (s : Shared) → slice_get program.methods n ≡ Some x → (x.body ≡ None → ⊥) →
      FrameHas program class (receiver_of x ++ x.params) frame → length frame ≡ 65 → Fitting program class s →
      Fitting program class (calls n frame s).shared × Sound (HasKind program class x.result) (calls n frame s).result

pub weaker : {G : State → Type 0} {A : Type 0} {P Q : A → Type 0} {f : State → End A} → Holds G A P f → ((a : A) → P a → Q a) → Holds G A Q f
weaker {G} {A} {P} {Q} {f} one more = record { holds = λ s g. let h = one.holds s g in (h.0, go (f s).result h.1) }
  where
    go : (r : Result A Stop) → Sound P r → Sound Q r
    go (Ok v) p = more v p
    go (Err (Traps t)) p = tt
    go (Err Untyped) p = p

-- operands with their kinds
pub data ArgsHold (G : State → Type 0) (Has : Kind → Val → Type 0) : List Kind → List (State → End Val) → Type 0 where
  NoArgs : ArgsHold G Has [] []
  OneArg : (k : Kind) (ks : List Kind) (f : State → End Val) (fs : List (State → End Val)) → Holds G Val (Has k) f → ArgsHold G Has ks fs → ArgsHold G Has (k ∷ ks) (f ∷ fs)

module _ (program : Program) (typed : Typed program) (class : ℕ) (component : Concrete program class) (m : Frame) where
  abbrev pub G : State → Type 0
  G s = Ready program class m.own m.static m.locals s

  abbrev Has : Kind → Val → Type 0
  Has k v = HasKind program class k v

  -- ---- arguments

  put_there : (frame : List Val) (i : ℕ) (v : Val) → i < length frame → Sound (λ more. more ≡ slice_set frame i v) (with_local frame i v)
  put_there frame i v room = subst (λ (o : Option Val). Sound (λ more. more ≡ slice_set frame i v) (map_ok (λ _. slice_set frame i v) (there o))) (sym (slice_get-get_or frame i v room)) refl

  pub args_put : (done ks params : List Kind) (fs : List (State → End Val)) (frame : List Val) → ArgsHold G Has ks fs → AllGoTo program ks params →
      FrameHas program class done frame → length (done ++ params) ≤ length frame →
      Holds G (List Val) (λ out. FrameHas program class (done ++ params) out × (length out ≡ length frame)) (put_all (length done) fs frame)
  args_put done ks [] fs frame NoArgs go h room = gives_it frame (subst (λ (all : List Kind). FrameHas program class all frame) (sym (append-nil done)) h, refl)
  args_put done ks (q ∷ qs) fs frame NoArgs go h room = absurd go
  args_put done ks [] fs frame (OneArg k rest f gs one more) go h room = absurd go
  args_put done ks (q ∷ qs) fs frame (OneArg k rest f gs one more) go h room =
      let long : length (done ++ q ∷ qs) ≡ length done + suc (length qs) = length-append done (q ∷ qs) in
      let fits : length done < length frame = omega (arith, room, long) in
      then_holds one (λ v hv. then_holds (answers_it (with_local frame (length done) v) (put_there frame (length done) v fits)) (λ next same.
      let next_has : FrameHas program class (done ++ q ∷ []) next =
      subst (FrameHas program class (done ++ q ∷ [])) (sym same) (local_put program class done frame q v h fits (goes program class k q v go.0 hv)) in
      let next_long : length next ≡ length frame = ap length same ∙ length-set frame (length done) v in
      let all : (done ++ q ∷ []) ++ qs ≡ done ++ q ∷ qs = append_assoc done (q ∷ []) qs in
      let room_next : length ((done ++ q ∷ []) ++ qs) ≤ length next = subst (λ (ks : List Kind). length ks ≤ length next) (sym all) (omega (arith, room, next_long)) in
      let at : length (done ++ q ∷ []) ≡ length done + 1 = length-append done (q ∷ []) in
      weaker (subst (λ (i : ℕ). Holds G (List Val) (λ out. FrameHas program class ((done ++ q ∷ []) ++ qs) out × (length out ≡ length next)) (put_all i gs next)) at
      (args_put (done ++ q ∷ []) rest qs gs next more go.1 next_has room_next))
      (λ out p. (subst (λ (ks : List Kind). FrameHas program class ks out) all p.0, p.1 ∙ next_long))))

  -- ---- methods

  pub is_method : (n : ℕ) (x : Method) → slice_get program.methods n ≡ Some x → IsMethod program x
  is_method n x e = at_place (IsMethod program) program.methods n x typed.methods e

  static_body : (x : Method) → IsMethod program x → x.is_static ≡ true → x.body ≡ None → ⊥
  static_body x is static none =
      let instance : x.is_static ≡ false = (is.virtual (is.no_body none).0).0 in
      let never : ⊥ = cc in
      never

  module _ (calls : Calls) (sound : CallsSound program class calls) where
    abbrev w : Setting
    w = record { program = program; class = class; calls = calls }

    back_holds : (n : ℕ) (x : Method) (frame : List Val) → slice_get program.methods n ≡ Some x → (x.body ≡ None → ⊥) → FrameHas program class (receiver_of x ++ x.params) frame → length frame ≡ 65 →
        Holds G Val (Has x.result) (λ s. back (calls n frame s.shared) s.locals)
    back_holds n x frame e some h long = record {
      holds = λ s g. let r = sound.sound n x frame s.shared e some h long g.fitting in (record { fitting = r.0; holds = g.holds; this = g.this }, r.1);
    }

    call_holds : (n : ℕ) (x : Method) (frame : List Val) → slice_get program.methods n ≡ Some x → (x.body ≡ None → ⊥) → FrameHas program class (receiver_of x ++ x.params) frame → length frame ≡ 65 →
        Holds G Val (Has x.result) (call w n frame)
    call_holds n x frame e some h long = then_holds (turn_holds program typed class component m) (λ _ _. back_holds n x frame e some h long)

    new_long : length new_frame ≡ 65
    new_long = refl

    pub static_holds : (n : ℕ) (result : Kind) (ks : List Kind) (fs : List (State → End Val)) → ArgsHold G Has ks fs → IsStaticCall program n result ks → Holds G Val (Has result) (call_static w n fs)
    static_holds n result ks fs args is =
        let x : (x : Method) × (slice_get program.methods n ≡ Some x) × ((x.is_static ≡ true) × IsCallOf program x result ks) = of_some (slice_get program.methods n) is in
        let some : x.0.body ≡ None → ⊥ = static_body x.0 (is_method n x.0 x.1) x.2.0 in
        let none : receiver_of x.0 ≡ [] = ap (λ (b : Bool). if b then [] else kind.Object x.0.class ∷ []) x.2.0 in
        let few : length x.0.params ≤ 8 = (is_method n x.0 x.1).params_most in
        subst (λ (k : Kind). Holds G Val (Has k) (call_static w n fs)) x.2.1.gives
        (then_holds (args_put [] ks x.0.params fs new_frame args x.2.1.takes (no_locals program class 65) (omega (arith, few, new_long)))
        (λ frame p. call_holds n x.0 frame x.1 some (subst (λ (ks : List Kind). FrameHas program class (ks ++ x.0.params) frame) (sym none) p.0) (p.1 ∙ new_long)))

    -- an object is one of each class at or above its own
    raised : (c d : TypeNo) (v : Val) → Below program.schema.classes d.0 c.0 → Has (kind.Object c) v → Has (kind.Object d) v
    raised c d Null b h = tt
    raised c d (At spot) b h = record { at = h.at; is = h.is; below = below_then b h.below }
    raised c d v b h = absurd h

    -- an instance method on a receiver
    framed : (x : Method) (v : Val) (ks : List Kind) (fs : List (State → End Val)) → ArgsHold G Has ks fs → AllGoTo program ks x.params → x.is_static ≡ false → Has (kind.Object x.class) v → length x.params ≤ 8 →
        Holds G (List Val) (λ frame. FrameHas program class (receiver_of x ++ x.params) frame × (length frame ≡ 65)) (put_all 1 fs (frame_of v))
    framed x v ks fs args takes instance h few =
        let first : FrameHas program class (kind.Object x.class ∷ []) (frame_of v) = local_put program class [] new_frame (kind.Object x.class) v (no_locals program class 65) (omega (arith, new_long)) h in
        let long : length (frame_of v) ≡ 65 = length-set new_frame 0 v ∙ new_long in
        let one : receiver_of x ≡ kind.Object x.class ∷ [] = ap (λ (b : Bool). if b then [] else kind.Object x.class ∷ []) instance in
        weaker (args_put (kind.Object x.class ∷ []) ks x.params fs (frame_of v) args takes first (omega (arith, few, long)))
        (λ frame p. (subst (λ (ks : List Kind). FrameHas program class (ks ++ x.params) frame) (sym one) p.0, p.1 ∙ long))

    pub super_holds : (n : ℕ) (result : Kind) (ks : List Kind) (fs : List (State → End Val)) → ArgsHold G Has ks fs → m.static ≡ false → IsSuperCall program m.own.0 n result ks → Holds G Val (Has result) (call_super w n fs)
    super_holds n result ks fs args instance is =
        let x : (x : Method) × (slice_get program.methods n ≡ Some x) × ((x.is_static ≡ false) × IsCallOf program x result ks) = of_some (slice_get program.methods n) is.0.1 in
        let y : (y : Method) × (slice_get program.methods n ≡ Some y) × (y.body ≡ None → ⊥) = of_some (slice_get program.methods n) is.1 in
        let same : y.0 ≡ x.0 = same_Some y.0 x.0 (sym y.1 ∙ x.1) in
        let some : x.0.body ≡ None → ⊥ = subst (λ (z : Method). z.body ≡ None → ⊥) same y.2 in
        let few : length x.0.params ≤ 8 = (is_method n x.0 x.1).params_most in
        let above : Below program.schema.classes x.0.class.0 m.own.0 = of_base (base_of program.schema.classes m.own.0) refl x.0 x.1 is.0.0 in
        subst (λ (k : Kind). Holds G Val (Has k) (call_super w n fs)) x.2.1.gives
        (then_holds (this_holds program typed class component m instance) (λ this h.
        then_holds (framed x.0 this ks fs args x.2.1.takes x.2.0 (raised m.own x.0.class this above h) few) (λ frame p. call_holds n x.0 frame x.1 some p.0 p.1)))
      where
        of_base : (o : Option ℕ) → base_of program.schema.classes m.own.0 ≡ o → (x : Method) → slice_get program.methods n ≡ Some x → option_and_then (λ c. find program c (method_name program n)) o ≡ Some n →
            Below program.schema.classes x.class.0 m.own.0
        of_base None b x e found = absent n found
        of_base (Some base) b x e found = Based base m.own.0 b (found_above program base n (method_name program n) x found e).0

    -- the method that is called on an object is the one that is found at its class
    method_is : (spot : Spot) (c n k : ℕ) (x : Method) → class_from program class spot.base spot.path ≡ Some c → slice_get program.methods n ≡ Some x → find program c (method_name program n) ≡ Some k → Sound (λ j. j ≡ k) (method_for w spot n)
    method_is spot c n k x is e found =
        let named : method_name program n ≡ x.name = ap (λ (o : Option Method). option_map_or (λ y. y.name) o []) e in
        let all : option_and_then (λ at. option_and_then (λ (y : Method). find program at y.name) (slice_get program.methods n)) (class_from program class spot.base spot.path) ≡ Some k =
        ap (option_and_then (λ at. option_and_then (λ (y : Method). find program at y.name) (slice_get program.methods n))) is
        ∙ ap (option_and_then (λ (y : Method). find program c y.name)) e ∙ ap (find program c) (sym named) ∙ found in
        subst (λ (o : Option ℕ). Sound (λ j. j ≡ k) (there o)) (sym all) refl

    pub invoke_holds : (j : Kind) (v : Val) (n : ℕ) (result : Kind) (ks : List Kind) (fs : List (State → End Val)) → ArgsHold G Has ks fs → Has j v → IsInvocation program (object_class j) n result ks → Holds G Val (Has result) (invoke w v n fs)
    invoke_holds (kind.Object d) Null n result ks fs args h is =
        let x : (x : Method) × (slice_get program.methods n ≡ Some x) × ((x.is_static ≡ false) × IsCallOf program x result ks) = of_some (slice_get program.methods n) is.1 in
        then_holds (framed x.0 Null ks fs args x.2.1.takes x.2.0 tt (is_method n x.0 x.1).params_most) (λ frame p. record { holds = λ s g. (g, tt) })
    invoke_holds (kind.Object d) (At spot) n result ks fs args h is =
        let x : (x : Method) × (slice_get program.methods n ≡ Some x) × ((x.is_static ≡ false) × IsCallOf program x result ks) = of_some (slice_get program.methods n) is.1 in
        let r : FoundFor program h.at (method_name program n) x.0 = found_below program typed d.0 h.at n (method_name program n) x.0 h.below is.0 x.1 in
        let y : Method = r.method in
        let known : Concrete program h.at = concrete program typed class component spot.base spot.path h.at h.is in
        let some : y.body ≡ None → ⊥ = found_body program typed h.at n r.number y known r.found r.is in
        let self : Has (kind.Object y.class) (At spot) = record { at = h.at; is = h.is; below = (found_above program h.at r.number (method_name program n) y r.found r.is).0 } in
        let takes : AllGoTo program ks y.params = subst (AllGoTo program ks) (sym r.same.params) x.2.1.takes in
        subst (λ (k : Kind). Holds G Val (Has k) (invoke w (At spot) n fs)) (r.same.result ∙ x.2.1.gives)
        (then_holds (framed y (At spot) ks fs args takes (r.same.static ∙ x.2.0) self (is_method r.number y r.is).params_most) (λ frame p.
        then_holds (answers_it (method_for w spot n) (method_is spot h.at n r.number x.0 h.is x.1 r.found)) (λ k same.
        call_holds k y frame (ap (slice_get program.methods) same ∙ r.is) some p.0 p.1)))
    invoke_holds (kind.Object d) v n result ks fs args h is = absurd h
    invoke_holds j v n result ks fs args h is = absent n is.0
