-- Calls: the machine enters the method that the source calls.
use Rattle.std.proofs.Common.{◌≡◌, ℕ, ◌+◌, ◌≤◌, suc, Bool, true, false, if◌then◌else◌, List, [], ◌∷◌, ◌++◌, length, Some, None, Result, Ok, Err, slice_get, refl, sym, ap, ◌∙◌, subst, arith}
use Rattle.std.specs.Prelude.{not, slice_index_or}
use Rattle.sed_typed.specs.declared.kind.Kind.{Kind}
use Rattle.sed_typed.specs.declared.kind.Kind.TheVariants as kind
use Rattle.sed_typed.specs.declared.program.Method.{Method}
use Rattle.sed_typed.specs.declared.program.Program.{Program}
use Rattle.sed_typed.specs.Typed.{locals_of, receiver_of}
use Rattle.sed_engine.specs.declared.trap.Trap.TheVariants.{NullReference}
use Rattle.sed_engine.specs.Expressions.{Calls, Called, back, call}
use Rattle.sed_engine.specs.State.{Shared, State, gives, answers, after, then_do}
use Rattle.sed_engine.specs.Steps.{turn_of, turn_taken}
use Rattle.sed_engine.specs.Stops.{Stop, Traps, Untyped, there, map_ok}
use Rattle.sed_engine.specs.Values.{Val, Nothing, Null, At, Spot, spot_of}
use Rattle.sed_engine.proofs.Frames.{FrameHas}
use Rattle.sed_engine.proofs.Ready.{Fitting, turn_holds}
use Rattle.scode_ops.specs.declared.op.Op.TheVariants as op
use Rattle.scode_image.specs.declared.image.Image.{Image}
use Rattle.scode_image.specs.declared.image.ImageMethod.{ImageMethod}
use Rattle.scode_code.specs.Calls.{argument_count, is_instance, receiver_there, goes_into, locals_of as begun_locals}
use Rattle.scode_code.specs.Effect.{taken}
use Rattle.scode_code.specs.Fields.{Setting}
use Rattle.scode_code.specs.Machine.{Frame, Point, Enter, moves, enters, returned}
use Rattle.scode_code.specs.Steps.{effect, instruction_at}
use Rattle.scode_emit.specs.Site.{Layout}
use Rattle.scode_sim.specs.Made.{IsMethodOf}
use Rattle.scode_sim.proofs.Apart.{state}
use Rattle.scode_sim.proofs.Arguments.{get_front, first_is, push_all, taken_all, AllCells, AllNothing, locals_agree, argument_count_is, others_of}
use Rattle.scode_sim.proofs.Comes.{Comes, here, go_on}
use Rattle.scode_sim.proofs.Context.{Known, Body, running, machine, source, runs}
use Rattle.scode_sim.proofs.Follows.{Ends, frame, point, Pushed, by_op_to}
use Rattle.scode_sim.proofs.Frames.{Running, Agree, AgreeOn}

-- back in the frame below, with a value of a kind
pub record Returned (n : ℕ) (k : Kind) (frames : List Frame) (v : Val) (s : State) (q : Point) : Type 0 where
  pub void : k ≡ kind.Void → v ≡ Nothing
  pub turns : s.shared.turns ≤ n
  pub is : q ≡ returned v frames s.shared

-- how a method of this number runs
abbrev pub running_of : ℕ → Method → List Frame → Running
running_of number m below = record { method = number; static = m.is_static; kinds = locals_of m; below = below }

abbrev pub ended_by : Called → State
ended_by c = record { shared = c.shared; locals = [] }

-- a call of the source, with so many frames left, and the same call of the machine
pub record CallsFollowed (program : Program) (image : Image) (class frames : ℕ) (calls : Calls) : Type 0 where
  pub comes : (number : ℕ) (m : Method) → slice_get program.methods number ≡ Some m → (m.body ≡ None → ⊥) →
      (locals ms : List Val) → FrameHas program class (receiver_of m ++ m.params) locals → length locals ≡ 65 →
      (below : List Frame) → Agree (running_of number m below) locals ms → length below + frames ≡ 32 →
      (n : ℕ) (shared : Shared) → Fitting program class shared → shared.turns ≤ n →
      Comes (machine image class) (enters number ms below shared) (Ends (Returned n m.result below) (calls number locals shared).result (ended_by (calls number locals shared)))

module _ (program : Program) (layout : Layout) (image : Image) (class : ℕ) (known : Known program layout image class) (b : Body) (calls : Calls) (frames : ℕ) (followed : CallsFollowed program image class frames calls) (deep : suc (length b.below) + frames ≡ 32) where
  abbrev w : Setting
  w = machine image class

  abbrev x : Running
  x = running b

  abbrev G : State → Type 0
  G s = runs program class b s

  -- what a call of the source comes to is what the frame below gets
  returns : (n place : ℕ) (k : Kind) (stack ms vs : List Val) → Agree x vs ms → (r : Result Val Stop) (shared : Shared) (q : Point) → Ends (Returned n k (frame x place ms stack ∷ x.below)) r (record { shared = shared; locals = [] }) q →
      Ends (Pushed x n k place stack) r (record { shared = shared; locals = vs }) q
  returns n place k stack ms vs a (Ok v) shared q e = record { void = e.void; stands = record { locals = ms; agree = a; turns = e.turns; is = e.is } }
  returns n place k stack ms vs a (Err (Traps t)) shared q e = e
  returns n place k stack ms vs a (Err Untyped) shared q e = tt

  turned : (n place next number : ℕ) (m : Method) → slice_get program.methods number ≡ Some m → (m.body ≡ None → ⊥) → (stack all fr ms' : List Val) → FrameHas program class (receiver_of m ++ m.params) fr → length fr ≡ 65 →
      (ms : List Val) (s : State) → Agree x s.locals ms → Agree (running_of number m (frame x next ms stack ∷ x.below)) fr ms' → Fitting program class (turn_taken s.shared) → s.shared.turns ≤ n → (r : Result (Unit {0}) Stop) →
      (let s1 : State = record { shared = turn_taken s.shared; locals = s.locals } in
      let f = after r s1 (λ _ s2. back (calls number fr s2.shared) s2.locals) in
      let e = after r (state (turn_taken s.shared) ms) (λ _ s3. gives (Enter number ms' stack) s3) in
      Comes w (moves (frame x place ms all) x.below next e.result e.state) (Ends (Pushed x n m.result next stack) f.result f.state))
  turned n place next number m is some stack all fr ms' has long ms s a agree fitting t (Ok u) =
      let c = calls number fr (turn_taken s.shared) in
      go_on (followed.comes number m is some fr ms' has long (frame x next ms stack ∷ x.below) agree deep n (turn_taken s.shared) fitting (omega (arith, t)))
      (λ q e. here (returns n next m.result stack ms s.locals a c.result c.shared q e))
  turned n place next number m is some stack all fr ms' has long ms s a agree fitting t (Err (Traps trap)) = here refl
  turned n place next number m is some stack all fr ms' has long ms s a agree fitting t (Err Untyped) = here tt

  -- the machine goes into the method, and comes back
  pub enter_comes : (n place next number : ℕ) (m : Method) → slice_get program.methods number ≡ Some m → (m.body ≡ None → ⊥) → (stack all fr : List Val) (y : ImageMethod) (args : List Val) →
      FrameHas program class (receiver_of m ++ m.params) fr → length fr ≡ 65 → (ms : List Val) (s : State) → G s → Agree x s.locals ms → Agree (running_of number m (frame x next ms stack ∷ x.below)) fr (begun_locals y args) → s.shared.turns ≤ n →
      (let e = goes_into number y args stack (state s.shared ms) in let f = call (source program class calls) number fr s in
      Comes w (moves (frame x place ms all) x.below next e.result e.state) (Ends (Pushed x n m.result next stack) f.result f.state))
  enter_comes n place next number m is some stack all fr y args has long ms s g a agree t =
      turned n place next number m is some stack all fr (begun_locals y args) has long ms s a agree ((turn_holds program known.typed class known.component b.frame).holds s g).0.fitting t (turn_of s.shared.turns)

  -- ---- what `call` does

  call_is : (number : ℕ) (y : ImageMethod) (args stack : List Val) (r : Result (Unit {0}) Stop) → slice_get image.methods number ≡ Some y → length args ≡ argument_count y → receiver_there y args ≡ r → (s : State) →
      effect w (op.Call number) (push_all args stack) s ≡ then_do (answers r s) (λ _ s3. goes_into number y args stack s3)
  call_is number y args stack r found many there_is s =
      ap (λ o. then_do (answers (there o) s) (λ m s1. then_do (answers (taken (argument_count m) (push_all args stack) []) s1) (λ t s2. then_do (answers (receiver_there m t.0) s2) (λ _ s3. goes_into number m t.0 t.1 s3)))) found
      ∙ ap (λ o. then_do (answers o s) (λ t s2. then_do (answers (receiver_there y t.0) s2) (λ _ s3. goes_into number y t.0 t.1 s3))) (taken_all args stack (argument_count y) many)
      ∙ ap (λ o. then_do (answers o s) (λ _ s3. goes_into number y args stack s3)) there_is

  receiver_static : (m : Method) (y : ImageMethod) → IsMethodOf program layout m y → m.is_static ≡ true → (args : List Val) → receiver_there y args ≡ Ok tt
  receiver_static m y is static args =
      let e : is_instance y ≡ false = is.instance ∙ ap (λ (c : Bool). not c) static in
      ap (λ (c : Bool). if c then map_ok (λ spot. tt) (spot_of (slice_index_or args 0 Nothing)) else Ok tt) e

  receiver_instance : (m : Method) (y : ImageMethod) → IsMethodOf program layout m y → m.is_static ≡ false → (args : List Val) (v : Val) → slice_get args 0 ≡ Some v → receiver_there y args ≡ map_ok (λ spot. tt) (spot_of v)
  receiver_instance m y is instance args v e =
      let i : is_instance y ≡ true = is.instance ∙ ap (λ (c : Bool). not c) instance in
      ap (λ (c : Bool). if c then map_ok (λ spot. tt) (spot_of (slice_index_or args 0 Nothing)) else Ok tt) i
      ∙ ap (λ (v : Val). map_ok (λ spot. tt) (spot_of v)) (first_is args v e)

  -- a call whose receiver, if it has one, is there
  pub call_comes : (n place number : ℕ) (m : Method) → slice_get program.methods number ≡ Some m → (m.body ≡ None → ⊥) → (stack fr args blank : List Val) → fr ≡ args ++ blank → AllCells args → AllNothing blank → length args ≡ length (receiver_of m ++ m.params) →
      (m.is_static ≡ false → (spot : Spot) × (slice_get args 0 ≡ Some (At spot))) →
      FrameHas program class (receiver_of m ++ m.params) fr → length fr ≡ 65 → length (others_of m) ≤ length blank → (ms : List Val) (s : State) → G s → Agree x s.locals ms → s.shared.turns ≤ n → instruction_at image x.method place ≡ Some (op.Call number) →
      (let f = call (source program class calls) number fr s in Comes w (point x place ms (push_all args stack) s.shared) (Ends (Pushed x n m.result (place + 3) stack) f.result f.state))
  call_comes n place number m is some stack fr args blank same cells none many receiver has long room ms s g a t at =
      let found = known.made.methods number m is in
      let y = found.0 in
      let made : IsMethodOf program layout m y = found.2 in
      let ok : receiver_there y args ≡ Ok tt = receiver_ok m.is_static refl in
      let count : length args ≡ argument_count y = many ∙ argument_count_is program layout m y made in
      let agree : Agree (running_of number m (frame x (place + 3) ms stack ∷ x.below)) fr (begun_locals y args) = record {
        each = subst (λ (f : List Val). AgreeOn (locals_of m) f (begun_locals y args)) (sym same) (locals_agree program layout m y made args blank cells none many room);
        this = λ instance. let r = receiver instance in (r.0, ap (λ (f : List Val). slice_get f 0) same ∙ get_front args blank 0 (At r.0) r.1);
      } in
      by_op_to w x place (place + 3) (op.Call number) (push_all args stack) ms s.shared (goes_into number y args stack (state s.shared ms)) _ at refl
      (call_is number y args stack (Ok tt) found.1 count ok (state s.shared ms))
      (enter_comes n place (place + 3) number m is some stack (push_all args stack) fr y args has long ms s g a agree t)
    where
      receiver_ok : (c : Bool) → m.is_static ≡ c → receiver_there (known.made.methods number m is).0 args ≡ Ok tt
      receiver_ok true e = receiver_static m (known.made.methods number m is).0 (known.made.methods number m is).2 e args
      receiver_ok false e =
          let r = receiver e in
          receiver_instance m (known.made.methods number m is).0 (known.made.methods number m is).2 e args (At r.0) r.1

  -- a call that null ends
  pub null_comes : (Q : Val → State → Point → Type 0) (place number : ℕ) (m : Method) → slice_get program.methods number ≡ Some m → (stack args : List Val) → length args ≡ length (receiver_of m ++ m.params) → m.is_static ≡ false → slice_get args 0 ≡ Some Null →
      (ms : List Val) (s : State) → instruction_at image x.method place ≡ Some (op.Call number) →
      Comes w (point x place ms (push_all args stack) s.shared) (Ends {A = Val} Q (Err (Traps NullReference)) s)
  null_comes Q place number m is stack args many instance e ms s at =
      let found = known.made.methods number m is in
      let y = found.0 in
      let made : IsMethodOf program layout m y = found.2 in
      by_op_to w x place (place + 3) (op.Call number) (push_all args stack) ms s.shared (answers (Err (Traps NullReference)) (state s.shared ms)) _ at refl
      (call_is number y args stack (Err (Traps NullReference)) found.1 (many ∙ argument_count_is program layout m y made) (receiver_instance m y made instance args Null e) (state s.shared ms))
      (here refl)
