-- Virtual calls: the machine finds the method in the table of the object's class.
use Rattle.std.proofs.Common.{◌≡◌, ℕ, ◌+◌, ◌≤◌, suc, List, [], ◌∷◌, ◌++◌, length, Option, Some, None, Ok, Err, slice_get, refl, sym, ap, ◌∙◌, subst}
use Rattle.std.specs.Prelude.{slice_index_or}
use Rattle.std.specs.Option.{option_and_then}
use Rattle.sed_typed.specs.declared.program.Method.{Method}
use Rattle.sed_typed.specs.declared.program.Program.{Program}
use Rattle.sed_typed.specs.Typed.{locals_of, receiver_of}
use Rattle.sed_engine.specs.declared.trap.Trap.TheVariants.{NullReference}
use Rattle.sed_engine.specs.Expressions.{Calls, call}
use Rattle.sed_engine.specs.State.{State, End, answers, then_do}
use Rattle.sed_engine.specs.Stops.{Traps, there}
use Rattle.sed_engine.specs.Values.{Val, Nothing, Null, At, Spot, spot_of}
use Rattle.sed_engine.proofs.Frames.{FrameHas}
use Rattle.scode_ops.specs.declared.op.Op.TheVariants as op
use Rattle.scode_image.specs.declared.image.Image.{Image}
use Rattle.scode_image.specs.declared.image.ImageMethod.{ImageMethod}
use Rattle.scode_code.specs.Calls.{argument_count, goes_into, table_method, found_for, method_there, locals_of as begun_locals}
use Rattle.scode_code.specs.Effect.{taken}
use Rattle.scode_code.specs.Fields.{Setting, class_of}
use Rattle.scode_code.specs.Machine.{Point, Move}
use Rattle.scode_code.specs.Steps.{effect, instruction_at}
use Rattle.scode_emit.specs.Site.{Layout}
use Rattle.scode_sim.proofs.Apart.{state}
use Rattle.scode_sim.proofs.Arguments.{get_front, first_is, push_all, taken_all, AllCells, AllNothing, locals_agree, argument_count_is, others_of}
use Rattle.scode_sim.proofs.CallSims.{CallsFollowed, running_of, enter_comes}
use Rattle.scode_sim.proofs.Comes.{Comes, here}
use Rattle.scode_sim.proofs.Context.{Known, Body, running, machine, source, runs}
use Rattle.scode_sim.proofs.Follows.{Ends, frame, point, Pushed, by_op_to}
use Rattle.scode_sim.proofs.Frames.{Running, Agree, AgreeOn}

module _ (program : Program) (layout : Layout) (image : Image) (class : ℕ) (known : Known program layout image class) (b : Body) (calls : Calls) (frames : ℕ) (followed : CallsFollowed program image class frames calls) (deep : suc (length b.below) + frames ≡ 32) where
  abbrev w : Setting
  w = machine image class

  abbrev x : Running
  x = running b

  abbrev G : State → Type 0
  G s = runs program class b s

  abbrev rest : ℕ → ℕ → List Val × List Val → State → End Move
  rest d place t s2 = then_do (answers (spot_of (slice_index_or t.0 0 Nothing)) s2) (λ spot s3. then_do (answers (found_for w spot place) s3) (λ number s4. then_do (answers (method_there image number) s4) (λ m s5. goes_into number m t.0 t.1 s5)))

  -- up to the test for null
  virtual_is : (d place declared : ℕ) (y : ImageMethod) (args stack : List Val) (v : Val) → table_method image d place ≡ Some declared → slice_get image.methods declared ≡ Some y → length args ≡ argument_count y → slice_get args 0 ≡ Some v → (s : State) →
      effect w (op.VirtualCall d place) (push_all args stack) s
      ≡ then_do (answers (spot_of v) s) (λ spot s3. then_do (answers (found_for w spot place) s3) (λ number s4. then_do (answers (method_there image number) s4) (λ m s5. goes_into number m args stack s5)))
  virtual_is d place declared y args stack v table found many first s =
      ap (λ o. then_do (answers (there (option_and_then (λ n. slice_get image.methods n) o)) s) (λ m s1. then_do (answers (taken (argument_count m) (push_all args stack) []) s1) (λ t s2. rest d place t s2))) table
      ∙ ap (λ o. then_do (answers (there o) s) (λ m s1. then_do (answers (taken (argument_count m) (push_all args stack) []) s1) (λ t s2. rest d place t s2))) found
      ∙ ap (λ o. then_do (answers o s) (λ t s2. rest d place t s2)) (taken_all args stack (argument_count y) many)
      ∙ ap (λ u. then_do (answers (spot_of u) s) (λ spot s3. then_do (answers (found_for w spot place) s3) (λ number s4. then_do (answers (method_there image number) s4) (λ m s5. goes_into number m args stack s5)))) (first_is args v first)

  pub virtual_null : (Q : Val → State → Point → Type 0) (at d place declared : ℕ) (m : Method) → slice_get program.methods declared ≡ Some m → table_method image d place ≡ Some declared → (stack args : List Val) → length args ≡ length (receiver_of m ++ m.params) → slice_get args 0 ≡ Some Null →
      (ms : List Val) (s : State) → instruction_at image x.method at ≡ Some (op.VirtualCall d place) →
      Comes w (point x at ms (push_all args stack) s.shared) (Ends {A = Val} Q (Err (Traps NullReference)) s)
  virtual_null Q at d place declared m is table stack args many first ms s has =
      let found = known.made.methods declared m is in
      by_op_to w x at (at + 4) (op.VirtualCall d place) (push_all args stack) ms s.shared (answers (Err (Traps NullReference)) (state s.shared ms)) _ has refl
      (virtual_is d place declared found.0 args stack Null table found.1 (many ∙ argument_count_is program layout m found.0 found.2) first (state s.shared ms))
      (here refl)

  -- an object's method
  pub virtual_comes : (n at d place declared number c : ℕ) (m y : Method) → slice_get program.methods declared ≡ Some m → table_method image d place ≡ Some declared → slice_get program.methods number ≡ Some y → (y.body ≡ None → ⊥) →
      (spot : Spot) → class_of w spot ≡ Some c → table_method image c place ≡ Some number →
      (stack fr args blank : List Val) → fr ≡ args ++ blank → AllCells args → AllNothing blank → length args ≡ length (receiver_of m ++ m.params) → length args ≡ length (receiver_of y ++ y.params) → slice_get args 0 ≡ Some (At spot) →
      FrameHas program class (receiver_of y ++ y.params) fr → length fr ≡ 65 → length (others_of y) ≤ length blank → (ms : List Val) (s : State) → G s → Agree x s.locals ms → s.shared.turns ≤ n → instruction_at image x.method at ≡ Some (op.VirtualCall d place) →
      (let f = call (source program class calls) number fr s in Comes w (point x at ms (push_all args stack) s.shared) (Ends (Pushed x n y.result (at + 4) stack) f.result f.state))
  virtual_comes n at d place declared number c m y is table here_is some spot of_class there_is stack fr args blank same cells none many many_y first has long room ms s g a t at_place =
      let found = known.made.methods declared m is in
      let target = known.made.methods number y here_is in
      let agree : Agree (running_of number y (frame x (at + 4) ms stack ∷ x.below)) fr (begun_locals target.0 args) = record {
        each = subst (λ (f : List Val). AgreeOn (locals_of y) f (begun_locals target.0 args)) (sym same) (locals_agree program layout y target.0 target.2 args blank cells none many_y room);
        this = λ instance. (spot, ap (λ (f : List Val). slice_get f 0) same ∙ get_front args blank 0 (At spot) first);
      } in
      let s1 : State = state s.shared ms in
      let lookup : found_for w spot place ≡ Ok number = ap (λ (o : Option ℕ). there (option_and_then (λ class. table_method image class place) o)) of_class ∙ ap (λ (o : Option ℕ). there o) there_is in
      by_op_to w x at (at + 4) (op.VirtualCall d place) (push_all args stack) ms s.shared (goes_into number target.0 args stack s1) _ at_place refl
      (virtual_is d place declared found.0 args stack (At spot) table found.1 (many ∙ argument_count_is program layout m found.0 found.2) first s1
      ∙ ap (λ o. then_do (answers o s1) (λ number s4. then_do (answers (method_there image number) s4) (λ m s5. goes_into number m args stack s5))) lookup
      ∙ ap (λ o. then_do (answers (there o) s1) (λ m s5. goes_into number m args stack s5)) target.1)
      (enter_comes program layout image class known b calls frames followed deep n at (at + 4) number y here_is some stack (push_all args stack) fr target.0 args has long ms s g a agree t)
