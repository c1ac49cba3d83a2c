-- The machine follows the source: calls, with however many frames left.
use Rattle.std.proofs.Common.{◌≡◌, ℕ, ◌+◌, ◌≤◌, zero, suc, Bool, true, false, if◌then◌else◌, List, [], ◌∷◌, ◌++◌, length, Option, Some, None, Result, Ok, Err, slice_get, refl, sym, ap, ◌∙◌, subst, arith, append_assoc, length-append}
use Rattle.std.specs.Prelude.{All, IfSome, nat_lt}
use Rattle.std.specs.Option.{option_map_or}
use Rattle.std.proofs.lemmas.Bool.Decides.{nat_tests}
use Rattle.std.proofs.lemmas.List.Elements.{All-head, All-tail}
use Rattle.sed_typed.specs.declared.kind.Kind.{Kind}
use Rattle.sed_typed.specs.declared.kind.Kind.TheVariants as kind
use Rattle.sed_typed.specs.declared.program.Method.{Method}
use Rattle.sed_typed.specs.declared.program.Program.{Program}
use Rattle.sed_typed.specs.declared.statement.Stmt.{Stmt}
use Rattle.sed_typed.specs.Typed.{IsMethod, IsBody, IsStorable, locals_of, receiver_of}
use Rattle.sed_engine.specs.declared.trap.Trap.TheVariants.{TooDeep}
use Rattle.sed_engine.specs.Expressions.{Calls}
use Rattle.sed_engine.specs.Root.{answered, run_body, run_method, calls_with}
use Rattle.sed_engine.specs.State.{Shared, State, gives}
use Rattle.sed_engine.specs.Statements.{Flow, Next, Break, Continue, Return, exec}
use Rattle.sed_engine.specs.Stops.{Stop, Traps, Untyped}
use Rattle.sed_engine.specs.Values.{Val, Nothing, Null, zero_of}
use Rattle.sed_engine.proofs.Below.{at_place}
use Rattle.sed_engine.proofs.CallSteps.{CallsSound}
use Rattle.sed_engine.proofs.Frames.{FrameHas, local_has, frame_runs}
use Rattle.sed_engine.proofs.Ready.{Ready, Fitting}
use Rattle.sed_engine.proofs.Ready as typing
use Rattle.sed_engine.proofs.TypedBodies.{calls_sound}
use Rattle.scode_ops.specs.declared.op.Op.{Op}
use Rattle.scode_ops.specs.declared.op.Op.TheVariants as op
use Rattle.scode_ops.specs.Codes.{IsOp}
use Rattle.scode_ops.specs.Decoding.{op_at, size_of}
use Rattle.scode_image.specs.declared.image.Image.{Image}
use Rattle.scode_image.specs.declared.image.ImageMethod.{ImageMethod}
use Rattle.scode_code.specs.Fields.{Setting}
use Rattle.scode_code.specs.Machine.{Frame, Point, At as AtWork, Over, Onward, Leave}
use Rattle.scode_code.specs.Steps.{effect, instruction_at}
use Rattle.scode_emit.specs.Instructions.{zero_op}
use Rattle.scode_emit.specs.Site.{Layout}
use Rattle.scode_emit.specs.Sizes.{stmt_size}
use Rattle.scode_emit.specs.Code.{stmt_code, end_code, body_code, bytes_of}
use Rattle.scode_emit.proofs.Counts.{count, count-bytes, count-append}
use Rattle.scode_emit.proofs.Sized.{stmt_sized}
use Rattle.scode_sim.specs.Made.{IsMethodOf, ops_of, site_of}
use Rattle.scode_sim.proofs.Apart.{state}
use Rattle.scode_sim.proofs.Arguments.{others_of}
use Rattle.scode_sim.proofs.CallSims.{CallsFollowed, Returned, running_of, ended_by}
use Rattle.scode_sim.proofs.Callees.{all_solid_at, others_room}
use Rattle.scode_sim.proofs.Comes.{Comes, here, go_on}
use Rattle.scode_sim.proofs.Context.{Known, Body, running, machine, source}
use Rattle.scode_sim.proofs.Follows.{Ends, point, not_void, Stands, HasAt, has_front, has_back, by_op_to}
use Rattle.scode_sim.proofs.Frames.{Agree, IsCell, IsSolid}
use Rattle.scode_sim.proofs.Loops.{Landed}
use Rattle.scode_sim.proofs.Statements.{stmt_sim}

-- an instruction that has an encoding is found behind those before it
abbrev pub Stand : Type 0
Stand = (before behind : List Op) (i : Op) → IsOp i → op_at (bytes_of (before ++ i ∷ behind)) (length (bytes_of before)) ≡ Some i

-- the instructions of a method stand in it
stand_all : Stand → (w : Setting) (number : ℕ) (code : List ℕ) → option_map_or (λ (m : ImageMethod). m.code) (slice_get w.image.methods number) [] ≡ code → (is pre ops : List Op) → code ≡ bytes_of ops → ops ≡ pre ++ is → All IsOp is → HasAt w number (count pre) is
stand_all stand w number code at [] pre ops bytes same all = tt
stand_all stand w number code at (i ∷ is) pre ops bytes same all =
    let here_is : instruction_at w.image number (count pre) ≡ Some i =
    ap (λ c. op_at c (count pre)) (at ∙ bytes ∙ ap bytes_of same) ∙ ap (op_at (bytes_of (pre ++ i ∷ is))) (sym (count-bytes pre)) ∙ stand pre is i (All-head IsOp i is all) in
    let next : count (pre ++ i ∷ []) ≡ count pre + size_of i = let e = count-append pre (i ∷ []) in omega (arith, e) in
    (here_is, subst (λ p. HasAt w number p is) next (stand_all stand w number code at is (pre ++ i ∷ []) ops bytes (same ∙ sym (append_assoc pre (i ∷ []) is)) (All-tail IsOp i is all)))

-- a method as its typed steps see it
abbrev frame_for : Method → typing.Frame
frame_for m = record { own = m.class; static = m.is_static; locals = locals_of m; first = first }
  where
    first : m.is_static ≡ false → slice_get (locals_of m) 0 ≡ Some (kind.Object m.class)
    first instance = ap (λ (static : Bool). slice_get ((if static then [] else kind.Object m.class ∷ []) ++ m.params ++ others_of m) 0) instance

module _ (program : Program) (layout : Layout) (image : Image) (class : ℕ) (known : Known program layout image class) (stand : Stand) where
  abbrev w : Setting
  w = machine image class

  -- a frame that is ready to run
  begins : (m : Method) (locals : List Val) (s : Shared) → IsMethod program m → (m.body ≡ None → ⊥) → FrameHas program class (receiver_of m ++ m.params) locals → length locals ≡ 65 → Fitting program class s →
      Ready program class m.class m.is_static (locals_of m) (record { shared = s; locals = locals })
  begins m locals s is some h long fitting =
      let parts : length (locals_of m) ≡ length (receiver_of m ++ m.params) + length (others_of m) = length-append (receiver_of m ++ m.params) (others_of m) in
      let room = others_room program m is some in
      record {
        fitting = fitting;
        holds = frame_runs program class (receiver_of m ++ m.params) (others_of m) locals h (omega (arith, long, parts, room));
        this = λ instance. local_has program class (receiver_of m ++ m.params) locals 0 (kind.Object m.class) h (ap (λ (static : Bool). slice_get ((if static then [] else kind.Object m.class ∷ []) ++ m.params) 0) instance);
      }

  -- behind a body's statements 0, false, null or nothing is answered
  ends_void : (b : Body) (n p : ℕ) (s : State) (q : Point) → HasAt w b.number p (op.Return ∷ []) → Stands (running b) n p [] s q → Comes w q (Returned n kind.Void b.below Nothing (record { shared = s.shared; locals = [] }))
  ends_void b n p s q has r =
      subst (λ q. Comes w q (Returned n kind.Void b.below Nothing (record { shared = s.shared; locals = [] }))) (sym r.is)
      (by_op_to w (running b) p (p + 1) op.Return [] r.locals s.shared (gives (Leave Nothing) (state s.shared r.locals)) _ has.0 refl refl (here (record { void = λ e. refl; turns = r.turns; is = refl })))

  ends_value : (b : Body) (n p size : ℕ) (k : Kind) (v : Val) (i : Op) (s : State) (q : Point) → IsSolid k → IsCell v → size_of i ≡ size → ((s : State) → effect w i [] s ≡ gives (Onward (v ∷ [])) s) → HasAt w b.number p (i ∷ op.ReturnValue ∷ []) → Stands (running b) n p [] s q →
      Comes w q (Returned n k b.below v (record { shared = s.shared; locals = [] }))
  ends_value b n p size k v i s q solid cell sized is has r =
      subst (λ q. Comes w q (Returned n k b.below v (record { shared = s.shared; locals = [] }))) (sym r.is)
      (by_op_to w (running b) p (p + size) i [] r.locals s.shared (gives (Onward (v ∷ [])) (state s.shared r.locals)) _ has.0 (ap (λ m. p + m) sized) (is (state s.shared r.locals))
      (by_op_to w (running b) (p + size) (p + size + 1) op.ReturnValue (v ∷ []) r.locals s.shared (gives (Leave v) (state s.shared r.locals)) _ (subst (λ m. instruction_at image b.number (p + m) ≡ Some op.ReturnValue) sized has.1.0) refl refl
      (here (record { void = not_void k v solid; turns = r.turns; is = refl }))))

  ends : (b : Body) (n p : ℕ) (k : Kind) (s : State) (q : Point) → HasAt w b.number p (end_code k) → Stands (running b) n p [] s q → Comes w q (Returned n k b.below (zero_of k) (record { shared = s.shared; locals = [] }))
  ends b n p kind.Void s q has r = ends_void b n p s q has r
  ends b n p kind.Bool s q has r = ends_value b n p 2 kind.Bool (zero_of kind.Bool) (zero_op kind.Bool) s q tt tt refl (λ s. refl) has r
  ends b n p kind.Int s q has r = ends_value b n p 5 kind.Int (zero_of kind.Int) (zero_op kind.Int) s q tt tt refl (λ s. refl) has r
  ends b n p kind.Long s q has r = ends_value b n p 9 kind.Long (zero_of kind.Long) (zero_op kind.Long) s q tt tt refl (λ s. refl) has r
  ends b n p kind.Text s q has r = ends_value b n p 1 kind.Text Null op.Null s q tt tt refl (λ s. refl) has r
  ends b n p (kind.Object d) s q has r = ends_value b n p 1 (kind.Object d) Null op.Null s q tt tt refl (λ s. refl) has r

  finish : (b : Body) (n p : ℕ) (k : Kind) → HasAt w b.number p (end_code k) → (r : Result Flow Stop) (t : State) (q : Point) → Ends (Landed program layout image class known b k n p 0 0) r t q →
      Comes w q (Ends (Returned n k b.below) (answered k r) (record { shared = t.shared; locals = [] }))
  finish b n p k has (Ok Next) t q e = ends b n p k t q has e
  finish b n p k has (Ok Break) t q e = here tt
  finish b n p k has (Ok Continue) t q e = here tt
  finish b n p k has (Ok (Return v)) t q e = here (record { void = e.void; turns = e.turns; is = e.is })
  finish b n p k has (Err (Traps trap)) t q e = here e
  finish b n p k has (Err Untyped) t q e = here tt

  abbrev body_for : (number : ℕ) (m : Method) (below : List Frame) → All (IsStorable program) (locals_of m) → Body
  body_for number m below storable = record { frame = frame_for m; number = number; below = below; solid = all_solid_at program (locals_of m) storable }

  -- a body that is there
  run : (frames : ℕ) (calls : Calls) → CallsSound program class calls → CallsFollowed program image class frames calls → (number : ℕ) (m : Method) → slice_get program.methods number ≡ Some m → (o : Option Stmt) → m.body ≡ o → IfSome o (IsBody program m) → IsMethod program m → (m.body ≡ None → ⊥) →
      (locals ms : List Val) → FrameHas program class (receiver_of m ++ m.params) locals → length locals ≡ 65 → (below : List Frame) → Agree (running_of number m below) locals ms → suc (length below) + frames ≡ 32 → (n : ℕ) (shared : Shared) → Fitting program class shared → shared.turns ≤ n →
      (let c = run_body (source program class calls) m.result o locals shared in Comes w (point (running_of number m below) 0 ms [] shared) (Ends (Returned n m.result below) c.result (ended_by c)))
  run frames calls sound followed number m is None e typed method some locals ms has long below agree deep n shared fitting t = absurd (some e)
  run frames calls sound followed number m is (Some body) e typed method some locals ms has long below agree deep n shared fitting t =
      let b = body_for number m below typed.storable in
      let found = known.made.methods number m is in
      let made : IsMethodOf program layout m found.0 = found.2 in
      let S = site_of program layout m in
      let ops : List Op = ops_of program layout m in
      let cs = stmt_code S 0 0 0 body in
      let code : ops ≡ cs ++ end_code m.result = ap (λ (o : Option Stmt). body_code S m.result o) e in
      let at : option_map_or (λ (x : ImageMethod). x.code) (slice_get image.methods number) [] ≡ found.0.code = ap (λ (o : Option ImageMethod). option_map_or (λ (x : ImageMethod). x.code) o []) found.1 in
      let all : HasAt w number 0 (cs ++ end_code m.result) = stand_all stand w number found.0.code at (cs ++ end_code m.result) [] ops made.code code (subst (All IsOp) code made.spelled) in
      let last : HasAt w number (0 + stmt_size S body) (end_code m.result) = has_back w number 0 (stmt_size S body) cs (end_code m.result) (stmt_sized S 0 0 0 body) all in
      let sim = stmt_sim program layout image class known b calls sound m.result frames followed deep n 0 0 0 body (record { breaks = false; continues = false }) typed.typed (has_front w number 0 cs (end_code m.result) all) in
      let s : State = record { shared = shared; locals = locals } in
      let run_it = exec (source program class calls) body s in
      go_on (sim.comes s ms (begins m locals shared method some has long fitting) agree t) (λ q ended. finish b n (0 + stmt_size S body) m.result last run_it.result run_it.state q ended)

  pub calls_followed : (frames : ℕ) → CallsFollowed program image class frames (calls_with program class frames)
  unfolding calls_with
  calls_followed zero = record {
    comes = λ number m is some locals ms has long below agree deep n shared fitting t.
        let full : nat_lt (length below) 32 ≡ false = grind (arith, nat_tests, deep) in
        let P : Bool → Type 0 = λ c. Comes w (if c then AtWork (record { top = record { method = number; place = 0; locals = ms; stack = [] }; below = below; shared = shared }) else Over (record { result = Err (Traps TooDeep); shared = shared })) (λ q. q ≡ Over (record { result = Err (Traps TooDeep); shared = shared })) in
        subst P (sym full) (here refl);
  }
  calls_followed (suc frames) = record {
    comes = λ number m is some locals ms has long below agree deep n shared fitting t.
        let room : nat_lt (length below) 32 ≡ true = grind (arith, nat_tests, deep) in
        let calls = calls_with program class frames in
        let method : IsMethod program m = at_place (IsMethod program) program.methods number m known.typed.methods is in
        let deeper : suc (length below) + frames ≡ 32 = omega (arith, deep) in
        let Q : Option Method → Point → Type 0 = λ o. (let c = run_method (source program class calls) o locals shared in Ends (Returned n m.result below) c.result (ended_by c)) in
        let some_body = run frames calls (calls_sound program known.typed class known.component frames) (calls_followed frames) number m is m.body refl method.body method some locals ms has long below agree deeper n shared fitting t in
        let there_is = subst (λ o. Comes w (point (running_of number m below) 0 ms [] shared) (Q o)) (sym is) some_body in
        let P : Bool → Type 0 = λ c. Comes w (if c then AtWork (record { top = record { method = number; place = 0; locals = ms; stack = [] }; below = below; shared = shared }) else Over (record { result = Err (Traps TooDeep); shared = shared })) (Q (slice_get program.methods number)) in
        subst P (sym room) there_is;
  }
