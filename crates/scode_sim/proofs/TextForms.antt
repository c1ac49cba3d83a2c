-- Calls of a Str: the instruction is the language's own call.
use Rattle.std.proofs.Common.{◌≡◌, ℕ, ◌+◌, ◌-◌, ◌≤◌, Bool, true, if◌then◌else◌, List, [], ◌∷◌, ◌++◌, length, Some, Result, Ok, Err, refl, sym, ap, ◌∙◌, subst, arith}
use Rattle.sed_typed.specs.declared.kind.Kind.{Kind}
use Rattle.sed_typed.specs.declared.kind.Kind.TheVariants as kind
use Rattle.sed_typed.specs.declared.operators.TextCall.{TextCall}
use Rattle.sed_typed.specs.declared.operators.TextCall.TheVariants as text
use Rattle.sed_typed.specs.declared.operators.Width.TheVariants as width
use Rattle.sed_typed.specs.declared.program.Program.{Program}
use Rattle.sed_typed.specs.Kinds.{text_kind}
use Rattle.sed_typed.specs.TypedExpr.{text_kinds}
use Rattle.sed_engine.specs.Expressions.{text_call, text_bytes, changeable, operand}
use Rattle.sed_engine.specs.State.{State, End, gives, answers, then_do}
use Rattle.sed_engine.specs.Steps.{store, write_bytes, read_bytes}
use Rattle.sed_engine.specs.Stops.{Stop, Traps, Untyped}
use Rattle.sed_engine.specs.Texts.{index_of}
use Rattle.sed_engine.specs.Values.{Val, Nothing, Truth, Int, Long, Null, At, Literal, Spot, whole, is_reference}
use Rattle.sed_engine.proofs.Frames.{FrameHas}
use Rattle.sed_engine.proofs.Kinded.{HasKind}
use Rattle.scode_ops.specs.declared.op.Op.{Op}
use Rattle.scode_ops.specs.declared.op.Op.TheVariants as op
use Rattle.scode_ops.specs.Decoding.{size_of}
use Rattle.scode_image.specs.declared.image.Image.{Image}
use Rattle.scode_code.specs.Calls as does
use Rattle.scode_code.specs.Effect.{push, no_push}
use Rattle.scode_code.specs.Fields.{Setting}
use Rattle.scode_code.specs.Machine.{moves, pushed}
use Rattle.scode_code.specs.Steps.{effect, instruction_at}
use Rattle.scode_emit.specs.Instructions.{text_op}
use Rattle.scode_emit.specs.Site.{Layout}
use Rattle.scode_sim.proofs.Apart.{Apart, with_locals, state, stays, text_apart}
use Rattle.scode_sim.proofs.Arguments.{push_all}
use Rattle.scode_sim.proofs.Comes.{here}
use Rattle.scode_sim.proofs.Context.{Known, Body, running, machine, runs}
use Rattle.scode_sim.proofs.Follows.{Ends, frame, point, Pushed, by_op_to, Sim, push_sim}
use Rattle.scode_sim.proofs.Frames.{Running, Agree}
use Rattle.scode_sim.proofs.Keeping.{ok_same, after_gives}

-- what is written answers nothing
writes_nothing : (spot : Spot) (bytes : List ℕ) (s : State) (u : Val) → (write_bytes spot bytes s).result ≡ Ok u → u ≡ Nothing
writes_nothing spot bytes s u e =
    after_gives (λ u. u ≡ Nothing) (λ _ s1. gives Nothing s1) (λ _ t v e1. sym (ok_same Nothing v e1)) (store spot _ s).result (store spot _ s).state u e

set_nothing : (texts : List (List ℕ)) (v : Val) (args : List Val) (s : State) (u : Val) → (text_call texts text.Set v args s).result ≡ Ok u → u ≡ Nothing
set_nothing texts v args s u e =
    let N : Val → Type 0 = λ u. u ≡ Nothing in
    after_gives N _ (λ spot t1 v1 e1. after_gives N _ (λ bytes t2 v2 e2. after_gives {A = ℕ} N _ (λ i t3 v3 e3. after_gives N _ (λ c t4 v4 e4. writes_nothing spot _ t4 v4 e4)
    (whole width.Int (operand args 1)) t3 v3 e3) (index_of (length {A = ℕ} bytes - 1) (operand args 0)) t2 v2 e2) (read_bytes spot t1).result (read_bytes spot t1).state v1 e1) (changeable v) s u e

copy_nothing : (texts : List (List ℕ)) (v : Val) (args : List Val) (s : State) (u : Val) → (text_call texts text.Copy v args s).result ≡ Ok u → u ≡ Nothing
copy_nothing texts v args s u e =
    let N : Val → Type 0 = λ u. u ≡ Nothing in
    after_gives N _ (λ old t1 v1 e1. after_gives N _ (λ new t2 v2 e2. after_gives N _ (λ spot t3 v3 e3. writes_nothing spot _ t3 v3 e3)
    (changeable v) t2 v2 e2) (text_bytes texts (operand args 0) t1).result (text_bytes texts (operand args 0) t1).state v1 e1) (text_bytes texts v s).result (text_bytes texts v s).state u e

module _ (program : Program) (layout : Layout) (image : Image) (class : ℕ) (known : Known program layout image class) (b : Body) where
  abbrev w : Setting
  w = machine image class

  abbrev x : Running
  x = running b

  abbrev G : State → Type 0
  G s = runs program class b s

  abbrev Has : Kind → Val → Type 0
  Has k v = HasKind program class k v

  -- a void step
  ends_void : (n place next : ℕ) (st rest ms : List Val) (s : State) → Agree x s.locals ms → (r : Result Val Stop) → ((u : Val) → r ≡ Ok u → u ≡ Nothing) → (t : State) → t.locals ≡ s.locals → t.shared.turns ≤ n →
      (let e = no_push rest (record { result = r; state = state t.shared ms }) in Ends (Pushed x n kind.Void next rest) r t (moves (frame x place ms st) x.below next e.result e.state))
  ends_void n place next st rest ms s a (Ok v) nothing t stay le =
      let e = nothing v refl in
      record {
        void = λ _. e;
        stands = record { locals = ms; agree = subst (λ vs. Agree x vs ms) (sym stay) a; turns = le; is = ap (λ u. point x next ms (pushed u rest) t.shared) (sym e) };
      }
  ends_void n place next st rest ms s a (Err (Traps trap)) nothing t stay le = refl
  ends_void n place next st rest ms s a (Err Untyped) nothing t stay le = tt

  void_sim : (n : ℕ) (f : State → End Val) (place next : ℕ) (i : Op) (st rest : List Val) → instruction_at image x.method place ≡ Some i → place + size_of i ≡ next → Apart Val f → ((s : State) (u : Val) → (f s).result ≡ Ok u → u ≡ Nothing) →
      ((s : State) → effect w i st s ≡ no_push rest (f s)) → Sim w G x n Val f place st (Pushed x n kind.Void next rest)
  void_sim n f place next i st rest has size apart nothing is = record {
    comes = λ s ms g a t.
        let e = f s in
        by_op_to w x place next i st ms s.shared (no_push rest (with_locals ms e)) _ has size
        (is (state s.shared ms) ∙ ap (no_push rest) (apart.alike s.shared s.locals ms))
        (here (ends_void n place next st rest ms s a e.result (λ u r. nothing s u r) e.state (stays apart s) (let one = apart.turns s in omega (arith, one, t))));
  }

  -- the texts of both sides are one list
  texts_same : (o : TextCall) (v : Val) (args : List Val) (s : State) → text_call image.texts o v args s ≡ text_call program.texts o v args s
  texts_same o v args s = ap (λ ts. text_call ts o v args s) known.made.texts

  -- ---- with the arguments on the stack

  length_sim : (n q : ℕ) (v : Val) (xs st : List Val) → instruction_at image x.method q ≡ Some op.StrLen → Sim w G x n Val (text_call program.texts text.Length v xs) q (v ∷ st) (Pushed x n kind.Int (q + 1) st)
  length_sim n q v xs st at =
      push_sim w G x n kind.Int (text_call program.texts text.Length v xs) q (q + 1) op.StrLen (v ∷ st) st at refl tt (text_apart program.texts text.Length v xs)
      (λ s. ap (push st) (texts_same text.Length v [] s))

  get_sim : (n q : ℕ) (v i : Val) (more st : List Val) → Has kind.Int i → instruction_at image x.method q ≡ Some op.StrGet → Sim w G x n Val (text_call program.texts text.Get v (i ∷ more)) q (i ∷ v ∷ st) (Pushed x n kind.Int (q + 1) st)
  get_sim n q v (Int j) more st h at =
      push_sim w G x n kind.Int (text_call program.texts text.Get v (Int j ∷ more)) q (q + 1) op.StrGet (Int j ∷ v ∷ st) st at refl tt (text_apart program.texts text.Get v (Int j ∷ more))
      (λ s. ap (push st) (texts_same text.Get v (Int j ∷ []) s))
  get_sim n q v Nothing more st h at = absurd h
  get_sim n q v (Truth t) more st h at = absurd h
  get_sim n q v (Long j) more st h at = absurd h
  get_sim n q v Null more st h at = absurd h
  get_sim n q v (At spot) more st h at = absurd h
  get_sim n q v (Literal j) more st h at = absurd h

  set_sim : (n q : ℕ) (v i c : Val) (more st : List Val) → Has kind.Int i → Has kind.Int c → instruction_at image x.method q ≡ Some op.StrSet → Sim w G x n Val (text_call program.texts text.Set v (i ∷ c ∷ more)) q (c ∷ i ∷ v ∷ st) (Pushed x n kind.Void (q + 1) st)
  set_sim n q v (Int j) (Int m) more st h g at =
      void_sim n (text_call program.texts text.Set v (Int j ∷ Int m ∷ more)) q (q + 1) op.StrSet (Int m ∷ Int j ∷ v ∷ st) st at refl (text_apart program.texts text.Set v (Int j ∷ Int m ∷ more)) (set_nothing program.texts v (Int j ∷ Int m ∷ more))
      (λ s. ap (no_push st) (texts_same text.Set v (Int j ∷ Int m ∷ []) s))
  set_sim n q v Nothing c more st h g at = absurd h
  set_sim n q v (Truth t) c more st h g at = absurd h
  set_sim n q v (Long j) c more st h g at = absurd h
  set_sim n q v Null c more st h g at = absurd h
  set_sim n q v (At spot) c more st h g at = absurd h
  set_sim n q v (Literal j) c more st h g at = absurd h
  set_sim n q v (Int j) Nothing more st h g at = absurd g
  set_sim n q v (Int j) (Truth t) more st h g at = absurd g
  set_sim n q v (Int j) (Long m) more st h g at = absurd g
  set_sim n q v (Int j) Null more st h g at = absurd g
  set_sim n q v (Int j) (At spot) more st h g at = absurd g
  set_sim n q v (Int j) (Literal m) more st h g at = absurd g

  text_reference : (v : Val) → Has kind.Text v → is_reference v ≡ true
  text_reference Null h = refl
  text_reference (At spot) h = refl
  text_reference (Literal n) h = refl
  text_reference Nothing h = absurd h
  text_reference (Truth t) h = absurd h
  text_reference (Int n) h = absurd h
  text_reference (Long n) h = absurd h

  equals_sim : (n q : ℕ) (v u : Val) (more st : List Val) → Has kind.Text u → instruction_at image x.method q ≡ Some op.StrEq → Sim w G x n Val (text_call program.texts text.Equals v (u ∷ more)) q (u ∷ v ∷ st) (Pushed x n kind.Bool (q + 1) st)
  equals_sim n q v u more st h at =
      push_sim w G x n kind.Bool (text_call program.texts text.Equals v (u ∷ more)) q (q + 1) op.StrEq (u ∷ v ∷ st) st at refl tt (text_apart program.texts text.Equals v (u ∷ more))
      (λ s. ap (λ (c : Bool). then_do (answers (if c then Ok u else Err Untyped) s) (λ z s2. push st (does.text_call w text.Equals v (z ∷ []) s2))) (text_reference u h) ∙ ap (push st) (texts_same text.Equals v (u ∷ []) s))

  copy_sim : (n q : ℕ) (v u : Val) (more st : List Val) → Has kind.Text u → instruction_at image x.method q ≡ Some op.StrCopy → Sim w G x n Val (text_call program.texts text.Copy v (u ∷ more)) q (u ∷ v ∷ st) (Pushed x n kind.Void (q + 1) st)
  copy_sim n q v u more st h at =
      void_sim n (text_call program.texts text.Copy v (u ∷ more)) q (q + 1) op.StrCopy (u ∷ v ∷ st) st at refl (text_apart program.texts text.Copy v (u ∷ more)) (copy_nothing program.texts v (u ∷ more))
      (λ s. ap (λ (c : Bool). then_do (answers (if c then Ok u else Err Untyped) s) (λ z s2. no_push st (does.text_call w text.Copy v (z ∷ []) s2))) (text_reference u h) ∙ ap (no_push st) (texts_same text.Copy v (u ∷ []) s))

  -- arguments of kinds
  abbrev pub AllHas : List Kind → List Val → Type 0
  AllHas [] [] = Unit {0}
  AllHas [] (v ∷ vs) = ⊥
  AllHas (k ∷ ks) [] = ⊥
  AllHas (k ∷ ks) (v ∷ vs) = Has k v × AllHas ks vs

  pub text_sim : (n q : ℕ) (o : TextCall) (v : Val) (args blank st : List Val) → AllHas (text_kinds o) args → instruction_at image x.method q ≡ Some (text_op o) →
      Sim w G x n Val (text_call program.texts o v (args ++ blank)) q (push_all args (v ∷ st)) (Pushed x n (text_kind o) (q + 1) st)
  text_sim n q text.Length v [] blank st h at = length_sim n q v blank st at
  text_sim n q text.Length v (u ∷ us) blank st h at = absurd h
  text_sim n q text.Get v [] blank st h at = absurd h
  text_sim n q text.Get v (i ∷ []) blank st h at = get_sim n q v i blank st h.0 at
  text_sim n q text.Get v (i ∷ u ∷ us) blank st h at = absurd h.1
  text_sim n q text.Set v [] blank st h at = absurd h
  text_sim n q text.Set v (i ∷ []) blank st h at = absurd h.1
  text_sim n q text.Set v (i ∷ c ∷ []) blank st h at = set_sim n q v i c blank st h.0 h.1.0 at
  text_sim n q text.Set v (i ∷ c ∷ u ∷ us) blank st h at = absurd h.1.1
  text_sim n q text.Equals v [] blank st h at = absurd h
  text_sim n q text.Equals v (u ∷ []) blank st h at = equals_sim n q v u blank st h.0 at
  text_sim n q text.Equals v (u ∷ z ∷ us) blank st h at = absurd h.1
  text_sim n q text.Copy v [] blank st h at = absurd h
  text_sim n q text.Copy v (u ∷ []) blank st h at = copy_sim n q v u blank st h.0 at
  text_sim n q text.Copy v (u ∷ z ∷ us) blank st h at = absurd h.1

  -- what a frame holds is what its arguments are
  pub frame_all : (ks : List Kind) (args blank : List Val) → FrameHas program class ks (args ++ blank) → length args ≡ length ks → AllHas ks args
  frame_all [] [] blank h e = tt
  frame_all [] (v ∷ vs) blank h e = absurd (omega (arith, e))
  frame_all (k ∷ ks) [] blank h e = absurd (omega (arith, e))
  frame_all (k ∷ ks) (v ∷ vs) blank h e = (h.0, frame_all ks vs blank h.1 (omega (arith, e)))
