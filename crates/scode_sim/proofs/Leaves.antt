-- Expressions without parts, and what is done with a value on the stack.
use Rattle.std.proofs.Common.{◌≡◌, ℕ, ℤ, ◌+◌, ◌==◌, Bool, true, false, if◌then◌else◌, List, [], ◌∷◌, Some, Result, Ok, refl, sym, ap, subst, arith}
use Rattle.std.specs.Prelude.{pos, not}
use Rattle.std.specs.Int.{w8, w16, w32}
use Rattle.sed_value.specs.Wrap.{low_bits, wrap}
use Rattle.sed_typed.specs.declared.kind.Kind.{Kind}
use Rattle.sed_typed.specs.declared.kind.Kind.TheVariants as kind
use Rattle.sed_typed.specs.declared.operators.Binary.{Binary}
use Rattle.sed_typed.specs.declared.operators.Unary.{Unary}
use Rattle.sed_typed.specs.declared.operators.Unary.TheVariants as unary
use Rattle.sed_typed.specs.declared.operators.Width.TheVariants as width
use Rattle.sed_typed.specs.declared.program.Program.{Program}
use Rattle.sed_typed.specs.Kinds.{unary_kind}
use Rattle.sed_typed.specs.TypedExpr.{operand_kind}
use Rattle.sed_engine.specs.Operators.{unary_of, binary_of}
use Rattle.sed_engine.specs.State.{State, End, gives, answers}
use Rattle.sed_engine.specs.Steps.{choose}
use Rattle.sed_engine.specs.Stops.{Stop}
use Rattle.sed_engine.specs.Values.{Val, Truth, Int, Long}
use Rattle.sed_engine.proofs.Kinded.{HasKind}
use Rattle.scode_ops.specs.declared.op.Op.{Op}
use Rattle.scode_ops.specs.declared.op.Op.TheVariants as op
use Rattle.scode_ops.specs.Decoding.{size_of}
use Rattle.scode_code.specs.Effect.{push}
use Rattle.scode_code.specs.Fields.{Setting}
use Rattle.scode_code.specs.Machine.{Point, Onward, Goto, moves}
use Rattle.scode_code.specs.Steps.{effect, instruction_at}
use Rattle.scode_emit.specs.Instructions.{unary_code, unary_size, binary_op}
use Rattle.scode_emit.proofs.Counts.{binary_sized}
use Rattle.scode_sim.proofs.Apart.{state, answers_apart, gives_apart}
use Rattle.scode_sim.proofs.Comes.{Comes, here, go_on}
use Rattle.scode_sim.proofs.Follows.{Ends, frame, point, Stands, Pushed, not_void, HasAt, by_op_to, Sim, push_sim}
use Rattle.scode_sim.proofs.Frames.{Running, IsSolid}
use Rattle.scode_sim.proofs.Narrow.{low_byte_of_int, low_short_of_int}
use Rattle.scode_sim.proofs.Operations.{binary_effect}

module _ (w : Setting) (G : State → Type 0) where
  -- ---- what is read

  -- a value of the code's own
  pub constant_sim : (x : Running) (n : ℕ) (k : Kind) (v : Val) (place next : ℕ) (i : Op) (st : List Val) → instruction_at w.image x.method place ≡ Some i → place + size_of i ≡ next → IsSolid k →
      ((s : State) → effect w i st s ≡ push st (gives v s)) → Sim w G x n Val (gives v) place st (Pushed x n k next st)
  constant_sim x n k v place next i st has size solid is = push_sim w G x n k (gives v) place next i st st has size solid (gives_apart v) is

  -- an answer that follows from what is on the stack
  pub answer_sim : (x : Running) (n : ℕ) (k : Kind) (r : Result Val Stop) (place next : ℕ) (i : Op) (st rest : List Val) → instruction_at w.image x.method place ≡ Some i → place + size_of i ≡ next → IsSolid k →
      ((s : State) → effect w i st s ≡ push rest (answers r s)) → Sim w G x n Val (answers r) place st (Pushed x n k next rest)
  answer_sim x n k r place next i st rest has size solid is = push_sim w G x n k (answers r) place next i st rest has size solid (answers_apart r) is

  pub binary_sim : (x : Running) (n : ℕ) (k : Kind) (b : Binary) (u v : Val) (place : ℕ) (st : List Val) → IsSolid k → instruction_at w.image x.method place ≡ Some (binary_op b) →
      Sim w G x n Val (answers (binary_of b u v)) place (v ∷ u ∷ st) (Pushed x n k (place + 1) st)
  binary_sim x n k b u v place st solid has =
      answer_sim x n k (binary_of b u v) place (place + 1) (binary_op b) (v ∷ u ∷ st) st has (ap (λ m. place + m) (binary_sized b)) solid (λ s. binary_effect w b (v ∷ u ∷ st) s)

  -- ---- conditions

  pick_met : {A : Type 0} (x : Running) (Q : A → State → Point → Type 0) (f g : State → End A) (place to : ℕ) (rest all ms : List Val) (s : State) (b : Bool) →
      Comes w (point x (place + 3) ms rest s.shared) (Ends Q (f s).result (f s).state) →
      Comes w (point x to ms rest s.shared) (Ends Q (g s).result (g s).state) →
      (let e = (if b then gives (Onward rest) else gives (Goto to rest)) (state s.shared ms) in
      let d = (if b then f else g) s in
      Comes w (moves (frame x place ms all) x.below (place + 3) e.result e.state) (Ends Q d.result d.state))
  pick_met x Q f g place to rest all ms s true met unmet = met
  pick_met x Q f g place to rest all ms s false met unmet = unmet

  pick_unmet : {A : Type 0} (x : Running) (Q : A → State → Point → Type 0) (f g : State → End A) (place to : ℕ) (rest all ms : List Val) (s : State) (b : Bool) →
      Comes w (point x to ms rest s.shared) (Ends Q (f s).result (f s).state) →
      Comes w (point x (place + 3) ms rest s.shared) (Ends Q (g s).result (g s).state) →
      (let e = (if b then gives (Goto to rest) else gives (Onward rest)) (state s.shared ms) in
      let d = (if b then f else g) s in
      Comes w (moves (frame x place ms all) x.below (place + 3) e.result e.state) (Ends Q d.result d.state))
  pick_unmet x Q f g place to rest all ms s true met unmet = met
  pick_unmet x Q f g place to rest all ms s false met unmet = unmet

  -- a jump where it is not met
  pub choose_sim : {A : Type 0} {x : Running} {n : ℕ} {f g : State → End A} {Q : A → State → Point → Type 0} (place to t : ℕ) (rest : List Val) → instruction_at w.image x.method place ≡ Some (op.JumpFalse to) →
      Sim w G x n A f (place + 3) rest Q → Sim w G x n A g to rest Q → Sim w G x n A (choose (Truth t) f g) place (Truth t ∷ rest) Q
  choose_sim {x = x} {f = f} {g = g} {Q = Q} place to t rest has met unmet = record {
    comes = λ s ms gs a le.
        by_op_to w x place (place + 3) (op.JumpFalse to) (Truth t ∷ rest) ms s.shared ((if not (t == 0) then gives (Onward rest) else gives (Goto to rest)) (state s.shared ms)) _ has refl refl
        (pick_met x Q f g place to rest (Truth t ∷ rest) ms s (not (t == 0)) (met.comes s ms gs a le) (unmet.comes s ms gs a le));
  }

  -- a jump where it is met
  pub until_sim : {A : Type 0} {x : Running} {n : ℕ} {f g : State → End A} {Q : A → State → Point → Type 0} (place to t : ℕ) (rest : List Val) → instruction_at w.image x.method place ≡ Some (op.JumpTrue to) →
      Sim w G x n A f to rest Q → Sim w G x n A g (place + 3) rest Q → Sim w G x n A (choose (Truth t) f g) place (Truth t ∷ rest) Q
  until_sim {x = x} {f = f} {g = g} {Q = Q} place to t rest has met unmet = record {
    comes = λ s ms gs a le.
        by_op_to w x place (place + 3) (op.JumpTrue to) (Truth t ∷ rest) ms s.shared ((if not (t == 0) then gives (Goto to rest) else gives (Onward rest)) (state s.shared ms)) _ has refl refl
        (pick_unmet x Q f g place to rest (Truth t ∷ rest) ms s (not (t == 0)) (met.comes s ms gs a le) (unmet.comes s ms gs a le));
  }

  pub jump_stands : {x : Running} {n : ℕ} {stack : List Val} {s : State} {q : Point} (p r : ℕ) → instruction_at w.image x.method p ≡ Some (op.Jump r) → Stands x n p stack s q → Comes w q (Stands x n r stack s)
  jump_stands {x} {n} {stack} {s} {q} p r has stands =
      let P : Point → Type 0 = λ q. Comes w q (Stands x n r stack s) in
      subst P (sym stands.is)
      (by_op_to w x p (p + 3) (op.Jump r) stack stands.locals s.shared (gives (Goto r stack) (state s.shared stands.locals)) (Stands x n r stack s) has refl refl
      (here (record { locals = stands.locals; agree = stands.agree; turns = stands.turns; is = refl })))

  pub jump_pushed : {x : Running} {n : ℕ} {k : Kind} {stack : List Val} (p r : ℕ) → instruction_at w.image x.method p ≡ Some (op.Jump r) → (v : Val) (s : State) (q : Point) → Pushed x n k p stack v s q → Comes w q (Pushed x n k r stack v s)
  jump_pushed p r has v s q e = go_on (jump_stands p r has e.stands) (λ q stands. here (record { void = e.void; stands = stands }))

  -- ---- operators of one operand

  -- the low bits of a long are taken of its low 32 bits
  two_sim : (x : Running) (n : ℕ) (m : ℤ) (low lower : ℕ) → low ≡ lower → (place : ℕ) (i : Op) (st : List Val) → ((s : State) → effect w i (Int (wrap w32 m) ∷ st) s ≡ gives (Onward (Int (pos low) ∷ st)) s) → size_of i ≡ 1 → HasAt w x.method place (op.LongToInt ∷ i ∷ []) →
      Sim w G x n Val (answers (Ok (Int (pos lower)))) place (Long m ∷ st) (Pushed x n kind.Int (place + 2) st)
  two_sim x n m low lower same place i st is size has = record {
    comes = λ s ms g a t.
        by_op_to w x place (place + 1) op.LongToInt (Long m ∷ st) ms s.shared (gives (Onward (Int (wrap w32 m) ∷ st)) (state s.shared ms)) _ has.0 refl refl
        (by_op_to w x (place + 1) (place + 2) i (Int (wrap w32 m) ∷ st) ms s.shared (gives (Onward (Int (pos low) ∷ st)) (state s.shared ms)) _ has.1.0 (let e : place + 1 + size_of i ≡ place + 2 = omega (arith, size) in e) (is (state s.shared ms))
        (here (record {
          void = not_void kind.Int (Int (pos lower)) tt;
          stands = record { locals = ms; agree = a; turns = t; is = ap (λ b. point x (place + 2) ms (Int (pos b) ∷ st) s.shared) same };
        })));
  }

  pub unary_sim : (x : Running) (n : ℕ) (program : Program) (class : ℕ) (u : Unary) (v : Val) (place : ℕ) (st : List Val) → HasKind program class (operand_kind u) v → HasAt w x.method place (unary_code u) →
      Sim w G x n Val (answers (unary_of u v)) place (v ∷ st) (Pushed x n (unary_kind u) (place + unary_size u) st)
  unary_sim x n program class unary.Not v place st h has = answer_sim x n kind.Bool (unary_of unary.Not v) place (place + 1) op.Not (v ∷ st) st has.0 refl tt (λ s. refl)
  unary_sim x n program class (unary.Negate width.Int) v place st h has = answer_sim x n kind.Int (unary_of (unary.Negate width.Int) v) place (place + 1) op.IntNeg (v ∷ st) st has.0 refl tt (λ s. refl)
  unary_sim x n program class (unary.Negate width.Long) v place st h has = answer_sim x n kind.Long (unary_of (unary.Negate width.Long) v) place (place + 1) op.LongNeg (v ∷ st) st has.0 refl tt (λ s. refl)
  unary_sim x n program class (unary.Flip width.Int) v place st h has = answer_sim x n kind.Int (unary_of (unary.Flip width.Int) v) place (place + 1) op.IntNot (v ∷ st) st has.0 refl tt (λ s. refl)
  unary_sim x n program class (unary.Flip width.Long) v place st h has = answer_sim x n kind.Long (unary_of (unary.Flip width.Long) v) place (place + 1) op.LongNot (v ∷ st) st has.0 refl tt (λ s. refl)
  unary_sim x n program class unary.ToLong v place st h has = answer_sim x n kind.Long (unary_of unary.ToLong v) place (place + 1) op.IntToLong (v ∷ st) st has.0 refl tt (λ s. refl)
  unary_sim x n program class unary.ToInt v place st h has = answer_sim x n kind.Int (unary_of unary.ToInt v) place (place + 1) op.LongToInt (v ∷ st) st has.0 refl tt (λ s. refl)
  unary_sim x n program class (unary.LowByte width.Int) v place st h has = answer_sim x n kind.Int (unary_of (unary.LowByte width.Int) v) place (place + 1) op.IntToByte (v ∷ st) st has.0 refl tt (λ s. refl)
  unary_sim x n program class (unary.LowShort width.Int) v place st h has = answer_sim x n kind.Int (unary_of (unary.LowShort width.Int) v) place (place + 1) op.IntToShort (v ∷ st) st has.0 refl tt (λ s. refl)
  unary_sim x n program class (unary.LowByte width.Long) (Long m) place st h has = two_sim x n m (low_bits w8 (wrap w32 m)) (low_bits w8 m) (low_byte_of_int m) place op.IntToByte st (λ s. refl) refl has
  unary_sim x n program class (unary.LowShort width.Long) (Long m) place st h has = two_sim x n m (low_bits w16 (wrap w32 m)) (low_bits w16 m) (low_short_of_int m) place op.IntToShort st (λ s. refl) refl has
  unary_sim x n program class (unary.LowByte width.Long) v place st h has = absurd h
  unary_sim x n program class (unary.LowShort width.Long) v place st h has = absurd h
