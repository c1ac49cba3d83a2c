-- The machine follows the source: what that is, and how what is followed step by step is followed as a whole.
use Rattle.std.proofs.Common.{◌≡◌, ℕ, ◌+◌, ◌≤◌, List, [], ◌∷◌, ◌++◌, Some, Result, Ok, Err, slice_get, slice_set, refl, sym, ap, ◌∙◌, subst, arith}
use Rattle.sed_typed.specs.declared.kind.Kind.{Kind}
use Rattle.sed_typed.specs.declared.kind.Kind.TheVariants as kind
use Rattle.sed_engine.specs.State.{Shared, State, End, gives, answers, after, then_do}
use Rattle.sed_engine.specs.Stops.{Stop, Traps, Untyped, there, map_ok}
use Rattle.sed_engine.specs.Values.{Val, Nothing}
use Rattle.sed_engine.proofs.Ranges.{Sound}
use Rattle.sed_engine.proofs.Ready.{Holds}
use Rattle.scode_ops.specs.declared.op.Op.{Op}
use Rattle.scode_ops.specs.declared.op.Op.TheVariants as op
use Rattle.scode_ops.specs.Decoding.{size_of}
use Rattle.scode_emit.proofs.Counts.{count}
use Rattle.scode_code.specs.Effect.{push, no_push}
use Rattle.scode_code.specs.Fields.{Setting}
use Rattle.scode_code.specs.Machine.{Frame, Point, At as AtWork, Over, Move, Onward, moves, pushed}
use Rattle.scode_code.specs.Steps.{effect, instruction_at, act}
use Rattle.scode_sim.proofs.Apart.{Apart, with_locals, state, stays}
use Rattle.scode_sim.proofs.Comes.{Comes, here, one_more, go_on}
use Rattle.scode_sim.proofs.Frames.{Running, Agree, IsCell, IsSolid, pushed_is}

-- how a step of the source ends: with what Q says of the point that the machine comes to, or by the same trap
abbrev pub Ends : {A : Type 0} → (A → State → Point → Type 0) → Result A Stop → State → Point → Type 0
Ends Q (Ok v) s q = Q v s q
Ends Q (Err (Traps t)) s q = q ≡ Over (record { result = Err (Traps t); shared = s.shared })
Ends Q (Err Untyped) s q = Unit {0}

abbrev pub frame : Running → ℕ → List Val → List Val → Frame
frame x place locals stack = record { method = x.method; place = place; locals = locals; stack = stack }

abbrev pub point : Running → ℕ → List Val → List Val → Shared → Point
point x place locals stack shared = AtWork (record { top = frame x place locals stack; below = x.below; shared = shared })

-- the machine stands at a place of the frame, with this stack, in the state of the source, with so many turns at most
pub record Stands (x : Running) (n place : ℕ) (stack : List Val) (s : State) (q : Point) : Type 0 where
  pub locals : List Val
  pub agree : Agree x s.locals locals
  pub turns : s.shared.turns ≤ n
  pub is : q ≡ point x place locals stack s.shared

-- with a value of a kind on the stack, and with nothing where it is void
pub record Pushed (x : Running) (n : ℕ) (k : Kind) (place : ℕ) (stack : List Val) (v : Val) (s : State) (q : Point) : Type 0 where
  pub void : k ≡ kind.Void → v ≡ Nothing
  pub stands : Stands x n place (pushed v stack) s q

pub not_void : (k : Kind) (v : Val) → IsSolid k → k ≡ kind.Void → v ≡ Nothing
not_void k v solid e = let never : IsSolid kind.Void = subst IsSolid e solid in absurd never

module _ (w : Setting) where
  -- instructions stand in a method from a place on
  abbrev pub HasAt : ℕ → ℕ → List Op → Type 0
  HasAt m p [] = Unit {0}
  HasAt m p (i ∷ is) = (instruction_at w.image m p ≡ Some i) × HasAt m (p + size_of i) is

  pub at_place : (m p q : ℕ) (is : List Op) → p ≡ q → HasAt m p is → HasAt m q is
  at_place m p q is e h = subst (λ n. HasAt m n is) e h

  pub has_front : (m p : ℕ) (a b : List Op) → HasAt m p (a ++ b) → HasAt m p a
  has_front m p [] b h = tt
  has_front m p (i ∷ a) b h = (h.0, has_front m (p + size_of i) a b h.1)

  back_from : (m p : ℕ) (a b : List Op) → HasAt m p (a ++ b) → HasAt m (p + count a) b
  back_from m p [] b h = let e : p ≡ p + 0 = omega arith in at_place m p (p + 0) b e h
  back_from m p (i ∷ a) b h =
      let e : p + size_of i + count a ≡ p + (size_of i + count a) = omega arith in
      at_place m (p + size_of i + count a) (p + (size_of i + count a)) b e (back_from m (p + size_of i) a b h.1)

  pub has_back : (m p n : ℕ) (a b : List Op) → count a ≡ n → HasAt m p (a ++ b) → HasAt m (p + n) b
  has_back m p n a b e h = subst (λ k. HasAt m (p + k) b) e (back_from m p a b h)

  -- ---- one instruction

  pub by_op : (x : Running) (place : ℕ) (i : Op) (stack ms : List Val) (sh : Shared) (Q : Point → Type 0) → instruction_at w.image x.method place ≡ Some i →
      (let e = effect w i stack (state sh ms) in Comes w (moves (frame x place ms stack) x.below (place + size_of i) e.result e.state) Q) →
      Comes w (point x place ms stack sh) Q
  by_op x place i stack ms sh Q has c = one_more (subst (λ o. Comes w (act w o (frame x place ms stack) x.below sh) Q) (sym has) c)

  -- to the place behind it, and with what its effect is
  pub by_op_to : (x : Running) (place next : ℕ) (i : Op) (stack ms : List Val) (sh : Shared) (e : End Move) (Q : Point → Type 0) → instruction_at w.image x.method place ≡ Some i →
      place + size_of i ≡ next → effect w i stack (state sh ms) ≡ e →
      Comes w (moves (frame x place ms stack) x.below next e.result e.state) Q → Comes w (point x place ms stack sh) Q
  by_op_to x place next i stack ms sh e Q has size is c =
      by_op x place i stack ms sh Q has
      (subst (λ n. (let d = effect w i stack (state sh ms) in Comes w (moves (frame x place ms stack) x.below n d.result d.state) Q)) (sym size)
      (subst (λ (d : End Move). Comes w (moves (frame x place ms stack) x.below next d.result d.state) Q) (sym is) c))

  -- a local onto the stack, and the top into a local
  pub by_load : (x : Running) (place i : ℕ) (v : Val) (stack ms : List Val) (sh : Shared) (Q : Point → Type 0) → instruction_at w.image x.method place ≡ Some (op.Load i) →
      slice_get ms i ≡ Some v → IsCell v → Comes w (point x (place + 2) ms (v ∷ stack) sh) Q → Comes w (point x place ms stack sh) Q
  by_load x place i v stack ms sh Q has is cell c =
      by_op_to x place (place + 2) (op.Load i) stack ms sh (gives (Onward (v ∷ stack)) (state sh ms)) Q has refl
      (ap (λ o. push stack (answers (there o) (state sh ms))) is ∙ ap (λ st. gives (Onward st) (state sh ms)) (pushed_is v stack cell)) c

  pub by_store : (x : Running) (place i : ℕ) (u v : Val) (stack ms : List Val) (sh : Shared) (Q : Point → Type 0) → instruction_at w.image x.method place ≡ Some (op.Store i) →
      slice_get ms i ≡ Some u → Comes w (point x (place + 2) (slice_set ms i v) stack sh) Q → Comes w (point x place ms (v ∷ stack) sh) Q
  by_store x place i u v stack ms sh Q has is c =
      by_op_to x place (place + 2) (op.Store i) (v ∷ stack) ms sh (gives (Onward stack) (state sh (slice_set ms i v))) Q has refl
      (ap (λ o. no_push stack (then_do (answers (map_ok (λ _. slice_set ms i v) (there o)) (state sh ms)) (λ locals s1. gives v (record { shared = s1.shared; locals = locals })))) is) c

  -- ---- what is followed

  module _ (G : State → Type 0) where
    -- from each state of a sort with which the machine agrees, the code at a place comes to where the step ends
    pub record Sim (x : Running) (n : ℕ) (A : Type 0) (f : State → End A) (place : ℕ) (stack : List Val) (Q : A → State → Point → Type 0) : Type 0 where
      pub comes : (s : State) (ms : List Val) → G s → Agree x s.locals ms → s.shared.turns ≤ n → Comes w (point x place ms stack s.shared) (Ends Q (f s).result (f s).state)

    pub from_stands : {x : Running} {n : ℕ} {A : Type 0} {f : State → End A} {place : ℕ} {stack : List Val} {Q : A → State → Point → Type 0} → Sim x n A f place stack Q → (s : State) (q : Point) → G s → Stands x n place stack s q → Comes w q (Ends Q (f s).result (f s).state)
    from_stands {x} {n} {A} {f} {place} {stack} {Q} sim s q g r =
        subst (λ q. Comes w q (Ends Q (f s).result (f s).state)) (sym r.is) (sim.comes s r.locals g r.agree r.turns)

    afters : {A B : Type 0} (P : A → Type 0) (Q : A → State → Point → Type 0) (R : B → State → Point → Type 0) (h : A → State → End B) →
        ((v : A) → P v → (s : State) (q : Point) → G s → Q v s q → Comes w q (Ends R (h v s).result (h v s).state)) →
        (r : Result A Stop) (t : State) (q : Point) → G t → Sound P r → Ends Q r t q → Comes w q (Ends R (after r t h).result (after r t h).state)
    afters P Q R h rest (Ok v) t q g p e = rest v p t q g e
    afters P Q R h rest (Err (Traps trap)) t q g p e = here e
    afters P Q R h rest (Err Untyped) t q g p e = here tt

    -- what follows a value of which P and Q hold
    pub record Goes (A B : Type 0) (P : A → Type 0) (Q : A → State → Point → Type 0) (h : A → State → End B) (R : B → State → Point → Type 0) : Type 0 where
      pub each : (v : A) → P v → (s : State) (q : Point) → G s → Q v s q → Comes w q (Ends R (h v s).result (h v s).state)

    pub then_sim : {x : Running} {n : ℕ} {A B : Type 0} {P : A → Type 0} {f : State → End A} {h : A → State → End B} {place : ℕ} {stack : List Val} {Q : A → State → Point → Type 0} {R : B → State → Point → Type 0} →
        Sim x n A f place stack Q → Holds G A P f → Goes A B P Q h R → Sim x n B (λ s. then_do (f s) h) place stack R
    then_sim {P = P} {f = f} {h = h} {Q = Q} {R = R} sim holds rest = record {
      comes = λ s ms g a t.
          let one = holds.holds s g in
          go_on (sim.comes s ms g a t) (λ q e. afters P Q R h rest.each (f s).result (f s).state q one.0 one.1 e);
    }

    -- a value, and what is done with it
    pub val_then : {x : Running} {n : ℕ} {B : Type 0} {P : Val → Type 0} {f : State → End Val} {h : Val → State → End B} {k : Kind} {place next : ℕ} {stack base : List Val} {R : B → State → Point → Type 0} →
        Sim x n Val f place stack (Pushed x n k next base) → Holds G Val P f →
        ((v : Val) → P v → (k ≡ kind.Void → v ≡ Nothing) → Sim x n B (h v) next (pushed v base) R) → Sim x n B (λ s. then_do (f s) h) place stack R
    val_then first holds rest =
        then_sim first holds (record { each = λ v p s q g e. from_stands (rest v p e.void) s q g e.stands })

    -- a value that has a cell
    pub cell_then : {x : Running} {n : ℕ} {B : Type 0} {P : Val → Type 0} {f : State → End Val} {h : Val → State → End B} {k : Kind} {place next : ℕ} {stack base : List Val} {R : B → State → Point → Type 0} →
        Sim x n Val f place stack (Pushed x n k next base) → Holds G Val P f → ((v : Val) → P v → IsCell v) →
        ((v : Val) → P v → Sim x n B (h v) next (v ∷ base) R) → Sim x n B (λ s. then_do (f s) h) place stack R
    cell_then {x} {n} {B} {h = h} {next = next} {base = base} {R = R} first holds cells rest =
        val_then first holds (λ v p void. subst (λ st. Sim x n B (h v) next st R) (sym (pushed_is v base (cells v p))) (rest v p))

    -- what the machine does after a value
    extends : {A : Type 0} (Q R : A → State → Point → Type 0) → ((v : A) (s : State) (q : Point) → Q v s q → Comes w q (R v s)) → (r : Result A Stop) (s : State) (q : Point) → Ends Q r s q → Comes w q (Ends R r s)
    extends Q R rest (Ok v) s q e = rest v s q e
    extends Q R rest (Err (Traps trap)) s q e = here e
    extends Q R rest (Err Untyped) s q e = here tt

    pub extend : {x : Running} {n : ℕ} {A : Type 0} {f : State → End A} {place : ℕ} {stack : List Val} {Q R : A → State → Point → Type 0} →
        Sim x n A f place stack Q → ((v : A) (s : State) (q : Point) → Q v s q → Comes w q (R v s)) → Sim x n A f place stack R
    extend {f = f} {Q = Q} {R = R} sim rest = record { comes = λ s ms g a t. go_on (sim.comes s ms g a t) (λ q e. extends Q R rest (f s).result (f s).state q e) }

    extends_held : {A : Type 0} (P : A → Type 0) (Q R : A → State → Point → Type 0) → ((v : A) → P v → (s : State) (q : Point) → G s → Q v s q → Comes w q (R v s)) → (r : Result A Stop) (s : State) (q : Point) → G s → Sound P r → Ends Q r s q → Comes w q (Ends R r s)
    extends_held P Q R rest (Ok v) s q g p e = rest v p s q g e
    extends_held P Q R rest (Err (Traps trap)) s q g p e = here e
    extends_held P Q R rest (Err Untyped) s q g p e = here tt

    -- and with what is known of the value
    pub extend_held : {x : Running} {n : ℕ} {A : Type 0} {P : A → Type 0} {f : State → End A} {place : ℕ} {stack : List Val} {Q R : A → State → Point → Type 0} →
        Sim x n A f place stack Q → Holds G A P f → ((v : A) → P v → (s : State) (q : Point) → G s → Q v s q → Comes w q (R v s)) → Sim x n A f place stack R
    extend_held {P = P} {f = f} {Q = Q} {R = R} sim holds rest = record {
      comes = λ s ms g a t. let one = holds.holds s g in go_on (sim.comes s ms g a t) (λ q e. extends_held P Q R rest (f s).result (f s).state q one.0 one.1 e);
    }

    -- a step that does the same, read otherwise
    pub same_sim : {x : Running} {n : ℕ} {A : Type 0} {f g : State → End A} {place : ℕ} {stack : List Val} {Q : A → State → Point → Type 0} →
        ((s : State) → f s ≡ g s) → Sim x n A f place stack Q → Sim x n A g place stack Q
    same_sim {x} {n} {A} {f} {g} {place} {stack} {Q} same sim = record {
      comes = λ s ms gs a t. subst (λ (e : End A). Comes w (point x place ms stack s.shared) (Ends Q e.result e.state)) (same s) (sim.comes s ms gs a t);
    }

    pub to_place : {x : Running} {n : ℕ} {k : Kind} {f : State → End Val} {place next : ℕ} {stack rest : List Val} (last : ℕ) → next ≡ last → Sim x n Val f place stack (Pushed x n k next rest) → Sim x n Val f place stack (Pushed x n k last rest)
    to_place {x} {n} {k} {f} {place} {next} {stack} {rest} last e sim = subst (λ p. Sim x n Val f place stack (Pushed x n k p rest)) e sim

    -- an answer that needs no instruction
    pub none_sim : {x : Running} {n : ℕ} {A : Type 0} {f : State → End A} {place : ℕ} {stack : List Val} {Q : A → State → Point → Type 0} →
        ((s : State) (q : Point) → Stands x n place stack s q → Ends Q (f s).result (f s).state q) → Sim x n A f place stack Q
    none_sim all = record { comes = λ s ms g a t. here (all s _ (record { locals = ms; agree = a; turns = t; is = refl })) }

    -- ---- instructions whose effect is a step apart from the locals

    ends_pushed : (x : Running) (n : ℕ) (k : Kind) (place next : ℕ) (st rest ms : List Val) (s : State) → Agree x s.locals ms → IsSolid k →
        (r : Result Val Stop) (t : State) → t.locals ≡ s.locals → t.shared.turns ≤ n →
        (let e = push rest (record { result = r; state = state t.shared ms }) in Ends (Pushed x n k next rest) r t (moves (frame x place ms st) x.below next e.result e.state))
    ends_pushed x n k place next st rest ms s a solid (Ok v) t stay le = record {
      void = not_void k v solid;
      stands = record { locals = ms; agree = subst (λ vs. Agree x vs ms) (sym stay) a; turns = le; is = refl };
    }
    ends_pushed x n k place next st rest ms s a solid (Err (Traps trap)) t stay le = refl
    ends_pushed x n k place next st rest ms s a solid (Err Untyped) t stay le = tt

    -- its value goes on the stack
    pub push_sim : (x : Running) (n : ℕ) (k : Kind) (f : State → End Val) (place next : ℕ) (i : Op) (st rest : List Val) → instruction_at w.image x.method place ≡ Some i → place + size_of i ≡ next →
        IsSolid k → Apart Val f → ((s : State) → effect w i st s ≡ push rest (f s)) → Sim x n Val f place st (Pushed x n k next rest)
    push_sim x n k f place next i st rest has size solid apart is = record {
      comes = λ s ms g a t.
          let e = f s in
          by_op_to x place next i st ms s.shared (push rest (with_locals ms e)) _ has size
          (is (state s.shared ms) ∙ ap (push rest) (apart.alike s.shared s.locals ms))
          (here (ends_pushed x n k place next st rest ms s a solid e.result e.state (stays apart s) (let one = apart.turns s in omega (arith, one, t))));
    }

    ends_stored : (x : Running) (n : ℕ) (place next : ℕ) (st rest ms : List Val) (s : State) → Agree x s.locals ms →
        (r : Result Val Stop) (t : State) → t.locals ≡ s.locals → t.shared.turns ≤ n →
        (let e = no_push rest (record { result = r; state = state t.shared ms }) in Ends (λ v s q. Stands x n next rest s q) r t (moves (frame x place ms st) x.below next e.result e.state))
    ends_stored x n place next st rest ms s a (Ok v) t stay le = record { locals = ms; agree = subst (λ vs. Agree x vs ms) (sym stay) a; turns = le; is = refl }
    ends_stored x n place next st rest ms s a (Err (Traps trap)) t stay le = refl
    ends_stored x n place next st rest ms s a (Err Untyped) t stay le = tt

    -- its value is not wanted
    pub end_store_sim : (x : Running) (n : ℕ) (f : State → End Val) (place next : ℕ) (i : Op) (st rest : List Val) → instruction_at w.image x.method place ≡ Some i → place + size_of i ≡ next →
        Apart Val f → ((s : State) → effect w i st s ≡ no_push rest (f s)) → Sim x n Val f place st (λ v s q. Stands x n next rest s q)
    end_store_sim x n f place next i st rest has size apart is = record {
      comes = λ s ms g a t.
          let e = f s in
          by_op_to x place next i st ms s.shared (no_push rest (with_locals ms e)) _ has size
          (is (state s.shared ms) ∙ ap (no_push rest) (apart.alike s.shared s.locals ms))
          (here (ends_stored x n place next st rest ms s a e.result e.state (stays apart s) (let one = apart.turns s in omega (arith, one, t))));
    }
