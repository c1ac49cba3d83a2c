-- With more turns a run that did not spend them ends the same, with as many more left.
use Rattle.std.proofs.Common.{◌≡◌, ℕ, zero, suc, ◌+◌, ◌-◌, ◌==◌, Bool, true, false, if◌then◌else◌, List, Option, Some, None, Result, Ok, Err, slice_get, refl, sym, ap, ◌∙◌, subst, arith}
use Rattle.sed_value.specs.declared.value.Value.{Value}
use Rattle.sed_typed.specs.declared.kind.Kind.{Kind}
use Rattle.sed_typed.specs.declared.statement.Stmt.{Stmt}
use Rattle.sed_typed.specs.declared.program.Method.{Method}
use Rattle.sed_typed.specs.declared.program.Program.{Program}
use Rattle.sed_typed.specs.Contents.{Contents, Path, value_at}
use Rattle.sed_engine.specs.declared.trap.Trap.TheVariants.{ZeroDivisor, NullReference, OutOfRange, TurnsSpent, TooDeep}
use Rattle.sed_engine.specs.Stops.{Stop, Traps, Untyped, there}
use Rattle.sed_engine.specs.Values.{Val, Base, Component, Statics, Spot, is_alike}
use Rattle.sed_engine.specs.State.{Shared, State, End, gives, answers, after, then_do}
use Rattle.sed_engine.specs.Steps.{contents_of, load, replace, store, written_at, turn_of, take_turn}
use Rattle.sed_engine.specs.Expressions.{Setting, Called, Calls, back}
use Rattle.sed_engine.specs.Statements.{Flow, Round, Again, Over, Answer, after_round, loop, rounds, exec}
use Rattle.sed_engine.specs.Root.{called, answered, run_body, run_method, calls_with}
use Rattle.sed_engine.proofs.Related.{Closed, of_stmt}

-- the same with k turns more
abbrev pub more_shared : ℕ → Shared → Shared
more_shared k s = record { contents = s.contents; statics = s.statics; turns = s.turns + k; moment = s.moment }

abbrev pub more : ℕ → State → State
more k s = record { shared = more_shared k s.shared; locals = s.locals }

abbrev pub more_end : {A : Type 0} → ℕ → End A → End A
more_end k e = record { result = e.result; state = more k e.state }

-- the turns were not spent
abbrev pub Unspent : {A : Type 0} → Result A Stop → Type 0
Unspent (Ok v) = Unit {0}
Unspent (Err (Traps ZeroDivisor)) = Unit {0}
Unspent (Err (Traps NullReference)) = Unit {0}
Unspent (Err (Traps OutOfRange)) = Unit {0}
Unspent (Err (Traps TurnsSpent)) = ⊥
Unspent (Err (Traps TooDeep)) = Unit {0}
Unspent (Err Untyped) = Unit {0}

-- of two steps, the second with k turns more
pub record Alike (k : ℕ) (A : Type 0) (f g : State → End A) : Type 0 where
  pub ends : (s : State) → Unspent (f s).result → g (more k s) ≡ more_end k (f s)

pub record Same (k : ℕ) (A : Type 0) (f : State → End A) : Type 0 where
  pub ends : (s : State) → Unspent (f s).result → f (more k s) ≡ more_end k (f s)

front : {A B : Type 0} (r : Result A Stop) (t : State) (h : A → State → End B) → Unspent (after r t h).result → Unspent r
front (Ok v) t h u = tt
front (Err (Traps ZeroDivisor)) t h u = tt
front (Err (Traps NullReference)) t h u = tt
front (Err (Traps OutOfRange)) t h u = tt
front (Err (Traps TurnsSpent)) t h u = u
front (Err (Traps TooDeep)) t h u = tt
front (Err Untyped) t h u = tt

step : {A B : Type 0} (k : ℕ) (r : Result A Stop) (t : State) (h h' : A → State → End B) → ((a : A) → Alike k B (h a) (h' a)) → Unspent (after r t h).result →
    after r (more k t) h' ≡ more_end k (after r t h)
step k (Ok v) t h h' same u = (same v).ends t u
step k (Err x) t h h' same u = refl

then_alike : {A B : Type 0} {k : ℕ} {f g : State → End A} {h h' : A → State → End B} → Alike k A f g → ((a : A) → Alike k B (h a) (h' a)) →
    Alike k B (λ s. then_do (f s) h) (λ s. then_do (g s) h')
then_alike {A} {B} {k} {f} {g} {h} {h'} first rest = record {
  ends = λ s u. ap (λ (e : End A). then_do e h') (first.ends s (front (f s).result (f s).state h u)) ∙ step k (f s).result (f s).state h h' rest u;
}

alike : {A : Type 0} {k : ℕ} {f : State → End A} → Same k A f → Alike k A f f
alike same = record { ends = same.ends }

same_of : {A : Type 0} {k : ℕ} {f : State → End A} → Alike k A f f → Same k A f
same_of both = record { ends = both.ends }

then_same : {A B : Type 0} {k : ℕ} {f : State → End A} {h : A → State → End B} → Same k A f → ((a : A) → Same k B (h a)) → Same k B (λ s. then_do (f s) h)
then_same first rest = same_of (then_alike (alike first) (λ a. alike (rest a)))

contents_more : (base : Base) (k : ℕ) (s : Shared) → contents_of base (more_shared k s) ≡ contents_of base s
contents_more Component k s = refl
contents_more Statics k s = refl

load_same : (spot : Spot) (k : ℕ) → Same k Value (load spot)
load_same spot k = record { ends = λ s u. ap (λ (m : Contents). answers (there (value_at m spot.path)) (more k s)) (contents_more spot.base k s.shared) }

written_more : (base : Base) (path : Path) (v : Value) (k : ℕ) (s : Shared) → written_at base path v (more_shared k s) ≡ more_shared k (written_at base path v s)
written_more Component path v k s = refl
written_more Statics path v k s = refl

write_same : (b : Bool) (spot : Spot) (new : Value) (k : ℕ) →
    Same k (Unit {0}) (if b then replace spot new else answers (Err Untyped))
write_same true spot new k = record {
  ends = λ s u. ap (λ (t : Shared). gives tt (record { shared = t; locals = s.locals })) (written_more spot.base spot.path new k s.shared);
}
write_same false spot new k = record { ends = λ s u. refl }

store_same : (spot : Spot) (new : Value) (k : ℕ) → Same k (Unit {0}) (store spot new)
store_same spot new k = then_same (load_same spot k) (λ old. write_same (is_alike old new) spot new k)

turn_more : (contents statics : Contents) (moment : _) (n k : ℕ) (locals : List Val) → Unspent (turn_of n) →
    (let s : State = record { shared = record { contents = contents; statics = statics; turns = n; moment = moment }; locals = locals } in take_turn (more k s) ≡ more_end k (take_turn s))
turn_more contents statics moment zero k locals u = absurd u
turn_more contents statics moment (suc n) k locals u =
    let some : (suc n + k == 0) ≡ false = grind arith in
    let here : (suc n == 0) ≡ false = grind arith in
    let less : suc n + k - 1 ≡ suc n - 1 + k = omega arith in
    let R : Bool → ℕ → End (Unit {0}) = λ b m. record { result = if b then Err (Traps TurnsSpent) else Ok tt; state = record { shared = record { contents = contents; statics = statics; turns = m; moment = moment }; locals = locals } } in
    ap (λ (b : Bool). R b (suc n + k - 1)) some ∙ ap (R false) less ∙ ap (λ (b : Bool). R b (suc n - 1 + k)) (sym here)

pub record CallsSame (k : ℕ) (c : Calls) : Type 0 where
  pub ends : (m : ℕ) (frame : List Val) (s : Shared) → Unspent (c m frame s).result →
      c m frame (more_shared k s) ≡ record { result = (c m frame s).result; shared = more_shared k (c m frame s).shared }

after_alike : {k : ℕ} (r : Round) (f g : State → End Flow) → Alike k Flow f g → Alike k Flow (after_round r f) (after_round r g)
after_alike Again f g both = both
after_alike Over f g both = record { ends = λ s u. refl }
after_alike (Answer v) f g both = record { ends = λ s u. refl }

-- with k more rounds allowed and k more turns
loop_alike : {k : ℕ} {one : State → End Round} → Same k Round one → (n : ℕ) → Alike k Flow (loop one n) (loop one (n + k))
unfolding loop
loop_alike same zero = record { ends = λ s u. absurd u }
loop_alike {k} {one} same (suc n) =
    let e : suc (n + k) ≡ suc n + k = omega arith in
    subst (λ (m : ℕ). Alike k Flow (loop one (suc n)) (loop one m)) e
    (then_alike (alike same) (λ r. after_alike r (loop one n) (loop one (n + k)) (loop_alike same n)))

rounds_same : {k : ℕ} {one : State → End Round} → Same k Round one → Same k Flow (rounds one)
rounds_same {k} {one} same = record {
  ends = λ s u. let e : suc (s.shared.turns + k) ≡ suc s.shared.turns + k = omega arith in
      ap (λ (n : ℕ). loop one n (more k s)) e ∙ (loop_alike same (suc s.shared.turns)).ends s u;
}

closed : (k : ℕ) (w : Setting) → CallsSame k w.calls → Closed (Same k) w
closed k w calls = record {
  follow = then_same;
  answer = λ r. record { ends = λ s u. refl };
  of_locals = λ f. record { ends = λ s u. refl };
  of_new_locals = λ v locals. record { ends = λ s u. refl };
  of_load = λ spot. load_same spot k;
  of_store = λ spot new. store_same spot new k;
  of_moment = record { ends = λ s u. refl };
  of_turn = record { ends = λ s u. turn_more s.shared.contents s.shared.statics s.shared.moment s.shared.turns k s.locals u };
  of_calls = λ m frame. record { ends = λ s u. ap (λ (c : Called). back c s.locals) (calls.ends m frame s.shared u) };
  of_rounds = rounds_same;
}

answered_unspent : (kind : Kind) (r : Result Flow Stop) → Unspent (answered kind r) → Unspent r
answered_unspent kind (Ok v) u = tt
answered_unspent kind (Err (Traps ZeroDivisor)) u = tt
answered_unspent kind (Err (Traps NullReference)) u = tt
answered_unspent kind (Err (Traps OutOfRange)) u = tt
answered_unspent kind (Err (Traps TurnsSpent)) u = u
answered_unspent kind (Err (Traps TooDeep)) u = tt
answered_unspent kind (Err Untyped) u = tt

body_same : (k : ℕ) (w : Setting) → CallsSame k w.calls → (kind : Kind) (body : Option Stmt) (frame : List Val) (s : Shared) → Unspent (run_body w kind body frame s).result →
    run_body w kind body frame (more_shared k s) ≡ record { result = (run_body w kind body frame s).result; shared = more_shared k (run_body w kind body frame s).shared }
body_same k w calls kind None frame s u = refl
body_same k w calls kind (Some x) frame s u =
    let st : State = record { shared = s; locals = frame } in
    ap (called kind) ((of_stmt (Same k) w (closed k w calls) x).ends st (answered_unspent kind (exec w x st).result u))

method_same : (k : ℕ) (w : Setting) → CallsSame k w.calls → (m : Option Method) (frame : List Val) (s : Shared) → Unspent (run_method w m frame s).result →
    run_method w m frame (more_shared k s) ≡ record { result = (run_method w m frame s).result; shared = more_shared k (run_method w m frame s).shared }
method_same k w calls None frame s u = refl
method_same k w calls (Some m) frame s u = body_same k w calls m.result m.body frame s u

-- a call that did not spend its turns ends the same with k more, and leaves k more
pub calls_same : (k : ℕ) (program : Program) (class frames : ℕ) → CallsSame k (calls_with program class frames)
unfolding calls_with
calls_same k program class zero = record { ends = λ m frame s u. refl }
calls_same k program class (suc n) = record {
  ends = λ m frame s u. method_same k (record { program = program; class = class; calls = calls_with program class n }) (calls_same k program class n) (slice_get program.methods m) frame s u;
}
