-- What every run keeps: turns do not grow, and no path comes or goes.
use Rattle.std.proofs.Common.{◌≡◌, ◌≤◌, ℕ, zero, suc, Bool, true, false, if◌then◌else◌, List, [], ◌∷◌, map, Option, Some, None, Result, Ok, Err, slice_get, refl, ap, ◌∙◌, arith}
use Rattle.sed_value.specs.declared.value.Value.{Value}
use Rattle.sed_typed.specs.declared.kind.Kind.{Kind}
use Rattle.sed_typed.specs.declared.statement.Stmt.{Stmt}
use Rattle.sed_typed.specs.declared.program.Method.{Method}
use Rattle.sed_typed.specs.declared.program.Program.{Program}
use Rattle.sed_typed.specs.Contents.{Contents, Path, changed_at, value_at}
use Rattle.sed_engine.specs.Stops.{Stop, Untyped, there}
use Rattle.sed_engine.specs.Values.{Val, Base, Component, Statics, Spot, is_alike}
use Rattle.sed_engine.specs.State.{Shared, State, End, answers, after, then_do}
use Rattle.sed_engine.specs.Steps.{contents_of, replace, store_over, written_at}
use Rattle.sed_engine.specs.Expressions.{Setting, Calls}
use Rattle.sed_engine.specs.Statements.{Flow, Round, Again, Over, Answer, after_round, loop}
use Rattle.sed_engine.specs.Root.{run_body, run_method, calls_with}
use Rattle.sed_engine.proofs.Related.{Closed, of_stmt}

abbrev pub paths : Contents → List Path
paths m = map (λ e. e.0) m

pub record Within (s t : Shared) : Type 0 where
  pub turns : t.turns ≤ s.turns
  pub contents : paths t.contents ≡ paths s.contents
  pub statics : paths t.statics ≡ paths s.statics

pub within_self : (s : Shared) → Within s s
within_self s = record { turns = omega arith; contents = refl; statics = refl }

pub within_then : (s t u : Shared) → Within s t → Within t u → Within s u
within_then s t u a b = record { turns = omega (arith, a.turns, b.turns); contents = b.contents ∙ a.contents; statics = b.statics ∙ a.statics }

pub record Keeps (A : Type 0) (f : State → End A) : Type 0 where
  pub keeps : (s : State) → Within s.shared (f s).state.shared

after_keeps : {A B : Type 0} (r : Result A Stop) (s : Shared) (t : State) (h : A → State → End B) → ((a : A) → Keeps B (h a)) → Within s t.shared → Within s (after r t h).state.shared
after_keeps (Ok v) s t h each w = within_then s t.shared (h v t).state.shared w ((each v).keeps t)
after_keeps (Err x) s t h each w = w

then_keeps : {A B : Type 0} {f : State → End A} {h : A → State → End B} → Keeps A f → ((a : A) → Keeps B (h a)) → Keeps B (λ s. then_do (f s) h)
then_keeps {A} {B} {f} {h} first rest = record { keeps = λ s. after_keeps (f s).result s.shared (f s).state h rest (first.keeps s) }

pub paths-changed_at : (m : Contents) (path : Path) (change : Value → Value) → paths (changed_at m path change) ≡ paths m
paths-changed_at [] path change = refl
paths-changed_at (e ∷ es) path change = ap (λ (rest : List Path). e.0 ∷ rest) (paths-changed_at es path change)

pub written_within : (base : Base) (path : Path) (v : Value) (s : Shared) → Within s (written_at base path v s)
written_within Component path v s = record { turns = omega arith; contents = paths-changed_at s.contents path (λ _. v); statics = refl }
written_within Statics path v s = record { turns = omega arith; contents = refl; statics = paths-changed_at s.statics path (λ _. v) }

chosen : (b : Bool) (spot : Spot) (new : Value) (s : State) → Within s.shared ((if b then replace spot new else answers (Err Untyped)) s).state.shared
chosen true spot new s = written_within spot.base spot.path new s.shared
chosen false spot new s = within_self s.shared

stored_within : (old : Option Value) (spot : Spot) (new : Value) (s : State) →
    Within s.shared (then_do (answers (there old) s) (λ o s1. store_over spot new o s1)).state.shared
stored_within None spot new s = within_self s.shared
stored_within (Some old) spot new s = chosen (is_alike old new) spot new s

pub record CallsKeep (c : Calls) : Type 0 where
  pub keeps : (m : ℕ) (frame : List Val) (s : Shared) → Within s (c m frame s).shared

round_keeps : (r : Round) (f : State → End Flow) → Keeps Flow f → Keeps Flow (after_round r f)
round_keeps Again f one = one
round_keeps Over f one = record { keeps = λ s. within_self s.shared }
round_keeps (Answer v) f one = record { keeps = λ s. within_self s.shared }

loop_keeps : {one : State → End Round} → Keeps Round one → (n : ℕ) → Keeps Flow (loop one n)
unfolding loop
loop_keeps one zero = record { keeps = λ s. within_self s.shared }
loop_keeps {one = f} one (suc n) = then_keeps one (λ r. round_keeps r (loop f n) (loop_keeps one n))

closed : (w : Setting) → CallsKeep w.calls → Closed Keeps w
closed w calls = record {
  follow = then_keeps;
  answer = λ r. record { keeps = λ s. within_self s.shared };
  of_locals = λ f. record { keeps = λ s. within_self s.shared };
  of_new_locals = λ v locals. record { keeps = λ s. within_self s.shared };
  of_load = λ spot. record { keeps = λ s. within_self s.shared };
  of_store = λ spot new. record { keeps = λ s. stored_within (value_at (contents_of spot.base s.shared) spot.path) spot new s };
  of_moment = record { keeps = λ s. within_self s.shared };
  of_turn = record { keeps = λ s. record { turns = omega arith; contents = refl; statics = refl } };
  of_calls = λ m frame. record { keeps = λ s. calls.keeps m frame s.shared };
  of_rounds = λ one. record { keeps = λ s. (loop_keeps one (suc s.shared.turns)).keeps s };
}

body_keeps : (w : Setting) → CallsKeep w.calls → (kind : Kind) (body : Option Stmt) (frame : List Val) (s : Shared) → Within s (run_body w kind body frame s).shared
body_keeps w calls kind None frame s = within_self s
body_keeps w calls kind (Some x) frame s = (of_stmt Keeps w (closed w calls) x).keeps (record { shared = s; locals = frame })

method_keeps : (w : Setting) → CallsKeep w.calls → (m : Option Method) (frame : List Val) (s : Shared) → Within s (run_method w m frame s).shared
method_keeps w calls None frame s = within_self s
method_keeps w calls (Some m) frame s = body_keeps w calls m.result m.body frame s

-- calls leave no more turns than they were given, and keep every path
pub calls_keep : (program : Program) (class frames : ℕ) → CallsKeep (calls_with program class frames)
unfolding calls_with
calls_keep program class zero = record { keeps = λ m frame s. within_self s }
calls_keep program class (suc n) = record {
  keeps = λ m frame s. method_keeps (record { program = program; class = class; calls = calls_with program class n }) (calls_keep program class n) (slice_get program.methods m) frame s;
}
