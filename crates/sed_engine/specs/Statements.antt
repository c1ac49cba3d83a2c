-- What statements mean.
use Rattle.std.specs.Prelude.{ℕ, zero, suc, ℤ, Bool, true, false, List, [], ◌∷◌, length, drop, position, Option, Some}
use Rattle.std.specs.Prelude.{None, Err}
use Rattle.std.specs.Option.{option_map_or}
use Rattle.std.specs.Ordering.{int_eq}
use Rattle.sed_typed.specs.declared.operators.Width.TheVariants as width
use Rattle.sed_typed.specs.declared.tree.Expr.{Expr}
use Rattle.sed_typed.specs.declared.statement.Label.{Label}
use Rattle.sed_typed.specs.declared.statement.Label.TheVariants.{Case, Default}
use Rattle.sed_typed.specs.declared.statement.Stmt.{Stmt, Row_of-Stmt, end_of-Stmt, more_of-Stmt}
use Rattle.sed_typed.specs.declared.statement.Stmt.TheVariants as stmt
use Rattle.sed_typed.specs.TypedStmt.{is_default}
use Rattle.sed_engine.specs.declared.trap.Trap.TheVariants.{TurnsSpent}
use Rattle.sed_engine.specs.Stops.{Traps}
use Rattle.sed_engine.specs.Values.{Val, Nothing, whole, truth, zero_of}
use Rattle.sed_engine.specs.State.{State, End, gives, answers, then_do}
use Rattle.sed_engine.specs.Steps.{choose, write_local, take_turn}
use Rattle.sed_engine.specs.Expressions.{Setting, eval}

-- how a statement ends
pub data Flow : Type 0 where
  Next : Flow
  Break : Flow
  Continue : Flow
  Return : Val → Flow

-- where a statement ends normally the next follows
abbrev pub follows : Flow → (State → End Flow) → State → End Flow
follows Next next s = next s
follows Break next s = gives Break s
follows Continue next s = gives Continue s
follows (Return v) next s = gives (Return v) s

abbrev pub in_order : List (State → End Flow) → State → End Flow
in_order [] s = gives Next s
in_order (x ∷ xs) s = then_do (x s) (λ flow s1. follows flow (in_order xs) s1)

-- whether a loop goes on after a round
pub data Round : Type 0 where
  Again : Round
  Over : Round
  Answer : Val → Round

-- after a body that ended normally or by `continue` comes what is left of the round
abbrev pub after_body : Flow → (State → End Round) → State → End Round
after_body Next rest s = rest s
after_body Continue rest s = rest s
after_body Break rest s = gives Over s
after_body (Return v) rest s = gives (Answer v) s

-- the condition, and where it is met a turn, the body, and the last part
abbrev pub round : (State → End Val) → (State → End Flow) → (State → End Val) → State → End Round
round test body last s = then_do (test s) (λ v s1. choose v
    (λ s2. then_do (take_turn s2) (λ _ s3.
    then_do (body s3) (λ flow s4. after_body flow (λ s5. then_do (last s5) (λ _ s6. gives Again s6)) s4)))
    (gives Over) s1)

-- a turn and the body, and then the condition
abbrev pub do_round : (State → End Flow) → (State → End Val) → State → End Round
do_round body test s =
    then_do (take_turn s) (λ _ s1.
    then_do (body s1) (λ flow s2.
    after_body flow (λ s3. then_do (test s3) (λ v s4. choose v (gives Again) (gives Over) s4)) s2))

abbrev pub after_round : Round → (State → End Flow) → State → End Flow
after_round Again next s = next s
after_round Over next s = gives Next s
after_round (Answer v) next s = gives (Return v) s

-- rounds, of which fewer than n go on
unfoldable pub loop : (State → End Round) → ℕ → State → End Flow
loop one zero s = answers (Err (Traps TurnsSpent)) s
loop one (suc n) s = then_do (one s) (λ r s1. after_round r (loop one n) s1)

-- rounds until one ends the loop: each that goes on takes a turn, so at most as many go on as turns are left
abbrev pub rounds : (State → End Round) → State → End Flow
rounds one s = loop one (suc s.shared.turns) s

abbrev pub is_case : ℤ → Label → Bool
is_case n (Case c) = int_eq c n
is_case n Default = false

-- the place of the label of a value, else that of `default`, else past all
abbrev pub label_of : List Label → ℤ → ℕ
label_of labels n = option_map_or (λ i. i) (position (is_case n) labels)
    (option_map_or (λ i. i) (position is_default labels) (length labels))

-- a break leaves the switch
abbrev pub leaves : Flow → Flow
leaves Next = Next
leaves Break = Next
leaves Continue = Continue
leaves (Return v) = Return v

-- from the label on: each falls through to the next
abbrev pub switch : (State → End Val) → List Label → List (State → End Flow) → State → End Flow
switch value labels all s =
    then_do (value s) (λ v s1. then_do (answers (whole width.Int v) s1)
    (λ n s2. then_do (in_order (drop (label_of labels n) all) s2) (λ flow s3. gives (leaves flow) s3)))

-- an expression that may be missing, with what stands for it
abbrev pub eval_or : Setting → Val → Option Expr → State → End Val
eval_or w v None s = gives v s
eval_or w v (Some e) s = eval w e s

abbrev mutual
  pub exec : Setting → Stmt → State → End Flow
  exec w stmt.Empty s = gives Next s
  exec w (stmt.Do e) s = then_do (eval w e s) (λ v s1. gives Next s1)
  exec w (stmt.Local kind i e) s =
      then_do (eval_or w (zero_of kind) e s) (λ v s1. then_do (write_local i v s1) (λ _ s2. gives Next s2))
  exec w (stmt.Block' shape all) s = in_order (execs w all) s
  exec w (stmt.If' c p a q b) s = then_do (eval w c s) (λ v s1. choose v (exec w a) (exec w b) s1)
  exec w (stmt.While' c p body) s = rounds (round (eval w c) (exec w body) (gives Nothing)) s
  exec w (stmt.DoWhile' p body c) s = rounds (do_round (exec w body) (eval w c)) s
  exec w (stmt.For' p first c last q body) s =
      then_do (exec w first s) (λ flow s1.
      follows flow (rounds (round (eval_or w (truth true) c) (exec w body) (eval_or w Nothing last))) s1)
  exec w (stmt.Switch' e labels shape all) s = switch (eval w e) labels.items (execs w all) s
  exec w stmt.Break s = gives Break s
  exec w stmt.Continue s = gives Continue s
  exec w (stmt.Return e) s = then_do (eval_or w Nothing e s) (λ v s1. gives (Return v) s1)

  pub execs : {n : _} → Setting → Row_of-Stmt n → List (State → End Flow)
  execs w end_of-Stmt = []
  execs w (more_of-Stmt x xs) = exec w x ∷ execs w xs
