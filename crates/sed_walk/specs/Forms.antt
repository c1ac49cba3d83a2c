-- Forms of expressions and of loops with their parts evaluated by a function of their own.
use Rattle.std.specs.Prelude.{ℕ, true, List, replicate}
use Rattle.sed_value.specs.declared.slot_type.Primitive.{Primitive}
use Rattle.sed_typed.specs.declared.kind.Kind.{Kind}
use Rattle.sed_typed.specs.declared.operators.TextCall.{TextCall}
use Rattle.sed_typed.specs.declared.operators.Unary.{Unary}
use Rattle.sed_typed.specs.declared.operators.Update.{Update}
use Rattle.sed_typed.specs.declared.statement.Stmt.{Stmt}
use Rattle.sed_typed.specs.declared.statement.Stmt.TheVariants as stmt
use Rattle.sed_typed.specs.declared.tree.Expr.{Expr}
use Rattle.sed_typed.specs.declared.tree.Place.{Place}
use Rattle.sed_engine.specs.Values.{Val, Nothing, truth}
use Rattle.sed_engine.specs.Operators.{arithmetic_of, given, unary_of}
use Rattle.sed_engine.specs.State.{State, End, gives, answers, then_do}
use Rattle.sed_engine.specs.Steps.{choose, take_turn, read_local, read_spot, write_local}
use Rattle.sed_engine.specs.Places.{Target, OfLocal, OfField, fetch, put, static_spot, element_spot}
use Rattle.sed_engine.specs.Expressions.{Setting, eval, locate, in_chain, put_all, call, text_call}
use Rattle.sed_engine.specs.Statements.{Flow, Round, Again, Over, after_body, eval_or}

-- an operator of one operand
abbrev pub unary_with : Setting → Unary → Expr → State → End Val
unary_with w op e s = then_do (eval w e s) (λ v s1. answers (unary_of op v) s1)

-- one of two, by a test
abbrev pub choice_with : Setting → Expr → Expr → Expr → State → End Val
choice_with w test met unmet s = then_do (eval w test s) (λ v s1. choose v (eval w met) (eval w unmet) s1)

-- an element of a static array: the index, and then the read
abbrev pub static_element_with : Setting → ℕ → ℕ → Expr → State → End Val
static_element_with w count i e s =
    then_do (eval w e s)
    (λ index s1. then_do (element_spot count (static_spot i) index s1) (λ spot s2. read_spot spot s2))

-- an operand, and what is done with it
abbrev pub chain_with : Setting → Expr → List (Val → State → End Val) → State → End Val
chain_with w e links s = then_do (eval w e s) (λ v s1. in_chain links v s1)

-- a call of a Str: the operands, and then the call
abbrev pub text_call_with : Setting → TextCall → List (State → End Val) → Val → State → End Val
text_call_with w op args v s =
    then_do (put_all 0 args (replicate 2 Nothing) s) (λ xs s1. text_call w.program.texts op v xs s1)

-- what is assigned to a target: the value, and then the store
abbrev pub put_value : Setting → Expr → Target → State → End Val
put_value w e target s = then_do (eval w e s) (λ v s1. put target v s1)

-- an assignment: the target, and then what is assigned
abbrev pub set_with : Setting → Place → Expr → State → End Val
set_with w place e s = then_do (locate w place s) (λ target s1. put_value w e target s1)

-- of a local
abbrev pub set_local_with : Setting → ℕ → Expr → State → End Val
set_local_with w i e s = then_do (eval w e s) (λ v s1. write_local i v s1)

-- of a field of an object
abbrev pub set_field_with : Setting → Primitive → Expr → ℕ → Expr → State → End Val
set_field_with w p object i e s =
    then_do (then_do (eval w object s) (λ o s1. gives (OfField p o i) s1)) (λ target s1. put_value w e target s1)

-- what is computed of the old value and an operand is stored, and the old or the stored value given
abbrev pub put_computed : Update → Target → Val → Val → State → End Val
put_computed u target old x s =
    then_do (answers (arithmetic_of u.arithmetic u.width old x) s)
    (λ v s1. then_do (put target v s1) (λ new s2. gives (given u.gives old new) s2))

-- a compound assignment: the target, its old value, the operand, and then the store
abbrev pub update_with : Setting → Update → Place → Expr → State → End Val
update_with w u place e s =
    then_do (locate w place s)
    (λ target s1. then_do (fetch target s1) (λ old s2. then_do (eval w e s2) (λ x s3. put_computed u target old x s3)))

-- of a local
abbrev pub update_local_with : Setting → Update → Kind → ℕ → Expr → State → End Val
update_local_with w u kind i e s =
    then_do (read_local kind i s) (λ old s1. then_do (eval w e s1) (λ x s2. put_computed u (OfLocal kind i) old x s2))

-- a call whose arguments go into a frame from a local on
abbrev pub call_from : Setting → ℕ → ℕ → List (State → End Val) → List Val → State → End Val
call_from w first method args frame s = then_do (put_all first args frame s) (λ full s1. call w method full s1)

-- what a loop asks before a round; a `do` asks nothing
abbrev pub asks_of : Setting → Stmt → State → End Val
asks_of w (stmt.While' c p body) s = eval w c s
asks_of w (stmt.For' p first c last q body) s = eval_or w (truth true) c s
asks_of w x s = gives (truth true) s

-- what is left of a round of a loop behind its body
abbrev pub rest_of_round : Setting → Stmt → State → End Round
rest_of_round w (stmt.DoWhile' p body c) s = then_do (eval w c s) (λ v s1. choose v (gives Again) (gives Over) s1)
rest_of_round w (stmt.For' p first c last q body) s = then_do (eval_or w Nothing last s) (λ _ s1. gives Again s1)
rest_of_round w x s = gives Again s

-- a round of a loop: what it asks, and where that is met a turn, the body, and the rest
abbrev pub round_with : (State → End Val) → (State → End Flow) → (State → End Round) → State → End Round
round_with asks body rest s = then_do (asks s) (λ v s1. choose v
    (λ s2. then_do (take_turn s2) (λ _ s3. then_do (body s3) (λ flow s4. after_body flow rest s4)))
    (gives Over) s1)
