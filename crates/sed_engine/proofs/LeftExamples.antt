-- What small programs leave in the locals and of the turns, computed from the definitions.
use Rattle.std.proofs.Common.{◌≡◌, ℕ, pos, [], ◌∷◌, refl}
use Rattle.std.specs.Int.{int_wrap}
use Rattle.sed_typed.specs.declared.kind.Kind.TheVariants as kind
use Rattle.sed_typed.specs.declared.program.Program.{Program}
use Rattle.sed_typed.specs.declared.statement.Stmt.TheVariants as stmt
use Rattle.sed_typed.specs.declared.tree.Expr.{end_of-Expr}
use Rattle.sed_typed.specs.declared.tree.Expr.TheVariants as expr
use Rattle.sed_typed.specs.declared.tree.Link.TheVariants as link
use Rattle.sed_typed.specs.declared.tree.Place.TheVariants as place
use Rattle.sed_typed.specs.Initial.{initial, initial_statics}
use Rattle.sed_engine.specs.Expressions.{Called, frame_of}
use Rattle.sed_engine.specs.Root.{calls_with, most_frames}
use Rattle.sed_engine.specs.State.{Shared}
use Rattle.sed_engine.specs.Steps.{write_local}
use Rattle.sed_engine.specs.Values.{Nothing, Int, At, Component}
use Rattle.sed_engine.proofs.Building.{Pointer, none, int, chain, this, set_y, block, int_field, simple, run, outcome, done, trapped}

-- { i = 5; y = i }: a local whose declaration was jumped over keeps what it is assigned
jumped_over : Pointer → Program
jumped_over p = simple (int_field ∷ [])
    (block p (stmt.Do (expr.Set' (place.Local kind.Int 1) p (int 5))) (set_y p (expr.Local kind.Int 1)))

assigned_is_kept : (p : Pointer) → outcome (run (jumped_over p) 10) (1 ∷ []) ≡ done 10 (5 ∷ [])
unfolding jumped_over calls_with int_wrap
assigned_is_kept p = refl

-- the local that is written has what it is given, whatever that is, and the others stay
given_is_kept : (s : Shared) → (write_local 1 Nothing (record { shared = s; locals = Int (pos 1) ∷ Int (pos 2) ∷ Nothing ∷ [] })).state.locals ≡ Int (pos 1) ∷ Nothing ∷ Nothing ∷ []
given_is_kept s = refl

unset_is_kept : (s : Shared) → (write_local 2 (Int (pos 3)) (record { shared = s; locals = Int (pos 1) ∷ Int (pos 2) ∷ Nothing ∷ [] })).state.locals ≡ Int (pos 1) ∷ Int (pos 2) ∷ Int (pos 3) ∷ []
unset_is_kept s = refl

-- void execute() { execute() }
endless : Pointer → Program
endless p = simple [] (stmt.Do (chain p this (link.Invoke' kind.Void 0 (none p) end_of-Expr)))

-- what `execute` leaves as frame 1, with so many turns
left_of : Program → ℕ → Called
left_of k turns =
    calls_with k 5 most_frames 0 (frame_of (At (record { base = Component; path = [] }))) (record { contents = initial k 5; statics = initial_statics k; turns = turns; moment = pos 0 })

-- 31 calls come to frame 32; the next one takes its turn too before it is too deep
too_deep : (p : Pointer) → outcome (run (endless p) 100) [] ≡ trapped 5 []
unfolding endless calls_with int_wrap
too_deep p = refl

left_where_too_deep : (p : Pointer) → (left_of (endless p) 100).shared.turns ≡ 68
unfolding endless left_of calls_with int_wrap
left_where_too_deep p = refl

-- with 32 turns the call that is too deep takes the last one; with 31 there is none for it
deep_before_spent : (p : Pointer) → outcome (run (endless p) 32) [] ≡ trapped 5 []
unfolding endless calls_with int_wrap
deep_before_spent p = refl

spent_before_deep : (p : Pointer) → outcome (run (endless p) 31) [] ≡ trapped 4 []
unfolding endless calls_with int_wrap
spent_before_deep p = refl

left_where_spent : (p : Pointer) → (left_of (endless p) 31).shared.turns ≡ 0
unfolding endless left_of calls_with int_wrap
left_where_spent p = refl
