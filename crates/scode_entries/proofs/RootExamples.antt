-- Small programs and their images: the root calls end alike, and the images break no rule.
use Rattle.std.proofs.Common.{◌≡◌, ℕ, pos, negsuc, List, [], ◌∷◌, Option, Some, None, refl}
use Rattle.std.specs.Int.{int_wrap}
use Rattle.sed_value.specs.declared.value.Value.{Value}
use Rattle.sed_value.specs.declared.value.Value.TheVariants as kept
use Rattle.sed_typed.specs.declared.operators.Arithmetic.TheVariants as arithmetic
use Rattle.sed_typed.specs.declared.kind.Kind.TheVariants as kind
use Rattle.sed_typed.specs.declared.operators.Binary.TheVariants as binary
use Rattle.sed_typed.specs.declared.operators.Gives.TheVariants.{Old, New}
use Rattle.sed_typed.specs.declared.operators.TextCall.TheVariants as text
use Rattle.sed_typed.specs.declared.operators.Unary.TheVariants as unary
use Rattle.sed_typed.specs.declared.operators.Width.TheVariants as width
use Rattle.sed_typed.specs.declared.statement.Stmt.{Stmt}
use Rattle.sed_typed.specs.declared.statement.Stmt.TheVariants as stmt
use Rattle.sed_typed.specs.declared.tree.Expr.{end_of-Expr, more_of-Expr}
use Rattle.sed_typed.specs.declared.tree.Expr.TheVariants as expr
use Rattle.sed_typed.specs.declared.tree.Link.TheVariants as link
use Rattle.sed_typed.specs.declared.tree.Place.TheVariants as place
use Rattle.sed_value.specs.declared.slot_type.Primitive.TheVariants as prim
use Rattle.sed_engine.specs.declared.call.CallEnd.{CallEnd}
use Rattle.sed_engine.specs.declared.call.CallEnd.TheVariants.{Done, Trap}
use Rattle.sed_engine.specs.declared.call.Root.TheVariants.{Execute}
use Rattle.sed_engine.specs.Root.{calls_with}
use Rattle.sed_engine.specs.Statements.{loop}
use Rattle.sed_engine.proofs.Building as source
use Rattle.sed_engine.proofs.Building.{Pointer, none, one, two, int, set, set_y, own_place, y, y_is, chain, chain_of_two, by, block}
use Rattle.scode_code.specs.Faults.{first_broken}
use Rattle.scode_code.specs.Steps.{steps}
use Rattle.scode_code.proofs.Building as image
use Rattle.scode_emit.proofs.Building.{program, m_of, a_at, s_of, update, looping, switching, counting}
use Rattle.scode_entries.proofs.Building.{image_of}

-- how `execute` ends with so many turns, and y then: by the program, and by its image
abbrev of_program : Pointer → Stmt → ℕ → CallEnd × List (Option Value)
of_program p body turns = source.outcome (source.run (program p body) turns) (1 ∷ [])

abbrev of_image : Pointer → Stmt → ℕ → CallEnd × List (Option Value)
of_image p body turns = image.outcome (image.run (image_of p body) Execute turns) (1 ∷ [])

-- both end so, and the image breaks no rule
pub record Agrees (body : Pointer → Stmt) (turns : ℕ) (wanted : CallEnd × List (Option Value)) : Type 0 where
  pub program : (p : Pointer) → of_program p (body p) turns ≡ wanted
  pub image : (p : Pointer) → of_image p (body p) turns ≡ wanted
  pub verified : (p : Pointer) → first_broken (image_of p (body p)) ≡ None

abbrev done : ℕ → ℕ → CallEnd × List (Option Value)
done left n = (Done left, Some (kept.Int (pos n)) ∷ [])

abbrev trapped : ℕ → ℕ → CallEnd × List (Option Value)
trapped number n = (Trap number, Some (kept.Int (pos n)) ∷ [])

assigned : Agrees (λ p. set_y p (int 7)) 10 (done 10 7)
unfolding calls_with int_wrap steps
assigned = record { program = λ p. refl; image = λ p. refl; verified = λ p. refl }

-- the value of an assignment to a byte is what is read back
narrowed : Agrees (λ p. set_y p (expr.Set' (own_place p prim.Byte 2) p (int 300))) 10 (done 10 44)
unfolding calls_with int_wrap steps
narrowed = record { program = λ p. refl; image = λ p. refl; verified = λ p. refl }

-- an int operand that assigns: y = 1; y = y + (y = 5) + y
in_order : Pointer → Stmt
in_order p = block p (set_y p (int 1)) (set_y p (chain_of_two p (y p) (by arithmetic.Add (y_is p 5)) (by arithmetic.Add (y p))))

ordered : Agrees in_order 10 (done 10 11)
unfolding in_order calls_with int_wrap steps
ordered = record { program = λ p. refl; image = λ p. refl; verified = λ p. refl }

-- a[1] = 8; y = a[1]++ + (a[1] += 2)
elements : Pointer → Stmt
elements p =
    block p (stmt.Do (expr.Set' (a_at p (int 1)) p (int 8)))
    (set_y p (chain p (expr.Update' (update arithmetic.Add width.Int Old) (a_at p (int 1)) p (int 1))
    (by arithmetic.Add (expr.Update' (update arithmetic.Add width.Int New) (a_at p (int 1)) p (int 2)))))

added : Agrees elements 10 (done 10 19)
unfolding elements calls_with int_wrap steps
added = record { program = λ p. refl; image = λ p. refl; verified = λ p. refl }

-- a[1] += (a[y] += 1), which traps before it stores: y is -1
outside : Pointer → Stmt
outside p =
    block p (set_y p (expr.Int (negsuc 0)))
    (stmt.Do (expr.Update' (update arithmetic.Add width.Int New) (a_at p (int 1)) p (expr.Update' (update arithmetic.Add width.Int New) (a_at p (y p)) p (int 1))))

traps_outside : Agrees outside 10 (Trap 3, Some (kept.Int (negsuc 0)) ∷ [])
unfolding outside calls_with int_wrap steps
traps_outside = record { program = λ p. refl; image = λ p. refl; verified = λ p. refl }

-- y = 1 + m(2)
called : Agrees (λ p. set_y p (chain p (int 1) (by arithmetic.Add (m_of p (int 2))))) 10 (done 9 3)
unfolding calls_with int_wrap steps
called = record { program = λ p. refl; image = λ p. refl; verified = λ p. refl }

-- no turn is left for the call
spent : Agrees (λ p. set_y p (m_of p (m_of p (int 2)))) 1 (trapped 4 0)
unfolding calls_with int_wrap steps
spent = record { program = λ p. refl; image = λ p. refl; verified = λ p. refl }

looped : Agrees looping 10 (done 8 2)
unfolding calls_with int_wrap loop steps
looped = record { program = λ p. refl; image = λ p. refl; verified = λ p. refl }

counted : Agrees counting 10 (done 5 0)
unfolding calls_with int_wrap loop steps
counted = record { program = λ p. refl; image = λ p. refl; verified = λ p. refl }

counted_out : Agrees counting 3 (trapped 4 0)
unfolding calls_with int_wrap loop steps
counted_out = record { program = λ p. refl; image = λ p. refl; verified = λ p. refl }

-- from the first label through to the default and out, from the default, and from the last
at_one : Agrees (λ p. switching p (int 1)) 10 (done 10 20)
unfolding calls_with int_wrap steps
at_one = record { program = λ p. refl; image = λ p. refl; verified = λ p. refl }

at_two : Agrees (λ p. switching p (int 2)) 10 (done 10 20)
unfolding calls_with int_wrap steps
at_two = record { program = λ p. refl; image = λ p. refl; verified = λ p. refl }

at_three : Agrees (λ p. switching p (int 3)) 10 (done 10 30)
unfolding calls_with int_wrap steps
at_three = record { program = λ p. refl; image = λ p. refl; verified = λ p. refl }

-- the bool null is met on either side of `&&`, and `&&` then gives true: y = (null && null) == true ? 1 : 2
null_is_met : Agrees (λ p. set_y p (expr.Choose' p (chain_of_two p (expr.Bool 2) (link.And (expr.Bool 2)) (link.Binary binary.SameTruth (expr.Bool 1))) p (int 1) p (int 2))) 10 (done 10 1)
unfolding calls_with int_wrap steps
null_is_met = record { program = λ p. refl; image = λ p. refl; verified = λ p. refl }

-- s.set(0, 65); y = s.length()
written : Pointer → Stmt
written p =
    block p (stmt.Do (s_of (link.TextCall' text.Set (two p) (more_of-Expr (int 0) (more_of-Expr (int 65) end_of-Expr))) p))
    (set_y p (s_of (link.TextCall' text.Length (none p) end_of-Expr) p))

text_written : Agrees written 10 (done 10 1)
unfolding written calls_with int_wrap steps
text_written = record { program = λ p. refl; image = λ p. refl; verified = λ p. refl }

-- v++, a static, as an operand, and a static call
statics : Pointer → Stmt
statics p =
    block p (set p prim.Long 4 (expr.Update' (update arithmetic.Add width.Long Old) (place.Static prim.Long 1) p (expr.Long (pos 1))))
    (set_y p (expr.Call' kind.Int 3 (one p) (more_of-Expr (expr.Unary' unary.ToInt p (expr.Static prim.Long 1)) end_of-Expr)))

statics_stored : Agrees statics 10 (done 9 2)
unfolding statics calls_with int_wrap steps
statics_stored = record { program = λ p. refl; image = λ p. refl; verified = λ p. refl }
