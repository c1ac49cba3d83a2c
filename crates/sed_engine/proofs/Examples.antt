-- What small programs come to, computed from the definitions: values, operators and the order of evaluation.
use Rattle.std.proofs.Common.{◌≡◌, pos, negsuc, [], ◌∷◌, Some, refl}
use Rattle.std.specs.Int.{int_wrap}
use Rattle.sed_value.specs.declared.value.Value.TheVariants as kept
use Rattle.sed_value.specs.declared.slot_type.Primitive.TheVariants as prim
use Rattle.sed_typed.specs.declared.kind.Kind.TheVariants as kind
use Rattle.sed_typed.specs.declared.operators.Arithmetic.TheVariants as op
use Rattle.sed_typed.specs.declared.operators.Gives.TheVariants.{Old, New}
use Rattle.sed_typed.specs.declared.operators.Unary.TheVariants as unary
use Rattle.sed_typed.specs.declared.operators.Width.TheVariants as width
use Rattle.sed_typed.specs.declared.program.FieldForm.TheVariants as form
use Rattle.sed_typed.specs.declared.program.Program.{Program}
use Rattle.sed_typed.specs.declared.statement.Stmt.TheVariants as stmt
use Rattle.sed_typed.specs.declared.tree.Expr.TheVariants as expr
use Rattle.sed_typed.specs.declared.tree.Link.TheVariants as link
use Rattle.sed_typed.specs.declared.tree.Place.TheVariants as place
use Rattle.sed_engine.specs.declared.call.CallEnd.TheVariants as end
use Rattle.sed_engine.specs.Root.{calls_with}
use Rattle.sed_engine.specs.Statements.{loop}
use Rattle.sed_engine.proofs.Building.{Pointer, int, chain, chain_of_two, by, own, own_place, set, set_y, y, y_is, block, field, int_field, simple, run, outcome, done, trapped}

-- a = 2147483647 + 1; b = (0 - 2147483647 - 1) / -1
wrapping : Pointer → Program
wrapping p = simple (int_field ∷ int_field ∷ [])
    (block p
    (set p prim.Int 1 (chain p (int 2147483647) (by op.Add (int 1))))
    (set p prim.Int 2 (chain p (chain_of_two p (int 0) (by op.Subtract (int 2147483647)) (by op.Subtract (int 1))) (by op.Divide (expr.Unary' (unary.Negate width.Int) p (int 1))))))

wraps : (p : Pointer) → outcome (run (wrapping p) 10) (1 ∷ 2 ∷ []) ≡ (end.Done 10, Some (kept.Int (negsuc 2147483647)) ∷ Some (kept.Int (negsuc 2147483647)) ∷ [])
unfolding wrapping calls_with loop int_wrap
wraps p = refl

-- property byte b; b = 300
narrow : Pointer → Program
narrow p = simple (field 5 (form.Prim prim.Byte) (kept.Byte 0) ∷ []) (set p prim.Byte 1 (int 300))

narrows : (p : Pointer) → outcome (run (narrow p) 10) (1 ∷ []) ≡ (end.Done 10, Some (kept.Byte 44) ∷ [])
unfolding narrow calls_with
narrows p = refl

-- x = (byte) 4294967596L; y = (short) -1L: the low bits of a long, as an int
low_bits_of_long : Pointer → Program
low_bits_of_long p = simple (int_field ∷ int_field ∷ [])
    (block p
    (set_y p (expr.Unary' (unary.LowByte width.Long) p (expr.Long (pos 4294967596))))
    (set p prim.Int 2 (expr.Unary' (unary.LowShort width.Long) p (expr.Long (negsuc 0)))))

low_bits_of_long_are : (p : Pointer) → outcome (run (low_bits_of_long p) 10) (1 ∷ 2 ∷ []) ≡ done 10 (44 ∷ 65535 ∷ [])
unfolding low_bits_of_long calls_with int_wrap
low_bits_of_long_are p = refl

-- the value of `b = 300` is what b then reads as: y = (b = 300)
narrow_value : Pointer → Program
narrow_value p = simple (int_field ∷ field 5 (form.Prim prim.Byte) (kept.Byte 0) ∷ []) (set_y p (expr.Set' (own_place p prim.Byte 2) p (int 300)))

narrow_value_is : (p : Pointer) → outcome (run (narrow_value p) 10) (1 ∷ []) ≡ done 10 (44 ∷ [])
unfolding narrow_value calls_with
narrow_value_is p = refl

-- property bool b = null; if (b) y = 1
null_test : Pointer → Program
null_test p = simple (int_field ∷ field 5 (form.Prim prim.Bool) (kept.Bool 2) ∷ []) (stmt.If' (own p prim.Bool 2) p (set_y p (int 1)) p stmt.Empty)

null_is_met : (p : Pointer) → outcome (run (null_test p) 10) (1 ∷ 2 ∷ []) ≡ (end.Done 10, Some (kept.Int (pos 1)) ∷ Some (kept.Bool 2) ∷ [])
unfolding null_test calls_with
null_is_met p = refl

-- b = null && null; c = !null; d = false && (y = 1 / 0) == 0, with b, c, d bools
logic : Pointer → Program
logic p =
    let bool_field = field 5 (form.Prim prim.Bool) (kept.Bool 2) in
    simple (int_field ∷ bool_field ∷ bool_field ∷ bool_field ∷ [])
    (block p
    (block p
    (set p prim.Bool 2 (chain p (expr.Bool 2) (link.And (expr.Bool 2))))
    (set p prim.Bool 3 (expr.Unary' unary.Not p (expr.Bool 2))))
    (set p prim.Bool 4 (chain p (expr.Bool 0) (link.And (chain p (int 1) (by op.Divide (int 0)))))))

logic_is : (p : Pointer) → outcome (run (logic p) 10) (2 ∷ 3 ∷ 4 ∷ []) ≡ (end.Done 10, Some (kept.Bool 1) ∷ Some (kept.Bool 0) ∷ Some (kept.Bool 0) ∷ [])
unfolding logic calls_with
logic_is p = refl

-- b = null || (1 / 0 ..) is true without its second operand; c = false || null is true
either : Pointer → Program
either p =
    let bool_field = field 5 (form.Prim prim.Bool) (kept.Bool 2) in
    simple (int_field ∷ bool_field ∷ bool_field ∷ [])
    (block p
    (set p prim.Bool 2 (chain p (expr.Bool 2) (link.Or (chain p (int 1) (by op.Divide (int 0))))))
    (set p prim.Bool 3 (chain p (expr.Bool 0) (link.Or (expr.Bool 2)))))

either_is : (p : Pointer) → outcome (run (either p) 10) (2 ∷ 3 ∷ []) ≡ (end.Done 10, Some (kept.Bool 1) ∷ Some (kept.Bool 1) ∷ [])
unfolding either calls_with
either_is p = refl

-- y = y + 1; x = 1 / x: what was written before the trap stands
halfway : Pointer → Program
halfway p = simple (int_field ∷ int_field ∷ [])
    (block p (set_y p (chain p (y p) (by op.Add (int 1)))) (set p prim.Int 2 (chain p (int 1) (by op.Divide (own p prim.Int 2)))))

halfway_traps : (p : Pointer) → outcome (run (halfway p) 10) (1 ∷ 2 ∷ []) ≡ trapped 1 (1 ∷ 0 ∷ [])
unfolding halfway calls_with int_wrap
halfway_traps p = refl

-- x = (y = 1) + 1 / 0 + (z = 1): left to right, up to the trap
ordered : Pointer → Program
ordered p = simple (int_field ∷ int_field ∷ int_field ∷ [])
    (set p prim.Int 2 (chain_of_two p (y_is p 1) (by op.Add (chain p (int 1) (by op.Divide (int 0)))) (by op.Add (expr.Set' (own_place p prim.Int 3) p (int 1)))))

ordered_traps : (p : Pointer) → outcome (run (ordered p) 10) (1 ∷ 2 ∷ 3 ∷ []) ≡ trapped 1 (1 ∷ 0 ∷ 0 ∷ [])
unfolding ordered calls_with
ordered_traps p = refl

-- y = 7; y = y - (y = 2): the left operand is read first
left_first : Pointer → Program
left_first p = simple (int_field ∷ [])
    (block p (set_y p (int 7)) (set_y p (chain p (y p) (by op.Subtract (y_is p 2)))))

left_first_is : (p : Pointer) → outcome (run (left_first p) 10) (1 ∷ []) ≡ done 10 (5 ∷ [])
unfolding left_first calls_with int_wrap
left_first_is p = refl

-- (null).f = (y = 1): the value is evaluated, and null is tested at the store
null_store : Pointer → Program
null_store p = simple (int_field ∷ int_field ∷ [])
    (stmt.Do (expr.Set' (place.Field' prim.Int p (expr.Null (kind.Object (record { 0 = 5 }))) 2) p (y_is p 1)))

null_store_traps : (p : Pointer) → outcome (run (null_store p) 10) (1 ∷ 2 ∷ []) ≡ trapped 2 (1 ∷ 0 ∷ [])
unfolding null_store calls_with
null_store_traps p = refl

-- (null).f += (y = 1): null is tested at the read, before the operand
null_update : Pointer → Program
null_update p = simple (int_field ∷ int_field ∷ [])
    (stmt.Do (expr.Update' (record { arithmetic = op.Add; width = width.Int; gives = New }) (place.Field' prim.Int p (expr.Null (kind.Object (record { 0 = 5 }))) 2) p (y_is p 1)))

null_update_traps : (p : Pointer) → outcome (run (null_update p) 10) (1 ∷ 2 ∷ []) ≡ trapped 2 (0 ∷ 0 ∷ [])
unfolding null_update calls_with
null_update_traps p = refl

-- byte b = 255; y = b++; and then y = ++b: 255, and the new value as a read gives it
stepped : Pointer → Program
stepped p =
    simple (int_field ∷ int_field ∷ field 5 (form.Prim prim.Byte) (kept.Byte 255) ∷ [])
    (block p
    (set_y p (expr.Update' (record { arithmetic = op.Add; width = width.Int; gives = Old }) (own_place p prim.Byte 3) p (int 1)))
    (set p prim.Int 2 (expr.Update' (record { arithmetic = op.Subtract; width = width.Int; gives = New }) (own_place p prim.Byte 3) p (int 1))))

stepped_is : (p : Pointer) → outcome (run (stepped p) 10) (1 ∷ 2 ∷ 3 ∷ []) ≡ (end.Done 10, Some (kept.Int (pos 255)) ∷ Some (kept.Int (pos 255)) ∷ Some (kept.Byte 255) ∷ [])
unfolding stepped calls_with int_wrap
stepped_is p = refl

-- y = 1 << 33; x = -7 >> 1: the count is taken modulo 32, and `>>` keeps the sign
shifts : Pointer → Program
shifts p = simple (int_field ∷ int_field ∷ [])
    (block p (set_y p (chain p (int 1) (by op.ShiftLeft (int 33)))) (set p prim.Int 2 (chain p (expr.Int (negsuc 6)) (by op.ShiftRight (int 1)))))

shifts_are : (p : Pointer) → outcome (run (shifts p) 10) (1 ∷ 2 ∷ []) ≡ (end.Done 10, Some (kept.Int (pos 2)) ∷ Some (kept.Int (negsuc 3)) ∷ [])
unfolding shifts calls_with int_wrap
shifts_are p = refl

-- y = -7 / 2; x = -7 % 2: toward zero, with the sign of the dividend
divisions : Pointer → Program
divisions p = simple (int_field ∷ int_field ∷ [])
    (block p (set_y p (chain p (expr.Int (negsuc 6)) (by op.Divide (int 2)))) (set p prim.Int 2 (chain p (expr.Int (negsuc 6)) (by op.Remainder (int 2)))))

divisions_are : (p : Pointer) → outcome (run (divisions p) 10) (1 ∷ 2 ∷ []) ≡ (end.Done 10, Some (kept.Int (negsuc 2)) ∷ Some (kept.Int (negsuc 0)) ∷ [])
unfolding divisions calls_with int_wrap
divisions_are p = refl
