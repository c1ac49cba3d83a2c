-- What small programs come to, computed from the definitions: inline objects, arrays and Strs.
use Rattle.std.proofs.Common.{◌≡◌, pos, negsuc, [], ◌∷◌, Some, codes, true, false, refl}
use Rattle.std.specs.Int.{int_wrap}
use Rattle.sed_value.specs.declared.value.Value.TheVariants as kept
use Rattle.sed_value.specs.declared.slot_type.Primitive.TheVariants as prim
use Rattle.sed_typed.specs.declared.kind.Kind.TheVariants as kind
use Rattle.sed_typed.specs.declared.operators.Arithmetic.TheVariants as op
use Rattle.sed_typed.specs.declared.operators.Gives.TheVariants.{New}
use Rattle.sed_typed.specs.declared.operators.TextCall.{TextCall}
use Rattle.sed_typed.specs.declared.operators.TextCall.TheVariants as text
use Rattle.sed_typed.specs.declared.operators.Width.TheVariants as width
use Rattle.sed_typed.specs.declared.operators.Binary.TheVariants as binary
use Rattle.sed_typed.specs.declared.program.FieldForm.TheVariants as form
use Rattle.sed_typed.specs.declared.program.Program.{Program}
use Rattle.sed_typed.specs.declared.statement.Stmt.{Stmt}
use Rattle.sed_typed.specs.declared.statement.Stmt.TheVariants as stmt
use Rattle.sed_typed.specs.declared.tree.Expr.{Expr, end_of-Expr, more_of-Expr}
use Rattle.sed_typed.specs.declared.tree.Expr.TheVariants as expr
use Rattle.sed_typed.specs.declared.tree.Link.TheVariants as link
use Rattle.sed_typed.specs.declared.tree.Place.{Place}
use Rattle.sed_typed.specs.declared.tree.Place.TheVariants as place
use Rattle.sed_typed.specs.Contents.{value_at}
use Rattle.sed_engine.specs.declared.call.CallEnd.TheVariants as end
use Rattle.sed_engine.specs.Root.{calls_with}
use Rattle.sed_engine.proofs.Building.{Pointer, by, none, one, two, int, chain, this, set, set_y, y_is, block, block_of_three, field, int_field, class_info, program_of, simple, execute, run, outcome, done, trapped}

-- class 6 has an int n; class 5 has y and an inline object of class 6: o.n = 7; y = o.n
inline : Pointer → Program
inline p =
    let o : Expr = chain p this (link.Part (kind.Object (record { 0 = 6 })) 2) in
    program_of (class_info 1 0 (codes "A") (Some 2) true ∷ class_info 1 1 (codes "B") (Some 0) false ∷ [])
    (int_field ∷ field 5 (form.Object (record { 0 = 6 })) kept.Nothing ∷ field 6 (form.Prim prim.Int) (kept.Int (pos 3)) ∷ [])
    (execute 5 (block p (stmt.Do (expr.Set' (place.Field' prim.Int p o 0) p (int 7))) (set_y p (chain p o (link.Field prim.Int 0)))) ∷ [])

inline_is : (p : Pointer) → outcome (run (inline p) 10) (1 ∷ []) ≡ done 10 (7 ∷ [])
unfolding inline calls_with
inline_is p = refl

inline_keeps : (p : Pointer) → value_at (run (inline p) 10).contents (2 ∷ 0 ∷ []) ≡ Some (kept.Int (pos 7))
unfolding inline calls_with
inline_keeps p = refl

-- an element of an array of 3 bytes, which is field 2
byte_at : Pointer → Expr → Expr
byte_at p i = chain p this (link.Element prim.Byte 3 2 i)

element : Pointer → Expr → Place
element p i = place.Element' prim.Byte 3 p this 2 p i

with_bytes : Stmt → Program
with_bytes body = simple (int_field ∷ field 5 (form.Array prim.Byte 3) kept.Nothing ∷ []) body

-- a[2] = 257; y = a[2]
last_element : Pointer → Program
last_element p =
    with_bytes (block p (stmt.Do (expr.Set' (element p (int 2)) p (int 257))) (set_y p (byte_at p (int 2))))

last_element_is : (p : Pointer) → outcome (run (last_element p) 10) (1 ∷ []) ≡ done 10 (1 ∷ [])
unfolding last_element with_bytes byte_at element calls_with
last_element_is p = refl

-- a[3] = (y = 1): the index is tested at the store, after the value
one_past : Pointer → Program
one_past p = with_bytes (stmt.Do (expr.Set' (element p (int 3)) p (y_is p 1)))

one_past_traps : (p : Pointer) → outcome (run (one_past p) 10) (1 ∷ []) ≡ trapped 3 (1 ∷ [])
unfolding one_past with_bytes element calls_with
one_past_traps p = refl

-- a[3] += (y = 1): the index is tested at the read, before the operand
one_past_update : Pointer → Program
one_past_update p =
    with_bytes (stmt.Do (expr.Update' (record { arithmetic = op.Add; width = width.Int; gives = New }) (element p (int 3)) p (y_is p 1)))

one_past_update_traps : (p : Pointer) → outcome (run (one_past_update p) 10) (1 ∷ []) ≡ trapped 3 (0 ∷ [])
unfolding one_past_update with_bytes element calls_with
one_past_update_traps p = refl

-- a[-1] is outside too
below_array : Pointer → Program
below_array p = with_bytes (set_y p (byte_at p (expr.Int (negsuc 0))))

below_array_traps : (p : Pointer) → outcome (run (below_array p) 10) (1 ∷ []) ≡ trapped 3 (0 ∷ [])
unfolding below_array with_bytes byte_at calls_with
below_array_traps p = refl

-- a Str of 3 bytes as field 2, and what is called on it
str : Pointer → Expr
str p = chain p this (link.Part kind.Text 2)

call0 : Pointer → Expr → TextCall → Expr
call0 p s op = chain p s (link.TextCall' op (none p) end_of-Expr)

call1 : Pointer → Expr → TextCall → Expr → Expr
call1 p s op a = chain p s (link.TextCall' op (one p) (more_of-Expr a end_of-Expr))

call2 : Pointer → Expr → TextCall → Expr → Expr → Expr
call2 p s op a b = chain p s (link.TextCall' op (two p) (more_of-Expr a (more_of-Expr b end_of-Expr)))

with_str : Stmt → Program
with_str body = simple (int_field ∷ field 5 (form.Str 3) kept.Nothing ∷ []) body

-- text 0 is "abc": s.copyFromStr("abc") keeps two characters, and y = s.length()
cut : Pointer → Program
cut p = with_str (block p (stmt.Do (call1 p (str p) text.Copy (expr.Text 0))) (set_y p (call0 p (str p) text.Length)))

cut_is : (p : Pointer) → outcome (run (cut p) 10) (1 ∷ 2 ∷ []) ≡ (end.Done 10, Some (kept.Int (pos 2)) ∷ Some (kept.Buf (97 ∷ 98 ∷ 0 ∷ [])) ∷ [])
unfolding cut with_str str call0 call1 calls_with
cut_is p = refl

-- a shorter text is followed by zeros: s.copyFromStr("abc"); s.set(1, 0); s.copyFromStr(s)
refilled : Pointer → Program
refilled p =
    with_str (block_of_three p
    (stmt.Do (call1 p (str p) text.Copy (expr.Text 0)))
    (stmt.Do (call2 p (str p) text.Set (int 0) (int 321)))
    (set_y p (call1 p (str p) text.Get (int 0))))

refilled_is : (p : Pointer) → outcome (run (refilled p) 10) (1 ∷ 2 ∷ []) ≡ (end.Done 10, Some (kept.Int (pos 65)) ∷ Some (kept.Buf (65 ∷ 98 ∷ 0 ∷ [])) ∷ [])
unfolding refilled with_str str call1 call2 calls_with
refilled_is p = refl

-- the last byte of a Str is not to be set
last_byte : Pointer → Program
last_byte p = with_str (stmt.Do (call2 p (str p) text.Set (int 2) (y_is p 1)))

last_byte_traps : (p : Pointer) → outcome (run (last_byte p) 10) (1 ∷ []) ≡ trapped 3 (1 ∷ [])
unfolding last_byte with_str str call2 calls_with
last_byte_traps p = refl

-- but it is to be read: y = s.get(2)
last_byte_read : Pointer → Program
last_byte_read p = with_str (set_y p (call1 p (str p) text.Get (int 2)))

last_byte_is : (p : Pointer) → outcome (run (last_byte_read p) 10) (1 ∷ []) ≡ done 10 (0 ∷ [])
unfolding last_byte_read with_str str call1 calls_with
last_byte_is p = refl

-- "abc".set(0, 65): a text literal is not changed
literal_set : Pointer → Program
literal_set p = simple (int_field ∷ []) (stmt.Do (call2 p (expr.Text 0) text.Set (int 0) (int 65)))

literal_set_traps : (p : Pointer) → outcome (run (literal_set p) 10) (1 ∷ []) ≡ trapped 3 (0 ∷ [])
unfolding literal_set call2 calls_with
literal_set_traps p = refl

-- y = "abc".length() and x = "abc".get(3): a literal reads with a 0 behind it
literal_read : Pointer → Program
literal_read p = simple (int_field ∷ int_field ∷ [])
    (block p (set_y p (call0 p (expr.Text 0) text.Length)) (set p prim.Int 2 (call1 p (expr.Text 0) text.Get (int 3))))

literal_reads : (p : Pointer) → outcome (run (literal_read p) 10) (1 ∷ 2 ∷ []) ≡ done 10 (3 ∷ 0 ∷ [])
unfolding literal_read call0 call1 calls_with
literal_reads p = refl

-- null.equals("abc"), and "abc".equals(null)
null_text : Pointer → Program
null_text p = simple (int_field ∷ []) (stmt.Do (call1 p (expr.Text 0) text.Equals (expr.Null kind.Text)))

null_text_traps : (p : Pointer) → outcome (run (null_text p) 10) (1 ∷ []) ≡ trapped 2 (0 ∷ [])
unfolding null_text call1 calls_with
null_text_traps p = refl

-- b = this == this; c = "abc" == null; d = null == null
same : Pointer → Program
same p =
    let flag = field 5 (form.Prim prim.Bool) (kept.Bool 2) in
    let null : Expr = expr.Null (kind.Object (record { 0 = 0 })) in
    simple (flag ∷ flag ∷ flag ∷ [])
    (block_of_three p
    (set p prim.Bool 1 (chain p this (link.Binary binary.SameReference this)))
    (set p prim.Bool 2 (chain p (expr.Text 0) (link.Binary binary.SameReference null)))
    (set p prim.Bool 3 (chain p null (link.Binary binary.SameReference null))))

same_is : (p : Pointer) → outcome (run (same p) 10) (1 ∷ 2 ∷ 3 ∷ []) ≡ (end.Done 10, Some (kept.Bool 1) ∷ Some (kept.Bool 0) ∷ Some (kept.Bool 1) ∷ [])
unfolding same calls_with
same_is p = refl

-- a Buf(4) that holds two bytes: y = b.size, and x = b.bytes[1]; then b.bytes[2] is outside
buffer : Pointer → Program
buffer p =
    simple (int_field ∷ int_field ∷ field 5 (form.Buf 4) (kept.Buf (8 ∷ 9 ∷ [])) ∷ [])
    (block_of_three p
    (set_y p (chain p this (link.Size 3)))
    (set p prim.Int 2 (chain p this (link.Byte 3 (int 1))))
    (set_y p (chain p this (link.Byte 3 (int 2)))))

buffer_is : (p : Pointer) → outcome (run (buffer p) 10) (1 ∷ 2 ∷ []) ≡ trapped 3 (2 ∷ 9 ∷ [])
unfolding buffer calls_with
buffer_is p = refl

-- (y = 1, this).a[1 / 0] = 0: the receiver before the index
receiver_first : Pointer → Program
receiver_first p =
    with_bytes (stmt.Do (expr.Set' (place.Element' prim.Byte 3 p (chain p (y_is p 1) (link.After this)) 2 p (chain p (int 1) (by op.Divide (int 0)))) p (int 0)))

receiver_first_traps : (p : Pointer) → outcome (run (receiver_first p) 10) (1 ∷ []) ≡ trapped 1 (1 ∷ [])
unfolding receiver_first with_bytes calls_with
receiver_first_traps p = refl

-- a[1 / 0] = (y = 1): the index before the value
index_first : Pointer → Program
index_first p = with_bytes (stmt.Do (expr.Set' (element p (chain p (int 1) (by op.Divide (int 0)))) p (y_is p 1)))

index_first_traps : (p : Pointer) → outcome (run (index_first p) 10) (1 ∷ []) ≡ trapped 1 (0 ∷ [])
unfolding index_first with_bytes element calls_with
index_first_traps p = refl

-- a Str of 6 bytes: s.copyFromStr("abc") fills with zeros
filling : Pointer → Program
filling p = simple (int_field ∷ field 5 (form.Str 6) kept.Nothing ∷ []) (block p (stmt.Do (call1 p (str p) text.Copy (expr.Text 0))) (set_y p (call0 p (str p) text.Length)))

filling_is : (p : Pointer) → outcome (run (filling p) 10) (1 ∷ 2 ∷ []) ≡ (end.Done 10, Some (kept.Int (pos 3)) ∷ Some (kept.Buf (97 ∷ 98 ∷ 99 ∷ 0 ∷ 0 ∷ 0 ∷ [])) ∷ [])
unfolding filling str call0 call1 calls_with
filling_is p = refl

-- ---- elements of the array of null, and of a static array

-- (null).a[y = 1]: the index is evaluated, and then null is tested
null_element : Pointer → Program
null_element p = with_bytes (stmt.Do (chain p (expr.Null (kind.Object (record { 0 = 5 }))) (link.Element prim.Byte 3 2 (y_is p 1))))

null_element_traps : (p : Pointer) → outcome (run (null_element p) 10) (1 ∷ []) ≡ trapped 2 (1 ∷ [])
unfolding null_element with_bytes calls_with
null_element_traps p = refl

-- (null).a[3] = (y = 1): null is tested at the store, before the index
null_element_store : Pointer → Program
null_element_store p =
    with_bytes (stmt.Do (expr.Set' (place.Element' prim.Byte 3 p (expr.Null (kind.Object (record { 0 = 5 }))) 2 p (int 3)) p (y_is p 1)))

null_element_store_traps : (p : Pointer) → outcome (run (null_element_store p) 10) (1 ∷ []) ≡ trapped 2 (1 ∷ [])
unfolding null_element_store with_bytes calls_with
null_element_store_traps p = refl

-- (null).b.size, and (null).b.bytes[y = 1], of a Buf b
null_size : Pointer → Program
null_size p = simple (int_field ∷ []) (stmt.Do (chain p (expr.Null (kind.Object (record { 0 = 5 }))) (link.Size 2)))

null_size_traps : (p : Pointer) → outcome (run (null_size p) 10) (1 ∷ []) ≡ trapped 2 (0 ∷ [])
unfolding null_size calls_with
null_size_traps p = refl

null_byte : Pointer → Program
null_byte p = simple (int_field ∷ []) (stmt.Do (chain p (expr.Null (kind.Object (record { 0 = 5 }))) (link.Byte 2 (y_is p 1))))

null_byte_traps : (p : Pointer) → outcome (run (null_byte p) 10) (1 ∷ []) ≡ trapped 2 (1 ∷ [])
unfolding null_byte calls_with
null_byte_traps p = refl

-- static inline int[3] A.a, static 0
with_static : Stmt → Program
with_static body = record (simple (int_field ∷ []) body) { statics = field 5 (form.Array prim.Int 3) kept.Nothing ∷ [] }

-- A.a[2] = 7; A.a[2] += 1; y = A.a[2]
static_element : Pointer → Program
static_element p =
    with_static (block_of_three p
    (stmt.Do (expr.Set' (place.StaticElement' prim.Int 3 0 p (int 2)) p (int 7)))
    (stmt.Do (expr.Update' (record { arithmetic = op.Add; width = width.Int; gives = New }) (place.StaticElement' prim.Int 3 0 p (int 2)) p (int 1)))
    (set_y p (expr.StaticElement' prim.Int 3 0 p (int 2))))

static_element_is : (p : Pointer) → outcome (run (static_element p) 10) (1 ∷ []) ≡ done 10 (8 ∷ [])
unfolding static_element with_static calls_with int_wrap
static_element_is p = refl

static_element_keeps : (p : Pointer) → value_at (run (static_element p) 10).statics (0 ∷ 2 ∷ []) ≡ Some (kept.Int (pos 8))
unfolding static_element with_static calls_with int_wrap
static_element_keeps p = refl

-- A.a[3] = (y = 1): the index is tested at the store, after the value
past_static : Pointer → Program
past_static p = with_static (stmt.Do (expr.Set' (place.StaticElement' prim.Int 3 0 p (int 3)) p (y_is p 1)))

past_static_traps : (p : Pointer) → outcome (run (past_static p) 10) (1 ∷ []) ≡ trapped 3 (1 ∷ [])
unfolding past_static with_static calls_with
past_static_traps p = refl

-- y = A.a[3]
past_static_read : Pointer → Program
past_static_read p = with_static (set_y p (expr.StaticElement' prim.Int 3 0 p (int 3)))

past_static_read_traps : (p : Pointer) → outcome (run (past_static_read p) 10) (1 ∷ []) ≡ trapped 3 (0 ∷ [])
unfolding past_static_read with_static calls_with
past_static_read_traps p = refl
