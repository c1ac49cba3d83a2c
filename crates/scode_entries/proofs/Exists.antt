-- Each instruction of a typed method's code is one that there is.
use Rattle.std.proofs.Common.{◌≡◌, ◌≢◌, ◌≤◌, ◌<◌, ◌^◌, ℕ, ℤ, ◌+◌, ltb, Bool, true, false, if◌then◌else◌, List, [], ◌∷◌, ◌++◌, length, map, Option, Some, None, refl, sym, ap, subst, ◌∙◌, arith, length-append}
use Rattle.std.specs.Prelude.{All, IfSome, IsTrue, ◌&&◌, slice_get}
use Rattle.std.specs.Int.{w32}
use Rattle.std.specs.Option.{option_map, option_map_or, option_and_then}
use Rattle.std.proofs.lemmas.Bool.{lt-ltb, le-leb, and_from}
use Rattle.std.proofs.lemmas.List.{length-map}
use Rattle.std.proofs.lemmas.Option.{same_Some, none-some, slice_get_within}
use Rattle.sed_value.specs.declared.slot_type.Primitive.{Primitive}
use Rattle.sed_value.specs.declared.slot_type.Primitive.TheVariants as prim
use Rattle.sed_value.specs.Value.{is_signed}
use Rattle.sed_value.proofs.Lists.{at_place}
use Rattle.sed_typed.specs.declared.kind.Kind.{Kind}
use Rattle.sed_typed.specs.declared.kind.Kind.TheVariants as kind
use Rattle.sed_typed.specs.declared.program.Field.{Field}
use Rattle.sed_typed.specs.declared.program.FieldForm.{FieldForm}
use Rattle.sed_typed.specs.declared.program.FieldForm.TheVariants as form
use Rattle.sed_typed.specs.declared.program.Method.{Method}
use Rattle.sed_typed.specs.declared.program.Program.{Program}
use Rattle.sed_typed.specs.declared.schema.ClassInfo.{ClassInfo}
use Rattle.sed_typed.specs.declared.statement.Stmt.{Stmt}
use Rattle.sed_typed.specs.Classes.{base_of, fields, find, method_name}
use Rattle.sed_typed.specs.Locals.{Declared, declared_in}
use Rattle.sed_typed.specs.Spelled.{HasSmallForm, IsSpelledField, IsSpelledMethod}
use Rattle.sed_typed.specs.Typed.{IsBody, IsMethod, locals_of, receiver_of, declared_by}
use Rattle.sed_typed.specs.TypedExpr.{Context, IsInvocation, IsStaticCall, IsSuperCall, IsBuf, field_form, static_form, part_kind, object_class}
use Rattle.sed_engine.proofs.Below.{Below, Itself, Based, found_above, of_some}
use Rattle.sed_engine.proofs.FieldLists.{of_fields}
use Rattle.scode_ops.specs.declared.op.Op.{Op}
use Rattle.scode_ops.specs.declared.op.Op.TheVariants as op
use Rattle.scode_ops.specs.Decoding.{size_of as bytes_of_op}
use Rattle.scode_ops.specs.Codes.{IsOp, fits, operands_of, is_spelled}
use Rattle.scode_entries.specs.Cases.{EachCase, EachCaseOf, Has32Bits}
use Rattle.scode_emit.specs.Code.{body_code}
use Rattle.scode_emit.specs.Instructions.{get_op, put_op, get_element_op, put_element_op, part_op, invoke_op}
use Rattle.scode_emit.specs.Method.{site_of, code_of, size_of}
use Rattle.scode_emit.specs.Site.{Site, Layout, class_of, is_virtual, offset_in, room_in, waiting, waiting_index}
use Rattle.scode_emit.specs.Sizes.{stmt_size, end_size, body_size}
use Rattle.scode_entries.specs.Small.{HasSmallNumbers}
use Rattle.scode_entries.proofs.Admits.{Admits, Each, body_each}
use Rattle.scode_entries.proofs.SpelledCode.{plain_spelled, all_each}

-- ---- instructions whose operands fit

one_byte : (i : Op) → bytes_of_op i ≡ 1 → fits (operands_of i) ≡ true
one_byte (op.Int a) h = absurd (omega (arith, h))
one_byte (op.Long a) h = absurd (omega (arith, h))
one_byte (op.Bool a) h = absurd (omega (arith, h))
one_byte (op.Text a) h = absurd (omega (arith, h))
one_byte (op.Load a) h = absurd (omega (arith, h))
one_byte (op.Store a) h = absurd (omega (arith, h))
one_byte (op.Jump a) h = absurd (omega (arith, h))
one_byte (op.JumpFalse a) h = absurd (omega (arith, h))
one_byte (op.JumpTrue a) h = absurd (omega (arith, h))
one_byte (op.GetBool a) h = absurd (omega (arith, h))
one_byte (op.GetByte a) h = absurd (omega (arith, h))
one_byte (op.GetShort a) h = absurd (omega (arith, h))
one_byte (op.GetInt a) h = absurd (omega (arith, h))
one_byte (op.GetLong a) h = absurd (omega (arith, h))
one_byte (op.PutBool a) h = absurd (omega (arith, h))
one_byte (op.PutByte a) h = absurd (omega (arith, h))
one_byte (op.PutShort a) h = absurd (omega (arith, h))
one_byte (op.PutInt a) h = absurd (omega (arith, h))
one_byte (op.PutLong a) h = absurd (omega (arith, h))
one_byte (op.BufSize a) h = absurd (omega (arith, h))
one_byte (op.Call a) h = absurd (omega (arith, h))
one_byte (op.Inner a b) h = absurd (omega (arith, h))
one_byte (op.Str a b) h = absurd (omega (arith, h))
one_byte (op.BufGet a b) h = absurd (omega (arith, h))
one_byte (op.ArrayGetBool a b) h = absurd (omega (arith, h))
one_byte (op.ArrayGetByte a b) h = absurd (omega (arith, h))
one_byte (op.ArrayGetShort a b) h = absurd (omega (arith, h))
one_byte (op.ArrayGetInt a b) h = absurd (omega (arith, h))
one_byte (op.ArrayGetLong a b) h = absurd (omega (arith, h))
one_byte (op.ArrayPutBool a b) h = absurd (omega (arith, h))
one_byte (op.ArrayPutByte a b) h = absurd (omega (arith, h))
one_byte (op.ArrayPutShort a b) h = absurd (omega (arith, h))
one_byte (op.ArrayPutInt a b) h = absurd (omega (arith, h))
one_byte (op.ArrayPutLong a b) h = absurd (omega (arith, h))
one_byte (op.VirtualCall a b) h = absurd (omega (arith, h))
one_byte i h = refl

plain_is : (i : Op) → bytes_of_op i ≡ 1 → IsOp i
plain_is i h = record { spelled = plain_spelled i h; fits = one_byte i h }

get_is : (p : Primitive) (o : ℕ) → o < 2 ^ 16 → IsOp (get_op p o)
get_is prim.Bool o h = record { spelled = refl; fits = lt-ltb o (2 ^ 16) h }
get_is prim.Byte o h = record { spelled = refl; fits = lt-ltb o (2 ^ 16) h }
get_is prim.Short o h = record { spelled = refl; fits = lt-ltb o (2 ^ 16) h }
get_is prim.Int o h = record { spelled = refl; fits = lt-ltb o (2 ^ 16) h }
get_is prim.Long o h = record { spelled = refl; fits = lt-ltb o (2 ^ 16) h }

put_is : (p : Primitive) (o : ℕ) → o < 2 ^ 16 → IsOp (put_op p o)
put_is prim.Bool o h = record { spelled = refl; fits = lt-ltb o (2 ^ 16) h }
put_is prim.Byte o h = record { spelled = refl; fits = lt-ltb o (2 ^ 16) h }
put_is prim.Short o h = record { spelled = refl; fits = lt-ltb o (2 ^ 16) h }
put_is prim.Int o h = record { spelled = refl; fits = lt-ltb o (2 ^ 16) h }
put_is prim.Long o h = record { spelled = refl; fits = lt-ltb o (2 ^ 16) h }

two_fit : (a b : ℕ) → a < 2 ^ 16 → b < 2 ^ 16 → (ltb a (2 ^ 16) && ltb b (2 ^ 16)) ≡ true
two_fit a b h g = and_from (ltb a (2 ^ 16)) (ltb b (2 ^ 16)) (lt-ltb a (2 ^ 16) h) (lt-ltb b (2 ^ 16) g)

get_at_is : (p : Primitive) (o n : ℕ) → o < 2 ^ 16 → n < 2 ^ 16 → IsOp (get_element_op p o n)
get_at_is prim.Bool o n h g = record { spelled = refl; fits = two_fit o n h g }
get_at_is prim.Byte o n h g = record { spelled = refl; fits = two_fit o n h g }
get_at_is prim.Short o n h g = record { spelled = refl; fits = two_fit o n h g }
get_at_is prim.Int o n h g = record { spelled = refl; fits = two_fit o n h g }
get_at_is prim.Long o n h g = record { spelled = refl; fits = two_fit o n h g }

put_at_is : (p : Primitive) (o n : ℕ) → o < 2 ^ 16 → n < 2 ^ 16 → IsOp (put_element_op p o n)
put_at_is prim.Bool o n h g = record { spelled = refl; fits = two_fit o n h g }
put_at_is prim.Byte o n h g = record { spelled = refl; fits = two_fit o n h g }
put_at_is prim.Short o n h g = record { spelled = refl; fits = two_fit o n h g }
put_at_is prim.Int o n h g = record { spelled = refl; fits = two_fit o n h g }
put_at_is prim.Long o n h g = record { spelled = refl; fits = two_fit o n h g }

inner_is : (o class : ℕ) → o < 2 ^ 16 → class < 2 ^ 16 → IsOp (op.Inner o class)
inner_is o class h g = record { spelled = refl; fits = two_fit o class h g }

part_is : (k : Kind) (o n : ℕ) → o < 2 ^ 16 → n < 2 ^ 16 → class_of k < 2 ^ 16 → IsOp (part_op k o n)
part_is kind.Void o n h g small = inner_is o 0 h small
part_is kind.Bool o n h g small = inner_is o 0 h small
part_is kind.Int o n h g small = inner_is o 0 h small
part_is kind.Long o n h g small = inner_is o 0 h small
part_is kind.Text o n h g small = record { spelled = refl; fits = two_fit o n h g }
part_is (kind.Object class) o n h g small = inner_is o class.0 h small

load_is : (i : ℕ) → i < 2 ^ 8 → IsOp (op.Load i)
load_is i h = record { spelled = refl; fits = lt-ltb i (2 ^ 8) h }

store_is : (i : ℕ) → i < 2 ^ 8 → IsOp (op.Store i)
store_is i h = record { spelled = refl; fits = lt-ltb i (2 ^ 8) h }

call_is : (m : ℕ) → m < 2 ^ 16 → IsOp (op.Call m)
call_is m h = record { spelled = refl; fits = lt-ltb m (2 ^ 16) h }

waits : (w : Site) (p : Primitive) → waiting w p ≤ w.locals + 2
waits w prim.Bool = omega arith
waits w prim.Byte = omega arith
waits w prim.Short = omega arith
waits w prim.Int = omega arith
waits w prim.Long = omega arith

-- ---- forms and classes are small

small_at : (all : List Field) (i : ℕ) (f : FieldForm) → All IsSpelledField all → option_map (λ (x : Field). x.form) (slice_get all i) ≡ Some f → HasSmallForm f
small_at all i f h e = go (slice_get all i) refl e
  where
    go : (o : Option Field) → slice_get all i ≡ o → option_map (λ (x : Field). x.form) o ≡ Some f → HasSmallForm f
    go None is e = absurd (none-some f e)
    go (Some x) is e =
        let small : IsSpelledField x = at_place IsSpelledField all i x h is in
        subst HasSmallForm (same_Some x.form f e) small.form

field_small : (program : Program) (layout : Layout) → HasSmallNumbers program layout → (k : Kind) (i : ℕ) (f : FieldForm) → field_form program k i ≡ Some f → HasSmallForm f
field_small program layout s (kind.Object d) i f e = small_at (fields program d.0) i f (of_fields IsSpelledField program s.spelled.fields d.0) e
field_small program layout s kind.Void i f e = absurd (none-some f e)
field_small program layout s kind.Bool i f e = absurd (none-some f e)
field_small program layout s kind.Int i f e = absurd (none-some f e)
field_small program layout s kind.Long i f e = absurd (none-some f e)
field_small program layout s kind.Text i f e = absurd (none-some f e)

static_small : (program : Program) (layout : Layout) → HasSmallNumbers program layout → (i : ℕ) (f : FieldForm) → static_form program i ≡ Some f → HasSmallForm f
static_small program layout s i f e = small_at program.statics i f s.spelled.statics e

-- the class of a part
class_small : (o : Option FieldForm) (k : Kind) → ((f : FieldForm) → o ≡ Some f → HasSmallForm f) → option_and_then part_kind o ≡ Some k → class_of k < 2 ^ 16
class_small None k h e = absurd (none-some k e)
class_small (Some (form.Prim p)) k h e = absurd (none-some k e)
class_small (Some (form.Str n)) k h e = let P : Kind → Type 0 = λ l. class_of l < 2 ^ 16 in subst P (same_Some kind.Text k e) (omega arith)
class_small (Some (form.Buf n)) k h e = absurd (none-some k e)
class_small (Some (form.Array p n)) k h e = absurd (none-some k e)
class_small (Some (form.Object t)) k h e = let P : Kind → Type 0 = λ l. class_of l < 2 ^ 16 in subst P (same_Some (kind.Object t) k e) (h (form.Object t) refl)

-- a class with a base is there
with_base : (classes : List ClassInfo) (class base : ℕ) → base_of classes class ≡ Some base → class < length classes
with_base classes class base e = go (slice_get classes class) refl e
  where
    go : (o : Option ClassInfo) → slice_get classes class ≡ o → option_and_then (λ (info : ClassInfo). option_map (λ b. b.0) info.base) o ≡ Some base → class < length classes
    go None is e = absurd (none-some base e)
    go (Some info) is e = slice_get_within classes class info is

-- and so is one in which a method is found
found_small : (program : Program) (layout : Layout) → HasSmallNumbers program layout → (class m : ℕ) (name : List ℕ) (x : Method) → find program class name ≡ Some m → slice_get program.methods m ≡ Some x → class < 2 ^ 16
found_small program layout s class m name x found is =
    let small : IsSpelledMethod x = at_place IsSpelledMethod program.methods m x s.spelled.methods is in
    by_way class x.class.0 (found_above program class m name x found is).0 small.class
  where
    by_way : (class above : ℕ) → Below program.schema.classes above class → above < 2 ^ 16 → class < 2 ^ 16
    by_way class above Itself small = small
    by_way class above (Based base c e rest) small = omega (arith, with_base program.schema.classes class base e, s.classes)

invoked_small : (program : Program) (layout : Layout) → HasSmallNumbers program layout → (k : Kind) (m : ℕ) (l : Kind) (args : List Kind) → IsInvocation program (object_class k) m l args → class_of k < 2 ^ 16
invoked_small program layout s (kind.Object d) m l args h =
    let x = of_some (slice_get program.methods m) h.1 in
    found_small program layout s d.0 m (method_name program m) x.0 h.0 x.1
invoked_small program layout s kind.Void m l args h = omega arith
invoked_small program layout s kind.Bool m l args h = omega arith
invoked_small program layout s kind.Int m l args h = omega arith
invoked_small program layout s kind.Long m l args h = omega arith
invoked_small program layout s kind.Text m l args h = omega arith

method_small : (program : Program) (layout : Layout) → HasSmallNumbers program layout → (m : ℕ) (x : Method) → slice_get program.methods m ≡ Some x → m < 2 ^ 16
method_small program layout s m x is = omega (arith, slice_get_within program.methods m x is, s.methods)

invoke_is : (w : Site) (k : Kind) (m : ℕ) → m < 2 ^ 16 → class_of k < 2 ^ 16 → w.layout.table_place (class_of k) m < 2 ^ 8 → IsOp (invoke_op w k m)
invoke_is w k m h g p = cases (is_virtual w m)
  where
    cases : (b : Bool) → IsOp (if b then op.VirtualCall (class_of k) (w.layout.table_place (class_of k) m) else op.Call m)
    cases true = record {
      spelled = refl;
      fits = and_from (ltb (class_of k) (2 ^ 16)) (ltb (w.layout.table_place (class_of k) m) (2 ^ 8)) (lt-ltb (class_of k) (2 ^ 16) g) (lt-ltb (w.layout.table_place (class_of k) m) (2 ^ 8) p);
    }
    cases false = call_is m h

-- ---- of which code is made

admits : (c : Context) (w : Site) → HasSmallNumbers c.program w.layout → length c.locals ≤ 250 → w.locals ≤ 250 → Admits
admits c w s few room = record {
  c = c;
  w = w;
  limit = 65535;
  P = IsOp;
  Q = Has32Bits;
  plain = plain_is;
  int = λ n h. record { spelled = refl; fits = h };
  case = λ n h. record { spelled = refl; fits = h };
  long = λ n h. record { spelled = refl; fits = h };
  truth = λ t h. record { spelled = le-leb t 2 h; fits = lt-ltb t (2 ^ 8) (omega (arith, h)) };
  text = λ n h. record { spelled = refl; fits = lt-ltb n (2 ^ 16) (omega (arith, h, s.texts)) };
  receiver = λ h. load_is 0 (omega arith);
  load = λ i k h. load_is i (omega (arith, slice_get_within c.locals i k h, few));
  store = λ i k h. store_is i (omega (arith, slice_get_within c.locals i k h, few));
  load_waiting = λ p. load_is (waiting w p) (omega (arith, waits w p, room));
  store_waiting = λ p. store_is (waiting w p) (omega (arith, waits w p, room));
  load_index = load_is (waiting_index w) (omega (arith, room));
  store_index = store_is (waiting_index w) (omega (arith, room));
  jump = λ to h. record { spelled = refl; fits = lt-ltb to (2 ^ 16) (omega (arith, h)) };
  jump_false = λ to h. record { spelled = refl; fits = lt-ltb to (2 ^ 16) (omega (arith, h)) };
  jump_true = λ to h. record { spelled = refl; fits = lt-ltb to (2 ^ 16) (omega (arith, h)) };
  get = λ k i p h. get_is p (offset_in w k i) (s.offset (class_of k) i);
  put = λ k i p h. put_is p (offset_in w k i) (s.offset (class_of k) i);
  get_static = λ i p h. get_is p (w.layout.static_offset i) (s.static_offset i);
  put_static = λ i p h. put_is p (w.layout.static_offset i) (s.static_offset i);
  get_at = λ k i n p h. get_at_is p (offset_in w k i) n (s.offset (class_of k) i) (field_small c.program w.layout s k i (form.Array p n) h);
  put_at = λ k i n p h. put_at_is p (offset_in w k i) n (s.offset (class_of k) i) (field_small c.program w.layout s k i (form.Array p n) h);
  get_static_at = λ i n p h. get_at_is p (w.layout.static_offset i) n (s.static_offset i) (static_small c.program w.layout s i (form.Array p n) h);
  put_static_at = λ i n p h. put_at_is p (w.layout.static_offset i) n (s.static_offset i) (static_small c.program w.layout s i (form.Array p n) h);
  part = λ k i l h. part_is l (offset_in w k i) (room_in w k i) (s.offset (class_of k) i) (s.room (class_of k) i)
      (class_small (field_form c.program k i) l (field_small c.program w.layout s k i) h);
  static_part = λ i l h. part_is l (w.layout.static_offset i) (w.layout.static_room i) (s.static_offset i) (s.static_room i)
      (class_small (static_form c.program i) l (static_small c.program w.layout s i) h);
  size = λ k i h. record { spelled = refl; fits = lt-ltb (offset_in w k i) (2 ^ 16) (s.offset (class_of k) i) };
  byte = λ k i h. record { spelled = refl; fits = two_fit (offset_in w k i) (room_in w k i) (s.offset (class_of k) i) (s.room (class_of k) i) };
  static_call = λ m k args h. let x = of_some (slice_get c.program.methods m) h in call_is m (method_small c.program w.layout s m x.0 x.1);
  super_call = λ m k args h. let x = of_some (slice_get c.program.methods m) h.1 in call_is m (method_small c.program w.layout s m x.0 x.1);
  invoke = λ k m l args h. let x = of_some (slice_get c.program.methods m) h.1 in
      invoke_is w k m (method_small c.program w.layout s m x.0 x.1) (invoked_small c.program w.layout s k m l args h) (s.table_place (class_of k) m);
}

receiver_one : (m : Method) → length (receiver_of m) ≤ 1
receiver_one m = cases m.is_static
  where
    cases : (b : Bool) → length (if b then [] else kind.Object m.class ∷ []) ≤ 1
    cases true = omega arith
    cases false = omega arith

pub few_locals : (m : Method) → length m.params + length (declared_by m) ≤ 64 → length (locals_of m) ≤ 65
few_locals m h =
    let kinds = map (λ (d : Declared). d.kind) (declared_by m) in
    omega (arith, h, receiver_one m, length-append (receiver_of m ++ m.params) kinds, length-append (receiver_of m) m.params, length-map (declared_by m) (λ (d : Declared). d.kind))

declared_few : (program : Program) (m : Method) (o : Option Stmt) → m.body ≡ o → IfSome o (IsBody program m) → length (declared_by m) ≤ 64
declared_few program m None e h =
    let none : length (declared_by m) ≡ 0 = ap (λ (b : Option Stmt). length (option_map_or declared_in b [])) e in
    omega (arith, none)
declared_few program m (Some body) e h = omega (arith, h.most_locals)

pub locals_fit : (program : Program) (m : Method) → IsMethod program m → length (locals_of m) ≤ 250
locals_fit program m h =
    let kinds = map (λ (d : Declared). d.kind) (declared_by m) in
    omega (arith, h.params_most, declared_few program m m.body refl h.body, receiver_one m, length-append (receiver_of m ++ m.params) kinds, length-append (receiver_of m) m.params, length-map (declared_by m) (λ (d : Declared). d.kind))

by_body : (program : Program) (layout : Layout) (m : Method) (o : Option Stmt) → HasSmallNumbers program layout → IfSome o (IsBody program m) → EachCaseOf Has32Bits o →
    body_size (site_of program layout m) m.result o ≤ 65535 → Each IsOp (body_code (site_of program layout m) m.result o)
unfolding admits
by_body program layout m None s h q le = tt
by_body program layout m (Some body) s h q le =
    let c : Context = record { program = program; class = m.class.0; is_static = m.is_static; locals = locals_of m; result = m.result } in
    let few = few_locals m h.most_locals in
    body_each (admits c (site_of program layout m) s (omega (arith, few)) (omega (arith, few))) (record { breaks = false; continues = false }) m.result body h.typed q (omega (arith, le))

pub code_exists : (program : Program) (layout : Layout) (m : Method) → HasSmallNumbers program layout → IsMethod program m → EachCaseOf Has32Bits m.body →
    size_of program layout m ≤ 65535 → All IsOp (code_of program layout m)
code_exists program layout m s h q le = all_each IsOp (code_of program layout m) (by_body program layout m m.body s h.body q le)
