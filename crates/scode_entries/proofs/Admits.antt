-- Of which instructions code is made: what holds of each that a typed tree's forms are compiled to holds of all its code.
use Rattle.std.proofs.Common.{◌≡◌, ◌≤◌, ◌<◌, ℕ, ℤ, pos, ◌+◌, ◌==◌, Bool, true, false, if◌then◌else◌, List, [], ◌∷◌, ◌++◌, length, drop, slice_get, Option, Some, None, refl, arith}
use mathlib.Core.Former.{Count}
use Rattle.std.specs.Int.{w32, w64}
use Rattle.std.specs.Prelude.{All, IsTrue}
use Rattle.std.proofs.lemmas.List.Elements.{All-head, All-tail}
use Rattle.std.specs.Option.{option_and_then}
use Rattle.sed_value.specs.declared.slot_type.Primitive.{Primitive}
use Rattle.sed_value.specs.declared.slot_type.Primitive.TheVariants as prim
use Rattle.sed_value.specs.Value.{is_signed}
use Rattle.sed_typed.specs.declared.kind.Kind.{Kind}
use Rattle.sed_typed.specs.declared.kind.Kind.TheVariants as kind
use Rattle.sed_typed.specs.declared.operators.Gives.{Gives}
use Rattle.sed_typed.specs.declared.operators.Gives.TheVariants.{Old, New}
use Rattle.sed_typed.specs.declared.operators.Unary.{Unary}
use Rattle.sed_typed.specs.declared.operators.Unary.TheVariants as unary
use Rattle.sed_typed.specs.declared.operators.Width.TheVariants as width
use Rattle.sed_typed.specs.declared.program.FieldForm.TheVariants as form
use Rattle.sed_typed.specs.declared.statement.Label.{Label}
use Rattle.sed_typed.specs.declared.statement.Label.TheVariants.{Case, Default}
use Rattle.sed_typed.specs.declared.statement.Stmt.{Stmt, Row_of-Stmt, end_of-Stmt, more_of-Stmt}
use Rattle.sed_typed.specs.declared.statement.Stmt.TheVariants as stmt
use Rattle.sed_typed.specs.declared.tree.Place.{Place}
use Rattle.sed_typed.specs.declared.tree.Place.TheVariants as place
use Rattle.sed_typed.specs.declared.tree.Expr.{Expr, Row_of-Expr, end_of-Expr, more_of-Expr, Row_of-Link, end_of-Link, more_of-Link}
use Rattle.sed_typed.specs.declared.tree.Expr.TheVariants as expr
use Rattle.sed_typed.specs.declared.tree.Link.{Link}
use Rattle.sed_typed.specs.declared.tree.Link.TheVariants as link
use Rattle.sed_typed.specs.Kinds.{kind_of, link_kind}
use Rattle.sed_typed.specs.TypedExpr.{Context, IsExpr, IsPlace, IsLink, AreExprs, AreLinks, IsStaticCall, IsSuperCall, IsInvocation, IsBuf, field_form, static_form, part_kind, object_class}
use Rattle.sed_typed.specs.TypedStmt.{Around, IsStmt, AreStmts, IsBegun, IsTest, IsLast, IsReturned, in_loop, in_switch}
use Rattle.scode_ops.specs.declared.op.Op.{Op}
use Rattle.scode_ops.specs.declared.op.Op.TheVariants as op
use Rattle.scode_ops.specs.Decoding.{size_of}
use Rattle.scode_emit.specs.declared.storage.Storage.{Storage}
use Rattle.scode_emit.specs.declared.storage.Storage.TheVariants.{InLocal, InField, InElement}
use Rattle.scode_emit.specs.Site.{Site, waiting, waiting_index, offset_in, room_in}
use Rattle.scode_emit.specs.Instructions.{arithmetic_op, binary_op, unary_code, text_op, zero_op, pop_code, pop_size, get_op, put_op, get_element_op, put_element_op, part_op, narrow_code, invoke_op, storage, put_code, around, keep_code, fetch_code, fetch_old_code, put_old_code, before_code, before_size, behind_code, fetch_size}
use Rattle.scode_emit.specs.Sizes.{expr_size, place_size, link_size, exprs_size, links_size, drop_size, begin_size, test_size, last_size, over_size, tests_size, stmt_size, stmts_size, end_size, body_size}
use Rattle.scode_emit.specs.Code.{expr_code, place_code, link_code, exprs_code, links_code, drop_code, begin_code, test_code, last_code, over_code, begins, first_of, tests_code, default_place, stmt_code, stmts_code, end_code, body_code}
use Rattle.scode_entries.specs.Cases.{HasLabel, EachCase, EachCases}
use Rattle.scode_emit.proofs.Counts.{arithmetic_sized, binary_sized, text_sized}

abbrev pub Each : {X : Type 0} → (X → Type 0) → List X → Type 0
Each P [] = Unit {0}
Each P (x ∷ xs) = P x × Each P xs

pub each-append : {X : Type 0} (P : X → Type 0) (xs ys : List X) → Each P xs → Each P ys → Each P (xs ++ ys)
each-append P [] ys h g = g
each-append P (x ∷ xs) ys h g = (h.0, each-append P xs ys h.1 g)

-- what is asked of an instruction, of a case, and of the places of jumps; and that it holds of each of these
pub record Admits : Type 1 where
  pub c : Context
  pub w : Site
  pub limit : ℕ
  pub P : Op → Type 0
  pub Q : ℤ → Type 0
  -- those of one byte have no operands
  pub plain : (i : Op) → size_of i ≡ 1 → P i
  pub int : (n : ℤ) → IsTrue (is_signed w32 n) → P (op.Int n)
  pub case : (n : ℤ) → Q n → P (op.Int n)
  pub long : (n : ℤ) → IsTrue (is_signed w64 n) → P (op.Long n)
  pub truth : (t : ℕ) → t ≤ 2 → P (op.Bool t)
  pub text : (n : ℕ) → n < length c.program.texts → P (op.Text n)
  pub receiver : c.is_static ≡ false → P (op.Load 0)
  pub load : (i : ℕ) (k : Kind) → slice_get c.locals i ≡ Some k → P (op.Load i)
  pub store : (i : ℕ) (k : Kind) → slice_get c.locals i ≡ Some k → P (op.Store i)
  pub load_waiting : (p : Primitive) → P (op.Load (waiting w p))
  pub store_waiting : (p : Primitive) → P (op.Store (waiting w p))
  pub load_index : P (op.Load (waiting_index w))
  pub store_index : P (op.Store (waiting_index w))
  pub jump : (to : ℕ) → to ≤ limit → P (op.Jump to)
  pub jump_false : (to : ℕ) → to ≤ limit → P (op.JumpFalse to)
  pub jump_true : (to : ℕ) → to ≤ limit → P (op.JumpTrue to)
  pub get : (k : Kind) (i : ℕ) (p : Primitive) → field_form c.program k i ≡ Some (form.Prim p) → P (get_op p (offset_in w k i))
  pub put : (k : Kind) (i : ℕ) (p : Primitive) → field_form c.program k i ≡ Some (form.Prim p) → P (put_op p (offset_in w k i))
  pub get_static : (i : ℕ) (p : Primitive) → static_form c.program i ≡ Some (form.Prim p) → P (get_op p (w.layout.static_offset i))
  pub put_static : (i : ℕ) (p : Primitive) → static_form c.program i ≡ Some (form.Prim p) → P (put_op p (w.layout.static_offset i))
  pub get_at : (k : Kind) (i n : ℕ) (p : Primitive) → field_form c.program k i ≡ Some (form.Array p n) → P (get_element_op p (offset_in w k i) n)
  pub put_at : (k : Kind) (i n : ℕ) (p : Primitive) → field_form c.program k i ≡ Some (form.Array p n) → P (put_element_op p (offset_in w k i) n)
  pub get_static_at : (i n : ℕ) (p : Primitive) → static_form c.program i ≡ Some (form.Array p n) → P (get_element_op p (w.layout.static_offset i) n)
  pub put_static_at : (i n : ℕ) (p : Primitive) → static_form c.program i ≡ Some (form.Array p n) → P (put_element_op p (w.layout.static_offset i) n)
  pub part : (k : Kind) (i : ℕ) (l : Kind) → option_and_then part_kind (field_form c.program k i) ≡ Some l → P (part_op l (offset_in w k i) (room_in w k i))
  pub static_part : (i : ℕ) (l : Kind) → option_and_then part_kind (static_form c.program i) ≡ Some l → P (part_op l (w.layout.static_offset i) (w.layout.static_room i))
  pub size : (k : Kind) (i : ℕ) → IsBuf (field_form c.program k i) → P (op.BufSize (offset_in w k i))
  pub byte : (k : Kind) (i : ℕ) → IsBuf (field_form c.program k i) → P (op.BufGet (offset_in w k i) (room_in w k i))
  pub static_call : (m : ℕ) (k : Kind) (args : List Kind) → IsStaticCall c.program m k args → P (op.Call m)
  pub super_call : (m : ℕ) (k : Kind) (args : List Kind) → IsSuperCall c.program c.class m k args → P (op.Call m)
  pub invoke : (k : Kind) (m : ℕ) (l : Kind) (args : List Kind) → IsInvocation c.program (object_class k) m l args → P (invoke_op w k m)

join : (a : Admits) (xs ys : List Op) → Each a.P xs → Each a.P ys → Each a.P (xs ++ ys)
join a xs ys h g = each-append a.P xs ys h g

-- ---- operators and values

unary_each : (a : Admits) (u : Unary) → Each a.P (unary_code u)
unary_each a unary.Not = (a.plain op.Not refl, tt)
unary_each a (unary.Negate width.Int) = (a.plain op.IntNeg refl, tt)
unary_each a (unary.Negate width.Long) = (a.plain op.LongNeg refl, tt)
unary_each a (unary.Flip width.Int) = (a.plain op.IntNot refl, tt)
unary_each a (unary.Flip width.Long) = (a.plain op.LongNot refl, tt)
unary_each a unary.ToLong = (a.plain op.IntToLong refl, tt)
unary_each a unary.ToInt = (a.plain op.LongToInt refl, tt)
unary_each a (unary.LowByte width.Int) = (a.plain op.IntToByte refl, tt)
unary_each a (unary.LowByte width.Long) = (a.plain op.LongToInt refl, (a.plain op.IntToByte refl, tt))
unary_each a (unary.LowShort width.Int) = (a.plain op.IntToShort refl, tt)
unary_each a (unary.LowShort width.Long) = (a.plain op.LongToInt refl, (a.plain op.IntToShort refl, tt))

zero_is : (a : Admits) (k : Kind) → a.P (zero_op k)
zero_is a kind.Void = a.plain op.Null refl
zero_is a kind.Bool = a.truth 0 (omega arith)
zero_is a kind.Int = a.int (pos 0) refl
zero_is a kind.Long = a.long (pos 0) refl
zero_is a kind.Text = a.plain op.Null refl
zero_is a (kind.Object class) = a.plain op.Null refl

pop_each : (a : Admits) (k : Kind) → Each a.P (pop_code k)
pop_each a kind.Void = tt
pop_each a kind.Bool = (a.plain op.Pop refl, tt)
pop_each a kind.Int = (a.plain op.Pop refl, tt)
pop_each a kind.Long = (a.plain op.Pop refl, tt)
pop_each a kind.Text = (a.plain op.Pop refl, tt)
pop_each a (kind.Object class) = (a.plain op.Pop refl, tt)

narrow_each : (a : Admits) (p : Primitive) → Each a.P (narrow_code p)
narrow_each a prim.Bool = tt
narrow_each a prim.Byte = (a.plain op.IntToByte refl, tt)
narrow_each a prim.Short = (a.plain op.IntToShort refl, tt)
narrow_each a prim.Int = tt
narrow_each a prim.Long = tt

-- ---- what may be assigned to

abbrev Stored : Admits → Storage → Type 0
Stored a (InLocal i) = a.P (op.Load i) × a.P (op.Store i)
Stored a (InField p offset) = a.P (get_op p offset) × a.P (put_op p offset)
Stored a (InElement p offset n) = a.P (get_element_op p offset n) × a.P (put_element_op p offset n)

stored : (a : Admits) (target : Place) → IsPlace a.c target → Stored a (storage a.w target)
stored a (place.Local k i) h = (a.load i k h.0, a.store i k h.0)
stored a (place.Static p i) h = (a.get_static i p h, a.put_static i p h)
stored a (place.Field' p q e i) h = (a.get (kind_of e) i p h.1, a.put (kind_of e) i p h.1)
stored a (place.Element' p n q e f r i) h = (a.get_at (kind_of e) f n p h.1, a.put_at (kind_of e) f n p h.1)
stored a (place.StaticElement' p n i q e) h = (a.get_static_at i n p h.0, a.put_static_at i n p h.0)

put_each : (a : Admits) (s : Storage) → Stored a s → Each a.P (put_code s)
put_each a (InLocal i) h = (h.1, tt)
put_each a (InField p offset) h = (h.1, tt)
put_each a (InElement p offset n) h = (h.1, tt)

around_each : (a : Admits) (p : Primitive) (put : Op) → a.P put → Each a.P (around a.w p put)
around_each a p put h =
    join a (narrow_code p) (op.Store (waiting a.w p) ∷ op.Load (waiting a.w p) ∷ put ∷ op.Load (waiting a.w p) ∷ [])
    (narrow_each a p) (a.store_waiting p, (a.load_waiting p, (h, (a.load_waiting p, tt))))

keep_each : (a : Admits) (s : Storage) → Stored a s → Each a.P (keep_code a.w s)
keep_each a (InLocal i) h = (a.plain op.Dup refl, (h.1, tt))
keep_each a (InField p offset) h = around_each a p (put_op p offset) h.1
keep_each a (InElement p offset n) h = around_each a p (put_element_op p offset n) h.1

fetch_each : (a : Admits) (s : Storage) → Stored a s → Each a.P (fetch_code a.w s)
fetch_each a (InLocal i) h = (h.0, tt)
fetch_each a (InField p offset) h = (a.plain op.Dup refl, (h.0, tt))
fetch_each a (InElement p offset n) h =
    (a.store_index, (a.plain op.Dup refl, (a.load_index, (h.0, (a.store_waiting p, (a.load_index, (a.load_waiting p, tt)))))))

before_each : (a : Admits) (g : Gives) (s : Storage) → Stored a s → Each a.P (before_code a.w g s)
before_each a New s h = fetch_each a s h
before_each a Old (InLocal i) h = (h.0, (a.plain op.Dup refl, tt))
before_each a Old (InField p offset) h =
    (a.plain op.Dup refl, (h.0, (a.store_waiting p, (a.load_waiting p, tt))))
before_each a Old (InElement p offset n) h = fetch_each a (InElement p offset n) h

behind_each : (a : Admits) (g : Gives) (s : Storage) → Stored a s → Each a.P (behind_code a.w g s)
behind_each a New s h = keep_each a s h
behind_each a Old (InLocal i) h = (h.1, tt)
behind_each a Old (InField p offset) h = (h.1, (a.load_waiting p, tt))
behind_each a Old (InElement p offset n) h = (h.1, (a.load_waiting p, tt))

-- ---- expressions

mutual
  pub expr_each : (a : Admits) (at : ℕ) (e : Expr) → IsExpr a.c e → at + expr_size a.w e ≤ a.limit → Each a.P (expr_code a.w at e)
  expr_each a at (expr.Int n) h le = (a.int n h, tt)
  expr_each a at (expr.Long n) h le = (a.long n h, tt)
  expr_each a at (expr.Bool t) h le = (a.truth t h, tt)
  expr_each a at (expr.Null k) h le = (a.plain op.Null refl, tt)
  expr_each a at (expr.Text n) h le = (a.text n h, tt)
  expr_each a at (expr.This class) h le = (a.receiver h.0, tt)
  expr_each a at (expr.Local k i) h le = (a.load i k h, tt)
  expr_each a at (expr.Static p i) h le = (a.plain op.Statics refl, (a.get_static i p h, tt))
  expr_each a at (expr.StaticPart k i) h le = (a.plain op.Statics refl, (a.static_part i k h, tt))
  expr_each a at (expr.StaticElement' p n i q e) h le =
      let get = get_element_op p (a.w.layout.static_offset i) n in
      (a.plain op.Statics refl, join a (expr_code a.w (at + 1) e) (get ∷ []) (expr_each a (at + 1) e h.1 (omega (arith, le))) (a.get_static_at i n p h.0, tt))
  expr_each a at expr.Ticks h le = (a.plain op.Ticks refl, tt)
  expr_each a at (expr.Unary' u p e) h le =
      join a (expr_code a.w at e) (unary_code u) (expr_each a at e h.0 (omega (arith, le))) (unary_each a u)
  expr_each a at (expr.Choose' p t q x r y) h le =
      let first = at + expr_size a.w t + 3 in
      let second = first + expr_size a.w x + 3 in
      let end = second + expr_size a.w y in
      join a (expr_code a.w at t) (op.JumpFalse second ∷ (expr_code a.w first x ++ op.Jump end ∷ expr_code a.w second y))
      (expr_each a at t h.0 (omega (arith, le))) (
        a.jump_false second (omega (arith, le)),
        join a (expr_code a.w first x) (op.Jump end ∷ expr_code a.w second y) (expr_each a first x h.1 (omega (arith, le)))
            (a.jump end (omega (arith, le)), expr_each a second y h.2 (omega (arith, le))),
      )
  expr_each a at (expr.Set' target p e) h le =
      let next = at + place_size a.w target in
      let keep = keep_code a.w (storage a.w target) in
      join a (place_code a.w at target) (expr_code a.w next e ++ keep) (place_each a at target h.0 (omega (arith, le)))
      (join a (expr_code a.w next e) keep (expr_each a next e h.1 (omega (arith, le)))
      (keep_each a (storage a.w target) (stored a target h.0)))
  expr_each a at (expr.Update' u target p e) h le =
      let s = storage a.w target in
      let next = at + place_size a.w target + before_size u.gives s in
      let compute = arithmetic_op u.arithmetic u.width in
      let behind = behind_code a.w u.gives s in
      join a (place_code a.w at target) (before_code a.w u.gives s ++ (expr_code a.w next e ++ compute ∷ behind))
      (place_each a at target h.0 (omega (arith, le)))
      (join a (before_code a.w u.gives s) (expr_code a.w next e ++ compute ∷ behind) (before_each a u.gives s (stored a target h.0))
      (join a (expr_code a.w next e) (compute ∷ behind) (expr_each a next e h.1 (omega (arith, le)))
      (a.plain compute (arithmetic_sized u.arithmetic u.width), behind_each a u.gives s (stored a target h.0))))
  expr_each a at (expr.Call' k m shape args) h le =
      join a (exprs_code a.w at args) (op.Call m ∷ []) (exprs_each a at args h.0 (omega (arith, le))) (a.static_call m k _ h.1, tt)
  expr_each a at (expr.Super' k m shape args) h le = (
    a.receiver h.1,
    join a (exprs_code a.w (at + 2) args) (op.Call m ∷ []) (exprs_each a (at + 2) args h.0 (omega (arith, le))) (a.super_call m k _ h.2, tt),
  )
  expr_each a at (expr.Chain' p e shape links) h le =
      let next = at + expr_size a.w e in
      join a (expr_code a.w at e) (links_code a.w next (kind_of e) links) (expr_each a at e h.0 (omega (arith, le)))
      (links_each a next (kind_of e) links h.1 (omega (arith, le)))

  pub place_each : (a : Admits) (at : ℕ) (target : Place) → IsPlace a.c target → at + place_size a.w target ≤ a.limit → Each a.P (place_code a.w at target)
  place_each a at (place.Local k i) h le = tt
  place_each a at (place.Static p i) h le = (a.plain op.Statics refl, tt)
  place_each a at (place.Field' p q e i) h le = expr_each a at e h.0 le
  place_each a at (place.Element' p n q e f r i) h le =
      let next = at + expr_size a.w e in
      join a (expr_code a.w at e) (expr_code a.w next i) (expr_each a at e h.0 (omega (arith, le))) (expr_each a next i h.2 (omega (arith, le)))
  place_each a at (place.StaticElement' p n i q e) h le = (a.plain op.Statics refl, expr_each a (at + 1) e h.1 (omega (arith, le)))

  pub link_each : (a : Admits) (at : ℕ) (k : Kind) (l : Link) → IsLink a.c k l → at + link_size a.w k l ≤ a.limit → Each a.P (link_code a.w at k l)
  link_each a at k (link.Binary b e) h le =
      join a (expr_code a.w at e) (binary_op b ∷ []) (expr_each a at e h.0 (omega (arith, le))) (a.plain (binary_op b) (binary_sized b), tt)
  link_each a at k (link.And e) h le =
      let unmet = at + 3 + expr_size a.w e + 5 in (
        a.jump_false unmet (omega (arith, le)),
        join a (expr_code a.w (at + 3) e) (op.Not ∷ op.Not ∷ op.Jump (unmet + 2) ∷ op.Bool 0 ∷ []) (expr_each a (at + 3) e h.0 (omega (arith, le)))
            (a.plain op.Not refl, (a.plain op.Not refl, (a.jump (unmet + 2) (omega (arith, le)), (a.truth 0 (omega arith), tt)))),
      )
  link_each a at k (link.Or e) h le =
      let met = at + 3 + expr_size a.w e + 5 in (
        a.jump_true met (omega (arith, le)),
        join a (expr_code a.w (at + 3) e) (op.Not ∷ op.Not ∷ op.Jump (met + 2) ∷ op.Bool 1 ∷ []) (expr_each a (at + 3) e h.0 (omega (arith, le)))
            (a.plain op.Not refl, (a.plain op.Not refl, (a.jump (met + 2) (omega (arith, le)), (a.truth 1 (omega arith), tt)))),
      )
  link_each a at k (link.Field p i) h le = (a.get k i p h, tt)
  link_each a at k (link.Part l i) h le = (a.part k i l h, tt)
  link_each a at k (link.Element p n i e) h le =
      join a (expr_code a.w at e) (get_element_op p (offset_in a.w k i) n ∷ []) (expr_each a at e h.1 (omega (arith, le))) (a.get_at k i n p h.0, tt)
  link_each a at k (link.Size i) h le = (a.size k i h, tt)
  link_each a at k (link.Byte i e) h le =
      join a (expr_code a.w at e) (op.BufGet (offset_in a.w k i) (room_in a.w k i) ∷ []) (expr_each a at e h.1 (omega (arith, le))) (a.byte k i h.0, tt)
  link_each a at k (link.Invoke' l m shape args) h le =
      join a (exprs_code a.w at args) (invoke_op a.w k m ∷ []) (exprs_each a at args h.0 (omega (arith, le))) (a.invoke k m l _ h.1, tt)
  link_each a at k (link.TextCall' call shape args) h le =
      join a (exprs_code a.w at args) (text_op call ∷ []) (exprs_each a at args h.0 (omega (arith, le))) (a.plain (text_op call) (text_sized call), tt)
  link_each a at k (link.After e) h le =
      join a (pop_code k) (expr_code a.w (at + pop_size k) e) (pop_each a k) (expr_each a (at + pop_size k) e h (omega (arith, le)))

  pub exprs_each : {n : Count} (a : Admits) (at : ℕ) (es : Row_of-Expr n) → AreExprs a.c es → at + exprs_size a.w es ≤ a.limit → Each a.P (exprs_code a.w at es)
  exprs_each a at end_of-Expr h le = tt
  exprs_each a at (more_of-Expr e es) h le =
      let next = at + expr_size a.w e in
      join a (expr_code a.w at e) (exprs_code a.w next es) (expr_each a at e h.0 (omega (arith, le))) (exprs_each a next es h.1 (omega (arith, le)))

  pub links_each : {n : Count} (a : Admits) (at : ℕ) (k : Kind) (ls : Row_of-Link n) → AreLinks a.c k ls → at + links_size a.w k ls ≤ a.limit → Each a.P (links_code a.w at k ls)
  links_each a at k end_of-Link h le = tt
  links_each a at k (more_of-Link l ls) h le =
      let next = at + link_size a.w k l in
      join a (link_code a.w at k l) (links_code a.w next (link_kind l) ls) (link_each a at k l h.0 (omega (arith, le)))
      (links_each a next (link_kind l) ls h.1 (omega (arith, le)))

-- ---- parts of statements

taken_each : (a : Admits) (at : ℕ) (e : Expr) → IsExpr a.c e → at + (expr_size a.w e + pop_size (kind_of e)) ≤ a.limit → Each a.P (expr_code a.w at e ++ pop_code (kind_of e))
taken_each a at e h le = join a (expr_code a.w at e) (pop_code (kind_of e)) (expr_each a at e h (omega (arith, le))) (pop_each a (kind_of e))

drop_each : (a : Admits) (at : ℕ) (e : Expr) → IsExpr a.c e → at + drop_size a.w e ≤ a.limit → Each a.P (drop_code a.w at e)
drop_each a at (expr.Set' target p e) h le =
    let next = at + place_size a.w target in
    let put = put_code (storage a.w target) in
    join a (place_code a.w at target) (expr_code a.w next e ++ put) (place_each a at target h.0 (omega (arith, le)))
    (join a (expr_code a.w next e) put (expr_each a next e h.1 (omega (arith, le))) (put_each a (storage a.w target) (stored a target h.0)))
drop_each a at (expr.Update' u target p e) h le =
    let s = storage a.w target in
    let next = at + place_size a.w target + fetch_size s in
    let compute = arithmetic_op u.arithmetic u.width in
    join a (place_code a.w at target) (fetch_code a.w s ++ (expr_code a.w next e ++ compute ∷ put_code s))
    (place_each a at target h.0 (omega (arith, le)))
    (join a (fetch_code a.w s) (expr_code a.w next e ++ compute ∷ put_code s) (fetch_each a s (stored a target h.0))
    (join a (expr_code a.w next e) (compute ∷ put_code s) (expr_each a next e h.1 (omega (arith, le)))
    (a.plain compute (arithmetic_sized u.arithmetic u.width), put_each a s (stored a target h.0))))
drop_each a at e h le = taken_each a at e h le

begin_each : (a : Admits) (at : ℕ) (k : Kind) (e : Option Expr) → IsBegun a.c k e → at + begin_size a.w k e ≤ a.limit → Each a.P (begin_code a.w at k e)
begin_each a at k None h le = (zero_is a k, tt)
begin_each a at k (Some e) h le = expr_each a at e h.0 le

test_each : (a : Admits) (at : ℕ) (e : Option Expr) → IsTest a.c e → at + test_size a.w e ≤ a.limit → Each a.P (test_code a.w at e)
test_each a at None h le = (a.truth 1 (omega arith), tt)
test_each a at (Some e) h le = expr_each a at e h.0 le

last_each : (a : Admits) (at : ℕ) (e : Option Expr) → IsLast a.c e → at + last_size a.w e ≤ a.limit → Each a.P (last_code a.w at e)
last_each a at None h le = tt
last_each a at (Some e) h le = drop_each a at e h le

over_each : (a : Admits) (n to : ℕ) → to ≤ a.limit → Each a.P (over_code n to)
over_each a n to le = cases (n == 0)
  where
    cases : (b : Bool) → Each a.P (if b then [] else op.Jump to ∷ [])
    cases true = tt
    cases false = (a.jump to le, tt)

-- ---- labels

begins_within : {n : Count} (a : Admits) (at : ℕ) (ss : Row_of-Stmt n) → at + stmts_size a.w ss ≤ a.limit → Each (λ (p : ℕ). p ≤ a.limit) (begins a.w at ss)
begins_within a at end_of-Stmt le = tt
begins_within a at (more_of-Stmt s ss) le = (omega (arith, le), begins_within a (at + stmt_size a.w s) ss (omega (arith, le)))

first_within : (a : Admits) (end : ℕ) (places : List ℕ) → end ≤ a.limit → Each (λ (p : ℕ). p ≤ a.limit) places → first_of end places ≤ a.limit
first_within a end [] le h = le
first_within a end (p ∷ places) le h = h.0

rest_within : (a : Admits) (places : List ℕ) → Each (λ (p : ℕ). p ≤ a.limit) places → Each (λ (p : ℕ). p ≤ a.limit) (drop 1 places)
rest_within a [] h = tt
rest_within a (p ∷ places) h = h.1

tests_each : (a : Admits) (end : ℕ) (labels : List Label) (places : List ℕ) → All (HasLabel a.Q) labels → end ≤ a.limit → Each (λ (p : ℕ). p ≤ a.limit) places → Each a.P (tests_code (waiting a.w prim.Int) end labels places)
tests_each a end [] places h le ps = tt
tests_each a end (Case n ∷ labels) places h le ps = (
  a.load_waiting prim.Int,
  (
    a.case n (All-head (HasLabel a.Q) (Case n) labels h),
    (
      a.plain op.IntEq refl,
      (
        a.jump_true (first_of end places) (first_within a end places le ps),
        tests_each a end labels (drop 1 places) (All-tail (HasLabel a.Q) (Case n) labels h) le (rest_within a places ps),
      ),
    ),
  ),
)
tests_each a end (Default ∷ labels) places h le ps = tests_each a end labels (drop 1 places) (All-tail (HasLabel a.Q) Default labels h) le (rest_within a places ps)

default_within : (a : Admits) (end : ℕ) (labels : List Label) (places : List ℕ) → end ≤ a.limit → Each (λ (p : ℕ). p ≤ a.limit) places → default_place end labels places ≤ a.limit
default_within a end [] places le ps = first_within a end places le ps
default_within a end (Case n ∷ labels) places le ps = default_within a end labels (drop 1 places) le (rest_within a places ps)
default_within a end (Default ∷ labels) places le ps = first_within a end places le ps

-- ---- statements

mutual
  pub stmt_each : (a : Admits) (ar : Around) (at out on : ℕ) (s : Stmt) → IsStmt a.c ar s → EachCase a.Q s → at + stmt_size a.w s ≤ a.limit → out ≤ a.limit → on ≤ a.limit → Each a.P (stmt_code a.w at out on s)
  stmt_each a ar at out on stmt.Empty h q le lo ln = tt
  stmt_each a ar at out on (stmt.Do e) h q le lo ln = drop_each a at e h le
  stmt_each a ar at out on (stmt.Local k i e) h q le lo ln =
      join a (begin_code a.w at k e) (op.Store i ∷ []) (begin_each a at k e h.1 (omega (arith, le))) (a.store i k h.0, tt)
  stmt_each a ar at out on (stmt.Block' shape all) h q le lo ln = stmts_each a ar at out on all h q le lo ln
  stmt_each a ar at out on (stmt.If' t p x r y) h q le lo ln =
      let first = at + expr_size a.w t + 3 in
      let second = first + stmt_size a.w x + over_size (stmt_size a.w y) in
      let end = second + stmt_size a.w y in
      let over = over_code (stmt_size a.w y) end in
      let other = stmt_code a.w second out on y in
      join a (expr_code a.w at t) (op.JumpFalse second ∷ (stmt_code a.w first out on x ++ (over ++ other))) (expr_each a at t h.0.0 (omega (arith, le))) (
        a.jump_false second (omega (arith, le)),
        join a (stmt_code a.w first out on x) (over ++ other) (stmt_each a ar first out on x h.1 q.0 (omega (arith, le)) lo ln)
            (join a over other (over_each a (stmt_size a.w y) end (omega (arith, le))) (stmt_each a ar second out on y h.2 q.1 (omega (arith, le)) lo ln)),
      )
  stmt_each a ar at out on (stmt.While' t p body) h q le lo ln =
      let test = at + 4 + stmt_size a.w body in
      let end = test + expr_size a.w t + 3 in
      let back = op.JumpTrue (at + 3) ∷ [] in (
        a.jump test (omega (arith, le)),
        (
          a.plain op.Turn refl,
          join a (stmt_code a.w (at + 4) end test body) (expr_code a.w test t ++ back)
              (stmt_each a in_loop (at + 4) end test body h.1 q (omega (arith, le)) (omega (arith, le)) (omega (arith, le)))
              (join a (expr_code a.w test t) back (expr_each a test t h.0.0 (omega (arith, le))) (a.jump_true (at + 3) (omega (arith, le)), tt)),
        ),
      )
  stmt_each a ar at out on (stmt.DoWhile' p body t) h q le lo ln =
      let test = at + 1 + stmt_size a.w body in
      let end = test + expr_size a.w t + 3 in
      let back = op.JumpTrue at ∷ [] in (
        a.plain op.Turn refl,
        join a (stmt_code a.w (at + 1) end test body) (expr_code a.w test t ++ back)
            (stmt_each a in_loop (at + 1) end test body h.0 q (omega (arith, le)) (omega (arith, le)) (omega (arith, le)))
            (join a (expr_code a.w test t) back (expr_each a test t h.1.0 (omega (arith, le))) (a.jump_true at (omega (arith, le)), tt)),
      )
  stmt_each a ar at out on (stmt.For' p first t last r body) h q le lo ln =
      let start = at + stmt_size a.w first in
      let step = start + 4 + stmt_size a.w body in
      let test = step + last_size a.w last in
      let end = test + test_size a.w t + 3 in
      let back = op.JumpTrue (start + 3) ∷ [] in
      let behind = last_code a.w step last ++ (test_code a.w test t ++ back) in
      join a (stmt_code a.w at out on first) (op.Jump test ∷ op.Turn ∷ (stmt_code a.w (start + 4) end step body ++ behind))
      (stmt_each a ar at out on first h.1 q.0 (omega (arith, le)) lo ln) (
        a.jump test (omega (arith, le)),
        (
          a.plain op.Turn refl,
          join a (stmt_code a.w (start + 4) end step body) behind
              (stmt_each a in_loop (start + 4) end step body h.4 q.1 (omega (arith, le)) (omega (arith, le)) (omega (arith, le)))
              (join a (last_code a.w step last) (test_code a.w test t ++ back) (last_each a step last h.3 (omega (arith, le)))
              (join a (test_code a.w test t) back (test_each a test t h.2 (omega (arith, le))) (a.jump_true (start + 3) (omega (arith, le)), tt))),
        ),
      )
  stmt_each a ar at out on (stmt.Switch' e labels shape all) h q le lo ln =
      let local = waiting a.w prim.Int in
      let first = at + expr_size a.w e + 2 + tests_size labels.items + 3 in
      let end = first + stmts_size a.w all in
      let places = begins a.w first all in
      let tests = tests_code local end labels.items places in
      let to = default_place end labels.items places in
      let last : end ≤ a.limit = omega (arith, le) in
      let within = begins_within a first all last in
      join a (expr_code a.w at e) (op.Store local ∷ (tests ++ op.Jump to ∷ stmts_code a.w first end on all)) (expr_each a at e h.0 (omega (arith, le))) (
        a.store_waiting prim.Int,
        join a tests (op.Jump to ∷ stmts_code a.w first end on all) (tests_each a end labels.items places q.0 last within) (
          a.jump to (default_within a end labels.items places last within),
          stmts_each a (in_switch ar) first end on all h.4 q.1 last last ln,
        ),
      )
  stmt_each a ar at out on stmt.Break h q le lo ln = (a.jump out lo, tt)
  stmt_each a ar at out on stmt.Continue h q le lo ln = (a.jump on ln, tt)
  stmt_each a ar at out on (stmt.Return None) h q le lo ln = (a.plain op.Return refl, tt)
  stmt_each a ar at out on (stmt.Return (Some e)) h q le lo ln =
      join a (expr_code a.w at e) (op.ReturnValue ∷ []) (expr_each a at e h.0 (omega (arith, le))) (a.plain op.ReturnValue refl, tt)

  pub stmts_each : {n : Count} (a : Admits) (ar : Around) (at out on : ℕ) (ss : Row_of-Stmt n) → AreStmts a.c ar ss → EachCases a.Q ss → at + stmts_size a.w ss ≤ a.limit → out ≤ a.limit → on ≤ a.limit → Each a.P (stmts_code a.w at out on ss)
  stmts_each a ar at out on end_of-Stmt h q le lo ln = tt
  stmts_each a ar at out on (more_of-Stmt s ss) h q le lo ln =
      let next = at + stmt_size a.w s in
      join a (stmt_code a.w at out on s) (stmts_code a.w next out on ss) (stmt_each a ar at out on s h.0 q.0 (omega (arith, le)) lo ln)
      (stmts_each a ar next out on ss h.1 q.1 (omega (arith, le)) lo ln)

-- ---- bodies

end_each : (a : Admits) (k : Kind) → Each a.P (end_code k)
end_each a kind.Void = (a.plain op.Return refl, tt)
end_each a kind.Bool = (zero_is a kind.Bool, (a.plain op.ReturnValue refl, tt))
end_each a kind.Int = (zero_is a kind.Int, (a.plain op.ReturnValue refl, tt))
end_each a kind.Long = (zero_is a kind.Long, (a.plain op.ReturnValue refl, tt))
end_each a kind.Text = (zero_is a kind.Text, (a.plain op.ReturnValue refl, tt))
end_each a (kind.Object class) = (zero_is a (kind.Object class), (a.plain op.ReturnValue refl, tt))

pub body_each : (a : Admits) (ar : Around) (k : Kind) (body : Stmt) → IsStmt a.c ar body → EachCase a.Q body → stmt_size a.w body ≤ a.limit → Each a.P (body_code a.w k (Some body))
body_each a ar k body h q le =
    join a (stmt_code a.w 0 0 0 body) (end_code k) (stmt_each a ar 0 0 0 body h q (omega (arith, le)) (omega arith) (omega arith)) (end_each a k)
