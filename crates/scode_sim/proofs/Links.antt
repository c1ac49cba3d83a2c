-- What is done with an object on the stack: its fields, elements, parts and Bufs.
use Rattle.std.proofs.Common.{◌≡◌, ℕ, ℤ, ◌+◌, ◌==◌, Bool, true, false, List, [], ◌∷◌, length, Some, Ok, refl, sym, ap, ◌∙◌, subst, arith}
use Rattle.std.specs.Prelude.{pos, not, slice_index}
use Rattle.std.specs.Option.{option_and_then}
use Rattle.sed_value.specs.declared.slot_type.Primitive.{Primitive}
use Rattle.sed_typed.specs.declared.kind.Kind.{Kind}
use Rattle.sed_typed.specs.declared.kind.Kind.TheVariants as kind
use Rattle.sed_typed.specs.declared.number.TypeNo.{TypeNo}
use Rattle.sed_typed.specs.declared.program.FieldForm.{FieldForm}
use Rattle.sed_typed.specs.declared.program.FieldForm.TheVariants as form
use Rattle.sed_typed.specs.declared.program.Program.{Program}
use Rattle.sed_typed.specs.Kinds.{read_kind}
use Rattle.sed_typed.specs.TypedExpr.{field_form, part_kind, IsBuf}
use Rattle.sed_engine.specs.Expressions.{Calls, part_at, buf_bytes, buf_size, buf_byte}
use Rattle.sed_engine.specs.Places.{field_spot, element_spot, field_element}
use Rattle.sed_engine.specs.State.{Shared, State, End, gives, answers, then_do}
use Rattle.sed_engine.specs.Steps.{choose, read_spot, read_bytes}
use Rattle.sed_engine.specs.Stops.{map_ok}
use Rattle.sed_engine.specs.Texts.{index_of}
use Rattle.sed_engine.specs.Values.{Val, Nothing, Truth, Int, Long, Null, At, Literal, Spot, truth, is_met}
use Rattle.sed_engine.proofs.Below.{absent}
use Rattle.sed_engine.proofs.Kinded.{HasKind}
use Rattle.sed_engine.proofs.Ready.{Holds}
use Rattle.scode_ops.specs.declared.op.Op.TheVariants as op
use Rattle.scode_image.specs.declared.image.Image.{Image}
use Rattle.scode_code.specs.Effect.{push, array_number}
use Rattle.scode_code.specs.Fields.{Setting, field_at}
use Rattle.scode_code.specs.Machine.{Point, Move, Onward, pushed}
use Rattle.scode_code.specs.Steps.{effect, instruction_at}
use Rattle.scode_emit.specs.Site.{Site, Layout, offset_in, room_in}
use Rattle.scode_emit.specs.Instructions.{get_op, get_element_op, part_op, pop_code, pop_size}
use Rattle.scode_emit.proofs.Counts.{get_sized, get_element_sized}
use Rattle.scode_sim.specs.Made.{number_of_form, room_of_form}
use Rattle.scode_sim.proofs.Apart.{Apart, state, field_apart, element_apart, apart_then, buf_size_apart, buf_byte_apart}
use Rattle.scode_sim.proofs.Comes.{Comes, here}
use Rattle.scode_sim.proofs.Context.{Known, Body, running, site, machine, source, runs}
use Rattle.scode_sim.proofs.Follows.{point, Pushed, not_void, HasAt, by_op_to, Sim, push_sim}
use Rattle.scode_sim.proofs.Frames.{Running, IsCell, pushed_is}
use Rattle.scode_sim.proofs.Keeping.{reads}
use Rattle.scode_sim.proofs.Leaves.{choose_sim, until_sim}
use Rattle.scode_sim.proofs.Objects.{object_field, object_buf, str_room, buf_room}
use Rattle.scode_sim.proofs.Operations.{IsField, element_of, get_effect, array_get_effect, then_assoc, then_same}
use Rattle.scode_sim.proofs.NamedReads.{part_sim, some_form}
use Rattle.scode_sim.proofs.Stores.{read_solid, cell_of_kind}
use Rattle.scode_sim.proofs.Waiting.{reads_apart}

module _ (program : Program) (layout : Layout) (image : Image) (class : ℕ) (known : Known program layout image class) (b : Body) where
  abbrev w : Setting
  w = machine image class

  abbrev x : Running
  x = running b

  abbrev at_site : Site
  at_site = site program layout b

  abbrev G : State → Type 0
  G s = runs program class b s

  abbrev Has : Kind → Val → Type 0
  Has k v = HasKind program class k v

  -- what stands on the stack where the value has a cell
  pub on_cell : {n : ℕ} {A : Type 0} {f : State → End A} {Q : A → State → Point → Type 0} (at : ℕ) (v : Val) (st : List Val) → IsCell v → Sim w G x n A f at (v ∷ st) Q → Sim w G x n A f at (pushed v st) Q
  on_cell {n} {A} {f} {Q} at v st cell sim = subst (λ stack. Sim w G x n A f at stack Q) (sym (pushed_is v st cell)) sim

  object_cell : (d : TypeNo) (v : Val) → Has (kind.Object d) v → IsCell v
  object_cell d Nothing h = h
  object_cell d (Truth t) h = tt
  object_cell d (Int n) h = tt
  object_cell d (Long n) h = tt
  object_cell d Null h = tt
  object_cell d (At spot) h = tt
  object_cell d (Literal n) h = tt

  -- the field of an object where the language finds it
  pub field_is : (d : TypeNo) (v : Val) (i : ℕ) (f : FieldForm) → Has (kind.Object d) v → field_form program (kind.Object d) i ≡ Some f → IsField w v (number_of_form f) (layout.offset d.0 i) (room_of_form f) (field_spot v i)
  field_is d v i f h e = record { is = object_field program known.typed layout image known.made class known.component d v i f h e }

  -- ---- conditions

  pub choose_bool : {n : ℕ} {A : Type 0} {f g : State → End A} {Q : A → State → Point → Type 0} (place to : ℕ) (v : Val) (rest : List Val) → Has kind.Bool v → instruction_at image x.method place ≡ Some (op.JumpFalse to) →
      Sim w G x n A f (place + 3) rest Q → Sim w G x n A g to rest Q → Sim w G x n A (choose v f g) place (v ∷ rest) Q
  choose_bool place to (Truth t) rest h has met unmet = choose_sim w G place to t rest has met unmet
  choose_bool place to Nothing rest h has met unmet = absurd h
  choose_bool place to (Int m) rest h has met unmet = absurd h
  choose_bool place to (Long m) rest h has met unmet = absurd h
  choose_bool place to Null rest h has met unmet = absurd h
  choose_bool place to (At spot) rest h has met unmet = absurd h
  choose_bool place to (Literal m) rest h has met unmet = absurd h

  pub until_bool : {n : ℕ} {A : Type 0} {f g : State → End A} {Q : A → State → Point → Type 0} (place to : ℕ) (v : Val) (rest : List Val) → Has kind.Bool v → instruction_at image x.method place ≡ Some (op.JumpTrue to) →
      Sim w G x n A f to rest Q → Sim w G x n A g (place + 3) rest Q → Sim w G x n A (choose v f g) place (v ∷ rest) Q
  until_bool place to (Truth t) rest h has met unmet = until_sim w G place to t rest has met unmet
  until_bool place to Nothing rest h has met unmet = absurd h
  until_bool place to (Int m) rest h has met unmet = absurd h
  until_bool place to (Long m) rest h has met unmet = absurd h
  until_bool place to Null rest h has met unmet = absurd h
  until_bool place to (At spot) rest h has met unmet = absurd h
  until_bool place to (Literal m) rest h has met unmet = absurd h

  -- a bool that is met as true, and one that is not as false
  twice_not : (m : Bool) → map_ok (λ met. truth (not met)) (is_met (truth (not m))) ≡ Ok (truth m)
  twice_not true = refl
  twice_not false = refl

  pub not_not_sim : (n place : ℕ) (v : Val) (st : List Val) → Has kind.Bool v → HasAt w x.method place (op.Not ∷ op.Not ∷ []) →
      Sim w G x n Val (answers (map_ok truth (is_met v))) place (v ∷ st) (Pushed x n kind.Bool (place + 2) st)
  not_not_sim n place (Truth t) st h has = record {
    comes = λ s ms g a le.
        let m = not (t == 0) in
        by_op_to w x place (place + 1) op.Not (Truth t ∷ st) ms s.shared (gives (Onward (truth (not m) ∷ st)) (state s.shared ms)) _ has.0 refl refl
        (by_op_to w x (place + 1) (place + 2) op.Not (truth (not m) ∷ st) ms s.shared (gives (Onward (truth m ∷ st)) (state s.shared ms)) _ has.1.0 (let e : place + 1 + 1 ≡ place + 2 = omega arith in e)
        (ap (λ r. push st (answers r (state s.shared ms))) (twice_not m))
        (here (record { void = not_void kind.Bool (truth m) tt; stands = record { locals = ms; agree = a; turns = le; is = refl } })));
  }
  not_not_sim n place Nothing st h has = absurd h
  not_not_sim n place (Int m) st h has = absurd h
  not_not_sim n place (Long m) st h has = absurd h
  not_not_sim n place Null st h has = absurd h
  not_not_sim n place (At spot) st h has = absurd h
  not_not_sim n place (Literal m) st h has = absurd h

  -- ---- fields

  pub field_link : (n at : ℕ) (k : Kind) (v : Val) (i : ℕ) (p : Primitive) (st : List Val) → Has k v → field_form program k i ≡ Some (form.Prim p) → HasAt w x.method at (get_op p (offset_in at_site k i) ∷ []) →
      Sim w G x n Val (λ s. then_do (field_spot v i s) (λ spot s1. read_spot spot s1)) at (pushed v st) (Pushed x n (read_kind p) (at + 3) st)
  field_link n at (kind.Object d) v i p st h e has =
      on_cell at v st (object_cell d v h)
      (push_sim w G x n (read_kind p) (reads (field_spot v i)) at (at + 3) (get_op p (layout.offset d.0 i)) (v ∷ st) st has.0 (ap (λ m. at + m) (get_sized p (layout.offset d.0 i))) (read_solid p) (reads_apart (field_apart v i))
      (get_effect w p (layout.offset d.0 i) v (field_spot v i) (field_is d v i (form.Prim p) h e) st))
  field_link n at kind.Void v i p st h e has = absent (form.Prim p) e
  field_link n at kind.Bool v i p st h e has = absent (form.Prim p) e
  field_link n at kind.Int v i p st h e has = absent (form.Prim p) e
  field_link n at kind.Long v i p st h e has = absent (form.Prim p) e
  field_link n at kind.Text v i p st h e has = absent (form.Prim p) e

  pub part_link : (calls : Calls) (n at : ℕ) (k : Kind) (v : Val) (i : ℕ) (part : Kind) (st : List Val) → Has k v → option_and_then part_kind (field_form program k i) ≡ Some part →
      Holds G Val (Has part) (λ s. then_do (field_spot v i s) (λ spot s1. part_at (source program class calls) part spot s1)) → HasAt w x.method at (part_op part (offset_in at_site k i) (room_in at_site k i) ∷ []) →
      Sim w G x n Val (λ s. then_do (field_spot v i s) (λ spot s1. part_at (source program class calls) part spot s1)) at (pushed v st) (Pushed x n part (at + 5) st)
  part_link calls n at (kind.Object d) v i part st h e holds has =
      let f = some_form program layout image class known b (field_form program (kind.Object d) i) part e in
      on_cell at v st (object_cell d v h)
      (part_sim program layout image class known b calls n at v (field_spot v i) part f.0 (layout.offset d.0 i) (layout.room d.0 i) st f.2
      (λ m is. str_room program known.typed layout image known.made class known.component d.0 i m (f.1 ∙ ap (λ (g : FieldForm). Some g) is))
      (field_is d v i f.0 h f.1) (field_apart v i) holds has)
  part_link calls n at kind.Void v i part st h e holds has = absent part e
  part_link calls n at kind.Bool v i part st h e holds has = absent part e
  part_link calls n at kind.Int v i part st h e holds has = absent part e
  part_link calls n at kind.Long v i part st h e holds has = absent part e
  part_link calls n at kind.Text v i part st h e holds has = absent part e

  -- ---- elements, whose index is an int on the stack

  pub element_sim : (n at : ℕ) (p : Primitive) (offset count : ℕ) (o index : Val) (base : State → End Spot) (st : List Val) → Apart Spot base → IsField w o (array_number p) offset count base → Has kind.Int index → HasAt w x.method at (get_element_op p offset count ∷ []) →
      Sim w G x n Val (λ s. then_do (then_do (base s) (λ array s1. element_spot count array index s1)) (λ spot s2. read_spot spot s2)) at (index ∷ o ∷ st) (Pushed x n (read_kind p) (at + 5) st)
  element_sim n at p offset count o (Int i) base st apart is h has =
      push_sim w G x n (read_kind p) (reads (element_of count i base)) at (at + 5) (get_element_op p offset count) (Int i ∷ o ∷ st) st has.0 (ap (λ m. at + m) (get_element_sized p offset count)) (read_solid p)
      (reads_apart (apart_then apart (λ array. element_apart count array (Int i)))) (array_get_effect w p offset count o i base is st)
  element_sim n at p offset count o Nothing base st apart is h has = absurd h
  element_sim n at p offset count o (Truth t) base st apart is h has = absurd h
  element_sim n at p offset count o (Long m) base st apart is h has = absurd h
  element_sim n at p offset count o Null base st apart is h has = absurd h
  element_sim n at p offset count o (At spot) base st apart is h has = absurd h
  element_sim n at p offset count o (Literal m) base st apart is h has = absurd h

  pub element_link : (n at : ℕ) (k : Kind) (v index : Val) (i : ℕ) (p : Primitive) (count : ℕ) (st : List Val) → Has k v → field_form program k i ≡ Some (form.Array p count) → Has kind.Int index → HasAt w x.method at (get_element_op p (offset_in at_site k i) count ∷ []) →
      Sim w G x n Val (λ s. then_do (field_element count v i index s) (λ spot s1. read_spot spot s1)) at (index ∷ v ∷ st) (Pushed x n (read_kind p) (at + 5) st)
  element_link n at (kind.Object d) v index i p count st h e hi has =
      element_sim n at p (layout.offset d.0 i) count v index (field_spot v i) st (field_apart v i) (field_is d v i (form.Array p count) h e) hi has
  element_link n at kind.Void v index i p count st h e hi has = absent (form.Array p count) e
  element_link n at kind.Bool v index i p count st h e hi has = absent (form.Array p count) e
  element_link n at kind.Int v index i p count st h e hi has = absent (form.Array p count) e
  element_link n at kind.Long v index i p count st h e hi has = absent (form.Array p count) e
  element_link n at kind.Text v index i p count st h e hi has = absent (form.Array p count) e

  -- ---- Bufs

  pub size_link : (n at : ℕ) (k : Kind) (v : Val) (i : ℕ) (st : List Val) → Has k v → IsBuf (field_form program k i) → HasAt w x.method at (op.BufSize (offset_in at_site k i) ∷ []) →
      Sim w G x n Val (buf_size v i) at (pushed v st) (Pushed x n kind.Int (at + 3) st)
  size_link n at (kind.Object d) v i st h e has =
      on_cell at v st (object_cell d v h)
      (push_sim w G x n kind.Int (buf_size v i) at (at + 3) (op.BufSize (layout.offset d.0 i)) (v ∷ st) st has.0 refl tt (buf_size_apart v i) is)
    where
      is : (s : State) → effect w (op.BufSize (layout.offset d.0 i)) (v ∷ st) s ≡ push st (buf_size v i s)
      is s =
          ap (λ d. then_do d (λ spot s2. then_do (read_bytes spot s2) (λ bytes s3. gives (Onward (Int (pos (length bytes)) ∷ st)) s3))) (object_buf program known.typed layout image known.made class known.component d v i e.0 h e.1 s)
          ∙ sym (then_assoc (field_spot v i s) (λ spot s2. read_bytes spot s2) (λ bytes s3. gives (Onward (Int (pos (length bytes)) ∷ st)) s3))
          ∙ sym (then_assoc (buf_bytes v i s) (λ bytes s1. gives (Int (pos (length bytes))) s1) (λ u s1. gives (Onward (pushed u st)) s1))
  size_link n at kind.Void v i st h e has = absent _ e.1
  size_link n at kind.Bool v i st h e has = absent _ e.1
  size_link n at kind.Int v i st h e has = absent _ e.1
  size_link n at kind.Long v i st h e has = absent _ e.1
  size_link n at kind.Text v i st h e has = absent _ e.1

  abbrev last : ℤ → List ℕ → State → End Val
  last j bytes s4 = then_do (answers (index_of (length bytes) (Int j)) s4) (λ at s5. gives (Int (pos (slice_index bytes at))) s5)

  abbrev last_move : List Val → ℤ → List ℕ → State → End Move
  last_move st j bytes s4 = then_do (answers (index_of (length bytes) (Int j)) s4) (λ at s5. gives (Onward (Int (pos (slice_index bytes at)) ∷ st)) s5)

  byte_sim : (n at : ℕ) (d : TypeNo) (v index : Val) (i most : ℕ) (st : List Val) → Has (kind.Object d) v → field_form program (kind.Object d) i ≡ Some (form.Buf most) → Has kind.Int index → HasAt w x.method at (op.BufGet (layout.offset d.0 i) (layout.room d.0 i) ∷ []) →
      Sim w G x n Val (buf_byte v i index) at (index ∷ v ∷ st) (Pushed x n kind.Int (at + 5) st)
  byte_sim n at d v (Int j) i most st h e hi has =
      push_sim w G x n kind.Int (buf_byte v i (Int j)) at (at + 5) (op.BufGet (layout.offset d.0 i) (layout.room d.0 i)) (Int j ∷ v ∷ st) st has.0 refl tt (buf_byte_apart v i (Int j)) is
    where
      is : (s : State) → effect w (op.BufGet (layout.offset d.0 i) (layout.room d.0 i)) (Int j ∷ v ∷ st) s ≡ push st (buf_byte v i (Int j) s)
      is s =
          ap (λ room. then_do (field_at w v 7 (layout.offset d.0 i) room s) (λ spot s3. then_do (read_bytes spot s3) (λ bytes s4. last_move st j bytes s4))) (buf_room program known.typed layout image known.made class known.component d.0 i most e)
          ∙ ap (λ d. then_do d (λ spot s3. then_do (read_bytes spot s3) (λ bytes s4. last_move st j bytes s4))) ((field_is d v i (form.Buf most) h e).is s)
          ∙ sym (then_assoc (field_spot v i s) (λ spot s3. read_bytes spot s3) (λ bytes s4. last_move st j bytes s4))
          ∙ then_same (buf_bytes v i s) (λ bytes s4. last_move st j bytes s4) (λ bytes s4. push st (last j bytes s4)) (λ bytes s4. sym (then_assoc (answers (index_of (length bytes) (Int j)) s4) (λ at s5. gives (Int (pos (slice_index bytes at))) s5) (λ u s1. gives (Onward (pushed u st)) s1)))
          ∙ sym (then_assoc (buf_bytes v i s) (λ bytes s4. last j bytes s4) (λ u s1. gives (Onward (pushed u st)) s1))
  byte_sim n at d v Nothing i most st h e hi has = absurd hi
  byte_sim n at d v (Truth t) i most st h e hi has = absurd hi
  byte_sim n at d v (Long m) i most st h e hi has = absurd hi
  byte_sim n at d v Null i most st h e hi has = absurd hi
  byte_sim n at d v (At spot) i most st h e hi has = absurd hi
  byte_sim n at d v (Literal m) i most st h e hi has = absurd hi

  pub byte_link : (n at : ℕ) (k : Kind) (v index : Val) (i : ℕ) (st : List Val) → Has k v → IsBuf (field_form program k i) → Has kind.Int index → HasAt w x.method at (op.BufGet (offset_in at_site k i) (room_in at_site k i) ∷ []) →
      Sim w G x n Val (buf_byte v i index) at (index ∷ v ∷ st) (Pushed x n kind.Int (at + 5) st)
  byte_link n at (kind.Object d) v index i st h e hi has = byte_sim n at d v index i e.0 st h e.1 hi has
  byte_link n at kind.Void v index i st h e hi has = absent _ e.1
  byte_link n at kind.Bool v index i st h e hi has = absent _ e.1
  byte_link n at kind.Int v index i st h e hi has = absent _ e.1
  byte_link n at kind.Long v index i st h e hi has = absent _ e.1
  byte_link n at kind.Text v index i st h e hi has = absent _ e.1

  -- ---- a value that is not used

  popped : (at : ℕ) (v : Val) (st ms : List Val) (sh : Shared) (Q : Point → Type 0) → IsCell v → HasAt w x.method at (op.Pop ∷ []) →
      Comes w (point x (at + 1) ms st sh) Q → Comes w (point x at ms (pushed v st) sh) Q
  popped at v st ms sh Q cell has c =
      subst (λ stack. Comes w (point x at ms stack sh) Q) (sym (pushed_is v st cell))
      (by_op_to w x at (at + 1) op.Pop (v ∷ st) ms sh (gives (Onward st) (state sh ms)) Q has.0 refl refl c)

  pub by_pop : (at : ℕ) (k : Kind) (v : Val) (st ms : List Val) (sh : Shared) (Q : Point → Type 0) → Has k v → (k ≡ kind.Void → v ≡ Nothing) → HasAt w x.method at (pop_code k) →
      Comes w (point x (at + pop_size k) ms st sh) Q → Comes w (point x at ms (pushed v st) sh) Q
  by_pop at kind.Void v st ms sh Q h void has c =
      let e : at + 0 ≡ at = omega arith in
      subst (λ stack. Comes w (point x at ms stack sh) Q) (sym (ap (λ u. pushed u st) (void refl))) (subst (λ place. Comes w (point x place ms st sh) Q) e c)
  by_pop at kind.Bool v st ms sh Q h void has c = popped at v st ms sh Q (cell_of_kind program class kind.Bool v tt h) has c
  by_pop at kind.Int v st ms sh Q h void has c = popped at v st ms sh Q (cell_of_kind program class kind.Int v tt h) has c
  by_pop at kind.Long v st ms sh Q h void has c = popped at v st ms sh Q (cell_of_kind program class kind.Long v tt h) has c
  by_pop at kind.Text v st ms sh Q h void has c = popped at v st ms sh Q (cell_of_kind program class kind.Text v tt h) has c
  by_pop at (kind.Object d) v st ms sh Q h void has c = popped at v st ms sh Q (cell_of_kind program class (kind.Object d) v tt h) has c
