-- What a walk along the code of a typed body asks of the image: where its locals, fields and methods are.
use Rattle.std.proofs.Common.{◌≡◌, ◌<◌, ℕ, true, false, List, ◌∷◌, length, Option, Some, None, refl}
use Rattle.std.specs.Prelude.{slice_get}
use Rattle.std.specs.Option.{option_and_then}
use Rattle.sed_value.specs.declared.slot_type.Primitive.{Primitive}
use Rattle.sed_value.specs.declared.slot_type.Primitive.TheVariants as prim
use Rattle.sed_typed.specs.declared.kind.Kind.{Kind}
use Rattle.sed_typed.specs.declared.kind.Kind.TheVariants as kind
use Rattle.sed_typed.specs.declared.program.FieldForm.{FieldForm}
use Rattle.sed_typed.specs.declared.program.FieldForm.TheVariants as form
use Rattle.sed_typed.specs.declared.program.Program.{Program}
use Rattle.sed_typed.specs.Kinds.{read_kind}
use Rattle.sed_typed.specs.TypedExpr.{Context, GoesTo, IsBuf, IsInvocation, IsKindOf, IsReference, IsStaticCall, IsSuperCall, field_form, object_class, part_kind, static_form}
use Rattle.scode_code.specs.CodeRules.{result_differs}
use Rattle.scode_code.specs.Kinds.{goes_to, int, null, object, statics, str}
use Rattle.scode_ops.specs.declared.op.Op.TheVariants as op
use Rattle.scode_emit.specs.Instructions.{get_element_op, get_op, invoke_op, part_op, put_element_op, put_op}
use Rattle.scode_emit.specs.Site.{Site, offset_in, room_in, waiting, waiting_index}
use Rattle.scode_entries.specs.Entries.{above, cell_of}
use Rattle.scode_sim.proofs.Frames.{IsSolid}
use Rattle.scode_fine.proofs.Builds.{Does}
use Rattle.scode_fine.proofs.PlainOps.{args_on}
use Rattle.scode_fine.proofs.Walks.{Ground, Stack, here}

-- ---- kinds that are not void

pub solid_above : (k : Kind) (below : Stack) → IsSolid k → above k below ≡ cell_of k ∷ below
solid_above kind.Void below h = absurd h
solid_above kind.Bool below h = refl
solid_above kind.Int below h = refl
solid_above kind.Long below h = refl
solid_above kind.Text below h = refl
solid_above (kind.Object class) below h = refl

-- what goes to what a primitive is read as is of that kind
pub goes_read : (program : Program) (l : Kind) (p : Primitive) → GoesTo program l (read_kind p) → l ≡ read_kind p
goes_read program kind.Void p h = h
goes_read program kind.Bool p h = h
goes_read program kind.Int p h = h
goes_read program kind.Long p h = h
goes_read program kind.Text p h = h
goes_read program (kind.Object class) prim.Bool h = h
goes_read program (kind.Object class) prim.Byte h = h
goes_read program (kind.Object class) prim.Short h = h
goes_read program (kind.Object class) prim.Int h = h
goes_read program (kind.Object class) prim.Long h = h

-- ---- the image

pub record Facts (g : Ground) (c : Context) (w : Site) : Type 0 where
  pub locals : (n : ℕ) (k : Kind) → slice_get c.locals n ≡ Some k → slice_get g.m.locals n ≡ Some (cell_of k)
  pub solid : (n : ℕ) (k : Kind) → slice_get c.locals n ≡ Some k → IsSolid k
  pub known : (n : ℕ) (k : Kind) → slice_get c.locals n ≡ Some k → IsKindOf c.program k
  pub receiver : c.is_static ≡ false → slice_get g.m.locals 0 ≡ Some (object w.class)
  pub own : c.class ≡ w.class
  pub waits : (p : Primitive) → slice_get g.m.locals (waiting w p) ≡ Some (cell_of (read_kind p))
  pub waits_index : slice_get g.m.locals (waiting_index w) ≡ Some int
  pub goes : (l k : Kind) → GoesTo c.program l k → goes_to g.image (cell_of l) (cell_of k) ≡ true
  pub null_goes : (k : Kind) → IsReference k → IsKindOf c.program k → goes_to g.image null (cell_of k) ≡ true
  pub text : (n : ℕ) (below : Stack) → n < length c.program.texts → Does g (op.Text n) below (str ∷ below)
  -- fields and statics
  pub get : (k : Kind) (i : ℕ) (p : Primitive) (below : Stack) → field_form c.program k i ≡ Some (form.Prim p) →
      Does g (get_op p (offset_in w k i)) (cell_of k ∷ below) (cell_of (read_kind p) ∷ below)
  pub put : (k : Kind) (i : ℕ) (p : Primitive) (below : Stack) → field_form c.program k i ≡ Some (form.Prim p) →
      Does g (put_op p (offset_in w k i)) (cell_of (read_kind p) ∷ cell_of k ∷ below) below
  pub get_at : (k : Kind) (i n : ℕ) (p : Primitive) (below : Stack) → field_form c.program k i ≡ Some (form.Array p n) →
      Does g (get_element_op p (offset_in w k i) n) (int ∷ cell_of k ∷ below) (cell_of (read_kind p) ∷ below)
  pub put_at : (k : Kind) (i n : ℕ) (p : Primitive) (below : Stack) → field_form c.program k i ≡ Some (form.Array p n) →
      Does g (put_element_op p (offset_in w k i) n) (cell_of (read_kind p) ∷ int ∷ cell_of k ∷ below) below
  pub get_static : (i : ℕ) (p : Primitive) (below : Stack) → static_form c.program i ≡ Some (form.Prim p) →
      Does g (get_op p (w.layout.static_offset i)) (statics ∷ below) (cell_of (read_kind p) ∷ below)
  pub put_static : (i : ℕ) (p : Primitive) (below : Stack) → static_form c.program i ≡ Some (form.Prim p) →
      Does g (put_op p (w.layout.static_offset i)) (cell_of (read_kind p) ∷ statics ∷ below) below
  pub get_static_at : (i n : ℕ) (p : Primitive) (below : Stack) → static_form c.program i ≡ Some (form.Array p n) →
      Does g (get_element_op p (w.layout.static_offset i) n) (int ∷ statics ∷ below) (cell_of (read_kind p) ∷ below)
  pub put_static_at : (i n : ℕ) (p : Primitive) (below : Stack) → static_form c.program i ≡ Some (form.Array p n) →
      Does g (put_element_op p (w.layout.static_offset i) n) (cell_of (read_kind p) ∷ int ∷ statics ∷ below) below
  pub part : (k : Kind) (i : ℕ) (l : Kind) (below : Stack) → option_and_then part_kind (field_form c.program k i) ≡ Some l →
      Does g (part_op l (offset_in w k i) (room_in w k i)) (cell_of k ∷ below) (cell_of l ∷ below)
  pub static_part : (i : ℕ) (l : Kind) (below : Stack) → option_and_then part_kind (static_form c.program i) ≡ Some l →
      Does g (part_op l (w.layout.static_offset i) (w.layout.static_room i)) (statics ∷ below) (cell_of l ∷ below)
  pub size : (k : Kind) (i : ℕ) (below : Stack) → IsBuf (field_form c.program k i) →
      Does g (op.BufSize (offset_in w k i)) (cell_of k ∷ below) (int ∷ below)
  pub byte : (k : Kind) (i : ℕ) (below : Stack) → IsBuf (field_form c.program k i) →
      Does g (op.BufGet (offset_in w k i) (room_in w k i)) (int ∷ cell_of k ∷ below) (int ∷ below)
  -- calls
  pub static_call : (m : ℕ) (k : Kind) (args : List Kind) (below : Stack) → IsStaticCall c.program m k args →
      Does g (op.Call m) (args_on args below) (above k below)
  pub super_call : (m : ℕ) (k : Kind) (args : List Kind) (below : Stack) → c.is_static ≡ false →
      IsSuperCall c.program c.class m k args → Does g (op.Call m) (args_on args (object w.class ∷ below)) (above k below)
  pub invoke : (k : Kind) (m : ℕ) (l : Kind) (args : List Kind) (below : Stack) →
      IsInvocation c.program (object_class k) m l args →
      Does g (invoke_op w k m) (args_on args (above k below)) (above l below)
  -- results
  pub returns : (stack : Stack) → c.result ≡ kind.Void → result_differs g.image g.m (here g stack) op.Return ≡ false
  pub answers : (k : Kind) (below : Stack) → (c.result ≡ kind.Void → ⊥) → GoesTo c.program k c.result →
      result_differs g.image g.m (here g (cell_of k ∷ below)) op.ReturnValue ≡ false
  -- 0, false or null is answered behind a body
  pub ends : IsKindOf c.program c.result
  pub answers_own : (below : Stack) → (c.result ≡ kind.Void → ⊥) →
      result_differs g.image g.m (here g (cell_of c.result ∷ below)) op.ReturnValue ≡ false

-- ---- fields stand in objects

pub part_holder : (program : Program) (k : Kind) (i : ℕ) (l : Kind) →
    option_and_then part_kind (field_form program k i) ≡ Some l → IsSolid k
part_holder program kind.Void i l e = let never : ⊥ = cc in absurd never
part_holder program kind.Bool i l e = tt
part_holder program kind.Int i l e = tt
part_holder program kind.Long i l e = tt
part_holder program kind.Text i l e = tt
part_holder program (kind.Object class) i l e = tt

-- a part is an object or a Str
no_void : (o : Option FieldForm) → option_and_then part_kind o ≡ Some kind.Void → ⊥
no_void None e = cc
no_void (Some (form.Prim p)) e = cc
no_void (Some (form.Str n)) e = cc
no_void (Some (form.Buf n)) e = cc
no_void (Some (form.Array p n)) e = cc
no_void (Some (form.Object class)) e = cc

pub part_solid : (o : Option FieldForm) (l : Kind) → option_and_then part_kind o ≡ Some l → IsSolid l
part_solid o kind.Void e = no_void o e
part_solid o kind.Bool e = tt
part_solid o kind.Int e = tt
part_solid o kind.Long e = tt
part_solid o kind.Text e = tt
part_solid o (kind.Object class) e = tt
