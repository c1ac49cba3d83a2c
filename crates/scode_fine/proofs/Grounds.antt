-- The image of a typed program has what a walk along the code of one of its bodies asks.
use Rattle.std.proofs.Common.{◌≡◌, ◌<◌, ℕ, suc, ◌+◌, ◌==◌, not, Bool, false, if◌then◌else◌, List, [], ◌∷◌, ◌++◌, length, map, lt-ltb, Option, Some, refl, sym, ap, subst, ◌∙◌, arith}
use Rattle.std.specs.Prelude.{All, slice_get}
use Rattle.std.specs.Option.{option_and_then, option_map}
use Rattle.std.proofs.lemmas.Bool.{not_from_true, or_from}
use Rattle.std.proofs.lemmas.List.{length-map}
use Rattle.std.proofs.lemmas.Option.{slice_get-map}
use Rattle.sed_value.specs.declared.slot_type.Primitive.{Primitive}
use Rattle.sed_value.specs.declared.slot_type.Primitive.TheVariants as prim
use Rattle.sed_typed.specs.declared.kind.Kind.{Kind}
use Rattle.sed_typed.specs.declared.kind.Kind.TheVariants as kind
use Rattle.sed_typed.specs.declared.number.TypeNo.{TypeNo}
use Rattle.sed_typed.specs.declared.program.FieldForm.{FieldForm}
use Rattle.sed_typed.specs.declared.program.FieldForm.TheVariants as form
use Rattle.sed_typed.specs.declared.program.Method.{Method}
use Rattle.sed_typed.specs.declared.program.Program.{Program}
use Rattle.sed_typed.specs.Kinds.{read_kind}
use Rattle.sed_typed.specs.Locals.{Declared}
use Rattle.sed_typed.specs.Typed.{IsMethod, IsStorable, declared_by, locals_of}
use Rattle.sed_typed.specs.TypedExpr.{Context, IsBuf, field_form, part_kind, static_form}
use Rattle.scode_image.specs.declared.image.Image.{Image}
use Rattle.scode_image.specs.declared.image.ImageKind.{ImageKind}
use Rattle.scode_code.specs.CodeRules.{lacks_field, number_missing}
use Rattle.scode_code.specs.Kinds.{goes_to, int, object, statics, str}
use Rattle.scode_code.proofs.Places.{none_some, some_eq}
use Rattle.scode_code.proofs.Verifies.{all_go_to_themselves, goes_to_itself}
use Rattle.scode_ops.specs.declared.op.Op.TheVariants as op
use Rattle.scode_emit.specs.Instructions.{get_element_op, get_op, part_op, put_element_op, put_op}
use Rattle.scode_emit.specs.Method.{site_of}
use Rattle.scode_emit.specs.Site.{Layout, class_of, waiting, waiting_index}
use Rattle.scode_entries.specs.Entries.{cell_of}
use Rattle.scode_entries.specs.Method.{image_method, local_kinds, waiting_kinds}
use Rattle.scode_sim.specs.Made.{number_of_form, room_of_form}
use Rattle.scode_sim.proofs.Callees.{storable_solid}
use Rattle.scode_sim.proofs.Frames.{IsSolid}
use Rattle.scode_made.proofs.Places.{all_at, in_front}
use Rattle.scode_made.proofs.MadeMethods.{storable_kind}
use Rattle.scode_fine.proofs.Builds.{Does, builds}
use Rattle.scode_fine.proofs.Facts.{Facts}
use Rattle.scode_fine.proofs.FieldOps.{IsHolder, byte_does, get_does, get_element_does, inner_does, put_does, put_element_does, size_does, str_does}
use Rattle.scode_fine.proofs.Images.{FieldAt, Known, StaticAt, buf_room, buf_there, cell_goes, field_at, field_class, field_there, held, null_goes, parted, static_at, static_class, static_str_room, static_there, str_room}
use Rattle.scode_fine.proofs.Methods.{invoke_does, static_does, super_does}
use Rattle.scode_fine.proofs.Stmts.{solid_result}
use Rattle.scode_fine.proofs.Walks.{Ground, Stack}

-- ---- lists

at_back : (xs ys : List ImageKind) (i : ℕ) → slice_get (xs ++ ys) (length xs + i) ≡ slice_get ys i
at_back [] ys i = ap (λ (n : ℕ). slice_get ys n) (let e : length {A = ImageKind} [] + i ≡ i = omega arith in e)
at_back (x ∷ xs) ys i =
    ap (λ (n : ℕ). slice_get (x ∷ (xs ++ ys)) n) (let e : length (x ∷ xs) + i ≡ suc (length xs + i) = omega arith in e)
    ∙ at_back xs ys i

cell_some : (k : Kind) → IsSolid k → ((cell_of k).kind == 0) ≡ false
cell_some kind.Void h = absurd h
cell_some kind.Bool h = refl
cell_some kind.Int h = refl
cell_some kind.Long h = refl
cell_some kind.Text h = refl
cell_some (kind.Object class) h = refl

-- ---- parts

module _ (program : Program) (layout : Layout) (g : Ground) (known : Known program layout g.image) where
  -- of an object on the stack: a part of a form that is one, which lies there
  part_does : (o : ImageKind) (fm : FieldForm) (l : Kind) (offset room : ℕ) (below : Stack) → IsHolder o → part_kind fm ≡ Some l →
      lacks_field g.image (Some o) (number_of_form fm) offset (room_of_form fm) ≡ false →
      ((n : ℕ) → fm ≡ form.Str n → room ≡ n) →
      ((t : TypeNo) → fm ≡ form.Object t → number_missing g.image g.m (op.Inner offset t.0) ≡ false) →
      Does g (part_op l offset room) (o ∷ below) (cell_of l ∷ below)
  part_does o (form.Prim p) l offset room below holds e lacks rooms classes = absurd (none_some l e)
  part_does o (form.Buf n) l offset room below holds e lacks rooms classes = absurd (none_some l e)
  part_does o (form.Array p n) l offset room below holds e lacks rooms classes = absurd (none_some l e)
  part_does o (form.Str n) l offset room below holds e lacks rooms classes =
      subst (λ (x : Kind). Does g (part_op x offset room) (o ∷ below) (cell_of x ∷ below)) (some_eq kind.Text l e)
      (str_does g o holds offset room below
      (subst (λ (r : ℕ). lacks_field g.image (Some o) 6 offset r ≡ false) (sym (rooms n refl)) lacks))
  part_does o (form.Object t) l offset room below holds e lacks rooms classes =
      subst (λ (x : Kind). Does g (part_op x offset room) (o ∷ below) (cell_of x ∷ below)) (some_eq (kind.Object t) l e)
      (inner_does g o holds offset t.0 below (classes t refl) lacks)

  pub field_part : (k : Kind) (i : ℕ) (l : Kind) (below : Stack) → option_and_then part_kind (field_form program k i) ≡ Some l →
      Does g (part_op l (layout.offset (class_of k) i) (layout.room (class_of k) i)) (cell_of k ∷ below) (cell_of l ∷ below)
  field_part k i l below h =
      let p = parted (field_form program k i) l h in
      let f = field_at program layout g.image known k i p.0 p.1 in
      part_does (cell_of k) p.0 l (layout.offset (class_of k) i) (layout.room (class_of k) i) below
      (held program layout g.image known k i p.0 f) p.2 (field_there program layout g.image known k i p.0 f)
      (λ n e. str_room program layout g.image known k i n (subst (λ (x : FieldForm). FieldAt program layout g.image known k i x) e f))
      (λ t e. field_class program layout g.image known k i t (subst (λ (x : FieldForm). FieldAt program layout g.image known k i x) e f)
      g.m (layout.offset (class_of k) i))

  pub static_part : (i : ℕ) (l : Kind) (below : Stack) → option_and_then part_kind (static_form program i) ≡ Some l →
      Does g (part_op l (layout.static_offset i) (layout.static_room i)) (statics ∷ below) (cell_of l ∷ below)
  static_part i l below h =
      let p = parted (static_form program i) l h in
      let f = static_at program layout g.image known i p.0 p.1 in
      part_does statics p.0 l (layout.static_offset i) (layout.static_room i) below refl p.2
      (static_there program layout g.image known i p.0 f)
      (λ n e. static_str_room program layout g.image known i n (subst (λ (x : FieldForm). StaticAt program layout g.image known i x) e f))
      (λ t e. static_class program layout g.image known i t (subst (λ (x : FieldForm). StaticAt program layout g.image known i x) e f)
      g.m (layout.static_offset i))

  pub text_does : (n : ℕ) (below : Stack) → n < length program.texts → Does g (op.Text n) below (str ∷ below)
  text_does n below h at low high =
      let there : n < length g.image.texts = subst (λ (all : List (List ℕ)). n < length all) (sym known.made.texts) h in
      builds below (str ∷ below) (op.Text n) (ap not (lt-ltb n (length g.image.texts) there)) refl refl refl
      (all_go_to_themselves g.image g.m.locals) refl refl (all_go_to_themselves g.image (str ∷ below)) low high

  -- a primitive or an array that is a field
  pub field_get : (k : Kind) (i : ℕ) (p : Primitive) (below : Stack) → field_form program k i ≡ Some (form.Prim p) →
      Does g (get_op p (layout.offset (class_of k) i)) (cell_of k ∷ below) (cell_of (read_kind p) ∷ below)
  field_get k i p below h =
      let f = field_at program layout g.image known k i (form.Prim p) h in
      get_does g (cell_of k) (held program layout g.image known k i (form.Prim p) f) p (layout.offset (class_of k) i) below
      (field_there program layout g.image known k i (form.Prim p) f)

  pub field_put : (k : Kind) (i : ℕ) (p : Primitive) (below : Stack) → field_form program k i ≡ Some (form.Prim p) →
      Does g (put_op p (layout.offset (class_of k) i)) (cell_of (read_kind p) ∷ cell_of k ∷ below) below
  field_put k i p below h =
      let f = field_at program layout g.image known k i (form.Prim p) h in
      put_does g (cell_of k) (held program layout g.image known k i (form.Prim p) f) p (layout.offset (class_of k) i) below
      (field_there program layout g.image known k i (form.Prim p) f)

  pub element_get : (k : Kind) (i n : ℕ) (p : Primitive) (below : Stack) → field_form program k i ≡ Some (form.Array p n) →
      Does g (get_element_op p (layout.offset (class_of k) i) n) (int ∷ cell_of k ∷ below) (cell_of (read_kind p) ∷ below)
  element_get k i n p below h =
      let f = field_at program layout g.image known k i (form.Array p n) h in
      get_element_does g (cell_of k) (held program layout g.image known k i (form.Array p n) f) p (layout.offset (class_of k) i) n below
      (field_there program layout g.image known k i (form.Array p n) f)

  pub element_put : (k : Kind) (i n : ℕ) (p : Primitive) (below : Stack) → field_form program k i ≡ Some (form.Array p n) →
      Does g (put_element_op p (layout.offset (class_of k) i) n) (cell_of (read_kind p) ∷ int ∷ cell_of k ∷ below) below
  element_put k i n p below h =
      let f = field_at program layout g.image known k i (form.Array p n) h in
      put_element_does g (cell_of k) (held program layout g.image known k i (form.Array p n) f) p (layout.offset (class_of k) i) n below
      (field_there program layout g.image known k i (form.Array p n) f)

  pub static_get : (i : ℕ) (p : Primitive) (below : Stack) → static_form program i ≡ Some (form.Prim p) →
      Does g (get_op p (layout.static_offset i)) (statics ∷ below) (cell_of (read_kind p) ∷ below)
  static_get i p below h =
      get_does g statics refl p (layout.static_offset i) below
      (static_there program layout g.image known i (form.Prim p) (static_at program layout g.image known i (form.Prim p) h))

  pub static_put : (i : ℕ) (p : Primitive) (below : Stack) → static_form program i ≡ Some (form.Prim p) →
      Does g (put_op p (layout.static_offset i)) (cell_of (read_kind p) ∷ statics ∷ below) below
  static_put i p below h =
      put_does g statics refl p (layout.static_offset i) below
      (static_there program layout g.image known i (form.Prim p) (static_at program layout g.image known i (form.Prim p) h))

  pub static_element_get : (i n : ℕ) (p : Primitive) (below : Stack) → static_form program i ≡ Some (form.Array p n) →
      Does g (get_element_op p (layout.static_offset i) n) (int ∷ statics ∷ below) (cell_of (read_kind p) ∷ below)
  static_element_get i n p below h =
      get_element_does g statics refl p (layout.static_offset i) n below
      (static_there program layout g.image known i (form.Array p n) (static_at program layout g.image known i (form.Array p n) h))

  pub static_element_put : (i n : ℕ) (p : Primitive) (below : Stack) → static_form program i ≡ Some (form.Array p n) →
      Does g (put_element_op p (layout.static_offset i) n) (cell_of (read_kind p) ∷ int ∷ statics ∷ below) below
  static_element_put i n p below h =
      put_element_does g statics refl p (layout.static_offset i) n below
      (static_there program layout g.image known i (form.Array p n) (static_at program layout g.image known i (form.Array p n) h))

  -- a Buf
  pub buf_size : (k : Kind) (i : ℕ) (below : Stack) → IsBuf (field_form program k i) →
      Does g (op.BufSize (layout.offset (class_of k) i)) (cell_of k ∷ below) (int ∷ below)
  buf_size k i below h =
      let f = field_at program layout g.image known k i (form.Buf h.0) h.1 in
      size_does g (cell_of k) (held program layout g.image known k i (form.Buf h.0) f) (layout.offset (class_of k) i) below
      (buf_there program layout g.image known k i h.0 f)

  pub buf_byte : (k : Kind) (i : ℕ) (below : Stack) → IsBuf (field_form program k i) →
      Does g (op.BufGet (layout.offset (class_of k) i) (layout.room (class_of k) i)) (int ∷ cell_of k ∷ below) (int ∷ below)
  buf_byte k i below h =
      let f = field_at program layout g.image known k i (form.Buf h.0) h.1 in
      byte_does g (cell_of k) (held program layout g.image known k i (form.Buf h.0) f) (layout.offset (class_of k) i) (layout.room (class_of k) i) below
      (subst (λ (r : ℕ). lacks_field g.image (Some (cell_of k)) 7 (layout.offset (class_of k) i) r ≡ false)
      (sym (buf_room program layout g.image known k i h.0 f)) (field_there program layout g.image known k i (form.Buf h.0) f))

-- ---- a body's method

module _ (program : Program) (layout : Layout) (m : Method) (storable : All (IsStorable program) (locals_of m)) where
  local_storable : (n : ℕ) (k : Kind) → slice_get (locals_of m) n ≡ Some k → IsStorable program k
  local_storable n k e = all_at (IsStorable program) (locals_of m) n k e storable

  local_there : (n : ℕ) (k : Kind) → slice_get (locals_of m) n ≡ Some k → slice_get (local_kinds m) n ≡ Some (cell_of k)
  local_there n k e =
      in_front (map cell_of (locals_of m)) waiting_kinds n (cell_of k)
      (slice_get-map cell_of (locals_of m) n ∙ ap (λ (o : Option Kind). option_map cell_of o) e)

  receiver_there : m.is_static ≡ false → slice_get (local_kinds m) 0 ≡ Some (object m.class.0)
  receiver_there e =
      ap (λ (b : Bool).
      slice_get (map cell_of ((if b then [] else kind.Object m.class ∷ []) ++ m.params ++ map (λ (d : Declared). d.kind) (declared_by m)) ++ waiting_kinds) 0) e

  -- the compiler's locals stand behind
  waits_there : (n i : ℕ) (k : ImageKind) → n ≡ length (locals_of m) + i → slice_get waiting_kinds i ≡ Some k →
      slice_get (local_kinds m) n ≡ Some k
  waits_there n i k e there =
      let many = length-map (locals_of m) cell_of in
      let at : n ≡ length (map cell_of (locals_of m)) + i = omega (arith, e, many) in
      ap (λ (p : ℕ). slice_get (local_kinds m) p) at ∙ at_back (map cell_of (locals_of m)) waiting_kinds i ∙ there

  waiting_there : (p : Primitive) → slice_get (local_kinds m) (waiting (site_of program layout m) p) ≡ Some (cell_of (read_kind p))
  waiting_there prim.Bool = waits_there (length (locals_of m)) 0 (cell_of kind.Bool) (omega arith) refl
  waiting_there prim.Byte = waits_there (length (locals_of m) + 1) 1 (cell_of kind.Int) refl refl
  waiting_there prim.Short = waits_there (length (locals_of m) + 1) 1 (cell_of kind.Int) refl refl
  waiting_there prim.Int = waits_there (length (locals_of m) + 1) 1 (cell_of kind.Int) refl refl
  waiting_there prim.Long = waits_there (length (locals_of m) + 2) 2 (cell_of kind.Long) refl refl

  index_there : slice_get (local_kinds m) (waiting_index (site_of program layout m)) ≡ Some int
  index_there = waits_there (length (locals_of m) + 3) 3 int refl refl

  module _ (image : Image) (known : Known program layout image) (fine : IsMethod program m) (Told : ℕ → Stack → Type 0) (Turned : ℕ → Type 0) where
    abbrev pub ground : Ground
    ground = record { image = image; m = image_method program layout m; Told = Told; Turned = Turned }

    abbrev pub context : Context
    context = record {
      program = program;
      class = m.class.0;
      is_static = m.is_static;
      locals = locals_of m;
      result = m.result;
    }

    pub facts : Facts ground context (site_of program layout m)
    facts = record {
      locals = local_there;
      solid = λ n k e. storable_solid program k (local_storable n k e);
      known = λ n k e. storable_kind program k (local_storable n k e);
      receiver = receiver_there;
      own = refl;
      waits = waiting_there;
      waits_index = index_there;
      goes = cell_goes program layout image known;
      null_goes = null_goes program layout image known;
      text = text_does program layout ground known;
      get = field_get program layout ground known;
      put = field_put program layout ground known;
      get_at = element_get program layout ground known;
      put_at = element_put program layout ground known;
      get_static = static_get program layout ground known;
      put_static = static_put program layout ground known;
      get_static_at = static_element_get program layout ground known;
      put_static_at = static_element_put program layout ground known;
      part = field_part program layout ground known;
      static_part = static_part program layout ground known;
      size = buf_size program layout ground known;
      byte = buf_byte program layout ground known;
      static_call = static_does program layout ground known;
      super_call = λ n k args below own h. super_does program layout ground known m.class.0 n k args below h;
      invoke = λ k n l args below h. invoke_does program layout ground known m.class.0 n (length (locals_of m)) k l args below h;
      returns = λ stack e. ap (λ (k : Kind). not ((cell_of k).kind == 0)) e;
      answers = λ k below some goes.
          or_from ((cell_of m.result).kind == 0) (not (goes_to image (cell_of k) (cell_of m.result)))
          (cell_some m.result (solid_result m.result some))
          (not_from_true (goes_to image (cell_of k) (cell_of m.result)) (cell_goes program layout image known k m.result goes));
      ends = fine.result;
      answers_own = λ below some.
          or_from ((cell_of m.result).kind == 0) (not (goes_to image (cell_of m.result) (cell_of m.result)))
          (cell_some m.result (solid_result m.result some))
          (not_from_true (goes_to image (cell_of m.result) (cell_of m.result)) (goes_to_itself image (cell_of m.result)));
    }
