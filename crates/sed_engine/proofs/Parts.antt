-- Fields, statics and elements as expressions and places name them.
use Rattle.std.proofs.Common.{◌≡◌, ℕ, Bool, true, if◌then◌else◌, List, [], ◌∷◌, ◌++◌, map, Option, Some, None, refl, sym, ap, subst, ◌∙◌}
use Rattle.std.specs.Prelude.{nat_lt, slice_get}
use Rattle.std.specs.Option.{option_and_then, option_map}
use Rattle.std.proofs.lemmas.Option.{same_Some}
use Rattle.sed_value.specs.declared.slot_type.Primitive.{Primitive}
use Rattle.sed_typed.specs.declared.kind.Kind.{Kind}
use Rattle.sed_typed.specs.declared.kind.Kind.TheVariants as kind
use Rattle.sed_typed.specs.declared.number.TypeNo.{TypeNo}
use Rattle.sed_typed.specs.declared.program.Field.{Field}
use Rattle.sed_typed.specs.declared.program.FieldForm.{FieldForm}
use Rattle.sed_typed.specs.declared.program.FieldForm.TheVariants as form
use Rattle.sed_typed.specs.declared.program.Program.{Program}
use Rattle.sed_typed.specs.Classes.{fields}
use Rattle.sed_typed.specs.Kinds.{read_kind}
use Rattle.sed_typed.specs.Objects.{form_class, field_class, object_class}
use Rattle.sed_typed.specs.Typed.{Typed}
use Rattle.sed_typed.specs.TypedExpr.{part_kind, field_form, static_form}
use Rattle.sed_engine.specs.Values.{Val, Null, At, Statics, Spot}
use Rattle.sed_engine.specs.State.{State, then_do}
use Rattle.sed_engine.specs.Stops.{there}
use Rattle.sed_engine.specs.Steps.{inside}
use Rattle.sed_engine.specs.Places.{Target, OfLocal, OfStatic, OfField, OfElement, OfStaticElement, static_spot, field_spot, element_spot, field_element, fetch, put}
use Rattle.sed_engine.specs.Texts.{index_of}
use Rattle.sed_engine.specs.Fits.{form_at, form_below}
use Rattle.sed_engine.specs.Program.{shape_of}
use Rattle.sed_engine.specs.Expressions.{Calls, Setting, class_from, class_of, part_at}
use Rattle.sed_engine.proofs.Below.{Itself, absent, field_below}
use Rattle.sed_engine.proofs.FirstPaths.{shapes_of}
use Rattle.sed_engine.proofs.Kinded.{form_from, HasKind, IsObject, index_is}
use Rattle.sed_engine.proofs.Ranges.{Sound}
use Rattle.sed_engine.proofs.Ready.{Ready, Frame, Holds, then_holds, gives_it, answers_it, read_holds, read_str_holds, write_holds, read_local_holds, write_local_holds}
use Rattle.sed_engine.proofs.Spots.{Concrete, form_at_is, form_further, class_further, form_in_object}

-- what stands at a place: a form, and an object's class
pub record StandsAt (program : Program) (class : ℕ) (spot : Spot) (f : FieldForm) : Type 0 where
  pub form : form_from program class spot.base spot.path ≡ Some f
  pub class_is : class_from program class spot.base spot.path ≡ form_class f

-- a field by its form
field_of : (all : List Field) (i : ℕ) (f : FieldForm) → option_map (λ x. x.form) (slice_get all i) ≡ Some f → (x : Field) × (slice_get all i ≡ Some x) × (x.form ≡ f)
field_of all i f e = go (slice_get all i) refl e
  where
    go : (o : Option Field) → slice_get all i ≡ o → option_map (λ x. x.form) o ≡ Some f → (x : Field) × (slice_get all i ≡ Some x) × (x.form ≡ f)
    go None is e = absent f e
    go (Some x) is e = (x, is, same_Some x.form f e)

pub field_there : (program : Program) → Typed program → (class : ℕ) (d : ℕ) (spot : Spot) (i : ℕ) (f : FieldForm) → IsObject program class d spot →
    option_map (λ x. x.form) (slice_get (fields program d) i) ≡ Some f → StandsAt program class (inside spot i) f
field_there program typed class d spot i f o e =
    let x : (x : Field) × (slice_get (fields program d) i ≡ Some x) × (x.form ≡ f) = field_of (fields program d) i f e in
    let here : slice_get (fields program o.at) i ≡ Some x.0 = field_below program typed d o.at i x.0 o.below x.1 in
    record {
      form = form_in_object program class spot.base spot.path i o.at o.is ∙ form_at_is (fields program o.at) i ∙ ap (option_map (λ (y : Field). y.form)) here ∙ ap (λ (g : FieldForm). Some g) x.2;
      class_is = class_further program class spot.base spot.path i o.at o.is ∙ ap field_class here ∙ ap form_class x.2;
    }

form_nothing : (program : Program) (class i : ℕ) → form_from program class Statics (i ∷ []) ≡ form_at (map shape_of program.statics) i
form_nothing program class i = go (form_at (map shape_of program.statics) i)
  where
    go : (o : Option FieldForm) → form_below (shapes_of program) [] o ≡ o
    go None = refl
    go (Some f) = refl

class_there : (program : Program) (o : Option ℕ) → object_class program [] o ≡ o
class_there program None = refl
class_there program (Some c) = refl

pub static_there : (program : Program) (class i : ℕ) (f : FieldForm) → static_form program i ≡ Some f → StandsAt program class (static_spot i) f
static_there program class i f e =
    let x : (x : Field) × (slice_get program.statics i ≡ Some x) × (x.form ≡ f) = field_of program.statics i f e in
    record {
      form = form_nothing program class i ∙ form_at_is program.statics i ∙ e;
      class_is = class_there program (field_class (slice_get program.statics i)) ∙ ap field_class x.1 ∙ ap form_class x.2;
    }

-- a form that stands inside what a kind is
some_form : (o : Option FieldForm) (g : FieldForm → Option Kind) (k : Kind) → option_and_then g o ≡ Some k → (f : FieldForm) × (o ≡ Some f) × (g f ≡ Some k)
some_form None g k e = absent k e
some_form (Some f) g k e = (f, refl, e)

class_known : (o : Option ℕ) (c : ℕ) → o ≡ Some c → Sound (λ _. Unit {0}) (there o)
class_known None c e = absent c e
class_known (Some n) c e = tt

module _ (program : Program) (typed : Typed program) (class : ℕ) (component : Concrete program class) (m : Frame) where
  abbrev pub G : State → Type 0
  G s = Ready program class m.own m.static m.locals s

  abbrev Has : Kind → Val → Type 0
  Has k v = HasKind program class k v

  abbrev w : Calls → Setting
  w calls = record { program = program; class = class; calls = calls }

  -- a field of an object
  pub field_holds : (d : TypeNo) (v : Val) (i : ℕ) (f : FieldForm) → Has (kind.Object d) v → field_form program (kind.Object d) i ≡ Some f → Holds G Spot (λ spot. StandsAt program class spot f) (field_spot v i)
  field_holds d Null i f h e = record { holds = λ s g. (g, tt) }
  field_holds d (At spot) i f h e = record { holds = λ s g. (g, field_there program typed class d.0 spot i f h e) }
  field_holds d v i f h e = absurd h

  -- a part stands at its place, and is a value of its kind
  part_at_holds : (calls : Calls) (spot : Spot) (f : FieldForm) (k : Kind) → StandsAt program class spot f → part_kind f ≡ Some k → Holds G Val (Has k) (part_at (w calls) k spot)
  part_at_holds calls spot (form.Object t) k s e =
      subst (λ (x : Kind). Holds G Val (Has x) (part_at (w calls) x spot)) (same_Some (kind.Object t) k e)
      (then_holds (answers_it (there (class_of (w calls) spot)) (class_known (class_of (w calls) spot) t.0 s.class_is)) (λ _ _. gives_it (At spot) (record { at = t.0; is = s.class_is; below = Itself })))
  part_at_holds calls spot (form.Str n) k s e =
      subst (λ (x : Kind). Holds G Val (Has x) (part_at (w calls) x spot)) (same_Some kind.Text k e)
      (then_holds (read_str_holds program typed class component m spot n s.form) (λ _ _. gives_it (At spot) (n, s.form)))
  part_at_holds calls spot (form.Prim p) k s e = absent k e
  part_at_holds calls spot (form.Buf n) k s e = absent k e
  part_at_holds calls spot (form.Array p n) k s e = absent k e

  pub part_holds : (calls : Calls) (k : Kind) (v : Val) (i : ℕ) (part : Kind) → Has k v → option_and_then part_kind (field_form program k i) ≡ Some part → Holds G Val (Has part) (λ s. then_do (field_spot v i s) (λ spot s1. part_at (w calls) part spot s1))
  part_holds calls (kind.Object d) v i part h e =
      let f : (f : FieldForm) × (field_form program (kind.Object d) i ≡ Some f) × (part_kind f ≡ Some part) = some_form (field_form program (kind.Object d) i) part_kind part e in
      then_holds (field_holds d v i f.0 h f.1) (λ spot s. part_at_holds calls spot f.0 part s f.2)
  part_holds calls k v i part h e = absent part e

  pub static_part_holds : (calls : Calls) (i : ℕ) (k : Kind) → option_and_then part_kind (static_form program i) ≡ Some k → Holds G Val (Has k) (part_at (w calls) k (static_spot i))
  static_part_holds calls i k e =
      let f : (f : FieldForm) × (static_form program i ≡ Some f) × (part_kind f ≡ Some k) = some_form (static_form program i) part_kind k e in
      part_at_holds calls (static_spot i) f.0 k (static_there program class i f.0 f.1) f.2

  -- an element of an array
  element_at : (spot : Spot) (p : Primitive) (n i : ℕ) → form_from program class spot.base spot.path ≡ Some (form.Array p n) → nat_lt i n ≡ true → form_from program class spot.base (spot.path ++ i ∷ []) ≡ Some (form.Prim p)
  element_at spot p n i e less = form_further program class spot.base spot.path i (form.Array p n) e ∙ ap (λ (b : Bool). if b then Some (form.Prim p) else None) less

  pub element_holds : (p : Primitive) (n : ℕ) (spot : Spot) (index : Val) → form_from program class spot.base spot.path ≡ Some (form.Array p n) → Has kind.Int index → Holds G Spot (λ at. form_from program class at.base at.path ≡ Some (form.Prim p)) (element_spot n spot index)
  element_holds p n spot index e x = then_holds (answers_it (index_of n index) (index_is program class n index x)) (λ i less. gives_it (inside spot i) (element_at spot p n i e less))

  pub field_element_holds : (k : Kind) (p : Primitive) (n : ℕ) (v : Val) (i : ℕ) (index : Val) → Has k v → field_form program k i ≡ Some (form.Array p n) → Has kind.Int index →
      Holds G Spot (λ at. form_from program class at.base at.path ≡ Some (form.Prim p)) (field_element n v i index)
  field_element_holds (kind.Object d) p n v i index h e x = then_holds (field_holds d v i (form.Array p n) h e) (λ spot s. element_holds p n spot index s.form x)
  field_element_holds k p n v i index h e x = absent (form.Array p n) e

  pub static_element_holds : (p : Primitive) (n i : ℕ) (index : Val) → static_form program i ≡ Some (form.Array p n) → Has kind.Int index →
      Holds G Spot (λ at. form_from program class at.base at.path ≡ Some (form.Prim p)) (element_spot n (static_spot i) index)
  static_element_holds p n i index e x = element_holds p n (static_spot i) index (static_there program class i (form.Array p n) e).form x

  -- ---- targets

  -- a target of a kind
  abbrev pub TargetHas : Kind → Target → Type 0
  TargetHas k (OfLocal j i) = (j ≡ k) × (slice_get m.locals i ≡ Some j)
  TargetHas k (OfStatic p i) = (read_kind p ≡ k) × (form_from program class Statics (i ∷ []) ≡ Some (form.Prim p))
  TargetHas k (OfField p v i) = (read_kind p ≡ k) × ((d : TypeNo) × Has (kind.Object d) v × (field_form program (kind.Object d) i ≡ Some (form.Prim p)))
  TargetHas k (OfElement p n v i index) = (read_kind p ≡ k) × ((j : Kind) × Has j v × (field_form program j i ≡ Some (form.Array p n))) × Has kind.Int index
  TargetHas k (OfStaticElement p n i index) = (read_kind p ≡ k) × (static_form program i ≡ Some (form.Array p n)) × Has kind.Int index

  pub fetch_holds : (k : Kind) (t : Target) → TargetHas k t → Holds G Val (Has k) (fetch t)
  fetch_holds k (OfLocal j i) h = subst (λ (x : Kind). Holds G Val (Has x) (fetch (OfLocal j i))) h.0 (read_local_holds program typed class component m i j h.1)
  fetch_holds k (OfStatic p i) h = subst (λ (x : Kind). Holds G Val (Has x) (fetch (OfStatic p i))) h.0 (read_holds program typed class component m (static_spot i) p h.1)
  fetch_holds k (OfField p v i) h =
      subst (λ (x : Kind). Holds G Val (Has x) (fetch (OfField p v i))) h.0
      (then_holds (field_holds h.1.0 v i (form.Prim p) h.1.1 h.1.2) (λ spot s. read_holds program typed class component m spot p s.form))
  fetch_holds k (OfElement p n v i index) h =
      subst (λ (x : Kind). Holds G Val (Has x) (fetch (OfElement p n v i index))) h.0
      (then_holds (field_element_holds h.1.0 p n v i index h.1.1 h.1.2 h.2) (λ spot s. read_holds program typed class component m spot p s))
  fetch_holds k (OfStaticElement p n i index) h =
      subst (λ (x : Kind). Holds G Val (Has x) (fetch (OfStaticElement p n i index))) h.0
      (then_holds (static_element_holds p n i index h.1 h.2) (λ spot s. read_holds program typed class component m spot p s))

  pub put_holds : (k : Kind) (t : Target) (v : Val) → TargetHas k t → Has k v → Holds G Val (Has k) (put t v)
  put_holds k (OfLocal j i) v h g =
      subst (λ (x : Kind). Holds G Val (Has x) (put (OfLocal j i) v)) h.0 (write_local_holds program typed class component m i j v h.1 (subst (λ (x : Kind). Has x v) (sym h.0) g))
  put_holds k (OfStatic p i) v h g =
      subst (λ (x : Kind). Holds G Val (Has x) (put (OfStatic p i) v)) h.0 (write_holds program typed class component m (static_spot i) p v h.1 (subst (λ (x : Kind). Has x v) (sym h.0) g))
  put_holds k (OfField p o i) v h g =
      subst (λ (x : Kind). Holds G Val (Has x) (put (OfField p o i) v)) h.0
      (then_holds (field_holds h.1.0 o i (form.Prim p) h.1.1 h.1.2) (λ spot s. write_holds program typed class component m spot p v s.form (subst (λ (x : Kind). Has x v) (sym h.0) g)))
  put_holds k (OfElement p n o i index) v h g =
      subst (λ (x : Kind). Holds G Val (Has x) (put (OfElement p n o i index) v)) h.0
      (then_holds (field_element_holds h.1.0 p n o i index h.1.1 h.1.2 h.2) (λ spot s. write_holds program typed class component m spot p v s (subst (λ (x : Kind). Has x v) (sym h.0) g)))
  put_holds k (OfStaticElement p n i index) v h g =
      subst (λ (x : Kind). Holds G Val (Has x) (put (OfStaticElement p n i index) v)) h.0
      (then_holds (static_element_holds p n i index h.1 h.2) (λ spot s. write_holds program typed class component m spot p v s (subst (λ (x : Kind). Has x v) (sym h.0) g)))
