-- The fields of a typed program's objects and statics, found by their form, offset and n.
use Rattle.std.proofs.Common.{◌≡◌, ℕ, zero, suc, ◌==◌, ◌||◌, ◌<◌, Bool, true, false, List, [], length, Option, Some, None, slice_get, refl, sym, ap, ◌∙◌, arith}
use Rattle.std.proofs.lemmas.Bool.Decides.{nat_tests}
use Rattle.std.specs.List.{list_any}
use Rattle.std.specs.Option.{option_map}
use Rattle.std.proofs.lemmas.Option.{same_Some}
use Rattle.sed_typed.specs.declared.kind.Kind.TheVariants as kind
use Rattle.sed_typed.specs.declared.number.TypeNo.{TypeNo}
use Rattle.sed_typed.specs.declared.program.Field.{Field}
use Rattle.sed_typed.specs.declared.program.FieldForm.{FieldForm}
use Rattle.sed_typed.specs.declared.program.FieldForm.TheVariants as form
use Rattle.sed_typed.specs.declared.program.Program.{Program}
use Rattle.sed_typed.specs.Classes.{base_of, fields, lineage, reached}
use Rattle.sed_typed.specs.Typed.{Typed}
use Rattle.sed_typed.specs.TypedExpr.{field_form, static_form}
use Rattle.sed_typed.specs.TypedSchema.{is_below}
use Rattle.sed_typed.proofs.Lineages.{lineage_of_base, has_base}
use Rattle.sed_engine.specs.Places.{field_spot, static_spot}
use Rattle.sed_engine.specs.State.{State, gives}
use Rattle.sed_engine.specs.Values.{Val, Statics, Spot, Nothing, Truth, Int, Long, Null, At, Literal}
use Rattle.sed_engine.proofs.Below.{Below, Itself, Based, absent, field_below}
use Rattle.sed_engine.proofs.Kinded.{HasKind, IsObject}
use Rattle.sed_engine.proofs.Spots.{Concrete, concrete}
use Rattle.scode_image.specs.declared.image.Image.{Image}
use Rattle.scode_code.specs.Tables.{class_fields, field_number}
use Rattle.scode_code.specs.Fields.{Setting, field_at, buf_at, buf_number}
use Rattle.scode_emit.specs.Site.{Layout}
use Rattle.scode_sim.specs.Made.{IsMade, number_of_form, room_of_form}
use Rattle.scode_sim.proofs.Fields.{field_at_spot, buf_at_spot, static_at}

-- ---- what is at or below

own_below : (next : ℕ → Option ℕ) (above k : ℕ) → above < k → list_any (λ c. c == above) (reached next k (Some above)) ≡ true
own_below next above zero lt = absurd (omega (arith, lt))
own_below next above (suc k) lt = let e : (above == above) ≡ true = grind (arith, nat_tests) in ap (λ (b : Bool). b || list_any (λ c. c == above) (reached next k (next above))) e

either : (a b : Bool) → b ≡ true → (a || b) ≡ true
either true b e = refl
either false b e = e

pub below_is : (program : Program) → Typed program → (above class : ℕ) → class < length program.schema.classes → Below program.schema.classes above class → is_below program.schema.classes above class ≡ true
below_is program typed above class lt Itself = own_below (base_of program.schema.classes) above (length program.schema.classes) lt
below_is program typed above class lt (Based base low e rest) =
    let before = (has_base program typed class base e).before in
    let up = below_is program typed above base (omega (arith, before, lt)) rest in
    ap (list_any (λ c. c == above)) (lineage_of_base program typed class base e) ∙ either (class == above) (list_any (λ c. c == above) (lineage program.schema.classes base)) up

-- ---- a field by its form

pub field_of : (all : List Field) (i : ℕ) (f : FieldForm) → option_map (λ (x : Field). x.form) (slice_get all i) ≡ Some f → (x : Field) × (slice_get all i ≡ Some x) × (x.form ≡ f)
field_of all i f e = go (slice_get all i) refl e
  where
    go : (o : Option Field) → slice_get all i ≡ o → option_map (λ (x : Field). x.form) o ≡ Some f → (x : Field) × (slice_get all i ≡ Some x) × (x.form ≡ f)
    go None is e = absent f e
    go (Some x) is e = (x, is, same_Some x.form f e)

module _ (program : Program) (typed : Typed program) (layout : Layout) (image : Image) (made : IsMade program layout image) (class : ℕ) (component : Concrete program class) where
  abbrev pub w : Setting
  w = record { image = image; class = class }

  -- ---- fields of objects

  -- what an object of a class or of one below it has at a field's offset
  found_below : (d : ℕ) (spot : Spot) (i : ℕ) (x : Field) → (o : IsObject program class d spot) → slice_get (fields program d) i ≡ Some x →
      (slice_get (fields program o.at) i ≡ Some x) × (layout.offset o.at i ≡ layout.offset d i)
  found_below d spot i x o e =
      let known = concrete program typed class component spot.base spot.path o.at o.is in
      (field_below program typed d o.at i x o.below e, made.inherited d o.at i x (below_is program typed d o.at known.0 o.below) e)

  pub object_field : (d : TypeNo) (v : Val) (i : ℕ) (f : FieldForm) → HasKind program class (kind.Object d) v → field_form program (kind.Object d) i ≡ Some f → (s : State) →
      field_at w v (number_of_form f) (layout.offset d.0 i) (room_of_form f) s ≡ field_spot v i s
  object_field d Null i f h e s = refl
  object_field d (At spot) i f h e s =
      let x = field_of (fields program d.0) i f e in
      let b = found_below d.0 spot i x.0 h x.1 in
      let found : field_number (class_fields image h.at) (number_of_form f) (layout.offset d.0 i) (room_of_form f) ≡ Some i =
      ap (λ (g : FieldForm). field_number (class_fields image h.at) (number_of_form g) (layout.offset d.0 i) (room_of_form g)) (sym x.2)
      ∙ ap (λ (offset : ℕ). field_number (class_fields image h.at) (number_of_form x.0.form) offset (room_of_form x.0.form)) (sym b.1)
      ∙ (made.fields_of h.at).found i x.0 b.0 in
      field_at_spot program layout image made class spot h.at i (number_of_form f) (layout.offset d.0 i) (room_of_form f) h.is found s
  object_field d Nothing i f h e s = absurd h
  object_field d (Truth t) i f h e s = absurd h
  object_field d (Int n) i f h e s = absurd h
  object_field d (Long n) i f h e s = absurd h
  object_field d (Literal n) i f h e s = absurd h

  pub object_buf : (d : TypeNo) (v : Val) (i n : ℕ) → HasKind program class (kind.Object d) v → field_form program (kind.Object d) i ≡ Some (form.Buf n) → (s : State) →
      buf_at w v (layout.offset d.0 i) s ≡ field_spot v i s
  object_buf d Null i n h e s = refl
  object_buf d (At spot) i n h e s =
      let x = field_of (fields program d.0) i (form.Buf n) e in
      let b = found_below d.0 spot i x.0 h x.1 in
      let found : buf_number (class_fields image h.at) (layout.offset d.0 i) ≡ Some i =
      ap (buf_number (class_fields image h.at)) (sym b.1) ∙ (made.fields_of h.at).bufs i n x.0 b.0 x.2 in
      buf_at_spot program layout image made class spot h.at i (layout.offset d.0 i) h.is found s
  object_buf d Nothing i n h e s = absurd h
  object_buf d (Truth t) i n h e s = absurd h
  object_buf d (Int m) i n h e s = absurd h
  object_buf d (Long m) i n h e s = absurd h
  object_buf d (Literal m) i n h e s = absurd h

  -- the room of a Str and of a Buf
  pub str_room : (d i n : ℕ) → option_map (λ (x : Field). x.form) (slice_get (fields program d) i) ≡ Some (form.Str n) → layout.room d i ≡ n
  str_room d i n e = let x = field_of (fields program d) i (form.Str n) e in (made.fields_of d).strs i n x.0 x.1 x.2

  pub buf_room : (d i n : ℕ) → option_map (λ (x : Field). x.form) (slice_get (fields program d) i) ≡ Some (form.Buf n) → layout.room d i ≡ n
  buf_room d i n e = let x = field_of (fields program d) i (form.Buf n) e in (made.fields_of d).most i n x.0 x.1 x.2

  -- ---- statics

  abbrev pub block : Val
  block = At (record { base = Statics; path = [] })

  pub static_field : (i : ℕ) (f : FieldForm) → static_form program i ≡ Some f → (s : State) →
      field_at w block (number_of_form f) (layout.static_offset i) (room_of_form f) s ≡ gives (static_spot i) s
  static_field i f e s =
      let x = field_of program.statics i f e in
      let found : field_number image.static_fields (number_of_form f) (layout.static_offset i) (room_of_form f) ≡ Some i =
      ap (λ (g : FieldForm). field_number image.static_fields (number_of_form g) (layout.static_offset i) (room_of_form g)) (sym x.2) ∙ made.statics.found i x.0 x.1 in
      static_at program layout image made class i (number_of_form f) (layout.static_offset i) (room_of_form f) found s

  pub static_str_room : (i n : ℕ) → static_form program i ≡ Some (form.Str n) → layout.static_room i ≡ n
  static_str_room i n e = let x = field_of program.statics i (form.Str n) e in made.statics.strs i n x.0 x.1 x.2
