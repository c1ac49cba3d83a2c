-- References: two are one cell exactly where they are one value.
use Rattle.std.proofs.Common.{◌≡◌, ◌↔◌, ◌==◌, ◌&&◌, ℕ, Bool, true, false, if◌then◌else◌, List, [], ◌∷◌, drop, Option, Some, None, Result, Ok, Err, refl, sym, ap, subst, ◌∙◌}
use Rattle.std.specs.Prelude.{IsTrue, slice_get}
use Rattle.std.specs.Option.{option_and_then, option_map}
use Rattle.std.specs.Str.{bytes_eq}
use Rattle.std.specs.Bool.{Decides}
use Rattle.std.proofs.lemmas.Bool.{and_parts, eqb-true}
use Rattle.std.proofs.lemmas.Bool.Decides.{Decides-eqb, same_from_decides}
use Rattle.std.proofs.lemmas.Slice.Eq.{bytes_eq-Decides}
use Rattle.sed_typed.specs.declared.program.FieldForm.TheVariants as form
use Rattle.sed_typed.specs.declared.operators.Binary.{Binary}
use Rattle.sed_typed.specs.declared.number.TypeNo.{TypeNo}
use Rattle.sed_typed.specs.Contents.{Path}
use Rattle.sed_engine.specs.declared.call.Place.{Place}
use Rattle.sed_engine.specs.Operators.{binary_of}
use Rattle.sed_engine.specs.State.{State, answers, gives}
use Rattle.sed_engine.specs.Stops.{Stop, Untyped, map_ok}
use Rattle.sed_engine.specs.Values.{Val, Null, At, Literal, Base, Component, Statics, Spot, are_same, is_reference, same_base, same_reference, truth}
use Rattle.scode_image.specs.declared.image.Image.{Image}
use Rattle.scode_image.specs.declared.image.ImageField.{ImageField}
use Rattle.scode_code.specs.Effect.{of_two, push}
use Rattle.scode_code.specs.Fields.{Setting}
use Rattle.scode_code.specs.Machine.{Onward}
use Rattle.scode_code.specs.Parts.{Part, Reference, part_of, ref_of}
use Rattle.scode_code.specs.Tables.{form_of}
use Rattle.scode_mem.specs.declared.block.Block.{Block}
use Rattle.scode_mem.specs.declared.block.Block.TheVariants as block
use Rattle.scode_cells.specs.declared.cell.Cell.{Cell}
use Rattle.scode_cells.specs.declared.cell.Cell.TheVariants as cell
use Rattle.scode_state.specs.References.{base_of}
use Rattle.scode_vm.specs.Seen.{spot_in, val_of, val_or, vals}
use Rattle.scode_vm.specs.Doings.{EndsTyped}
use Rattle.scode_vm.specs.Tops.{truth_cell}
use Rattle.scode_vm.proofs.Ends.{answered_typed, mapped_typed}

-- references in memory lead to their places
abbrev pub Lead : Type 0
Lead = (image : Image) (class : ℕ) (r : Reference) (spot : Spot) → ref_of image class r ≡ Some spot
    → (spot.base ≡ r.base) × (part_of image class r.base spot.path ≡ Some (r.to.offset, form_of r.to))

one_base : (a b : Base) → same_base a b ≡ true → a ≡ b
one_base Component Component h = refl
one_base Component Statics h = absurd (cc)
one_base Statics Component h = absurd (cc)
one_base Statics Statics h = refl

base_itself : (a : Base) → same_base a a ≡ true
base_itself Component = refl
base_itself Statics = refl

both_true : (a b : Bool) → a ≡ true → b ≡ true → (a && b) ≡ true
both_true a b p q = ap (λ (x : Bool). x && b) p ∙ q

typed_by : (t : Bool) (r : Bool) → EndsTyped (if t then Ok r else Err Untyped) → t ≡ true
typed_by true r h = refl
typed_by false r h = absurd h

typed_references : (u v : Val) → EndsTyped (same_reference u v) → (is_reference u && is_reference v) ≡ true
typed_references u v h = typed_by (is_reference u && is_reference v) (are_same u v) h

abbrev field_at : ImageField → Part
field_at to = (to.offset, form_of to)

one_part : (p q : Part) → Some p ≡ Some q → p ≡ q
one_part p q h = cc

one_class : (j k : TypeNo) → form.Object j ≡ form.Object k → j.0 ≡ k.0
one_class j k h = (let same : j ≡ k = cc in ap (λ (t : TypeNo). t.0) same)

abbrev spot_at : Base → Path → Spot
spot_at base path = record { base = base; path = path }

module _ (lead : Lead) (w : Setting) (place : Place) where
  -- ---- where a reference to a part of a block leads

  record Led (b : Block) (to : ImageField) (s : Spot) : Type 0 where
    base : Base
    based : base_of place b ≡ Some base
    led : ref_of w.image w.class (record { base = base; to = to }) ≡ Some s

  led_from : (b : Block) (to : ImageField) (s : Spot) (o : Option Base) → base_of place b ≡ o
      → option_and_then (ref_of w.image w.class) (option_map (λ base. record { base = base; to = to }) o) ≡ Some s
      → Led b to s
  led_from b to s None e h = absurd (cc)
  led_from b to s (Some base) e h = record { base = base; based = e; led = h }

  based_on : (p : Place) (base : Base) → (if p.0 == place.0 then Some Component else None) ≡ Some base
      → (p ≡ place) × (Component ≡ base)
  based_on p base h = based_by (p.0 == place.0) refl h
    where
      based_by : (t : Bool) → (p.0 == place.0) ≡ t → (if t then Some Component else None) ≡ Some base
          → (p ≡ place) × (Component ≡ base)
      based_by true e h = ((let same : p.0 ≡ place.0 = eqb-true p.0 place.0 e in ap (λ (n : ℕ). record { 0 = n }) same), cc)
      based_by false e h = absurd (cc)

  one_block : (b d : Block) (base : Base) → base_of place b ≡ Some base → base_of place d ≡ Some base → b ≡ d
  one_block (block.Live p) (block.Live q) base e f =
      ap block.Live ((based_on p base e).0 ∙ sym (based_on q base f).0)
  one_block (block.Live p) block.Statics base e f = absurd (let c = (based_on p base e).1 in cc)
  one_block block.Statics (block.Live q) base e f = absurd (let c = (based_on q base f).1 in cc)
  one_block block.Statics block.Statics base e f = refl

  record Same (b d : Block) (to other : ImageField) : Type 0 where
    blocks : b ≡ d
    offsets : to.offset ≡ other.offset
    forms : form_of to ≡ form_of other

  same_led : (b d : Block) (to other : ImageField) (s : Spot) → Led b to s → Led d other s → Same b d to other
  same_led b d to other s x y =
      let p = lead w.image w.class (record { base = x.base; to = to }) s x.led in
      let q = lead w.image w.class (record { base = y.base; to = other }) s y.led in
      let bases : x.base ≡ y.base = sym p.0 ∙ q.0 in
      let parts : Some (field_at to) ≡ Some (field_at other) =
      sym p.1 ∙ ap (λ (base : Base). part_of w.image w.class base s.path) bases ∙ q.1 in
      let part : field_at to ≡ field_at other = one_part (field_at to) (field_at other) parts in
      record {
        blocks = one_block b d y.base (x.based ∙ ap Some bases) y.based;
        offsets = ap (λ (x : Part). x.0) part;
        forms = ap (λ (x : Part). x.1) part;
      }

  -- ---- the forms of references

  -- a cell that is null, a text, or leads to a place
  data View (c : Cell) : Type 0 where
    IsNull : c ≡ cell.Null → View c
    IsText : (n : ℕ) → c ≡ cell.Text n → View c
    IsObject : (b : Block) (offset class : ℕ) (s : Spot) → c ≡ cell.Object b offset class
        → spot_in w place (cell.Object b offset class) ≡ Some s → View c
    IsStr : (b : Block) (offset size : ℕ) (s : Spot) → c ≡ cell.Str b offset size
        → spot_in w place (cell.Str b offset size) ≡ Some s → View c

  found : (o : Option Spot) → is_reference (val_or None o) ≡ true → (s : Spot) × (o ≡ Some s)
  found (Some s) h = (s, refl)
  found None h = absurd (cc)

  view : (c : Cell) → is_reference (val_of w place c) ≡ true → View c
  view (cell.Int n) h = absurd (cc)
  view (cell.Long n) h = absurd (cc)
  view (cell.Bool t) h = absurd (cc)
  view cell.Null h = IsNull refl
  view (cell.Text n) h = IsText n refl
  view (cell.Object b offset class) h =
      let f = found (spot_in w place (cell.Object b offset class)) h in
      IsObject b offset class f.0 refl f.1
  view (cell.Str b offset size) h =
      let f = found (spot_in w place (cell.Str b offset size)) h in
      IsStr b offset size f.0 refl f.1

  led_object : (b : Block) (offset class : ℕ) (s : Spot) → spot_in w place (cell.Object b offset class) ≡ Some s
      → Led b (record { offset = offset; form = 8; n = class }) s
  unfolding spot_in
  led_object b offset class s h =
      led_from b (record { offset = offset; form = 8; n = class }) s (base_of place b) refl h

  led_str : (b : Block) (offset size : ℕ) (s : Spot) → spot_in w place (cell.Str b offset size) ≡ Some s
      → Led b (record { offset = offset; form = 6; n = size }) s
  unfolding spot_in
  led_str b offset size s h =
      led_from b (record { offset = offset; form = 6; n = size }) s (base_of place b) refl h

  abbrev object_field : ℕ → ℕ → ImageField
  object_field offset class = record { offset = offset; form = 8; n = class }

  abbrev str_field : ℕ → ℕ → ImageField
  str_field offset size = record { offset = offset; form = 6; n = size }

  -- where it leads, by its value
  at_place : (o : Option Spot) (s : Spot) → val_or None o ≡ At s → o ≡ Some s
  at_place (Some t) s h = (let same : t ≡ s = cc in ap Some same)
  at_place None s h = absurd (cc)

  -- objects and Strs that lead to one place are one cell
  object_object : (b b2 : Block) (o o2 k k2 : ℕ) (s : Spot) → spot_in w place (cell.Object b o k) ≡ Some s
      → spot_in w place (cell.Object b2 o2 k2) ≡ Some s → cell.Object b o k ≡ cell.Object b2 o2 k2
  object_object b b2 o o2 k k2 s x y =
      let h = same_led b b2 (object_field o k) (object_field o2 k2) s (led_object b o k s x)
      (led_object b2 o2 k2 s y) in
      let blocks : b ≡ b2 = h.blocks in
      let offsets : o ≡ o2 = h.offsets in
      let classes : k ≡ k2 = one_class (record { 0 = k }) (record { 0 = k2 }) h.forms in
      cc

  str_str : (b b2 : Block) (o o2 k k2 : ℕ) (s : Spot) → spot_in w place (cell.Str b o k) ≡ Some s
      → spot_in w place (cell.Str b2 o2 k2) ≡ Some s → cell.Str b o k ≡ cell.Str b2 o2 k2
  str_str b b2 o o2 k k2 s x y =
      let h = same_led b b2 (str_field o k) (str_field o2 k2) s (led_str b o k s x) (led_str b2 o2 k2 s y) in
      let blocks : b ≡ b2 = h.blocks in
      let offsets : o ≡ o2 = h.offsets in
      let forms : form.Str k ≡ form.Str k2 = h.forms in
      cc

  object_str : (b b2 : Block) (o o2 k k2 : ℕ) (s : Spot) → spot_in w place (cell.Object b o k) ≡ Some s
      → spot_in w place (cell.Str b2 o2 k2) ≡ Some s → ⊥
  object_str b b2 o o2 k k2 s x y =
      let h = same_led b b2 (object_field o k) (str_field o2 k2) s (led_object b o k s x) (led_str b2 o2 k2 s y) in
      let forms : form.Object (record { 0 = k }) ≡ form.Str k2 = h.forms in
      cc

  -- references that are one value are one cell
  one_cell : (c d : Cell) → View c → View d → val_of w place c ≡ val_of w place d → c ≡ d
  one_cell c d (IsNull e) (IsNull f) h = e ∙ sym f
  one_cell c d (IsNull e) (IsText n f) h = absurd (let v = sym (ap (val_of w place) e) ∙ h ∙ ap (val_of w place) f in cc)
  one_cell c d (IsNull e) (IsObject b o k s f g) h =
      absurd (let v = sym (ap (val_of w place) e) ∙ h ∙ ap (val_of w place) f ∙ ap (val_or None) g in cc)
  one_cell c d (IsNull e) (IsStr b o k s f g) h =
      absurd (let v = sym (ap (val_of w place) e) ∙ h ∙ ap (val_of w place) f ∙ ap (val_or None) g in cc)
  one_cell c d (IsText n e) (IsNull f) h = absurd (let v = sym (ap (val_of w place) e) ∙ h ∙ ap (val_of w place) f in cc)
  one_cell c d (IsText m e) (IsText n f) h =
      let v : Literal m ≡ Literal n = sym (ap (val_of w place) e) ∙ h ∙ ap (val_of w place) f in
      let same : m ≡ n = cc in
      e ∙ ap cell.Text same ∙ sym f
  one_cell c d (IsText n e) (IsObject b o k s f g) h =
      absurd (let v = sym (ap (val_of w place) e) ∙ h ∙ ap (val_of w place) f ∙ ap (val_or None) g in cc)
  one_cell c d (IsText n e) (IsStr b o k s f g) h =
      absurd (let v = sym (ap (val_of w place) e) ∙ h ∙ ap (val_of w place) f ∙ ap (val_or None) g in cc)
  one_cell c d (IsObject b o k s e g) (IsNull f) h =
      absurd (let v = sym (ap (val_or None) g) ∙ sym (ap (val_of w place) e) ∙ h ∙ ap (val_of w place) f in cc)
  one_cell c d (IsObject b o k s e g) (IsText n f) h =
      absurd (let v = sym (ap (val_or None) g) ∙ sym (ap (val_of w place) e) ∙ h ∙ ap (val_of w place) f in cc)
  one_cell c d (IsObject b o k s e g) (IsObject b2 o2 k2 s2 f g2) h =
      let v : val_or None (spot_in w place (cell.Object b2 o2 k2)) ≡ At s =
      sym (ap (val_of w place) f) ∙ sym h ∙ ap (val_of w place) e ∙ ap (val_or None) g in
      e ∙ object_object b b2 o o2 k k2 s g (at_place (spot_in w place (cell.Object b2 o2 k2)) s v) ∙ sym f
  one_cell c d (IsObject b o k s e g) (IsStr b2 o2 k2 s2 f g2) h =
      let v : val_or None (spot_in w place (cell.Str b2 o2 k2)) ≡ At s =
      sym (ap (val_of w place) f) ∙ sym h ∙ ap (val_of w place) e ∙ ap (val_or None) g in
      absurd (object_str b b2 o o2 k k2 s g (at_place (spot_in w place (cell.Str b2 o2 k2)) s v))
  one_cell c d (IsStr b o k s e g) (IsNull f) h =
      absurd (let v = sym (ap (val_or None) g) ∙ sym (ap (val_of w place) e) ∙ h ∙ ap (val_of w place) f in cc)
  one_cell c d (IsStr b o k s e g) (IsText n f) h =
      absurd (let v = sym (ap (val_or None) g) ∙ sym (ap (val_of w place) e) ∙ h ∙ ap (val_of w place) f in cc)
  one_cell c d (IsStr b o k s e g) (IsObject b2 o2 k2 s2 f g2) h =
      let v : val_or None (spot_in w place (cell.Str b o k)) ≡ At s2 =
      sym (ap (val_of w place) e) ∙ h ∙ ap (val_of w place) f ∙ ap (val_or None) g2 in
      absurd (object_str b2 b o2 o k2 k s2 g2 (at_place (spot_in w place (cell.Str b o k)) s2 v))
  one_cell c d (IsStr b o k s e g) (IsStr b2 o2 k2 s2 f g2) h =
      let v : val_or None (spot_in w place (cell.Str b2 o2 k2)) ≡ At s =
      sym (ap (val_of w place) f) ∙ sym h ∙ ap (val_of w place) e ∙ ap (val_or None) g in
      e ∙ str_str b b2 o o2 k k2 s g (at_place (spot_in w place (cell.Str b2 o2 k2)) s v) ∙ sym f

  -- ---- the test

  same_at : (s t : Spot) → same_base s.base t.base && bytes_eq s.path t.path ≡ true → s ≡ t
  same_at s t h =
      let p = and_parts (same_base s.base t.base) (bytes_eq s.path t.path) h in
      let bases : s.base ≡ t.base = one_base s.base t.base p.0 in
      let paths : s.path ≡ t.path = (bytes_eq-Decides s.path t.path).0 p.1 in
      ap (λ (base : Base). spot_at base s.path) bases ∙ ap (λ (path : Path). spot_at t.base path) paths

  same_vals : (u v : Val) → is_reference u ≡ true → is_reference v ≡ true → are_same u v ≡ true → u ≡ v
  same_vals Null Null a b h = refl
  same_vals Null (At t) a b h = absurd (cc)
  same_vals Null (Literal n) a b h = absurd (cc)
  same_vals (At s) Null a b h = absurd (cc)
  same_vals (At s) (At t) a b h = ap At (same_at s t h)
  same_vals (At s) (Literal n) a b h = absurd (cc)
  same_vals (Literal m) Null a b h = absurd (cc)
  same_vals (Literal m) (At t) a b h = absurd (cc)
  same_vals (Literal m) (Literal n) a b h = ap Literal (eqb-true m n h)
  same_vals u v a b h = absurd (cc)

  itself : (v : Val) → is_reference v ≡ true → are_same v v ≡ true
  itself Null h = refl
  itself (At s) h = both_true (same_base s.base s.base) (bytes_eq s.path s.path) (base_itself s.base)
      ((bytes_eq-Decides s.path s.path).1 refl)
  itself (Literal n) h = (Decides-eqb n n).1 refl
  itself v h = absurd (cc)

  are_same_decides : (c d : Cell) → is_reference (val_of w place c) ≡ true → is_reference (val_of w place d) ≡ true
      → Decides (are_same (val_of w place c) (val_of w place d)) (c ≡ d)
  are_same_decides c d a b = (
    (λ h. one_cell c d (view c a) (view d b) (same_vals (val_of w place c) (val_of w place d) a b h)),
    (λ e. ap (λ (x : Cell). are_same (val_of w place c) (val_of w place x)) (sym e) ∙ itself (val_of w place c) a),
  )

  -- what the test of two references gives
  pub tested : (c d : Cell) (r : Bool) → (IsTrue r ↔ (c ≡ d))
      → EndsTyped (same_reference (val_of w place c) (val_of w place d))
      → same_reference (val_of w place c) (val_of w place d) ≡ Ok r
  tested c d r same h =
      let known = typed_references (val_of w place c) (val_of w place d) h in
      let p = and_parts (is_reference (val_of w place c)) (is_reference (val_of w place d)) known in
      let e : are_same (val_of w place c) (val_of w place d) ≡ r =
      same_from_decides (are_same (val_of w place c) (val_of w place d)) r (are_same_decides c d p.0 p.1) (same.0, same.1) in
      ap (λ (t : Bool). if t then Ok (are_same (val_of w place c) (val_of w place d)) else Err Untyped) known
      ∙ ap Ok e

  -- how the test of the two topmost cells ends, where it is typed
  pub references_end : (o : Binary) (g : Bool → Bool)
      → ((u v : Val) → binary_of o u v ≡ map_ok (λ (b : Bool). truth (g b)) (same_reference u v))
      → (stack : List Cell) (c d : Cell) → slice_get stack 0 ≡ Some d → slice_get (drop 1 stack) 0 ≡ Some c
      → (r : Bool) → (IsTrue r ↔ (c ≡ d)) → (st : State) → EndsTyped (of_two o (vals w place stack) st).result
      → of_two o (vals w place stack) st
      ≡ gives (Onward (vals w place (truth_cell (g r) ∷ drop 1 (drop 1 stack)))) st
  references_end o g same_as [] c d top next r same st h = absurd (cc)
  references_end o g same_as (y ∷ []) c d top next r same st h = absurd (cc)
  references_end o g same_as (y ∷ x ∷ rest) c d top next r same st h =
      let first : y ≡ d = cc in
      let second : x ≡ c = cc in
      let again : IsTrue r ↔ (x ≡ y) =
      ((λ t. second ∙ same.0 t ∙ sym first), (λ e. same.1 (sym second ∙ e ∙ first))) in
      let typed : EndsTyped (binary_of o (val_of w place x) (val_of w place y)) =
      answered_typed (binary_of o (val_of w place x) (val_of w place y)) (vals w place rest) st h in
      let both : EndsTyped (same_reference (val_of w place x) (val_of w place y)) =
      mapped_typed (λ (b : Bool). truth (g b)) (same_reference (val_of w place x) (val_of w place y))
      (subst EndsTyped (same_as (val_of w place x) (val_of w place y)) typed) in
      let gives_it : binary_of o (val_of w place x) (val_of w place y) ≡ Ok (truth (g r)) =
      same_as (val_of w place x) (val_of w place y)
      ∙ ap (λ (e : Result Bool Stop). map_ok (λ (b : Bool). truth (g b)) e) (tested x y r again both) in
      ap (λ (e : Result Val Stop). push (vals w place rest) (answers e st)) gives_it
