-- Where a reference to an object leads, and what stands there.
use Rattle.std.proofs.Common.{◌≡◌, ◌+◌, ◌*◌, ◌<◌, ◌≤◌, ◌^◌, ℕ, true, List, [], ◌∷◌, ◌++◌, Option, Some, None, refl, sym, ap, subst, ◌∙◌, arith}
use Rattle.std.specs.Prelude.{slice_get}
use Rattle.std.specs.Option.{option_and_then, option_map, option_map_or}
use Rattle.sed_value.specs.declared.slot_type.Primitive.{Primitive}
use Rattle.sed_value.specs.SlotType.{width_of}
use Rattle.sed_typed.specs.declared.number.TypeNo.{TypeNo}
use Rattle.sed_typed.specs.declared.program.FieldForm.{FieldForm}
use Rattle.sed_typed.specs.declared.program.FieldForm.TheVariants as form
use Rattle.sed_typed.specs.Contents.{Path, value_at}
use Rattle.sed_typed.specs.Objects.{class_in, form_class, object_in}
use Rattle.sed_engine.specs.declared.call.Place.{Place}
use Rattle.sed_engine.specs.State.{State, answers, gives, then_do}
use Rattle.sed_engine.specs.Steps.{inside}
use Rattle.sed_engine.specs.Stops.{there}
use Rattle.sed_engine.specs.Values.{Base, Component, Statics, Spot}
use Rattle.scode_image.specs.declared.image.Image.{Image}
use Rattle.scode_image.specs.declared.image.ImageField.{ImageField}
use Rattle.scode_code.specs.Fields.{Setting, buf_at, buf_number, field_at, fields_at, fields_from}
use Rattle.scode_code.specs.Parts.{Part, field_part, part_from, part_in, part_of}
use Rattle.scode_code.specs.TableRules.{tables_agree}
use Rattle.scode_code.specs.Tables.{class_fields, field_number, form_of}
use Rattle.scode_mem.specs.declared.block.Block.{Block}
use Rattle.scode_mem.specs.Blocks.{HasBytes, Held}
use Rattle.scode_cells.specs.declared.cell.Cell.{Cell}
use Rattle.scode_cells.specs.declared.cell.Cell.TheVariants as cell
use Rattle.scode_whole.proofs.Truths.{same_value, through}
use Rattle.scode_state.proofs.Apart.{field_part_of}
use Rattle.scode_state.specs.References.{block_of, leads_to}
use Rattle.scode_state.specs.Stands.{IsBlock, StandsAt, contents_in}
use Rattle.scode_state.specs.Values.{held_in, part_width, size_in, value_from}
use Rattle.scode_vm.specs.Seen.{spot_in, val_of, val_or}
use Rattle.scode_vm.specs.Doings.{EndsTyped}
pub use Rattle.scode_vm.proofs.Receivers.{ObjectsLead, StrsLead}
use Rattle.scode_access.specs.Found.{BufFound, FieldFound, Standing}
use Rattle.scode_access.specs.Tops.{IsObject}
use Rattle.scode_access.specs.Within.{IsGround}

-- ---- what the laws of blocks say

abbrev pub FieldsStand : Type 0
FieldsStand = (w : Setting) (spot : Spot) (at i : ℕ) (t : TypeNo) (to : ImageField)
    → part_of w.image w.class spot.base spot.path ≡ Some (at, form.Object t)
    → field_number (fields_at w spot) to.form to.offset to.n ≡ Some i
    → part_of w.image w.class spot.base (spot.path ++ i ∷ []) ≡ Some (at + to.offset, form_of to)

abbrev pub BufsStand : Type 0
BufsStand = (w : Setting) (spot : Spot) (at i : ℕ) (t : TypeNo) (offset : ℕ)
    → part_of w.image w.class spot.base spot.path ≡ Some (at, form.Object t)
    → buf_number (fields_at w spot) offset ≡ Some i
    → (n : ℕ) × (part_of w.image w.class spot.base (spot.path ++ i ∷ []) ≡ Some (at + offset, form.Buf n))

abbrev pub ElementsAreIn : Type 0
ElementsAreIn = (image : Image) (class : ℕ) (base : Base) (path : Path) (at n j : ℕ) (p : Primitive)
    → part_of image class base path ≡ Some (at, form.Array p n) → j < n
    → part_of image class base (path ++ j ∷ []) ≡ Some (at + j * width_of p, form.Prim p)

abbrev pub ObjectCells : Type 0
ObjectCells = (image : Image) (class : ℕ) (place : Place) (offset : ℕ) (t : TypeNo) (spot : Spot)
    → tables_agree image ≡ true → part_of image class spot.base spot.path ≡ Some (offset, form.Object t)
    → leads_to image class place (cell.Object (block_of place spot.base) offset t.0) ≡ Some spot

abbrev pub StrCells : Type 0
StrCells = (image : Image) (class : ℕ) (place : Place) (offset n : ℕ) (spot : Spot)
    → tables_agree image ≡ true → part_of image class spot.base spot.path ≡ Some (offset, form.Str n)
    → leads_to image class place (cell.Str (block_of place spot.base) offset n) ≡ Some spot

abbrev pub PartsLie : Type 0
PartsLie = (image : Image) (class : ℕ) (base : Base) (path : Path) (part : Part) → tables_agree image ≡ true
    → part_of image class base path ≡ Some part → part.0 + part_width image part.1 ≤ size_in image class base

abbrev pub SizesReach : Type 0
SizesReach = (image : Image) (class : ℕ) (base : Base) → tables_agree image ≡ true
    → size_in image class base < 2 ^ 16

abbrev pub BlocksHave : Type 0
BlocksHave = (image : Image) (class : ℕ) (base : Base) (path : Path) (h : Held) (b : Block) (offset : ℕ) (f : FieldForm)
    → StandsAt image class base path h b offset f → HasBytes h b offset (part_width image f)

abbrev pub PartsRead : Type 0
PartsRead = (image : Image) (class : ℕ) (base : Base) (path : Path) (bytes : List ℕ) → tables_agree image ≡ true
    → value_at (held_in image class base bytes) path ≡ option_and_then (value_from bytes) (part_of image class base path)

-- ---- cells that are references

pub led : (w : Setting) (place : Place) (c : Cell) (o : Option Spot) → spot_in w place c ≡ o
    → leads_to w.image w.class place c ≡ o
unfolding spot_in
led w place c o e = e

-- a Str has no fields
module _ (image : Image) where
  no_class : (path : Path) (g : FieldForm) (o at n : ℕ) → part_from image path (o, g) ≡ Some (at, form.Str n)
      → object_in form_of (class_fields image) path (form_class g) ≡ None
  no_class [] g o at n e =
      let same : g ≡ form.Str n =
      ap (λ (p : Part). p.1) (same_value (let a : Part = (o, g) in a) (let b : Part = (at, form.Str n) in b) e) in
      ap (λ (x : FieldForm). object_in form_of (class_fields image) [] (form_class x)) same
  no_class (i ∷ path) (form.Prim p) o at n e = refl
  no_class (i ∷ path) (form.Str m) o at n e = refl
  no_class (i ∷ path) (form.Buf m) o at n e = refl
  no_class (i ∷ path) (form.Array p m) o at n e = refl
  no_class (i ∷ path) (form.Object k) o at n e =
      let mid = through (part_from image path) (part_in image (o, form.Object k) i)
      (let b : Part = (at, form.Str n) in b) e in
      let f = field_part_of o (class_fields image k.0) i mid.0 mid.1 in
      ap (λ (x : Option ImageField). object_in form_of (class_fields image) path (class_in form_of x)) f.stands
      ∙ no_class path (form_of f.field) (o + f.field.offset) at n
      (subst (λ (x : Part). part_from image path x ≡ Some (let b : Part = (at, form.Str n) in b)) (sym f.is) mid.2)

no_fields : (w : Setting) (base : Base) (path : Path) (at n : ℕ)
    → part_of w.image w.class base path ≡ Some (at, form.Str n)
    → fields_at w (record { base = base; path = path }) ≡ []
no_fields w Component path at n e =
    ap (fields_from w Component path) (no_class w.image path (form.Object (record { 0 = w.class })) 0 at n e)
    ∙ none path
  where
    none : (p : Path) → fields_from w Component p None ≡ []
    none [] = refl
    none (i ∷ p) = refl
no_fields w Statics [] at n e =
    absurd (let same : form.Object (record { 0 = 0xffff }) ≡ form.Str n =
    ap (λ (p : Part). p.1) (same_value (let a : Part = (0, form.Object (record { 0 = 0xffff })) in a)
    (let b : Part = (at, form.Str n) in b) e) in cc)
no_fields w Statics (i ∷ path) at n e =
    let mid = through (part_from w.image path) (option_map (field_part 0) (slice_get w.image.static_fields i))
    (let b : Part = (at, form.Str n) in b) e in
    let f = field_part_of 0 w.image.static_fields i mid.0 mid.1 in
    ap (fields_from w Statics (i ∷ path))
    (ap (λ (x : Option ImageField). object_in form_of (class_fields w.image) path (class_in form_of x)) f.stands
    ∙ no_class w.image path (form_of f.field) (0 + f.field.offset) at n
    (subst (λ (x : Part). part_from w.image path x ≡ Some (let b : Part = (at, form.Str n) in b)) (sym f.is) mid.2))

-- what fields are asked for of a Str is not there
module _ (strs : StrsLead) (w : Setting) (place : Place) where
  no_str : (b : Block) (offset size : ℕ) (spot : Spot) → spot_in w place (cell.Str b offset size) ≡ Some spot
      → fields_at w spot ≡ []
  no_str b offset size spot e =
      no_fields w spot.base spot.path offset size
      (strs w.image w.class place b offset size spot (led w place (cell.Str b offset size) (Some spot) e)).1

  pub of_objects : (c : Cell) (form offset n : ℕ) (s : State)
      → EndsTyped (field_at w (val_of w place c) form offset n s).result → IsObject c
  of_objects (cell.Int m) form offset n s h = h
  of_objects (cell.Long m) form offset n s h = h
  of_objects (cell.Bool t) form offset n s h = h
  of_objects cell.Null form offset n s h = tt
  of_objects (cell.Text m) form offset n s h = h
  of_objects (cell.Object b start class) form offset n s h = tt
  of_objects (cell.Str b start size) form offset n s h =
      by_spot (spot_in w place (cell.Str b start size)) refl h
    where
      by_spot : (o : Option Spot) → spot_in w place (cell.Str b start size) ≡ o
          → EndsTyped (field_at w (val_or None o) form offset n s).result → ⊥
      by_spot None e h = h
      by_spot (Some spot) e h =
          subst (λ (fields : List ImageField). EndsTyped (then_do (answers (there (field_number fields form offset n)) s)
          (λ i s2. gives (inside spot i) s2)).result) (no_str b start size spot e) h

  pub bufs_of_objects : (c : Cell) (offset : ℕ) (s : State)
      → EndsTyped (buf_at w (val_of w place c) offset s).result → IsObject c
  bufs_of_objects (cell.Int m) offset s h = h
  bufs_of_objects (cell.Long m) offset s h = h
  bufs_of_objects (cell.Bool t) offset s h = h
  bufs_of_objects cell.Null offset s h = tt
  bufs_of_objects (cell.Text m) offset s h = h
  bufs_of_objects (cell.Object b start class) offset s h = tt
  bufs_of_objects (cell.Str b start size) offset s h =
      by_spot (spot_in w place (cell.Str b start size)) refl h
    where
      by_spot : (o : Option Spot) → spot_in w place (cell.Str b start size) ≡ o
          → EndsTyped (buf_at w (val_or None o) offset s).result → ⊥
      by_spot None e h = h
      by_spot (Some spot) e h =
          subst (λ (fields : List ImageField). EndsTyped (then_do (answers (there (buf_number fields offset)) s)
          (λ i s2. gives (inside spot i) s2)).result) (no_str b start size spot e) h

-- ---- what stands there

module _ (lie : PartsLie) (sizes : SizesReach) (have : BlocksHave) (w : Setting) (place : Place) (h : Held)
    (ground : IsGround w place h) where
  own_block : (base : Base) → IsBlock h w.class base (block_of place base)
  own_block Component = ground.block
  own_block Statics = tt

  pub standing : (b : Block) (at : ℕ) (spot : Spot) (f : FieldForm) → b ≡ block_of place spot.base
      → part_of w.image w.class spot.base spot.path ≡ Some (at, f) → Standing w place h b at spot f
  standing b at spot f same part =
      let s : StandsAt w.image w.class spot.base spot.path h b at f = record {
        agree = ground.agree;
        blocks = ground.fit;
        block = subst (IsBlock h w.class spot.base) (sym same) (own_block spot.base);
        part = part;
      } in
      let lies = lie w.image w.class spot.base spot.path (let p : Part = (at, f) in p) ground.agree part in
      let few = sizes w.image w.class spot.base ground.agree in
      record {
        block = same;
        stands = s;
        has = have w.image w.class spot.base spot.path h b at f s;
        reach = omega (arith, lies, few);
      }

  pub field_found : ObjectsLead → FieldsStand → (b : Block) (start class : ℕ) (to : ImageField) (s : State)
      → EndsTyped (field_at w (val_of w place (cell.Object b start class)) to.form to.offset to.n s).result
      → FieldFound w place h b start class to
  field_found objects fields b start class to s typed =
      by_spot (spot_in w place (cell.Object b start class)) refl typed
    where
      by_number : (spot : Spot) → spot_in w place (cell.Object b start class) ≡ Some spot → (o : Option ℕ)
          → field_number (fields_at w spot) to.form to.offset to.n ≡ o
          → EndsTyped (then_do (answers (there o) s) (λ i s2. gives (inside spot i) s2)).result
          → FieldFound w place h b start class to
      by_number spot e None f h = absurd h
      by_number spot e (Some i) f h =
          let l = objects w.image w.class place b start class spot (led w place (cell.Object b start class) (Some spot) e)
          in
          record {
            spot = spot;
            leads = e;
            number = i;
            found = f;
            standing = standing b (start + to.offset) (inside spot i) (form_of to) l.0
                (fields w spot start i (record { 0 = class }) to l.1 f);
          }

      by_spot : (o : Option Spot) → spot_in w place (cell.Object b start class) ≡ o
          → EndsTyped (field_at w (val_or None o) to.form to.offset to.n s).result → FieldFound w place h b start class to
      by_spot None e h = absurd h
      by_spot (Some spot) e h =
          by_number spot e (field_number (fields_at w spot) to.form to.offset to.n) refl h

  pub buf_found : ObjectsLead → BufsStand → (b : Block) (start class offset : ℕ) (s : State)
      → EndsTyped (buf_at w (val_of w place (cell.Object b start class)) offset s).result
      → BufFound w place h b start class offset
  buf_found objects bufs b start class offset s typed =
      by_spot (spot_in w place (cell.Object b start class)) refl typed
    where
      by_number : (spot : Spot) → spot_in w place (cell.Object b start class) ≡ Some spot → (o : Option ℕ)
          → buf_number (fields_at w spot) offset ≡ o
          → EndsTyped (then_do (answers (there o) s) (λ i s2. gives (inside spot i) s2)).result
          → BufFound w place h b start class offset
      by_number spot e None f h = absurd h
      by_number spot e (Some i) f h =
          let l = objects w.image w.class place b start class spot (led w place (cell.Object b start class) (Some spot) e)
          in
          let r = bufs w spot start i (record { 0 = class }) offset l.1 f in
          record {
            spot = spot;
            leads = e;
            number = i;
            found = f;
            room = r.0;
            standing = standing b (start + offset) (inside spot i) (form.Buf r.0) l.0 r.1;
          }

      by_spot : (o : Option Spot) → spot_in w place (cell.Object b start class) ≡ o
          → EndsTyped (buf_at w (val_or None o) offset s).result → BufFound w place h b start class offset
      by_spot None e h = absurd h
      by_spot (Some spot) e h = by_number spot e (buf_number (fields_at w spot) offset) refl h

  pub element_stands : ElementsAreIn → (b : Block) (at : ℕ) (spot : Spot) (p : Primitive) (n i : ℕ)
      → Standing w place h b at spot (form.Array p n) → i < n
      → Standing w place h b (at + i * width_of p) (inside spot i) (form.Prim p)
  element_stands elements b at spot p n i s below =
      standing b (at + i * width_of p) (inside spot i) (form.Prim p) s.block
      (elements w.image w.class spot.base spot.path at n i p s.stands.part below)

  pub str_found : StrsLead → (b : Block) (at size : ℕ) (spot : Spot)
      → spot_in w place (cell.Str b at size) ≡ Some spot → Standing w place h b at spot (form.Str size)
  str_found strs b at size spot e =
      let l = strs w.image w.class place b at size spot (led w place (cell.Str b at size) (Some spot) e) in
      standing b at spot (form.Str size) l.0 l.1

  pub object_not_read : ObjectsLead → PartsRead → (b : Block) (at class : ℕ) (spot : Spot)
      → spot_in w place (cell.Object b at class) ≡ Some spot
      → value_at (contents_in w.image w.class spot.base h (block_of place spot.base)) spot.path ≡ None
  object_not_read objects reads b at class spot e =
      let l = objects w.image w.class place b at class spot (led w place (cell.Object b at class) (Some spot) e) in
      let fits = ground.fit w.class spot.base (block_of place spot.base) (own_block spot.base) in
      ap (λ (o : Option (List ℕ)). value_at (option_map_or (held_in w.image w.class spot.base) o []) spot.path) fits.are
      ∙ reads w.image w.class spot.base spot.path fits.bytes ground.agree
      ∙ ap (λ (o : Option Part). option_and_then (value_from fits.bytes) o) l.1

-- how a field that was found ends
pub field_ends : (w : Setting) (place : Place) (h : Held) (b : Block) (start class : ℕ) (to : ImageField)
    (f : FieldFound w place h b start class to) (s : State)
    → field_at w (val_of w place (cell.Object b start class)) to.form to.offset to.n s
    ≡ gives (inside f.spot f.number) s
field_ends w place h b start class to f s =
    ap (λ (o : Option Spot). field_at w (val_or None o) to.form to.offset to.n s) f.leads
    ∙ ap (λ (o : Option ℕ). then_do (answers (there o) s) (λ i s2. gives (inside f.spot i) s2)) f.found

pub buf_ends : (w : Setting) (place : Place) (h : Held) (b : Block) (start class offset : ℕ)
    (f : BufFound w place h b start class offset) (s : State)
    → buf_at w (val_of w place (cell.Object b start class)) offset s ≡ gives (inside f.spot f.number) s
buf_ends w place h b start class offset f s =
    ap (λ (o : Option Spot). buf_at w (val_or None o) offset s) f.leads
    ∙ ap (λ (o : Option ℕ). then_do (answers (there o) s) (λ i s2. gives (inside f.spot i) s2)) f.found

-- ---- cells that lead to parts

pub object_led : ObjectCells → (w : Setting) (place : Place) (h : Held) (b : Block) (at class : ℕ) (spot : Spot)
    → IsGround w place h → Standing w place h b at spot (form.Object (record { 0 = class }))
    → spot_in w place (cell.Object b at class) ≡ Some spot
unfolding spot_in
object_led cells w place h b at class spot ground s =
    ap (λ (x : Block). leads_to w.image w.class place (cell.Object x at class)) s.block
    ∙ cells w.image w.class place at (record { 0 = class }) spot ground.agree s.stands.part

pub str_led : StrCells → (w : Setting) (place : Place) (h : Held) (b : Block) (at size : ℕ) (spot : Spot)
    → IsGround w place h → Standing w place h b at spot (form.Str size)
    → spot_in w place (cell.Str b at size) ≡ Some spot
unfolding spot_in
str_led cells w place h b at size spot ground s =
    ap (λ (x : Block). leads_to w.image w.class place (cell.Str x at size)) s.block
    ∙ cells w.image w.class place at size spot ground.agree s.stands.part
