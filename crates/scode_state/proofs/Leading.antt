-- Where cells lead that are references, and which cells lead to a part.
use Rattle.std.proofs.Common.{◌≡◌, ◌==◌, inl, inr, ℕ, Bool, true, false, if◌then◌else◌, Option, Some, None, refl, sym, ap, subst, ◌∙◌, eqb-true}
use Rattle.std.specs.Option.{option_and_then, option_map}
use Rattle.sed_typed.specs.declared.number.TypeNo.{TypeNo}
use Rattle.sed_typed.specs.declared.program.FieldForm.TheVariants as form
use Rattle.sed_engine.specs.declared.call.Place.{Place}
use Rattle.sed_engine.specs.Values.{Base, Component, Statics, Spot}
use Rattle.scode_image.specs.declared.image.Image.{Image}
use Rattle.scode_image.specs.declared.image.ImageField.{ImageField}
use Rattle.scode_code.specs.Parts.{Part, Reference, part_of, ref_of}
use Rattle.scode_code.specs.Tables.{form_of}
use Rattle.scode_code.proofs.Parts.{ref_leads}
use Rattle.scode_mem.specs.declared.block.Block.{Block}
use Rattle.scode_mem.specs.declared.block.Block.TheVariants as block
use Rattle.scode_cells.specs.declared.cell.Cell.TheVariants as cell
use Rattle.scode_whole.proofs.Rule.{Agrees}
use Rattle.scode_whole.proofs.Truths.{no_value, same_value, through}
use Rattle.scode_state.specs.References.{base_of, block_of, leads_to, reference_to}
use Rattle.scode_state.proofs.Found.{spot_found}
use Rattle.scode_whole.proofs.Nesting.{equal}

-- ---- blocks and bases

-- a block of a base is that base's
one_block : (place : Place) (b : Block) (base : Base) → base_of place b ≡ Some base → b ≡ block_of place base
one_block place block.Statics base e = ap (block_of place) (same_value Statics base e)
one_block place (block.Live p) base e = by_test (p.0 == place.0) refl e
  where
    by_test : (x : Bool) → (p.0 == place.0) ≡ x → (if x then Some Component else None) ≡ Some base
        → block.Live p ≡ block_of place base
    by_test true is e =
        let same : p.0 ≡ place.0 = eqb-true p.0 place.0 is in
        let here : block.Live p ≡ block.Live place = (λ i. block.Live (record { 0 = same i })) in
        here ∙ ap (block_of place) (same_value Component base e)
    by_test false is e = no_value base e

own_base : (place : Place) (base : Base) → base_of place (block_of place base) ≡ Some base
own_base place Statics = refl
own_base place Component = ap (λ (x : Bool). if x then Some Component else None) (equal place.0 place.0 refl)

-- ---- where a reference leads

-- a block, and the part that is meant there
leads : (image : Image) (class : ℕ) (place : Place) (b : Block) (to : ImageField) (spot : Spot)
    → option_and_then (ref_of image class) (reference_to place b to) ≡ Some spot
    → (b ≡ block_of place spot.base) × (part_of image class spot.base spot.path ≡ Some (to.offset, form_of to))
leads image class place b to spot e = by_base (base_of place b) refl e
  where
    by_base : (o : Option Base) → base_of place b ≡ o
        → option_and_then (ref_of image class)
        (option_map (λ (base : Base). let r : Reference = record { base = base; to = to } in r) o) ≡ Some spot
        → (b ≡ block_of place spot.base) × (part_of image class spot.base spot.path ≡ Some (to.offset, form_of to))
    by_base None is e = no_value spot e
    by_base (Some base) is e =
        let r : Reference = record { base = base; to = to } in
        let p = ref_leads image class r spot e in (
          one_block place b base is ∙ ap (block_of place) (sym p.0),
          subst (λ (x : Base). part_of image class x spot.path ≡ Some (to.offset, form_of to)) (sym p.0) p.1,
        )

pub object_leads : (image : Image) (class : ℕ) (place : Place) (b : Block) (offset k : ℕ) (spot : Spot)
    → leads_to image class place (cell.Object b offset k) ≡ Some spot
    → (b ≡ block_of place spot.base)
    × (part_of image class spot.base spot.path ≡ Some (offset, form.Object (record { 0 = k })))
object_leads image class place b offset k spot e =
    leads image class place b (record { offset = offset; form = 8; n = k }) spot e

pub str_leads : (image : Image) (class : ℕ) (place : Place) (b : Block) (offset n : ℕ) (spot : Spot)
    → leads_to image class place (cell.Str b offset n) ≡ Some spot
    → (b ≡ block_of place spot.base) × (part_of image class spot.base spot.path ≡ Some (offset, form.Str n))
str_leads image class place b offset n spot e =
    leads image class place b (record { offset = offset; form = 6; n = n }) spot e

-- ---- what leads to a part

found : (image : Image) (class : ℕ) (place : Place) (to : ImageField) (spot : Spot)
    → ref_of image class (record { base = spot.base; to = to }) ≡ Some spot
    → option_and_then (ref_of image class) (reference_to place (block_of place spot.base) to) ≡ Some spot
found image class place to spot is =
    ap (λ (o : Option Base). option_and_then (ref_of image class)
    (option_map (λ (base : Base). let r : Reference = record { base = base; to = to } in r) o)) (own_base place spot.base)
    ∙ is

pub object_found : (image : Image) → Agrees image → (class : ℕ) (place : Place) (offset : ℕ) (t : TypeNo) (spot : Spot)
    → part_of image class spot.base spot.path ≡ Some (offset, form.Object t)
    → leads_to image class place (cell.Object (block_of place spot.base) offset t.0) ≡ Some spot
object_found image agree class place offset t spot e =
    let to : ImageField = record { offset = offset; form = 8; n = t.0 } in
    found image class place to spot
    (spot_found image agree class (record { base = spot.base; to = to }) spot (inl refl) refl e)

pub str_found : (image : Image) → Agrees image → (class : ℕ) (place : Place) (offset n : ℕ) (spot : Spot)
    → part_of image class spot.base spot.path ≡ Some (offset, form.Str n)
    → leads_to image class place (cell.Str (block_of place spot.base) offset n) ≡ Some spot
str_found image agree class place offset n spot e =
    let to : ImageField = record { offset = offset; form = 6; n = n } in
    found image class place to spot
    (spot_found image agree class (record { base = spot.base; to = to }) spot (inr refl) refl e)
