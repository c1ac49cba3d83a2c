-- The part of a block that the field of a property is.
use Rattle.std.proofs.Common.{◌≡◌, ℕ, false, [], ◌∷◌, zero-add, refl, sym, ◌∙◌, ap, subst}
use Rattle.std.specs.Prelude.{Option, Some, None, IsSomeAnd, IsTrue}
use Rattle.std.specs.FinMap as finite
use Rattle.std.specs.Option.{option_and_then, option_map, option_map_or}
use Rattle.sed_value.specs.Value.{goes_to, stored}
use Rattle.sed_value.specs.declared.slot_type.SlotType.{SlotType}
use Rattle.sed_value.specs.declared.value.Value.{Value}
use Rattle.sed_value.specs.declared.value.Value.TheVariants as kept
use Rattle.sed_typed.specs.Contents.{Contents, Path, value_at, with_value}
use Rattle.sed_engine.specs.declared.call.Place.{Place}
use Rattle.sed_engine.specs.Code.{may_store, slot_keeps, slot_path, slot_type, slot_value, with_slot}
use Rattle.sed_engine.specs.Values.{Component}
use Rattle.scode_image.specs.declared.image.Image.{Image}
use Rattle.scode_image.specs.declared.image.ImageField.{ImageField}
use Rattle.scode_code.specs.Contents.{held}
use Rattle.scode_code.specs.Image.{code_of, meaning_of}
use Rattle.scode_code.specs.Parts.{Part, field_part, part_from, part_of}
use Rattle.scode_code.specs.Tables.{form_of}
use Rattle.scode_mem.specs.declared.block.Block.TheVariants as block
use Rattle.scode_mem.specs.Blocks.{Held, Kept}
use Rattle.scode_state.specs.Stands.{IsStored, StandsAt, contents_in}
use Rattle.scode_state.specs.Values.{held_in}
use Rattle.scode_whole.proofs.Truths.{no_truth}
use Rattle.scode_whole.proofs.Whole.{first_rule}
use Rattle.scode_engine.specs.Loaded.{IsLoaded, object_in}
use Rattle.scode_engine.specs.Slots.{IsPart, field_of, type_of}
use Rattle.scode_engine.proofs.ObjectsBehind.{IsBehind, behind_type}

-- what may be stored goes to a property
pub behind_store : (image : Image) (h : Held) → IsLoaded image h → (class n : ℕ) (v : Value)
    → IsTrue (may_store (meaning_of image) class n v) → IsBehind image class n
behind_store image h is class n v may = go (slot_type (code_of image) class n) refl may
  where
    go : (o : Option SlotType) → slot_type (code_of image) class n ≡ o
        → IsTrue (option_map_or (λ (t : SlotType). goes_to t v) o false) → IsBehind image class n
    go None e h = no_truth h
    go (Some t) e h = behind_type image is.verified class n t e

pub goes_there : (image : Image) (class n : ℕ) (v : Value) (x : IsBehind image class n)
    → IsTrue (may_store (meaning_of image) class n v) → IsTrue (goes_to (type_of (field_of x.slot)) v)
goes_there image class n v x may =
    subst (λ (o : Option SlotType). IsTrue (option_map_or (λ (t : SlotType). goes_to t v) o false)) x.typed may

module _ (image : Image) (h : Held) (is : IsLoaded image h) (p : Place) (k : Kept)
    (at : finite.get h.live p.0 ≡ Some k) (n : ℕ) (x : IsBehind image k.class n) where
  abbrev pub path : Path
  path = x.i ∷ []

  part_there : part_of image k.class Component path ≡ Some (let a : Part = (x.slot.place, form_of (field_of x.slot)) in a)
  part_there =
      ap (λ (o : Option ImageField). option_and_then (part_from image []) (option_map (field_part 0) o)) x.stands
      ∙ ap (λ (o : ℕ). Some (let a : Part = (o, form_of (field_of x.slot)) in a)) (zero-add x.slot.place)

  pub stands : StandsAt image k.class Component path h (block.Live p) x.slot.place (form_of (field_of x.slot))
  stands = record {
    agree = first_rule image is.verified;
    blocks = is.blocks;
    block = subst (λ (o : Option Kept). IsSomeAnd o (λ (l : Kept). l.class ≡ k.class)) (sym at) refl;
    part = part_there;
  }

  pub is_part : IsPart image h (block.Live p) (field_of x.slot)
  is_part = record { class = k.class; path = path; stands = stands }

  own_contents : contents_in image k.class Component h (block.Live p) ≡ held image k.class k.bytes
  own_contents =
      ap (λ (o : Option Kept). option_map_or (held_in image k.class Component) (option_map (λ (l : Kept). l.bytes) o) [])
      at

  path_is : slot_path (meaning_of image) k.class n ≡ path
  path_is = ap (λ (o : Option ℕ). option_map_or (λ (i : ℕ). i ∷ []) o []) x.behind

  -- the value that is read there
  pub got : (v : Value) → value_at (contents_in image k.class Component h (block.Live p)) path ≡ Some v
      → v ≡ slot_value (meaning_of image) (object_in image k) n
  got v e =
      sym (ap (λ (q : Path). option_map_or (λ (u : Value). u) (value_at (held image k.class k.bytes) q) kept.Nothing)
      path_is
      ∙ ap (λ (m : Contents). option_map_or (λ (u : Value). u) (value_at m path) kept.Nothing) (sym own_contents)
      ∙ ap (λ (o : Option Value). option_map_or (λ (u : Value). u) o kept.Nothing) e)

  -- the contents with a value that is stored there
  pub put : (new : Held) (v : Value)
      → IsStored image k.class Component path h new (block.Live p) (stored (type_of (field_of x.slot)) v)
      → contents_in image k.class Component new (block.Live p)
      ≡ (with_slot (meaning_of image) (object_in image k) n v).contents
  put new v done =
      let keeps : slot_keeps (meaning_of image) k.class n v ≡ stored (type_of (field_of x.slot)) v =
      ap (λ (o : Option SlotType). option_map_or (λ (t : SlotType). stored t v) o v) x.typed in
      done.contents
      ∙ ap (λ (m : Contents). with_value m path (stored (type_of (field_of x.slot)) v)) own_contents
      ∙ ap (λ (u : Value). with_value (held image k.class k.bytes) path u) (sym keeps)
      ∙ ap (λ (q : Path). with_value (held image k.class k.bytes) q (slot_keeps (meaning_of image) k.class n v))
      (sym path_is)
