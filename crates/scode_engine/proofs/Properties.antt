-- Reads and stores of properties, as the calls on slots make them.
use Rattle.std.proofs.Common.{◌≡◌, ℕ, true, List, ◌∷◌, [], sym, ◌∙◌, ap, subst}
use Rattle.std.specs.Prelude.{Option, Some, IfSome, IsSome, IsSomeAnd, IsTrue, is_some}
use Rattle.std.specs.FinMap as finite
use Rattle.std.proofs.lemmas.Option.{same_Some}
use Rattle.sed_value.specs.Value.{goes_to, stored}
use Rattle.sed_value.specs.declared.value.Value.{Value}
use Rattle.sed_typed.specs.Contents.{Path, value_at}
use Rattle.sed_engine.specs.declared.call.Place.{Place}
use Rattle.sed_engine.specs.Code.{Object, is_property, is_same_field, may_store, slot_value, with_slot}
use Rattle.sed_engine.specs.Fits.{Fits}
use Rattle.sed_engine.specs.Values.{Component}
use Rattle.sed_engine.specs.Whole.{IsObject}
use Rattle.scode_image.specs.declared.image.Image.{Image}
use Rattle.scode_image.specs.declared.image.ImageField.{ImageField}
use Rattle.scode_image.specs.declared.image.ImageSlot.{ImageSlot}
use Rattle.scode_code.specs.Contents.{statics_held}
use Rattle.scode_code.specs.Faults.{IsVerified}
use Rattle.scode_code.specs.Image.{meaning_of}
use Rattle.scode_code.specs.TableRules as rule
use Rattle.scode_code.specs.Tables.{form_of}
use Rattle.scode_mem.specs.declared.block.Block.TheVariants as block
use Rattle.scode_mem.specs.Blocks.{Held, Kept, bytes_of}
use Rattle.scode_state.specs.Stands.{IsStored, StandsAt, contents_in}
use Rattle.scode_engine.specs.Loaded.{IsLoaded, live_of, object_in, statics_of}
use Rattle.scode_engine.specs.Slots.{IsPart, field_of, is_held, slot_at, type_of}
use Rattle.scode_engine.proofs.ObjectsBehind.{IsBehind, behind_property, same_behind}
use Rattle.scode_engine.proofs.Changes.{block_at, live_changed, loaded_changed, no_statics, object_at, object_there, told}
use Rattle.scode_engine.proofs.Parts.{behind_store, goes_there, got, is_part, put, stands}

-- ---- two slots of a class

-- what the slots that are there tell of two properties
pub one_field : (image : Image) → IsVerified image → (class a b : ℕ) → IsTrue (is_property (meaning_of image) class a)
    → IsTrue (is_property (meaning_of image) class b) → (s t : ImageSlot) → slot_at image class a ≡ Some s
    → slot_at image class b ≡ Some t
    → rule.same_field (field_of s) (field_of t) ≡ is_same_field (meaning_of image) class a b
one_field image verified class a b first other s t at there =
    let x = behind_property image verified class a first in
    let y = behind_property image verified class b other in
    ap (λ (u : ImageSlot). rule.same_field (field_of u) (field_of t)) (same_Some s x.slot (sym at ∙ x.at))
    ∙ ap (λ (u : ImageSlot). rule.same_field (field_of x.slot) (field_of u)) (same_Some t y.slot (sym there ∙ y.at))
    ∙ same_behind image class a b x y

pub slot_there : (image : Image) → IsVerified image → (class n : ℕ) → IsTrue (is_property (meaning_of image) class n)
    → IsSome (slot_at image class n)
slot_there image verified class n is = ap is_some (behind_property image verified class n is).at

-- ---- the block of an object, and the slot of a property

pub record Found (image : Image) (h : Held) (p : Place) (n : ℕ) : Type 0 where
  pub k : Kept
  pub at : finite.get h.live p.0 ≡ Some k
  pub behind : IsBehind image k.class n

pub found_property : (image : Image) (h : Held) → IsLoaded image h → (p : Place) (n : ℕ)
    → IsSomeAnd (finite.get (live_of image h) p.0) (λ o. IsTrue (is_property (meaning_of image) o.class n))
    → Found image h p n
found_property image h is p n there =
    let k = block_at image h p.0 (λ (o : Object). IsTrue (is_property (meaning_of image) o.class n)) there in
    record { k = k.0; at = k.1; behind = behind_property image is.verified k.0.class n k.2 }

pub found_store : (image : Image) (h : Held) → IsLoaded image h → (p : Place) (n : ℕ) (v : Value)
    → IsSomeAnd (finite.get (live_of image h) p.0) (λ o. IsTrue (may_store (meaning_of image) o.class n v))
    → Found image h p n
found_store image h is p n v there =
    let k = block_at image h p.0 (λ (o : Object). IsTrue (may_store (meaning_of image) o.class n v)) there in
    record { k = k.0; at = k.1; behind = behind_store image h is k.0.class n v k.2 }

module _ (image : Image) (h : Held) (is : IsLoaded image h) (p : Place) (n : ℕ) (f : Found image h p n) where
  pub block_there : IsSome (finite.get h.live p.0)
  block_there = ap is_some f.at

  module _ (class : ℕ) (kind : IfSome (finite.get h.live p.0) (λ (k : Kept). class ≡ k.class)) where
    class_is : class ≡ f.k.class
    class_is = subst (λ (o : Option Kept). IfSome o (λ (k : Kept). class ≡ k.class)) f.at kind

    pub slot_found : IsSome (slot_at image class n)
    slot_found = ap (λ (c : ℕ). is_some (slot_at image c n)) class_is ∙ ap is_some f.behind.at

    module _ (s : ImageSlot) (at : slot_at image class n ≡ Some s) (field : ImageField) (of : field ≡ field_of s) where
      field_is : field ≡ field_of f.behind.slot
      field_is =
          of ∙ ap field_of (same_Some s f.behind.slot
          (sym at ∙ ap (λ (c : ℕ). slot_at image c n) class_is ∙ f.behind.at))

      pub field_held : is_held field ≡ true
      field_held = ap is_held field_is ∙ f.behind.held

      pub field_part : IsPart image h (block.Live p) field
      field_part =
          subst (IsPart image h (block.Live p)) (sym field_is) (is_part image h is p f.k f.at n f.behind)

      field_stands : StandsAt image f.k.class Component (f.behind.i ∷ []) h (block.Live p) field.offset (form_of field)
      field_stands =
          subst (λ (g : ImageField). StandsAt image f.k.class Component (f.behind.i ∷ []) h (block.Live p) g.offset
          (form_of g)) (sym field_is) (stands image h is p f.k f.at n f.behind)

      -- what is read there is the value in the slot
      pub slot_read : (v out : Value)
          → ((class : ℕ) (path : Path)
          → StandsAt image class Component path h (block.Live p) field.offset (form_of field)
          → value_at (contents_in image class Component h (block.Live p)) path ≡ Some v)
          → out ≡ v
          → IfSome (finite.get (live_of image h) p.0) (λ o. out ≡ slot_value (meaning_of image) o n)
      slot_read v out reads same =
          told image h p.0 f.k (λ (o : Object). out ≡ slot_value (meaning_of image) o n) f.at
          (same ∙ got image h is p f.k f.at n f.behind v (reads f.k.class (f.behind.i ∷ []) field_stands))

      module _ (v : Value)
          (may : IsSomeAnd (finite.get (live_of image h) p.0)
          (λ o. IsTrue (may_store (meaning_of image) o.class n v))) where
        its_may : IsTrue (may_store (meaning_of image) f.k.class n v)
        its_may = subst (λ (o : Option Object). IsSomeAnd o (λ (x : Object). IsTrue (may_store (meaning_of image) x.class n v)))
            (object_at image h p.0 f.k f.at) may

        pub value_goes : IsTrue (goes_to (type_of field) v)
        value_goes =
            subst (λ (g : ImageField). IsTrue (goes_to (type_of g) v)) (sym field_is)
            (goes_there image f.k.class n v f.behind its_may)

        -- what is stored there is stored in the slot
        module _ (new : Held)
            (done : (class : ℕ) (path : Path)
            → StandsAt image class Component path h (block.Live p) field.offset (form_of field)
            → IsStored image class Component path h new (block.Live p) (stored (type_of field) v)) where
          store : IsStored image f.k.class Component (f.behind.i ∷ []) h new (block.Live p)
              (stored (type_of (field_of f.behind.slot)) v)
          store =
              subst (λ (g : ImageField). IsStored image f.k.class Component (f.behind.i ∷ []) h new (block.Live p)
              (stored (type_of g) v)) field_is (done f.k.class (f.behind.i ∷ []) field_stands)

          after : contents_in image f.k.class Component new (block.Live p)
              ≡ (with_slot (meaning_of image) (object_in image f.k) n v).contents
          after = put image h is p f.k f.at n f.behind new v store

          pub slot_stored : IfSome (finite.get (live_of image h) p.0) (λ o. live_of image new
              ≡ finite.insert (live_of image h) p.0 (with_slot (meaning_of image) o n v))
          slot_stored =
              told image h p.0 f.k
              (λ (o : Object). live_of image new
              ≡ finite.insert (live_of image h) p.0 (with_slot (meaning_of image) o n v)) f.at
              (live_changed image h new p f.k f.at store.classes (λ b ne _. store.others b ne)
              (with_slot (meaning_of image) (object_in image f.k) n v).contents after)

          pub statics_stay : statics_of image new ≡ statics_of image h
          statics_stay =
              let same : bytes_of new block.Statics ≡ bytes_of h block.Statics =
              store.others block.Statics (λ e. no_statics p (sym e)) in
              ap (λ (all : List ℕ). statics_held image all) (same_Some new.statics h.statics same)

          pub loaded_stored : (IsObject (meaning_of image) (object_in image f.k)
              → IsTrue (may_store (meaning_of image) f.k.class n v)
              → IsObject (meaning_of image) (with_slot (meaning_of image) (object_in image f.k) n v))
              → IsLoaded image new
          loaded_stored keeps =
              loaded_changed image h new p f.k f.at store.classes (λ b ne _. store.others b ne)
              (with_slot (meaning_of image) (object_in image f.k) n v).contents after is store.blocks store.firsts
              (keeps (object_there image h is p.0 f.k f.at) its_may) (statics_fit statics_stay)
            where
              statics_fit : statics_of image new ≡ statics_of image h
                  → Fits (meaning_of image).fields (meaning_of image).static_fields (meaning_of image).initial_statics
                  (statics_of image new)
              statics_fit e =
                  subst (Fits (meaning_of image).fields (meaning_of image).static_fields
                  (meaning_of image).initial_statics) (sym e) is.statics

          pub limit_stays : new.limit ≡ h.limit
          limit_stays = store.limit
