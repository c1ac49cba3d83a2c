-- What the schema of a typed program keeps.
use Rattle.std.proofs.Common.{◌≡◌, ℕ, zero, suc, ◌<◌, true, false, List, [], ◌∷◌, ◌++◌, length, Option, Some, None, refl, sym, subst, ap, ◌∙◌, arith}
use Rattle.std.specs.Prelude.{All, IfSome, slice_get, slice_index_or}
use Rattle.std.specs.Option.{option_map_or}
use Rattle.std.proofs.lemmas.Option.{none-some}
use Rattle.sed_value.specs.declared.slot_type.SlotType.TheVariants as slot
use Rattle.sed_typed.specs.declared.schema.ClassInfo.{ClassInfo}
use Rattle.sed_typed.specs.declared.schema.SlotForm.{SlotForm}
use Rattle.sed_typed.specs.declared.schema.SlotForm.TheVariants.{Prop, Action}
use Rattle.sed_typed.specs.declared.schema.SlotInfo.{SlotInfo}
use Rattle.sed_typed.specs.declared.program.Program.{Program}
use Rattle.sed_typed.specs.Classes.{slots as slots_of}
use Rattle.sed_typed.specs.SysTypes.{IsSysType, component_type, meta_slot}
use Rattle.sed_typed.specs.Typed.{Typed}
use Rattle.sed_typed.specs.TypedSchema.{Begins, HasSlot, HasSlots, IsClass, is_below}
use Rattle.sed_engine.specs.Whole.{HasBufSize, KeepsLimits, MarksComponents, NamesTypes}
use Rattle.sed_engine.proofs.Below.{Below, Itself, Based, below_of}
use Rattle.sed_engine.proofs.FieldLists.{has_base}
use Rattle.sed_engine.proofs.Numbering.{at_most_one}
use Rattle.sed_engine.proofs.SysMethods.{sys_class}

found : {X : Type 0} (xs : List X) (k : ℕ) (d : X) → k < length xs → slice_get xs k ≡ Some (slice_index_or xs k d)
found [] k d h = absurd (omega arith)
found (x ∷ xs) zero d h = refl
found (x ∷ xs) (suc k) d h = found xs k d (omega arith)

-- what holds of each element by its number holds of each in the list
pub each : {X : Type 0} (xs : List X) (P : ℕ → X → Type 0) → ((n : ℕ) → IfSome (slice_get xs n) (P n)) → (k : ℕ) (d : X) → k < length xs → P k (slice_index_or xs k d)
each {X} xs P all k d h = subst (λ (r : Option X). IfSome r (P k)) (found xs k d h) (all k)

-- ---- limits

buf_size : (program : Program) (class n : ℕ) (s : SlotInfo) (f : SlotForm) → HasSlot program class n s f → HasBufSize f
buf_size program class n s (Prop (slot.Prim p)) h = tt
buf_size program class n s (Prop (slot.Buf most)) h = (h.2.1, h.2.2)
buf_size program class n s (Action a) h = tt

bufs_of : (program : Program) (class : ℕ) (info : ClassInfo) → HasSlots program class info → All (λ s. HasBufSize s.form) info.slots
bufs_of program class info has k d h =
    buf_size program class k (slice_index_or info.slots k d) (slice_index_or info.slots k d).form (each info.slots (λ n s. HasSlot program class n s s.form) has.each k d h)

pub limits_of : (program : Program) → Typed program → KeepsLimits program.schema
limits_of program typed = record {
  kits = typed.kits.most;
  types = typed.kits.types;
  slots = λ k d h. (each program.schema.classes (IsClass program) typed.classes k d h).slots_most;
  bufs = λ k d h. bufs_of program k (slice_index_or program.schema.classes k d) (each program.schema.classes (HasSlots program) typed.slots k d h);
  sizes = λ k d h. (each program.schema.classes (IsClass program) typed.classes k d h).size_most;
  config = λ k d h. (each program.schema.classes (IsClass program) typed.classes k d h).config_most;
  runtime = λ k d h. (each program.schema.classes (IsClass program) typed.classes k d h).runtime_most;
}

pub names_of : (program : Program) → Typed program → NamesTypes program.schema
names_of program typed = record {
  sys = typed.kits.sys;
  known = typed.kits.known;
  once = λ kit number. at_most_one program.schema.classes kit number (typed.kits.numbered kit);
  types = typed.kits.sys_types;
}

-- ---- components

first_stays : {X : Type 0} (xs rest whole : List X) (x : X) → whole ≡ xs ++ rest → slice_get xs 0 ≡ Some x → slice_get whole 0 ≡ Some x
first_stays [] rest whole x e h = absurd (none-some x h)
first_stays {X} (y ∷ ys) rest whole x e h = ap (λ (all : List X). slice_get all 0) e ∙ h

-- below a class that begins with a slot each class does
slot_below : (program : Program) → Typed program → (above class : ℕ) (s : SlotInfo) → slice_get (slots_of program.schema.classes above) 0 ≡ Some s → Below program.schema.classes above class →
    slice_get (slots_of program.schema.classes class) 0 ≡ Some s
slot_below program typed above class s h Itself = h
slot_below program typed above class s h (Based base low b rest) =
    let begins : Begins (slots_of program.schema.classes base) (slots_of program.schema.classes class) = (has_base program typed class base b).slots in
    first_stays (slots_of program.schema.classes base) begins.0 (slots_of program.schema.classes class) s begins.1 (slot_below program typed above base s h rest)

meta_first : (program : Program) → Typed program → (class : ℕ) (info : ClassInfo) → slice_get program.schema.classes class ≡ Some info → IsClass program class info → info.is_component ≡ true → slice_get info.slots 0 ≡ Some meta_slot
meta_first program typed class info is known component =
    let c = sys_class program.schema.classes component_type (IsSysType program.schema.classes _ _ _ _ _ (meta_slot ∷ [])) typed.kits.sys_types.component in
    let below : is_below program.schema.classes c.class class ≡ true = sym (ap (λ (o : Option ℕ). option_map_or (λ above. is_below program.schema.classes above class) o false) c.is) ∙ sym known.component ∙ component in
    let own : slice_get (slots_of program.schema.classes c.class) 0 ≡ Some meta_slot =
    ap (λ (o : Option ClassInfo). slice_get (option_map_or (λ info. info.slots) o []) 0) c.there ∙ ap (λ (all : List SlotInfo). slice_get all 0) c.has.slots in
    sym (ap (λ (o : Option ClassInfo). slice_get (option_map_or (λ info. info.slots) o []) 0) is)
    ∙ slot_below program typed c.class class meta_slot own (below_of program.schema.classes c.class class below)

pub components_of : (program : Program) → Typed program → (class : ℕ) → IfSome (slice_get program.schema.classes class) (MarksComponents program.schema class)
components_of program typed class = go (slice_get program.schema.classes class) refl (typed.classes class)
  where
    go : (o : Option ClassInfo) → slice_get program.schema.classes class ≡ o → IfSome o (IsClass program class) → IfSome o (MarksComponents program.schema class)
    go None is known = tt
    go (Some info) is known = record { marked = known.component; meta = meta_first program typed class info is known }
