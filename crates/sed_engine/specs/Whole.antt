-- What everything above a code relies on.
use Rattle.std.specs.Prelude.{ℕ, ◌≡◌, ◌==◌, ◌<◌, ◌≤◌, true, IsTrue, All, IfSome, IsSome, IsSomeAnd, [], length}
use Rattle.std.specs.Prelude.{count_by, slice_get, codes, Some, None}
use Rattle.std.specs.Int.{w64}
use Rattle.sed_value.specs.Value.{is_signed}
use Rattle.sed_value.specs.declared.slot_type.SlotType.{SlotType}
use Rattle.sed_value.specs.declared.slot_type.SlotType.TheVariants as slot
use Rattle.sed_typed.specs.declared.program.FieldForm.{FieldForm}
use Rattle.sed_typed.specs.declared.program.FieldForm.TheVariants as form
use Rattle.sed_typed.specs.declared.schema.ClassInfo.{ClassInfo}
use Rattle.sed_typed.specs.declared.schema.Schema.{Schema}
use Rattle.sed_typed.specs.declared.schema.SlotForm.{SlotForm}
use Rattle.sed_typed.specs.declared.schema.SlotForm.TheVariants.{Prop, Action}
use Rattle.sed_typed.specs.Classes.{base_of, slots}
use Rattle.sed_typed.specs.Contents.{value_at}
use Rattle.sed_typed.specs.Sizes.{config_size, runtime_size}
use Rattle.sed_typed.specs.TypedSchema.{Begins, types_at, is_below_sys}
pub use Rattle.sed_typed.specs.SysTypes.{HasSysTypes, HasSysType, IsSysType, component_type, app_type, meta_slot}
pub use Rattle.sed_typed.specs.SysTypes.{save_slot}
use Rattle.sed_engine.specs.declared.call.CallEnd.{CallEnd}
use Rattle.sed_engine.specs.declared.call.CallEnd.TheVariants.{Done, Trap}
use Rattle.sed_engine.specs.Asked.{MayAsk, unasked}
use Rattle.sed_engine.specs.Code.{Meaning, Object, Question, slot_type, slot_path, may_call, is_creatable}
use Rattle.sed_engine.specs.Fits.{Fits, form_at}

-- ---- the schema

-- a Buf of a slot holds 1 to 128 bytes
abbrev pub HasBufSize : SlotForm → Type 0
HasBufSize (Prop (slot.Prim p)) = Unit {0}
HasBufSize (Prop (slot.Buf n)) = (1 ≤ n) × (n ≤ 128)
HasBufSize (Action a) = Unit {0}

-- 16 kits with `sys`, 64 types to a kit; to a class 64 slots, 65,535 bytes of data, and 400 bytes each of config and
-- runtime values
pub record KeepsLimits (schema : Schema) : Type 0 where
  pub kits : length schema.kits ≤ 16
  pub types : (kit : ℕ) → count_by (λ c. c.kit == kit) schema.classes ≤ 64
  pub slots : All (λ c. length c.slots ≤ 64) schema.classes
  pub bufs : All (λ c. All (λ s. HasBufSize s.form) c.slots) schema.classes
  pub sizes : All (λ c. c.size < 65536) schema.classes
  pub config : All (λ c. config_size c.slots ≤ 400) schema.classes
  pub runtime : All (λ c. runtime_size c.slots ≤ 400) schema.classes

-- kit 0 is `sys`; a class is of a kit that is there, and of no two is the number in the kit the same
pub record NamesTypes (schema : Schema) : Type 0 where
  pub sys : IsSomeAnd (slice_get schema.kits 0) (λ kit. kit.name ≡ codes "sys")
  pub known : All (λ c. c.kit < length schema.kits) schema.classes
  pub once : (kit number : ℕ) → types_at schema.classes kit number ≤ 1
  pub types : HasSysTypes schema.classes

-- a class is a component exactly where it is `Component` or below it, and then `meta` is its first slot
pub record MarksComponents (schema : Schema) (class : ℕ) (info : ClassInfo) : Type 0 where
  pub marked : info.is_component ≡ is_below_sys schema.classes component_type class
  pub meta : info.is_component ≡ true → slice_get info.slots 0 ≡ Some meta_slot

-- ---- classes

-- a class against its base, which stands before it: its slots and the forms of its fields begin with the base's, and an
-- inherited slot has its base's field
pub record FollowsBase (m : Meaning) (class base : ℕ) : Type 0 where
  pub before : base < class
  pub slots : Begins (slots m.schema.classes base) (slots m.schema.classes class)
  pub fields : Begins (m.fields base) (m.fields class)
  pub slot_fields : (n : ℕ) → IfSome (m.slot_field base n) (λ i. m.slot_field class n ≡ Some i)

-- the form of the field behind a property
abbrev pub field_form : SlotType → FieldForm
field_form (slot.Prim p) = form.Prim p
field_form (slot.Buf n) = form.Buf n

-- of what is no class nothing is said
pub record SaysNothing (m : Meaning) (class : ℕ) : Type 0 where
  pub fields : m.fields class ≡ []
  pub initial : m.initial class ≡ []
  pub size : m.data_size class ≡ 0

-- what a code says of its classes agrees. Two properties may have one field.
pub record HasTables (m : Meaning) : Type 0 where
  pub limits : KeepsLimits m.schema
  pub names : NamesTypes m.schema
  pub components : (class : ℕ) → IfSome (slice_get m.schema.classes class) (MarksComponents m.schema class)
  pub bases : (class base : ℕ) → base_of m.schema.classes class ≡ Some base → FollowsBase m class base
  pub sizes : (class : ℕ) → IfSome (slice_get m.schema.classes class) (λ c. m.data_size class ≡ c.size)
  -- a property has a field of its form, and what is no property has none
  pub slot_fields : (class n : ℕ)
      → IfSome (slot_type m class n) (λ t.
      IsSomeAnd (m.slot_field class n) (λ i. form_at (m.fields class) i ≡ Some (field_form t)))
  pub no_fields : (class n : ℕ) → slot_type m class n ≡ None → m.slot_field class n ≡ None
  pub values : (class n : ℕ)
      → IfSome (slot_type m class n) (λ t. IsSome (value_at (m.initial class) (slot_path m class n)))
  pub first : (class : ℕ) → class < length m.schema.classes
      → Fits m.fields (m.fields class) (m.initial class) (m.initial class)
  pub first_statics : Fits m.fields m.static_fields m.initial_statics m.initial_statics
  pub beyond : (class : ℕ) → length m.schema.classes ≤ class → SaysNothing m class

-- ---- root calls

-- what a root call leaves fits, where what it was given fits
abbrev pub RootFits : Meaning → Type 0
RootFits m =
    (q : Question) → Fits m.fields (m.fields q.class) (m.initial q.class) q.contents
    → Fits m.fields m.static_fields m.initial_statics q.statics →
    Fits m.fields (m.fields q.class) (m.initial q.class) (m.root q).contents
    × Fits m.fields m.static_fields m.initial_statics (m.root q).statics

-- a root call with so many turns ends normally and leaves no more of them, or ends by one of the five traps
abbrev pub EndsWell : ℕ → CallEnd → Type 0
EndsWell turns (Done left) = left ≤ turns
EndsWell turns (Trap number) = (1 ≤ number) × (number ≤ 5)

-- what a root call comes to: it leaves what fits, and ends well
pub record AnswersWell (m : Meaning) (q : Question) : Type 0 where
  pub contents : Fits m.fields (m.fields q.class) (m.initial q.class) (m.root q).contents
  pub statics : Fits m.fields m.static_fields m.initial_statics (m.root q).statics
  pub end : EndsWell q.turns (m.root q).end

-- A code that may be run: what is said of it in whole. It answers well whatever it may be asked, and all else in one
-- way, by which nothing changes, and which tells of no trap.
pub record IsWhole (m : Meaning) : Type 0 where
  pub tables : HasTables m
  pub unasked : (q : Question) → (MayAsk m q → ⊥) → m.root q ≡ unasked q
  pub answers : (q : Question) → MayAsk m q → AnswersWell m q

-- a root call on a component ends well, with any number of turns
abbrev pub NeverGoesWrong : Meaning → Type 0
NeverGoesWrong m =
    (q : Question) → IsTrue (is_creatable m q.class) → Fits m.fields (m.fields q.class) (m.initial q.class) q.contents
    → Fits m.fields m.static_fields m.initial_statics q.statics →
    IsTrue (may_call m q.class q.which q.argument) → IsTrue (is_signed w64 q.moment) → EndsWell q.turns (m.root q).end

-- ---- objects

-- an object that an engine may keep: of a class of which components are made, with contents that fit
pub record IsObject (m : Meaning) (o : Object) : Type 0 where
  pub creatable : IsTrue (is_creatable m o.class)
  pub fits : Fits m.fields (m.fields o.class) (m.initial o.class) o.contents
