-- What every program has that a value holds, typed or not: names of the forms that the language gives them, and numbers
-- that fit their bytes. Nothing is said of initial values, of the kinds in signatures, or of bodies.
use Rattle.std.specs.Prelude.{◌^◌, ◌<◌, IsTrue, All, IfSome}
use Rattle.std.specs.Int.{w32}
use Rattle.sed_value.specs.Names.{is_kit_name, is_word}
use Rattle.sed_value.specs.Value.{is_signed}
use Rattle.sed_value.specs.declared.slot_type.SlotType.TheVariants as slot
use Rattle.sed_typed.specs.declared.program.Field.{Field}
use Rattle.sed_typed.specs.declared.program.FieldForm.{FieldForm}
use Rattle.sed_typed.specs.declared.program.FieldForm.TheVariants.{Prim, Str, Buf, Array, Object}
use Rattle.sed_typed.specs.declared.program.Method.{Method}
use Rattle.sed_typed.specs.declared.program.Program.{Program}
use Rattle.sed_typed.specs.declared.schema.ClassInfo.{ClassInfo}
use Rattle.sed_typed.specs.declared.schema.Schema.{Schema}
use Rattle.sed_typed.specs.declared.schema.SlotForm.{SlotForm}
use Rattle.sed_typed.specs.declared.schema.SlotForm.TheVariants.{Prop, Action}
use Rattle.sed_typed.specs.declared.schema.SlotInfo.{SlotInfo}
use Rattle.sed_typed.specs.Typed.{IsText}

-- the length of a Buf is a byte
abbrev pub HasByteLength : SlotForm → Type 0
HasByteLength (Prop (slot.Prim p)) = Unit {0}
HasByteLength (Prop (slot.Buf n)) = n < 2 ^ 8
HasByteLength (Action a) = Unit {0}

pub record IsSpelledSlot (s : SlotInfo) : Type 0 where
  pub name : IsTrue (is_word s.name)
  pub form : HasByteLength s.form

pub record IsSpelledClass (c : ClassInfo) : Type 0 where
  pub kit : c.kit < 2 ^ 8
  pub number : c.number < 2 ^ 8
  pub name : IsTrue (is_word c.name)
  pub base : IfSome c.base (λ base. base.0 < 2 ^ 16)
  pub size : c.size < 2 ^ 32
  pub slots : All IsSpelledSlot c.slots

-- the kits and types of a schema are of the forms in which an application file tells them: names of kits, checksums of
-- 32 bits, numbers of types that are bytes
pub record CanBeTold (schema : Schema) : Type 0 where
  pub names : All (λ kit. IsTrue (is_kit_name kit.name)) schema.kits
  pub checksums : All (λ kit. IsTrue (is_signed w32 kit.checksum)) schema.kits
  pub numbers : All (λ (c : ClassInfo). c.number < 2 ^ 8) schema.classes

-- the kits and types of a schema
pub record IsSpelledSchema (schema : Schema) : Type 0 where
  pub told : CanBeTold schema
  pub classes : All IsSpelledClass schema.classes

-- the sizes of Strs and Bufs are bytes, the counts of elements and the numbers of classes have 16 bits
abbrev pub HasSmallForm : FieldForm → Type 0
HasSmallForm (Prim p) = Unit {0}
HasSmallForm (Str n) = n < 2 ^ 8
HasSmallForm (Buf n) = n < 2 ^ 8
HasSmallForm (Array p n) = n < 2 ^ 16
HasSmallForm (Object t) = t.0 < 2 ^ 16

pub record IsSpelledField (f : Field) : Type 0 where
  pub class : f.class.0 < 2 ^ 16
  pub name : IsTrue (is_word f.name)
  pub form : HasSmallForm f.form
  pub slot : IfSome f.slot (λ slot. slot.0 < 2 ^ 8)

pub record IsSpelledMethod (m : Method) : Type 0 where
  pub class : m.class.0 < 2 ^ 16
  pub name : IsTrue (is_word m.name)

pub record IsSpelledOut (program : Program) : Type 0 where
  pub schema : IsSpelledSchema program.schema
  pub methods : All IsSpelledMethod program.methods
  pub fields : All IsSpelledField program.fields
  pub statics : All IsSpelledField program.statics
  pub texts : All IsText program.texts
