-- A class of an image out of its parts.
use Rattle.std.proofs.Common.{◌≡◌, ◌∙◌, ℕ, List, ap}
use Rattle.sed_typed.specs.declared.program.Program.{Program}
use Rattle.sed_typed.specs.declared.schema.ClassInfo.{ClassInfo}
use Rattle.sed_layout.specs.MethodTables.{table_of}
use Rattle.scode_image.specs.declared.image.ImageClass.{ImageClass}
use Rattle.scode_image.specs.declared.image.ImageField.{ImageField}
use Rattle.scode_image.specs.declared.image.ImageSlot.{ImageSlot}
use Rattle.scode_gen.specs.Classes.{base_number, class_flags, image_class}
use Rattle.scode_gen.specs.FirstBytes.{first_bytes}
use Rattle.scode_gen.specs.ImageFields.{class_fields}
use Rattle.scode_gen.specs.ImageSlots.{image_slots}

module _ (program : Program) (class : ℕ) (info : ClassInfo) where
  abbrev built : List ℕ → ℕ → ℕ → List ImageField → List ImageSlot → List ℕ → List ℕ → ImageClass
  built name base flags fields slots table contents = record {
    kit = info.kit;
    number = info.number;
    name = name;
    base = base;
    flags = flags;
    fields = fields;
    slots = slots;
    table = table;
    contents = contents;
  }

  pub made_class : (name : List ℕ) (base flags : ℕ) (fields : List ImageField) (slots : List ImageSlot) (table contents : List ℕ) →
      name ≡ info.name → base ≡ base_number info → flags ≡ class_flags info → fields ≡ class_fields program class → slots ≡ image_slots program class info.slots →
      table ≡ table_of program class → contents ≡ first_bytes program class → built name base flags fields slots table contents ≡ image_class program class info
  made_class name base flags fields slots table contents n b f fs ss t c =
      ap (λ (x : List ℕ). built x base flags fields slots table contents) n
      ∙ ap (λ (x : ℕ). built info.name x flags fields slots table contents) b
      ∙ ap (λ (x : ℕ). built info.name (base_number info) x fields slots table contents) f
      ∙ ap (λ (x : List ImageField). built info.name (base_number info) (class_flags info) x slots table contents) fs
      ∙ ap (λ (x : List ImageSlot). built info.name (base_number info) (class_flags info) (class_fields program class) x table contents) ss
      ∙ ap (λ (x : List ℕ). built info.name (base_number info) (class_flags info) (class_fields program class) (image_slots program class info.slots) x contents) t
      ∙ ap (λ (x : List ℕ). built info.name (base_number info) (class_flags info) (class_fields program class) (image_slots program class info.slots) (table_of program class) x) c
