-- The kits and classes of a program, as they stand in an image.
use Rattle.std.specs.Prelude.{ℕ, ◌+◌, if◌then◌else◌, List, map}
use Rattle.std.specs.List.{enumerate_from}
use Rattle.std.specs.Option.{option_map_or}
use Rattle.sed_value.specs.declared.kit.KitRef.{KitRef}
use Rattle.sed_typed.specs.declared.program.Program.{Program}
use Rattle.sed_typed.specs.declared.schema.ClassInfo.{ClassInfo}
use Rattle.sed_layout.specs.MethodTables.{table_of}
use Rattle.scode_image.specs.declared.image.ImageClass.{ImageClass}
use Rattle.scode_image.specs.declared.image.ImageKit.{ImageKit}
use Rattle.scode_gen.specs.FirstBytes.{first_bytes}
use Rattle.scode_gen.specs.ImageFields.{class_fields}
use Rattle.scode_gen.specs.ImageSlots.{image_slots}

abbrev pub image_kit : KitRef → ImageKit
image_kit k = record { name = k.name; checksum = k.checksum }

-- 0xffff for no base
abbrev pub base_number : ClassInfo → ℕ
base_number info = option_map_or (λ base. base.0) info.base 0xffff

-- 1 says abstract, 2 component
abbrev pub class_flags : ClassInfo → ℕ
class_flags info = (if info.is_abstract then 1 else 0) + (if info.is_component then 2 else 0)

-- a class, by its number
abbrev pub image_class : Program → ℕ → ClassInfo → ImageClass
image_class program class info = record {
  kit = info.kit;
  number = info.number;
  name = info.name;
  base = base_number info;
  flags = class_flags info;
  fields = class_fields program class;
  slots = image_slots program class info.slots;
  table = table_of program class;
  contents = first_bytes program class;
}

-- classes, numbered from 0
abbrev pub image_classes : Program → List ClassInfo → List ImageClass
image_classes program all =
    map (λ (at : ℕ × ClassInfo). image_class program at.0 at.1) (enumerate_from 0 all)
