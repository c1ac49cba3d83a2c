-- The names of kits, classes and slots have the forms that names have.
use Rattle.std.proofs.Common.{◌≡◌, ◌&&◌, true}
use Rattle.std.specs.Prelude.{IsTrue}
use Rattle.std.specs.List.{list_all}
use Rattle.std.proofs.lemmas.Bool.{and_from}
use Rattle.sed_value.specs.Names.{is_kit_name, is_word}
use Rattle.sed_value.specs.declared.kit.KitRef.{KitRef}
use Rattle.sed_typed.specs.declared.program.Program.{Program}
use Rattle.sed_typed.specs.Spelled.{IsSpelledClass, IsSpelledOut, IsSpelledSlot}
use Rattle.sed_typed.specs.Typed.{Typed}
use Rattle.scode_image.specs.declared.image.ImageClass.{ImageClass}
use Rattle.scode_image.specs.declared.image.ImageKit.{ImageKit}
use Rattle.scode_image.specs.declared.image.ImageSlot.{ImageSlot}
use Rattle.scode_code.specs.TableRules.{names_have_form}
use Rattle.scode_gen.specs.Classes.{image_kit}
use Rattle.scode_gen.specs.Generated.{image_of}
use Rattle.scode_gen.specs.ImageSlots.{image_slot, image_slots}
use Rattle.scode_made.proofs.Places.{all_at}
use Rattle.scode_agree.proofs.Infos.{each_class}
use Rattle.scode_agree.proofs.Tests.{mapped_pass, numbered_pass}

pub names_formed : (program : Program) → Typed program → IsSpelledOut program
    → names_have_form (image_of program) ≡ true
names_formed program typed spelled =
    and_from (list_all (λ (k : ImageKit). is_kit_name k.name) (image_of program).kits)
    (list_all (λ (c : ImageClass). is_word c.name && list_all (λ (s : ImageSlot). is_word s.name) c.slots)
    (image_of program).classes)
    (mapped_pass image_kit (λ (k : ImageKit). is_kit_name k.name) program.schema.kits
    (λ i k at. all_at (λ (kit : KitRef). IsTrue (is_kit_name kit.name)) program.schema.kits i k at typed.kits.names))
    (each_class program (λ (c : ImageClass). is_word c.name && list_all (λ (s : ImageSlot). is_word s.name) c.slots)
    (λ class info there.
    let known : IsSpelledClass info =
    all_at IsSpelledClass program.schema.classes class info there spelled.schema.classes in
    and_from (is_word info.name) (list_all (λ (s : ImageSlot). is_word s.name) (image_slots program class info.slots))
    known.name
    (numbered_pass (image_slot program class) (λ (s : ImageSlot). is_word s.name) info.slots
    (λ n s at. (all_at IsSpelledSlot info.slots n s at known.slots).name))))
