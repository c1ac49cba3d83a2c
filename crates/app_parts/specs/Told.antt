-- What is told of a component, by what is found of it.
use Rattle.std.specs.Prelude.{ℕ, List, ◌++◌, length}
use Rattle.std.specs.List.{flat_map}
use Rattle.std.specs.Option.{option_map_or}
use Rattle.std.specs.Int.{w32, bytes_high_first, cast_unsigned}
use Rattle.sed_value.specs.declared.id.Id.{Id}
use Rattle.sed_value.specs.declared.kit.KitRef.{KitRef}
use Rattle.comp_tree.specs.Edit.{kit_bytes}
use Rattle.sed_engine.specs.Code.{Meaning}
use Rattle.comp_tree.specs.Application.{ById, children_of}
use Rattle.comp_tree.specs.Parts.{class_bytes, no_id, text, u1, u2}
use Rattle.comp_tree.specs.declared.entry.Entry.{Entry}

abbrev pub most_kits : ℕ
most_kits = 16

abbrev pub checksum_bytes : KitRef → List ℕ
checksum_bytes kit = bytes_high_first 4 (cast_unsigned w32 kit.checksum)

-- how many kits there are, and the name and the checksum of each
abbrev pub kits_bytes : List KitRef → List ℕ
kits_bytes kits = u1 (length kits) ++ flat_map kit_bytes kits

-- part `t`
abbrev pub tree_bytes : Meaning → ById → ℕ → Entry → List ℕ
tree_bytes m all id e =
    class_bytes m e.kind.0 ++ text e.name ++ u2 (option_map_or (λ (i : Id). i.0) e.parent no_id) ++ u1 255
    ++ u1 e.children ++ flat_map u2 (children_of all id)
