use Rattle.std.proofs.Common.{◌≡◌, ◌∙◌, ℕ, List, [], Option, Some, ap, sym}
use Rattle.std.specs.Option.{option_map_or}
use Rattle.sed_typed.specs.declared.schema.ClassInfo.{ClassInfo}
use Rattle.sed_typed.specs.Classes.{base_of}
use Rattle.sed_layout.specs.Offsets.{offsets_of}
use Rattle.sed_layout.proofs.BaseRows.{looked_up}
use Rattle.sed_layout.proofs.offsets.inherited_offsets.Goals as goal

pub returns-in_ok-from_slice-in-Some : goal.returns-in_ok-from_slice-in-Some
returns-in_ok-from_slice-in-Some c =
    let program = c.args.program.now in
    let found : base_of program.schema.classes c.args.class ≡ Some c.in-Some.base =
    ap (λ (all : List ClassInfo). base_of all c.args.class) (sym c.as_slice.ensures) ∙ sym c.base_of.ensures ∙ c.in-Some.is in
    c.in_ok-from_slice-in-Some.ensures.items
    ∙ c.row_at.ensures
    ∙ looked_up program c.requires.typed (offsets_of program) c.args.class c.in-Some.base c.args.above.now c.requires.above found
    ∙ sym (ap (λ (o : Option ℕ). option_map_or (offsets_of program) o []) found)
