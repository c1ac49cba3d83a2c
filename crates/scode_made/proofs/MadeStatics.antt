-- The statics of the image are those of the program.
use Rattle.std.proofs.Common.{◌≡◌, ℕ, ◌+◌, ◌<◌, ◌≤◌, List, Some, subst, arith}
use Rattle.std.specs.Prelude.{All, slice_get}
use Rattle.std.proofs.lemmas.Option.{get_or_from_slice_get, slice_get_within}
use Rattle.sed_typed.specs.declared.program.Field.{Field}
use Rattle.sed_typed.specs.declared.program.Program.{Program}
use Rattle.sed_layout.specs.Offsets.{field_width, static_offset_of}
use Rattle.scode_gen.specs.Generated.{image_layout, image_of}
use Rattle.scode_sim.specs.Made.{HasFields}
use Rattle.scode_made.proofs.MadeFields.{StandApart, placed_has}

-- fields that take bytes and do not overlap stand at two offsets
pub stand_apart : (program : Program) (offset : ℕ → ℕ) (all : List Field) → All (λ f. 0 < field_width program f) all →
    ((first second : ℕ) (f : Field) → slice_get all first ≡ Some f → first < second → offset first + field_width program f ≤ offset second) → StandApart offset all
stand_apart program offset all wide apart k i f g lt at behind =
    let here : 0 < field_width program f = subst (λ (x : Field). 0 < field_width program x) (get_or_from_slice_get all k f f at) (wide k f (slice_get_within all k f at)) in
    let far : offset k + field_width program f ≤ offset i = apart k i f at lt in
    omega (arith, here, far)

pub statics_have : (program : Program) → All (λ f. 0 < field_width program f) program.statics →
    ((first second : ℕ) (f : Field) → slice_get program.statics first ≡ Some f → first < second → static_offset_of program first + field_width program f ≤ static_offset_of program second) →
    HasFields program.statics (image_layout program).static_offset (image_layout program).static_room (image_of program).static_fields
statics_have program wide apart = placed_has (static_offset_of program) program.statics (stand_apart program (static_offset_of program) program.statics wide apart)
