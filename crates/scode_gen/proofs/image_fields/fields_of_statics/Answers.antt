use Rattle.std.proofs.Common.{◌≡◌, ◌∙◌, ℕ, List, length, map, ap, sym, subst, arith}
use Rattle.std.specs.Prelude.{IfOk}
use Rattle.std.specs.List.{range_with_len}
use Rattle.std.proofs.lemmas.List.FromFn.{length-map-range_with_len}
use Rattle.sed_typed.specs.declared.program.Field.{Field}
use Rattle.sed_layout.specs.Offsets.{static_offset_of}
use Rattle.scode_image.specs.declared.image.ImageField.{ImageField}
use Rattle.scode_gen.specs.ImageFields.{fields_placed}
use Rattle.scode_gen.proofs.Placed.{placed_row}
use Rattle.scode_gen.proofs.image_fields.fields_of_statics.Goals as goal

pub fields_at-requires : goal.fields_at-requires
fields_at-requires c =
    let program = c.args.program.now in
    omega (arith, ap length c.as_slice.ensures, ap length c.requires, length-map-range_with_len (static_offset_of program) 0 (length program.statics))

pub returns : goal.returns
returns c =
    let program = c.args.program.now in
    let offset : ℕ → ℕ = static_offset_of program in
    let row = c.args.offsets.now in
    let all = c.as_slice.result.now in
    let is = placed_row offset all row (c.requires ∙ ap (λ (xs : List Field). map offset (range_with_len 0 (length xs))) (sym c.as_slice.ensures)) in
    subst (λ (xs : List ImageField). IfOk c.fields_at.result (λ placed. placed ≡ xs)) (is ∙ ap (fields_placed offset) c.as_slice.ensures) c.fields_at.ensures
