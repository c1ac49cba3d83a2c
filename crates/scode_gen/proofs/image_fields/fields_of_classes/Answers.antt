use Rattle.std.proofs.Common.{◌≡◌, ◌∙◌, ◌<◌, ℕ, List, length, map, ap, sym, arith}
use Rattle.std.specs.List.{range_with_len}
use Rattle.std.proofs.lemmas.List.FromFn.{length-map-range_with_len}
use Rattle.sed_typed.specs.declared.program.Field.{Field}
use Rattle.sed_typed.specs.Classes.{fields}
use Rattle.sed_layout.specs.Offsets.{offset_of, offsets_of}
use Rattle.scode_gen.specs.ImageFields.{class_fields, fields_placed}
use Rattle.scode_gen.proofs.ClassRows.{one_more, row_is}
use Rattle.scode_gen.proofs.Placed.{placed_row}
use Rattle.scode_gen.proofs.image_fields.fields_of_classes.Goals as goal

pub fields_at-requires : goal.fields_at-requires
fields_at-requires c =
    let program = c.args.program.now in
    let class = c.loop-class.class in
    let less : class < length program.schema.classes = omega arith in
    let row : c.row_at.result.now ≡ offsets_of program class = c.row_at.ensures ∙ row_is program (offsets_of program) c.args.offsets.now class c.requires.offsets less in
    let all : c.deref.result.now ≡ fields program class = c.deref.ensures.value ∙ c.in_ok-all.ensures in
    omega (arith, ap length row, ap length all, length-map-range_with_len (offset_of program class) 0 (length (fields program class)))

pub loop-class-preserved : goal.loop-class-preserved
loop-class-preserved c =
    let program = c.args.program.now in
    let class = c.loop-class.class in
    let less : class < length program.schema.classes = omega arith in
    let offset : ℕ → ℕ = offset_of program class in
    let row : c.row_at.result.now ≡ offsets_of program class = c.row_at.ensures ∙ row_is program (offsets_of program) c.args.offsets.now class c.requires.offsets less in
    let all : c.deref.result.now ≡ fields program class = c.deref.ensures.value ∙ c.in_ok-all.ensures in
    let made = placed_row offset c.deref.result.now c.row_at.result.now (row ∙ ap (λ (xs : List Field). map offset (range_with_len 0 (length xs))) (sym all)) in
    one_more (class_fields program) class c.loop-class.rows.items c.push.new.self.items c.in_ok-fields_at.field-0
    c.loop-class.invariant (c.in_ok-fields_at.ensures ∙ made ∙ ap (fields_placed offset) all) c.in_ok-push.ensures.items
