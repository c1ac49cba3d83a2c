use Rattle.std.proofs.Common.{◌≡◌, ◌∙◌, ◌<◌, List, length, ap}
use Rattle.std.proofs.lemmas.Option.{slice_get_within}
use Rattle.sed_typed.specs.declared.schema.SlotInfo.{SlotInfo}
use Rattle.sed_layout.specs.MethodTables.{table_of}
use Rattle.sed_layout.specs.Offsets.{offsets_of}
use Rattle.scode_gen.specs.ImageFields.{class_fields}
use Rattle.scode_gen.specs.ImageSlots.{image_slots}
use Rattle.scode_gen.proofs.ClassRows.{row_is, table_few}
use Rattle.scode_gen.proofs.MadeClass.{made_class}
use Rattle.scode_gen.proofs.image_classes.image_class.Goals as goal

pub slots_of_class-requires : goal.slots_of_class-requires
slots_of_class-requires c =
    let rows = c.args.rows.now in
    let program = rows.program.now in
    let class = c.args.class in
    let within : class < length program.schema.classes = slice_get_within program.schema.classes class c.args.info.now c.requires.class in
    let table : c.row_at-2.result.now ≡ table_of program class = c.row_at-2.ensures ∙ row_is program (table_of program) rows.tables.now class c.requires.rows.tables within in
    record {
      typed = c.requires.rows.typed;
      fields = c.deref.ensures.value ∙ c.in_ok-all.ensures;
      offsets = c.row_at.ensures ∙ row_is program (offsets_of program) rows.offsets.now class c.requires.rows.offsets within;
      table = table;
      few = table_few program c.requires.rows.typed class c.row_at-2.result.now within
          (c.tables_have_each_virtual_method.ensures.names program c.requires.rows.typed class) table;
    }

pub first_bytes-requires-clause-class : goal.first_bytes-requires-clause-class
first_bytes-requires-clause-class c =
    slice_get_within c.args.rows.now.program.now.schema.classes c.args.class c.args.info.now c.requires.class

pub returns : goal.returns
returns c =
    let rows = c.args.rows.now in
    let program = rows.program.now in
    let class = c.args.class in
    let info = c.args.info.now in
    let within : class < length program.schema.classes = slice_get_within program.schema.classes class info c.requires.class in
    made_class program class info c.in_ok-name.name c.base_number.result c.class_flags.result c.in_ok-fields.fields c.in_ok-slots.slots c.in_ok-table.table c.in_ok-contents.contents
    (c.in_ok-name.ensures ∙ c.as_bytes.ensures.same)
    c.base_number.ensures
    c.class_flags.ensures
    (c.in_ok-fields.ensures ∙ c.row_at-3.ensures ∙ row_is program (class_fields program) rows.fields.now class c.requires.rows.fields within)
    (c.in_ok-slots.ensures ∙ ap (λ (all : List SlotInfo). image_slots program class all) c.as_slice.ensures)
    (c.in_ok-table.ensures ∙ c.row_at-2.ensures ∙ row_is program (table_of program) rows.tables.now class c.requires.rows.tables within)
    c.in_ok-contents.ensures
