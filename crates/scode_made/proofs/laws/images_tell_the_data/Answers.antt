use Rattle.sed_typed.specs.Classes.{fields}
use Rattle.sed_layout.specs.Offsets.{offset_of}
use Rattle.scode_made.proofs.AskedAlike.{asked_alike}
use Rattle.scode_made.proofs.FirstContents.{initial_everywhere, initial_statics_are}
use Rattle.scode_made.proofs.MadeData.{class_shapes, sizes_are, slot_fields_are, static_shapes}
use Rattle.scode_made.proofs.MadeStatics.{stand_apart}
use Rattle.scode_made.proofs.laws.images_tell_the_data.Goals as goal

pub returns-clause-fields : goal.returns-clause-fields
returns-clause-fields c = class_shapes

pub returns-clause-slot_fields : goal.returns-clause-slot_fields
returns-clause-slot_fields c program typed class =
    slot_fields_are program typed class
    (stand_apart program (offset_of program class) (fields program class) (c.fields_take_bytes.ensures.fields program typed class) (c.fields_do_not_overlap.ensures program class))

pub returns-clause-static_fields : goal.returns-clause-static_fields
returns-clause-static_fields c = static_shapes

pub returns-clause-initial : goal.returns-clause-initial
returns-clause-initial c program typed = initial_everywhere program typed (c.data_is_the_sum_of_fields.ensures program typed)

pub returns-clause-initial_statics : goal.returns-clause-initial_statics
returns-clause-initial_statics c program typed = initial_statics_are program typed (c.data_is_the_sum_of_fields.ensures program typed)

pub returns-clause-sizes : goal.returns-clause-sizes
returns-clause-sizes c = sizes_are

pub returns-clause-asked : goal.returns-clause-asked
returns-clause-asked c program typed = asked_alike program typed (c.numbers_are_small.ensures.classes program typed) (c.data_is_the_sum_of_fields.ensures program typed)
