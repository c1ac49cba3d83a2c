use Rattle.scode_made.proofs.laws.typed_programs_are_laid.Goals as goal

pub returns-clause-laid : goal.returns-clause-laid
returns-clause-laid c program typed = record {
  few_classes = c.numbers_are_small.ensures.classes program typed;
  few_methods = c.numbers_are_small.ensures.methods program typed;
  within = c.fields_lie_within.ensures program typed;
  apart = c.fields_do_not_overlap.ensures program;
  wide = c.fields_take_bytes.ensures.fields program typed;
  statics_within = c.statics_lie_within.ensures program;
  statics_apart = c.statics_do_not_overlap.ensures program;
  statics_wide = c.fields_take_bytes.ensures.statics program typed;
  keeps = c.inherited_fields_keep_their_offsets.ensures.above program typed;
}

pub returns-clause-tabled : goal.returns-clause-tabled
returns-clause-tabled c program typed = record {
  keeps_places = c.names_keep_their_places.ensures.above program typed;
  has_place = c.virtual_methods_have_places.ensures program typed;
  at_place = c.places_hold_the_nearest_method.ensures program typed;
  names = c.tables_have_each_virtual_method.ensures.names program typed;
}
