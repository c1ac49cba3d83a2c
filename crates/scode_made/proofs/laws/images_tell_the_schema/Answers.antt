use Rattle.scode_made.proofs.MadeSchema.{schema_back}
use Rattle.scode_made.proofs.laws.images_tell_the_schema.Goals as goal

pub returns : goal.returns
returns c program typed = schema_back program typed (c.numbers_are_small.ensures.classes program typed)
