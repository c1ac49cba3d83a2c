use Rattle.wire_rows.proofs.images.decoding.Goals as goal

pub tell_encoded-requires : goal.tell_encoded-requires
tell_encoded-requires c = c.in-Some.ensures.found.0.is.spelled
