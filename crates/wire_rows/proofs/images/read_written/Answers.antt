use Rattle.wire_rows.proofs.images.read_written.Goals as goal

pub is_written_alike-requires : goal.is_written_alike-requires
is_written_alike-requires c = (c.args.bytes.now, c.in-Ok.ensures.outcome)
