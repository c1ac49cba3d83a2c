use Rattle.scode_entries.proofs.Declared.{all_are}
use Rattle.scode_entries.proofs.locals.kinds_of_locals.Goals as goal

pub returns : goal.returns
returns c =
    all_are c.args.m.now c.new-kinds.result.items c.push_receiver.new.kinds.items c.push_cells.new.kinds.items c.push_body.new.kinds.items _ c.as_slice.result.now
    c.new-kinds.ensures.items c.in_ok-push_receiver.ensures c.as_slice.ensures c.in_ok-push_cells.ensures c.in_ok-push_body.ensures c.in_ok-push_cells-2.ensures
