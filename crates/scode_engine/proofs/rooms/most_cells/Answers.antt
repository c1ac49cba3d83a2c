use Rattle.std.proofs.Common.{◌∙◌, ap}
use Rattle.std.specs.List.{list_all}
use Rattle.scode_code.specs.TableRules.{method_keeps_limits}
use Rattle.scode_engine.proofs.Enough.{all_keep_limits}
use Rattle.scode_engine.proofs.rooms.most_cells.Goals as goal

pub most_of-requires : goal.most_of-requires
most_of-requires c =
    ap (list_all method_keeps_limits) c.as_slice.ensures ∙ all_keep_limits c.args.image.now c.requires
