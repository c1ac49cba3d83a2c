use Rattle.std.proofs.Common.{ap, ◌∙◌}
use Rattle.std.specs.List.{list_all}
use Rattle.scode_code.specs.TableRules.{method_keeps_limits}
use Rattle.scode_engine.proofs.Fetching.{all_keep_limits}
use Rattle.scode_engine.proofs.rows.rows_of.Goals as goal

pub rows_of_methods-requires : goal.rows_of_methods-requires
rows_of_methods-requires c =
    ap (list_all method_keeps_limits) c.as_slice.ensures ∙ all_keep_limits c.args.image.now c.requires
