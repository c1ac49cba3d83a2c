use Rattle.std.proofs.Common.{ap, ◌∙◌, length, arith}
use Rattle.sed_typed.specs.Classes.{reached}
use Rattle.row_tree.specs.TreeRows.{parent_in}
use Rattle.comp_tree.proofs.DepthLemmas.{depth_end, depth_more, depth_whole}
use Rattle.app_reader.proofs.depth.depth.Goals as goal

pub loop-depth-preserved : goal.loop-depth-preserved
loop-depth-preserved c =
    depth_more (parent_in c.args.rows.now) c.loop-depth.depth c.in-Some.up c.loop-depth.at _ _ (omega arith) c.in-Some.is c.parent_of-at-in-loop-depth.ensures c.loop-depth.invariant

pub returns-in_default : goal.returns-in_default
returns-in_default c =
    depth_end (parent_in c.args.rows.now) c.loop-depth.depth c.loop-depth.at _ (omega arith) c.in_default.is c.loop-depth.invariant
    ∙ ap (λ r. length (reached (parent_in c.args.rows.now) 17 r)) c.parent_of-at.ensures

pub returns : goal.returns
returns c =
    depth_whole (parent_in c.args.rows.now) c.loop-depth.depth c.loop-depth.at _ (omega arith) c.loop-depth.invariant
    ∙ ap (λ r. length (reached (parent_in c.args.rows.now) 17 r)) c.parent_of-at.ensures
