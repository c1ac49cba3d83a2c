use Rattle.std.proofs.Common.{sym, subst}
use Rattle.sed_typed.specs.declared.statement.Stmt.TheVariants as stmt
use Rattle.sed_typed.specs.Flat.{AreAllFlatStmts}
use Rattle.sed_terms.proofs.FlatStmtRows.{one_more_flat, one_more_each, block_flat}
use Rattle.sed_terms.proofs.found_stmt.FoundCases.with.Goals as goal

pub invariant_of-result : goal.invariant_of-result
invariant_of-result c = (
  one_more_each c.self.inside.labels.items c.push.new.self.items c.self.inside.blocks.items c.push_block.new.blocks.items
      c.args.label (stmt.Block c.block.inside.items) c.self.invariant.0 c.in_ok-push.ensures.items c.in_ok-push_block.ensures,
  subst AreAllFlatStmts (sym c.in_ok-push_block.ensures)
      (one_more_flat c.self.inside.blocks.items (stmt.Block c.block.inside.items) c.self.invariant.1
      (block_flat c.block.inside.items c.block.invariant)),
)
