use Rattle.std.specs.Prelude.{max}
use Rattle.std.proofs.Common.{◌≡◌, ◌+◌, ◌*◌, ◌++◌, ◌≤◌, drop}
use Rattle.sed_typed.specs.Height.{stmt_height}
use Rattle.scode_emit.specs.Lists.{block_size, block_code}
use Rattle.scode_emit.specs.Rows.{seen}
use Rattle.scode_emit.proofs.RowLemmas.{stmt_heights}
use Rattle.scode_emit.proofs.statements.+statements.Given as goal

abbrev pub decreases-emit_stmt : goal.decreases-emit_stmt
decreases-emit_stmt l = 4 * stmt_height l.s.now

abbrev pub decreases-emit_block : goal.decreases-emit_block
decreases-emit_block l = 4 * stmt_heights l.all.now + 1

abbrev pub decreases-emit_switch : goal.decreases-emit_switch
decreases-emit_switch l = 4 * stmt_heights l.all.now + 2

abbrev pub decreases-emit_if : goal.decreases-emit_if
decreases-emit_if l = 4 * max (stmt_height l.met.now) (stmt_height l.unmet.now) + 1

abbrev pub decreases-emit_while : goal.decreases-emit_while
decreases-emit_while l = 4 * stmt_height l.body.now + 1

abbrev pub decreases-emit_do : goal.decreases-emit_do
decreases-emit_do l = 4 * stmt_height l.body.now + 1

abbrev pub decreases-emit_for : goal.decreases-emit_for
decreases-emit_for l = 4 * stmt_height l.body.now + 1

abbrev pub invariant-emit_block-loop-s : goal.invariant-emit_block-loop-s
invariant-emit_block-loop-s l = record {
  code : l.ops.items ++ block_code (seen l.site) l.place l.out l.on (drop l.s-index l.all)
      ≡ l.initial.ops.items ++ block_code (seen l.site) l.fn.at l.out l.on l.all;
  place : l.place + block_size (seen l.site) (drop l.s-index l.all) ≡ l.fn.at + block_size (seen l.site) l.all;
  inside : stmt_heights (drop l.s-index l.all) ≤ stmt_heights l.all;
}
