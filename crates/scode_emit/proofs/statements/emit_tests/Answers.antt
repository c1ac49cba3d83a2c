use Rattle.std.proofs.Common.{pos, ℕ, List, ◌+◌, ◌++◌, get_or, ap, ◌∙◌, arith}
use Rattle.sed_typed.specs.declared.statement.Label.TheVariants.{Case}
use Rattle.scode_emit.specs.Lists.{block_size, label_code}
use Rattle.scode_emit.specs.Rows.{seen}
use Rattle.scode_emit.proofs.RowLemmas.{sum_on, tests_put}
use Rattle.scode_emit.proofs.statements.emit_tests.Goals as goal

pub loop-label-preserved : goal.loop-label-preserved
loop-label-preserved c =
    let w = seen c.args.site.now in
    let end = c.args.first + block_size w c.args.all.now in
    let local = c.args.site.now.locals + 1 in
    let i = c.loop-label.label-index in
    let place = c.loop-label.place in
    let next = c.next_begin-place.result in
    let left = c.loop-label.rest.now in
    let more = c.behind_first-rest.result.now in
    let labels = c.args.labels.now in
    let old = c.loop-label.ops.items in
    record {
      code = tests_put w local end place next i labels (Case (pos 0)) left more old c.emit_label.new.ops.items _ (omega arith) c.loop-label.invariant.place
          (c.in_ok-emit_label.ensures ∙ ap (λ (l : ℕ). old ++ label_code l (get_or labels i (Case (pos 0))) place) c.waiting-local.ensures)
          c.next_begin-place.ensures c.behind_first-rest.ensures c.loop-label.invariant.code;
      place = sum_on w end place next left more c.next_begin-place.ensures c.behind_first-rest.ensures c.loop-label.invariant.place;
    }
