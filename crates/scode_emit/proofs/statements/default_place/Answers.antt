use Rattle.std.proofs.Common.{pos, ◌+◌, ◌∙◌, sym, arith}
use Rattle.sed_typed.specs.declared.statement.Label.TheVariants.{Case}
use Rattle.scode_emit.specs.Lists.{block_size}
use Rattle.scode_emit.specs.Rows.{seen}
use Rattle.scode_emit.proofs.RowLemmas.{sum_on, default_put, default_here, default_behind}
use Rattle.scode_emit.proofs.statements.default_place.Goals as goal

pub returns : goal.returns
returns c =
    let w = seen c.args.site.now in
    let end = c.args.first + block_size w c.args.all.now in
    default_behind w end c.loop-label.place c.loop-label.label-index c.args.labels.now c.loop-label.rest.now (omega arith) c.loop-label.invariant.place
    ∙ c.loop-label.invariant.found

pub returns-then-is_default : goal.returns-then-is_default
returns-then-is_default c =
    let w = seen c.args.site.now in
    let end = c.args.first + block_size w c.args.all.now in
    default_here w end c.loop-label.place c.loop-label.label-index c.args.labels.now (Case (pos 0)) c.loop-label.rest.now (omega arith) c.loop-label.invariant.place (sym c.is_default.ensures ∙ c.if-is_default.true)
    ∙ c.loop-label.invariant.found

pub loop-label-preserved : goal.loop-label-preserved
loop-label-preserved c =
    let w = seen c.args.site.now in
    let end = c.args.first + block_size w c.args.all.now in
    let i = c.loop-label.label-index in
    let place = c.loop-label.place in
    let next = c.next_begin-place.result in
    let left = c.loop-label.rest.now in
    let more = c.behind_first-rest.result.now in
    let labels = c.args.labels.now in
    record {
      found = default_put w end place next i _ labels (Case (pos 0)) left more (omega arith) (sym c.is_default.ensures ∙ c.if-is_default.false)
          c.next_begin-place.ensures c.behind_first-rest.ensures c.loop-label.invariant.found;
      place = sum_on w end place next left more c.next_begin-place.ensures c.behind_first-rest.ensures c.loop-label.invariant.place;
    }
