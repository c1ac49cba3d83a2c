use Rattle.std.proofs.Common.{◌≡◌, sym, subst, ap, ◌∙◌}
use Rattle.std.specs.Prelude.{is_err}
use Rattle.comp_tree.specs.Refusals.{ids_of}
use Rattle.comp_tree.proofs.IdsLemmas.{all_read, fewer_left, left_over_byte, more_than, one_more_id, so_far}
use Rattle.comp_tree.proofs.order.read_ids.Goals as goal

pub loop-reader-preserved : goal.loop-reader-preserved
loop-reader-preserved c =
    subst (λ ids. so_far ids c.u2.new.self ≡ ids_of c.args.bytes.now) (sym c.push.ensures)
    (one_more_id c.loop-reader.ids c.in-Ok.id c.loop-reader.reader c.u2.new.self (ids_of c.args.bytes.now) c.in-Ok.ensures.found c.loop-reader.invariant)

pub loop-reader-smaller : goal.loop-reader-smaller
loop-reader-smaller c = fewer_left c.in-Ok.id c.loop-reader.reader c.u2.new.self c.in-Ok.ensures.found

pub returns-then-len-eq-MOST_CHILDREN : goal.returns-then-len-eq-MOST_CHILDREN
returns-then-len-eq-MOST_CHILDREN c =
    more_than c.loop-reader.ids c.loop-reader.reader 200 (ids_of c.args.bytes.now) (sym c.len.ensures.same ∙ c.if-len-eq-MOST_CHILDREN.true)
    (λ e. let t = c.is_empty.ensures.1 e in let f = c.loop-reader-test.true in cc) c.loop-reader.invariant

pub returns-in_default : goal.returns-in_default
returns-in_default c =
    left_over_byte c.loop-reader.ids c.loop-reader.reader 200 (ids_of c.args.bytes.now) (λ e. let t = c.is_empty.ensures.1 e in let f = c.loop-reader-test.true in cc)
    (c.u2.ensures.short.0 (ap is_err c.in_default.is)) c.loop-reader.invariant

pub returns : goal.returns
returns c = all_read c.loop-reader.ids c.loop-reader.reader (ids_of c.args.bytes.now) (c.is_empty.ensures.0 (let f = c.loop-reader-test.false in cc)) c.loop-reader.invariant
