use Rattle.std.proofs.Common.{List, ap, subst, sym, arith, length, refl, ℕ}
use Rattle.std.proofs.lemmas.Option.{slice_get_read}
use Rattle.scode_ops.specs.declared.op.Op.{Op}
use Rattle.scode_engine.specs.Rows.{IsRow}
use Rattle.scode_engine.proofs.Decoded.{rows_begin, rows_end, rows_grow}
use Rattle.scode_engine.proofs.Fetching.{short_code}
use Rattle.scode_engine.proofs.rows.rows_of_methods.Goals as goal

pub loop-method-init : goal.loop-method-init
loop-method-init c = rw c.in_ok-rows.ensures.items (rows_begin c.args.methods.now)

pub row_of-requires : goal.row_of-requires
row_of-requires c =
    let short =
    short_code c.args.methods.now c.loop-method.method-index c.method-item.result c.requires
    (slice_get_read c.args.methods.now (length c.args.methods.now) c.loop-method.method-index c.method-item.result refl
    c.loop-method-test.true c.method-item.is) in
    let same = ap length c.as_slice.ensures in
    omega (arith, short, same)

pub loop-method-preserved : goal.loop-method-preserved
loop-method-preserved c =
    let here =
    subst (λ (row : List Op). IsRow c.method-item.result.code row) (sym c.new.ensures)
    (subst (λ (code : List ℕ). IsRow code c.in_ok-row_of.field-0.items) c.as_slice.ensures c.in_ok-row_of.ensures) in
    rw c.in_ok-push.ensures.items (rows_grow c.args.methods.now c.loop-method.rows.items c.loop-method.method-index
    c.method-item.result c.new.result c.loop-method.invariant
    (slice_get_read c.args.methods.now (length c.args.methods.now) c.loop-method.method-index c.method-item.result refl
    c.loop-method-test.true c.method-item.is) here)

pub returns : goal.returns
returns c =
    rows_end c.args.methods.now c.loop-method.rows.items c.loop-method.method-index c.loop-method.invariant
    (let past = c.loop-method-test.false in let within = c.loop-method.auto.method-index-end in
    omega (arith, past, within))
