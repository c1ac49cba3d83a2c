use Rattle.std.specs.Prelude.{max}
use Rattle.std.proofs.Common.{ℕ, suc, ◌+◌, ◌∷◌, ◌++◌, List, ap, ◌∙◌, sym, arith, refl}
use Rattle.sed_value.specs.declared.slot_type.Primitive.TheVariants as prim
use Rattle.sed_typed.specs.Height.{height_of, stmt_height}
use Rattle.scode_ops.specs.declared.op.Op.{Op}
use Rattle.scode_ops.specs.declared.op.Op.TheVariants as op
use Rattle.scode_emit.specs.Code as code
use Rattle.scode_emit.specs.Lists.{block_size, block_code, begins_of, switch_code}
use Rattle.scode_emit.specs.Rows.{seen}
use Rattle.scode_emit.specs.Site.{waiting}
use Rattle.scode_emit.specs.Sizes as sizes
use Rattle.scode_emit.proofs.RowLemmas.{stmts_hidden, stmts_code_hidden, begins_hidden, stmt_heights, stmt_heights_hidden, whole, default_within, switch_hidden}
use Rattle.scode_emit.proofs.statements.+statements.Goals as goal

pub emit_stmt-emit_block-requires : goal.emit_stmt-emit_block-requires
emit_stmt-emit_block-requires t c =
    let w = seen c.args.site.now in
    let a = ap (sizes.stmt_size w) c.in-Block.is ∙ stmts_hidden w c.in-Block.all in
    let b = ap (block_size w) c.deref.ensures.value in
    let h = ap stmt_height c.in-Block.is ∙ ap (λ n. suc n) (stmt_heights_hidden c.in-Block.all) in
    let g = ap stmt_heights c.deref.ensures.value in
    (omega (arith, h, g, c.decreases), (c.requires.room, omega (arith, a, b, c.requires.fits)))

pub emit_stmt-emit_switch-requires : goal.emit_stmt-emit_switch-requires
emit_stmt-emit_switch-requires t c =
    let w = seen c.args.site.now in
    let e = c.in-Switch.e in
    let tests = sizes.tests_size c.in-Switch.labels.items in
    let a = ap (sizes.stmt_size w) c.in-Switch.is ∙ ap (λ n. sizes.expr_size w e + 2 + tests + 3 + n) (stmts_hidden w c.in-Switch.all) in
    let b = ap sizes.tests_size c.deref-in-Switch.ensures.value in
    let d = ap (block_size w) c.deref-in-Switch-2.ensures.value in
    let h = ap stmt_height c.in-Switch.is ∙ ap (λ n. suc (max (height_of e) n)) (stmt_heights_hidden c.in-Switch.all) in
    let g = ap stmt_heights c.deref-in-Switch-2.ensures.value in
    (omega (arith, h, g, c.decreases), (c.requires.room, omega (arith, a, b, d, c.requires.fits)))

pub emit_stmt-returns-in-Block : goal.emit_stmt-returns-in-Block
emit_stmt-returns-in-Block t c =
    let w = seen c.args.site.now in
    whole c.emit_block.result _ _ _ _ c.emit_block.ensures
    (ap (code.stmt_code w c.args.at c.args.out c.args.on) c.in-Block.is
    ∙ stmts_code_hidden w c.args.at c.args.out c.args.on c.in-Block.all
    ∙ ap (block_code w c.args.at c.args.out c.args.on) (sym c.deref.ensures.value))

pub emit_stmt-returns-in-Switch : goal.emit_stmt-returns-in-Switch
emit_stmt-returns-in-Switch t c =
    let w = seen c.args.site.now in
    let e = c.in-Switch.e in
    whole c.emit_switch.result _ _ _ _ c.emit_switch.ensures
    (ap (code.stmt_code w c.args.at c.args.out c.args.on) c.in-Switch.is
    ∙ switch_hidden w c.args.at c.args.on e c.in-Switch.labels.items c.in-Switch.all
    ∙ ap (λ labels. switch_code w c.args.at c.args.on e labels c.in-Switch.all.items) (sym c.deref-in-Switch.ensures.value)
    ∙ ap (switch_code w c.args.at c.args.on e c.deref-in-Switch.result.now) (sym c.deref-in-Switch-2.ensures.value))

pub emit_switch-overflow_cast-default_place : goal.emit_switch-overflow_cast-default_place
emit_switch-overflow_cast-default_place t c =
    let w = seen c.args.site.now in
    let first = c.args.at + c.expr_size.result + 2 + c.tests_size.result + 3 in
    let d = default_within w c.args.labels.now first (first + block_size w c.args.all.now) c.args.all.now refl in
    omega (arith, d, c.default_place.ensures, c.requires.fits, c.expr_size.ensures, c.tests_size.ensures)
