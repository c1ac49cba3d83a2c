use Rattle.std.proofs.Common.{map, ap, ◌∙◌, arith}
use Rattle.scode_emit.specs.Code.{bytes_of}
use Rattle.scode_entries.specs.Entries.{each_once}
use Rattle.scode_entries.specs.Method.{entry_of, local_kinds}
use Rattle.scode_emit.specs.Rows.{seen}
use Rattle.scode_entries.proofs.Made.{method_is}
use Rattle.scode_entries.proofs.Tall.{body_within}
use Rattle.scode_entries.proofs.method.method_at.Goals as goal

pub overflow_cast-result : goal.overflow_cast-result
overflow_cast-result c =
    let m = c.args.m.now in
    omega (arith, body_within (seen c.args.site.now) m.result m.body, c.requires.fits, c.body_stack.ensures)

pub returns : goal.returns
returns c =
    let w = seen c.args.site.now in
    let m = c.args.m.now in
    method_is w m c.flags_of.result c.new.result c.cell_of.result c.new-2.result c.body_stack.result c.new-3.result c.new-4.result
    c.flags_of.ensures
    (c.new.ensures ∙ c.in_ok-params.ensures)
    c.cell_of.ensures
    (c.new-2.ensures ∙ c.in_ok-locals.ensures)
    (omega (arith, body_within w m.result m.body, c.requires.fits, c.body_stack.ensures))
    (c.new-3.ensures ∙ c.in_ok-code.ensures ∙ ap bytes_of (c.deref.ensures.value ∙ c.in_ok-ops.ensures))
    (c.new-4.ensures ∙ c.in_ok-entries.ensures
    ∙ ap (λ ls. map (entry_of ls) (each_once c.deref-3.result.now)) (c.deref-2.ensures.value ∙ c.in_ok-locals.ensures)
    ∙ ap (λ ms. map (entry_of (local_kinds m)) (each_once ms)) (c.deref-3.ensures.value ∙ c.in_ok-marks.ensures))
