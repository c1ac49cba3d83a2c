use Rattle.std.proofs.Common.{◌≡◌, ◌<◌, ◌+◌, ℕ, true, false, List, length, take, refl, sym, ◌∙◌, ap, subst, arith}
use Rattle.std.specs.Prelude.{drop, slice_index_or}
use Rattle.std.proofs.Math.Seq.{take-length}
use Rattle.sed_outside.specs.Cause.{Rose}
use Rattle.sed_outside.specs.Sink.{with_text}
use Rattle.dasp_session.specs.Outbox.{Datagram}
use Rattle.sed_node.specs.Running.{line_of, lines_of}
use Rattle.sed_node.proofs.Lines.{lines_parted, nothing, one_line_more, puts_front, with_more, with_none}
use Rattle.sed_node.proofs.running.put_lines.Goals as goal

pub lines-init : goal.lines-init
lines-init g c = record { within = omega arith; text = with_none _; faults = refl }

pub lines-preserved : goal.lines-preserved
lines-preserved g c =
    let before = c.lines.invariant in
    let less = c.lines-test.true in
    let all = c.len-place-end.ensures in
    let within : c.lines.place < length c.args.outbox.now = omega (arith, less, all) in
    record {
      within = omega (arith, within);
      text = c.in-Ok.ensures.done nothing
          ∙ ap (λ t. with_text t (line_of (slice_index_or c.args.outbox.now c.lines.place nothing))) before.text
          ∙ with_more (g.S.Sink.text c.args.out.now) (lines_of (take c.lines.place c.args.outbox.now)) _
          ∙ ap (with_text (g.S.Sink.text c.args.out.now))
          (sym (one_line_more c.args.outbox.now c.lines.place nothing within));
      faults = c.in-Ok.ensures.cause.steady (λ e. (let no : false ≡ true = e in cc)) ∙ before.faults;
    }

pub returns-in-Err-clause-failed : goal.returns-in-Err-clause-failed
returns-in-Err-clause-failed g c =
    let less = c.lines-test.true in
    let all = c.len-place-end.ensures in
    let within : c.lines.place < length c.args.outbox.now = omega (arith, less, all) in
    puts_front _ _ _ (lines_of (take c.lines.place c.args.outbox.now))
    (line_of (slice_index_or c.args.outbox.now c.lines.place nothing))
    (lines_of (drop (c.lines.place + 1) c.args.outbox.now)) _ c.lines.invariant.text (c.in-Err.ensures.failed nothing)
    (lines_parted c.args.outbox.now c.lines.place nothing within)

pub returns-in-Err-clause-cause : goal.returns-in-Err-clause-cause
returns-in-Err-clause-cause g c =
    let cause = c.in-Err.ensures.cause in
    let same = c.lines.invariant.faults in
    record {
      later = (let later = cause.later in omega (arith, later, same));
      failed = λ e. subst (λ (count : ℕ). Rose count (g.S.Sink.faults c.put_line.new.out)) same (cause.failed e);
      steady = λ none. cause.steady none ∙ same;
    }

pub returns-clause-done : goal.returns-clause-done
returns-clause-done g c =
    let within = c.lines.invariant.within in
    let out = c.lines-test.false in
    let is = c.len-place-end.ensures in
    let all : c.lines.place ≡ length c.args.outbox.now = omega (arith, within, out, is) in
    let text = g.S.Sink.text c.args.out.now in
    c.lines.invariant.text
    ∙ ap (λ (k : ℕ). with_text text (lines_of (take k c.args.outbox.now))) all
    ∙ ap (λ (xs : List Datagram). with_text text (lines_of xs)) (take-length c.args.outbox.now)

pub returns-clause-cause : goal.returns-clause-cause
returns-clause-cause g c =
    let same = c.lines.invariant.faults in
    record {
      later = omega (arith, same);
      failed = λ e. absurd (let no : false ≡ true = e in cc);
      steady = λ none. same;
    }
