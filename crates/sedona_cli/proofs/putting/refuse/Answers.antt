use Rattle.std.proofs.Common.{ℕ, List, ap, inl, inr, refl, subst, sym, ◌∙◌}
use Rattle.std.specs.Prelude.{IsErr}
use Rattle.sedona_cli.specs.declared.status.Status.{Status}
use Rattle.sedona_cli.specs.Status.{number_of}
use Rattle.sedona_cli.specs.Puts.{Puts}
use Rattle.sedona_cli.specs.Program.{IsAnswer}
use Rattle.sedona_cli.specs.Refusals.{is_worded}
use Rattle.sedona_cli.proofs.Ends.{not_both}
use Rattle.sedona_cli.proofs.Answering.{is_refused, is_wanted}
use Rattle.sedona_cli.proofs.putting.refuse.Goals as goal

pub returns-in-Ok-clause-answered : goal.returns-in-Ok-clause-answered
returns-in-Ok-clause-answered g c = λ command asks came.
    let before = g.O.Sink.text c.args.out.now in
    let after = g.O.Sink.text c.put_line.new.out in
    let faults_before = g.O.Sink.faults c.args.out.now in
    let faults_after = g.O.Sink.faults c.put_line.new.out in
    subst (λ (s : Status). IsAnswer command asks before after faults_before faults_after (number_of s)) (sym c.of.ensures)
    (is_refused command asks before after faults_before faults_after c.args.refusal.now
    (subst (λ (line : List ℕ). Puts before after faults_before faults_after line) (c.as_bytes.ensures ∙ c.in-Ok.ensures.line) c.put_line.ensures) came)

pub returns-in-Ok-clause-numbered : goal.returns-in-Ok-clause-numbered
returns-in-Ok-clause-numbered g c = inl (ap number_of c.of.ensures)

pub returns-in-Ok-clause-plain : goal.returns-in-Ok-clause-plain
returns-in-Ok-clause-plain g c = λ plain. (
  ap number_of c.of.ensures,
  subst (λ (line : List ℕ). Puts (g.O.Sink.text c.args.out.now) (g.O.Sink.text c.put_line.new.out) (g.O.Sink.faults c.args.out.now) (g.O.Sink.faults c.put_line.new.out) line) (c.as_bytes.ensures ∙ c.in-Ok.ensures.line)
      c.put_line.ensures,
)

pub returns-in-Err-clause-numbered : goal.returns-in-Err-clause-numbered
returns-in-Err-clause-numbered g c = inr (inl (ap number_of c.out_of_memory.ensures.status))

pub returns-in-Err-clause-plain : goal.returns-in-Err-clause-plain
returns-in-Err-clause-plain g c = λ plain.
    absurd (not_both (is_worded c.args.refusal.now) (c.line_of.ensures.fixed (subst (λ r. IsErr r) (sym c.in-Err.is) refl)) plain)

pub returns-in-Err-clause-answered : goal.returns-in-Err-clause-answered
returns-in-Err-clause-answered g c = λ command asks came.
    let before = g.O.Sink.text c.args.out.now in
    let after = g.O.Sink.text c.out_of_memory.new.out in
    let faults_before = g.O.Sink.faults c.args.out.now in
    let faults_after = g.O.Sink.faults c.out_of_memory.new.out in
    subst (λ (s : Status). IsAnswer command asks before after faults_before faults_after (number_of s)) (sym c.out_of_memory.ensures.status)
    (is_wanted command asks before after faults_before faults_after c.args.refusal.now
    (c.line_of.ensures.fixed (subst (λ r. IsErr r) (sym c.in-Err.is) refl)) c.out_of_memory.ensures.line came)
