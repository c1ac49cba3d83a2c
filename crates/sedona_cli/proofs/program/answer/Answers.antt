use Rattle.std.proofs.Common.{ℕ, List, Result, refl, subst, ap, ◌∙◌}
use Rattle.sed_outside.specs.Sink.{with_text, PutsFront}
use Rattle.sedona_cli.specs.declared.refusal.Refusal.{Refusal}
use Rattle.sedona_cli.specs.Program.{ComesOrWants, done, unput}
use Rattle.sedona_cli.proofs.Puts.{put_steady, put_rose}
use Rattle.sedona_cli.proofs.program.answer.Goals as goal

pub returns-in-Ok-put-clause-answered : goal.returns-in-Ok-put-clause-answered
returns-in-Ok-put-clause-answered g c = λ command asks at_once came.
    done c.in-Ok.text (subst (λ (r : Result (List ℕ) Refusal). ComesOrWants command asks r) c.in-Ok.is came) refl
    (c.in-Ok-put.ensures.ok ∙ ap (with_text (g.O.Sink.text c.args.out.now)) c.as_slice.ensures)
    (put_steady _ _ c.put.result c.in-Ok-put.field-0 c.in-Ok-put.is c.put.ensures.cause)

pub returns-in-Ok-clause-answered : goal.returns-in-Ok-clause-answered
returns-in-Ok-clause-answered g c = λ command asks at_once came.
    unput c.in-Ok.text (subst (λ (r : Result (List ℕ) Refusal). ComesOrWants command asks r) c.in-Ok.is came) at_once refl
    (put_rose _ _ c.put.result c.in-Err-put.field-0 c.in-Err-put.is c.put.ensures.cause)
    (subst (λ (text : List ℕ). PutsFront (g.O.Sink.text c.args.out.now) (g.O.Sink.text c.put.new.self) text) c.as_slice.ensures c.in-Err-put.ensures.err)

pub returns-clause-answered : goal.returns-clause-answered
returns-clause-answered g c = λ command asks at_once came.
    c.refuse.ensures.answered command asks (subst (λ (r : Result (List ℕ) Refusal). ComesOrWants command asks r) c.in-Err.is came)
