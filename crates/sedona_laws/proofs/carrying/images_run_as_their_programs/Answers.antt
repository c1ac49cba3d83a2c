use Rattle.std.proofs.Common.{ap, subst, sym}
use Rattle.sed_engine.specs.Code.{Meaning}
use Rattle.sed_cycles.specs.Cycles.{text_after}
use Rattle.comp_tree.specs.Cycle.{Begin, Cycle}
use Rattle.comp_tree.specs.Edit.{Edit}
use Rattle.sox_serve.specs.Answer.{answer}
use Rattle.node_events.specs.Node.{opened}
use Rattle.node_events.specs.Running.{run, sent_by}
use Rattle.sedona_laws.specs.Steps.{AreSteps, keeping}
use Rattle.sedona_laws.proofs.Compiled.{CodeLaws, of_program}
use Rattle.sedona_laws.proofs.StepsAlike.{steps_one}
use Rattle.sedona_laws.proofs.carrying.images_run_as_their_programs.Goals as goal

laws : goal.After-images_mean_their_programs → CodeLaws
laws c = record {
  agree = c.image_tables_agree.ensures;
  fine = c.generated_code_breaks_no_rule.ensures;
  means = c.images_mean_their_programs.ensures;
  read_back = c.images_are_read_as_their_programs.ensures;
}

pub returns-clause-means : goal.returns-clause-means
returns-clause-means c = λ program image of. of_program (laws c) program image of

pub returns-clause-engines : goal.returns-clause-engines
returns-clause-engines c = λ program image of live statics limit steps gave given new end h k alike.
    steps_one steps gave given _ new end (subst (λ (m : Meaning). AreSteps steps gave (keeping m live statics limit) new) (of_program (laws c) program image of).1 h) k alike

pub returns-clause-engine_steps : goal.returns-clause-engine_steps
returns-clause-engine_steps c = λ program image of live statics limit steps gave new. (
  subst (λ (m : Meaning). AreSteps steps gave (keeping m live statics limit) new) (of_program (laws c) program image of).1,
  subst (λ (m : Meaning). AreSteps steps gave (keeping m live statics limit) new) (sym (of_program (laws c) program image of).1),
)

pub returns-clause-printed : goal.returns-clause-printed
returns-clause-printed c = λ program image of cycles. ap (λ (m : Meaning). text_after m cycles) (of_program (laws c) program image of).1

pub returns-clause-edits : goal.returns-clause-edits
returns-clause-edits c = λ program image of a command turns moment. ap (λ (m : Meaning). Edit m a command turns moment) (of_program (laws c) program image of).1

pub returns-clause-requests : goal.returns-clause-requests
returns-clause-requests c = λ program image of a asked turns moment. ap (λ (m : Meaning). answer m a asked turns moment) (of_program (laws c) program image of).1

pub returns-clause-cycles : goal.returns-clause-cycles
returns-clause-cycles c = λ program image of a turns moment. ap (λ (m : Meaning). Cycle m a turns moment) (of_program (laws c) program image of).1

pub returns-clause-starts : goal.returns-clause-starts
returns-clause-starts c = λ program image of a turns moment. ap (λ (m : Meaning). Begin m a turns moment) (of_program (laws c) program image of).1

pub returns-clause-nodes : goal.returns-clause-nodes
returns-clause-nodes c = λ program image of s a users secret moment. ap (λ (m : Meaning). opened m s a users secret moment) (of_program (laws c) program image of).1

pub returns-clause-runs : goal.returns-clause-runs
returns-clause-runs c = λ program image of s n events. ap (λ (m : Meaning). run m s n events) (of_program (laws c) program image of).1

pub returns-clause-letters : goal.returns-clause-letters
returns-clause-letters c = λ program image of s n events. ap (λ (m : Meaning). sent_by m s n events) (of_program (laws c) program image of).1
