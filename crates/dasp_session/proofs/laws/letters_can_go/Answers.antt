use Rattle.dasp_session.specs.Ticking.{kept_up, posted_in, ticked}
use Rattle.dasp_session.proofs.SpeakLemmas.{at-speaks, kept-fine, none-yet, posted-fine, received-speaks, ticked-fine}
use Rattle.dasp_session.proofs.laws.letters_can_go.Goals as goal

pub returns-clause-beginning : goal.returns-clause-beginning
returns-clause-beginning c = λ users secret moment. none-yet

pub returns-clause-received : goal.returns-clause-received
returns-clause-received c = λ state from message all. received-speaks state all from message

pub returns-clause-ticked : goal.returns-clause-ticked
returns-clause-ticked c = λ state place all.
    at-speaks state all place (ticked state.moment) (λ now speaks. ticked-fine now speaks state.moment)

pub returns-clause-posted : goal.returns-clause-posted
returns-clause-posted c = λ state place bytes few all.
    at-speaks state all place (posted_in state.moment bytes) (λ now speaks. posted-fine now speaks state.moment bytes few)

pub returns-clause-kept : goal.returns-clause-kept
returns-clause-kept c = λ state place all. at-speaks state all place kept_up kept-fine
