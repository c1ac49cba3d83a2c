use Rattle.sox_events.proofs.laws.agreement_is_of_the_live.Goals as goal

pub returns : goal.returns
returns g c = λ a subs all place id part bytes live last clear. all place id part bytes last clear
