use Rattle.printed_app.proofs.path.+put_steps.Given as goal

-- the steps that may still be told
abbrev pub decreases-put_steps : goal.decreases-put_steps
decreases-put_steps g l = l.steps
