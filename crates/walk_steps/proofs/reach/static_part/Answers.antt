use Rattle.std.proofs.Common.{◌∙◌, ap}
use Rattle.sed_engine.specs.Values.{Spot}
use Rattle.sed_engine.specs.Expressions.{part_at}
use Rattle.walk_steps.specs.Stored.{shared_of}
use Rattle.walk_steps.specs.Targets.{setting_of}
use Rattle.walk_steps.proofs.Reaches.{static-root}
use Rattle.walk_steps.proofs.reach.static_part.Goals as goal

pub returns : goal.returns
returns c = λ frames locals.
    let plan = c.args.plan.now in
    c.part_in.ensures frames locals
    ∙ ap (λ (spot : Spot). part_at (setting_of plan c.args.class frames) c.args.kind spot (record { shared = shared_of plan c.args.class c.args.store.now; locals = locals })) (static-root plan c.args.class c.args.number)
