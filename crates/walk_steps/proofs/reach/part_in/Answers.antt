use Rattle.std.proofs.Common.{◌∙◌, ap, sym}
use Rattle.sed_typed.specs.declared.kind.Kind.{Kind}
use Rattle.sed_engine.specs.Values.{Spot}
use Rattle.sed_engine.specs.State.{State}
use Rattle.sed_engine.specs.Steps.{inside}
use Rattle.sed_engine.specs.Expressions.{Setting, class_of, part_at}
use Rattle.walk_steps.specs.Seen.{ends, spot_seen}
use Rattle.walk_steps.specs.Stored.{shared_of}
use Rattle.walk_steps.specs.Targets.{setting_of}
use Rattle.walk_steps.proofs.Reaches.{object-part}
use Rattle.walk_steps.proofs.reach.part_in.Goals as goal

pub returns-in-Object : goal.returns-in-Object
returns-in-Object c = λ frames locals.
    let plan = c.args.plan.now in
    let w : Setting = setting_of plan c.args.class frames in
    let spot : Spot = inside (spot_seen plan c.args.class c.args.base c.args.place) c.args.number in
    let s : State = record { shared = shared_of plan c.args.class c.args.store.now; locals = locals } in
    object-part spot s (class_of w spot) (ends plan c.args.class c.object_in.result) (c.object_in.ensures frames)
    ∙ ap (λ (k : Kind). part_at w k spot s) (sym c.in-Object.is)
