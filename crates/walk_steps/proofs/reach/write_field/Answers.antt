use Rattle.std.proofs.Common.{◌∙◌, sym}
use Rattle.sed_engine.specs.Stops.{map_ok}
use Rattle.sed_engine.specs.Values.{spot_of}
use Rattle.sed_engine.specs.State.{State}
use Rattle.sed_engine.specs.Steps.{inside, write_spot}
use Rattle.walk_steps.specs.Seen.{seen}
use Rattle.walk_steps.specs.Stored.{shared_of}
use Rattle.walk_steps.proofs.Reaches.{field-is}
use Rattle.walk_steps.proofs.reach.write_field.Goals as goal

pub returns-clause-end : goal.returns-clause-end
returns-clause-end c = λ locals.
    let plan = c.args.plan.now in
    let class = c.args.class in
    let s : State = record { shared = shared_of plan class c.args.store.now; locals = locals } in
    let object = seen plan class c.args.object in
    let v = seen plan class c.args.word in
    c.write.ensures.end locals (map_ok (λ spot. inside spot c.args.number) (spot_of object)) c.field-found.ensures
    ∙ sym (field-is s object c.args.number (λ spot s1. write_spot c.args.prim spot v s1))
