use Rattle.std.proofs.Common.{◌≡◌, ◌∙◌, Option, sym, ap, subst}
use Rattle.std.specs.Prelude.{IfSome}
use Rattle.std.specs.FinMap as map
use Rattle.sed_engine.specs.Code.{with_slot}
use Rattle.sed_engine.specs.Program.{meaning_of}
use Rattle.sed_walker.specs.declared.component.Component.{Component}
use Rattle.sed_walker.specs.Held.{live_of, object_seen}
use Rattle.sed_walker.proofs.Live.{live-put_back}
use Rattle.sed_walker.proofs.component.store.Goals as goal

pub returns : goal.returns
returns c =
    let plan = c.args.plan.now in
    let old = c.args.components.now in
    let key = c.args.key in
    let out = c.remove-component in
    let back = c.insert_reserved-same in
    subst (λ (r : Option Component). IfSome r (λ x. live_of plan back.new.self ≡ map.insert (live_of plan old) key (with_slot (meaning_of plan.program) (object_seen plan x) c.args.slot.0 c.args.value.now))) (sym out.ensures.value)
    (live-put_back plan old out.new.self back.new.self key back.result _ out.ensures.updates back.ensures.updates (back.ensures.key ∙ out.ensures.key_is_next)
    ∙ ap (map.insert (live_of plan old) key) c.store.ensures)
