use Rattle.std.proofs.Common.{◌≡◌, ◌∙◌, ℤ, List, Option, sym, ap, subst}
use Rattle.std.proofs.lemmas.Int.{to_z-of_z}
use mir.Val.{of_z, to_z}
use mir.Syntax.{w64}
use Rattle.std.specs.Prelude.{IfSome}
use Rattle.std.specs.FinMap as map
use Rattle.sed_value.specs.declared.value.Value.{Value}
use Rattle.sed_typed.specs.Contents.{Contents}
use Rattle.sed_engine.specs.Code.{Object, called, root_of}
use Rattle.sed_engine.specs.Program.{code_of}
use Rattle.sed_cells.specs.Places.{classes_in, contents_of}
use Rattle.sed_walker.specs.declared.component.Component.{Component}
use Rattle.sed_walker.specs.Held.{live_of, object_seen}
use Rattle.sed_walker.proofs.Live.{live-put_back}
use Rattle.sed_walker.proofs.calls.call.Goals as goal

pub returns-clause-left : goal.returns-clause-left
returns-clause-left c =
    let plan = c.args.plan.now in
    let old = c.args.components.now in
    let key = c.args.key in
    let out = c.remove-component in
    let left = c.run-left in
    let back = c.insert_reserved-same in
    let statics = contents_of plan (classes_in plan) c.args.statics.now in
    let gone : Contents → ℤ → Object = λ all moment. called (object_seen plan out.result) (root_of (code_of plan.program) (object_seen plan out.result) all c.args.which c.args.argument.now c.args.turns moment) in
    let is : object_seen plan left.result.component ≡ gone statics c.args.moment =
    (λ i. record { class = left.ensures.class i; contents = (left.ensures.left i).contents })
    ∙ ap (λ (all : List Value). gone (contents_of plan (classes_in plan) all) (to_z w64 (of_z w64 c.args.moment))) c.replace-taken.ensures.value
    ∙ ap (gone statics) (to_z-of_z w64 c.args.moment c.ranges.moment) in
    subst (λ (r : Option Component). IfSome r (λ x. live_of plan back.new.self ≡ map.insert (live_of plan old) key (called (object_seen plan x) (root_of (code_of plan.program) (object_seen plan x) statics c.args.which c.args.argument.now c.args.turns c.args.moment)))) (sym out.ensures.value)
    (live-put_back plan old out.new.self back.new.self key back.result left.result.component out.ensures.updates back.ensures.updates (back.ensures.key ∙ out.ensures.key_is_next)
    ∙ ap (map.insert (live_of plan old) key) is)
