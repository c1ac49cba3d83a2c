use Rattle.std.proofs.Common.{◌≡◌, ◌∙◌, ◌<◌, Option, sym, ap, refl, subst}
use Rattle.std.specs.Prelude.{IfSome, IsTrue, is_some}
use Rattle.std.specs.FinMap as map
use Rattle.std.proofs.lemmas.Bool.{lt-ltb}
use Rattle.std.proofs.lemmas.Int.{to_z-of_z}
use mir.Val.{of_z, to_z}
use mir.Syntax.{w64}
use Rattle.sed_value.specs.declared.value.Value.{Value}
use Rattle.sed_typed.specs.declared.program.Program.{Program}
use Rattle.sed_typed.specs.Contents.{Contents}
use Rattle.sed_engine.specs.declared.call.Root.{Root}
use Rattle.sed_engine.specs.Code.{Object, called, may_call}
use Rattle.sed_engine.specs.Fits.{Fits}
use Rattle.sed_engine.specs.Program.{code_of, meaning_of}
use Rattle.sed_engine.specs.Root.{RootEnd}
use Rattle.sed_engine.specs.Whole.{IsObject}
use Rattle.sed_cells.specs.Places.{Plan, classes_in, contents_of}
use Rattle.slab.specs.Slab.{get}
use Rattle.sed_walker.specs.declared.component.Component.{Component}
use Rattle.sed_walker.specs.Held.{Held, held_of, live_of, object_seen}
use Rattle.sed_walker.specs.Calls.{asked}
use Rattle.sed_walker.proofs.Keeping.{object_at, object_class}
use Rattle.sed_walker.proofs.Changes.{answered, component_of, held-changed, live_at, meant, moved, told}
use Rattle.sed_walker.proofs.walker.WalkerEngine.call.Goals as goal

abbrev may : Root → Value → Program → Object → Type 0
may which argument program o = IsTrue (may_call (meaning_of program) o.class which argument)

pub call-requires-clause-there : goal.call-requires-clause-there
call-requires-clause-there c =
    let w = c.self.inside in
    let x = component_of w.slots w.components w.statics w.limit c.args.self.now c.self.view_is c.args.p.0 (may c.args.r c.args.arg.now) c.requires.live in
    ap is_some x.1

pub call-requires-clause-class : goal.call-requires-clause-class
call-requires-clause-class c =
    let w = c.self.inside in
    let x = component_of w.slots w.components w.statics w.limit c.args.self.now c.self.view_is c.args.p.0 (may c.args.r c.args.arg.now) c.requires.live in
    let object : IsObject (meaning_of w.slots.program) (object_seen w.slots x.0) = object_at (held_of w.slots w.components w.statics w.limit) w.used c.self.invariant c.args.p.0 (object_seen w.slots x.0) (live_at w.slots w.components c.args.p.0 x.0 x.1) in
    subst (λ (r : Option Component). IfSome r (λ y. y.class < classes_in c.plan.result.now)) (sym x.1)
    (subst (λ (p : Plan). x.0.class < classes_in p) (sym c.plan.ensures) (object_class (meaning_of w.slots.program) (object_seen w.slots x.0) object))

pub invariant_of-self : goal.invariant_of-self
invariant_of-self c =
    let w = c.self.inside in
    let x = component_of w.slots w.components w.statics w.limit c.args.self.now c.self.view_is c.args.p.0 (may c.args.r c.args.arg.now) c.requires.live in
    let same : asked w.slots x.0 w.statics c.args.r c.args.arg.now c.args.turns c.args.ticks ≡ meant (held_of w.slots w.components w.statics w.limit) (object_seen w.slots x.0) c.args.r c.args.arg.now c.args.turns c.args.ticks =
    answered w.slots w.components w.statics w.limit w.used c.self.invariant c.args.p.0 x.0 x.1 c.args.r c.args.arg.now c.args.turns c.args.ticks
    (λ q. c.masked_codes_answer.ensures (code_of w.slots.program) q) x.2 c.requires.some_turns c.requires.most_turns (lt-ltb _ _ c.ranges.ticks.sfits) in
    let left : live_of w.slots c.call.new.components ≡ map.insert (live_of w.slots w.components) c.args.p.0 (called (object_seen w.slots x.0) (meant (held_of w.slots w.components w.statics w.limit) (object_seen w.slots x.0) c.args.r c.args.arg.now c.args.turns c.args.ticks)) =
    moved (λ p y a z. live_of p c.call.new.components ≡ map.insert (live_of p w.components) c.args.p.0 (called (object_seen p y) (asked p y w.statics c.args.r a c.args.turns z))) c.plan.result.now w.slots c.plan.ensures c.value.result.now c.args.arg.now c.value.ensures (to_z w64 (of_z w64 c.args.ticks)) c.args.ticks (to_z-of_z w64 c.args.ticks c.ranges.ticks)
    (get w.components c.args.p.0) x.0 x.1 c.call.ensures.left
    ∙ ap (λ (r : RootEnd). map.insert (live_of w.slots w.components) c.args.p.0 (called (object_seen w.slots x.0) r)) same in
    let after : contents_of w.slots (classes_in w.slots) c.call.new.statics ≡ (meant (held_of w.slots w.components w.statics w.limit) (object_seen w.slots x.0) c.args.r c.args.arg.now c.args.turns c.args.ticks).statics =
    moved (λ p y a z. contents_of p (classes_in p) c.call.new.statics ≡ (asked p y w.statics c.args.r a c.args.turns z).statics) c.plan.result.now w.slots c.plan.ensures c.value.result.now c.args.arg.now c.value.ensures (to_z w64 (of_z w64 c.args.ticks)) c.args.ticks (to_z-of_z w64 c.args.ticks c.ranges.ticks)
    (get w.components c.args.p.0) x.0 x.1 c.call.ensures.statics
    ∙ ap (λ (r : RootEnd). r.statics) same in
    let m = meaning_of w.slots.program in
    let o : Object = object_seen w.slots x.0 in
    let statics = contents_of w.slots (classes_in w.slots) w.statics in
    let object : IsObject (meaning_of w.slots.program) o = object_at (held_of w.slots w.components w.statics w.limit) w.used c.self.invariant c.args.p.0 o (live_at w.slots w.components c.args.p.0 x.0 x.1) in
    let law = c.what_is_kept_fits.ensures in
    held-changed w.slots w.components w.statics w.limit w.used c.self.invariant c.call.new.components c.call.new.statics c.args.p.0 x.0
    (called o (meant (held_of w.slots w.components w.statics w.limit) o c.args.r c.args.arg.now c.args.turns c.args.ticks)) x.1 left
    (law.called m o statics c.args.r c.args.arg.now c.args.turns c.args.ticks c.self.invariant.whole object c.self.invariant.statics) refl
    (subst (λ (all : Contents). Fits m.fields m.static_fields m.initial_statics all) (sym after) (law.statics m o statics c.args.r c.args.arg.now c.args.turns c.args.ticks c.self.invariant.whole object c.self.invariant.statics))

pub returns-clause-end : goal.returns-clause-end
returns-clause-end c =
    let w = c.self.inside in
    let x = component_of w.slots w.components w.statics w.limit c.args.self.now c.self.view_is c.args.p.0 (may c.args.r c.args.arg.now) c.requires.live in
    let same : asked w.slots x.0 w.statics c.args.r c.args.arg.now c.args.turns c.args.ticks ≡ meant (held_of w.slots w.components w.statics w.limit) (object_seen w.slots x.0) c.args.r c.args.arg.now c.args.turns c.args.ticks =
    answered w.slots w.components w.statics w.limit w.used c.self.invariant c.args.p.0 x.0 x.1 c.args.r c.args.arg.now c.args.turns c.args.ticks
    (λ q. c.masked_codes_answer.ensures (code_of w.slots.program) q) x.2 c.requires.some_turns c.requires.most_turns (lt-ltb _ _ c.ranges.ticks.sfits) in
    told w.slots w.components w.statics w.limit c.args.self.now c.self.view_is c.args.p.0
    (λ (h : Held) (o : Object). c.call.result ≡ (meant h o c.args.r c.args.arg.now c.args.turns c.args.ticks).end) x.0 x.1
    (moved (λ p y a z. c.call.result ≡ (asked p y w.statics c.args.r a c.args.turns z).end) c.plan.result.now w.slots c.plan.ensures c.value.result.now c.args.arg.now c.value.ensures (to_z w64 (of_z w64 c.args.ticks)) c.args.ticks (to_z-of_z w64 c.args.ticks c.ranges.ticks)
    (get w.components c.args.p.0) x.0 x.1 c.call.ensures.end
    ∙ ap (λ (r : RootEnd). r.end) same)

pub returns-clause-left : goal.returns-clause-left
returns-clause-left c =
    let w = c.self.inside in
    let x = component_of w.slots w.components w.statics w.limit c.args.self.now c.self.view_is c.args.p.0 (may c.args.r c.args.arg.now) c.requires.live in
    let same : asked w.slots x.0 w.statics c.args.r c.args.arg.now c.args.turns c.args.ticks ≡ meant (held_of w.slots w.components w.statics w.limit) (object_seen w.slots x.0) c.args.r c.args.arg.now c.args.turns c.args.ticks =
    answered w.slots w.components w.statics w.limit w.used c.self.invariant c.args.p.0 x.0 x.1 c.args.r c.args.arg.now c.args.turns c.args.ticks
    (λ q. c.masked_codes_answer.ensures (code_of w.slots.program) q) x.2 c.requires.some_turns c.requires.most_turns (lt-ltb _ _ c.ranges.ticks.sfits) in
    let left : live_of w.slots c.call.new.components ≡ map.insert (live_of w.slots w.components) c.args.p.0 (called (object_seen w.slots x.0) (meant (held_of w.slots w.components w.statics w.limit) (object_seen w.slots x.0) c.args.r c.args.arg.now c.args.turns c.args.ticks)) =
    moved (λ p y a z. live_of p c.call.new.components ≡ map.insert (live_of p w.components) c.args.p.0 (called (object_seen p y) (asked p y w.statics c.args.r a c.args.turns z))) c.plan.result.now w.slots c.plan.ensures c.value.result.now c.args.arg.now c.value.ensures (to_z w64 (of_z w64 c.args.ticks)) c.args.ticks (to_z-of_z w64 c.args.ticks c.ranges.ticks)
    (get w.components c.args.p.0) x.0 x.1 c.call.ensures.left
    ∙ ap (λ (r : RootEnd). map.insert (live_of w.slots w.components) c.args.p.0 (called (object_seen w.slots x.0) r)) same in
    told w.slots w.components w.statics w.limit c.args.self.now c.self.view_is c.args.p.0
    (λ (h : Held) (o : Object). live_of w.slots c.call.new.components ≡ map.insert h.live c.args.p.0 (called o (meant h o c.args.r c.args.arg.now c.args.turns c.args.ticks))) x.0 x.1 left

pub returns-clause-statics : goal.returns-clause-statics
returns-clause-statics c =
    let w = c.self.inside in
    let x = component_of w.slots w.components w.statics w.limit c.args.self.now c.self.view_is c.args.p.0 (may c.args.r c.args.arg.now) c.requires.live in
    let same : asked w.slots x.0 w.statics c.args.r c.args.arg.now c.args.turns c.args.ticks ≡ meant (held_of w.slots w.components w.statics w.limit) (object_seen w.slots x.0) c.args.r c.args.arg.now c.args.turns c.args.ticks =
    answered w.slots w.components w.statics w.limit w.used c.self.invariant c.args.p.0 x.0 x.1 c.args.r c.args.arg.now c.args.turns c.args.ticks
    (λ q. c.masked_codes_answer.ensures (code_of w.slots.program) q) x.2 c.requires.some_turns c.requires.most_turns (lt-ltb _ _ c.ranges.ticks.sfits) in
    let after : contents_of w.slots (classes_in w.slots) c.call.new.statics ≡ (meant (held_of w.slots w.components w.statics w.limit) (object_seen w.slots x.0) c.args.r c.args.arg.now c.args.turns c.args.ticks).statics =
    moved (λ p y a z. contents_of p (classes_in p) c.call.new.statics ≡ (asked p y w.statics c.args.r a c.args.turns z).statics) c.plan.result.now w.slots c.plan.ensures c.value.result.now c.args.arg.now c.value.ensures (to_z w64 (of_z w64 c.args.ticks)) c.args.ticks (to_z-of_z w64 c.args.ticks c.ranges.ticks)
    (get w.components c.args.p.0) x.0 x.1 c.call.ensures.statics
    ∙ ap (λ (r : RootEnd). r.statics) same in
    told w.slots w.components w.statics w.limit c.args.self.now c.self.view_is c.args.p.0
    (λ (h : Held) (o : Object). contents_of w.slots (classes_in w.slots) c.call.new.statics ≡ (meant h o c.args.r c.args.arg.now c.args.turns c.args.ticks).statics) x.0 x.1 after

pub returns-clause-meaning : goal.returns-clause-meaning
returns-clause-meaning c = ap (λ (h : Held). meaning_of h.program) c.self.view_is
