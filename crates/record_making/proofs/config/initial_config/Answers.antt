use Rattle.std.proofs.Common.{ap, ◌∙◌, arith}
use Rattle.std.specs.Prelude.{Err, is_some}
use Rattle.std.specs.FinMap as map
use Rattle.std.specs.Ordering.{nat_cmp}
use Rattle.sed_engine.specs.Code.{Object}
use Rattle.record_making.proofs.EngineLemmas.{are_properties, bare_after, class_is_small, config_is, new_at, no_data, slots_are}
use Rattle.record_making.proofs.config.initial_config.Goals as goal

pub add-requires-clause-few : goal.add-requires-clause-few
add-requires-clause-few g c = omega (arith, ap map.len c.requires.bare, map.len-empty nat_cmp Object)

pub unreachable-requires : goal.unreachable-requires
unreachable-requires g c =
    let m = g.E.Engine.meaning c.args.engine.now in
    let passed = c.add.ensures.full.0 (c.in-Err-DataFull.is ∙ ap Err c.in-Err-DataFull.field-0-is) in
    let none = no_data m (g.E.Engine.live c.args.engine.now) c.requires.bare in
    let small = class_is_small m c.args.class.0 c.schema.ensures.whole.tables c.requires.creatable in
    let room = c.requires.room in
    omega (arith, passed, none, small, room)

pub first_values-requires-clause-new : goal.first_values-requires-clause-new
first_values-requires-clause-new g c =
    let m = g.E.Engine.meaning c.args.engine.now in
    let n = g.E.Engine.meaning c.add.new.self in
    new_at m n _ _ c.in-Ok.place.0 c.args.class.0 c.in-Ok.ensures.added c.add.ensures.meaning

pub first_values-requires-clause-properties : goal.first_values-requires-clause-properties
first_values-requires-clause-properties g c =
    let m = g.E.Engine.meaning c.args.engine.now in
    let n = g.E.Engine.meaning c.add.new.self in
    are_properties m n c.args.class.0 _ c.add.ensures.meaning
    (slots_are m c.args.class.0 _ _ _ _ c.schema.ensures.same c.slots_of.ensures c.in_ok-slots.ensures c.deref.ensures.value)

pub remove-requires : goal.remove-requires
remove-requires g c =
    let m = g.E.Engine.meaning c.args.engine.now in
    let n = g.E.Engine.meaning c.add.new.self in
    ap is_some (new_at m n _ _ c.in-Ok.place.0 c.args.class.0 c.in-Ok.ensures.added c.add.ensures.meaning)

pub returns-clause-config : goal.returns-clause-config
returns-clause-config g c =
    let m = g.E.Engine.meaning c.args.engine.now in
    let n = g.E.Engine.meaning c.add.new.self in
    config_is m n c.args.class.0 _ _ c.in_ok-config.ensures c.add.ensures.meaning
    (slots_are m c.args.class.0 _ _ _ _ c.schema.ensures.same c.slots_of.ensures c.in_ok-slots.ensures c.deref.ensures.value)

pub returns-clause-bare : goal.returns-clause-bare
returns-clause-bare g c =
    let m = g.E.Engine.meaning c.args.engine.now in
    let live = g.E.Engine.live c.args.engine.now in
    let added = g.E.Engine.live c.add.new.self in
    bare_after m live added _ c.in-Ok.place.0 c.args.class.0 c.requires.bare c.in-Ok.ensures.added c.remove.ensures.removed
