use Rattle.std.proofs.Common.{◌≡◌, ◌≤◌, ◌+◌, drop, length, refl, ap, subst, ◌∙◌, arith}
use Rattle.std.specs.Prelude.{IfSome}
use Rattle.std.specs.FinMap as map
use Rattle.sed_typed.specs.Classes.{slots}
use Rattle.node_table.specs.Read.{StoresNext, types_in}
use Rattle.node_table.specs.Values.{AreOfTypes}
use Rattle.node_table.proofs.ConfigLemmas.{types_are_config}
use Rattle.node_table.proofs.GivenLemmas.{filled_all, filled_class, filled_more, filled_none}
use Rattle.node_table.proofs.config.store_values.Goals as goal

pub loop-slot-init : goal.loop-slot-init
loop-slot-init g c =
    let m = g.E.Engine.meaning c.args.engine.now in
    let all = slots m.schema.classes c.args.kind.0 in
    record {
      typed = subst (λ types. AreOfTypes types c.args.values.now) (types_are_config m c.args.kind.0) c.requires.typed;
      stored = filled_none m (g.E.Engine.live c.args.engine.now) c.args.place.0 all c.args.values.now;
      meaning = refl;
      statics = refl;
      limit = refl;
      fixed = refl;
    }

pub store_next-rest-requires-clause-live : goal.store_next-rest-requires-clause-live
store_next-rest-requires-clause-live g c =
    let m = g.E.Engine.meaning c.args.engine.now in
    filled_class m (g.E.Engine.live c.args.engine.now) c.args.place.0 (slots m.schema.classes c.args.kind.0) c.args.values.now
    (g.E.Engine.live c.loop-slot.engine) c.loop-slot.slot c.loop-slot.rest.now c.args.kind.0 c.loop-slot.invariant.stored c.requires.live

pub loop-slot-preserved : goal.loop-slot-preserved
loop-slot-preserved g c =
    let m = g.E.Engine.meaning c.args.engine.now in
    let all = slots m.schema.classes c.args.kind.0 in
    let step = subst (λ n. IfSome (map.get (g.E.Engine.live c.loop-slot.engine) c.args.place.0) (λ o. StoresNext n (g.E.Engine.live c.loop-slot.engine) (g.E.Engine.live c.store_next-rest.new.engine) c.args.place.0 o c.loop-slot.slot (slots n.schema.classes c.args.kind.0) c.loop-slot.rest.now c.store_next-rest.result.now)) c.loop-slot.invariant.meaning
    c.store_next-rest.ensures.stored
    in
    record {
      typed = subst (λ n. AreOfTypes (types_in (drop (c.loop-slot.slot + 1) (slots n.schema.classes c.args.kind.0))) c.store_next-rest.result.now) c.loop-slot.invariant.meaning c.store_next-rest.ensures.typed;
      stored = filled_more m (g.E.Engine.live c.args.engine.now) c.args.place.0 all c.args.values.now (g.E.Engine.live c.loop-slot.engine) (g.E.Engine.live c.store_next-rest.new.engine) c.loop-slot.slot c.loop-slot.rest.now c.store_next-rest.result.now
          c.loop-slot.invariant.stored step;
      meaning = c.store_next-rest.ensures.meaning ∙ c.loop-slot.invariant.meaning;
      statics = c.store_next-rest.ensures.statics ∙ c.loop-slot.invariant.statics;
      limit = c.store_next-rest.ensures.limit ∙ c.loop-slot.invariant.limit;
      fixed = c.store_next-rest.ensures.fixed ∙ c.loop-slot.invariant.fixed;
    }

pub returns-clause-stored : goal.returns-clause-stored
returns-clause-stored g c =
    let m = g.E.Engine.meaning c.args.engine.now in
    let count : c.slot_count-slot-end.result ≡ length (slots m.schema.classes c.args.kind.0) = c.slot_count-slot-end.ensures ∙ ap (λ s. length (slots s.classes c.args.kind.0)) c.schema.ensures.same in
    let le : length (slots m.schema.classes c.args.kind.0) ≤ c.loop-slot.slot = omega (arith, count, c.loop-slot-test.false) in
    filled_all m (g.E.Engine.live c.args.engine.now) (g.E.Engine.live c.loop-slot.engine) c.args.place.0 c.args.kind.0 c.args.values.now c.loop-slot.rest.now c.loop-slot.slot le c.loop-slot.invariant.stored
