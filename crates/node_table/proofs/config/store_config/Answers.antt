use Rattle.std.proofs.Common.{◌≡◌, ◌≤◌, ◌+◌, false, drop, length, refl, sym, ap, subst, ◌∙◌, arith}
use Rattle.std.specs.Prelude.{IfSome}
use Rattle.std.specs.FinMap as map
use Rattle.sed_typed.specs.Classes.{slots}
use Rattle.node_table.specs.Read.{StoresSlot, refusal_after, refusal_of_values, types_in}
use Rattle.node_table.proofs.ConfigLemmas.{StoredSoFar, stored_all, stored_class, stored_more, stored_none, types_are_config}
use Rattle.node_table.proofs.config.store_config.Goals as goal

pub loop-slot-init : goal.loop-slot-init
loop-slot-init g c =
    let m = g.E.Engine.meaning c.args.engine.now in
    let all = slots m.schema.classes c.args.kind.0 in
    let l = g.E.Engine.live c.args.engine.now in
    record {
      good = ap (refusal_after false (types_in all)) c.new-reader.ensures ∙ ap (λ types. refusal_of_values types c.args.bytes.now) (sym (types_are_config m c.args.kind.0)) ∙ c.requires.good;
      stored = subst (λ bytes. IfSome (map.get l c.args.place.0) (λ o. StoredSoFar m l l c.args.place.0 o 0 all c.args.bytes.now bytes)) (sym c.new-reader.ensures)
          (stored_none m l c.args.place.0 all c.args.bytes.now);
      meaning = refl;
      statics = refl;
      limit = refl;
      fixed = refl;
    }

pub store_slot-requires-clause-live : goal.store_slot-requires-clause-live
store_slot-requires-clause-live g c =
    let m = g.E.Engine.meaning c.args.engine.now in
    stored_class m (g.E.Engine.live c.args.engine.now) c.args.place.0 (slots m.schema.classes c.args.kind.0) c.args.bytes.now
    (g.E.Engine.live c.loop-slot.engine) c.loop-slot.slot c.loop-slot.reader c.args.kind.0 c.loop-slot.invariant.stored c.requires.live

pub loop-slot-preserved : goal.loop-slot-preserved
loop-slot-preserved g c =
    let m = g.E.Engine.meaning c.args.engine.now in
    let all = slots m.schema.classes c.args.kind.0 in
    let step = subst (λ n. IfSome (map.get (g.E.Engine.live c.loop-slot.engine) c.args.place.0) (λ o. StoresSlot n (g.E.Engine.live c.loop-slot.engine) (g.E.Engine.live c.store_slot.new.engine) c.args.place.0 o c.loop-slot.slot (slots n.schema.classes c.args.kind.0) c.loop-slot.reader c.store_slot.new.reader)) c.loop-slot.invariant.meaning
    c.store_slot.ensures.stored
    in
    record {
      good = ap (λ n. refusal_after false (types_in (drop (c.loop-slot.slot + 1) (slots n.schema.classes c.args.kind.0))) c.store_slot.new.reader) (sym c.loop-slot.invariant.meaning) ∙ c.store_slot.ensures.good;
      stored = stored_more m (g.E.Engine.live c.args.engine.now) c.args.place.0 all c.args.bytes.now (g.E.Engine.live c.loop-slot.engine) (g.E.Engine.live c.store_slot.new.engine) c.loop-slot.slot c.loop-slot.reader c.store_slot.new.reader
          c.loop-slot.invariant.stored step;
      meaning = c.store_slot.ensures.meaning ∙ c.loop-slot.invariant.meaning;
      statics = c.store_slot.ensures.statics ∙ c.loop-slot.invariant.statics;
      limit = c.store_slot.ensures.limit ∙ c.loop-slot.invariant.limit;
      fixed = c.store_slot.ensures.fixed ∙ c.loop-slot.invariant.fixed;
    }

pub returns-clause-stored : goal.returns-clause-stored
returns-clause-stored g c =
    let m = g.E.Engine.meaning c.args.engine.now in
    let count : c.slot_count-slot-end.result ≡ length (slots m.schema.classes c.args.kind.0) = c.slot_count-slot-end.ensures ∙ ap (λ s. length (slots s.classes c.args.kind.0)) c.schema.ensures.same in
    let le : length (slots m.schema.classes c.args.kind.0) ≤ c.loop-slot.slot = omega (arith, count, c.loop-slot-test.false) in
    stored_all m (g.E.Engine.live c.args.engine.now) (g.E.Engine.live c.loop-slot.engine) c.args.place.0 c.args.kind.0 c.args.bytes.now c.loop-slot.reader c.loop-slot.slot le c.loop-slot.invariant.stored
