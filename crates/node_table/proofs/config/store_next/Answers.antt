use Rattle.std.proofs.Common.{◌≡◌, ◌+◌, drop, sym, ap, subst, ◌∙◌, arith}
use Rattle.std.specs.Prelude.{IfSome, IsSomeAnd, IsTrue, slice_get}
use Rattle.std.specs.FinMap as map
use Rattle.std.specs.Option.{option_and_then}
use Rattle.sed_typed.specs.Classes.{slots}
use Rattle.sed_engine.specs.Code.{may_store, with_slot}
use Rattle.node_table.specs.Read.{config_type_of, types_in}
use Rattle.node_table.proofs.ConfigLemmas.{asked_next, config_may, next_slot}
use Rattle.node_table.proofs.GivenLemmas.{few_slots, fills_next, fills_none, typed_first, typed_next, typed_not, typed_some}
use Rattle.node_table.proofs.MatchLemmas.{and_more, if_some}
use Rattle.node_table.proofs.config.store_next.Goals as goal

pub returns-in_default-clause-typed : goal.returns-in_default-clause-typed
returns-in_default-clause-typed g c =
    let all = slots (g.E.Engine.meaning c.args.engine.now).schema.classes c.args.kind.0 in
    let next = next_slot all c.args.slot c.requires.there in
    let none = asked_next all c.args.slot next _ (c.in_default.ensures ∙ ap (λ s. option_and_then config_type_of (slice_get (slots s.classes c.args.kind.0) c.args.slot)) c.schema.ensures.same) in
    typed_not c.args.slot all next c.args.values.now c.requires.typed none

pub returns-in_default-clause-stored : goal.returns-in_default-clause-stored
returns-in_default-clause-stored g c =
    let m = g.E.Engine.meaning c.args.engine.now in
    let all = slots m.schema.classes c.args.kind.0 in
    let next = next_slot all c.args.slot c.requires.there in
    let none = asked_next all c.args.slot next _ (c.in_default.ensures ∙ ap (λ s. option_and_then config_type_of (slice_get (slots s.classes c.args.kind.0) c.args.slot)) c.schema.ensures.same) in
    if_some _ _ (λ o at. fills_none m (g.E.Engine.live c.args.engine.now) c.args.place.0 o at c.args.slot all next c.args.values.now none)

pub returns-in_default-split_first-clause-typed : goal.returns-in_default-split_first-clause-typed
returns-in_default-split_first-clause-typed g c =
    let all = slots (g.E.Engine.meaning c.args.engine.now).schema.classes c.args.kind.0 in
    let next = next_slot all c.args.slot c.requires.there in
    let some = asked_next all c.args.slot next _ (c.in-Some.ensures ∙ ap (λ s. option_and_then config_type_of (slice_get (slots s.classes c.args.kind.0) c.args.slot)) c.schema.ensures.same) in
    absurd (typed_some c.in-Some._wanted (types_in (drop (c.args.slot + 1) all)) c.args.values.now (typed_next c.args.slot all next c.args.values.now c.requires.typed c.in-Some._wanted some) c.in_default-split_first.ensures.cases)

pub returns-in_default-split_first-clause-stored : goal.returns-in_default-split_first-clause-stored
returns-in_default-split_first-clause-stored g c =
    let all = slots (g.E.Engine.meaning c.args.engine.now).schema.classes c.args.kind.0 in
    let next = next_slot all c.args.slot c.requires.there in
    let some = asked_next all c.args.slot next _ (c.in-Some.ensures ∙ ap (λ s. option_and_then config_type_of (slice_get (slots s.classes c.args.kind.0) c.args.slot)) c.schema.ensures.same) in
    absurd (typed_some c.in-Some._wanted (types_in (drop (c.args.slot + 1) all)) c.args.values.now (typed_next c.args.slot all next c.args.values.now c.requires.typed c.in-Some._wanted some) c.in_default-split_first.ensures.cases)

pub overflow_cast-slot : goal.overflow_cast-slot
overflow_cast-slot g c =
    let few = few_slots (g.E.Engine.meaning c.args.engine.now).schema c.schema.ensures.whole.tables.limits c.args.kind.0 in
    let there = c.requires.there in
    omega (arith, few, there)

pub set-requires : goal.set-requires
set-requires g c =
    let m = g.E.Engine.meaning c.args.engine.now in
    let all = slots m.schema.classes c.args.kind.0 in
    let next = next_slot all c.args.slot c.requires.there in
    let some = asked_next all c.args.slot next _ (c.in-Some.ensures ∙ ap (λ s. option_and_then config_type_of (slice_get (slots s.classes c.args.kind.0) c.args.slot)) c.schema.ensures.same) in
    let typed = typed_first c.in-Some._wanted (types_in (drop (c.args.slot + 1) all)) c.args.values.now c.in-Some-split_first.rest.now c.in-Some-split_first.value.now
    (typed_next c.args.slot all next c.args.values.now c.requires.typed c.in-Some._wanted some) c.in-Some-split_first.ensures.cases.0 in
    subst (λ v. IsSomeAnd (map.get (g.E.Engine.live c.args.engine.now) c.args.place.0) (λ o. IsTrue (may_store m o.class c.args.slot v))) (sym c.put.ensures)
    (and_more (map.get (g.E.Engine.live c.args.engine.now) c.args.place.0) c.requires.live
    (λ o is. subst (λ k. IsTrue (may_store m k c.args.slot c.in-Some-split_first.value.now)) (sym is) (config_may m c.args.kind.0 c.args.slot next c.in-Some._wanted c.in-Some-split_first.value.now some typed.0)))

pub returns-clause-typed : goal.returns-clause-typed
returns-clause-typed g c =
    let all = slots (g.E.Engine.meaning c.args.engine.now).schema.classes c.args.kind.0 in
    let next = next_slot all c.args.slot c.requires.there in
    let some = asked_next all c.args.slot next _ (c.in-Some.ensures ∙ ap (λ s. option_and_then config_type_of (slice_get (slots s.classes c.args.kind.0) c.args.slot)) c.schema.ensures.same) in
    (typed_first c.in-Some._wanted (types_in (drop (c.args.slot + 1) all)) c.args.values.now c.in-Some-split_first.rest.now c.in-Some-split_first.value.now
    (typed_next c.args.slot all next c.args.values.now c.requires.typed c.in-Some._wanted some) c.in-Some-split_first.ensures.cases.0).1

pub returns-clause-stored : goal.returns-clause-stored
returns-clause-stored g c =
    let m = g.E.Engine.meaning c.args.engine.now in
    let all = slots m.schema.classes c.args.kind.0 in
    let next = next_slot all c.args.slot c.requires.there in
    let some = asked_next all c.args.slot next _ (c.in-Some.ensures ∙ ap (λ s. option_and_then config_type_of (slice_get (slots s.classes c.args.kind.0) c.args.slot)) c.schema.ensures.same) in
    if_some _ _ (λ o at. fills_next m (g.E.Engine.live c.args.engine.now) c.args.place.0 o at c.args.slot all next c.in-Some._wanted some c.in-Some-split_first.value.now c.args.values.now c.in-Some-split_first.rest.now (g.E.Engine.live c.set.new.self) c.in-Some-split_first.ensures.cases.0
    (subst (λ r. IfSome r (λ o. g.E.Engine.live c.set.new.self ≡ map.insert (g.E.Engine.live c.args.engine.now) c.args.place.0 (with_slot m o c.args.slot c.put.new.self))) at c.set.ensures.written
    ∙ ap (λ v. map.insert (g.E.Engine.live c.args.engine.now) c.args.place.0 (with_slot m o c.args.slot v)) c.put.ensures))
