use Rattle.std.proofs.Common.{◌≡◌, ◌+◌, Err, drop, false, sym, ap, subst, ◌∙◌}
use Rattle.std.specs.Prelude.{IfErr, IfSome, IsSomeAnd, IsTrue, slice_get}
use Rattle.std.specs.FinMap as map
use Rattle.std.specs.Option.{option_and_then}
use Rattle.sed_typed.specs.Classes.{slots}
use Rattle.sed_engine.specs.Code.{may_store, with_slot}
use Rattle.sed_wire.specs.Faults.{StandsAfter}
use Rattle.sed_wire.specs.Spelling.{can_be_held}
use Rattle.node_table.specs.Read.{config_type_of, types_in}
use Rattle.node_table.proofs.ConfigLemmas.{after_read, after_some_slot, asked_next, config_may, good_none, next_slot, stores_none, stores_value, unread_is_no_good}
use Rattle.node_table.proofs.MatchLemmas.{and_more, if_some}
use Rattle.node_table.proofs.SchemaLemmas.{can_hold}
use Rattle.node_table.proofs.config.store_slot.Goals as goal

pub returns-in_default-clause-good : goal.returns-in_default-clause-good
returns-in_default-clause-good g c =
    let m = g.E.Engine.meaning c.args.engine.now in
    let all = slots m.schema.classes c.args.kind.0 in
    let next = next_slot all c.args.slot c.requires.there in
    sym (good_none c.args.slot all next false c.args.reader.now (asked_next all c.args.slot next _ (c.in_default.ensures ∙ ap (λ s. option_and_then config_type_of (slice_get (slots s.classes c.args.kind.0) c.args.slot)) c.schema.ensures.same))) ∙ c.requires.good

pub returns-in_default-clause-stored : goal.returns-in_default-clause-stored
returns-in_default-clause-stored g c =
    let m = g.E.Engine.meaning c.args.engine.now in
    let all = slots m.schema.classes c.args.kind.0 in
    let next = next_slot all c.args.slot c.requires.there in
    if_some _ _ (λ o at. stores_none m (g.E.Engine.live c.args.engine.now) c.args.place.0 o at c.args.slot all next c.args.reader.now (asked_next all c.args.slot next _ (c.in_default.ensures ∙ ap (λ s. option_and_then config_type_of (slice_get (slots s.classes c.args.kind.0) c.args.slot)) c.schema.ensures.same)))

pub value-requires : goal.value-requires
value-requires g c =
    let m = g.E.Engine.meaning c.args.engine.now in
    let all = slots m.schema.classes c.args.kind.0 in
    let next = next_slot all c.args.slot c.requires.there in
    subst (λ r. IfSome r (λ t. IsTrue (can_be_held t))) (sym (c.in-Some.ensures ∙ ap (λ s. option_and_then config_type_of (slice_get (slots s.classes c.args.kind.0) c.args.slot)) c.schema.ensures.same))
    (can_hold m.schema c.schema.ensures.whole.tables.limits c.args.kind.0 c.args.slot)

pub returns-in_default-value-clause-good : goal.returns-in_default-value-clause-good
returns-in_default-value-clause-good g c =
    let m = g.E.Engine.meaning c.args.engine.now in
    let all = slots m.schema.classes c.args.kind.0 in
    let next = next_slot all c.args.slot c.requires.there in
    absurd (unread_is_no_good c.in-Some.wanted (types_in (drop (c.args.slot + 1) all)) c.args.reader.now c.value.new.self c.in_default-value.field-0
    (λ e. c.value.ensures.short.0 (c.in_default-value.is ∙ ap Err e)) (λ e. c.value.ensures.bad_bool.0 (c.in_default-value.is ∙ ap Err e)) (λ e. c.value.ensures.too_long.0 (c.in_default-value.is ∙ ap Err e))
    (subst (λ r. IfErr r (λ fault. StandsAfter fault c.in-Some.wanted c.args.reader.now c.value.new.self)) c.in_default-value.is c.value.ensures.stands)
    (sym (after_some_slot c.args.slot all next c.in-Some.wanted (asked_next all c.args.slot next _ (c.in-Some.ensures ∙ ap (λ s. option_and_then config_type_of (slice_get (slots s.classes c.args.kind.0) c.args.slot)) c.schema.ensures.same)) false c.args.reader.now) ∙ c.requires.good))

pub returns-in_default-value-clause-stored : goal.returns-in_default-value-clause-stored
returns-in_default-value-clause-stored g c =
    let m = g.E.Engine.meaning c.args.engine.now in
    let all = slots m.schema.classes c.args.kind.0 in
    let next = next_slot all c.args.slot c.requires.there in
    absurd (unread_is_no_good c.in-Some.wanted (types_in (drop (c.args.slot + 1) all)) c.args.reader.now c.value.new.self c.in_default-value.field-0
    (λ e. c.value.ensures.short.0 (c.in_default-value.is ∙ ap Err e)) (λ e. c.value.ensures.bad_bool.0 (c.in_default-value.is ∙ ap Err e)) (λ e. c.value.ensures.too_long.0 (c.in_default-value.is ∙ ap Err e))
    (subst (λ r. IfErr r (λ fault. StandsAfter fault c.in-Some.wanted c.args.reader.now c.value.new.self)) c.in_default-value.is c.value.ensures.stands)
    (sym (after_some_slot c.args.slot all next c.in-Some.wanted (asked_next all c.args.slot next _ (c.in-Some.ensures ∙ ap (λ s. option_and_then config_type_of (slice_get (slots s.classes c.args.kind.0) c.args.slot)) c.schema.ensures.same)) false c.args.reader.now) ∙ c.requires.good))

pub set-requires : goal.set-requires
set-requires g c =
    let m = g.E.Engine.meaning c.args.engine.now in
    let all = slots m.schema.classes c.args.kind.0 in
    let next = next_slot all c.args.slot c.requires.there in
    subst (λ v. IsSomeAnd (map.get (g.E.Engine.live c.args.engine.now) c.args.place.0) (λ o. IsTrue (may_store m o.class c.args.slot v))) (sym c.put.ensures)
    (and_more (map.get (g.E.Engine.live c.args.engine.now) c.args.place.0) c.requires.live
    (λ o is. subst (λ k. IsTrue (may_store m k c.args.slot c.in-Ok.value)) (sym is) (config_may m c.args.kind.0 c.args.slot next c.in-Some.wanted c.in-Ok.value (asked_next all c.args.slot next _ (c.in-Some.ensures ∙ ap (λ s. option_and_then config_type_of (slice_get (slots s.classes c.args.kind.0) c.args.slot)) c.schema.ensures.same)) c.in-Ok.ensures.found.spelled.of_type)))

pub returns-clause-good : goal.returns-clause-good
returns-clause-good g c =
    let m = g.E.Engine.meaning c.args.engine.now in
    let all = slots m.schema.classes c.args.kind.0 in
    let next = next_slot all c.args.slot c.requires.there in
    sym (after_some_slot c.args.slot all next c.in-Some.wanted (asked_next all c.args.slot next _ (c.in-Some.ensures ∙ ap (λ s. option_and_then config_type_of (slice_get (slots s.classes c.args.kind.0) c.args.slot)) c.schema.ensures.same)) false c.args.reader.now
    ∙ after_read c.in-Some.wanted (types_in (drop (c.args.slot + 1) all)) false c.args.reader.now c.value.new.self c.in-Ok.value c.in-Ok.ensures.found) ∙ c.requires.good

pub returns-clause-stored : goal.returns-clause-stored
returns-clause-stored g c =
    let m = g.E.Engine.meaning c.args.engine.now in
    let all = slots m.schema.classes c.args.kind.0 in
    let next = next_slot all c.args.slot c.requires.there in
    let good = sym (after_some_slot c.args.slot all next c.in-Some.wanted (asked_next all c.args.slot next _ (c.in-Some.ensures ∙ ap (λ s. option_and_then config_type_of (slice_get (slots s.classes c.args.kind.0) c.args.slot)) c.schema.ensures.same)) false c.args.reader.now
    ∙ after_read c.in-Some.wanted (types_in (drop (c.args.slot + 1) all)) false c.args.reader.now c.value.new.self c.in-Ok.value c.in-Ok.ensures.found) ∙ c.requires.good in
    if_some _ _ (λ o at. stores_value m (g.E.Engine.live c.args.engine.now) c.args.place.0 o at c.args.slot all next c.in-Some.wanted (asked_next all c.args.slot next _ (c.in-Some.ensures ∙ ap (λ s. option_and_then config_type_of (slice_get (slots s.classes c.args.kind.0) c.args.slot)) c.schema.ensures.same)) c.in-Ok.value c.args.reader.now c.value.new.self (g.E.Engine.live c.set.new.self)
    c.in-Ok.ensures.found good
    (subst (λ r. IfSome r (λ o. g.E.Engine.live c.set.new.self ≡ map.insert (g.E.Engine.live c.args.engine.now) c.args.place.0 (with_slot m o c.args.slot c.put.new.self))) at c.set.ensures.written
    ∙ ap (λ v. map.insert (g.E.Engine.live c.args.engine.now) c.args.place.0 (with_slot m o c.args.slot v)) c.put.ensures))
