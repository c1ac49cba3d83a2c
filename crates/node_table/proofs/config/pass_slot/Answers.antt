use Rattle.std.proofs.Common.{◌+◌, Err, drop, ap, subst, ◌∙◌}
use Rattle.sed_typed.specs.Classes.{slots}
use Rattle.sed_wire.specs.Faults.{StandsAfter}
use Rattle.node_table.specs.Read.{types_in}
use Rattle.node_table.proofs.ConfigLemmas.{after_bad_truth, after_long, after_read, after_short, after_some_slot, asked_next, good_none, next_slot}
use Rattle.node_table.proofs.config.pass_slot.Goals as goal

pub returns-in_default : goal.returns-in_default
returns-in_default c =
    let all = slots c.args.schema.now.classes c.args.kind.0 in
    let next = next_slot all c.args.slot c.requires.there in
    good_none c.args.slot all next c.args.long.now c.args.reader.now (asked_next all c.args.slot next _ c.in_default.ensures)

pub returns-in-Ok : goal.returns-in-Ok
returns-in-Ok c =
    let all = slots c.args.schema.now.classes c.args.kind.0 in
    let next = next_slot all c.args.slot c.requires.there in
    after_some_slot c.args.slot all next c.in-Some.wanted (asked_next all c.args.slot next _ c.in-Some.ensures) c.args.long.now c.args.reader.now
    ∙ after_read c.in-Some.wanted (types_in (drop (c.args.slot + 1) all)) c.args.long.now c.args.reader.now c.value.new.self c.in-Ok._value c.in-Ok.ensures.found

pub returns-in-Err-TooLong : goal.returns-in-Err-TooLong
returns-in-Err-TooLong c =
    let all = slots c.args.schema.now.classes c.args.kind.0 in
    let next = next_slot all c.args.slot c.requires.there in
    after_some_slot c.args.slot all next c.in-Some.wanted (asked_next all c.args.slot next _ c.in-Some.ensures) c.args.long.now c.args.reader.now
    ∙ after_long c.in-Some.wanted (types_in (drop (c.args.slot + 1) all)) c.args.long.now c.args.reader.now c.value.new.self (c.in-Err-TooLong.ensures.too_long.0 (ap Err c.in-Err-TooLong.field-0-is))
    (subst (λ fault. StandsAfter fault c.in-Some.wanted c.args.reader.now c.value.new.self) c.in-Err-TooLong.field-0-is c.in-Err-TooLong.ensures.stands)

pub returns-in-Err-Short : goal.returns-in-Err-Short
returns-in-Err-Short c =
    let all = slots c.args.schema.now.classes c.args.kind.0 in
    let next = next_slot all c.args.slot c.requires.there in
    after_some_slot c.args.slot all next c.in-Some.wanted (asked_next all c.args.slot next _ c.in-Some.ensures) c.args.long.now c.args.reader.now
    ∙ after_short c.in-Some.wanted (types_in (drop (c.args.slot + 1) all)) c.args.long.now c.args.reader.now c.args.reader.now (c.in-Err-Short.ensures.short.0 (ap Err c.in-Err-Short.field-0-is))

pub returns-in-Err-BadBool : goal.returns-in-Err-BadBool
returns-in-Err-BadBool c =
    let all = slots c.args.schema.now.classes c.args.kind.0 in
    let next = next_slot all c.args.slot c.requires.there in
    after_some_slot c.args.slot all next c.in-Some.wanted (asked_next all c.args.slot next _ c.in-Some.ensures) c.args.long.now c.args.reader.now
    ∙ after_bad_truth c.in-Some.wanted (types_in (drop (c.args.slot + 1) all)) c.args.long.now c.args.reader.now (c.in-Err-BadBool.ensures.bad_bool.0 (ap Err c.in-Err-BadBool.field-0-is))
