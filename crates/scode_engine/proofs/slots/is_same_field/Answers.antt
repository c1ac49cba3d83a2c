use Rattle.std.proofs.Common.{◌∙◌, ap}
use Rattle.scode_image.specs.declared.image.ImageField.{ImageField}
use Rattle.scode_code.specs.TableRules as rule
use Rattle.scode_engine.specs.Slots.{field_of}
use Rattle.scode_engine.proofs.Properties.{one_field, slot_there}
use Rattle.scode_engine.proofs.slots.is_same_field.Goals as goal

pub slot-requires : goal.slot-requires
slot-requires c = slot_there c.args.image.now c.requires.verified c.args.t.0 c.args.a.0 c.requires.first

pub slot-requires-2 : goal.slot-requires-2
slot-requires-2 c = slot_there c.args.image.now c.requires.verified c.args.t.0 c.args.b.0 c.requires.other

pub returns : goal.returns
returns c =
    c.is_one_field.ensures
    ∙ ap (λ (f : ImageField). rule.same_field f c.field_of-2.result) c.field_of.ensures
    ∙ ap (λ (f : ImageField). rule.same_field (field_of c.slot.result.now) f) c.field_of-2.ensures
    ∙ one_field c.args.image.now c.requires.verified c.args.t.0 c.args.a.0 c.args.b.0 c.requires.first c.requires.other
    c.slot.result.now c.slot-2.result.now c.slot.ensures c.slot-2.ensures
