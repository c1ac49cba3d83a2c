use Rattle.std.proofs.Common.{◌∙◌, ap}
use Rattle.std.specs.List.{list_all}
use Rattle.scode_engine.specs.Slots.{may_be_class, may_be_kit}
use Rattle.scode_engine.proofs.Told.{classes_told, kits_told}
use Rattle.scode_engine.proofs.schema.schema_of.Goals as goal

pub kits_of-requires : goal.kits_of-requires
kits_of-requires c = ap (list_all may_be_kit) c.as_slice.ensures ∙ kits_told c.args.image.now c.requires

pub classes_of-requires : goal.classes_of-requires
classes_of-requires c = ap (list_all may_be_class) c.as_slice-2.ensures ∙ classes_told c.args.image.now c.requires
