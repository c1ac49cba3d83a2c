use Rattle.std.proofs.Common.{◌++◌, arith, sym, ap, ◌∙◌}
use Rattle.std.specs.List.{filter_map}
use Rattle.sed_classes.specs.Members.{members_of}
use Rattle.sed_classes.specs.Slots.{own_slots, slot_of}
use Rattle.sed_outline.proofs.Upwards.{upwards}
use Rattle.sed_outline.proofs.class_slots.slots.Goals as goal

pub upwards-preserved : goal.upwards-preserved
upwards-preserved c =
    let classes = c.classes-classes.result.now in
    let above = c.index-above.result.now in
    record {
      within = omega arith;
      so_far = c.in_ok-push_own_slots.ensures
          ∙ ap (λ ms. c.upwards.all.items ++ filter_map (slot_of classes c.kit_of.result) ms) c.members.ensures
          ∙ ap (λ kit. c.upwards.all.items ++ filter_map (slot_of classes kit)
          (members_of classes above)) c.kit_of.ensures
          ∙ ap (λ units. c.upwards.all.items ++ own_slots units above) c.classes-classes.ensures
          ∙ ap (λ far. far ++ own_slots c.args.based.now above) c.upwards.invariant.so_far
          ∙ upwards
          (own_slots c.args.based.now)
          c.upwards.left
          c.in_ok-lineage.lineage.items
          above
          (omega arith)
          (omega arith)
          (sym c.index-above.ensures);
    }
