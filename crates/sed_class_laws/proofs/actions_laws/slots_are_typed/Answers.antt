use Rattle.sed_class_laws.proofs.HasSlots.{has_slots}
use Rattle.sed_class_laws.proofs.actions_laws.slots_are_typed.Goals as goal

pub returns : goal.returns
returns c = λ units program u s f free heads members class. has_slots units u program s f free heads members class
