use Rattle.sed_class_laws.proofs.SysMembers.{has_sys_members}
use Rattle.sed_class_laws.proofs.actions_laws.types_of_sys_are_typed.Goals as goal

pub returns : goal.returns
returns c = λ units program u s f t heads empty class. has_sys_members units u program f t heads empty s class
