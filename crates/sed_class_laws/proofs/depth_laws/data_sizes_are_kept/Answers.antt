use Rattle.sed_class_laws.proofs.Sizes.{data_same}
use Rattle.sed_class_laws.proofs.depth_laws.data_sizes_are_kept.Goals as goal

pub returns : goal.returns
returns c = λ units program u s f class h. data_same units u program s f class h
