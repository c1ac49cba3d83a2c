use Rattle.std.proofs.Common.{sym, subst}
use Rattle.sed_typed.specs.Flat.{IsFlat}
use Rattle.sed_terms.proofs.found.stores.stored.Goals as goal

pub held-requires-clause-tree_is_flat : goal.held-requires-clause-tree_is_flat
held-requires-clause-tree_is_flat c = subst IsFlat (sym c.in_ok-tree.ensures) (c.in_ok-place.ensures.flat, c.requires.value_is_flat)
