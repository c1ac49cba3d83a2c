use Rattle.std.proofs.Common.{sym, subst}
use Rattle.sed_typed.specs.Flat.{IsFlatLink}
use Rattle.sed_terms.proofs.FlatRows.{args_flat}
use Rattle.sed_terms.proofs.found.Found.text_call.Goals as goal

pub with_link-requires-clause-link_is_flat : goal.with_link-requires-clause-link_is_flat
with_link-requires-clause-link_is_flat c =
    subst IsFlatLink (sym c.in_ok-link.ensures) (args_flat c.into_items.result c.into_items.ensures.flat)
