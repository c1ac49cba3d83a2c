use Rattle.std.proofs.Common.{◌∙◌}
use Rattle.sed_classes.specs.Indexed.{place_of}
use Rattle.sed_classes.proofs.index.place_of.Goals as goal

pub returns : goal.returns
unfolding place_of
returns c = c.copied.ensures ∙ c.get.ensures.value
