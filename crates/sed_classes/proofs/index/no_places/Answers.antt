use Rattle.std.proofs.Common.{ap}
use Rattle.std.specs.Cmp.Lexicographic.{slice_cmp}
use Rattle.std.specs.BTreeMap.{is_at}
use Rattle.std.specs.Map.{lookup}
use Rattle.std.specs.Ordering.{nat_cmp}
use Rattle.sed_classes.specs.Indexed.{place_of}
use Rattle.sed_classes.proofs.index.no_places.Goals as goal

pub returns : goal.returns
unfolding place_of
returns c = λ q. ap (lookup (is_at (λ k. slice_cmp nat_cmp q k.now))) c.new.ensures.empty
