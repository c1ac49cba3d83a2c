use Rattle.std.proofs.Common.{Some}
use Rattle.std.proofs.lemmas.Map.Text.{btree_map_updates_str}
use Rattle.sed_classes.specs.Indexed.{place_of}
use Rattle.sed_classes.proofs.index.put.Goals as goal

pub returns : goal.returns
unfolding place_of
returns c = btree_map_updates_str c.args.name.now c.args.places.now c.insert.new.self (Some c.args.place) c.in_ok-insert.ensures.updates
