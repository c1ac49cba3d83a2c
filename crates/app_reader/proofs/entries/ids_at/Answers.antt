use Rattle.std.specs.Prelude.{slice_index_or}
use Rattle.std.proofs.lemmas.List.Elements.{Contains-get_or}
use Rattle.app_reader.proofs.entries.ids_at.Goals as goal

pub id_at-requires : goal.id_at-requires
id_at-requires c =
    c.requires (slice_index_or c.args.places.now c.loop-place.place-index 0) (Contains-get_or c.args.places.now c.loop-place.place-index 0 c.loop-place-test.true)
