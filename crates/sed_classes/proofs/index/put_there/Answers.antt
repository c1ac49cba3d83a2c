use Rattle.std.proofs.lemmas.Option.{slice_get-get_or}
use Rattle.sed_classes.proofs.Groups.{put_one}
use Rattle.sed_classes.proofs.index.put_there.Goals as goal

pub returns : goal.returns
returns c =
    put_one c.args.groups.now c.args.group _ c.put.new.places c.args.name.now c.args.place
    (slice_get-get_or c.args.groups.now c.args.group c.index-groups-group.result c.requires) c.in_ok-put.ensures
