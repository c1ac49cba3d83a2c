use Rattle.std.proofs.Common.{sym, ◌∙◌}
use Rattle.sox_events.proofs.Rooms.{all_fit}
use Rattle.sox_events.proofs.subs.Subs.has_room.Goals as goal

pub returns : goal.returns
returns c =
    let all =
    all_fit c.args.schema.now c.args.self.now.table c.fits-tree.result c.fits-config.result c.fits-runtime.result c.fits-links.result
    c.fits-tree.ensures c.fits-config.ensures c.fits-runtime.ensures c.fits-links.ensures in
    (λ e. all.0 (sym c.are_all.ensures ∙ e), λ room. c.are_all.ensures ∙ all.1 room)
