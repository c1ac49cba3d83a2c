use Rattle.std.proofs.Common.{ap, w64}
use Rattle.std.proofs.lemmas.Int.{to_z-of_z}
use Rattle.node_events.specs.Node.{Setup}
use Rattle.sedona_cli.proofs.ReplaySteps.{is_ready}
use Rattle.sedona_cli.proofs.nodes.node_of.Goals as goal

pub returns-in-Ok-clause-ready : goal.returns-in-Ok-clause-ready
returns-in-Ok-clause-ready c =
    is_ready _ _ c.args.moment c.in-Some.turns c.args.words.turns c.args.parts.store _ c.args.parts.users c.args.parts.secret _ c.in-Ok.node (to_z-of_z w64 c.args.moment c.ranges.moment) c.in-Some.ensures.made c.in-Ok.ensures.code c.in-Ok.ensures.setup c.in-Ok.ensures.fixed c.in-Ok.ensures.opened

pub returns-in-Ok-clause-slot : goal.returns-in-Ok-clause-slot
returns-in-Ok-clause-slot c = ap (λ (s : Setup). s.slot) c.in-Ok.ensures.setup

pub unreachable-requires : goal.unreachable-requires
unreachable-requires c =
    let is = c.in_default.ensures.exact.1 (record { some = c.requires.meant.some; most = c.requires.meant.most }) in cc
