use Rattle.std.proofs.Common.{[], refl}
use Rattle.sox_msg.specs.Command.{invoke}
use Rattle.replay_log.proofs.GeneratedLemmas.{does-all}
use Rattle.replay_log.proofs.generate.do_acts.Goals as goal

pub returns : goal.returns
returns c =
    does-all c.args.spec.now _ _ _ _ _ _ c.in_ok-places.ensures c.in_ok-add_links.ensures c.in_ok-edit_at_ticks.ensures
    (c.in_ok-ask.ensures.does (invoke 0 1 []) refl refl)
