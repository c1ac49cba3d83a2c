use Rattle.std.proofs.Common.{List, ℕ, length, ◌≡◌, ◌∙◌, ap, sym, subst}
use Rattle.std.specs.Prelude.{Option}
use Rattle.std.specs.Option.{ForSome}
use Rattle.dasp_msg.specs.OfKind as of_kind
use Rattle.dasp_session.proofs.letters.datagram.Goals as goal

pub datagram-requires-clause-four : goal.datagram-requires-clause-four
datagram-requires-clause-four c =
    subst (λ (more : Option (List ℕ)). ForSome more (λ bytes. length bytes ≡ 4)) (sym c.more_of.ensures) c.requires.four

pub returns-clause-says : goal.returns-clause-says
returns-clause-says c =
    c.datagram.ensures.says
    ∙ ap (λ (more : Option (List ℕ)). of_kind.datagram c.args.remote_id c.args.acks.now.number more c.args.number c.args.payload.now)
    c.more_of.ensures
