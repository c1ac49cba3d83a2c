use Rattle.std.proofs.Common.{List, ℕ, length, ◌≡◌, ◌∙◌, ap, sym, subst}
use Rattle.std.specs.Prelude.{Option}
use Rattle.std.specs.Option.{ForSome}
use Rattle.dasp_msg.specs.OfKind as of_kind
use Rattle.dasp_session.proofs.letters.keep_alive.Goals as goal

pub keep_alive-requires : goal.keep_alive-requires
keep_alive-requires c =
    subst (λ (more : Option (List ℕ)). ForSome more (λ bytes. length bytes ≡ 4)) (sym c.more_of.ensures) c.requires

pub returns-clause-says : goal.returns-clause-says
returns-clause-says c =
    c.keep_alive.ensures.says
    ∙ ap (of_kind.keep_alive c.args.remote_id c.args.acks.now.number) c.more_of.ensures
