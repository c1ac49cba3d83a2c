use Rattle.node_events.proofs.Causes.{delivery_caused}
use Rattle.node_events.proofs.Shown.{same_delivery}
use Rattle.std.proofs.Common.{refl}
use Rattle.sed_value.specs.declared.refusal.Refusal.TheVariants.{OutOfMemory, SaveDevice}
use Rattle.node_events.proofs.deliveries.replies_show_what_went_wrong.Goals as goal

pub returns-clause-same : goal.returns-clause-same
returns-clause-same c = same_delivery

pub returns-clause-memory : goal.returns-clause-memory
returns-clause-memory c = λ m s n from heard mishap wish is.
    (delivery_caused c.commands_are_refused_by_their_rows.ensures.refused c.commands_are_refused_by_their_rows.ensures.done m s n from heard mishap OutOfMemory wish is).memory refl

pub returns-clause-disk : goal.returns-clause-disk
returns-clause-disk c = λ m s n from heard mishap wish is.
    (delivery_caused c.commands_are_refused_by_their_rows.ensures.refused c.commands_are_refused_by_their_rows.ensures.done m s n from heard mishap SaveDevice wish is).disk refl
