use Rattle.std.proofs.Common.{ℤ, subst, w64}
use Rattle.std.proofs.lemmas.Int.{to_z-of_z}
use Rattle.link_prop.specs.Linked.{application_of}
use Rattle.sox_msg.specs.View.{asked_of}
use Rattle.sox_serve.specs.Serves.{Serves}
use Rattle.sox_serve.proofs.RefusalLemmas.{refused_stays}
use Rattle.sox_serve.proofs.SaveLemmas.{saves, saving}
use Rattle.sox_serve.proofs.serving.serve.Goals as goal

pub returns-clause-served : goal.returns-clause-served
returns-clause-served g c =
    subst (λ (t : ℤ). Serves g.E.Engine c.args.app.now c.serve_command.new.app (asked_of c.args.request.now.command) c.args.request.now.number c.args.turns t c.serve_command.result c.serve_command.new.into)
    (to_z-of_z w64 c.args.ticks c.ranges.ticks) c.serve_command.ensures.served

pub returns-clause-refused : goal.returns-clause-refused
returns-clause-refused g c = refused_stays _ _ _ _ _ _ _ _ _ c.serve_command.ensures.served

pub returns-clause-saves : goal.returns-clause-saves
returns-clause-saves g c =
    saves g.E.Engine c.args.app.now c.serve_command.new.app (asked_of c.args.request.now.command) c.args.request.now.number c.args.turns c.args.ticks
    c.serve_command.result c.serve_command.new.into (returns-clause-served g c)

pub returns-clause-saving : goal.returns-clause-saving
returns-clause-saving g c =
    saving g.E.Engine c.args.app.now c.serve_command.new.app (asked_of c.args.request.now.command) c.args.request.now.number c.args.turns c.args.ticks
    c.serve_command.result c.serve_command.new.into (returns-clause-served g c)
    (c.refused_commands_change_nothing.ensures.save (g.E.Engine.meaning c.args.app.now.tree.engine) (application_of g.E.Engine c.args.app.now) (asked_of c.args.request.now.command) c.args.turns c.args.ticks)

pub returns-clause-tells : goal.returns-clause-tells
returns-clause-tells g c = c.serve_command.ensures.served.gives.tells

pub returns-clause-marks : goal.returns-clause-marks
returns-clause-marks g c = c.serve_command.ensures.marks.row

pub returns-clause-unmarked : goal.returns-clause-unmarked
returns-clause-unmarked g c = c.serve_command.ensures.marks.refused
