use Rattle.std.proofs.Common.{ℕ, List, Ok, Err, subst}
use Rattle.link_prop.specs.Linked.{application_of}
use Rattle.scode_code.specs.Image.{meaning_of}
use Rattle.scode_engine.specs.contracts.machine.MachineEngine.TheImpl as machine
use Rattle.sedona_cli.specs.Store.{IsRead}
use Rattle.sedona_cli.proofs.nodes.app_in.Goals as goal

pub returns-in-Ok-clause-read : goal.returns-in-Ok-clause-read
returns-in-Ok-clause-read c =
    subst (λ (p : List ℕ). IsRead (meaning_of c.args.code) c.args.limit p (Ok (application_of machine.ghosts c.in-Ok.app))) c.as_slice.ensures c.in-Ok.ensures.read

pub returns-clause-refused : goal.returns-clause-refused
returns-clause-refused c = λ certain.
    subst (λ (p : List ℕ). IsRead (meaning_of c.args.code) c.args.limit p (Err c.in-Err.refusal)) c.as_slice.ensures (c.in-Err.ensures.refused certain)
