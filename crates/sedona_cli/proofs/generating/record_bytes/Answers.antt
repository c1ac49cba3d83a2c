use Rattle.std.proofs.Common.{ℕ, List, subst}
use Rattle.sed_engine.specs.Code.{Meaning}
use Rattle.scode_engine.specs.contracts.machine.MachineEngine.TheImpl as machine
use Rattle.record_making.specs.Spec.{IsRecordOf}
use Rattle.sedona_cli.proofs.generating.record_bytes.Goals as goal

pub returns-in-Ok-generated-clause-made : goal.returns-in-Ok-generated-clause-made
returns-in-Ok-generated-clause-made c =
    subst (λ (m : Meaning). IsRecordOf m c.args.inputs.users c.args.user.now c.args.inputs.secret c.args.numbers.now c.in-Ok-generated.bytes) c.in-Ok.ensures.meaning
    (subst (λ (name : List ℕ). IsRecordOf (machine.ghosts.meaning c.in-Ok.engine) c.args.inputs.users name c.args.inputs.secret c.args.numbers.now c.in-Ok-generated.bytes) c.as_bytes.ensures.value c.in-Ok-generated.ensures.made)
