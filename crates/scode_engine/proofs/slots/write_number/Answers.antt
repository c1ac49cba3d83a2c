use Rattle.std.proofs.Common.{subst}
use Rattle.sed_value.specs.declared.value.Value.{Value}
use Rattle.sed_engine.specs.Values.{Component}
use Rattle.scode_state.specs.Stands.{IsStored}
use Rattle.scode_engine.proofs.slots.write_number.Goals as goal

pub write_value-requires-clause-kind : goal.write_value-requires-clause-kind
write_value-requires-clause-kind c = c.kept_number-kept.ensures.of_type

pub returns : goal.returns
returns c = λ image class path at.
    subst (λ (u : Value). IsStored image class Component path c.args.pool.now c.write_value.new.pool c.args.b u)
    c.kept_number-kept.ensures.kept (c.write_value.ensures.path image class Component path at)
