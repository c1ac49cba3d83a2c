use Rattle.std.proofs.Common.{◌∷◌, [], Err, ap, subst}
use Rattle.sed_value.specs.declared.refusal.Refusal.TheVariants.{BadValue, BufferTooLong}
use Rattle.sed_wire.specs.Faults.{StandsAfter}
use Rattle.node_table.specs.Read.{AreTaken, IsRefusedValue}
use Rattle.node_table.proofs.ReadLemmas.{goes_there, long_is_refused, more_is_bad, one_is}
use Rattle.node_table.proofs.values.one_value.Goals as goal

pub returns-then-is_empty-clause-taken : goal.returns-then-is_empty-clause-taken
returns-then-is_empty-clause-taken c =
    subst (λ bytes. AreTaken (c.args.slot ∷ []) bytes (c.in-Ok.value ∷ [])) c.new-reader.ensures
    (one_is c.args.slot c.new-reader.result c.value.new.self c.in-Ok.value c.in-Ok.ensures.found (c.is_empty.ensures.0 c.if-is_empty.true))

pub returns-else-is_empty-clause-taken : goal.returns-else-is_empty-clause-taken
returns-else-is_empty-clause-taken c =
    subst (λ bytes. IsRefusedValue (c.args.slot ∷ []) bytes BadValue) c.new-reader.ensures
    (more_is_bad c.args.slot c.new-reader.result c.value.new.self c.in-Ok.value c.in-Ok.ensures.found (λ e. let t = c.is_empty.ensures.1 e in let f = c.if-is_empty.false in cc))

pub returns-then-is_empty-2-clause-taken : goal.returns-then-is_empty-2-clause-taken
returns-then-is_empty-2-clause-taken c =
    subst (λ bytes. IsRefusedValue (c.args.slot ∷ []) bytes BufferTooLong) c.new-reader.ensures
    (long_is_refused c.args.slot c.new-reader.result c.value.new.self (c.in-Err-TooLong.ensures.too_long.0 (ap Err c.in-Err-TooLong.field-0-is))
    (subst (λ fault. StandsAfter fault c.args.slot c.new-reader.result c.value.new.self) c.in-Err-TooLong.field-0-is c.in-Err-TooLong.ensures.stands) (c.is_empty-in-Err-TooLong.ensures.0 c.if-is_empty-2.true))

pub returns-then-is_empty-clause-goes : goal.returns-then-is_empty-clause-goes
returns-then-is_empty-clause-goes c = goes_there c.args.slot c.in-Ok.value c.in-Ok.ensures.found.spelled.of_type
