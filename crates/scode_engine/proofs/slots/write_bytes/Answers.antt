use Rattle.std.proofs.Common.{ℕ, List, length, sym, subst, arith}
use Rattle.sed_value.specs.declared.slot_type.SlotType.TheVariants as slot
use Rattle.sed_value.specs.declared.value.Value.{Value}
use Rattle.sed_value.specs.declared.value.Value.TheVariants as kept
use Rattle.sed_value.specs.Value.{stored}
use Rattle.sed_engine.specs.Values.{Component}
use Rattle.scode_state.specs.Stands.{IsStored}
use Rattle.scode_engine.proofs.Fields.{bytes_within, has_front}
use Rattle.scode_engine.proofs.slots.write_bytes.Goals as goal

pub write_buf-requires-clause-few : goal.write_buf-requires-clause-few
write_buf-requires-clause-few c =
    let few =
    bytes_within c.args.v.now c.in-Buf.bytes c.as_bytes.result.now c.args.most c.in-Buf.is c.as_bytes.ensures.same c.requires.goes in
    let most = c.requires.few in
    omega (arith, few, most)

pub write_buf-requires-clause-there : goal.write_buf-requires-clause-there
write_buf-requires-clause-there c =
    has_front c.args.pool.now c.args.b c.args.at (length c.as_bytes.result.now) c.args.most (bytes_within c.args.v.now c.in-Buf.bytes c.as_bytes.result.now c.args.most c.in-Buf.is c.as_bytes.ensures.same c.requires.goes) c.requires.there

pub write_buf-requires-clause-reach : goal.write_buf-requires-clause-reach
write_buf-requires-clause-reach c =
    let few =
    bytes_within c.args.v.now c.in-Buf.bytes c.as_bytes.result.now c.args.most c.in-Buf.is c.as_bytes.ensures.same c.requires.goes in
    let reach = c.requires.reach in
    omega (arith, few, reach)

pub returns-in-Buf : goal.returns-in-Buf
returns-in-Buf c = λ image class path at.
    subst (λ (u : Value). IsStored image class Component path c.args.pool.now c.write_buf.new.pool c.args.b
    (stored (slot.Buf c.args.most) u)) (sym c.in-Buf.is)
    (subst (λ (l : List ℕ). IsStored image class Component path c.args.pool.now c.write_buf.new.pool c.args.b
    (kept.Buf l)) c.as_bytes.ensures.same
    (c.write_buf.ensures.path image class Component path c.args.most (bytes_within c.args.v.now c.in-Buf.bytes c.as_bytes.result.now c.args.most c.in-Buf.is c.as_bytes.ensures.same c.requires.goes) at))
