use Rattle.std.proofs.Common.{is_some}
use Rattle.sed_first_fault.proofs.Characters.{loop_step, turned}
use Rattle.sed_first_fault.proofs.texts.characters.Goals as goal

pub loop-byte-preserved : goal.loop-byte-preserved
loop-byte-preserved c =
    loop_step
    c.loop-byte.text.items
    c.loop-byte.slashed
    c.args.bytes.now
    c.loop-byte.byte-index
    c.character-found.result
    c.is_none-slashed.result
    c.push_found.new.text.items
    _
    c.loop-byte-test.true
    c.character-found.ensures
    (turned (is_some c.character-found.result) c.is_none-slashed.result c.is_none-slashed.ensures)
    (c.push_found.ensures.pushed c.if-not-push_found.false)
    c.loop-byte.invariant
