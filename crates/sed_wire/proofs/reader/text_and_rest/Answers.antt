use Rattle.std.proofs.Common.{◌∙◌, sym, rules}
use Rattle.sed_wire.proofs.TextLemmas.{parted-above, parted-text, position-none}
use Rattle.sed_wire.proofs.reader.text_and_rest.Goals as goal

pub returns-in_default : goal.returns-in_default
returns-in_default c = position-none c.args.bytes.now (search rules)

pub returns-then-has_byte_above_127 : goal.returns-then-has_byte_above_127
returns-then-has_byte_above_127 c =
    parted-above c.args.bytes.now _ c.in-Some.end (search rules) c.split_at.ensures.front
    (sym c.has_byte_above_127.ensures ∙ c.if-has_byte_above_127.true)

pub returns : goal.returns
returns c =
    parted-text c.args.bytes.now _ _ c.in-Some.end (search rules) c.split_at.ensures.front c.split_at.ensures.back
    (sym c.has_byte_above_127.ensures ∙ c.if-has_byte_above_127.false)
