use Rattle.std.proofs.Common.{sym, ◌∙◌}
use Rattle.dasp_msg.proofs.ShownLemmas.{shown_bare}
use Rattle.dasp_msg.proofs.message.Msg.bare.Goals as goal

pub returns : goal.returns
returns c = c.without_fields.ensures ∙ sym (shown_bare c.args.header.now)
