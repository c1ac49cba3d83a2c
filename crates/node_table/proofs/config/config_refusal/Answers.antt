use Rattle.std.proofs.Common.{false, sym, ap, ◌∙◌}
use Rattle.sed_typed.specs.Classes.{slots}
use Rattle.node_table.specs.Read.{refusal_after, refusal_of_values, types_in}
use Rattle.node_table.proofs.ConfigLemmas.{types_are_config}
use Rattle.node_table.proofs.SchemaLemmas.{can_hold}
use Rattle.node_table.proofs.config.config_refusal.Goals as goal

pub pass_slots-requires : goal.pass_slots-requires
pass_slots-requires c = can_hold c.args.schema.now c.requires c.args.kind.0

pub returns : goal.returns
returns c m same =
    c.pass_slots.ensures ∙ ap (λ s. refusal_after false (types_in (slots s.classes c.args.kind.0)) c.args.bytes.now) (sym same)
    ∙ ap (λ types. refusal_of_values types c.args.bytes.now) (sym (types_are_config m c.args.kind.0))
