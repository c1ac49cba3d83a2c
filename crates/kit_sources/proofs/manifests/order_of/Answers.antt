use Rattle.std.proofs.Common.{◌<◌, ap, subst, length, Err}
use Rattle.kit_sources.proofs.Loops.{all_within}
use Rattle.kit_sources.proofs.manifests.order_of.Goals as goal

pub refused_at-requires : goal.refused_at-requires
refused_at-requires c =
    subst (λ n. c.in-Err-UnknownKit.at < n) c.requires ((c.in-Err-UnknownKit.ensures.unknown_kit c.in-Err-UnknownKit.at).only (ap Err c.in-Err-UnknownKit.field-0-is)).within

pub refused_at-requires-in-Err-Cycle : goal.refused_at-requires-in-Err-Cycle
refused_at-requires-in-Err-Cycle c =
    subst (λ n. c.in-Err-Cycle.at < n) c.requires ((c.in-Err-Cycle.ensures.cycle c.in-Err-Cycle.at).only (ap Err c.in-Err-Cycle.field-0-is)).first.within

pub refused_at-requires-in-Err-RepeatedKit : goal.refused_at-requires-in-Err-RepeatedKit
refused_at-requires-in-Err-RepeatedKit c =
    subst (λ n. c.in-Err-RepeatedKit.at < n) c.requires ((c.in-Err-RepeatedKit.ensures.repeated_kit c.in-Err-RepeatedKit.at).only (ap Err c.in-Err-RepeatedKit.field-0-is)).first.within

pub returns-in-Ok-clause-within : goal.returns-in-Ok-clause-within
returns-in-Ok-clause-within c = all_within (length c.args.manifests.now) c.in-Ok.order.items c.new.result c.new.ensures c.in-Ok.ensures.permutation.within
