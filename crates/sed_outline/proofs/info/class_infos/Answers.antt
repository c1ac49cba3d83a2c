use Rattle.std.proofs.Common.{◌<◌, ◌++◌, length, get_or, ap, ◌∙◌, arith}
use Rattle.std.specs.Option.{option_map, option_to_list}
use Rattle.std.proofs.lemmas.Option.{get_or_from_slice_get, slice_get-get_or}
use Rattle.sed_classes.specs.Declarations.{class_at}
use Rattle.sed_classes.specs.Schema.{class_info}
use Rattle.sed_outline.proofs.Infos.{found_step}
use Rattle.sed_outline.proofs.info.class_infos.Goals as goal

pub loop-number-preserved : goal.loop-number-preserved
loop-number-preserved c =
    let units = c.args.measured.now in
    let order = c.args.order.now in
    let number = c.loop-number.number in
    let class = get_or order number 0 in
    let h : number < length order = omega arith in
    found_step
    (λ k. option_map (class_info units k) (class_at units k))
    number
    order
    class
    c.loop-number.all.items
    c.push_found.new.into.items
    h
    (get_or_from_slice_get order number class class (slice_get-get_or order number 0 h))
    (c.in_ok-push_found.ensures ∙ ap (λ o. c.loop-number.all.items ++ option_to_list o) c.in_ok-found.ensures)
    c.loop-number.invariant
