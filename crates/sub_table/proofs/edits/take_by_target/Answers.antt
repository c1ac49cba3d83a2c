use Rattle.std.proofs.Common.{◌≡◌, ◌<◌, true, not, length, take, drop, filter, arith, sym, subst, ◌∙◌}
use Rattle.std.specs.List.{list_any}
use Rattle.sub_table.specs.Links.{is_before, is_same_link}
use Rattle.sub_table.proofs.OrderLemmas.{by_target, is_within, remove_is}
use Rattle.sub_table.proofs.edits.take_by_target.Goals as goal

pub remove-taken-requires : goal.remove-taken-requires
remove-taken-requires c =
    let there : list_any (is_same_link c.args.l) c.deref.result.now ≡ true = subst (λ ks. list_any (is_same_link c.args.l) ks ≡ true) (sym c.deref.ensures.value) c.requires.there in
    let within : c.place_by_target-place.result < length c.deref.result.now = is_within is_before by_target c.args.l c.deref.result.now c.place_by_target-place.result there c.place_by_target-place.ensures.after in
    omega (arith, c.deref.ensures.len)

pub returns-clause-items : goal.returns-clause-items
returns-clause-items c =
    let place = c.place_by_target-place.result in
    c.remove-taken.ensures.items
    ∙ remove_is is_before by_target c.args.l c.args.links.now.items place c.requires.order c.requires.there
    (subst (λ ks. take place ks ≡ filter (λ k. is_before k c.args.l) ks) c.deref.ensures.value c.place_by_target-place.ensures.before)
    (subst (λ ks. drop place ks ≡ filter (λ k. not (is_before k c.args.l)) ks) c.deref.ensures.value c.place_by_target-place.ensures.after)
