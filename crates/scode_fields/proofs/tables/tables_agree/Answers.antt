use Rattle.std.proofs.Common.{List, sym, ◌∙◌, subst, Option}
use Rattle.std.specs.Option.{option_map}
use Rattle.scode_fields.specs.Walking.{IsOrder, IsOrderOf}
use Rattle.scode_fields.proofs.Staged.{agree_at_last, known_bases}
use Rattle.scode_fields.proofs.tables.tables_agree.Goals as goal

pub order_of-requires : goal.order_of-requires
order_of-requires c = known_bases c.args.image.now (sym c.in_ok-is_laid.ensures ∙ c.if-not-branch.false)

pub returns-in-Some : goal.returns-in-Some
returns-in-Some c =
    let image = c.args.image.now in
    agree_at_last image c.as_slice.result.now c.first_bytes_fit.result (sym c.in_ok-is_laid.ensures
    ∙ c.if-not-branch.false)
    (subst (λ (o : List _). IsOrder image o) (sym c.as_slice.ensures.value)
    (subst (λ (o : Option _). IsOrderOf image (option_map (λ v. v.items) o)) c.in-Some.is c.in_ok-order.ensures))
    c.first_bytes_fit.ensures
