use Rattle.std.proofs.Common.{◌≡◌, ◌∙◌, Bool, true, false, refl, sym, arith}
use Rattle.app_reader.proofs.Linking.{in_order, neighbours, order_more, order_none}
use Rattle.app_reader.proofs.links.are_in_order.Goals as goal

pub loop-place-init : goal.loop-place-init
loop-place-init c = order_none c.args.links.now

pub returns-then-not-is_before : goal.returns-then-not-is_before
returns-then-not-is_before c = (
  λ never. absurd (let no : false ≡ true = never in cc),
  λ order. absurd
      (let yes = neighbours c.args.links.now c.loop-place.place c.link_at-last.result c.link_at-next.result (omega arith) c.link_at-last.ensures c.link_at-next.ensures order in
      let no : ◌≡◌ {A = Bool} true false = sym yes ∙ sym c.is_before.ensures ∙ c.if-not-is_before.true in cc),
)

pub loop-place-preserved : goal.loop-place-preserved
loop-place-preserved c =
    order_more c.args.links.now c.loop-place.place c.link_at-last.result c.link_at-next.result (omega arith) c.link_at-last.ensures c.link_at-next.ensures
    (sym c.is_before.ensures ∙ c.if-not-is_before.false) c.loop-place.invariant

pub returns : goal.returns
returns c = (λ _. in_order c.args.links.now c.loop-place.place (omega arith) c.loop-place.invariant, λ _. refl)
