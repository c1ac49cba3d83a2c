use Rattle.kit_manifest.proofs.Refusals.{answer-order, answer-permutation, answer-behind, answer-orderly, comes_unless, unknown_where, cycle_where, repeated_where}
use Rattle.kit_manifest.proofs.order.order_kits.Goals as goal

pub returns-clause-order : goal.returns-clause-order
returns-clause-order c = answer-order c.args.list.now c.order_or_refusal.result c.order_or_refusal.ensures

pub returns-clause-permutation : goal.returns-clause-permutation
returns-clause-permutation c = answer-permutation c.args.list.now c.order_or_refusal.result c.order_or_refusal.ensures

pub returns-clause-behind : goal.returns-clause-behind
returns-clause-behind c = answer-behind c.args.list.now c.order_or_refusal.result c.order_or_refusal.ensures

pub returns-clause-orderly : goal.returns-clause-orderly
returns-clause-orderly c = answer-orderly c.args.list.now c.order_or_refusal.result c.order_or_refusal.ensures

pub returns-clause-comes : goal.returns-clause-comes
returns-clause-comes c = comes_unless c.args.list.now c.order_or_refusal.result c.order_or_refusal.ensures

pub returns-clause-unknown_kit : goal.returns-clause-unknown_kit
returns-clause-unknown_kit c = unknown_where c.args.list.now c.order_or_refusal.result c.order_or_refusal.ensures

pub returns-clause-cycle : goal.returns-clause-cycle
returns-clause-cycle c = cycle_where c.args.list.now c.order_or_refusal.result c.order_or_refusal.ensures

pub returns-clause-repeated_kit : goal.returns-clause-repeated_kit
returns-clause-repeated_kit c = repeated_where c.args.list.now c.order_or_refusal.result c.order_or_refusal.ensures
