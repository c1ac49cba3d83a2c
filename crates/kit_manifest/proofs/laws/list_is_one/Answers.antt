use Rattle.std.proofs.Common.{length}
use Rattle.kit_manifest.specs.Order.{DependsOn}
use Rattle.kit_manifest.proofs.Orders.{IsOrder-one}
use Rattle.kit_manifest.proofs.One.{one_list_refusal, order_or_refusal}
use Rattle.kit_manifest.proofs.laws.list_is_one.Goals as goal

pub returns-clause-order : goal.returns-clause-order
returns-clause-order c = λ kits a b is also. IsOrder-one (length kits) (DependsOn kits) a b is.order also.order

pub returns-clause-refusal : goal.returns-clause-refusal
returns-clause-refusal c = λ kits a b m n x y. one_list_refusal kits a b m n x y

pub returns-clause-not_both : goal.returns-clause-not_both
returns-clause-not_both c = λ kits a b m is no. order_or_refusal kits a b m is no
