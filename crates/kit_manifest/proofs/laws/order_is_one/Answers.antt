use Rattle.std.proofs.Common.{length}
use Rattle.kit_manifest.specs.Order.{DependsOn}
use Rattle.kit_manifest.proofs.Orders.{IsOrder-one}
use Rattle.kit_manifest.proofs.laws.order_is_one.Goals as goal

pub returns : goal.returns
returns c = λ kits order other is also. IsOrder-one (length kits) (DependsOn kits) order other is also
