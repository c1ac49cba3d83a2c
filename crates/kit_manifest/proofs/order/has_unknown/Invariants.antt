use Rattle.std.proofs.Common.{ℕ, List, take}
use Rattle.std.specs.Prelude.{Contains}
use Rattle.kit_manifest.specs.Order.{IsUnknown}
use Rattle.kit_manifest.proofs.order.has_unknown.Given as goal

abbrev pub invariant-loop-name : goal.invariant-loop-name
invariant-loop-name l = (name : List ℕ) → Contains (take l.name-index l.name-items) name → IsUnknown l.list name → ⊥
