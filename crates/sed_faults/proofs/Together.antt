-- What two parts come to together.
use Rattle.std.proofs.Common.{◌≡◌, List, ◌++◌, Option, sym, ap, ◌∙◌}
use Rattle.sed_faults.specs.declared.fault.Fault.{Fault}
use Rattle.sed_faults.specs.Faults.{lesser, least}
use Rattle.sed_faults.proofs.Least.{least_together}

pub joined_least : (a b r : Option Fault) → r ≡ lesser a b → (xs ys : List Fault) → a ≡ least xs → b ≡ least ys → r ≡ least (xs ++ ys)
joined_least a b r e xs ys p q = e ∙ ap (λ z. lesser z b) p ∙ ap (lesser (least xs)) q ∙ sym (least_together xs ys)
