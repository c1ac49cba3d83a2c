-- What is said of something that may be there, said on.
use Rattle.std.proofs.Common.{◌≡◌, refl}
use Rattle.std.specs.Prelude.{Option, Some, None, IfSome, IsSomeAnd}

-- what holds of each thing that may be there
pub if_some : {A : Type 0} (r : Option A) (P : A → Type 0) → ((x : A) → r ≡ Some x → P x) → IfSome r P
if_some None P each = tt
if_some (Some x) P each = each x refl

pub and_more : {A : Type 0} {P Q : A → Type 0} (r : Option A) → IsSomeAnd r P → ((x : A) → P x → Q x) → IsSomeAnd r Q
and_more None never more = never
and_more (Some x) h more = more x h
