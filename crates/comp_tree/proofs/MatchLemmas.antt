-- What is said of a result, said on.
use Rattle.std.proofs.Common.{◌≡◌, refl, ap}
use Rattle.std.specs.Prelude.{Option, Some, None, IfSome, IsSomeAnd, Result, Ok, Err, MatchResult}

pub match_more : {T E : Type 0} {P P' : T → Type 0} {Q Q' : E → Type 0} (r : Result T E) → MatchResult r P Q → ((x : T) → P x → P' x) → ((e : E) → Q e → Q' e) → MatchResult r P' Q'
match_more (Ok x) h p q = p x h
match_more (Err e) h p q = q e h

-- what holds of each thing that may be there
pub if_some : {A : Type 0} (r : Option A) (P : A → Type 0) → ((x : A) → r ≡ Some x → P x) → IfSome r P
if_some None P each = tt
if_some (Some x) P each = each x refl

pub and_more : {A : Type 0} {P Q : A → Type 0} (r : Option A) → IsSomeAnd r P → ((x : A) → P x → Q x) → IsSomeAnd r Q
and_more None never more = never
and_more (Some x) h more = more x h

-- the same error beside another type of value
pub err_other : {A B E : Type 0} (e f : E) → ◌≡◌ {A = Result A E} (Err e) (Err f) → ◌≡◌ {A = Result B E} (Err e) (Err f)
err_other e f is = ap Err (let same : e ≡ f = cc in same)
