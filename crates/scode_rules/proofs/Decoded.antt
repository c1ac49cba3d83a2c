-- The instruction that is decoded is the one that is found.
use Rattle.std.proofs.Common.{◌≡◌, ℕ, List, refl, sym, Option, Some, None, IfSome, IfNone}
use Rattle.std.specs.Option.{option_map}
use Rattle.scode_ops.specs.declared.op.Op.{Op}
use Rattle.scode_ops.specs.Codes.{StandsAt}
use Rattle.scode_ops.specs.Decoding.{op_at}

none_of : (o : Option Op) → ((op : Op) → o ≡ Some op → ⊥) → None ≡ o
none_of None never = refl
none_of (Some op) never = absurd (never op refl)

pub decoded : (code : List ℕ) (at : ℕ) (behind : Op → ℕ) (o : Option (Op × ℕ))
    → ((op : Op) → StandsAt code at op → op_at code at ≡ Some op)
    → ((op : Op) → op_at code at ≡ Some op → StandsAt code at op)
    → IfSome o (λ r. StandsAt code at r.0 × (r.1 ≡ behind r.0)) → IfNone o ((op : Op) → StandsAt code at op → ⊥)
    → option_map (λ r. r.0) o ≡ op_at code at
decoded code at behind (Some r) found stands some none = sym (found r.0 some.0)
decoded code at behind None found stands some none = none_of (op_at code at) (λ op is. none op (stands op is))
