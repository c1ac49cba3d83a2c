-- The walk, one instruction after the other.
use Rattle.std.proofs.Common.{◌≡◌, ℕ, suc, ◌+◌, ◌-◌, ◌<◌, ◌≤◌, nat_lt, cond, Bool, length, ap, ◌∙◌, arith, Option, Some, None}
use Rattle.std.proofs.lemmas.Bool.{lt-ltb}
use Rattle.scode_ops.specs.declared.op.Op.{Op}
use Rattle.scode_ops.specs.Decoding.{op_at, size_of}
use Rattle.scode_image.specs.declared.image.Image.{Image}
use Rattle.scode_image.specs.declared.image.ImageMethod.{ImageMethod}
use Rattle.scode_code.specs.CodeRules.{broken_at, entry_between, entry_from, fault_from, fault_on, fault_or, stray_or}
use Rattle.scode_code.specs.Kinds.{Shape}
use Rattle.scode_verify.specs.Words.{last_fault, left_at}

round_is : (image : Image) (m : ImageMethod) (k place : ℕ) (arrived : Option Shape) (i : Op) → place < length m.code
    → op_at m.code place ≡ Some i
    → fault_from (suc k) image m place arrived
    ≡ fault_or place (broken_at image m place arrived i)
    (stray_or (entry_between m.entries place (place + size_of i))
    (fault_from k image m (place + size_of i) (left_at image m place arrived i)))
round_is image m k place arrived i within is =
    ap (λ (b : Bool). cond b (fault_on (λ next left. fault_from k image m next left) image m place arrived (op_at m.code place))
    (stray_or (entry_from m.entries place) None)) (lt-ltb place (length m.code) within)
    ∙ ap (λ (o : Option Op). fault_on (λ next left. fault_from k image m next left) image m place arrived o) is

-- no instruction stands there
pub no_more : (image : Image) (m : ImageMethod) (n k place : ℕ) (arrived : Option Shape) → k < n
    → op_at m.code place ≡ None → fault_from (n - k) image m place arrived ≡ last_fault m place
no_more image m n k place arrived more is =
    let step : n - k ≡ suc (n - (k + 1)) = omega arith in
    ap (λ (left : ℕ). fault_from left image m place arrived) step
    ∙ ap (λ (o : Option Op). cond (nat_lt place (length m.code))
    (fault_on (λ next left. fault_from (n - (k + 1)) image m next left) image m place arrived o)
    (stray_or (entry_from m.entries place) None)) is

-- a rule is broken there
pub broken_there : (image : Image) (m : ImageMethod) (n k place rule : ℕ) (arrived : Option Shape) (i : Op) → k < n
    → place < length m.code → op_at m.code place ≡ Some i → broken_at image m place arrived i ≡ Some rule
    → fault_from (n - k) image m place arrived ≡ Some (place, rule)
broken_there image m n k place rule arrived i more within is broken =
    let step : n - k ≡ suc (n - (k + 1)) = omega arith in
    ap (λ (left : ℕ). fault_from left image m place arrived) step
    ∙ round_is image m (n - (k + 1)) place arrived i within is
    ∙ ap (λ (o : Option ℕ). fault_or place o (stray_or (entry_between m.entries place (place + size_of i))
    (fault_from (n - (k + 1)) image m (place + size_of i) (left_at image m place arrived i)))) broken

-- an entry stands within the instruction
pub strayed_there : (image : Image) (m : ImageMethod) (n k place at : ℕ) (arrived : Option Shape) (i : Op) → k < n
    → place < length m.code → op_at m.code place ≡ Some i → broken_at image m place arrived i ≡ None
    → entry_between m.entries place (place + size_of i) ≡ Some at
    → fault_from (n - k) image m place arrived ≡ Some (at, 9)
strayed_there image m n k place at arrived i more within is fine stray =
    let step : n - k ≡ suc (n - (k + 1)) = omega arith in
    let later = fault_from (n - (k + 1)) image m (place + size_of i) (left_at image m place arrived i) in
    ap (λ (left : ℕ). fault_from left image m place arrived) step
    ∙ round_is image m (n - (k + 1)) place arrived i within is
    ∙ ap (λ (o : Option ℕ). fault_or place o (stray_or (entry_between m.entries place (place + size_of i)) later)) fine
    ∙ ap (λ (o : Option ℕ). stray_or o later) stray

-- nothing is broken there
pub goes_on : (image : Image) (m : ImageMethod) (n k place : ℕ) (arrived : Option Shape) (i : Op) → k < n
    → place < length m.code → op_at m.code place ≡ Some i → broken_at image m place arrived i ≡ None
    → entry_between m.entries place (place + size_of i) ≡ None
    → fault_from (n - k) image m place arrived
    ≡ fault_from (n - (k + 1)) image m (place + size_of i) (left_at image m place arrived i)
goes_on image m n k place arrived i more within is fine none =
    let step : n - k ≡ suc (n - (k + 1)) = omega arith in
    let later = fault_from (n - (k + 1)) image m (place + size_of i) (left_at image m place arrived i) in
    ap (λ (left : ℕ). fault_from left image m place arrived) step
    ∙ round_is image m (n - (k + 1)) place arrived i within is
    ∙ ap (λ (o : Option ℕ). fault_or place o (stray_or (entry_between m.entries place (place + size_of i)) later)) fine
    ∙ ap (λ (o : Option ℕ). stray_or o later) none

pub all_gone : (image : Image) (m : ImageMethod) (n k place : ℕ) (arrived : Option Shape) → n ≤ k
    → fault_from (n - k) image m place arrived ≡ None
all_gone image m n k place arrived past =
    let none : n - k ≡ 0 = omega arith in
    ap (λ (left : ℕ). fault_from left image m place arrived) none
