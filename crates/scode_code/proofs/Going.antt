-- Steps of the machine, one after the other.
use Rattle.std.proofs.Common.{◌≡◌, ℕ, zero, suc, ◌+◌, refl, sym, ◌∙◌, ap, arith}
use Rattle.sed_engine.specs.Expressions.{Called}
use Rattle.scode_code.specs.Fields.{Setting}
use Rattle.scode_code.specs.Machine.{Point, Over}
use Rattle.scode_code.specs.Steps.{step, steps}

pub steps-add : (w : Setting) (n m : ℕ) (p : Point) → steps w (n + m) p ≡ steps w m (steps w n p)
unfolding steps
steps-add w zero m p = let none : 0 + m ≡ m = omega arith in ap (λ (k : ℕ). steps w k p) none
steps-add w (suc n) m p =
    let one : suc n + m ≡ suc (n + m) = omega arith in
    ap (λ (k : ℕ). steps w k p) one ∙ steps-add w n m (step w p)

pub steps-over : (w : Setting) (n : ℕ) (c : Called) → steps w n (Over c) ≡ Over c
unfolding steps
steps-over w zero c = refl
steps-over w (suc n) c = steps-over w n c

over_eq : (c d : Called) → Over c ≡ Over d → c ≡ d
over_eq c d e = cc

-- with more steps it is over in the same way
over-later : (w : Setting) (n k : ℕ) (p : Point) (c : Called) → steps w n p ≡ Over c → steps w (n + k) p ≡ Over c
over-later w n k p c e = steps-add w n k p ∙ ap (λ (q : Point). steps w k q) e ∙ steps-over w k c

pub ends_once : (w : Setting) (n m : ℕ) (p : Point) (c d : Called) → steps w n p ≡ Over c → steps w m p ≡ Over d → c ≡ d
ends_once w n m p c d e f =
    let swapped : n + m ≡ m + n = omega arith in
    over_eq c d (sym (over-later w n m p c e) ∙ ap (λ (k : ℕ). steps w k p) swapped ∙ over-later w m n p d f)
