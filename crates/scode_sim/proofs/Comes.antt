-- The machine comes from one point to another.
use Rattle.std.proofs.Common.{◌≡◌, ℕ, zero, suc, ◌+◌, sym, ap, ◌∙◌, subst, arith, zero-add}
use Rattle.scode_code.specs.Fields.{Setting}
use Rattle.scode_code.specs.Machine.{Point}
use Rattle.scode_code.specs.Steps.{step, steps}

-- after so many steps it is at a point that has Q
pub record Comes (w : Setting) (p : Point) (Q : Point → Type 0) : Type 0 where
  pub count : ℕ
  pub holds : Q (steps w count p)

pub here : {w : Setting} {p : Point} {Q : Point → Type 0} → Q p → Comes w p Q
unfolding steps
here q = record { count = 0; holds = q }

pub one_more : {w : Setting} {p : Point} {Q : Point → Type 0} → Comes w (step w p) Q → Comes w p Q
unfolding steps
one_more c = record { count = suc c.count; holds = c.holds }

pub steps-add : (w : Setting) (m n : ℕ) (p : Point) → steps w (m + n) p ≡ steps w n (steps w m p)
unfolding steps
steps-add w zero n p = ap (λ k. steps w k p) (zero-add n)
steps-add w (suc m) n p =
    let e : suc m + n ≡ suc (m + n) = omega arith in ap (λ k. steps w k p) e ∙ steps-add w m n (step w p)

pub go_on : {w : Setting} {p : Point} {Q R : Point → Type 0} → Comes w p Q → ((q : Point) → Q q → Comes w q R) → Comes w p R
go_on {w} {p} {Q} {R} c next =
    let d = next (steps w c.count p) c.holds in
    record { count = c.count + d.count; holds = subst R (sym (steps-add w c.count d.count p)) d.holds }
