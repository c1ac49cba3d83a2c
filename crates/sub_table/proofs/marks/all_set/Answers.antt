use Rattle.std.proofs.Common.{ℕ, ◌≡◌, ◌≤◌, ◌++◌, ◌∷◌, Bool, true, List, [], ◌∙◌, ap, subst, arith, replicate}
use Rattle.std.proofs.lemmas.List.{replicate_more}
use Rattle.sub_table.proofs.marks.all_set.Goals as goal

pub loop-id-init : goal.loop-id-init
loop-id-init c = c.in_ok-rows.ensures.items

pub loop-id-preserved : goal.loop-id-preserved
loop-id-preserved c =
    c.in_ok-push.ensures.items ∙ ap (λ (rows : List (List Bool)). rows ++ replicate 16 true ∷ []) c.loop-id.invariant
    ∙ replicate_more c.loop-id._id (replicate 16 true)

pub returns : goal.returns
returns c = subst (λ (n : ℕ). c.loop-id.rows.items ≡ replicate n (replicate 16 true)) (all c.loop-id-test.false c.loop-id.auto._id-end) c.loop-id.invariant
  where
    all : {n : ℕ} → 4096 ≤ n → n ≤ 4096 → n ≡ 4096
    all p q = omega arith
