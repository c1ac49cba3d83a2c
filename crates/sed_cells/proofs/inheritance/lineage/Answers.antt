use Rattle.std.proofs.Common.{◌≡◌, ◌∙◌, ℕ, zero, suc, ◌+◌, ◌-◌, List, [], ◌∷◌, ◌++◌, length, Option, None, refl, sym, ap, arith, append_assoc}
use Rattle.std.proofs.lemmas.List.{append-nil}
use Rattle.sed_typed.specs.Classes.{base_of, reached}
use Rattle.sed_cells.proofs.inheritance.lineage.Goals as goal

ended : (next : ℕ → Option ℕ) (steps : ℕ) → reached next steps None ≡ []
ended next zero = refl
ended next (suc steps) = refl

pub returns-in_default : goal.returns-in_default
returns-in_default c =
    let next = base_of c.args.classes.now in
    let left : ℕ = length c.args.classes.now - c.loop-step._step in
    sym (append-nil c.loop-step.line.items)
    ∙ ap (λ (xs : List ℕ). c.loop-step.line.items ++ xs) (sym (ended next left))
    ∙ ap (λ (at : Option ℕ). c.loop-step.line.items ++ reached next left at) (sym c.in_default.is)
    ∙ c.loop-step.invariant

pub loop-step-preserved : goal.loop-step-preserved
loop-step-preserved c =
    let next = base_of c.args.classes.now in
    let rest : ℕ = length c.args.classes.now - (c.loop-step._step + 1) in
    let left : length c.args.classes.now - c.loop-step._step ≡ suc rest = omega arith in
    let line = c.loop-step.line.items in
    let x = c.in-Some.class in
    ap (λ (at : Option ℕ). c.push.new.self.items ++ reached next rest at) c.base_of-at.ensures
    ∙ ap (λ (xs : List ℕ). xs ++ reached next rest (next x)) c.in_ok-push.ensures.items
    ∙ append_assoc line (x ∷ []) (reached next rest (next x))
    ∙ ap (λ (at : Option ℕ). line ++ reached next (suc rest) at) (sym c.in-Some.is)
    ∙ ap (λ (n : ℕ). line ++ reached next n c.loop-step.at) (sym left)
    ∙ c.loop-step.invariant
