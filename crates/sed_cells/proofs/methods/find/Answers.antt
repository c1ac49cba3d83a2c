use Rattle.std.proofs.Common.{◌≡◌, ◌∙◌, ◌+◌, ◌-◌, ℕ, suc, List, Option, None, length, sym, ap, arith}
use Rattle.sed_typed.specs.declared.program.Method.{Method}
use Rattle.sed_typed.specs.Classes.{base_of, reached, first_found, declared_method}
use Rattle.sed_cells.proofs.Nearest.{found-later}
use Rattle.sed_cells.proofs.methods.find.Goals as goal

pub loop-step-preserved : goal.loop-step-preserved
loop-step-preserved c =
    let classes = c.as_slice-classes.result.now in
    let next = base_of classes in
    let look = declared_method c.args.program.now.methods c.args.name.now in
    let rest : ℕ = length classes - (c.loop-step._step + 1) in
    let left : length classes - c.loop-step._step ≡ suc rest = omega arith in
    let x = c.in-Some.class in
    let none : look x ≡ None = ap (λ (ms : List Method). declared_method ms c.args.name.now x) (sym c.as_slice.ensures) ∙ sym c.declared.ensures ∙ c.in_default-declared.is in
    ap (λ (at : Option ℕ). first_found look (reached next rest at)) c.base_of-at.ensures
    ∙ sym (found-later look x (reached next rest (next x)) none)
    ∙ ap (λ (at : Option ℕ). first_found look (reached next (suc rest) at)) (sym c.in-Some.is)
    ∙ ap (λ (n : ℕ). first_found look (reached next n c.loop-step.at)) (sym left)
    ∙ c.loop-step.invariant
