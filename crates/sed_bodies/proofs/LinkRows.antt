-- A chain without links is its head, and one with links is what stands behind its first one.
use Rattle.std.proofs.Common.{◌≡◌, ℕ, suc, List, [], ◌∷◌, length, Option, refl, sym, ap, ◌∙◌, arith}
use Rattle.sed_units.specs.Tree.{Tree, Part, row}
use Rattle.sed_units.specs.declared.label.Label.TheVariants as label
use Rattle.sed_names.specs.Names.{Names}
use Rattle.sed_faults.specs.declared.fault.Fault.{Fault}
use Rattle.sed_terms.specs.declared.judged.Judged.{Judged}
use Rattle.sed_terms.specs.Faults.{least_fault}
use Rattle.sed_terms.specs.Term.{Term}
use Rattle.sed_bodies.specs.declared.context.Body.{Body}
use Rattle.sed_body_rules.specs.Scope.{Scope}
use Rattle.sed_bodies.specs.Expressions.{judge, judge_first, judge_links}

pub no_links : (n : Names) (b : Body) (s : Scope) (at : ℕ) (x : Tree) (links : List Tree) → length links ≡ 0 →
    judge least_fault n b s x ≡ judge least_fault n b s (Part (label.Chain at) x (row links))
no_links n b s at x [] h = refl
no_links n b s at x (l ∷ ls) h = absurd (let k : suc (length ls) ≡ 0 = h in omega (arith, k))

pub some_links : (n : Names) (b : Body) (s : Scope) (at : ℕ) (x l : Tree) (ls links : List Tree) (y : Judged Term (Option Fault)) → links ≡ l ∷ ls →
    y ≡ judge_first least_fault n b s at x l → judge_links least_fault n b s at y (row ls) ≡ judge least_fault n b s (Part (label.Chain at) x (row links))
some_links n b s at x l ls links y e q =
    ap (λ z. judge_links least_fault n b s at z (row ls)) q ∙ ap (λ all. judge least_fault n b s (Part (label.Chain at) x (row all))) (sym e)
