use Rattle.std.proofs.Common.{◌≡◌, ◌≤◌, ℕ, List, length, IfOk, sym, subst, arith}
use Rattle.sed_classes.specs.Declarations.{all_classes}
use Rattle.sed_classes.proofs.Counts.{lineage_to_end}
use Rattle.sed_classes.proofs.bases.Based.lineage.Goals as goal

pub returns-in-Some : goal.returns-in-Some
returns-in-Some c =
    let most : c.in-Some.count ≤ length (all_classes c.args.self.now) = omega (arith, c.in-Some.ensures.within) in
    subst (λ (row : List ℕ). IfOk c.straight_lineage.result (λ v. v.items ≡ row))
    (sym (lineage_to_end c.args.self.now c.in-Some.count c.args.class most c.in-Some.ensures.ends))
    c.straight_lineage.ensures
