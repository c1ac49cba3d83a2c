use Rattle.std.proofs.Common.{◌≡◌, ◌≤◌, ◌∙◌, ap, arith, ℕ, take, replicate}
use Rattle.std.proofs.lemmas.List.{take-replicate}
use Rattle.sed_cells.proofs.cell.zeros.Goals as goal

pub returns : goal.returns
returns c =
    let cut : c.new.result ≡ take c.from.result (replicate 255 0) = c.new.ensures in
    let short : c.from.result ≤ 255 = omega (arith, c.from.ensures, c.ranges.len.fits) in
    cut ∙ take-replicate c.from.result 255 0 short ∙ ap (λ (n : ℕ). replicate n 0) c.from.ensures
