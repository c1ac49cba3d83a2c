use Rattle.std.proofs.Common.{◌≡◌, ◌∙◌, ℕ, List, max, take, sym, ap, arith}
use Rattle.std.specs.List.{fold}
use Rattle.std.proofs.lemmas.Grind.{common_steps}
use Rattle.std.proofs.lemmas.List.Folds.{fold-map}
use Rattle.app_front.specs.declared.rows.FileRow.{FileRow}
use Rattle.app_reader.proofs.rows.greatest.Goals as goal

pub returns : goal.returns
returns c =
    let all : take c.loop-row.row-index c.args.rows.now ≡ c.args.rows.now = grind (arith, common_steps) in
    c.loop-row.invariant ∙ ap (λ (rows : List FileRow). fold (λ (n : ℕ) (r : FileRow). max n r.id.0) 0 rows) all ∙ sym (fold-map max (λ (r : FileRow). r.id.0) 0 c.args.rows.now)
