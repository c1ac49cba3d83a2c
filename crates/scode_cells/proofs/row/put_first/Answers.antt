use Rattle.std.proofs.Common.{◌≡◌, ◌+◌, ◌++◌, List, drop, length, refl, sym, ap, ◌∙◌, length-append, arith}
use Rattle.std.proofs.lemmas.List.{drop-drop, drop_at, take_at}
use Rattle.scode_cells.specs.declared.cell.Cell.{Cell}
use Rattle.scode_cells.specs.Rows.{put_at}
use Rattle.scode_cells.proofs.row.put_first.Goals as goal

put_twice : (row a b : List Cell) → put_at (put_at row 0 a) (length a) b ≡ put_at row 0 (a ++ b)
put_twice row a b =
    let rest : List Cell = drop (0 + length a) row in
    let far : (0 + length a) + length b ≡ 0 + length (a ++ b) = omega (arith, length-append a b) in
    ap (λ l. (l ++ b) ++ drop (length a + length b) (a ++ rest)) (take_at a rest (length a) refl)
    ∙ ap (λ l. (a ++ b) ++ l)
    (sym (drop-drop (length b) (length a) (a ++ rest))
    ∙ ap (drop (length b)) (drop_at a rest (length a) refl)
    ∙ drop-drop (length b) (0 + length a) row
    ∙ ap (λ n. drop n row) far)

pub returns : goal.returns
returns c =
    c.put_cells-2.ensures ∙ ap (λ l. put_at l (length c.args.first.now) c.args.behind.now) c.put_cells.ensures
    ∙ put_twice c.args.row.now c.args.first.now c.args.behind.now
