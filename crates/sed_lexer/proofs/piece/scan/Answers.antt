use Rattle.std.proofs.Common.{sym, ap, ◌∙◌, List, ℕ, drop}
use Rattle.sed_lexer.specs.Pieces.{can_end}
use Rattle.sed_lexer.proofs.CutLemmas.{cannot_stand}
use Rattle.sed_lexer.proofs.piece.scan.Goals as goal

pub returns-else-can_end : goal.returns-else-can_end
returns-else-can_end c =
    cannot_stand c.args.text.now c.in-Some.piece c.in-Some.ensures
    (ap (λ (bytes : List ℕ). can_end c.in-Some.piece.kind bytes (drop c.in-Some.piece.len c.args.text.now)) (sym c.front_of.ensures)
    ∙ ap (can_end c.in-Some.piece.kind c.front_of.result.now) (sym c.rest_of.ensures) ∙ sym c.if-can_end.ensures)
