use Rattle.std.proofs.Common.{sym, ap, subst, refl, ◌∙◌, ◌≡◌, ℕ, List, ◌+◌, ◌||◌, false, take}
use Rattle.sed_lexer.specs.declared.tokens.Span.{Span}
use Rattle.sed_lexer.specs.Gaps.{has_line_end}
use Rattle.sed_lexer.specs.Lexes.{NothingStands, FaultsAt}
use Rattle.sed_lexer.specs.Cutting.{Stands, IsCut}
use Rattle.sed_lexer.proofs.CutLemmas.{cut_gap, cut_token, cut_fault}
use Rattle.sed_lexer.proofs.lexing.step.Goals as goal

pub returns-in_default-clause-fault : goal.returns-in_default-clause-fault
returns-in_default-clause-fault c = λ at e.
    let same : c.args.place.at ≡ at = cc in
    subst (FaultsAt c.args.text.now) same
    (cut_fault c.args.text.now c.args.spans.now.items c.args.place.at c.args.place.first c.requires.cut c.requires.inside
    (subst NothingStands c.rest_of.ensures c.in_default.ensures))

pub returns-in_default-kind-clause-cut : goal.returns-in_default-kind-clause-cut
returns-in_default-kind-clause-cut c =
    let first = c.is_first_after-first.ensures
    ∙ ap (λ (bytes : List ℕ). c.args.place.first || has_line_end bytes) (c.front_of.ensures ∙ ap (take c.in-Some.piece.len) c.rest_of-in_default-kind.ensures) in
    rw first (cut_gap c.args.text.now c.args.spans.now.items c.args.place.at c.args.place.first c.in-Some.piece c.requires.cut
    (subst (λ (bytes : List ℕ). Stands bytes c.in-Some.piece) c.rest_of.ensures c.in-Some.ensures) c.in_default-kind.is)

pub returns-clause-cut : goal.returns-clause-cut
returns-clause-cut c =
    subst (λ (spans : List Span). IsCut c.args.text.now spans (c.args.place.at + c.in-Some.piece.len) false) (sym c.in_ok-push.ensures.items)
    (cut_token c.args.text.now c.args.spans.now.items c.args.place.at c.args.place.first c.in-Some.piece _ c.requires.cut
    (subst (λ (bytes : List ℕ). Stands bytes c.in-Some.piece) c.rest_of.ensures c.in-Some.ensures) c.in-Some-kind.is refl refl refl)
