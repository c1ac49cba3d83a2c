use Rattle.std.proofs.Common.{sym, ap, subst, ◌∙◌, List, ℕ, drop}
use Rattle.sed_lexer.specs.Fronts.{begins_with}
use Rattle.sed_lexer.specs.Spelled.{BeginsSpelled}
use Rattle.sed_lexer.proofs.SpellingLemmas.{character_found, no_character}
use Rattle.sed_lexer.proofs.spellings.character.Goals as goal

pub returns-then-begins_with : goal.returns-then-begins_with
returns-then-begins_with c =
    character_found c.args.text.now c.in_ok-one.one (sym c.if-not-begins_with.ensures)
    (subst (λ (x : List ℕ). BeginsSpelled 39 x c.in_ok-one.one) c.rest_of-inner.ensures c.in_ok-one.ensures)
    (sym (c.if-begins_with.ensures ∙ ap (λ (x : List ℕ). begins_with x 39) (c.rest_of.ensures ∙ ap (drop c.in_ok-one.one.len) c.rest_of-inner.ensures)))

pub returns-else-begins_with : goal.returns-else-begins_with
returns-else-begins_with c =
    no_character c.args.text.now c.in_ok-one.one (sym c.if-not-begins_with.ensures)
    (subst (λ (x : List ℕ). BeginsSpelled 39 x c.in_ok-one.one) c.rest_of-inner.ensures c.in_ok-one.ensures)
    (sym (c.if-begins_with.ensures ∙ ap (λ (x : List ℕ). begins_with x 39) (c.rest_of.ensures ∙ ap (drop c.in_ok-one.one.len) c.rest_of-inner.ensures)))
