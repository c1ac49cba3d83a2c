use Rattle.std.proofs.Common.{sym, ap, subst, ◌∙◌, List, ℕ, length, drop}
use Rattle.sed_lexer.specs.Fronts.{begins_with}
use Rattle.sed_lexer.specs.Spelled.{BeginsSpelled, NoSpelling, SpellsTo}
use Rattle.sed_lexer.proofs.SpellingLemmas.{spells_more, text_is_one, no_text_before, no_text_goes_on, no_text_with_zero}
use Rattle.sed_lexer.proofs.spellings.text_value.Goals as goal

pub returns-then-rest-eq1 : goal.returns-then-rest-eq1
returns-then-rest-eq1 c =
    let at = c.rest_of-rest.ensures ∙ ap (drop c.read.at) c.rest_of-inner.ensures in
    text_is_one c.args.bytes.now c.read.at c.read.characters.items (sym c.if-not-begins_with.ensures)
    (subst (λ (x : List ℕ). SpellsTo x c.read.at c.read.characters.items) c.rest_of-inner.ensures c.read.invariant)
    (sym (c.if-begins_with.ensures ∙ ap (λ (x : List ℕ). begins_with x 34) at)) (sym (ap (λ (x : List ℕ). length x) at) ∙ c.if-rest-eq1.true)

pub returns-else-rest-eq1 : goal.returns-else-rest-eq1
returns-else-rest-eq1 c =
    let at = c.rest_of-rest.ensures ∙ ap (drop c.read.at) c.rest_of-inner.ensures in
    no_text_before c.args.bytes.now c.read.at c.read.characters.items (sym c.if-not-begins_with.ensures)
    (subst (λ (x : List ℕ). SpellsTo x c.read.at c.read.characters.items) c.rest_of-inner.ensures c.read.invariant)
    (sym (c.if-begins_with.ensures ∙ ap (λ (x : List ℕ). begins_with x 34) at)) (λ e. c.if-rest-eq1.false (ap (λ (x : List ℕ). length x) at ∙ e))

pub returns-in_default : goal.returns-in_default
returns-in_default c =
    let at = c.rest_of-rest.ensures ∙ ap (drop c.read.at) c.rest_of-inner.ensures in
    no_text_goes_on c.args.bytes.now c.read.at c.read.characters.items (sym c.if-not-begins_with.ensures)
    (subst (λ (x : List ℕ). SpellsTo x c.read.at c.read.characters.items) c.rest_of-inner.ensures c.read.invariant)
    (sym (c.if-begins_with.ensures ∙ ap (λ (x : List ℕ). begins_with x 34) at)) (subst (NoSpelling 34) at c.in_default.ensures)

pub returns-then-one-eq0 : goal.returns-then-one-eq0
returns-then-one-eq0 c =
    let at = c.rest_of-rest.ensures ∙ ap (drop c.read.at) c.rest_of-inner.ensures in
    no_text_with_zero c.args.bytes.now c.read.at c.read.characters.items c.in-Some.one (sym c.if-not-begins_with.ensures)
    (subst (λ (x : List ℕ). SpellsTo x c.read.at c.read.characters.items) c.rest_of-inner.ensures c.read.invariant)
    (subst (λ (x : List ℕ). BeginsSpelled 34 x c.in-Some.one) at c.in-Some.ensures) c.if-one-eq0.true

pub read-preserved : goal.read-preserved
read-preserved c =
    rw c.in_ok-push.ensures.items
    (spells_more c.rest_of-inner.result.now c.read.at c.read.characters.items c.in-Some.one c.read.invariant
    (subst (λ (x : List ℕ). BeginsSpelled 34 x c.in-Some.one) c.rest_of-rest.ensures c.in-Some.ensures) c.if-one-eq0.false)
