use Rattle.std.proofs.Common.{sym, ap, subst, ◌∙◌, ◌++◌, ◌∷◌, [], List, ℕ}
use Rattle.sed_lexer.specs.Fronts.{begins_with}
use Rattle.sed_lexer.specs.Spelled.{BeginsSpelled, NoSpelling}
use Rattle.sed_lexer.proofs.SpellingLemmas.{spells_none, spells_more, text_ends, text_stops, text_has_no_zero}
use Rattle.sed_lexer.proofs.spellings.text_end.Goals as goal

pub loop-rest-init : goal.loop-rest-init
loop-rest-init c = ([], spells_none c.args.inner.now)

pub returns-then-begins_with : goal.returns-then-begins_with
returns-then-begins_with c =
    text_ends c.args.inner.now c.loop-rest.at c.loop-rest.invariant.0 c.loop-rest.invariant.1
    (sym (c.if-begins_with.ensures ∙ ap (λ (x : List ℕ). begins_with x 34) c.rest_of-rest.ensures))

pub returns-in_default : goal.returns-in_default
returns-in_default c =
    text_stops c.args.inner.now c.loop-rest.at c.loop-rest.invariant.0 c.loop-rest.invariant.1
    (sym (c.if-begins_with.ensures ∙ ap (λ (x : List ℕ). begins_with x 34) c.rest_of-rest.ensures))
    (subst (NoSpelling 34) c.rest_of-rest.ensures c.in_default.ensures)

pub returns-then-one-eq0 : goal.returns-then-one-eq0
returns-then-one-eq0 c =
    text_has_no_zero c.args.inner.now c.loop-rest.at c.loop-rest.invariant.0 c.in-Some.one c.loop-rest.invariant.1
    (subst (λ (x : List ℕ). BeginsSpelled 34 x c.in-Some.one) c.rest_of-rest.ensures c.in-Some.ensures) c.if-one-eq0.true

pub loop-rest-preserved : goal.loop-rest-preserved
loop-rest-preserved c = (
  c.loop-rest.invariant.0 ++ c.in-Some.one.character ∷ [],
  spells_more c.args.inner.now c.loop-rest.at c.loop-rest.invariant.0 c.in-Some.one c.loop-rest.invariant.1
      (subst (λ (x : List ℕ). BeginsSpelled 34 x c.in-Some.one) c.rest_of-rest.ensures c.in-Some.ensures) c.if-one-eq0.false,
)
