use Rattle.std.proofs.Common.{sym, ap, subst, ◌∙◌, ◌≡◌, ℕ, List, map, inl, inr, Ok, Err}
use Rattle.sed_lexer.specs.declared.lexing.LexRefusal.TheVariants.{Fault}
use Rattle.sed_lexer.specs.Lexes.{Lexes}
use Rattle.sed_lexer.specs.Spans.{token_of}
use Rattle.sed_lexer.proofs.CutLemmas.{cut_all, one_tokens, no_fault, refused_text, refused_fault}
use Rattle.sed_lexer.proofs.lexing.lex.Goals as goal

pub returns-in-Err-clause-none : goal.returns-in-Err-clause-none
returns-in-Err-clause-none c = λ at e tokens lexes.
    let same : c.in-Err.refusal ≡ Fault at = cc in
    no_fault c.args.text.now tokens at lexes (c.in-Err.ensures.fault at (ap Err same))

pub returns-in-Err-clause-lexes : goal.returns-in-Err-clause-lexes
returns-in-Err-clause-lexes c = λ tokens lexes. inr (ap Err (refused_text c.args.text.now c.in-Err.refusal c.in-Err.ensures.fault tokens lexes))

pub returns-in-Err-clause-faults : goal.returns-in-Err-clause-faults
returns-in-Err-clause-faults c = λ at fault. elim (refused_fault c.args.text.now c.in-Err.refusal c.in-Err.ensures.fault at fault) [
  | inl e ↦ inl (ap Err e)
  | inr e ↦ inr (ap Err e)
]

lexes : (c : goal.After-new) → Lexes c.args.text.now c.new.result
lexes c =
    let are : c.new.result ≡ map (token_of c.args.text.now) c.loop-place.spans.items =
    c.new.ensures ∙ ap (λ (text : List ℕ). map (token_of text) c.loop-place.spans.items) c.in_ok-text.ensures.items in
    subst (Lexes c.args.text.now) (sym are)
    (cut_all c.args.text.now c.loop-place.spans.items c.loop-place.place.at c.loop-place.place.first c.loop-place.invariant c.loop-place-test.false)

pub returns-clause-found : goal.returns-clause-found
returns-clause-found c = lexes c

pub returns-clause-only : goal.returns-clause-only
returns-clause-only c = λ others also. one_tokens c.args.text.now others c.new.result also (lexes c)

pub returns-clause-lexes : goal.returns-clause-lexes
returns-clause-lexes c = λ tokens also. inl (ap Ok (one_tokens c.args.text.now c.new.result tokens (lexes c) also))

pub returns-clause-faults : goal.returns-clause-faults
returns-clause-faults c = λ at fault. absurd (no_fault c.args.text.now c.new.result at (lexes c) fault)
