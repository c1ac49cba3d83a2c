use Rattle.std.proofs.Common.{ap, ◌∙◌, List, ℕ, Some, cond, take}
use Rattle.sed_lexer.specs.declared.kind.TokenKind.TheVariants.{Id, Key, Integer, Character, Text}
use Rattle.sed_lexer.specs.Words.{is_key_word}
use Rattle.sed_lexer.specs.Integers.{IsInteger}
use Rattle.sed_lexer.specs.Spellings.{IsCharacter, IsText}
use Rattle.sed_lexer.proofs.KindLemmas.{longest_gap, longest_by_lead, longest_mark, no_piece, longest_word, of_digit, of_quote, of_double_quote, word_piece}
use Rattle.sed_lexer.proofs.piece.longest.Goals as goal

pub returns-in-Some : goal.returns-in-Some
returns-in-Some c = record {
  within = c.in-Some.ensures.within;
  is_piece = c.in-Some.ensures.has;
  longest = longest_gap c.args.text.now c.in-Some.len c.in-Some.ensures;
}

pub returns-in-Some-word : goal.returns-in-Some-word
returns-in-Some-word c = record {
  within = c.in-Some-word.ensures.within;
  is_piece = word_piece c.kind_of_word.result (take c.in-Some-word.len c.args.text.now) (c.kind_of_word.ensures ∙ ap (λ (bytes : List ℕ). cond (is_key_word bytes) Key Id) c.front_of.ensures) c.in-Some-word.ensures.has;
  longest = longest_word c.args.text.now c.in-Some-word.len c.in-Some-word.ensures;
}

pub returns-in-Some-integer : goal.returns-in-Some-integer
returns-in-Some-integer c = record {
  within = c.in-Some-integer.ensures.within;
  is_piece = c.in-Some-integer.ensures.has;
  longest = longest_by_lead IsInteger (Some Integer) c.args.text.now c.in-Some-integer.len of_digit c.in-Some-integer.ensures c.in-Some-integer.ensures.has;
}

pub returns-in-Some-character : goal.returns-in-Some-character
returns-in-Some-character c = record {
  within = c.in-Some-character.ensures.within;
  is_piece = c.in-Some-character.ensures.has;
  longest = longest_by_lead IsCharacter (Some Character) c.args.text.now c.in-Some-character.len of_quote c.in-Some-character.ensures c.in-Some-character.ensures.has;
}

pub returns-in-Some-text_literal : goal.returns-in-Some-text_literal
returns-in-Some-text_literal c = record {
  within = c.in-Some-text_literal.ensures.within;
  is_piece = c.in-Some-text_literal.ensures.has;
  longest = longest_by_lead IsText (Some Text) c.args.text.now c.in-Some-text_literal.len of_double_quote c.in-Some-text_literal.ensures c.in-Some-text_literal.ensures.has;
}

pub returns-in-Some-mark : goal.returns-in-Some-mark
returns-in-Some-mark c = record {
  within = c.in-Some-mark.ensures.within;
  is_piece = c.in-Some-mark.ensures.has;
  longest = longest_mark c.args.text.now c.in-Some-mark.len c.in_default.ensures c.in-Some-mark.ensures;
}

pub returns : goal.returns
returns c = no_piece c.args.text.now c.in_default.ensures c.in_default-word.ensures c.in_default-integer.ensures c.in_default-character.ensures c.in_default-text_literal.ensures c.in_default-mark.ensures
