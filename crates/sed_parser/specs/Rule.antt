-- Rules of a grammar, and how rules are put together.
--
-- A rule says what stands where: `holds a tokens rest` where `a` stands at the front of the tokens, with `rest` behind
-- it. Beside that it has a reading from left to right, which a parser follows, with the proof that reading finds just
-- what stands there, and that what is left, behind it or where reading gets stuck, are the last ones of the tokens. So
-- a grammar of such rules is written once, a place has at most one reading, and a fault of it a place.
use Rattle.std.specs.Prelude.{◌≡◌, ◌⊎◌, Bool, true, false, cond, List, Option}
use Rattle.sed_lexer.specs.Token.{Token}
use Rattle.sed_parser.specs.Phrase.{Phrase, IsLeft, of_token}
use Rattle.sed_parser.specs.Reading.{Reading, Found, Stuck, Reads, is_found, read_token, read_on, by_head}
use Rattle.sed_parser.specs.ReadingFacts.{none_taken, both_taken, found_eq, found_again, stuck_eq, not_found, not_stuck}
use Rattle.sed_parser.specs.ReadingFacts.{token_sound, token_whole, token_left, token_stuck, read_on_found}
use Rattle.sed_parser.specs.ReadingFacts.{read_on_whole, in_order_stuck, either_sound, either_whole, either_left}
use Rattle.sed_parser.specs.ReadingFacts.{either_stuck, head_sound, head_whole, head_stuck}

pub record Rule (A : Type 0) : Type 1 where
  pub holds : A → Phrase
  pub reads : Reads A
  pub sound : (tokens : List Token) (a : A) (rest : List Token) → reads tokens ≡ Found a rest → holds a tokens rest
  pub whole : (tokens : List Token) (a : A) (rest : List Token) → holds a tokens rest → reads tokens ≡ Found a rest
  pub left : (tokens : List Token) (a : A) (rest : List Token) → holds a tokens rest → IsLeft tokens rest
  pub stuck : (tokens rest : List Token) → reads tokens ≡ Stuck rest → IsLeft tokens rest

-- the value itself, and no token
abbrev pub give : {A : Type 0} → A → Rule A
give a = record {
  holds = λ b tokens rest. (a ≡ b) × (tokens ≡ rest);
  reads = λ tokens. Found a tokens;
  sound = λ tokens b rest e. found_eq a tokens b rest e;
  whole = λ tokens b rest h. found_again a tokens b rest h;
  left = λ tokens b rest h. none_taken tokens rest h.1;
  stuck = λ tokens rest e. absurd (not_stuck tokens rest a e);
}

-- what is seen of the tokens from here on, and no token
abbrev pub look : {A : Type 0} → (List Token → A) → Rule A
look f = record {
  holds = λ b tokens rest. (f tokens ≡ b) × (tokens ≡ rest);
  reads = λ tokens. Found (f tokens) tokens;
  sound = λ tokens b rest e. found_eq (f tokens) tokens b rest e;
  whole = λ tokens b rest h. found_again (f tokens) tokens b rest h;
  left = λ tokens b rest h. none_taken tokens rest h.1;
  stuck = λ tokens rest e. absurd (not_stuck tokens rest (f tokens) e);
}

-- nothing stands there
abbrev pub nothing : {A : Type 0} → Rule A
nothing {A} = record {
  holds = λ b tokens rest. ⊥;
  reads = λ tokens. Stuck tokens;
  sound = λ tokens b rest e. not_found tokens rest b e;
  whole = λ tokens b rest h. absurd h;
  left = λ tokens b rest h. absurd h;
  stuck = λ tokens rest e. none_taken tokens rest (stuck_eq {A = A} tokens rest e);
}

-- one token, of which the value is told
abbrev pub token : {A : Type 0} → (Token → Option A) → Rule A
token f = record {
  holds = of_token f;
  reads = read_token f;
  sound = token_sound f;
  whole = token_whole f;
  left = token_left f;
  stuck = token_stuck f;
}

-- one rule, and behind it the next, by what the first one has read
abbrev pub in_order : {A B : Type 0} → Rule A → (A → Rule B) → Rule B
in_order {A} {B} p f = record {
  holds = λ b tokens rest. (a : A) × (middle : List Token) × p.holds a tokens middle × (f a).holds b middle rest;
  reads = λ tokens. read_on (p.reads tokens) (λ a. (f a).reads);
  sound = λ tokens b rest e. let s = read_on_found (p.reads tokens) (λ a. (f a).reads) b rest e in
      (s.0, s.1, p.sound tokens s.0 s.1 s.2, (f s.0).sound s.1 b rest s.3);
  whole = λ tokens b rest h. read_on_whole (p.reads tokens) (λ a. (f a).reads) h.0 h.1 b rest
      (p.whole tokens h.0 h.1 h.2) ((f h.0).whole h.1 b rest h.3);
  left = λ tokens b rest h. both_taken tokens h.1 rest (p.left tokens h.0 h.1 h.2) ((f h.0).left h.1 b rest h.3);
  stuck = λ tokens rest e. in_order_stuck (p.reads tokens) (λ a. (f a).reads) tokens rest (p.stuck tokens)
      (λ a middle is. p.left tokens a middle (p.sound tokens a middle is)) (λ a middle. (f a).stuck middle rest) e;
}

infixl 10 ◌>>=◌
abbrev pub ◌>>=◌ : {A B : Type 0} → Rule A → (A → Rule B) → Rule B
p >>= f = in_order p f

-- the same, where the first one has no value
infixl 10 ◌>>◌
abbrev pub ◌>>◌ : {B : Type 0} → Rule (Unit {0}) → Rule B → Rule B
p >> q = in_order p (λ _. q)

-- one rule or the other, by what is next
abbrev pub when : {A : Type 0} → (List Token → Bool) → Rule A → Rule A → Rule A
when test p q = record {
  holds = λ a tokens rest. ((test tokens ≡ true) × p.holds a tokens rest)
      ⊎ ((test tokens ≡ false) × q.holds a tokens rest);
  reads = λ tokens. cond (test tokens) (p.reads tokens) (q.reads tokens);
  sound = λ tokens a rest e. either_sound (p.holds a) (q.holds a) (test tokens) (p.reads tokens) (q.reads tokens) a
      tokens rest (p.sound tokens a rest) (q.sound tokens a rest) e;
  whole = λ tokens a rest h. either_whole (p.holds a) (q.holds a) (test tokens) (p.reads tokens) (q.reads tokens) a
      tokens rest (p.whole tokens a rest) (q.whole tokens a rest) h;
  left = λ tokens a rest h. either_left (p.holds a) (q.holds a) (test tokens) tokens rest (p.left tokens a rest)
      (q.left tokens a rest) h;
  stuck = λ tokens rest e. either_stuck (test tokens) (p.reads tokens) (q.reads tokens) tokens rest
      (p.stuck tokens rest) (q.stuck tokens rest) e;
}

-- where the test fails, nothing stands there
abbrev pub must : (List Token → Bool) → Rule (Unit {0})
must test = when test (give tt) nothing

-- where the head stands ahead, the first rule, and else the second one
abbrev pub where_begins : {A B : Type 0} → Rule B → Rule A → Rule A → Rule A
where_begins head p q = record {
  holds = λ a tokens rest. ((is_found (head.reads tokens) ≡ true) × p.holds a tokens rest)
      ⊎ ((is_found (head.reads tokens) ≡ false) × q.holds a tokens rest);
  reads = λ tokens. by_head (head.reads tokens) (p.reads tokens) (q.reads tokens);
  sound = λ tokens a rest e. head_sound (p.holds a) (q.holds a) (head.reads tokens) (p.reads tokens) (q.reads tokens) a
      tokens rest (p.sound tokens a rest) (q.sound tokens a rest) e;
  whole = λ tokens a rest h. head_whole (p.holds a) (q.holds a) (head.reads tokens) (p.reads tokens) (q.reads tokens) a
      tokens rest (p.whole tokens a rest) (q.whole tokens a rest) h;
  left = λ tokens a rest h. either_left (p.holds a) (q.holds a) (is_found (head.reads tokens)) tokens rest
      (p.left tokens a rest) (q.left tokens a rest) h;
  stuck = λ tokens rest e. head_stuck (head.reads tokens) (p.reads tokens) (q.reads tokens) tokens rest
      (head.stuck tokens) (p.stuck tokens rest) (q.stuck tokens) e;
}
