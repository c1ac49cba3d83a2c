-- What the grammar keeps of tokens. A rule keeps a property where each of its values has it wherever all tokens from
-- the value's start on are spelled; so are those behind the value then. Rules are put together in a few ways, with a
-- lemma for each of them, and so the proof for a rule of the grammar reads as the rule does.
use Rattle.std.proofs.Common.{◌≡◌, ◌⊎◌, Bool, true, false, IsTrue, All, List, [], ◌∷◌, ◌++◌, Option, Some, subst, inl, inr}
use Rattle.std.proofs.lemmas.List.Elements.{All-nil, All-cons, All-head, All-tail}
use Rattle.sed_value.specs.Value.{are_bytes}
use Rattle.sed_lexer.specs.Token.{Token}
use Rattle.sed_lexer.specs.Order.{IsOfItsKind}
use Rattle.sed_parser.specs.Phrase.{Phrase, of_token, Many}
use Rattle.sed_parser.specs.Rule.{Rule}

-- ---- lists

abbrev pub Each : {A : Type 0} → (A → Type 0) → List A → Type 0
Each P [] = Unit {0}
Each P (x ∷ xs) = P x × Each P xs

pub all_of : {A : Type 0} (P : A → Type 0) (xs : List A) → Each P xs → All P xs
all_of P [] h = All-nil P
all_of P (x ∷ xs) h = All-cons P x xs h.0 (all_of P xs h.1)

pub each_of : {A : Type 0} (P : A → Type 0) (xs : List A) → All P xs → Each P xs
each_of P [] h = tt
each_of P (x ∷ xs) h = (All-head P x xs h, each_of P xs (All-tail P x xs h))

-- ---- tokens

-- the token's bytes are bytes, and a piece of its kind
pub record IsSpelled (t : Token) : Type 0 where
  pub piece : IsOfItsKind t
  pub bytes : IsTrue (are_bytes t.bytes)

abbrev pub AreSpelled : List Token → Type 0
AreSpelled tokens = Each IsSpelled tokens

spelled_left : (front rest : List Token) → AreSpelled (front ++ rest) → AreSpelled rest
spelled_left [] rest s = s
spelled_left (t ∷ front) rest s = spelled_left front rest s.1

-- ---- rules

pub record Keeps {A : Type 0} (P : A → Phrase) (Q : A → Type 0) : Type 0 where
  pub keeps : (tokens rest : List Token) (a : A) → AreSpelled tokens → P a tokens rest → Q a × AreSpelled rest

-- a rule of whose value nothing is asked
pub any : {A : Type 0} (p : Rule A) → Keeps p.holds (λ a. Unit {0})
any p = record {
  keeps = λ tokens rest a s h.
      let l = p.left tokens a rest h in (tt, spelled_left l.0 rest (subst AreSpelled l.1 s));
}

pub gives : {A : Type 0} {a : A} {Q : A → Type 0} → Q a
    → Keeps (λ (b : A) (tokens rest : List Token). (a ≡ b) × (tokens ≡ rest)) Q
gives {Q} q = record { keeps = λ tokens rest b s h. (subst Q h.0 q, subst AreSpelled h.1 s) }

pub nothing : {A : Type 0} {Q : A → Type 0} → Keeps (λ (b : A) (tokens rest : List Token). ⊥) Q
nothing = record { keeps = λ tokens rest b s h. absurd h }

pub one : {A : Type 0} (f : Token → Option A) {Q : A → Type 0}
    → ((t : Token) (a : A) → IsSpelled t → f t ≡ Some a → Q a) → Keeps (of_token f) Q
one {A} f {Q} q = record { keeps = at }
  where
    at : (tokens rest : List Token) (a : A) → AreSpelled tokens → of_token f a tokens rest → Q a × AreSpelled rest
    at [] rest a s h = absurd h
    at (t ∷ ts) rest a s h = (q t a s.0 h.0, subst AreSpelled h.1 s.1)

pub in_order : {A B : Type 0} {P : A → Phrase} {F : A → B → Phrase} {Q : A → Type 0} {R : B → Type 0}
    → Keeps P Q → ((a : A) → Q a → Keeps (F a) R)
    → Keeps (λ (b : B) (tokens rest : List Token).
    (a : A) × (middle : List Token) × P a tokens middle × F a b middle rest) R
in_order p f = record {
  keeps = λ tokens rest b s h.
      let k = p.keeps tokens h.1 h.0 s h.2 in (f h.0 k.0).keeps h.1 rest b k.1 h.3;
}

-- the same, where nothing is asked of the first one's value
pub past : {A B : Type 0} (p : Rule A) {F : A → B → Phrase} {R : B → Type 0} → ((a : A) → Keeps (F a) R)
    → Keeps (λ (b : B) (tokens rest : List Token).
    (a : A) × (middle : List Token) × p.holds a tokens middle × F a b middle rest) R
past p f = in_order (any p) (λ a u. f a)

pub either : {A : Type 0} {test : List Token → Bool} {P S : A → Phrase} {Q : A → Type 0} → Keeps P Q → Keeps S Q
    → Keeps (λ (a : A) (tokens rest : List Token).
    ((test tokens ≡ true) × P a tokens rest) ⊎ ((test tokens ≡ false) × S a tokens rest)) Q
either {A} {test} {P} {S} {Q} p q = record { keeps = at }
  where
    at : (tokens rest : List Token) (a : A) → AreSpelled tokens
        → ((test tokens ≡ true) × P a tokens rest) ⊎ ((test tokens ≡ false) × S a tokens rest) → Q a × AreSpelled rest
    at tokens rest a s (inl h) = p.keeps tokens rest a s h.1
    at tokens rest a s (inr h) = q.keeps tokens rest a s h.1

-- what stands several times in a row
pub several : {A : Type 0} (go : List Token → Bool) {P : A → Phrase} {Q : A → Type 0} → Keeps P Q
    → Keeps (Many go P) (Each Q)
several {A} go {P} {Q} p = record { keeps = λ tokens rest xs. at xs tokens rest }
  where
    at : (xs : List A) (tokens rest : List Token) → AreSpelled tokens → Many go P xs tokens rest
        → Each Q xs × AreSpelled rest
    at [] tokens rest s h = (tt, subst AreSpelled h.1 s)
    at (x ∷ xs) tokens rest s h =
        let k = p.keeps tokens h.1.0 x s h.1.1 in
        let m = at xs h.1.0 rest k.1 h.1.2 in
        ((k.0, m.0), m.1)
