-- What reading a rule of a grammar from left to right comes to, and how readings are put together.
use Rattle.std.specs.Prelude.{ℕ, zero, suc, Bool, true, false, cond, nat_lt, List, [], ◌∷◌, length, Option, Some, None}
use Rattle.sed_lexer.specs.Token.{Token}

-- What stands at the front of the tokens, with those that are left behind it. Or, where nothing does, the tokens from
-- the one on that the rule does not go on with.
pub data Reading (A : Type 0) : Type 0 where
  Found : A → List Token → Reading A
  Stuck : List Token → Reading A

abbrev pub Reads : Type 0 → Type 0
Reads A = List Token → Reading A

abbrev pub is_found : {A : Type 0} → Reading A → Bool
is_found (Found a rest) = true
is_found (Stuck rest) = false

-- of two places in a text the further one, behind which fewer tokens are left
abbrev pub further : List Token → List Token → List Token
further far rest = cond (nat_lt (length far) (length rest)) far rest

-- Where two rules may stand and the first one gets stuck, reading the second gets stuck no sooner.
abbrev pub as_far : {A : Type 0} → List Token → Reading A → Reading A
as_far far (Found a rest) = Found a rest
as_far far (Stuck rest) = Stuck (further far rest)

-- the value, with what is left behind the token, or else the tokens from it on
abbrev pub token_reading : {A : Type 0} → Option A → List Token → List Token → Reading A
token_reading None here behind = Stuck here
token_reading (Some a) here behind = Found a behind

abbrev pub read_token : {A : Type 0} → (Token → Option A) → Reads A
read_token f [] = Stuck []
read_token f (t ∷ ts) = token_reading (f t) (t ∷ ts) ts

-- A reading goes on with the next one, by what was found.
abbrev pub read_on : {A B : Type 0} → Reading A → (A → Reads B) → Reading B
read_on (Stuck rest) next = Stuck rest
read_on (Found a rest) next = next a rest

-- By a head that is read ahead, one rule or the other. Where reading gets stuck in the head and in the other one, it
-- gets as far as the further of both.
abbrev pub by_head : {A B : Type 0} → Reading B → Reading A → Reading A → Reading A
by_head (Found b rest) first other = first
by_head (Stuck far) first other = as_far far other

-- An item wherever one is wanted, by what is next, and at most so many: where another one is wanted, it gets stuck.
abbrev pub many_at : {A : Type 0} → (List Token → Bool) → Reads A → ℕ → Reads (List A)
many_at go item zero tokens = cond (go tokens) (Stuck tokens) (Found [] tokens)
many_at go item (suc most) tokens =
    cond (go tokens) (read_on (item tokens)
    (λ a middle. read_on (many_at go item most middle) (λ xs rest. Found (a ∷ xs) rest))) (Found [] tokens)
