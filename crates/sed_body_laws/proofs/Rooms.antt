-- What is within a room: how many constructs it opens, and how many levels it has.
use Rattle.std.proofs.Common.{◌≤◌, ℕ, suc, ◌+◌, ◌*◌, Bool, List, [], ◌∷◌, arith}
use Rattle.sed_lexer.specs.Token.{Token}
use Rattle.sed_units.specs.Tree.{Tree, row}
use Rattle.sed_parser.specs.Phrase.{Phrase, Many}
use Rattle.sed_parser.specs.Expressions.{chain}
use Rattle.sed_body_laws.specs.Nesting.{nesting, each_within, most_of}
use Rattle.sed_body_laws.specs.Levels.{levels, highest}

abbrev pub Each : {A : Type 0} → (A → Type 0) → List A → Type 0
Each P [] = Unit {0}
Each P (x ∷ xs) = P x × Each P xs

-- what stands several times in a row
pub each_of_many : {A : Type 0} (P : A → Type 0) (go : List Token → Bool) (item : A → Phrase)
    → ((a : A) (tokens rest : List Token) → item a tokens rest → P a)
    → (xs : List A) (tokens rest : List Token) → Many go item xs tokens rest → Each P xs
each_of_many P go item h [] tokens rest is = tt
each_of_many P go item h (x ∷ xs) tokens rest is =
    (h x tokens is.1.0 is.1.1, each_of_many P go item h xs is.1.0 rest is.1.2)

-- where so many constructs may be opened
abbrev pub InRoom : ℕ → ℕ → Tree → Type 0
InRoom room most t = (nesting t ≤ room) × (levels t ≤ 22 * room + most)

-- where so many may be opened, one of which has it inside
abbrev pub Within : ℕ → ℕ → Tree → Type 0
Within room most t = (suc (nesting t) ≤ room) × (levels t + 22 ≤ 22 * room + most)

pub more : (room m n : ℕ) (t : Tree) → m ≤ n → InRoom room m t → InRoom room n t
more room m n t below h = (h.0, omega (arith, h.1, below))

pub rows_within : (room : ℕ) (ts : List Tree) → Each (Within room 22) ts
    → (each_within (row ts) ≤ room) × (highest (row ts) ≤ 22 * room)
rows_within room [] h = (omega arith, omega arith)
rows_within room (t ∷ ts) h =
    let r = rows_within room ts h.1 in
    let n : suc (nesting t) ≤ room = h.0.0 in
    let l : levels t + 22 ≤ 22 * room + 22 = h.0.1 in
    (omega (arith, n, r.0), omega (arith, l, r.1))

pub rows_beside : (room m : ℕ) (ts : List Tree) → Each (InRoom room m) ts
    → (most_of (row ts) ≤ room) × (highest (row ts) ≤ 22 * room + m)
rows_beside room m [] h = (omega arith, omega arith)
rows_beside room m (t ∷ ts) h =
    let r = rows_beside room m ts h.1 in
    let n : nesting t ≤ room = h.0.0 in
    let l : levels t ≤ 22 * room + m = h.0.1 in
    (omega (arith, n, r.0), omega (arith, l, r.1))

pub chain_in_room : (room m at : ℕ) (first : Tree) (links : List Tree) → InRoom room m first →
    Each (InRoom room m) links
    → InRoom room (suc m) (chain at first links)
chain_in_room room m at first [] h hs = more room m (suc m) first (omega arith) h
chain_in_room room m at first (l ∷ ls) h hs =
    let r = rows_beside room m (l ∷ ls) hs in
    let n : nesting first ≤ room = h.0 in
    let k : levels first ≤ 22 * room + m = h.1 in
    (omega (arith, n, r.0), omega (arith, k, r.1))
