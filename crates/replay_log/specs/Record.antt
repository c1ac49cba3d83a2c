-- Records, and the places at which other bytes are refused.
use Rattle.std.specs.Prelude.{◌≡◌, ◌≢◌, ℕ, ◌+◌, List, [], ◌∷◌, ◌++◌, length}
use Rattle.replay_log.specs.Entry.{Entry, SpellsEntry}

-- entries stand one behind the other
abbrev pub SpellsEntries : List Entry → List ℕ → Type 0
SpellsEntries [] text = text ≡ []
SpellsEntries (entry ∷ behind) text =
    (first : List ℕ) × (others : List ℕ) × SpellsEntry entry first × SpellsEntries behind others
    × (text ≡ first ++ others)

-- entries, the end mark `z`, and nothing after it
pub record IsRecord (bytes : List ℕ) (entries : List Entry) : Type 0 where
  pub text : List ℕ
  pub spelled : SpellsEntries entries text
  pub ended : bytes ≡ text ++ 122 ∷ []

-- no whole and allowed entry begins here
abbrev pub BeginsNoEntry : List ℕ → Type 0
BeginsNoEntry bytes =
    (entry : Entry) (text follows : List ℕ) → SpellsEntry entry text → bytes ≡ text ++ follows → ⊥

-- Why a record ends in a wrong way, by what stands behind its whole entries, and how far behind them the place of that
-- is: its end mark is missing; something stands behind its end mark; or what stands there is no entry and no end mark.
pub data EndsWrong : List ℕ → ℕ → Type 0 where
  no_mark : EndsWrong [] 0
  goes_on : (next : ℕ) (others : List ℕ) → EndsWrong (122 ∷ next ∷ others) 1
  no_entry : (first : ℕ) (others : List ℕ) → first ≢ 122 → BeginsNoEntry (first ∷ others) → EndsWrong (first ∷ others) 0

-- the bytes are no record, for a cause at this place
pub record IsRefusedAt (bytes : List ℕ) (place : ℕ) : Type 0 where
  pub entries : List Entry
  pub text : List ℕ
  pub rest : List ℕ
  pub distance : ℕ
  pub spelled : SpellsEntries entries text
  pub parted : bytes ≡ text ++ rest
  pub wrong : EndsWrong rest distance
  pub stands : place ≡ length text + distance
