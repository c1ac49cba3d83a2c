-- What a pool's parts stand for, and what is true of them.
--
-- The live places are the first of a list of all places, in the order in which their blocks lie. So blocks lie apart,
-- none lies behind `used`, and a place that is not live is one that stands further back in the list.
use Rattle.std.specs.Prelude.{ℕ, ◌≡◌, ◌≢◌, ◌+◌, ◌<◌, ◌≤◌, ◌^◌, List, [], map, length, take, drop}
use Rattle.std.specs.Prelude.{slice_index_or, slice_set, sum_by, All, AllPairs, refl}
use Rattle.std.specs.Coded.{Coded, code_by, coded×, coded_ℕ, coded_list}
use Rattle.std.specs.FinMap as finite
use Rattle.scode_mem.specs.declared.entry.Entry.{Entry}
use Rattle.scode_mem.specs.Blocks.{Blocks, Held, Kept, put_at}

-- the parts that blocks are seen by: the first bytes of classes, all bytes, and where the block of each place begins
pub record Parts : Type 0 where
  pub firsts : List (List ℕ)
  pub bytes : List ℕ
  pub directory : List Entry

abbrev pub parts : List (List ℕ) → List ℕ → List Entry → Parts
parts firsts bytes directory = record { firsts = firsts; bytes = bytes; directory = directory }

abbrev pub no_entry : Entry
no_entry = record { offset = 0; class = 0 }

abbrev pub entry_at : Parts → ℕ → Entry
entry_at p place = slice_index_or p.directory place no_entry

abbrev pub class_at : Parts → ℕ → ℕ
class_at p place = (entry_at p place).class

abbrev pub start_at : Parts → ℕ → ℕ
start_at p place = (entry_at p place).offset

-- a block has as many bytes as its class begins with
abbrev pub size_at : Parts → ℕ → ℕ
size_at p place = length (slice_index_or p.firsts (class_at p place) [])

-- where the block of a place ends
abbrev pub end_at : Parts → ℕ → ℕ
end_at p place = start_at p place + size_at p place

-- the block of a place, as its entry has it
abbrev pub kept_at : Parts → ℕ → Kept
kept_at p place = record { class = class_at p place; bytes = take (size_at p place) (drop (start_at p place) p.bytes) }

-- the blocks of these places
abbrev pub blocks_of : Parts → List ℕ → Blocks
blocks_of p places = finite.from_entries (map (λ place. (place, kept_at p place)) places)

-- the blocks of these places are of classes and lie one behind another, none of them beyond `used`
pub record LieInOrder (p : Parts) (places : List ℕ) (used : ℕ) : Type 0 where
  pub classes : All (λ place. class_at p place < length p.firsts) places
  pub in_order : AllPairs (λ a b. end_at p a ≤ start_at p b) places
  pub below : All (λ place. end_at p place ≤ used) places
  pub in_bytes : used ≤ length p.bytes

-- all places, each once
pub record ArePlaces (places : List ℕ) : Type 0 where
  pub all : length places ≡ 4096
  pub apart : AllPairs (λ a b. a ≢ b) places
  pub within : All (λ place. place < 4096) places

-- of all places, for which there is room without more memory, the first `count` are live; their blocks lie in order
-- within the used part, and their sizes are counted
pub record IsKept (p : Parts) (places : List ℕ) (room count used filled : ℕ) : Type 0 where
  pub every : ArePlaces places
  pub reserved : 4096 ≤ room
  pub some : count ≤ 4096
  pub entries : length p.directory ≡ 4096
  pub lie : LieInOrder p (take count places) used
  pub counted : sum_by (size_at p) (take count places) ≡ filled
  pub fits : filled ≤ used
  pub numbered : length p.bytes < 2 ^ 32

abbrev pub held_of : Parts → List ℕ → ℕ → List ℕ → Held
held_of p places count statics =
    record { firsts = p.firsts; live = blocks_of p (take count places); statics = statics; limit = length p.bytes }

-- blocks of these places may have moved, and nothing else of them has changed
pub record MovesOnly (old new : Parts) (places : List ℕ) : Type 0 where
  pub classes : (place : ℕ) → class_at new place ≡ class_at old place
  pub blocks : blocks_of new places ≡ blocks_of old places

-- behind the blocks of these places, which may have moved, stands a new one with the first bytes of its class; all else
-- is as it was
pub record IsAdded (old new : Parts) (places : List ℕ) (place class start : ℕ) : Type 0 where
  -- as the blocks had moved
  pub bytes : List ℕ
  pub directory : List Entry
  pub moved : MovesOnly old (parts old.firsts bytes directory) places
  pub lie : LieInOrder (parts old.firsts bytes directory) places start
  pub as_many : length bytes ≡ length old.bytes
  pub entries : length directory ≡ length old.directory
  pub after : sum_by (size_at old) places ≤ start
  pub fits : start + length (slice_index_or old.firsts class []) ≤ length old.bytes
  pub put : new.bytes ≡ put_at bytes start (slice_index_or old.firsts class [])
  pub noted : new.directory ≡ slice_set directory place (record { offset = start; class = class })

-- ---- codes of what is kept

abbrev pub kept_code : Coded Kept
kept_code =
    code_by
    (ℕ × List ℕ)
    (coded× coded_ℕ (coded_list coded_ℕ))
    (λ k. (k.class, k.bytes))
    (λ p. record { class = p.0; bytes = p.1 })
    (λ _. refl)

abbrev pub held_code : Coded Held
held_code =
    code_by
    (List (List ℕ) × (Blocks × (List ℕ × ℕ)))
    (coded× (coded_list (coded_list coded_ℕ))
    (coded× (finite.code coded_ℕ kept_code) (coded× (coded_list coded_ℕ) coded_ℕ)))
    (λ h. (h.firsts, (h.live, (h.statics, h.limit))))
    (λ p. record { firsts = p.0; live = p.1.0; statics = p.1.1.0; limit = p.1.1.1 })
    (λ _. refl)
