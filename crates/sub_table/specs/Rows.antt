-- Rows of one width, each with the bytes of an event or none.
use Rattle.std.specs.Prelude.{ℕ, ◌≡◌, ◌≤◌, ◌*◌, List, length, take, drop, Option, Some, None, slice_index_or}
use Rattle.std.specs.Option.{option_map}

-- a length where a row has an event, and the bytes of the events, each in a field of the width
pub record Texts : Type 0 where
  pub lengths : List (Option ℕ)
  pub bytes : List ℕ
  pub width : ℕ

-- the event of a row
unfoldable pub text_at : Texts → ℕ → Option (List ℕ)
text_at t row = option_map (λ len. take len (drop (row * t.width) t.bytes)) (slice_index_or t.lengths row None)

-- each event has its field, and room is reserved for 65,536 lengths and fields
pub record IsReserved (t : Texts) (lengths_room bytes_room : ℕ) : Type 0 where
  pub fields : length t.bytes ≡ length t.lengths * t.width
  pub within : (row len : ℕ) → slice_index_or t.lengths row None ≡ Some len → len ≤ t.width
  pub for_lengths : 65536 ≤ lengths_room
  pub for_bytes : 65536 * t.width ≤ bytes_room
