-- What is kept of one part: who has subscribed it, and the bytes of its last events.
use Rattle.std.specs.Prelude.{ℕ, ◌≡◌, ◌==◌, ◌&&◌, Bool, if◌then◌else◌, List, Option, Some, None, unwrap_or, slice_index}
use Rattle.sub_table.specs.Holders.{is_member}
use Rattle.sub_table.specs.Rows.{Texts, text_at}

-- the bits of 65,536 subscribers in words of 64, the row that each holds, and the rows with the last events, each of at
-- most so many bytes
pub record Kept : Type 0 where
  pub words : List ℕ
  pub rows : List ℕ
  pub texts : Texts
  pub width : ℕ

-- none where the number has not subscribed; else the last event that was posted to it, if there is one
abbrev pub kept_at : Kept → ℕ → Option (Option (List ℕ))
kept_at k number = if is_member k.words number then Some (text_at k.texts (slice_index k.rows number)) else None

-- what a call changes: of the one number, where it is meant, and of no other
abbrev pub Changes : (Option (Option (List ℕ)) → Option (Option (List ℕ))) → ℕ → Bool → Kept → Kept → Type 0
Changes f number named before after =
    (other : ℕ) → kept_at after other ≡ (if named && other == number
    then f (kept_at before other) else kept_at before other)

abbrev pub subscribed : Option (Option (List ℕ)) → Option (Option (List ℕ))
subscribed o = Some (unwrap_or o None)

abbrev pub unsubscribed : Option (Option (List ℕ)) → Option (Option (List ℕ))
unsubscribed o = None

abbrev pub posted : List ℕ → Option (Option (List ℕ)) → Option (Option (List ℕ))
posted bytes o = Some (Some bytes)
