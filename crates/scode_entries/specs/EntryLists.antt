-- Entries put one behind another, each place once, for the private clauses of who makes them. No public clause rests on
-- it.
use Rattle.std.specs.Prelude.{ℕ, ◌-◌, ◌==◌, Bool, false, if◌then◌else◌, List, [], ◌∷◌, ◌++◌, length, slice_get}
use Rattle.std.specs.Option.{option_map_or}
use Rattle.scode_image.specs.declared.image.ImageEntry.{ImageEntry}
use Rattle.scode_image.specs.declared.image.ImageKind.{ImageKind}
use Rattle.scode_entries.specs.declared.marks.Mark.{Mark}
use Rattle.scode_entries.specs.Method.{entry_of}

-- the last entry stands at a place
abbrev pub ends_at : List ImageEntry → ℕ → Bool
ends_at es place = option_map_or (λ e. e.place == place) (slice_get es (length es - 1)) false

abbrev pub with_entry : List ImageKind → List ImageEntry → Mark → List ImageEntry
with_entry locals es m = if ends_at es m.place then es else es ++ entry_of locals m ∷ []

abbrev pub with_entries : List ImageKind → List ImageEntry → List Mark → List ImageEntry
with_entries locals es [] = es
with_entries locals es (m ∷ ms) = with_entries locals (with_entry locals es m) ms
