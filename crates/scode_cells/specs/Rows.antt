-- How frames lie in a row of cells.
--
-- Each frame has its locals and, right behind them, its stack with the top last. The frame above it begins at its top
-- or behind it. So what is done from the running frame's base on leaves all frames below it as they are.
use Rattle.std.specs.Prelude.{ℕ, ◌≡◌, ◌+◌, ◌*◌, ◌<◌, ◌≤◌, Bool, true, false, List, [], ◌∷◌, ◌++◌}
use Rattle.std.specs.Prelude.{map, length, reverse, take, drop}
use Rattle.scode_cells.specs.declared.cell.Cell.{Cell}
use Rattle.scode_cells.specs.declared.extent.Extent.{Extent}
use Rattle.scode_cells.specs.Frames.{Frame, Frames}

-- cells with others in the place of those from a place on
abbrev pub put_at : List Cell → ℕ → List Cell → List Cell
put_at row at new = take at row ++ new ++ drop (at + length new) row

abbrev pub frame_in : List Cell → Extent → Frame
frame_in row e = record {
  method = e.method;
  place = e.place;
  locals = drop e.base (take e.stack row);
  stack = reverse (drop e.stack (take e.top row));
}

-- a running frame and those below it, the nearest first
abbrev pub frames_in : List Cell → Bool → Extent → List Extent → List Frame
frames_in row false frame others = []
frames_in row true frame others = frame_in row frame ∷ map (frame_in row) others

abbrev pub seen_in : List Cell → Bool → Extent → List Extent → ℕ → Frames
seen_in row is_running frame others most =
    record { frames = frames_in row is_running frame others; most = most }

-- a frame with so many below it, each with so many cells at most
pub record IsExtent (most number : ℕ) (e : Extent) : Type 0 where
  pub locals : e.base ≤ e.stack
  pub stack : e.stack ≤ e.top
  pub few : e.top ≤ e.base + most
  pub low : e.base ≤ number * most

-- frames below one that begins here, the nearest first
abbrev pub LieBelow : ℕ → ℕ → List Extent → Type 0
LieBelow most end [] = Unit {0}
LieBelow most end (e ∷ es) = IsExtent most (length es) e × (e.top ≤ end) × LieBelow most e.base es

-- the row has cells for 32 frames, there is room for the 31 below the running one without more memory, and all lie in
-- order. Where none is running there are none below
pub record AreKept (row : List Cell) (is_running : Bool) (frame : Extent) (others : List Extent)
    (room most : ℕ) : Type 0 where
  pub cells : length row ≡ 32 * most
  pub reserved : 31 ≤ room
  pub few : length others < 32
  pub runs : IsExtent most (length others) frame
  pub lie : LieBelow most frame.base others
  pub idle : is_running ≡ false → length others ≡ 0
