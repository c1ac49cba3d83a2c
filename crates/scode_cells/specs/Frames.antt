-- Frames of cells, and what each call does to them.
use Rattle.std.specs.Prelude.{ℕ, ◌+◌, ◌<◌, List, [], ◌∷◌, ◌++◌, length, reverse, take, drop, slice_set}
use Rattle.scode_cells.specs.declared.cell.Cell.{Cell}

-- a call that is running: its method, the place of its next instruction, its locals, and its stack with the top first
pub record Frame : Type 0 where
  pub method : ℕ
  pub place : ℕ
  pub locals : List Cell
  pub stack : List Cell

-- the frames of a root call, the running one first, and how many cells each may have
pub record Frames : Type 0 where
  pub frames : List Frame
  pub most : ℕ

abbrev pub most_frames : ℕ
most_frames = 32

abbrev pub no_frames : ℕ → Frames
no_frames most = record { frames = []; most = most }

-- a frame as it begins
abbrev pub new_frame : ℕ → List Cell → Frame
new_frame method locals = record { method = method; place = 0; locals = locals; stack = [] }

-- the first frame; where there is none, one without cells
abbrev pub first_frame : List Frame → Frame
first_frame [] = new_frame 0 []
first_frame (f ∷ fs) = f

abbrev pub frames_below : List Frame → List Frame
frames_below [] = []
frames_below (f ∷ fs) = fs

abbrev pub IsRunning : Frames → Type 0
IsRunning s = 0 < length s.frames

-- the running frame, and those below it
abbrev pub running : Frames → Frame
running s = first_frame s.frames

abbrev pub below : Frames → List Frame
below s = frames_below s.frames

-- how many cells a frame has
abbrev pub cells_in : Frame → ℕ
cells_in f = length f.locals + length f.stack

-- ---- the running frame changes

abbrev pub with_running : Frames → Frame → Frames
with_running s f = record s { frames = f ∷ below s }

abbrev pub with_stack : Frames → List Cell → Frames
with_stack s stack = with_running s (record (running s) { stack = stack })

abbrev pub placed : Frames → ℕ → Frames
placed s place = with_running s (record (running s) { place = place })

abbrev pub stored : Frames → ℕ → Cell → Frames
stored s i v = with_running s (record (running s) { locals = slice_set (running s).locals i v })

abbrev pub pushed : Frames → Cell → Frames
pushed s v = with_stack s (v ∷ (running s).stack)

abbrev pub popped : Frames → Frames
popped s = with_stack s (drop 1 (running s).stack)

-- ---- frames come and go

abbrev pub begun : Frames → ℕ → List Cell → Frames
begun s method locals = record s { frames = new_frame method locals ∷ [] }

-- so many cells off the stack, the topmost last, and others behind them are the locals of a new frame
abbrev pub entered : Frames → ℕ → ℕ → List Cell → Frames
entered s method args zeros =
    let caller = with_stack s (drop args (running s).stack) in
    record s { frames = new_frame method (reverse (take args (running s).stack) ++ zeros) ∷ caller.frames }

abbrev pub left : Frames → Frames
left s = record s { frames = below s }

abbrev pub cleared : Frames → Frames
cleared s = record s { frames = [] }
