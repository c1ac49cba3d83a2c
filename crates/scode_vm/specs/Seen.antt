-- What cells, frames and blocks stand for in a root call: it has a setting, and the place of its component.
use Rattle.std.specs.Prelude.{ℕ, ℤ, List, map, Option, Some, None}
use Rattle.sed_engine.specs.declared.call.Place.{Place}
use Rattle.sed_engine.specs.State.{Shared}
use Rattle.sed_engine.specs.Values.{Val, Nothing, At, Spot, Component, Statics}
use Rattle.scode_code.specs.Fields.{Setting}
use Rattle.scode_code.specs.Machine.{Frame, Machine}
use Rattle.scode_mem.specs.declared.block.Block.TheVariants as block
use Rattle.scode_mem.specs.Blocks.{Held}
use Rattle.scode_cells.specs.declared.cell.Cell.{Cell}
use Rattle.scode_cells.specs.Frames as cells
use Rattle.scode_cells.specs.Frames.{Frames}
use Rattle.scode_state.specs.Cells.{plain_of}
use Rattle.scode_state.specs.References.{leads_to}
use Rattle.scode_state.specs.Stands.{contents_in}

-- ---- cells

-- where a reference leads; unfoldable, since goals grow where it computes
unfoldable pub spot_in : Setting → Place → Cell → Option Spot
spot_in w place c = leads_to w.image w.class place c

-- what is plain, or else where the reference leads; one that leads nowhere is nothing
abbrev pub val_or : Option Val → Option Spot → Val
val_or (Some v) spot = v
val_or None (Some spot) = At spot
val_or None None = Nothing

abbrev pub val_of : Setting → Place → Cell → Val
val_of w place c = val_or (plain_of c) (spot_in w place c)

abbrev pub vals : Setting → Place → List Cell → List Val
vals w place cells = map (val_of w place) cells

-- ---- frames

abbrev pub frame_seen : Setting → Place → cells.Frame → Frame
frame_seen w place f = record {
  method = f.method;
  place = f.place;
  locals = vals w place f.locals;
  stack = vals w place f.stack;
}

-- the running frame on top
abbrev pub machine_seen : Setting → Place → Frames → Shared → Machine
machine_seen w place s shared = record {
  top = frame_seen w place (cells.running s);
  below = map (frame_seen w place) (cells.below s);
  shared = shared;
}

-- ---- blocks

-- what the blocks of a pool hold, with so many turns left, at this moment
abbrev pub shared_seen : Setting → Place → Held → ℕ → ℤ → Shared
shared_seen w place h turns moment = record {
  contents = contents_in w.image w.class Component h (block.Live place);
  statics = contents_in w.image w.class Statics h block.Statics;
  turns = turns;
  moment = moment;
}
