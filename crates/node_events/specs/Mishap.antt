-- What may go wrong within an event, of which the event itself says nothing. The replies show it.
use Rattle.std.specs.Prelude.{◌≡◌, Bool, true, false}

pub data Mishap : Type 0 where
  nothing_wrong : Mishap
  -- an add, or a new link, that nothing refuses wants memory
  no_memory : Mishap
  -- the disk fails a save that has begun
  disk_failed : Mishap

abbrev pub is_no_memory : Mishap → Bool
is_no_memory no_memory = true
is_no_memory mishap = false

abbrev pub is_disk_failed : Mishap → Bool
is_disk_failed disk_failed = true
is_disk_failed mishap = false

-- memory is wanted only over an engine that is not fixed, and the disk fails only where its count of faults has risen
abbrev pub MayHappen : Bool → Type 0 → Mishap → Type 0
MayHappen fixed Risen nothing_wrong = Unit {0}
MayHappen fixed Risen no_memory = fixed ≡ false
MayHappen fixed Risen disk_failed = Risen
