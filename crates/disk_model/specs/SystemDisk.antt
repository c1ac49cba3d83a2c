-- The system's file: nothing is told but the counts of faults and of calls.
use Rattle.std.specs.Prelude.{ℕ, false, [], None}
use Rattle.disk_model.specs.Disk.{Meaning, IsDisk}

abbrev pub system_meaning : ℕ → ℕ → Meaning
system_meaning faults calls = record {
  tells = false;
  content = [];
  leaves = λ u c. ⊥;
  now = 0;
  tells_marks = false;
  marks = λ u. 0;
  is_marked = false;
  tells_syncs = false;
  syncs = λ u. 0;
  attached = None;
  faults = faults;
  calls = calls;
}

pub system_is_disk : (faults calls : ℕ) → IsDisk (system_meaning faults calls)
system_is_disk faults calls told = absurd (cc told)
