-- What a crash leaves at the moments of a run.
use Rattle.std.proofs.Common.{◌≡◌, ◌≤◌, ◌+◌, ℕ, zero, suc, true, List, [], ◌∷◌, ◌++◌, length, take, refl, sym, ap}
use Rattle.std.proofs.Common.{subst, arith}
use Rattle.std.specs.Prelude.{if◌then◌else◌}
use Rattle.disk_model.specs.Disk.{Meaning as DiskMeaning}
use Rattle.app_save.specs.Run.{acknowledged, entry}
use Rattle.sed_engine.specs.Code.{Meaning}
use Rattle.app_file.specs.Reading.{IsFile}
use Rattle.app_file.specs.Text.{app_text}
use Rattle.node_events.specs.Saving.{Save}
use Rattle.sed_node.specs.Handling.{AreFiles, AreSaved, texts_of}
use Rattle.sed_node.specs.Running.{CrashesOpen, acknowledged_in}
use Rattle.sed_node.proofs.Handled.{saved_go_on}

-- the k-th save behind a first one, and its text
record Found (m : Meaning) (first : Save) (payload : List ℕ) (saves : List Save) (k : ℕ) : Type 0 where
  before : List Save
  save : Save
  later : List Save
  parted : first ∷ saves ≡ before ++ save ∷ later
  count : acknowledged_in (before ++ save ∷ [])
      ≡ acknowledged (take k (texts_of m saves)) + (if first.acknowledged then 1 else 0)
  file : IsFile m save.application.components.limit (entry payload (texts_of m saves) k) save.application

found : (m : Meaning) (first : Save) (payload : List ℕ)
    → IsFile m first.application.components.limit payload first.application
    → (saves : List Save) → AreFiles m saves → (k : ℕ) → k ≤ length (texts_of m saves) → Found m first payload saves k
found m first payload file saves files zero there =
    record { before = []; save = first; later = saves; parted = refl; count = refl; file = file }
found m first payload file [] files (suc k) there = absurd (let no : suc k ≤ 0 = there in omega (arith, no))
found m first payload file (save ∷ saves) files (suc k) there =
    let less : suc k ≤ suc (length (texts_of m saves)) = there in
    let f = found m save (app_text m save.application) files.0 saves files.1 k (omega (arith, less)) in
    record {
      before = first ∷ f.before;
      save = f.save;
      later = f.later;
      parted = ap (λ (all : List Save). first ∷ all) f.parted;
      count = ap (λ (n : ℕ). n + (if first.acknowledged then 1 else 0)) f.count;
      file = f.file;
    }

pub crashes_open : {D : Type 0} (meaning : D → DiskMeaning) (m : Meaning) (slot : ℕ) (saves : List Save) (old new : D)
    → AreSaved meaning m slot saves old new → AreFiles m saves
    → CrashesOpen meaning m slot (λ opened. (let first : Save = record { application = opened; acknowledged = true } in
    first) ∷ saves) old new
crashes_open meaning m slot saves old new are files told told_marks start opened payload file run moment image from to
    left =
    let all = saved_go_on meaning m slot start payload saves old new [] are told told_marks run in
    let opens = all.each moment image from to left in
    let first : Save = record { application = opened; acknowledged = true } in
    let f = found m first payload file saves files opens.is_entry.k opens.is_entry.there in
    record {
      application = f.save.application;
      since = record {
        before = f.before;
        save = f.save;
        later = f.later;
        parted = f.parted;
        is = refl;
        not_before = (let count = f.count in let since = opens.is_entry.not_before in omega (arith, count, since));
      };
      opens = record {
        size = slot;
        payload = opens.payload;
        store = opens.opens;
        file = subst (λ (p : List ℕ). IsFile m f.save.application.components.limit p f.save.application)
            (sym opens.is_entry.is) f.file;
      };
    }
