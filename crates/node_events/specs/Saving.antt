-- A save: what the App's `save` comes to where no refusal of its row stands against it.
use Rattle.std.specs.Prelude.{ℕ, Bool, not, nat_lt, if◌then◌else◌, length, Option, Some, None}
use Rattle.sed_value.specs.declared.refusal.Refusal.TheVariants.{SaveDevice, StoreFull}
use Rattle.sed_engine.specs.Code.{Meaning}
use Rattle.comp_tree.specs.Application.{Application}
use Rattle.comp_tree.specs.Parts.{Kept}
use Rattle.app_file.specs.Text.{app_text}
use Rattle.sox_msg.specs.Answered.{Answered, done, refused}
use Rattle.node_events.specs.Mishap.{Mishap, is_disk_failed}

-- a save that has begun: what is kept, and whether it was acknowledged
pub record Save : Type 0 where
  pub application : Application
  pub acknowledged : Bool

-- the text of what is kept is longer than the slot
abbrev pub is_too_long : Meaning → ℕ → Application → Bool
is_too_long m slot a = nat_lt slot (length (app_text m (Kept m a)))

-- it begins where there is room for the text, and is acknowledged unless the disk fails it
abbrev pub save_of : Meaning → ℕ → Application → Mishap → Option Save
save_of m slot a mishap =
    if is_too_long m slot a then None
    else Some (record { application = Kept m a; acknowledged = not (is_disk_failed mishap) })

-- `I`
abbrev pub saved : Answered
saved = done 73

-- 25 where none has begun, and else `I` or 24
abbrev pub answer_to_save : Option Save → Answered
answer_to_save None = refused StoreFull
answer_to_save (Some save) = if save.acknowledged then saved else refused SaveDevice
