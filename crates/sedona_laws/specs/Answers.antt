-- What the top call says of any words.
use Rattle.std.specs.Prelude.{◌≡◌, ℕ, List, None}
use Rattle.sed_outside.specs.declared.files.Files.{Ghosts as FileGhosts}
use Rattle.sed_outside.specs.declared.clock.Clock.{Ghosts as ClockGhosts}
use Rattle.sed_outside.specs.declared.link.Link.{Ghosts as LinkGhosts}
use Rattle.sed_outside.specs.declared.sink.Sink.{Ghosts as SinkGhosts}
use Rattle.disk_model.specs.declared.disk.Disk.{Ghosts as DiskGhosts}
use Rattle.sedona_cli.specs.Does.{Does, DoesNothing}
use Rattle.sedona_cli.specs.Program.{OnCommand}
use Rattle.sedona_cli.specs.Words.{command_asked}
use Rattle.sedona_cli.specs.World.{World}

-- The two clauses of `sedona`, of words, the world before and behind, and the status.
pub record Answers {S U V T W : Type 0} (F : FileGhosts S) (L : LinkGhosts U) (C : ClockGhosts V) (D : DiskGhosts T)
    (O : SinkGhosts W) (words : List (List ℕ)) (old new : World S U V T W) (status : ℕ) : Type 0 where
  pub outside_the_table : command_asked words ≡ None → DoesNothing O words old new status
  pub does : OnCommand words (λ command. Does F L C D O command old new status)
