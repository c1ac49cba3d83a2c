-- Bytes split behind their whole entries.
use Rattle.std.specs.Prelude.{◌≡◌, ℕ, List, ◌++◌}
use Rattle.replay_log.specs.Entry.{Entry}
use Rattle.replay_log.specs.Record.{BeginsNoEntry, SpellsEntries}

-- what is behind whole entries, and begins with none
pub record IsSplit (bytes rest : List ℕ) : Type 0 where
  pub entries : List Entry
  pub text : List ℕ
  pub spelled : SpellsEntries entries text
  pub parted : bytes ≡ text ++ rest
  pub none : BeginsNoEntry rest
