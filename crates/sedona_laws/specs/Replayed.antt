-- What a replay shows and leaves.
use Rattle.std.specs.Prelude.{◌≡◌, ℕ, true, List, [], ◌∷◌, ◌++◌, Option, Ok}
use Rattle.sed_outside.specs.Sink.{PutsFront, with_text}
use Rattle.sed_outside.specs.declared.files.Files.{Ghosts as FileGhosts}
use Rattle.disk_model.specs.Disk.{Meaning}
use Rattle.disk_model.specs.declared.disk.Disk.{Ghosts as DiskGhosts}
use Rattle.comp_tree.specs.Application.{Application}
use Rattle.app_file.specs.Opens.{Opens as OpensTo}
use Rattle.dasp_session.specs.Outbox.{AreTexts, Datagram}
use Rattle.replay_log.specs.Entry.{Entry}
use Rattle.replay_log.specs.Record.{IsRecord}
use Rattle.sed_node.specs.Replaying.{replay_text}
use Rattle.sed_outside.specs.Reads.{HasReads}
use Rattle.sedona_cli.specs.Given.{GivenRecord}
use Rattle.sedona_words.specs.Command.{NodeAsked}
use Rattle.sedona_cli.specs.Outside.{Attaches, Found, Opens, Ran, Runs, AreAsked, of_reads, reached}
use Rattle.sedona_cli.specs.Nodes.{LeavesStore}
use Rattle.sedona_cli.specs.Replay.{InputsRead, IsRunOf, FailsAt}

-- ---- what it leaves

-- What is shown of a run with these entries left: with status 0 none is, and all of the text was put; with status 8
-- the text up to where the sink failed.
pub data Shows (ran : Ran) (left : List Entry) (before after : Option (List ℕ)) (status : ℕ) : Type 0 where
  in_full : (sent : List Datagram) → left ≡ [] → AreTexts (reached ran).sent sent → status ≡ 0
      → after ≡ with_text before (replay_text ran.code ran.setup ran.start ran.events sent)
      → Shows ran left before after status
  in_part : (put last : List ℕ) → FailsAt ran left put last → status ≡ 8 → PutsFront (with_text before put) after last
      → Shows ran left before after status

-- What a replay shows and leaves: it ran a node over the entries of the record that are not left, of which what was put
-- tells. Of the disk this run was asked, and nothing but the opening of its store before it.
pub record Replayed {T : Type 0} (D : DiskGhosts T) (asked : NodeAsked) (given : GivenRecord)
    (before after : Option (List ℕ)) (status : ℕ) (disk disk_now : T) : Type 0 where
  pub application : Application
  pub ran : Ran
  pub is_run : IsRunOf asked given application ran
  pub left : List Entry
  pub entries : IsRecord given.text (ran.entries ++ left)
  pub shows : Shows ran left before after status
  pub store : LeavesStore asked.limit application ran (D.meaning disk) (D.meaning disk_now)
  pub payload : List ℕ
  pub asks_are : AreAsked D (Attaches asked.store true ∷ Opens (Found payload) ∷ Runs ran ∷ []) disk disk_now

-- So it is with what the files gave.
abbrev pub ReplayedBy : {S T : Type 0} → FileGhosts S → DiskGhosts T → NodeAsked → List ℕ → S → S → T → T
    → Option (List ℕ) → Option (List ℕ) → ℕ → Type 0
ReplayedBy F D asked file files files_now disk disk_now before after status =
    HasReads F files files_now (λ reads. (given : GivenRecord) × InputsRead asked file (of_reads reads) (Ok given)
    × Replayed D asked given before after status disk disk_now)

-- The store's file opens to no application over the code of the kits.
abbrev pub HoldsNone : {S : Type 0} → FileGhosts S → NodeAsked → List ℕ → S → S → Meaning → Type 0
HoldsNone F asked file files files_now disk =
    HasReads F files files_now (λ reads. (given : GivenRecord) × InputsRead asked file (of_reads reads) (Ok given)
    × ((a : Application) → OpensTo given.code asked.limit disk.content a → ⊥))
