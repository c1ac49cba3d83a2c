-- What follows from what a command does.
use Rattle.std.proofs.Common.{◌≡◌, ◌≢◌, ◌⊎◌, ℕ, List, [], ◌∷◌, Result, inl, inr, refl}
use Rattle.std.specs.Prelude.{IsTrue, length}
use Rattle.sed_outside.specs.Cause.{Rose}
use Rattle.sed_outside.specs.declared.files.Files.{Ghosts as FileGhosts}
use Rattle.sed_outside.specs.declared.clock.Clock.{Ghosts as ClockGhosts}
use Rattle.sed_outside.specs.declared.link.Link.{Ghosts as LinkGhosts}
use Rattle.sed_outside.specs.declared.sink.Sink.{Ghosts as SinkGhosts}
use Rattle.disk_model.specs.declared.disk.Disk.{Ghosts as DiskGhosts}
use Rattle.sed_outside.specs.Reads.{AreKnown}
use Rattle.sedona_cli.specs.declared.refusal.Refusal.{Refusal}
use Rattle.sedona_words.specs.Command.{Command, New, output_of, port_of, store_of}
use Rattle.sedona_cli.specs.Does.{Does}
use Rattle.sedona_cli.specs.Outside.{Ask, reads_in}
use Rattle.sedona_laws.specs.Told.{AreToldOf, DidNotFail, Follows}
use Rattle.sedona_laws.specs.Attached.{AsksStore}
use Rattle.sedona_cli.specs.Program.{Comes, IsAnswer, SparesDisk}
use Rattle.sedona_cli.specs.Puts.{IsOneOf}
use Rattle.sedona_cli.specs.Run.{AsksLink}
use Rattle.sedona_cli.specs.World.{World}
use Rattle.sedona_laws.specs.Files.{DidNotFailToWrite, KeepsFiles, KeepsWrites}
use Rattle.sedona_cli.proofs.Ran.{OpensOnce}
use Rattle.sedona_laws.proofs.Agreeing.{disk_agrees}
use Rattle.sedona_laws.proofs.Following.{answer_follows, file_fault, seven_follows, known_agree, reads_stay, writes_stay}
use Rattle.sedona_laws.proofs.CommandEnds.{TellsCalls}
use Rattle.sedona_laws.proofs.InputsOnce.{HasOneEnd}
use Rattle.sedona_laws.proofs.StoresOpen.{asks_store, device_fault, exists, nothing_written, spared, until_no_output, all_bound}
use Rattle.sedona_laws.proofs.LiveRun.{asks_link, link_fault}
use Rattle.sedona_laws.proofs.Outputs.{AllAsked, all_asked, keeps_files, keeps_writes, moved_none, unmoved, writes_known}
use Rattle.sedona_laws.proofs.Statuses.{all_statuses, is_answered, not_usage}

module _ {S U V T W : Type 0} (F : FileGhosts S) (L : LinkGhosts U) (C : ClockGhosts V) (D : DiskGhosts T) (O : SinkGhosts W) (command : Command) (old new : World S U V T W) (status : ℕ) (does : Does F L C D O command old new status) where
  abbrev Answer : List Ask → Type 0
  Answer asks = IsAnswer command asks (O.text old.sink) (O.text new.sink) (O.faults old.sink) (O.faults new.sink) status

  -- all that was asked, and how it is answered
  all : AllAsked F D (output_of command) old.files new.files old.disk new.disk Answer
  all = all_asked F D (output_of command) old.files new.files old.disk new.disk Answer does.answered

  pub is_one : IsOneOf all_statuses status
  is_one = is_answered command all.asks _ _ _ _ status all.holds

  pub not_one : status ≡ 1 → ⊥
  not_one = not_usage command all.asks _ _ _ _ status all.holds

  pub comes_so : HasOneEnd (Comes command) → OpensOnce → (told : List Ask) (end : Result (List ℕ) Refusal) → AreKnown (F.known old.files) (reads_in told) → AreToldOf (D.meaning old.disk) told → Comes command told end
      → DidNotFail (F.failed_reads old.files) (F.failed_reads new.files) (reads_in told) → DidNotFailToWrite (F.failed_writes old.files) (F.failed_writes new.files) told → (status ≡ 4 → ⊥) → (status ≡ 10 → ⊥)
      → Follows (O.faults old.sink) (O.faults new.sink) end status
  comes_so one once told end known told_disk comes unfailed unwritten attached taken = elim (all_bound command all.asks _ _ _ _ status all.holds taken attached) [
    | inl seven ↦ seven_follows (O.faults old.sink) (O.faults new.sink) status end seven
    | inr bound ↦
        answer_follows command all.asks told _ _ _ _ status end one comes
        (record {
          reads = known_agree (F.known old.files) (F.failed_reads old.files) (F.failed_reads new.files) (reads_in all.asks) (reads_in told) all.given all.counts.rose known unfailed;
          rest = disk_agrees once D (D.meaning old.disk) all.asks told old.disk new.disk
              (writes_known F (output_of command) old.files new.files all.asks told (λ none. nothing_written command told end none comes) all.writes unwritten)
              bound all.asked told_disk (record { told = refl; content = λ tells. refl });
        }) all.holds
  ]

  pub read_fault : TellsCalls command → (name : List ℕ) → F.failed_reads new.files name ≢ F.failed_reads old.files name → (status ≡ 3) ⊎ (status ≡ 7)
  read_fault tells name moved =
      file_fault command all.asks _ _ _ _ status (F.failed_reads old.files) (F.failed_reads new.files) name
      (reads_stay command all.asks (F.failed_reads old.files) (F.failed_reads new.files) tells all.counts.steady) all.holds moved

  pub write_fault : TellsCalls command → (name : List ℕ) → F.failed_writes new.files name ≢ F.failed_writes old.files name → (status ≡ 3) ⊎ (status ≡ 7)
  write_fault tells name moved =
      file_fault command all.asks _ _ _ _ status (F.failed_writes old.files) (F.failed_writes new.files) name
      (writes_stay command all.asks (F.failed_writes old.files) (F.failed_writes new.files) tells (unmoved F (output_of command) old.files new.files all.asks all.writes) (until_no_output command all.asks)
      (moved_none F (output_of command) old.files new.files all.asks all.writes)) all.holds moved

  pub files_kept : KeepsFiles F (output_of command) old.files new.files
  files_kept = keeps_files F D (output_of command) old.files new.files old.disk new.disk Answer does.answered

  pub writes_kept : KeepsWrites F (output_of command) old.files new.files
  writes_kept = keeps_writes F D (output_of command) old.files new.files old.disk new.disk Answer does.answered

  pub store_asked : AsksStore D (store_of command) status old.disk new.disk
  store_asked = asks_store D command all.asks _ _ _ _ status old.disk new.disk all.holds all.asked

  pub disk_rose : status ≡ 4 → Rose (D.meaning old.disk).faults (D.meaning new.disk).faults
  disk_rose four = device_fault D command all.asks _ _ _ _ status old.disk new.disk all.holds all.asked four

  pub disk_spared : IsOneOf (5 ∷ 7 ∷ 10 ∷ []) status → SparesDisk (D.meaning old.disk) (D.meaning new.disk)
  disk_spared which = spared D command all.asks _ _ _ _ status old.disk new.disk all.holds all.asked which

  pub link_asked : AsksLink L C (port_of command) status old.link new.link old.clock new.clock
  link_asked = asks_link F D L C command old.files new.files old.link new.link old.clock new.clock old.disk new.disk (O.text old.sink) (O.text new.sink) status does.live

  pub link_rose : status ≡ 10 → Rose (L.faults old.link) (L.faults new.link)
  link_rose ten = link_fault F D L C command all.asks old.files new.files old.link new.link old.clock new.clock old.disk new.disk (O.text old.sink) (O.text new.sink) _ _ status does.live all.holds ten

-- a store is not made in a file that holds anything
pub not_empty : {S U V T W : Type 0} (F : FileGhosts S) (L : LinkGhosts U) (C : ClockGhosts V) (D : DiskGhosts T) (O : SinkGhosts W) (names : List (List ℕ)) (store : List ℕ) (slot : ℕ) (old new : World S U V T W) (status : ℕ)
    → Does F L C D O (New names store slot) old new status → status ≡ 5 → IsTrue (D.meaning old.disk).tells → length (D.meaning old.disk).content ≢ 0
not_empty F L C D O names store slot old new status does five told =
    let asked = all F L C D O (New names store slot) old new status does in
    exists D names store slot asked.asks _ _ _ _ status old.disk new.disk asked.holds asked.asked five told
