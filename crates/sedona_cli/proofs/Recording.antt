-- `gen` comes to one end, tells the calls that failed, and asks files alone.
use Rattle.std.proofs.Common.{ℕ, List, [], None, Err, ap}
use Rattle.sed_typed.specs.declared.program.Program.{Program}
use Rattle.dasp_session.specs.declared.user.User.{User}
use Rattle.input_files.specs.Inputs.{SecretRead, UsersRead}
use Rattle.sed_check.specs.Loading.{KitsLoaded}
use Rattle.sedona_cli.specs.declared.refusal.Refusal.{Refusal}
use Rattle.sedona_words.specs.Command.{RecordAsked}
use Rattle.sedona_cli.specs.Gen.{GenComes, IsRecordFrom, RecordInputsRead, UsersWith}
use Rattle.sedona_cli.specs.Outside.{Ask, Spares}
use Rattle.sedona_cli.specs.Refusals.{is_of_store, of_inputs}
use Rattle.sedona_cli.specs.Steps.{KitsGenerated}
use Rattle.sedona_cli.proofs.Generated.{generates_early}
use Rattle.sedona_cli.proofs.ReplayAsked.{FilesAlone, early_inputs, files_alone, gives_alone, reads_alone, then_alone}
use Rattle.sedona_cli.proofs.WritingLast.{written_spares}

-- ---- files alone

users_alone : (file user : List ℕ) → FilesAlone (UsersWith file user)
users_alone file user =
    then_alone _ _ (files_alone of_inputs (UsersRead file) early_inputs)
    (λ (us : List User). record { reads = λ asks end h. ([], h.none); early = λ asks r h. ap is_of_store h.holds.0 })

pub record_alone : (g : RecordAsked) → FilesAlone (RecordInputsRead g)
record_alone g =
    then_alone _ _ (reads_alone (KitsGenerated g.kits) (generates_early (KitsLoaded g.kits)))
    (λ (p : Program). then_alone _ _ (users_alone g.users g.user)
    (λ (u : List User). then_alone _ _ (files_alone of_inputs (SecretRead g.secret) early_inputs) (λ (s : List ℕ). gives_alone _)))

-- where it is refused no file was written
pub gen_spares : (g : RecordAsked) (asks : List Ask) (r : Refusal) → GenComes g asks (Err r) → Spares None asks
gen_spares g = written_spares g.out (IsRecordFrom g) (RecordInputsRead g) (record_alone g)
