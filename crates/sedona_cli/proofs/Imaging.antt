-- Where `compile` is refused no file was written.
use Rattle.std.proofs.Common.{◌≡◌, ℕ, true, false, List, ◌++◌, None, Result, Err}
use Rattle.std.specs.List.{list_all}
use Rattle.scode_compile.specs.Compiled.{IsImageOf}
use Rattle.sed_outside.specs.Reads.{failed_names}
use Rattle.sed_check.specs.Loading.{KitsLoaded}
use Rattle.sed_check.specs.Refusals.{AreAlike}
use Rattle.sedona_cli.specs.declared.refusal.Refusal.{Refusal}
use Rattle.sedona_cli.specs.Compile.{CompileComes}
use Rattle.sedona_cli.specs.Outside.{Ask, Spares, is_of_files, reads_in}
use Rattle.sedona_cli.specs.Refusals.{is_of_store}
use Rattle.sedona_cli.specs.Steps.{AfterKits, KitsGenerated}
use Rattle.sedona_cli.proofs.Generated.{generates_early}
use Rattle.sedona_cli.proofs.ReplayAsked.{FilesAlone, reads_alone}
use Rattle.sedona_cli.proofs.WritingLast.{written_spares}

module _ (out : List ℕ) (names : List (List ℕ)) where
  pub kits_alone : FilesAlone (AfterKits names)
  kits_alone = reads_alone (KitsGenerated names) (generates_early (KitsLoaded names))

  -- where it is refused no file was written
  pub compile_spares : (asks : List Ask) (r : Refusal) → CompileComes out names asks (Err r) → Spares None asks
  compile_spares = written_spares out IsImageOf (AfterKits names) kits_alone
