-- `compile` comes to one end, tells the calls that failed, and asks files alone.
use Rattle.std.proofs.Common.{◌≡◌, ℕ, true, false, List, ◌++◌, Result, Err}
use Rattle.std.specs.List.{list_all}
use Rattle.scode_compile.specs.Compiled.{IsImageOf}
use Rattle.sed_outside.specs.Reads.{failed_names}
use Rattle.sed_check.specs.Refusals.{AreAlike}
use Rattle.sedona_cli.specs.declared.refusal.Refusal.{Refusal}
use Rattle.sedona_laws.specs.Agree.{failed_by}
use Rattle.sedona_cli.specs.Compile.{CompileComes}
use Rattle.sedona_cli.specs.Outside.{Ask, is_of_files, reads_in}
use Rattle.sedona_cli.specs.Refusals.{is_of_store}
use Rattle.sedona_cli.specs.Steps.{AfterKits, KitsGenerated}
use Rattle.sedona_laws.specs.Files.{unwritten_in}
use Rattle.sedona_laws.proofs.Alike.{reads_alike}
use Rattle.sedona_laws.proofs.InputsOnce.{HasOneEnd, LoadTells, LoadsOne}
use Rattle.sedona_laws.proofs.ReplayEnds.{reads_tell}
use Rattle.sedona_laws.proofs.WritingOnce.{written_early, written_of_files, written_once, written_tells}
use Rattle.sedona_cli.proofs.Imaging.{kits_alone}

module _ (out : List ℕ) (names : List (List ℕ)) where
  pub compile_one_end : LoadsOne (KitsGenerated names) → HasOneEnd (CompileComes out names)
  compile_one_end kits = written_once out IsImageOf (AfterKits names) AreAlike (reads_alike (KitsGenerated names) AreAlike kits)

  pub compile_of_files : (asks : List Ask) (end : Result (List ℕ) Refusal) → CompileComes out names asks end → list_all is_of_files asks ≡ true
  compile_of_files = written_of_files out IsImageOf (AfterKits names) (kits_alone out names)

  pub compile_early : (asks : List Ask) (r : Refusal) → CompileComes out names asks (Err r) → is_of_store r ≡ false
  compile_early = written_early out IsImageOf (AfterKits names) (kits_alone out names)

  pub compile_tells : LoadTells (KitsGenerated names) → (asks : List Ask) (end : Result (List ℕ) Refusal) → CompileComes out names asks end
      → failed_names (reads_in asks) ++ unwritten_in asks ≡ failed_by end
  compile_tells kits = written_tells out IsImageOf (AfterKits names) (kits_alone out names) (reads_tell (KitsGenerated names) kits)
