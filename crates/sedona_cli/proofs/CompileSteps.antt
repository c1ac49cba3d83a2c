-- The steps of `compile`, put together from what its calls did.
use Rattle.std.proofs.Common.{◌≡◌, ℕ, List, None, Result, Ok, Err, refl, subst}
use Rattle.std.specs.Prelude.{OnOk}
use Rattle.sed_outside.specs.Files.{WritesFile}
use Rattle.sed_outside.specs.declared.files.Files.{Ghosts as FileGhosts}
use Rattle.sed_typed.specs.declared.program.Program.{Program}
use Rattle.scode_compile.specs.Compiled.{IsImageOf}
use Rattle.sed_outside.specs.Steps.{UnlessFree}
use Rattle.sed_outside.specs.Reads.{HasReads}
use Rattle.sed_outside.proofs.Joining.{same_reads}
use Rattle.sedona_cli.specs.declared.refusal.Refusal.{Refusal}
use Rattle.sedona_cli.specs.declared.refusal.Refusal.TheVariants.{Memory}
use Rattle.sedona_words.specs.Command.{Compile}
use Rattle.sedona_cli.specs.Compile.{LeavesImage}
use Rattle.sedona_cli.specs.Program.{ComesOrWants, OrWants}
use Rattle.sedona_cli.specs.Refusals.{is_want}
use Rattle.sedona_cli.specs.Steps.{AfterKits, FileWritten, KitsGenerated}
use Rattle.sedona_cli.specs.Writing.{HasOutput, HasWrite}
use Rattle.sedona_cli.proofs.ReplaySteps.{as_read}
use Rattle.sedona_cli.proofs.WriteSteps.{unread_output, wanted_output, written_output}

module _ {T : Type 0} (F : FileGhosts T) (a b : T) (out : List ℕ) (names : List (List ℕ)) (r : Result Program Refusal) (loaded : HasReads F a b (λ reads. UnlessFree is_want (KitsGenerated names reads) r)) where
  -- it is refused as the kits are loaded and compiled
  pub compile_refused : (refusal : Refusal) → r ≡ Err refusal → HasOutput F out a b (λ asks. ComesOrWants (Compile out names) asks (Err refusal))
  compile_refused refusal is = unread_output F a b out IsImageOf (AfterKits names) r refusal is (as_read F a b (KitsGenerated names) r loaded)

  -- memory is wanted behind that
  pub compile_wanted : HasOutput F out a b (λ asks. ComesOrWants (Compile out names) asks (Err Memory))
  compile_wanted = wanted_output F a b out IsImageOf (AfterKits names) _ Memory refl loaded

  -- the image is written, or the write fails
  pub compile_written : (c : T) (program : Program) (bytes : List ℕ) (end : Result (List ℕ) Refusal) → r ≡ Ok program → IsImageOf program bytes → HasWrite F out b c (λ asks. OrWants None (FileWritten out bytes) asks end)
      → HasOutput F out a c (λ asks. ComesOrWants (Compile out names) asks end)
  compile_written c program bytes end is made put = written_output F a b c out IsImageOf (AfterKits names) r program bytes end is (as_read F a b (KitsGenerated names) r loaded) made put

  pub compile_leaves : (c : T) (program : Program) (bytes : List ℕ) (end : Result (List ℕ) Refusal) → r ≡ Ok program → IsImageOf program bytes → OnOk end (WritesFile (F.known c) out bytes)
      → OnOk end (LeavesImage F out names a c)
  compile_leaves c program bytes (Err e) is made put = tt
  compile_leaves c program bytes (Ok text) is made put = (
    b,
    same_reads F a b (λ reads. UnlessFree is_want (KitsGenerated names reads) r) _
        (λ reads held. (program, subst (λ (e : Result Program Refusal). UnlessFree is_want (KitsGenerated names reads) e) is held, (bytes, made, put))) loaded,
  )
