-- What the laws of loadings and of input files say of the steps of a command.
use Rattle.std.proofs.Common.{◌≡◌, false, List, Result, Err}
use Rattle.sed_typed.specs.declared.program.Program.{Program}
use Rattle.sed_outside.specs.Steps.{Read}
use Rattle.sedona_cli.specs.declared.refusal.Refusal.{Refusal}
use Rattle.sedona_cli.specs.Refusals.{is_of_store}

-- its refusals come before a store is
abbrev pub LoadsEarly : (List Read → Result Program Refusal → Type 0) → Type 0
LoadsEarly step = (reads : List Read) (refusal : Refusal) → step reads (Err refusal) → is_of_store refusal ≡ false
