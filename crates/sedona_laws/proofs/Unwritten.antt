-- Writes that failed, behind reads.
use Rattle.std.proofs.Common.{◌≡◌, List, [], ◌∷◌, ◌++◌, refl}
use Rattle.sed_outside.specs.Steps.{Read}
use Rattle.sedona_cli.specs.Outside.{Ask, of_reads}
use Rattle.sedona_laws.specs.Files.{unwritten_in}

pub unwritten_behind : (reads : List Read) (asks : List Ask) → unwritten_in (of_reads reads ++ asks) ≡ unwritten_in asks
unwritten_behind [] asks = refl
unwritten_behind (read ∷ reads) asks = unwritten_behind reads asks
