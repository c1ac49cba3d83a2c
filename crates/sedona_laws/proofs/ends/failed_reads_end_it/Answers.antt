use Rattle.std.proofs.Common.{ℕ, List}
use Rattle.sed_check.specs.Loading.{KitsLoaded, TextLoaded}
use Rattle.sedona_laws.proofs.CommandEnds.{tells_comes}
use Rattle.sedona_laws.proofs.LoadedOnce.{generates_tell}
use Rattle.sedona_laws.proofs.ends.failed_reads_end_it.Goals as goal

pub returns : goal.returns
returns c =
    tells_comes (λ (names : List (List ℕ)). generates_tell (KitsLoaded names) (c.failed_loads_are_told.ensures.kits names))
    (λ (file : List ℕ). generates_tell (TextLoaded file) (c.failed_loads_are_told.ensures.text file))
    (record { users = c.failed_inputs_are_told.ensures.of_users; secret = c.failed_inputs_are_told.ensures.of_secret; record_text = c.failed_inputs_are_told.ensures.of_record; code = c.failed_inputs_are_told.ensures.of_code })
