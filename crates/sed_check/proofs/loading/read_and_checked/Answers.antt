use Rattle.std.proofs.Common.{arith, string_bytes, false}
use Rattle.std.proofs.lemmas.List.{length-map}
use Rattle.kit_sources.specs.Sources.{KitsRead, names_of}
use Rattle.sed_check.specs.Loading.{IsChecked, KitsLoaded}
use Rattle.sed_check.proofs.Loads.{goes_checked, stops_checked}
use Rattle.sed_check.proofs.KitsUnits.{all_read}
use Rattle.sed_check.proofs.loading.read_and_checked.Goals as goal

pub checked-requires : goal.checked-requires
checked-requires g c =
    let words = c.args.names.now in
    let read = c.in-Ok.ensures.read in
    let many = c.kits_are_counted.ensures.kits (names_of words) read.reads c.in-Ok.sources read.holds in
    record {
      kits = omega (arith, many, length-map words (λ word. string_bytes word), c.requires);
      named = record {
        names = c.kits_are_named.ensures.names (names_of words) read.reads c.in-Ok.sources read.holds;
        once = c.kits_are_named.ensures.once (names_of words) read.reads c.in-Ok.sources read.holds;
      };
      read = all_read c.units_are_read.ensures c.in-Ok.sources.kits c.in-Ok.ensures.bytes;
    }

pub returns-in-Ok-clause-loaded : goal.returns-in-Ok-clause-loaded
unfolding KitsLoaded
returns-in-Ok-clause-loaded g c =
    goes_checked g.F.Files c.args.files.now c.read_kits.new.files (KitsRead (names_of c.args.names.now)) (IsChecked false) c.in-Ok.sources _ c.in-Ok.ensures.read c.checked.ensures.said

pub returns-in-Err-clause-loaded : goal.returns-in-Err-clause-loaded
unfolding KitsLoaded
returns-in-Err-clause-loaded g c =
    stops_checked g.F.Files c.args.files.now c.read_kits.new.files (KitsRead (names_of c.args.names.now)) (IsChecked false) c.in-Err.refusal _ c.of_sources.ensures c.in-Err.ensures.read
