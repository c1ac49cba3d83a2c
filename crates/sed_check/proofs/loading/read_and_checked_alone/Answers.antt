use Rattle.std.proofs.Common.{true}
use Rattle.sed_units.specs.declared.classes.Unit.{Unit as TheUnit}
use Rattle.kit_sources.specs.Sources.{SourceRead}
use Rattle.sed_check.specs.Loading.{IsChecked, TextLoaded, local}
use Rattle.sed_check.proofs.Loads.{goes_checked, stops_checked}
use Rattle.sed_check.proofs.KitsUnits.{local_few, local_named, local_read, local_checked, local_runs}
use Rattle.sed_check.proofs.loading.read_and_checked_alone.Goals as goal

pub checked-requires : goal.checked-requires
checked-requires g c = record {
  kits = local_few c.in-Ok-local.sources c.args.name.now c.in-Ok.unit c.in-Ok-local.ensures;
  named = local_named c.in-Ok-local.sources c.args.name.now c.in-Ok.unit c.in-Ok-local.ensures;
  read = local_read c.units_are_read.ensures c.in-Ok-local.sources c.args.name.now c.in-Ok.unit c.in-Ok-local.ensures c.in-Ok.ensures.bytes;
}

pub returns-in-Ok-local-clause-loaded : goal.returns-in-Ok-local-clause-loaded
unfolding TextLoaded
returns-in-Ok-local-clause-loaded g c =
    goes_checked g.F.Files c.args.files.now c.read_source.new.files (SourceRead c.args.name.now) (λ (u : TheUnit). IsChecked true (local c.args.name.now u)) c.in-Ok.unit _ c.in-Ok.ensures.read
    (local_checked c.in-Ok-local.sources c.args.name.now c.in-Ok.unit _ c.in-Ok-local.ensures c.checked.ensures.said)

pub returns-in-Err-clause-loaded : goal.returns-in-Err-clause-loaded
unfolding TextLoaded
returns-in-Err-clause-loaded g c =
    stops_checked g.F.Files c.args.files.now c.read_source.new.files (SourceRead c.args.name.now) (λ (u : TheUnit). IsChecked true (local c.args.name.now u)) c.in-Err.refusal _ c.of_sources.ensures c.in-Err.ensures.read

pub returns-in-Ok-local-clause-runnable : goal.returns-in-Ok-local-clause-runnable
returns-in-Ok-local-clause-runnable g c =
    local_runs c.units_are_read.ensures c.first_classes_run.ensures c.in-Ok-local.sources c.args.name.now c.in-Ok.unit _ c.in-Ok-local.ensures c.in-Ok.ensures.bytes c.checked.ensures.said
