use Rattle.sed_outside.proofs.Rows.{row_goes, row_stops}
use Rattle.kit_sources.specs.Refusals.{is_want}
use Rattle.kit_sources.specs.Sources.{SourceRead}
use Rattle.kit_sources.specs.Text.{IsOfBytes}
use Rattle.kit_sources.proofs.Loops.{same_item, all_more, row_wanted}
use Rattle.kit_sources.proofs.kits.read_sources.Goals as goal

pub returns-in_err-push-in-Ok-clause-read : goal.returns-in_err-push-in-Ok-clause-read
returns-in_err-push-in-Ok-clause-read g c =
    row_wanted g.F.Files c.args.files.now c.loop-name.files c.read_source.new.files SourceRead c.args.names.now _ _
    c.from_residual.result c.from_residual.ensures.1 c.loop-name.invariant.read c.in-Ok.ensures.read

pub returns-in-Err-clause-read : goal.returns-in-Err-clause-read
returns-in-Err-clause-read g c =
    row_stops g.F.Files c.args.files.now c.loop-name.files c.read_source.new.files is_want SourceRead c.args.names.now c.loop-name.name-index c.as_str.result.now
    c.loop-name.units.items c.in-Err.refusal c.loop-name-test.true (same_item c.args.names.now c.loop-name.name-index c.as_str.result.now c.name-item.result c.as_str.ensures c.name-item.is)
    c.loop-name.invariant.read c.in-Err.ensures.read

pub loop-name-preserved : goal.loop-name-preserved
loop-name-preserved g c = record {
  read =
      row_goes g.F.Files c.args.files.now c.loop-name.files c.read_source.new.files SourceRead c.args.names.now c.loop-name.name-index c.as_str.result.now
      c.loop-name.units.items _ c.in-Ok.unit c.loop-name-test.true (same_item c.args.names.now c.loop-name.name-index c.as_str.result.now c.name-item.result c.as_str.ensures c.name-item.is)
      c.in_ok-push-in-Ok.ensures.items c.loop-name.invariant.read c.in-Ok.ensures.read;
  bytes = all_more IsOfBytes c.loop-name.units.items _ c.in-Ok.unit c.in_ok-push-in-Ok.ensures.items c.loop-name.invariant.bytes c.in-Ok.ensures.bytes;
}
