use Rattle.sed_outside.proofs.Rows.{row_goes, row_stops}
use Rattle.kit_sources.specs.Refusals.{is_want}
use Rattle.kit_sources.specs.Sources.{ManifestRead, names_of}
use Rattle.kit_sources.proofs.Loops.{named, named_within, row_wanted}
use Rattle.kit_sources.proofs.manifests.read_manifests.Goals as goal

pub returns-in_err-push-in-Ok : goal.returns-in_err-push-in-Ok
returns-in_err-push-in-Ok g c =
    row_wanted g.F.Files c.args.files.now c.loop-name.files c.read_named.new.files ManifestRead (names_of c.args.names.now) _ _
    c.from_residual.result c.from_residual.ensures.1 c.loop-name.invariant c.in-Ok.ensures

pub returns-in-Err : goal.returns-in-Err
returns-in-Err g c =
    let words = c.args.names.now in
    let i = c.loop-name.name-index in
    let name = c.as_str.result.now in
    row_stops g.F.Files c.args.files.now c.loop-name.files c.read_named.new.files is_want ManifestRead (names_of words) i name
    c.loop-name.manifests.items c.in-Err.refusal (named_within words i c.loop-name-test.true) (named words i c.name-item.result name c.as_str.ensures.value c.name-item.is)
    c.loop-name.invariant c.in-Err.ensures

pub loop-name-preserved : goal.loop-name-preserved
loop-name-preserved g c =
    let words = c.args.names.now in
    let i = c.loop-name.name-index in
    let name = c.as_str.result.now in
    row_goes g.F.Files c.args.files.now c.loop-name.files c.read_named.new.files ManifestRead (names_of words) i name
    c.loop-name.manifests.items _ c.in-Ok.manifest (named_within words i c.loop-name-test.true) (named words i c.name-item.result name c.as_str.ensures.value c.name-item.is)
    c.in_ok-push-in-Ok.ensures.items c.loop-name.invariant c.in-Ok.ensures
