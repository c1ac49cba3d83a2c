use Rattle.std.proofs.Common.{◌≡◌, ℕ, Ok, Err, get_or, length, sym, subst}
use Rattle.std.specs.Prelude.{All}
use Rattle.std.proofs.lemmas.List.{get_or_default}
use Rattle.sed_outside.proofs.Rows.{row_goes, row_stops}
use Rattle.sed_classes.specs.declared.kit_units.KitUnits.{KitUnits}
use Rattle.kit_sources.specs.Refusals.{is_want}
use Rattle.kit_sources.specs.Sources.{KitRead, manifest_at}
use Rattle.kit_sources.specs.Text.{IsOfBytes, AreOfBytes}
use Rattle.kit_sources.proofs.Loops.{all_more, row_wanted}
use Rattle.kit_sources.proofs.Whole.{kit_at, place_within}
use Rattle.kit_sources.proofs.kits.read_each.Goals as goal

pub returns-in_err-push-in-Ok-clause-read : goal.returns-in_err-push-in-Ok-clause-read
returns-in_err-push-in-Ok-clause-read g c =
    row_wanted g.F.Files c.args.files.now c.loop-place.files c.read_kit.new.files (λ place. KitRead (manifest_at c.args.manifests.now place)) c.args.order.now _ _
    c.from_residual.result c.from_residual.ensures.1 c.loop-place.invariant.read c.in-Ok.ensures.read

pub returns-in-Err-clause-read : goal.returns-in-Err-clause-read
returns-in-Err-clause-read g c =
    let order = c.args.order.now in
    let manifests = c.args.manifests.now in
    let i = c.loop-place.place-index in
    let place : ℕ = get_or order i 0 in
    let item : place ≡ get_or order i place = get_or_default order i 0 place c.loop-place-test.true in
    row_stops g.F.Files c.args.files.now c.loop-place.files c.read_kit.new.files is_want (λ p. KitRead (manifest_at manifests p)) order i place
    c.loop-place.kits.items c.in-Err.refusal c.loop-place-test.true item c.loop-place.invariant.read
    (kit_at g.F.Files c.loop-place.files c.read_kit.new.files manifests place c.index-manifests-place.result (Err c.in-Err.refusal)
    (place_within (length manifests) order i place c.requires c.loop-place-test.true item) c.index-manifests-place.is c.in-Err.ensures.read)

pub loop-place-preserved : goal.loop-place-preserved
loop-place-preserved g c =
    let order = c.args.order.now in
    let manifests = c.args.manifests.now in
    let i = c.loop-place.place-index in
    let place : ℕ = get_or order i 0 in
    let item : place ≡ get_or order i place = get_or_default order i 0 place c.loop-place-test.true in
    record {
      read =
          row_goes g.F.Files c.args.files.now c.loop-place.files c.read_kit.new.files (λ p. KitRead (manifest_at manifests p)) order i place
          c.loop-place.kits.items _ c.in-Ok.kit c.loop-place-test.true item c.in_ok-push-in-Ok.ensures.items c.loop-place.invariant.read
          (kit_at g.F.Files c.loop-place.files c.read_kit.new.files manifests place c.index-manifests-place.result (Ok c.in-Ok.kit)
          (place_within (length manifests) order i place c.requires c.loop-place-test.true item) c.index-manifests-place.is c.in-Ok.ensures.read);
      bytes = all_more (λ (kit : KitUnits). All IsOfBytes kit.units) c.loop-place.kits.items _ c.in-Ok.kit c.in_ok-push-in-Ok.ensures.items c.loop-place.invariant.bytes c.in-Ok.ensures.bytes;
    }

pub returns-clause-bytes : goal.returns-clause-bytes
returns-clause-bytes g c = subst AreOfBytes (sym c.new.ensures) c.loop-place.invariant.bytes
