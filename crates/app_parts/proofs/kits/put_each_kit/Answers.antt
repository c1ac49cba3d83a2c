use Rattle.std.proofs.Common.{length, ap, arith, length-append}
use Rattle.std.specs.List.{flat_map}
use Rattle.comp_tree.specs.Edit.{kit_bytes}
use Rattle.sed_wire.proofs.WritingLemmas.{room-after}
use Rattle.app_parts.proofs.SoFar.{all_put, flat_map-end, length-so_far, next_item, none_yet}
use Rattle.app_parts.proofs.kits.put_each_kit.Goals as goal

pub loop-kit-init : goal.loop-kit-init
loop-kit-init c = (none_yet c.args.writer.now (flat_map kit_bytes c.args.kits.now), omega arith, omega (arith, c.requires))

pub loop-kit-preserved : goal.loop-kit-preserved
loop-kit-preserved c =
    let s = c.loop-kit.invariant in
    let k = c.kit-item.result in
    let short = c.put_kit.ensures.short in
    let front = length-append s.0.front (kit_bytes k) in
    let less = s.1 in
    let room = s.2 in
    let after = room-after _ _ (kit_bytes k) c.put_kit.ensures.bytes in (
      next_item kit_bytes _ _ _ c.args.kits.now c.loop-kit.kit-index k s.0 c.put_kit.ensures.bytes c.loop-kit-test.true c.kit-item.is,
      omega (arith, short, front, less),
      omega (arith, short, room, after),
    )

pub returns-clause-bytes : goal.returns-clause-bytes
returns-clause-bytes c = all_put _ _ _ _ c.loop-kit.invariant.0 (flat_map-end kit_bytes c.args.kits.now c.loop-kit.kit-index c.loop-kit-test.false)

pub returns-clause-short : goal.returns-clause-short
returns-clause-short c =
    let s = c.loop-kit.invariant in
    let whole = length-so_far _ _ _ _ s.0 in
    let less = s.1 in
    let none = ap length (flat_map-end kit_bytes c.args.kits.now c.loop-kit.kit-index c.loop-kit-test.false) in
    let many = c.loop-kit.auto.kit-index-end in
    omega (arith, whole, less, none, many)
