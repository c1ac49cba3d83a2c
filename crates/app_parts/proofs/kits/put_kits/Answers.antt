use Rattle.std.proofs.Common.{List, length, ap, subst, arith, length-append}
use Rattle.std.specs.List.{flat_map}
use Rattle.sed_value.specs.declared.kit.KitRef.{KitRef}
use Rattle.sed_wire.specs.Writing.{Appends}
use Rattle.sed_wire.proofs.WritingLemmas.{appends-then, room-after}
use Rattle.comp_tree.specs.Edit.{kit_bytes}
use Rattle.comp_tree.specs.Parts.{u1}
use Rattle.app_parts.specs.Told.{kits_bytes}
use Rattle.app_parts.proofs.kits.put_kits.Goals as goal

pub put_each_kit-requires : goal.put_each_kit-requires
put_each_kit-requires c =
    let after = room-after _ _ (u1 (length c.as_slice-kits.result.now)) c.put_u1.ensures.bytes in
    let few = c.requires.few in
    let room = c.requires.room in
    let same = ap length c.as_slice-kits.ensures in
    omega (arith, after, few, room, same)

pub returns-clause-bytes : goal.returns-clause-bytes
returns-clause-bytes c =
    subst (λ (ks : List KitRef). Appends c.args.writer.now c.put_each_kit.new.writer (kits_bytes ks)) c.as_slice-kits.ensures
    (appends-then _ _ _ (u1 (length c.as_slice-kits.result.now)) (flat_map kit_bytes c.as_slice-kits.result.now) c.put_u1.ensures.bytes c.put_each_kit.ensures.bytes)

pub returns-clause-short : goal.returns-clause-short
returns-clause-short c =
    let kits = c.as_slice-kits.result.now in
    let whole = length-append (u1 (length kits)) (flat_map kit_bytes kits) in
    let short = c.put_each_kit.ensures.short in
    let few = c.requires.few in
    let same = ap length c.as_slice-kits.ensures in
    let all = ap (λ (ks : List KitRef). length (kits_bytes ks)) c.as_slice-kits.ensures in
    omega (arith, whole, short, few, same, all)
