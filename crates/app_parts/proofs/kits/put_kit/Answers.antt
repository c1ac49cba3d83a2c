use Rattle.std.proofs.Common.{ℕ, List, [], ◌∷◌, length, ap, subst, arith, length-append}
use Rattle.sed_wire.specs.Writing.{Appends}
use Rattle.sed_wire.proofs.WritingLemmas.{appends-then, room-after}
use Rattle.comp_tree.specs.Parts.{text}
use Rattle.app_parts.specs.Told.{checksum_bytes}
use Rattle.app_parts.proofs.ValueLemmas.{kit_name_short}
use Rattle.app_parts.proofs.kits.put_kit.Goals as goal

pub put_text-requires : goal.put_text-requires
put_text-requires c =
    let short = kit_name_short c.args.kit.now.name c.as_bytes.ensures.form in
    let same = ap length c.as_bytes.ensures.same in
    let room = c.requires in
    omega (arith, short, same, room)

pub put_checksum-requires : goal.put_checksum-requires
put_checksum-requires c =
    let short = kit_name_short c.args.kit.now.name c.as_bytes.ensures.form in
    let same = ap length c.as_bytes.ensures.same in
    let room = c.requires in
    let whole = length-append c.as_bytes.result.now (0 ∷ []) in
    let after = room-after _ _ (text c.as_bytes.result.now) c.put_text.ensures in
    omega (arith, short, same, room, whole, after)

pub returns-clause-bytes : goal.returns-clause-bytes
returns-clause-bytes c =
    appends-then _ _ _ (text c.args.kit.now.name) (checksum_bytes c.args.kit.now)
    (subst (λ (t : List ℕ). Appends c.args.writer.now c.put_text.new.writer (text t)) c.as_bytes.ensures.same c.put_text.ensures) c.put_checksum.ensures

pub returns-clause-short : goal.returns-clause-short
returns-clause-short c =
    let short = kit_name_short c.args.kit.now.name c.as_bytes.ensures.form in
    let name = length-append c.args.kit.now.name (0 ∷ []) in
    let whole = length-append (text c.args.kit.now.name) (checksum_bytes c.args.kit.now) in
    omega (arith, short, name, whole)
