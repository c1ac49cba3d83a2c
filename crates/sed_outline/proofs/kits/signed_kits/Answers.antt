use Rattle.std.proofs.Common.{◌∷◌, [], ◌++◌, FitsSigned, get_or, arith, rules, sym, ap, ◌∙◌, to_z-of_z}
use Rattle.std.specs.Int.{w32}
use Rattle.sed_value.specs.declared.kit.KitRef.{KitRef}
use Rattle.sed_outline.specs.Fits.{signed_as}
use Rattle.sed_outline.proofs.Signed.{signed_step}
use Rattle.sed_outline.proofs.kits.signed_kits.Goals as goal

pub loop-number-preserved : goal.loop-number-preserved
loop-number-preserved c =
    let kit : KitRef = c.index-as_slice-number.result in
    let far = c.loop-number.all.items in
    let fits : FitsSigned w32 c.in_ok-checksum.checksum = search rules in
    signed_step
    c.args.outline.now
    c.loop-number.number
    c.args.outline.now.kits
    kit
    (signed_as kit.name c.in_ok-checksum.checksum)
    far
    c.push_signed.new.into.items
    (omega arith)
    (sym (c.index-as_slice-number.is ∙ ap (λ kits. get_or kits c.loop-number.number kit) c.as_slice.ensures))
    (c.in_ok-push_signed.ensures ∙ ap (λ k. far ++ signed_as kit.name k ∷ []) (to_z-of_z fits))
    (ap (signed_as kit.name) c.in_ok-checksum.ensures)
    c.loop-number.invariant
