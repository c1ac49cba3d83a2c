use Rattle.std.proofs.Common.{◌≡◌, ap, ◌∙◌}
use Rattle.sed_classes.specs.Schema.{kit_refs}
use Rattle.sed_outline.proofs.Fitting.{fits}
use Rattle.sed_outline.proofs.Signed.{kits_signed}
use Rattle.sed_outline.proofs.schema.classes.Goals as goal

pub outline-requires : goal.outline-requires
outline-requires c = fits c.args.units.now c.requires

pub returns : goal.returns
returns c =
    let units = c.args.units.now in
    let made = c.in_ok-outline.ensures in
    let kits : c.new.result ≡ kit_refs units =
    c.new.ensures ∙ kits_signed units c.in_ok-outline.outline c.in_ok-kits.kits.items made c.in_ok-kits.ensures in
    ap (λ k. record { kits = k; classes = c.in_ok-outline.outline.classes }) kits
    ∙ ap (λ s. record { kits = kit_refs units; classes = s.classes }) made
