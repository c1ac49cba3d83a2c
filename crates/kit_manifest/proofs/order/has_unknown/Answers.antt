use Rattle.std.proofs.Common.{◌≡◌, sym, ap, ◌∙◌, subst, take}
use Rattle.std.specs.Prelude.{Contains}
use Rattle.std.proofs.lemmas.Bool.{false≢true}
use Rattle.std.proofs.lemmas.List.{take_all}
use Rattle.kit_manifest.specs.Order.{IsUnknown, depends_of}
use Rattle.kit_manifest.proofs.Kits.{depends_of-read, none_more}
use Rattle.kit_manifest.proofs.order.has_unknown.Goals as goal

pub loop-name-preserved : goal.loop-name-preserved
loop-name-preserved c =
    none_more (IsUnknown c.args.list.now) c.as_slice-name-items.result.now c.loop-name.name-index c.name-item.result c.loop-name-test.true c.name-item.is c.loop-name.invariant
    (λ unknown. false≢true (c.if-is_unknown.ensures.1 unknown))

pub returns : goal.returns
returns c =
    let whole : take c.loop-name.name-index c.as_slice-name-items.result.now ≡ depends_of c.args.list.now c.args.place =
    take_all c.loop-name.name-index c.as_slice-name-items.result.now c.loop-name-test.false
    ∙ (c.as_slice-name-items.ensures ∙ (ap (λ kit. kit.depends) (sym c.index-list-place.is)
    ∙ sym (depends_of-read c.args.list.now c.args.place c.index-list-place.result c.requires c.index-list-place.is))) in (
      λ yes. absurd (false≢true yes),
      λ has. absurd (c.loop-name.invariant has.name (subst (λ l. Contains l has.name) (sym whole) has.wanted) has.unknown),
    )
