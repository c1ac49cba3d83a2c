use Rattle.std.proofs.Common.{◌≡◌, true, ◌∷◌, [], sym, subst, false, ◌∙◌}
use Rattle.std.proofs.Math.ListN.{set}
use Rattle.kit_manifest.specs.Links.{is_marked, Reaches}
use Rattle.kit_manifest.proofs.Marks.{is_marked-read, Reaches-new}
use Rattle.kit_manifest.proofs.links.reach_one.Goals as goal

pub returns : goal.returns
returns c =
    let left : is_marked c.args.reached.now.items c.args.place ≡ false =
    is_marked-read c.args.reached.now.items c.args.place c.index.result.now c.requires c.index.ensures ∙ c.if-index.false in
    subst (λ waiting. Reaches (c.args.place ∷ []) c.args.reached.now.items (set c.args.reached.now.items c.args.place true) c.args.waiting.now.items waiting)
    (sym c.in_ok-push.ensures.items)
    (Reaches-new c.args.place c.args.reached.now.items c.args.waiting.now.items c.requires left)
