use Rattle.std.proofs.Common.{ℕ, ◌+◌, Bool, ◌∙◌, ap}
use Rattle.std.specs.Prelude.{if◌then◌else◌}
use Rattle.comp_tree.specs.Marks.{marks_at, mask_of}
use Rattle.link_prop.specs.Linked.{Linked}
use Rattle.link_prop.specs.Marks.{is_in_mask, is_marked}
use Rattle.link_prop.proofs.Masks.{bits_at}
use Rattle.link_prop.proofs.app.App.touched.Goals as goal

pub returns-clause-bits : goal.returns-clause-bits
returns-clause-bits g c = λ part.
    let i = c.self.inside in
    let inside : Linked _ = record { tree = i.tree; links = i.links; marks = i.marks } in
    let own = mask_of (marks_at i.tree c.args.id.0 c.args.place) in
    ap (λ (mask : ℕ). is_in_mask mask part)
    (c.with_links.ensures ∙ ap (λ (n : ℕ). n + (if c.is_marked.result then 8 else 0)) c.touched-own.ensures ∙ ap (λ (b : Bool). own + (if b then 8 else 0)) c.is_marked.ensures)
    ∙ bits_at inside c.args.id.0 c.args.place part ∙ ap (λ (x : Linked _). is_marked x c.args.id.0 c.args.place part) c.self.view_is
