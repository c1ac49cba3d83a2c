use Rattle.std.proofs.Common.{ℕ, ◌+◌, sym, ◌∙◌, ap, subst, w64, to_z, of_z}
use Rattle.sed_engine.specs.Code.{Meaning}
use Rattle.sub_table.specs.Link.{Link}
use Rattle.comp_tree.specs.Held.{components_of}
use Rattle.comp_tree.specs.Links.{copy_along}
use Rattle.comp_tree.specs.Whole.{IsLink}
use Rattle.comp_tree.specs.Calls.{Counted}
use Rattle.comp_tree.specs.Marks.{KeepsMarks, values_at}
use Rattle.comp_tree.proofs.SameCodes.{same_still}
use Rattle.link_prop.proofs.AlikeComponents.{class_at}
use Rattle.link_prop.proofs.CopiedLinks.{CopiedSoFar, alike_copy, copied_more, linked_now}
use Rattle.link_prop.proofs.CopiedMarks.{keeps_more}
use Rattle.link_prop.proofs.app.copying.copy_all.Goals as goal

pub copy_one-trapped-requires : goal.copy_one-trapped-requires
copy_one-trapped-requires g c =
    let m = g.E.Engine.meaning c.args.tree.now.engine in
    let now = components_of g.E.Engine c.loop-at.tree in
    subst (λ (m : Meaning). IsLink m now.by_id c.index-links-at.result) (sym c.loop-at.invariant.same.meaning)
    (subst (λ (l : Link). IsLink m now.by_id l) (sym c.index-links-at.is)
    (linked_now m c.args.turns (to_z w64 (of_z w64 c.args.ticks)) (components_of g.E.Engine c.args.tree.now) now c.args.links.now c.loop-at.at
    c.loop-at.traps c.loop-at.invariant.copied c.index-links-at.result c.loop-at-test.true c.requires.typed))

pub loop-at-preserved : goal.loop-at-preserved
loop-at-preserved g c =
    let m = g.E.Engine.meaning c.args.tree.now.engine in
    let moment = to_z w64 (of_z w64 c.args.ticks) in
    let now = components_of g.E.Engine c.loop-at.tree in
    let after = components_of g.E.Engine c.copy_one-trapped.new.tree in
    record {
      copied = subst (λ n. CopiedSoFar m c.args.turns moment (components_of g.E.Engine c.args.tree.now) after c.args.links.now (c.loop-at.at + 1) n)
          (sym c.counted-traps.ensures)
          (copied_more m c.args.turns moment (components_of g.E.Engine c.args.tree.now) now c.args.links.now c.loop-at.at c.loop-at.traps
          c.loop-at.invariant.copied c.index-links-at.result after c.copy_one-trapped.result c.loop-at-test.true
          (λ k. ap (λ (l : Link). copy_along m c.args.turns moment (record { left = now; traps = k }) l) (sym c.index-links-at.is)
          ∙ ap (λ (n : Meaning). copy_along n c.args.turns moment (record { left = now; traps = k }) c.index-links-at.result) (sym c.loop-at.invariant.same.meaning)
          ∙ c.copy_one-trapped.ensures.copied k));
      marks = keeps_more g.E.Engine c.args.id.0 c.args.tree.now c.loop-at.tree c.copy_one-trapped.new.tree c.loop-at.invariant.marks
          (subst (λ (to : ℕ). KeepsMarks g.E.Engine (values_at to) c.loop-at.tree c.copy_one-trapped.new.tree)
          (ap (λ (l : Link). l.to) c.index-links-at.is ∙ c.requires.into c.loop-at.at c.index-links-at.result c.loop-at-test.true) c.copy_one-trapped.ensures.marks)
          (λ q. ap (λ (s : Counted). class_at s.left.by_id q) (sym (c.copy_one-trapped.ensures.copied 0)) ∙ alike_copy (g.E.Engine.meaning c.loop-at.tree.engine) c.args.turns moment (record { left = now; traps = 0 }) c.index-links-at.result q);
      same = same_still c.loop-at.invariant.same c.copy_one-trapped.ensures.same;
    }
