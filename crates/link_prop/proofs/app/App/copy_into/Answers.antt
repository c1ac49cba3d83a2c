use Rattle.std.proofs.Common.{ℕ, ◌≡◌, ◌≤◌, length, List, sym, ap, subst, w64, to_z, of_z, arith}
use Rattle.std.specs.List.{All}
use Rattle.sub_table.specs.Link.{Link, most_links}
use Rattle.comp_tree.specs.Calls.{Counted}
use Rattle.comp_tree.specs.Held.{components_of}
use Rattle.comp_tree.specs.Whole.{IsLink}
use Rattle.link_prop.proofs.AlikeComponents.{linked_if}
use Rattle.link_prop.specs.Marks.{values_at}
use Rattle.link_prop.proofs.AppMarks.{keeps_own}
use Rattle.link_prop.proofs.CopiedLinks.{alike_copies, all_into, few_into}
use Rattle.link_prop.proofs.CopiedMarks.{all_to}
use Rattle.link_prop.proofs.app.App.copy_into.Goals as goal

pub copy_all-requires-clause-typed : goal.copy_all-requires-clause-typed
copy_all-requires-clause-typed g c =
    let is = IsLink (g.E.Engine.meaning c.self.inside.tree.engine) (components_of g.E.Engine c.self.inside.tree).by_id in
    subst (All is) (sym c.into_component.ensures) (all_into is c.args.id.0 c.self.inside.links c.self.invariant.typed)

pub copy_all-requires-clause-few : goal.copy_all-requires-clause-few
copy_all-requires-clause-few g c =
    subst (λ (links : List Link). length links ≤ most_links) (sym c.into_component.ensures)
    (few_into c.args.id.0 c.self.inside.links c.len-few.ensures.most)

pub invariant_of-self : goal.invariant_of-self
invariant_of-self g c =
    let m = g.E.Engine.meaning c.self.inside.tree.engine in
    let start = components_of g.E.Engine c.self.inside.tree in
    linked_if m (g.E.Engine.meaning c.copy_all.new.tree.engine) start (components_of g.E.Engine c.copy_all.new.tree) c.self.inside.links
    c.self.invariant c.copy_all.ensures.same.meaning _ (sym (ap (λ (s : Counted). s.left) (c.copy_all.ensures.copied 0)))
    (alike_copies m c.args.turns (to_z w64 (of_z w64 c.args.ticks)) c.into_component.result.now (record { left = start; traps = 0 }))

pub returns-clause-few : goal.returns-clause-few
returns-clause-few g c =
    no_more c.copy_all.ensures.few
    (subst (λ (links : List Link). length links ≤ most_links) (sym c.into_component.ensures) (few_into c.args.id.0 c.self.inside.links c.len-few.ensures.most))
  where
    no_more : {a b c : ℕ} → a ≤ b → b ≤ c → a ≤ c
    no_more p q = omega arith

pub copy_all-requires-clause-into : goal.copy_all-requires-clause-into
copy_all-requires-clause-into g c =
    subst (All (λ (l : Link). l.to ≡ c.args.id.0)) (sym c.into_component.ensures) (all_to c.args.id.0 c.self.inside.links)

pub returns-clause-marks : goal.returns-clause-marks
returns-clause-marks g c =
    keeps_own g.E.Engine (values_at c.args.id.0) c.self.inside.tree c.copy_all.new.tree c.self.inside.links c.self.inside.marks _ c.self.view_is c.copy_all.ensures.marks
