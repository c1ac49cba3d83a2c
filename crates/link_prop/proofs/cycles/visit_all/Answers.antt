use Rattle.std.proofs.Common.{◌≡◌, ℤ, List, get_or, sym, ◌∙◌, ap, w64, to_z, of_z}
use Rattle.std.specs.List.{fold}
use Rattle.std.proofs.lemmas.Int.{to_z-of_z}
use Rattle.sed_engine.specs.Code.{Meaning}
use Rattle.sub_table.specs.Link.{Link}
use Rattle.comp_tree.specs.Calls.{Counted}
use Rattle.comp_tree.specs.Cycle.{visit}
use Rattle.comp_tree.specs.Held.{components_of}
use Rattle.comp_tree.proofs.SameCodes.{same_still}
use Rattle.link_prop.proofs.CountedCalls.{counted_all, counted_more}
use Rattle.link_prop.proofs.CycleMarks.{marked_again}
use Rattle.link_prop.proofs.cycles.visit_all.Goals as goal

pub loop-id-preserved : goal.loop-id-preserved
loop-id-preserved g c =
    let m = g.E.Engine.meaning c.args.app.now.tree.engine in
    let links = c.args.app.now.links in
    let t = to_z w64 (of_z w64 c.args.ticks) in
    let ids = c.args.ids.now in
    let k = c.loop-id.id-index in
    let x = get_or ids k 0 in
    let now = components_of g.E.Engine c.loop-id.app.tree in
    let s : Counted = record { left = now; traps = c.loop-id.traps } in
    record {
      counted = counted_more (visit m links c.args.turns t) (components_of g.E.Engine c.args.app.now.tree) now ids k c.loop-id.traps c.loop-id.invariant.counted
          0 c.visit-traps.result (components_of g.E.Engine c.visit-traps.new.app.tree) c.loop-id-test.true c.visit-traps.ensures.few
          (ap (λ (n : Meaning). visit n links c.args.turns t s x) (sym c.loop-id.invariant.same.meaning)
          ∙ ap (λ (ls : List Link). visit (g.E.Engine.meaning c.loop-id.app.tree.engine) ls c.args.turns t s x) (sym c.loop-id.invariant.links)
          ∙ c.visit-traps.ensures.visited c.loop-id.traps);
      marks = marked_again g.E.Engine c.args.app.now c.loop-id.app c.visit-traps.new.app c.loop-id.invariant.marks c.visit-traps.ensures.marks c.visit-traps.ensures.live;
      links = c.visit-traps.ensures.links ∙ c.loop-id.invariant.links;
      same = same_still c.loop-id.invariant.same c.visit-traps.ensures.same;
    }

pub returns-clause-visited : goal.returns-clause-visited
returns-clause-visited g c =
    let m = g.E.Engine.meaning c.args.app.now.tree.engine in
    let links = c.args.app.now.links in
    let same : to_z w64 (of_z w64 c.args.ticks) ≡ c.args.ticks = to_z-of_z w64 c.args.ticks c.ranges.ticks in
    let start = components_of g.E.Engine c.args.app.now.tree in
    ap (λ (u : ℤ). fold (visit m links c.args.turns u) (record { left = start; traps = 0 }) c.args.ids.now) (sym same)
    ∙ counted_all (visit m links c.args.turns (to_z w64 (of_z w64 c.args.ticks))) start (components_of g.E.Engine c.loop-id.app.tree) c.args.ids.now c.loop-id.id-index c.loop-id.traps c.loop-id.invariant.counted c.loop-id-test.false
