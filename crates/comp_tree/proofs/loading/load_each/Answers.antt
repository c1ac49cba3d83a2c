use Rattle.std.proofs.Common.{◌≡◌, refl, ◌∙◌, take, arith}
use Rattle.std.specs.FinMap as map
use Rattle.comp_tree.specs.Application.{data_size_of}
use Rattle.comp_tree.specs.Loads.{loaded}
use Rattle.comp_tree.proofs.LoadLemmas.{by_id_next, few_so_far, fits_next, free_below, not_yet, passes_all}
use Rattle.comp_tree.proofs.MarkCalls.{all_none}
use Rattle.comp_tree.proofs.SameCodes.{same_still, same_yet}
use Rattle.comp_tree.proofs.TreeLemmas.{by_id_none, no_size, placed_none}
use Rattle.comp_tree.proofs.loading.load_each.Goals as goal

pub loop-entry-init : goal.loop-entry-init
loop-entry-init g c =
    let m = g.E.Engine.meaning c.args.engine.now in
    let l = g.E.Engine.live c.args.engine.now in
    record {
      placed = placed_none m l c.args.nodes.now c.requires.no_objects c.requires.no_nodes;
      by_id = by_id_none m l c.args.nodes.now c.requires.no_objects c.requires.no_nodes;
      fits = (let none : data_size_of m (loaded m (take 0 c.args.entries.now)) ≡ 0 = no_size m map.empty refl in omega arith);
      marks = all_none c.args.nodes.now c.requires.no_nodes;
      statics = refl;
      same = same_yet;
    }

pub load_one-requires-clause-free : goal.load_one-requires-clause-free
load_one-requires-clause-free g c =
    let m = g.E.Engine.meaning c.args.engine.now in
    let es = c.args.entries.now in
    let k = c.loop-entry.entry-index in
    free_below (g.E.Engine.live c.loop-entry.engine) c.loop-entry.nodes c.entry-item.result.id.0 (loaded m (take k es)) c.loop-entry.invariant.by_id (not_yet m es c.requires.once k c.entry-item.result c.loop-entry-test.true c.entry-item.is)

pub load_one-requires-clause-few : goal.load_one-requires-clause-few
load_one-requires-clause-few g c =
    few_so_far (g.E.Engine.meaning c.args.engine.now) c.args.entries.now c.requires.each c.requires.once c.loop-entry.entry-index c.loop-entry-test.true c.loop-entry.nodes (g.E.Engine.live c.loop-entry.engine) c.loop-entry.invariant.by_id

pub returns-in-Err-clause-full : goal.returns-in-Err-clause-full
returns-in-Err-clause-full g c = λ e.
    passes_all (g.E.Engine.meaning c.args.engine.now) (g.E.Engine.meaning c.loop-entry.engine) (g.E.Engine.live c.loop-entry.engine) c.loop-entry.nodes c.args.entries.now c.requires.once c.loop-entry.entry-index c.entry-item.result c.loop-entry-test.true c.entry-item.is
    c.loop-entry.invariant.same.meaning c.loop-entry.invariant.by_id (g.E.Engine.limit c.loop-entry.engine) (g.E.Engine.limit c.args.engine.now) c.loop-entry.invariant.same.limit (c.in-Err.ensures.full.0 e)

pub loop-entry-preserved : goal.loop-entry-preserved
loop-entry-preserved g c =
    let m = g.E.Engine.meaning c.args.engine.now in
    let n = g.E.Engine.meaning c.loop-entry.engine in
    let l = g.E.Engine.live c.loop-entry.engine in
    let es = c.args.entries.now in
    let k = c.loop-entry.entry-index in
    record {
      placed = c.in-Ok.ensures.placed;
      by_id = by_id_next m n l c.loop-entry.nodes es c.requires.once k c.entry-item.result c.loop-entry-test.true c.entry-item.is c.loop-entry.invariant.same.meaning c.loop-entry.invariant.by_id (g.E.Engine.limit c.loop-entry.engine) (g.E.Engine.limit c.args.engine.now) c.loop-entry.invariant.same.limit
          (g.E.Engine.live c.load_one.new.engine) c.load_one.new.nodes c.in-Ok.ensures.by_id;
      fits = fits_next m n l c.loop-entry.nodes es c.requires.once k c.entry-item.result c.loop-entry-test.true c.entry-item.is c.loop-entry.invariant.same.meaning c.loop-entry.invariant.by_id (g.E.Engine.limit c.loop-entry.engine) (g.E.Engine.limit c.args.engine.now) c.loop-entry.invariant.same.limit
          (λ lt. let no = c.in-Ok.ensures.full.1 lt in cc);
      marks = c.in-Ok.ensures.marks c.loop-entry.invariant.marks;
      statics = c.in-Ok.ensures.statics ∙ c.loop-entry.invariant.statics;
      same = same_still c.loop-entry.invariant.same c.in-Ok.ensures.same;
    }
