use Rattle.std.proofs.Common.{refl}
use Rattle.sed_engine.specs.declared.call.AddRefusal.TheVariants.{DataFull}
use Rattle.comp_tree.specs.Application.{data_size_of}
use Rattle.comp_tree.specs.Loads.{loaded}
use Rattle.comp_tree.proofs.LoadLemmas.{loaded_tree}
use Rattle.comp_tree.proofs.MatchLemmas.{err_other}
use Rattle.comp_tree.proofs.LeftLemmas.{is_over, not_over}
use Rattle.comp_tree.proofs.tree.Tree.build.Goals as goal

pub returns-then-passes_limit-clause-full : goal.returns-then-passes_limit-clause-full
returns-then-passes_limit-clause-full g c =
    let m = g.E.Engine.meaning c.args.engine in
    (λ _. is_over (g.E.Engine.limit c.args.engine) (data_size_of m (loaded m c.args.entries.now)) c.passes_limit.result c.passes_limit.ensures c.if-passes_limit.true, λ _. refl)

pub returns-in-Err-clause-full : goal.returns-in-Err-clause-full
returns-in-Err-clause-full g c =
    let m = g.E.Engine.meaning c.args.engine in
    (λ e. absurd (cc), λ lt. absurd (not_over (g.E.Engine.limit c.args.engine) (data_size_of m (loaded m c.args.entries.now)) c.passes_limit.result c.passes_limit.ensures c.if-passes_limit.false lt))

pub returns-in-Err-load_each-clause-full : goal.returns-in-Err-load_each-clause-full
returns-in-Err-load_each-clause-full g c =
    let m = g.E.Engine.meaning c.args.engine in (
      λ e. c.in-Err-load_each.ensures.full (err_other c.in-Err-load_each.refusal DataFull e),
      λ lt. absurd (not_over (g.E.Engine.limit c.args.engine) (data_size_of m (loaded m c.args.entries.now)) c.passes_limit.result c.passes_limit.ensures c.if-passes_limit.false lt),
    )

pub returns-in-Ok-load_each-clause-full : goal.returns-in-Ok-load_each-clause-full
returns-in-Ok-load_each-clause-full g c =
    let m = g.E.Engine.meaning c.args.engine in
    (λ e. absurd (cc), λ lt. absurd (not_over (g.E.Engine.limit c.args.engine) (data_size_of m (loaded m c.args.entries.now)) c.passes_limit.result c.passes_limit.ensures c.if-passes_limit.false lt))

pub invariant_of-result : goal.invariant_of-result
invariant_of-result g c = record {
  placed = c.in-Ok-load_each.ensures.placed;
  tree = loaded_tree (g.E.Engine.live c.load_each.new.engine) c.load_each.new.nodes (loaded (g.E.Engine.meaning c.args.engine) c.args.entries.now) c.in-Ok-load_each.ensures.by_id c.requires.entries.tree;
}
