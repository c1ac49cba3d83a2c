use Rattle.comp_tree.proofs.LeftLemmas.{IsLeft}
use Rattle.comp_tree.proofs.SizeLemmas.{size_of}
use Rattle.comp_tree.proofs.sizes.passes_limit.Given as goal

abbrev pub invariant-loop-entry : goal.invariant-loop-entry
invariant-loop-entry g l = IsLeft (size_of (g.E.Engine.meaning l.engine)) (g.E.Engine.limit l.engine) l.entries l.entry-index l.left
