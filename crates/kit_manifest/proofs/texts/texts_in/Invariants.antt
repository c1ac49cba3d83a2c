use Rattle.kit_manifest.proofs.Strings.{IsDone}
use Rattle.kit_manifest.proofs.texts.texts_in.Given as goal

abbrev pub invariant-loop-item : goal.invariant-loop-item
invariant-loop-item l = IsDone l.item-items l.texts.items l.item-index
