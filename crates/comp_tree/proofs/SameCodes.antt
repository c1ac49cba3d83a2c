-- The code is the same before a call and after several.
use Rattle.std.proofs.Common.{refl, ◌∙◌}
use Rattle.sed_engine.specs.declared.engine.Engine.{Ghosts}
use Rattle.comp_tree.specs.SameCode.{SameCode}

pub same_yet : {E : Type 0} {g : Ghosts E} {a : E} → SameCode g a a
same_yet = record { meaning = refl; steady = refl; limit = refl }

pub same_still : {E : Type 0} {g : Ghosts E} {a b c : E} → SameCode g a b → SameCode g b c → SameCode g a c
same_still p q = record {
  meaning = q.meaning ∙ p.meaning;
  steady = q.steady ∙ p.steady;
  limit = q.limit ∙ p.limit;
}
