-- What no call changes of an engine, be it that of a tree or of an application.
use Rattle.std.specs.Prelude.{◌≡◌}
use Rattle.sed_engine.specs.declared.engine.Engine.{Ghosts}

-- the code means what it meant, the engine is fixed exactly where it was, and its limit is what it was
pub record SameCode {E : Type 0} (g : Ghosts E) (old new : E) : Type 0 where
  pub meaning : g.meaning new ≡ g.meaning old
  pub steady : g.fixed new ≡ g.fixed old
  pub limit : g.limit new ≡ g.limit old
