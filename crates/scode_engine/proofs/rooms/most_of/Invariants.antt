use Rattle.std.proofs.Common.{◌≡◌, ◌+◌, ◌<◌, ◌≤◌, ℕ, length, Some}
use Rattle.std.specs.Prelude.{slice_get}
use Rattle.scode_image.specs.declared.image.ImageMethod.{ImageMethod}
use Rattle.scode_engine.proofs.rooms.most_of.Given as goal

abbrev pub invariant-loop-method : goal.invariant-loop-method
invariant-loop-method l = (n : ℕ) (m : ImageMethod) → n < l.method-index → slice_get l.methods n ≡ Some m
    → length m.locals + m.stack ≤ l.most
