-- What a whole code is, but for its root calls.
use Rattle.std.specs.Prelude.{◌≡◌}
use Rattle.sed_engine.specs.Asked.{MayAsk, unasked}
use Rattle.sed_engine.specs.Code.{Meaning, Question}
use Rattle.sed_engine.specs.Whole.{HasTables}

-- Of `IsWhole` this has `tables` and `unasked`. That it answers well whatever it may be asked is not here.
pub record IsWholeButForRoots (m : Meaning) : Type 0 where
  pub tables : HasTables m
  pub unasked : (q : Question) → (MayAsk m q → ⊥) → m.root q ≡ unasked q
