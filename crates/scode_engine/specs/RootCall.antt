-- A root call from its beginning to its end.
use Rattle.std.specs.Prelude.{ℕ, ◌≡◌, List, [], ◌∷◌, Option, Some, None, IfSome, Result, Ok}
use Rattle.sed_value.specs.declared.value.Value.{Value}
use Rattle.sed_engine.specs.declared.call.Root.{Root}
use Rattle.sed_engine.specs.declared.trap.Trap.{Trap}
use Rattle.sed_engine.specs.Asked.{MayAsk}
use Rattle.sed_engine.specs.Code.{Question}
use Rattle.sed_engine.specs.Root.{argument_of}
use Rattle.scode_code.specs.Faults.{IsVerified}
use Rattle.scode_code.specs.Image.{code_of}
use Rattle.scode_code.specs.Root.{root_method, run_method}
use Rattle.scode_cells.specs.declared.cell.Cell.{Cell}
use Rattle.scode_vm.specs.Calling.{given_by}
use Rattle.scode_vm.specs.Doings.{HasCells, IsValue}
use Rattle.scode_vm.specs.Seen.{val_of}
use Rattle.scode_access.specs.Within.{IsGround, KeepsBlocks}
use Rattle.scode_engine.specs.AtWork.{Rooted, Running, end_of, setting_of, shared_by}

-- the cells that a method has behind the component's as it begins
abbrev pub argument_cells : Option Cell → List Cell
argument_cells None = []
argument_cells (Some c) = c ∷ []

-- what is asked in a root call
abbrev pub question_of : Rooted → Running → Root → Value → Question
question_of q r which argument = record {
  class = q.class;
  contents = (shared_by q r).contents;
  statics = (shared_by q r).statics;
  which = which;
  argument = argument;
  turns = r.turns;
  moment = q.moment;
}

-- A root that may be asked runs this method with this cell as its argument, or with none. The image is verified, the
-- object live, all blocks fit, there are cells enough, and no frame runs yet.
pub record MayBegin (q : Rooted) (number : ℕ) (argument : Option Cell) (r : Running) : Type 0 where
  pub verified : IsVerified q.image
  pub ground : IsGround (setting_of q) q.place r.blocks
  pub cells : HasCells q.image r.cells.most
  pub idle : r.cells.frames ≡ []
  pub which : Root
  pub value : Value
  pub asked : MayAsk (code_of q.image) (question_of q r which value)
  pub found : root_method q.image q.class which ≡ Ok (Some number)
  pub given : argument_of value ≡ Ok (given_by (setting_of q) q.place argument)
  pub is_value : IfSome argument (λ c. IsValue (val_of (setting_of q) q.place c))

-- the method ends so, as the definition has it; what it wrote stands, and no frame runs
pub record EndsAs (q : Rooted) (number : ℕ) (argument : Option Cell) (old : Running)
    (result : Result (Option Cell) Trap) (new : Running) : Type 0 where
  pub called : run_method (setting_of q) (Some number) (given_by (setting_of q) q.place argument) (shared_by q old)
      ≡ end_of q result (shared_by q new)
  pub keeps : KeepsBlocks q.image q.place old.blocks new.blocks
  pub cells : new.cells ≡ old.cells
