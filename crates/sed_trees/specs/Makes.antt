-- What a call that makes a tree answers: the tree, which only want of memory prevents.
use Rattle.std.specs.Prelude.{◌≡◌, Result, Ok, Err}
use Rattle.sed_value.specs.declared.halt.Halt.{Halt}
use Rattle.sed_value.specs.declared.halt.Halt.TheVariants.{Fault, Memory}

abbrev pub Makes : {X : Type 0} → Result X Halt → X → Type 0
Makes (Ok x) y = x ≡ y
Makes (Err Fault) y = ⊥
Makes (Err Memory) y = Unit {0}
