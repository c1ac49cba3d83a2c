-- What steps of the writer do, and what is made on the way.
use Rattle.std.specs.Prelude.{◌≡◌, ℕ, List, ◌++◌, Result, Ok, Err}
use Rattle.sed_wire.specs.Form.{Form}
use Rattle.sed_value.specs.declared.halt.Halt.{Halt}
use Rattle.sed_value.specs.declared.halt.Halt.TheVariants.{Fault, Memory}

-- What a step of the writer does: whichever bytes spell the thing, they are put behind those that were there.
abbrev pub Puts : {X : Type 0} → Form X → X → List ℕ → List ℕ → Type 0
Puts form x old new = (bytes : List ℕ) → form.spells x bytes → new ≡ old ++ bytes

-- the value, which only want of memory prevents
abbrev pub Makes : {X : Type 0} → Result X Halt → X → Type 0
Makes (Ok x) y = x ≡ y
Makes (Err Fault) y = ⊥
Makes (Err Memory) y = Unit {0}
