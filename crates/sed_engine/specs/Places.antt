-- What may be assigned to, once its object and index are evaluated.
use Rattle.std.specs.Prelude.{ℕ, [], ◌∷◌}
use Rattle.sed_value.specs.declared.slot_type.Primitive.{Primitive}
use Rattle.sed_typed.specs.declared.kind.Kind.{Kind}
use Rattle.sed_engine.specs.Values.{Val, Spot, Statics, spot_of}
use Rattle.sed_engine.specs.State.{State, End, gives, answers, then_do}
use Rattle.sed_engine.specs.Steps.{inside, read_spot, write_spot, read_local, write_local}
use Rattle.sed_engine.specs.Texts.{index_of}

-- a place to read or to store; neither null nor the index is tested yet
pub data Target : Type 0 where
  OfLocal : Kind → ℕ → Target
  OfStatic : Primitive → ℕ → Target
  OfField : Primitive → Val → ℕ → Target
  OfElement : Primitive → ℕ → Val → ℕ → Val → Target
  OfStaticElement : Primitive → ℕ → ℕ → Val → Target

abbrev pub static_spot : ℕ → Spot
static_spot i = record { base = Statics; path = i ∷ [] }

-- a field of an object: null is tested
abbrev pub field_spot : Val → ℕ → State → End Spot
field_spot object i s = then_do (answers (spot_of object) s) (λ spot s1. gives (inside spot i) s1)

-- an element of an array of so many: the index is tested
abbrev pub element_spot : ℕ → Spot → Val → State → End Spot
element_spot count array index s = then_do (answers (index_of count index) s) (λ i s1. gives (inside array i) s1)

-- an element of an array of so many in a field of an object: null is tested, then the index
abbrev pub field_element : ℕ → Val → ℕ → Val → State → End Spot
field_element count object i index s = then_do (field_spot object i s) (λ array s1. element_spot count array index s1)

-- reads a target, with its tests
abbrev pub fetch : Target → State → End Val
fetch (OfLocal kind i) s = read_local kind i s
fetch (OfStatic p i) s = read_spot (static_spot i) s
fetch (OfField p object i) s = then_do (field_spot object i s) (λ spot s1. read_spot spot s1)
fetch (OfElement p count object i index) s =
    then_do (field_element count object i index s) (λ spot s1. read_spot spot s1)
fetch (OfStaticElement p count i index) s =
    then_do (element_spot count (static_spot i) index s) (λ spot s1. read_spot spot s1)

-- stores into a target, with its tests
abbrev pub put : Target → Val → State → End Val
put (OfLocal kind i) v s = write_local i v s
put (OfStatic p i) v s = write_spot p (static_spot i) v s
put (OfField p object i) v s = then_do (field_spot object i s) (λ spot s1. write_spot p spot v s1)
put (OfElement p count object i index) v s =
    then_do (field_element count object i index s) (λ spot s1. write_spot p spot v s1)
put (OfStaticElement p count i index) v s =
    then_do (element_spot count (static_spot i) index s) (λ spot s1. write_spot p spot v s1)
