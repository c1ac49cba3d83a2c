-- The values of an object or of the statics, by path.
use Rattle.std.specs.Prelude.{ℕ, if◌then◌else◌, List, [], ◌∷◌, Option, Some, None}
use Rattle.std.specs.Str.{bytes_eq}
use Rattle.sed_value.specs.declared.value.Value.{Value}
use Rattle.sed_typed.specs.declared.program.FieldForm.{FieldForm}

-- fields by their numbers, and the index of an element: from an object down to a value that it holds
abbrev pub Path : Type 0
Path = List ℕ

-- each path of an object once, in the order of the fields, with its value; a Str is kept as the bytes of its
-- whole size, a Buf as the bytes that it has. No write changes the paths or their order, so two contents of one
-- class are equal where their values are.
abbrev pub Contents : Type 0
Contents = List (List ℕ × Value)

abbrev pub value_at : Contents → Path → Option Value
value_at [] path = None
value_at (e ∷ es) path = if bytes_eq e.0 path then Some e.1 else value_at es path

-- with what a function makes of the value at a path; nothing changes where the path is not there
abbrev pub changed_at : Contents → Path → (Value → Value) → Contents
changed_at [] path change = []
changed_at (e ∷ es) path change = (e.0, if bytes_eq e.0 path then change e.1 else e.1) ∷ changed_at es path change

-- with another value at a path
abbrev pub with_value : Contents → Path → Value → Contents
with_value m path v = changed_at m path (λ _. v)

-- a field as everything above a code knows it: what it holds. Which field is behind a slot the code says.
pub record Shape : Type 0 where
  pub form : FieldForm
