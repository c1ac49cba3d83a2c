-- What the instructions on calls and Strs do.
use Rattle.std.specs.Prelude.{ℕ, ◌+◌, ◌==◌, ◌%◌, pos, Bool, List, [], ◌∷◌, ◌++◌, drop, length, map, if◌then◌else◌}
use Rattle.std.specs.Prelude.{slice_get, slice_index_or, Option, Result, Ok}
use Rattle.std.specs.Option.{option_and_then}
use Rattle.sed_typed.specs.declared.operators.TextCall.{TextCall}
use Rattle.sed_typed.specs.declared.operators.TextCall.TheVariants as text
use Rattle.sed_engine.specs.Expressions as language
use Rattle.sed_engine.specs.State.{State, End, gives, answers, then_do}
use Rattle.sed_engine.specs.Steps.{take_turn}
use Rattle.sed_engine.specs.Stops.{Stop, there, map_ok}
use Rattle.sed_engine.specs.Values.{Val, Nothing, Truth, Int, Long, Null, Spot, spot_of}
use Rattle.scode_image.specs.declared.image.Image.{Image}
use Rattle.scode_image.specs.declared.image.ImageKind.{ImageKind}
use Rattle.scode_image.specs.declared.image.ImageMethod.{ImageMethod}
use Rattle.scode_code.specs.Fields.{Setting, class_of}
use Rattle.scode_code.specs.Machine.{Move, Enter}
use Rattle.scode_code.specs.Effect.{taken, push, no_push, on_top, on_two, on_three, int_cell, reference_cell}

-- ---- methods

-- flag 1 says that a method has a receiver
abbrev pub is_instance : ImageMethod → Bool
is_instance m = m.flags % 2 == 1

-- how many cells a call takes off the stack
abbrev pub argument_count : ImageMethod → ℕ
argument_count m = (if is_instance m then 1 else 0) + length m.params

-- what a local begins as that is neither receiver nor parameter: 0, false or null
abbrev pub zero_of : ImageKind → Val
zero_of k =
    if k.kind == 1 then Truth 0 else if k.kind == 2 then Int (pos 0) else if k.kind == 3 then Long (pos 0) else Null

-- the locals of a new frame
abbrev pub locals_of : ImageMethod → List Val → List Val
locals_of m args = args ++ map zero_of (drop (length args) m.locals)

-- ---- calls

-- the receiver of a method that has one, which is not null
abbrev pub receiver_there : ImageMethod → List Val → Result (Unit {0}) Stop
receiver_there m args = if is_instance m then map_ok (λ spot. tt) (spot_of (slice_index_or args 0 Nothing)) else Ok tt

-- takes a turn, and goes into the method
abbrev pub goes_into : ℕ → ImageMethod → List Val → List Val → State → End Move
goes_into number m args rest s = then_do (take_turn s) (λ _ s1. gives (Enter number (locals_of m args) rest) s1)

-- the arguments, then the test for null, then the turn
abbrev pub call : Setting → ℕ → List Val → State → End Move
call w number stack s =
    then_do (answers (there (slice_get w.image.methods number)) s)
    (λ m s1. then_do (answers (taken (argument_count m) stack []) s1)
    (λ t s2. then_do (answers (receiver_there m t.0) s2) (λ _ s3. goes_into number m t.0 t.1 s3)))

-- the method at a place of a class's table, by its number
abbrev pub table_method : Image → ℕ → ℕ → Option ℕ
table_method image class place = option_and_then (λ c. slice_get c.table place) (slice_get image.classes class)

-- a method that a call finds in a table: the declared one says how many cells are taken, the object's class which one
-- runs
abbrev pub found_for : Setting → Spot → ℕ → Result ℕ Stop
found_for w spot place = there (option_and_then (λ class. table_method w.image class place) (class_of w spot))

abbrev pub method_there : Image → ℕ → Result ImageMethod Stop
method_there image number = there (slice_get image.methods number)

abbrev pub virtual_call : Setting → ℕ → ℕ → List Val → State → End Move
virtual_call w class place stack s =
    then_do (answers (there (option_and_then (λ n. slice_get w.image.methods n) (table_method w.image class place))) s)
    (λ declared s1. then_do (answers (taken (argument_count declared) stack []) s1)
    (λ t s2. then_do (answers (spot_of (slice_index_or t.0 0 Nothing)) s2)
    (λ spot s3. then_do (answers (found_for w spot place) s3)
    (λ number s4. then_do (answers (method_there w.image number) s4) (λ m s5. goes_into number m t.0 t.1 s5)))))

-- ---- Strs

abbrev pub text_call : Setting → TextCall → Val → List Val → State → End Val
text_call w which v args s = language.text_call w.image.texts which v args s

abbrev pub str_length : Setting → List Val → State → End Move
str_length w stack s = on_top stack (λ v rest s1. push rest (text_call w text.Length v [] s1)) s

abbrev pub str_get : Setting → List Val → State → End Move
str_get w stack s =
    on_two stack (λ v index rest s1. then_do (answers (int_cell index) s1)
    (λ i s2. push rest (text_call w text.Get v (i ∷ []) s2))) s

abbrev pub str_set : Setting → List Val → State → End Move
str_set w stack s =
    on_three stack (λ v index c rest s1. then_do (answers (int_cell index) s1)
    (λ i s2. then_do (answers (int_cell c) s2) (λ x s3. no_push rest (text_call w text.Set v (i ∷ x ∷ []) s3)))) s

abbrev pub str_equal : Setting → List Val → State → End Move
str_equal w stack s =
    on_two stack (λ a b rest s1. then_do (answers (reference_cell b) s1)
    (λ x s2. push rest (text_call w text.Equals a (x ∷ []) s2))) s

abbrev pub str_copy : Setting → List Val → State → End Move
str_copy w stack s =
    on_two stack (λ a b rest s1. then_do (answers (reference_cell b) s1)
    (λ x s2. no_push rest (text_call w text.Copy a (x ∷ []) s2))) s
