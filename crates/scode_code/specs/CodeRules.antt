-- The rules that code keeps, each with its number, and the first that is broken.
use Rattle.std.specs.Prelude.{ℕ, zero, suc, ◌+◌, ◌==◌, ◌&&◌, ◌||◌, nat_lt, nat_le, not, Bool, true, false}
use Rattle.std.specs.Prelude.{if◌then◌else◌, List, [], ◌∷◌, ◌++◌, find, length, take, drop, reverse, slice_get, is_some}
use Rattle.std.specs.Prelude.{Option, Some, None}
use Rattle.std.specs.List.{list_any}
use Rattle.std.specs.Option.{option_map, option_map_or}
use Rattle.scode_ops.specs.declared.op.Op.{Op}
use Rattle.scode_ops.specs.declared.op.Op.TheVariants as op
use Rattle.scode_ops.specs.Decoding.{op_at, size_of}
use Rattle.scode_image.specs.declared.image.Image.{Image}
use Rattle.scode_image.specs.declared.image.ImageEntry.{ImageEntry}
use Rattle.scode_image.specs.declared.image.ImageField.{ImageField}
use Rattle.scode_image.specs.declared.image.ImageKind.{ImageKind}
use Rattle.scode_image.specs.declared.image.ImageMethod.{ImageMethod}
use Rattle.scode_code.specs.Tables.{class_fields, field_number}
use Rattle.scode_code.specs.Fields.{buf_number}
use Rattle.scode_code.specs.Calls.{table_method}
use Rattle.scode_code.specs.Kinds.{Shape, shape_goes, goes_to, is_null, is_statics}
use Rattle.scode_code.specs.Wants.{cells_of, meets, needs, needs_of, wants_of}
use Rattle.scode_code.specs.declared.needs.Effect.{Effect}
use Rattle.scode_code.specs.declared.needs.Need.{Need}

-- flag 2 says that a method is abstract
abbrev pub is_abstract : ImageMethod → Bool
is_abstract m = nat_le 2 m.flags

-- ---- places of code

-- nothing goes on behind these
abbrev pub is_end : Op → Bool
is_end (op.Jump to) = true
is_end op.Return = true
is_end op.ReturnValue = true
is_end other = false

-- where an instruction may jump to
abbrev pub jumps_to : Op → Option ℕ
jumps_to (op.Jump to) = Some to
jumps_to (op.JumpFalse to) = Some to
jumps_to (op.JumpTrue to) = Some to
jumps_to other = None

-- the start of an instruction, if one stands there, and those behind it
abbrev pub starts_on : (ℕ → List ℕ) → ℕ → Option Op → List ℕ
starts_on more place None = []
starts_on more place (Some i) = place ∷ more (place + size_of i)

-- the starts of the instructions from a place on, as far as they stand one behind the other
abbrev pub starts_from : ℕ → ℕ → List ℕ → List ℕ
starts_from zero place code = []
starts_from (suc most) place code = starts_on (λ next. starts_from most next code) place (op_at code place)

abbrev pub starts : List ℕ → List ℕ
starts code = starts_from (length code) 0 code

abbrev pub is_start : List ℕ → ℕ → Bool
is_start code place = list_any (λ p. p == place) (starts code)

abbrev pub entry_at : ImageMethod → ℕ → Option ImageEntry
entry_at m place = find (λ e. e.place == place) m.entries

abbrev pub entry_shape : ImageEntry → Shape
entry_shape e = record { locals = e.locals; stack = reverse e.stack }

-- ---- the rules, at an instruction that stands at a place. Rule 2 is also broken where none stands there.

-- 2: code runs past its end: nothing stands behind an instruction that goes on
abbrev pub runs_past : ImageMethod → ℕ → Op → Bool
runs_past m place i = not (nat_lt (place + size_of i) (length m.code)) && not (is_end i)

-- 3: a jump goes to no start of an instruction
abbrev pub misses_start : ImageMethod → Op → Bool
misses_start m i = option_map_or (λ to. not (is_start m.code to)) (jumps_to i) false

-- 4: a jump goes back to another instruction than `turn`
abbrev pub is_turn : Option Op → Bool
is_turn (Some op.Turn) = true
is_turn other = false

abbrev pub goes_back : ImageMethod → ℕ → Op → Bool
goes_back m place i = option_map_or (λ to. nat_le to place && not (is_turn (op_at m.code to))) (jumps_to i) false

-- 5: a local, class, method, text or table number is not there, or `call` names an abstract method
abbrev pub number_missing : Image → ImageMethod → Op → Bool
number_missing image m (op.Load i) = not (nat_lt i (length m.locals))
number_missing image m (op.Store i) = not (nat_lt i (length m.locals))
number_missing image m (op.Text n) = not (nat_lt n (length image.texts))
number_missing image m (op.Inner offset class) = not (nat_lt class (length image.classes))
number_missing image m (op.Call n) = option_map_or is_abstract (slice_get image.methods n) true
number_missing image m (op.VirtualCall class place) = not (is_some (table_method image class place))
number_missing image m other = false

-- 6: the stack is above its maximum, lacks a cell, or would pass its maximum
abbrev pub after_stack : Image → Effect → List ImageKind → List ImageKind
after_stack image e stack =
    cells_of image e.puts (take (length (needs_of image e.takes)) stack) ++ drop (length (needs_of image e.takes)) stack

abbrev pub stack_breaks : Image → ImageMethod → Shape → Op → Bool
stack_breaks image m shape i =
    nat_lt m.stack (length shape.stack)
    || nat_lt (length shape.stack) (length (needs image shape i))
    || nat_lt m.stack (length (after_stack image (wants_of image shape.locals i) shape.stack))

-- 7: a cell has a kind that does not go to the one needed
abbrev pub all_meet : Image → List Need → List ImageKind → Bool
all_meet image [] ks = true
all_meet image (n ∷ ns) [] = true
all_meet image (n ∷ ns) (k ∷ ks) = meets image n k && all_meet image ns ks

abbrev pub kind_differs : Image → Shape → Op → Bool
kind_differs image shape i = not (all_meet image (needs image shape i) shape.stack)

-- 8: no field of that form, offset and n in the class. Of null nothing is said: the instruction traps.
abbrev pub fields_of_kind : Image → ImageKind → List ImageField
fields_of_kind image k = if is_statics k then image.static_fields else class_fields image k.class

abbrev pub lacks_field : Image → Option ImageKind → ℕ → ℕ → ℕ → Bool
lacks_field image None form offset n = false
lacks_field image (Some k) form offset n =
    not (is_null k) && not (is_some (field_number (fields_of_kind image k) form offset n))

abbrev pub lacks_buf : Image → Option ImageKind → ℕ → Bool
lacks_buf image None offset = false
lacks_buf image (Some k) offset = not (is_null k) && not (is_some (buf_number (fields_of_kind image k) offset))

-- where on the stack the object stands: on top, below an index or a value, or below both
abbrev pub field_missing : Image → List ImageKind → Op → Bool
field_missing image stack (op.GetBool offset) = lacks_field image (slice_get stack 0) 1 offset 0
field_missing image stack (op.GetByte offset) = lacks_field image (slice_get stack 0) 2 offset 0
field_missing image stack (op.GetShort offset) = lacks_field image (slice_get stack 0) 3 offset 0
field_missing image stack (op.GetInt offset) = lacks_field image (slice_get stack 0) 4 offset 0
field_missing image stack (op.GetLong offset) = lacks_field image (slice_get stack 0) 5 offset 0
field_missing image stack (op.PutBool offset) = lacks_field image (slice_get stack 1) 1 offset 0
field_missing image stack (op.PutByte offset) = lacks_field image (slice_get stack 1) 2 offset 0
field_missing image stack (op.PutShort offset) = lacks_field image (slice_get stack 1) 3 offset 0
field_missing image stack (op.PutInt offset) = lacks_field image (slice_get stack 1) 4 offset 0
field_missing image stack (op.PutLong offset) = lacks_field image (slice_get stack 1) 5 offset 0
field_missing image stack (op.Inner offset class) = lacks_field image (slice_get stack 0) 8 offset class
field_missing image stack (op.Str offset size) = lacks_field image (slice_get stack 0) 6 offset size
field_missing image stack (op.BufSize offset) = lacks_buf image (slice_get stack 0) offset
field_missing image stack (op.BufGet offset capacity) = lacks_field image (slice_get stack 1) 7 offset capacity
field_missing image stack (op.ArrayGetBool offset count) = lacks_field image (slice_get stack 1) 9 offset count
field_missing image stack (op.ArrayGetByte offset count) = lacks_field image (slice_get stack 1) 10 offset count
field_missing image stack (op.ArrayGetShort offset count) = lacks_field image (slice_get stack 1) 11 offset count
field_missing image stack (op.ArrayGetInt offset count) = lacks_field image (slice_get stack 1) 12 offset count
field_missing image stack (op.ArrayGetLong offset count) = lacks_field image (slice_get stack 1) 13 offset count
field_missing image stack (op.ArrayPutBool offset count) = lacks_field image (slice_get stack 2) 9 offset count
field_missing image stack (op.ArrayPutByte offset count) = lacks_field image (slice_get stack 2) 10 offset count
field_missing image stack (op.ArrayPutShort offset count) = lacks_field image (slice_get stack 2) 11 offset count
field_missing image stack (op.ArrayPutInt offset count) = lacks_field image (slice_get stack 2) 12 offset count
field_missing image stack (op.ArrayPutLong offset count) = lacks_field image (slice_get stack 2) 13 offset count
field_missing image stack other = false

-- what an instruction leaves
abbrev pub with_kind : List ImageKind → ℕ → ImageKind → List ImageKind
with_kind [] i k = []
with_kind (l ∷ ls) zero k = k ∷ ls
with_kind (l ∷ ls) (suc i) k = l ∷ with_kind ls i k

-- `store` gives the local the cell's kind
abbrev pub locals_after : Shape → Op → List ImageKind
locals_after shape (op.Store i) = option_map_or (λ k. with_kind shape.locals i k) (slice_get shape.stack 0) shape.locals
locals_after shape other = shape.locals

abbrev pub after : Image → Shape → Op → Shape
after image shape i = record {
  locals = locals_after shape i;
  stack = after_stack image (wants_of image shape.locals i) shape.stack;
}

-- 9: the target of a jump has no entry, or the kinds arriving do not go to the entry's
abbrev pub arrives : Image → Shape → Option ImageEntry → Bool
arrives image shape None = false
arrives image shape (Some e) = shape_goes image shape (entry_shape e)

abbrev pub arrives_wrong : Image → ImageMethod → Shape → Op → Bool
arrives_wrong image m shape i = option_map_or (λ to. not (arrives image (after image shape i) (entry_at m to)))
    (jumps_to i) false

-- 10: `ret` or `retv` against the method's result
abbrev pub result_differs : Image → ImageMethod → Shape → Op → Bool
result_differs image m shape op.Return = not (m.result.kind == 0)
result_differs image m shape op.ReturnValue =
    (m.result.kind == 0) || not (option_map_or (λ k. goes_to image k m.result) (slice_get shape.stack 0) true)
result_differs image m shape other = false

-- ---- the first broken rule

abbrev pub first_of : List (ℕ × Bool) → Option ℕ
first_of [] = None
first_of (rule ∷ rules) = if rule.1 then Some rule.0 else first_of rules

-- rules 2 to 5, which ask for no kinds
abbrev pub plain_rules : Image → ImageMethod → ℕ → Op → List (ℕ × Bool)
plain_rules image m place i =
    (2, runs_past m place i) ∷ (3, misses_start m i) ∷ (4, goes_back m place i) ∷ (5, number_missing image m i) ∷ []

-- rules 6 to 10, where kinds stand; kinds that arrive may not go to the entry's
abbrev pub kind_rules : Image → ImageMethod → Bool → Shape → Op → List (ℕ × Bool)
kind_rules image m wrong shape i =
    (6, stack_breaks image m shape i) ∷ (7, kind_differs image shape i) ∷ (8, field_missing image shape.stack i)
    ∷ (9, wrong || arrives_wrong image m shape i) ∷ (10, result_differs image m shape i) ∷ []

abbrev pub rules_with : Image → ImageMethod → ℕ → Bool → Shape → Op → List (ℕ × Bool)
rules_with image m place wrong shape i = plain_rules image m place i ++ kind_rules image m wrong shape i

abbrev pub broken_with : Image → ImageMethod → ℕ → Bool → Shape → Op → Option ℕ
broken_with image m place wrong shape i = first_of (rules_with image m place wrong shape i)

-- where nothing arrives and there is no entry, rule 9 is broken
abbrev pub rules_without : Image → ImageMethod → ℕ → Op → List (ℕ × Bool)
rules_without image m place i = plain_rules image m place i ++ (9, true) ∷ []

abbrev pub broken_without : Image → ImageMethod → ℕ → Op → Option ℕ
broken_without image m place i = first_of (rules_without image m place i)

-- the kinds at a place: the entry's, and else what arrives from the instruction before, if anything does
abbrev pub shape_at : Option ImageEntry → Option Shape → Option Shape
shape_at (Some e) carried = Some (entry_shape e)
shape_at None carried = carried

-- what arrives does not go to the entry's kinds
abbrev pub carried_wrong : Image → Option ImageEntry → Option Shape → Bool
carried_wrong image (Some e) (Some shape) = not (shape_goes image shape (entry_shape e))
carried_wrong image entry carried = false

-- by the kinds at the place, if any are there
abbrev pub broken_by : Image → ImageMethod → ℕ → Bool → Option Shape → Op → Option ℕ
broken_by image m place wrong None i = broken_without image m place i
broken_by image m place wrong (Some shape) i = broken_with image m place wrong shape i

abbrev pub broken_at : Image → ImageMethod → ℕ → Option Shape → Op → Option ℕ
broken_at image m place carried i =
    broken_by image m place (carried_wrong image (entry_at m place) carried) (shape_at (entry_at m place) carried) i

-- what is left behind an instruction for the next one
abbrev pub carried_on : Image → Option Shape → Op → Option Shape
carried_on image shape i = if is_end i then None else option_map (λ s. after image s i) shape

-- an entry between two places, and one from a place on
abbrev pub is_between : ℕ → ℕ → ImageEntry → Bool
is_between from to e = nat_lt from e.place && nat_lt e.place to

abbrev pub is_from : ℕ → ImageEntry → Bool
is_from place e = nat_le place e.place

-- the place of the first entry between two places; where one instruction stands at the first and the next one at the
-- second, it is no start
abbrev pub entry_between : List ImageEntry → ℕ → ℕ → Option ℕ
entry_between entries from to = option_map (λ e. e.place) (find (is_between from to) entries)

-- the place of the first entry from a place on; where the code is over, it is no start
abbrev pub entry_from : List ImageEntry → ℕ → Option ℕ
entry_from entries place = option_map (λ e. e.place) (find (is_from place) entries)

-- a place with a rule that is broken there
abbrev pub Fault : Type 0
Fault = ℕ × ℕ

abbrev pub fault_or : ℕ → Option ℕ → Option Fault → Option Fault
fault_or place (Some rule) later = Some (place, rule)
fault_or place None later = later

abbrev pub stray_or : Option ℕ → Option Fault → Option Fault
stray_or (Some place) later = Some (place, 9)
stray_or None later = later

-- the first fault at an instruction, if one stands there, or behind it
abbrev pub fault_on : (ℕ → Option Shape → Option Fault) → Image → ImageMethod → ℕ → Option Shape → Option Op
    → Option Fault
fault_on later image m place carried None = Some (place, 2)
fault_on later image m place carried (Some i) =
    fault_or place (broken_at image m place carried i)
    (stray_or (entry_between m.entries place (place + size_of i))
    (later (place + size_of i) (carried_on image (shape_at (entry_at m place) carried) i)))

-- the first fault of code from a place on, where these kinds are left by the instruction before
abbrev pub fault_from : ℕ → Image → ImageMethod → ℕ → Option Shape → Option Fault
fault_from zero image m place carried = None
fault_from (suc most) image m place carried =
    if nat_lt place (length m.code)
    then fault_on (λ next left. fault_from most image m next left) image m place carried (op_at m.code place)
    else stray_or (entry_from m.entries place) None

-- a method begins with its locals as they are at entry, and an empty stack
abbrev pub first_shape : ImageMethod → Shape
first_shape m = record { locals = m.locals; stack = [] }

-- nothing is said of an abstract method; code that is empty has no instruction at its start
abbrev pub code_fault : Image → ImageMethod → Option Fault
code_fault image m =
    if is_abstract m then None
    else if length m.code == 0 then Some (0, 2)
    else fault_from (suc (length m.code)) image m 0 (Some (first_shape m))
