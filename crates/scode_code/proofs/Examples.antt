-- What small images do, computed from the definitions.
use Rattle.std.proofs.Common.{◌≡◌, ℕ, pos, negsuc, List, [], ◌∷◌, Some, None, refl}
use Rattle.std.specs.Int.{int_wrap}
use Rattle.sed_value.specs.declared.value.Value.TheVariants as kept
use Rattle.sed_engine.specs.declared.call.CallEnd.TheVariants.{Done, Trap as Trapped}
use Rattle.sed_engine.specs.declared.call.Root.TheVariants.{Execute, Callback}
use Rattle.sed_engine.specs.declared.call.Callback.TheVariants.{Start}
use Rattle.sed_engine.specs.Values.{Nothing}
use Rattle.scode_image.specs.declared.image.Image.{Image}
use Rattle.scode_code.specs.Faults.{first_broken}
use Rattle.scode_code.specs.Fields.{Setting}
use Rattle.scode_code.specs.Machine.{Point, At, Over}
use Rattle.scode_code.specs.Root.{begins}
use Rattle.scode_code.specs.Steps.{steps, instruction_count}
use Rattle.scode_code.proofs.Building.{kind, object, field, method, image_with, simple, run, outcome}

-- ---- a loop: a turn, and back to it

loop : Image
loop = simple (0x4b ∷ 0x48 ∷ 0 ∷ 0 ∷ [])

loop_has_two : instruction_count (0x4b ∷ 0x48 ∷ 0 ∷ 0 ∷ []) ≡ 2
loop_has_two = refl

loop_traps : outcome (run loop Execute 10) (1 ∷ []) ≡ (Trapped 4, Some (kept.Int (pos 0)) ∷ [])
unfolding loop steps
loop_traps = refl

is_over : Point → ℕ
is_over (At m) = 0
is_over (Over c) = 1

-- its start, with so many turns
started : ℕ → Point
started turns = begins (Some (method 5 [] (kind 0) [] (0x4b ∷ 0x48 ∷ 0 ∷ 0 ∷ []))) 1 Nothing
    (record { contents = []; statics = []; turns = turns; moment = pos 0 })

in_loop : Setting
in_loop = record { image = loop; class = 5 }

-- 20 instructions take the 10 turns, and the next one traps
loop_goes_on : is_over (steps in_loop 20 (started 10)) ≡ 0
unfolding loop in_loop started steps is_over
loop_goes_on = refl

loop_is_over : is_over (steps in_loop 21 (started 10)) ≡ 1
unfolding loop in_loop started steps is_over
loop_is_over = refl

-- ---- a sum that wraps: x = 2147483647 + 1

sum : Image
sum = simple (0x07 ∷ 0 ∷ 0x01 ∷ 0x7f ∷ 0xff ∷ 0xff ∷ 0xff ∷ 0x01 ∷ 0 ∷ 0 ∷ 0 ∷ 1 ∷ 0x10 ∷ 0x58 ∷ 0 ∷ 4 ∷ 0x72 ∷ [])

sum_wraps : outcome (run sum Execute 10) (1 ∷ []) ≡ (Done 10, Some (kept.Int (negsuc 2147483647)) ∷ [])
unfolding sum steps int_wrap
sum_wraps = refl

-- ---- a field is read and written: x = x + 3

add_three : List ℕ
add_three = 0x07 ∷ 0 ∷ 0x07 ∷ 0 ∷ 0x53 ∷ 0 ∷ 4 ∷ 0x01 ∷ 0 ∷ 0 ∷ 0 ∷ 3 ∷ 0x10 ∷ 0x58 ∷ 0 ∷ 4 ∷ 0x72 ∷ []

adds : Image
adds = image_with (field 4 4 0 ∷ []) (0 ∷ 0 ∷ 1 ∷ 0 ∷ []) (method 5 [] (kind 0) [] add_three ∷ []) (1 ∷ [])

field_is_written : outcome (run adds Execute 10) (0 ∷ 1 ∷ [])
    ≡ (Done 10, Some (kept.Int (pos 0)) ∷ Some (kept.Int (pos 259)) ∷ [])
unfolding add_three adds steps int_wrap
field_is_written = refl

-- ---- a virtual call: x = this.m(5), where m(n) gives n * n

calls : Image
calls = image_with (field 4 4 0 ∷ []) (0 ∷ 0 ∷ 0 ∷ 0 ∷ [])
    (method 5 [] (kind 0) [] (0x07 ∷ 0 ∷ 0x07 ∷ 0 ∷ 0x01 ∷ 0 ∷ 0 ∷ 0 ∷ 5 ∷ 0x71 ∷ 0 ∷ 5 ∷ 1 ∷ 0x58 ∷ 0 ∷ 4 ∷ 0x72 ∷ [])
    ∷ method 5 (kind 2 ∷ []) (kind 2) [] (0x07 ∷ 1 ∷ 0x07 ∷ 1 ∷ 0x12 ∷ 0x73 ∷ []) ∷ []) (1 ∷ 2 ∷ [])

virtual_call_takes_a_turn : outcome (run calls Execute 10) (1 ∷ []) ≡ (Done 9, Some (kept.Int (pos 25)) ∷ [])
unfolding calls steps int_wrap
virtual_call_takes_a_turn = refl

-- ---- a choice: x = 1, or x = 2 where a bool is false

chooses : ℕ → Image
chooses t = image_with (field 4 4 0 ∷ []) (0 ∷ 0 ∷ 0 ∷ 0 ∷ []) (record (method 5 [] (kind 0) []
    (0x07 ∷ 0 ∷ 0x03 ∷ t ∷ 0x49 ∷ 0 ∷ 0x0f ∷ 0x01 ∷ 0 ∷ 0 ∷ 0 ∷ 1 ∷ 0x48 ∷ 0 ∷ 0x14 ∷ 0x01 ∷ 0 ∷ 0 ∷ 0 ∷ 2 ∷ 0x58 ∷ 0 ∷ 4
    ∷ 0x72 ∷ [])) {
      entries =
          record { place = 15; locals = object 5 ∷ []; stack = object 5 ∷ [] }
          ∷ record { place = 20; locals = object 5 ∷ []; stack = object 5 ∷ kind 2 ∷ [] } ∷ [];
    } ∷ []) (1 ∷ [])

false_chooses_two : outcome (run (chooses 0) Execute 10) (1 ∷ []) ≡ (Done 10, Some (kept.Int (pos 2)) ∷ [])
unfolding chooses steps
false_chooses_two = refl

true_chooses_one : outcome (run (chooses 1) Execute 10) (1 ∷ []) ≡ (Done 10, Some (kept.Int (pos 1)) ∷ [])
unfolding chooses steps
true_chooses_one = refl

null_chooses_one : outcome (run (chooses 2) Execute 10) (1 ∷ []) ≡ (Done 10, Some (kept.Int (pos 1)) ∷ [])
unfolding chooses steps
null_chooses_one = refl

-- ---- a text: x = "abc".length() + "abc".get(1)

texts : Image
texts = simple (0x07 ∷ 0 ∷ 0x05 ∷ 0 ∷ 0 ∷ 0x75 ∷ 0x05 ∷ 0 ∷ 0 ∷ 0x01 ∷ 0 ∷ 0 ∷ 0 ∷ 1 ∷ 0x76 ∷ 0x10 ∷ 0x58 ∷ 0 ∷ 4 ∷ 0x72
    ∷ [])

text_is_read : outcome (run texts Execute 10) (1 ∷ []) ≡ (Done 10, Some (kept.Int (pos 101)) ∷ [])
unfolding texts steps int_wrap
text_is_read = refl

-- ---- each trap

-- 1 / 0
divides : Image
divides = simple (0x01 ∷ 0 ∷ 0 ∷ 0 ∷ 1 ∷ 0x01 ∷ 0 ∷ 0 ∷ 0 ∷ 0 ∷ 0x13 ∷ 0x0a ∷ 0x72 ∷ [])

zero_divisor : outcome (run divides Execute 10) [] ≡ (Trapped 1, [])
unfolding divides steps
zero_divisor = refl

-- a field of null
null_field : Image
null_field = simple (0x04 ∷ 0x53 ∷ 0 ∷ 4 ∷ 0x0a ∷ 0x72 ∷ [])

null_reference : outcome (run null_field Execute 10) [] ≡ (Trapped 2, [])
unfolding null_field steps
null_reference = refl

-- element 2 of an array of two bytes
array : Image
array = image_with (field 4 10 2 ∷ []) (8 ∷ 9 ∷ [])
    (method 5 [] (kind 0) [] (0x07 ∷ 0 ∷ 0x01 ∷ 0 ∷ 0 ∷ 0 ∷ 2 ∷ 0x61 ∷ 0 ∷ 4 ∷ 0 ∷ 2 ∷ 0x0a ∷ 0x72 ∷ []) ∷ []) (1 ∷ [])

out_of_range : outcome (run array Execute 10) [] ≡ (Trapped 3, [])
unfolding array steps
out_of_range = refl

-- null is tested before the index, and before the turn of a call
null_array : Image
null_array = image_with (field 4 10 2 ∷ []) (8 ∷ 9 ∷ [])
    (method 5 [] (kind 0) [] (0x04 ∷ 0x01 ∷ 0xff ∷ 0xff ∷ 0xff ∷ 0xff ∷ 0x61 ∷ 0 ∷ 4 ∷ 0 ∷ 2 ∷ 0x0a ∷ 0x72 ∷ []) ∷ []) (1 ∷ [])

null_before_index : outcome (run null_array Execute 10) [] ≡ (Trapped 2, [])
unfolding null_array steps int_wrap
null_before_index = refl

null_receiver : Image
null_receiver = simple (0x04 ∷ 0x70 ∷ 0 ∷ 1 ∷ 0x72 ∷ [])

null_before_turn : outcome (run null_receiver Execute 0) [] ≡ (Trapped 2, [])
unfolding null_receiver steps
null_before_turn = refl

-- a method that calls itself: 31 calls have a frame, and the next one takes its turn and then traps
deep : Image
deep = simple (0x07 ∷ 0 ∷ 0x70 ∷ 0 ∷ 1 ∷ 0x72 ∷ [])

too_deep : outcome (run deep Execute 40) [] ≡ (Trapped 5, [])
unfolding deep steps
too_deep = refl

turns_first : outcome (run deep Execute 31) [] ≡ (Trapped 4, [])
unfolding deep steps
turns_first = refl

-- ---- callbacks

-- `Component` has one place, so a callback runs nothing
no_callback : outcome (run loop (Callback Start) 10) [] ≡ (Done 10, [])
unfolding loop steps
no_callback = refl

-- ---- these images break no rule, so that the kinds that the rules find are those that run

sum_is_verified : first_broken sum ≡ None
unfolding sum
sum_is_verified = refl

adds_is_verified : first_broken adds ≡ None
unfolding add_three adds
adds_is_verified = refl

calls_is_verified : first_broken calls ≡ None
unfolding calls
calls_is_verified = refl

chooses_is_verified : first_broken (chooses 2) ≡ None
unfolding chooses
chooses_is_verified = refl

texts_is_verified : first_broken texts ≡ None
unfolding texts
texts_is_verified = refl

array_is_verified : first_broken array ≡ None
unfolding array
array_is_verified = refl

null_array_is_verified : first_broken null_array ≡ None
unfolding null_array
null_array_is_verified = refl

deep_is_verified : first_broken deep ≡ None
unfolding deep
deep_is_verified = refl
