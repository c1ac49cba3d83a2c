-- Refusals, the first of the row, computed from the definitions on the application of the examples.
use Rattle.std.proofs.Common.{◌≡◌, ℕ, List, [], ◌∷◌, refl}
use Rattle.std.specs.Prelude.{codes, replicate, Some, Option}
use Rattle.std.specs.FinMap as map
use Rattle.sed_value.specs.declared.refusal.Refusal.{Refusal}
use Rattle.sed_value.specs.declared.refusal.Refusal.TheVariants.{NoComponent, NoType, BadName, NameTaken, NoSlot, WrongKindOfSlot, BadValue, BufferTooLong, TargetLinked, NoLink, NotTheChildren, AppItself}
use Rattle.comp_tree.specs.Application.{ById, Link}
use Rattle.comp_tree.specs.Refusals.{first_refusal}
use Rattle.sox_msg.specs.Command.{Asked, add, delete, invoke, link, unlink, rename, reorder, read_slot, write, clear}
use Rattle.sox_serve.specs.Table.{refusals_of}
use Rattle.sox_serve.proofs.Building.{application, between, code, counted, found, three}

abbrev refused : ById → List Link → Asked → Option Refusal
refused all links asked = first_refusal (refusals_of code (application all links) asked)

abbrev zeros : List ℕ
zeros = 0 ∷ 0 ∷ 0 ∷ 0 ∷ []

-- an add
no_parent : (all : ById) → map.entries all ≡ three → refused all [] (add 9 7 7 (codes "1") []) ≡ Some NoComponent
unfolding code
no_parent all is = rw (found all three is 9) refl

-- `App` and `Component` are no types to add, and neither is what the kits lack
no_app : (all : ById) → map.entries all ≡ three → refused all [] (add 0 0 3 (codes "1") []) ≡ Some NoType
unfolding code
no_app all is = rw (found all three is 0) refl

no_such_type : (all : ById) → map.entries all ≡ three → refused all [] (add 0 1 1 (codes "1") []) ≡ Some NoType
unfolding code
no_such_type all is = rw (found all three is 0) refl

bad_name : (all : ById) → map.entries all ≡ three → refused all [] (add 0 0 4 (codes "1") []) ≡ Some BadName
unfolding code
bad_name all is = rw (found all three is 0) refl

name_taken : (all : ById) → map.entries all ≡ three → refused all [] (add 0 0 4 (codes "f") []) ≡ Some NameTaken
unfolding code
name_taken all is = rw (found all three is 0, found all three is 1) refl

-- a value that is cut comes before a buffer that is too long, and this before the data
bad_value : (all : ById) → map.entries all ≡ three → refused all [] (add 0 1 0 (codes "m") (0 ∷ 0 ∷ 0 ∷ 0 ∷ 0 ∷ 9 ∷ [])) ≡ Some BadValue
unfolding code
bad_value all is = rw (counted all three is, found all three is 0, found all three is 1, found all three is 2) refl

buffer_too_long : (all : ById) → map.entries all ≡ three
    → refused all [] (add 0 1 0 (codes "m") (0 ∷ 0 ∷ 0 ∷ 0 ∷ 0 ∷ 5 ∷ 1 ∷ 2 ∷ 3 ∷ 4 ∷ 5 ∷ [])) ≡ Some BufferTooLong
unfolding code
buffer_too_long all is = rw (counted all three is, found all three is 0, found all three is 1, found all three is 2) refl

-- delete and rename
app_itself : (all : ById) → map.entries all ≡ three → refused all [] (delete 0) ≡ Some AppItself
unfolding code
app_itself all is = rw (found all three is 0) refl

name_of_32 : (all : ById) → map.entries all ≡ three → refused all [] (rename 0 (replicate 32 0x61)) ≡ Some BadName
unfolding code
name_of_32 all is = rw (found all three is 0) refl

app_keeps_its_name : (all : ById) → map.entries all ≡ three → refused all [] (rename 0 (codes "f")) ≡ Some AppItself
unfolding code
app_keeps_its_name all is = rw (found all three is 0) refl

-- invoke: a property, a byte too many, and then what is faulted
property_is_no_action : (all : ById) → map.entries all ≡ three → refused all [] (invoke 1 0 []) ≡ Some WrongKindOfSlot
unfolding code
property_is_no_action all is = rw (found all three is 1) refl

no_slot : (all : ById) → map.entries all ≡ three → refused all [] (invoke 1 1 []) ≡ Some NoSlot
unfolding code
no_slot all is = rw (found all three is 1) refl

save_takes_nothing : (all : ById) → map.entries all ≡ three → refused all [] (invoke 0 1 (0 ∷ [])) ≡ Some BadValue
unfolding code
save_takes_nothing all is = rw (found all three is 0) refl

-- links
target_linked : (all : ById) → map.entries all ≡ three → refused all (between ∷ []) (link 0 0 2 0) ≡ Some TargetLinked
unfolding code
target_linked all is = rw (found all three is 0, found all three is 2) refl

action_is_not_linked : (all : ById) → map.entries all ≡ three → refused all [] (link 0 1 2 1) ≡ Some WrongKindOfSlot
unfolding code
action_is_not_linked all is = rw (found all three is 0, found all three is 2) refl

no_link : (all : ById) → refused all [] (unlink 1 0 2 0) ≡ Some NoLink
unfolding code
no_link all = refl

-- reorder, read and write
twice_the_same : (all : ById) → map.entries all ≡ three → refused all [] (reorder 0 (0 ∷ 1 ∷ 0 ∷ 1 ∷ [])) ≡ Some NotTheChildren
unfolding code
twice_the_same all is = rw (found all three is 0) refl

action_has_no_value : (all : ById) → map.entries all ≡ three → refused all [] (read_slot 0 1) ≡ Some WrongKindOfSlot
unfolding code
action_has_no_value all is = rw (found all three is 0) refl

too_long_to_write : (all : ById) → map.entries all ≡ three → refused all [] (write 2 1 (0 ∷ 5 ∷ 0x61 ∷ 0x62 ∷ 0x63 ∷ 0x64 ∷ 0x65 ∷ [])) ≡ Some BufferTooLong
unfolding code
too_long_to_write all is = rw (found all three is 2) refl

nobody_to_clear : (all : ById) → map.entries all ≡ three → refused all [] (clear 3) ≡ Some NoComponent
unfolding code
nobody_to_clear all is = rw (found all three is 3) refl
