-- The rules on small images, computed from the definitions: each broken once, beside a neighbour that keeps it.
use Rattle.std.proofs.Common.{◌≡◌, ℕ, List, [], ◌∷◌, drop, Option, Some, None, refl}
use Rattle.scode_image.specs.declared.image.Image.{Image}
use Rattle.scode_image.specs.declared.image.ImageEntry.{ImageEntry}
use Rattle.scode_image.specs.declared.image.ImageKind.{ImageKind}
use Rattle.scode_image.specs.declared.image.ImageMethod.{ImageMethod}
use Rattle.scode_code.specs.CodeRules.{Fault, code_fault}
use Rattle.scode_code.specs.Faults.{Broken, first_broken}
use Rattle.scode_code.proofs.Building.{kind, object, field, method, image_with, simple}

-- a method of class 5 with this code and these entries, and its first fault
with_entries : List ℕ → List ImageEntry → ImageMethod
with_entries code entries = record (method 5 [] (kind 0) [] code) { entries = entries }

entry : ℕ → List ImageKind → ImageEntry
entry place stack = record { place = place; locals = object 5 ∷ []; stack = stack }

plain : Image
plain = simple (0x72 ∷ [])

fault : List ℕ → List ImageEntry → Option Fault
fault code entries = code_fault plain (with_entries code entries)

-- ---- rule 2

no_instruction : fault (0x00 ∷ []) [] ≡ Some (0, 2)
unfolding with_entries plain fault
no_instruction = refl

cut_instruction : fault (0x4b ∷ 0x01 ∷ 0 ∷ 0 ∷ []) [] ≡ Some (1, 2)
unfolding with_entries plain fault
cut_instruction = refl

runs_past : fault (0x4b ∷ []) [] ≡ Some (0, 2)
unfolding with_entries plain fault
runs_past = refl

ends : fault (0x4b ∷ 0x72 ∷ []) [] ≡ None
unfolding with_entries plain fault
ends = refl

empty : fault [] [] ≡ Some (0, 2)
unfolding with_entries plain fault
empty = refl

-- ---- rules 3 and 4

-- a jump into the operand of another instruction
misses_start : fault (0x48 ∷ 0 ∷ 4 ∷ 0x07 ∷ 0 ∷ 0x0a ∷ 0x72 ∷ []) (entry 3 [] ∷ []) ≡ Some (0, 3)
unfolding with_entries entry plain fault
misses_start = refl

jumps_on : fault (0x48 ∷ 0 ∷ 3 ∷ 0x07 ∷ 0 ∷ 0x0a ∷ 0x72 ∷ []) (entry 3 [] ∷ []) ≡ None
unfolding with_entries entry plain fault
jumps_on = refl

-- back to itself, with an entry there
goes_back : fault (0x48 ∷ 0 ∷ 0 ∷ []) (entry 0 [] ∷ []) ≡ Some (0, 4)
unfolding with_entries entry plain fault
goes_back = refl

back_to_turn : fault (0x4b ∷ 0x48 ∷ 0 ∷ 0 ∷ []) (entry 0 [] ∷ []) ≡ None
unfolding with_entries entry plain fault
back_to_turn = refl

-- a jump to the end of the code
jumps_out : fault (0x48 ∷ 0 ∷ 3 ∷ []) [] ≡ Some (0, 3)
unfolding with_entries plain fault
jumps_out = refl

-- ---- rule 5

no_local : fault (0x07 ∷ 1 ∷ 0x0a ∷ 0x72 ∷ []) [] ≡ Some (0, 5)
unfolding with_entries plain fault
no_local = refl

no_text : fault (0x05 ∷ 0 ∷ 1 ∷ 0x0a ∷ 0x72 ∷ []) [] ≡ Some (0, 5)
unfolding with_entries plain fault
no_text = refl

a_text : fault (0x05 ∷ 0 ∷ 0 ∷ 0x0a ∷ 0x72 ∷ []) [] ≡ None
unfolding with_entries plain fault
a_text = refl

no_method : fault (0x07 ∷ 0 ∷ 0x70 ∷ 0 ∷ 9 ∷ 0x72 ∷ []) [] ≡ Some (2, 5)
unfolding with_entries plain fault
no_method = refl

no_place : fault (0x07 ∷ 0 ∷ 0x71 ∷ 0 ∷ 5 ∷ 1 ∷ 0x72 ∷ []) [] ≡ Some (2, 5)
unfolding with_entries plain fault
no_place = refl

a_place : fault (0x07 ∷ 0 ∷ 0x71 ∷ 0 ∷ 5 ∷ 0 ∷ 0x72 ∷ []) [] ≡ None
unfolding with_entries plain fault
a_place = refl

-- behind a `ret` no kinds stand, but a number is asked for all the same
behind_all_kinds : fault (0x72 ∷ 0x05 ∷ 0 ∷ 9 ∷ 0x0a ∷ 0x72 ∷ []) [] ≡ Some (1, 5)
unfolding with_entries plain fault
behind_all_kinds = refl

-- ---- rules 6 and 7

lacks_cell : fault (0x0a ∷ 0x72 ∷ []) [] ≡ Some (0, 6)
unfolding with_entries plain fault
lacks_cell = refl

-- nine cells where eight may be
too_many : fault (0x04 ∷ 0x04 ∷ 0x04 ∷ 0x04 ∷ 0x04 ∷ 0x04 ∷ 0x04 ∷ 0x04 ∷ 0x04 ∷ 0x72 ∷ []) [] ≡ Some (8, 6)
unfolding with_entries plain fault
too_many = refl

-- an entry that has nine, which nothing leads to; and one that has eight
nine_nulls : List ImageKind
nine_nulls = kind 5 ∷ kind 5 ∷ kind 5 ∷ kind 5 ∷ kind 5 ∷ kind 5 ∷ kind 5 ∷ kind 5 ∷ kind 5 ∷ []

enters_with_nine : fault (0x72 ∷ 0x0a ∷ 0x72 ∷ []) (entry 1 nine_nulls ∷ []) ≡ Some (1, 6)
unfolding with_entries entry plain fault nine_nulls
enters_with_nine = refl

enters_with_eight : fault (0x72 ∷ 0x0a ∷ 0x72 ∷ []) (entry 1 (drop 1 nine_nulls) ∷ []) ≡ None
unfolding with_entries entry plain fault nine_nulls
enters_with_eight = refl

wrong_kind : fault (0x04 ∷ 0x1a ∷ 0x0a ∷ 0x72 ∷ []) [] ≡ Some (1, 7)
unfolding with_entries plain fault
wrong_kind = refl

-- null goes to a Str
null_is_str : fault (0x04 ∷ 0x75 ∷ 0x0a ∷ 0x72 ∷ []) [] ≡ None
unfolding with_entries plain fault
null_is_str = refl

-- an object goes to its base, as the receiver of a method of `Component`
goes_to_base : fault (0x07 ∷ 0 ∷ 0x70 ∷ 0 ∷ 0 ∷ 0x72 ∷ []) [] ≡ None
unfolding with_entries plain fault
goes_to_base = refl

-- and a base to no class above it
goes_no_further : code_fault plain (method 5 (object 2 ∷ []) (kind 0) [] (0x07 ∷ 1 ∷ 0x70 ∷ 0 ∷ 1 ∷ 0x72 ∷ []))
    ≡ Some (2, 7)
unfolding plain
goes_no_further = refl

-- ---- rule 8

no_field : fault (0x07 ∷ 0 ∷ 0x53 ∷ 0 ∷ 5 ∷ 0x0a ∷ 0x72 ∷ []) [] ≡ Some (2, 8)
unfolding with_entries plain fault
no_field = refl

other_form : fault (0x07 ∷ 0 ∷ 0x52 ∷ 0 ∷ 4 ∷ 0x0a ∷ 0x72 ∷ []) [] ≡ Some (2, 8)
unfolding with_entries plain fault
other_form = refl

a_field : fault (0x07 ∷ 0 ∷ 0x53 ∷ 0 ∷ 4 ∷ 0x0a ∷ 0x72 ∷ []) [] ≡ None
unfolding with_entries plain fault
a_field = refl

-- of null nothing is said, and of the static block its own fields
field_of_null : fault (0x04 ∷ 0x53 ∷ 0 ∷ 9 ∷ 0x0a ∷ 0x72 ∷ []) [] ≡ None
unfolding with_entries plain fault
field_of_null = refl

field_of_statics : fault (0x06 ∷ 0x53 ∷ 0 ∷ 0 ∷ 0x0a ∷ 0x72 ∷ []) [] ≡ None
unfolding with_entries plain fault
field_of_statics = refl

no_static : fault (0x06 ∷ 0x53 ∷ 0 ∷ 4 ∷ 0x0a ∷ 0x72 ∷ []) [] ≡ Some (1, 8)
unfolding with_entries plain fault
no_static = refl

-- ---- rule 9

no_entry : fault (0x48 ∷ 0 ∷ 3 ∷ 0x72 ∷ []) [] ≡ Some (0, 9)
unfolding with_entries plain fault
no_entry = refl

-- a jump brings one cell more than the entry has
brings_more : fault (0x04 ∷ 0x48 ∷ 0 ∷ 4 ∷ 0x72 ∷ []) (entry 4 [] ∷ []) ≡ Some (1, 9)
unfolding with_entries entry plain fault
brings_more = refl

brings_as_much : fault (0x04 ∷ 0x48 ∷ 0 ∷ 4 ∷ 0x0a ∷ 0x72 ∷ []) (entry 4 (kind 4 ∷ []) ∷ []) ≡ None
unfolding with_entries entry plain fault
brings_as_much = refl

-- the cells of an entry stand with the lowest first
in_their_order : fault (0x01 ∷ 0 ∷ 0 ∷ 0 ∷ 1 ∷ 0x04 ∷ 0x48 ∷ 0 ∷ 9 ∷ 0x0a ∷ 0x0a ∷ 0x72 ∷ [])
    (entry 9 (kind 2 ∷ kind 4 ∷ []) ∷ []) ≡ None
unfolding with_entries entry plain fault
in_their_order = refl

in_another_order : fault (0x01 ∷ 0 ∷ 0 ∷ 0 ∷ 1 ∷ 0x04 ∷ 0x48 ∷ 0 ∷ 9 ∷ 0x0a ∷ 0x0a ∷ 0x72 ∷ [])
    (entry 9 (kind 4 ∷ kind 2 ∷ []) ∷ []) ≡ Some (6, 9)
unfolding with_entries entry plain fault
in_another_order = refl

-- the locals are compared too, and a `store` gives the local its cell's kind
entry_of : ℕ → ImageKind → ImageEntry
entry_of place local = record { place = place; locals = local ∷ []; stack = [] }

other_locals : fault (0x48 ∷ 0 ∷ 3 ∷ 0x72 ∷ []) (entry_of 3 (kind 2) ∷ []) ≡ Some (0, 9)
unfolding with_entries entry_of plain fault
other_locals = refl

stored_local : fault (0x01 ∷ 0 ∷ 0 ∷ 0 ∷ 1 ∷ 0x08 ∷ 0 ∷ 0x48 ∷ 0 ∷ 10 ∷ 0x72 ∷ []) (entry_of 10 (kind 2) ∷ []) ≡ None
unfolding with_entries entry_of plain fault
stored_local = refl

stored_over : fault (0x01 ∷ 0 ∷ 0 ∷ 0 ∷ 1 ∷ 0x08 ∷ 0 ∷ 0x48 ∷ 0 ∷ 10 ∷ 0x72 ∷ []) (entry_of 10 (object 5) ∷ []) ≡ Some (7, 9)
unfolding with_entries entry_of plain fault
stored_over = refl

-- the instruction before leaves a cell, and the entry has none
falls_in : fault (0x04 ∷ 0x4b ∷ 0x72 ∷ []) (entry 1 [] ∷ []) ≡ Some (1, 9)
unfolding with_entries entry plain fault
falls_in = refl

-- nothing goes on behind a `ret`, and an entry is no start
behind_return : fault (0x72 ∷ 0x4b ∷ 0x72 ∷ []) [] ≡ Some (1, 9)
unfolding with_entries plain fault
behind_return = refl

no_start : fault (0x07 ∷ 0 ∷ 0x0a ∷ 0x72 ∷ []) (entry 1 [] ∷ []) ≡ Some (1, 9)
unfolding with_entries entry plain fault
no_start = refl

-- also where it has more bits than a place
far_behind_all : fault (0x4b ∷ 0x72 ∷ []) (entry 70000 [] ∷ []) ≡ Some (70000, 9)
unfolding with_entries entry plain fault
far_behind_all = refl

-- behind a jump too an instruction wants an entry
behind_jump : fault (0x48 ∷ 0 ∷ 4 ∷ 0x4b ∷ 0x72 ∷ []) (entry 4 [] ∷ []) ≡ Some (3, 9)
unfolding with_entries entry plain fault
behind_jump = refl

behind_jump_entered : fault (0x48 ∷ 0 ∷ 4 ∷ 0x4b ∷ 0x72 ∷ []) (entry 3 [] ∷ entry 4 [] ∷ []) ≡ None
unfolding with_entries entry plain fault
behind_jump_entered = refl

behind_all : fault (0x4b ∷ 0x72 ∷ []) (entry 7 [] ∷ []) ≡ Some (7, 9)
unfolding with_entries entry plain fault
behind_all = refl

-- ---- rule 10

returns_value : fault (0x01 ∷ 0 ∷ 0 ∷ 0 ∷ 1 ∷ 0x73 ∷ []) [] ≡ Some (5, 10)
unfolding with_entries plain fault
returns_value = refl

-- of a method that gives an int
gives_int : List ℕ → Option Fault
gives_int code = code_fault plain (method 5 [] (kind 2) [] code)

an_int : gives_int (0x01 ∷ 0 ∷ 0 ∷ 0 ∷ 1 ∷ 0x73 ∷ []) ≡ None
unfolding plain gives_int
an_int = refl

a_bool : gives_int (0x03 ∷ 1 ∷ 0x73 ∷ []) ≡ Some (2, 10)
unfolding plain gives_int
a_bool = refl

nothing_given : gives_int (0x72 ∷ []) ≡ Some (0, 10)
unfolding plain gives_int
nothing_given = refl

-- ---- the tables

plain_is_verified : first_broken plain ≡ None
unfolding plain
plain_is_verified = refl

told : ℕ → ℕ → ℕ → Option Broken
told method at rule = Some (record { method = method; at = at; rule = rule })

-- the entry at 0 of method 1 is there, and its code goes back to itself
method_is_named : first_broken
    (image_with (field 4 4 0 ∷ []) (0 ∷ 0 ∷ 0 ∷ 0 ∷ []) (with_entries (0x48 ∷ 0 ∷ 0 ∷ []) (entry 0 [] ∷ []) ∷ [])
    (1 ∷ [])) ≡ told 1 0 4
unfolding with_entries entry told
method_is_named = refl

-- two fields overlap; data is too short; a Str of no byte
overlap : first_broken
    (image_with (field 2 4 0 ∷ []) (0 ∷ 0 ∷ 0 ∷ 0 ∷ []) (method 5 [] (kind 0) [] (0x72 ∷ []) ∷ []) (1 ∷ []))
    ≡ told 65535 0 1
unfolding told
overlap = refl

outside : first_broken
    (image_with (field 4 4 0 ∷ []) (0 ∷ 0 ∷ 0 ∷ []) (method 5 [] (kind 0) [] (0x72 ∷ []) ∷ []) (1 ∷ []))
    ≡ told 65535 0 1
unfolding told
outside = refl

-- the method of a table is of a class that is neither this one nor above it; a table without `execute`
strange_method : first_broken
    (image_with (field 4 4 0 ∷ []) (0 ∷ 0 ∷ 0 ∷ 0 ∷ []) (method 4 [] (kind 0) [] (0x72 ∷ []) ∷ []) (1 ∷ []))
    ≡ told 65535 0 1
unfolding told
strange_method = refl

no_table : first_broken
    (image_with (field 4 4 0 ∷ []) (0 ∷ 0 ∷ 0 ∷ 0 ∷ []) (method 5 [] (kind 0) [] (0x72 ∷ []) ∷ []) []) ≡ told 65535 0 1
unfolding told
no_table = refl
