-- Each letter once, computed from the definitions: the App (0) with a Folder `f` (1), whose fault is 3, and a Note `n` (2).
use Rattle.std.proofs.Common.{◌≡◌, ℕ, pos, List, [], ◌∷◌, refl}
use Rattle.std.specs.Prelude.{codes, None}
use Rattle.std.specs.FinMap as map
use Rattle.comp_tree.specs.Application.{ById, Link}
use Rattle.comp_tree.specs.Order.{down_from, free_from, least_free}
use Rattle.comp_tree.specs.Refusals.{first_refusal}
use Rattle.sox_msg.specs.Command.{Asked, add, read_part, delete, invoke, link, unlink, rename, reorder, read_slot, subscribe, unsubscribe, version, write, clear}
use Rattle.sox_serve.specs.Answer.{answer}
use Rattle.sox_serve.specs.Replies.{reply_bytes}
use Rattle.sox_serve.specs.Table.{refusals_of}
use Rattle.sox_serve.specs.declared.served.Served.TheVariants.{SaveAsked, Subscribe, Deleted}
use Rattle.sox_serve.proofs.Building.{application, between, code, counted, found, three}

-- the reply to request 9
abbrev replied : ById → List Link → Asked → List ℕ
replied all links asked = reply_bytes 9 (answer code (application all links) asked 10 (pos 0)).reply

-- v: the kits
v_replies : (all : ById) → replied all [] version
    ≡ 0x56 ∷ 9 ∷ 2 ∷ 0x73 ∷ 0x79 ∷ 0x73 ∷ 0 ∷ 0x36 ∷ 0 ∷ 0xe4 ∷ 0xe4 ∷ 0x70 ∷ 0x6c ∷ 0x61 ∷ 0x6e ∷ 0x74 ∷ 0 ∷ 0 ∷ 0 ∷ 0 ∷ 1 ∷ []
unfolding code
v_replies all = refl

-- c: each part
tree_replies : (all : ById) → map.entries all ≡ three → replied all [] (read_part 0 116)
    ≡ 0x43 ∷ 9 ∷ 0 ∷ 0 ∷ 0x74 ∷ 0 ∷ 3 ∷ 0x61 ∷ 0x70 ∷ 0x70 ∷ 0 ∷ 0xff ∷ 0xff ∷ 0xff ∷ 2 ∷ 0 ∷ 1 ∷ 0 ∷ 2 ∷ []
unfolding code
tree_replies all is = rw (found all three is 0) refl

config_replies : (all : ById) → map.entries all ≡ three → replied all [] (read_part 2 99)
    ≡ 0x43 ∷ 9 ∷ 0 ∷ 2 ∷ 0x63 ∷ 0 ∷ 0 ∷ 0 ∷ 0 ∷ 0 ∷ 2 ∷ 0x61 ∷ 0x62 ∷ []
unfolding code
config_replies all is = rw (found all three is 2) refl

runtime_replies : (all : ById) → map.entries all ≡ three → replied all [] (read_part 2 114) ≡ 0x43 ∷ 9 ∷ 0 ∷ 2 ∷ 0x72 ∷ []
unfolding code
runtime_replies all is = rw (found all three is 2) refl

links_reply : (all : ById) → map.entries all ≡ three → replied all (between ∷ []) (read_part 1 108)
    ≡ 0x43 ∷ 9 ∷ 0 ∷ 1 ∷ 0x6c ∷ 0 ∷ 1 ∷ 0 ∷ 0 ∷ 2 ∷ 0 ∷ 0xff ∷ 0xff ∷ []
unfolding code
links_reply all is = rw (found all three is 1) refl

fault_replies : (all : ById) → map.entries all ≡ three → replied all [] (read_part 1 102) ≡ 0x43 ∷ 9 ∷ 0 ∷ 1 ∷ 0x66 ∷ 3 ∷ []
unfolding code
fault_replies all is = rw (found all three is 1) refl

-- r
slot_replies : (all : ById) → map.entries all ≡ three → replied all [] (read_slot 1 0) ≡ 0x52 ∷ 9 ∷ 0 ∷ 1 ∷ 0 ∷ 0 ∷ 0 ∷ 0 ∷ 7 ∷ []
unfolding code
slot_replies all is = rw (found all three is 1) refl

-- a: a Folder `g`, which takes id 3
abbrev folder : Asked
folder = add 0 0 4 (codes "g") (0 ∷ 0 ∷ 0 ∷ 5 ∷ [])

folder_is_allowed : (all : ById) → map.entries all ≡ three → first_refusal (refusals_of code (application all []) folder) ≡ None
unfolding code
folder_is_allowed all is = rw (found all three is 0, found all three is 1, found all three is 2, counted all three is, is) refl

least_is_free : (all : ById) → map.entries all ≡ three → least_free all ≡ 3
unfolding free_from
least_is_free all is = rw (found all three is 0, found all three is 1, found all three is 2, found all three is 3) refl

add_replies : (all : ById) → map.entries all ≡ three → replied all [] folder ≡ 0x41 ∷ 9 ∷ 0 ∷ 3 ∷ []
add_replies all is = rw (folder_is_allowed all is, least_is_free all is) refl

-- d: the link at it goes too
delete_replies : (all : ById) → map.entries all ≡ three → replied all (between ∷ []) (delete 1) ≡ 0x44 ∷ 9 ∷ []
unfolding code
delete_replies all is = rw (found all three is 1) refl

delete_is_told : (all : ById) → map.entries all ≡ three
    → (answer code (application all (between ∷ [])) (delete 1) 10 (pos 0)).served ≡ Deleted
unfolding code
delete_is_told all is = rw (found all three is 1) refl

delete_takes_links : (all : ById) → map.entries all ≡ three
    → (answer code (application all (between ∷ [])) (delete 1) 10 (pos 0)).application.links ≡ []
unfolding code down_from
delete_takes_links all is = rw (found all three is 1) refl

-- i
invoke_replies : (all : ById) → map.entries all ≡ three → replied all [] (invoke 2 2 []) ≡ 0x49 ∷ 9 ∷ []
unfolding code
invoke_replies all is = rw (found all three is 2) refl

-- and the App's `save`
save_is_asked : (all : ById) → map.entries all ≡ three
    → (answer code (application all []) (invoke 0 1 []) 10 (pos 0)).served ≡ SaveAsked
unfolding code
save_is_asked all is = rw (found all three is 0) refl

save_has_no_reply : (all : ById) → map.entries all ≡ three → replied all [] (invoke 0 1 []) ≡ []
unfolding code
save_has_no_reply all is = rw (found all three is 0) refl

-- l, to add and to take away
link_replies : (all : ById) → map.entries all ≡ three → replied all [] (link 1 0 2 0) ≡ 0x4c ∷ 9 ∷ []
unfolding code
link_replies all is = rw (found all three is 1, found all three is 2) refl

link_is_there : (all : ById) → map.entries all ≡ three
    → (answer code (application all []) (link 1 0 2 0) 10 (pos 0)).application.links ≡ between ∷ []
unfolding code
link_is_there all is = rw (found all three is 1, found all three is 2) refl

unlink_replies : (all : ById) → replied all (between ∷ []) (unlink 1 0 2 0) ≡ 0x4c ∷ 9 ∷ []
unfolding code
unlink_replies all = refl

-- n, with a name that is longer than seven
rename_replies : (all : ById) → map.entries all ≡ three → replied all [] (rename 1 (codes "feedwater")) ≡ 0x4e ∷ 9 ∷ []
unfolding code
rename_replies all is = rw (found all three is 1, found all three is 0, found all three is 2) refl

-- o
reorder_replies : (all : ById) → map.entries all ≡ three → replied all [] (reorder 0 (0 ∷ 2 ∷ 0 ∷ 1 ∷ [])) ≡ 0x4f ∷ 9 ∷ []
unfolding code
reorder_replies all is = rw (found all three is 0) refl

-- s and u
subscribe_replies : (all : ById) → map.entries all ≡ three → replied all [] (subscribe 1 4) ≡ 0x53 ∷ 9 ∷ []
unfolding code
subscribe_replies all is = rw (found all three is 1) refl

subscribe_is_told : (all : ById) → map.entries all ≡ three
    → (answer code (application all []) (subscribe 1 4) 10 (pos 0)).served ≡ Subscribe (record { 0 = 1 }) 4
unfolding code
subscribe_is_told all is = rw (found all three is 1) refl

unsubscribe_replies : (all : ById) → map.entries all ≡ three → replied all [] (unsubscribe 1 4) ≡ 0x55 ∷ 9 ∷ []
unfolding code
unsubscribe_replies all is = rw (found all three is 1) refl

-- w: a buffer that just fits
write_replies : (all : ById) → map.entries all ≡ three → replied all [] (write 2 1 (0 ∷ 4 ∷ 0x61 ∷ 0x62 ∷ 0x63 ∷ 0x64 ∷ [])) ≡ 0x57 ∷ 9 ∷ []
unfolding code
write_replies all is = rw (found all three is 2) refl

-- x
clear_replies : (all : ById) → map.entries all ≡ three → replied all [] (clear 1) ≡ 0x58 ∷ 9 ∷ []
unfolding code
clear_replies all is = rw (found all three is 1) refl
