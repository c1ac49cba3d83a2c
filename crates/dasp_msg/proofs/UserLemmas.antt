-- A user's name is a text, and short.
use Rattle.std.proofs.Common.{ℕ, ◌≡◌, ◌≤◌, true, IsTrue, List, [], ◌∷◌, length, refl, arith}
use Rattle.std.proofs.lemmas.Bool.Decides.{nat_tests}
use Rattle.std.specs.List.{list_all}
use Rattle.sed_wire.specs.Text.{is_character, is_text}
use Rattle.dasp_msg.specs.UserName.{is_name_byte, is_user_name}

name-bytes : (bytes : List ℕ) → IsTrue (list_all is_name_byte bytes) → IsTrue (list_all is_character bytes)
name-bytes [] all = refl
name-bytes (byte ∷ behind) all =
    let first : is_name_byte byte ≡ true = grind (arith, nat_tests) in
    let others : IsTrue (list_all is_name_byte behind) = grind (arith, nat_tests) in
    let character : is_character byte ≡ true = grind (arith, nat_tests) in
    let rest = name-bytes behind others in
    grind (arith, nat_tests)

pub name-text : (name : List ℕ) → IsTrue (is_user_name name) → IsTrue (is_text name)
name-text name is =
    let all : IsTrue (list_all is_name_byte name) = grind (arith, nat_tests) in
    name-bytes name all

pub name-short : (name : List ℕ) → IsTrue (is_user_name name) → length name ≤ 16
name-short name is = grind (arith, nat_tests)
