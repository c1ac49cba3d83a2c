-- Reading the body of a command from left to right.
use Rattle.std.specs.Prelude.{ℕ, ◌+◌, ◌*◌, ◌==◌, nat_lt, if◌then◌else◌, Option, Some, None, List, [], ◌∷◌, length}
use Rattle.std.specs.Option.{option_and_then}
use Rattle.sed_wire.specs.Text.{is_character}
use Rattle.sox_msg.specs.Command.{Asked, add, read_part, delete, invoke, link, unlink, rename, reorder, read_slot}
use Rattle.sox_msg.specs.Command.{subscribe, unsubscribe, version, write, clear, is_part}

abbrev pub id_at : ℕ → ℕ → ℕ
id_at high low = high * 256 + low

-- a text, and what is behind its 0
abbrev pub text_at : List ℕ → Option (List ℕ × List ℕ)
text_at [] = None
text_at (byte ∷ behind) =
    if byte == 0 then Some ([], behind)
    else if is_character byte then option_and_then (λ read. Some (byte ∷ read.0, read.1)) (text_at behind)
    else None

unfoldable pub add_at : List ℕ → Option Asked
add_at (a ∷ b ∷ kit ∷ kind ∷ rest) =
    option_and_then (λ read. Some (add (id_at a b) kit kind read.0 read.1)) (text_at rest)
add_at body = None

unfoldable pub part_at : List ℕ → Option Asked
part_at (a ∷ b ∷ part ∷ []) = if is_part part then Some (read_part (id_at a b) part) else None
part_at body = None

unfoldable pub delete_at : List ℕ → Option Asked
delete_at (a ∷ b ∷ []) = Some (delete (id_at a b))
delete_at body = None

unfoldable pub invoke_at : List ℕ → Option Asked
invoke_at (a ∷ b ∷ slot ∷ arg) = Some (invoke (id_at a b) slot arg)
invoke_at body = None

unfoldable pub link_at : List ℕ → Option Asked
link_at (way ∷ a ∷ b ∷ s ∷ c ∷ d ∷ t ∷ []) =
    if way == 97 then Some (link (id_at a b) s (id_at c d) t)
    else if way == 100 then Some (unlink (id_at a b) s (id_at c d) t) else None
link_at body = None

unfoldable pub rename_at : List ℕ → Option Asked
rename_at (a ∷ b ∷ rest) =
    option_and_then (λ read. if length read.1 == 0 then Some (rename (id_at a b) read.0) else None) (text_at rest)
rename_at body = None

unfoldable pub reorder_at : List ℕ → Option Asked
reorder_at (a ∷ b ∷ count ∷ children) =
    if length children == 2 * count then Some (reorder (id_at a b) children) else None
reorder_at body = None

unfoldable pub slot_at : List ℕ → Option Asked
slot_at (a ∷ b ∷ slot ∷ []) = Some (read_slot (id_at a b) slot)
slot_at body = None

unfoldable pub subscribe_at : List ℕ → Option Asked
subscribe_at (a ∷ b ∷ mask ∷ []) = if nat_lt mask 16 then Some (subscribe (id_at a b) mask) else None
subscribe_at body = None

unfoldable pub unsubscribe_at : List ℕ → Option Asked
unsubscribe_at (a ∷ b ∷ mask ∷ []) = if nat_lt mask 16 then Some (unsubscribe (id_at a b) mask) else None
unsubscribe_at body = None

unfoldable pub version_at : List ℕ → Option Asked
version_at [] = Some version
version_at body = None

unfoldable pub write_at : List ℕ → Option Asked
write_at (a ∷ b ∷ slot ∷ value) = Some (write (id_at a b) slot value)
write_at body = None

unfoldable pub clear_at : List ℕ → Option Asked
clear_at (a ∷ b ∷ []) = Some (clear (id_at a b))
clear_at body = None

unfoldable pub command_at : ℕ → List ℕ → Option Asked
command_at letter body =
    if letter == 97 then add_at body
    else if letter == 99 then part_at body
    else if letter == 100 then delete_at body
    else if letter == 105 then invoke_at body
    else if letter == 108 then link_at body
    else if letter == 110 then rename_at body
    else if letter == 111 then reorder_at body
    else if letter == 114 then slot_at body
    else if letter == 115 then subscribe_at body
    else if letter == 117 then unsubscribe_at body
    else if letter == 118 then version_at body
    else if letter == 119 then write_at body
    else if letter == 120 then clear_at body
    else None
