-- The form of a user's name.
use Rattle.std.specs.Prelude.{ℕ, Bool, not, ◌&&◌, ◌==◌, nat_le, List, length}
use Rattle.std.specs.List.{list_all}

-- a byte from 0x21 to 0x7e, and no colon
abbrev pub is_name_byte : ℕ → Bool
is_name_byte byte = nat_le 33 byte && nat_le byte 126 && not (byte == 58)

-- 1 to 16 of them
abbrev pub is_user_name : List ℕ → Bool
is_user_name name = nat_le 1 (length name) && nat_le (length name) 16 && list_all is_name_byte name
