-- The printed form of a datagram that is sent.
use Rattle.std.specs.Prelude.{ℕ, List, ◌++◌, map, codes}
use Rattle.std.specs.Fmt.{decimal}
use Rattle.std.specs.List.{join_with_byte}
use Rattle.hex.specs.Hex.{encode_lower}
use Rattle.sed_outside.specs.declared.addr.Addr.{Addr}
use Rattle.printed_app.specs.Printed.{line_end}

abbrev pub dot : ℕ
dot = 46

-- `A.B.C.D:PORT`
abbrev pub address_text : Addr → List ℕ
address_text to = join_with_byte dot (map decimal to.ip) ++ (codes ":" ++ decimal to.port)

-- `> A.B.C.D:PORT HEX`, with two lower-case hexadecimal digits for each byte
abbrev pub datagram_text : Addr → List ℕ → List ℕ
datagram_text to bytes = codes "> " ++ (address_text to ++ (codes " " ++ (encode_lower bytes ++ line_end)))
