-- The checksum of a kit.
use Rattle.std.specs.Prelude.{ℕ, ℤ, List, take}
use Rattle.std.specs.Int.{w32, cast_signed, from_be_bytes}
use Rattle.sha1.specs.Sha1.{sha1}
use Rattle.sed_typed.specs.declared.schema.Schema.{Schema}
use Rattle.sed_classes.specs.Canonical.{canonical_text}

-- the first four bytes of SHA-1, the highest first, as a signed number
abbrev pub checksum_of : List ℕ → ℤ
checksum_of text = cast_signed w32 (from_be_bytes w32 (take 4 (sha1 text)))

abbrev pub kit_checksum : Schema → ℕ → ℤ
kit_checksum schema kit = checksum_of (canonical_text schema kit)
