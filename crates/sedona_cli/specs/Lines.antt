-- The lines of refusals.
use Rattle.std.specs.Prelude.{ℕ, List, [], ◌∷◌, ◌++◌, Option, Some, None, codes, string_bytes}
use Rattle.std.specs.Fmt.{decimal}
use Rattle.std.specs.Int.{bytes_high_first, cast_unsigned, w32}
use Rattle.hex.specs.Hex.{encode_lower}
use Rattle.sed_value.specs.declared.kit.KitRef.{KitRef}
use Rattle.kit_sources.specs.declared.refusal.Why.{Why}
use Rattle.kit_sources.specs.declared.refusal.Why.TheVariants as why
use Rattle.sedona_cli.specs.declared.lines.Line.{Line}
use Rattle.sedona_cli.specs.declared.lines.Line.TheVariants.{Fixed, Spelled, Worded}
use Rattle.sedona_cli.specs.declared.refusal.Refusal.{Refusal}
use Rattle.sedona_cli.specs.declared.refusal.Refusal.TheVariants.{FileFault, Refused, Rule, SlotTooSmall, DeviceFault}
use Rattle.sedona_cli.specs.declared.refusal.Refusal.TheVariants.{StoreExists, NoStore, NoApplication, WrongKits}
use Rattle.sedona_cli.specs.declared.refusal.Refusal.TheVariants.{OverLimit, BadUsers, ShortSecret, BadRecord}
use Rattle.sedona_cli.specs.declared.refusal.Refusal.TheVariants.{ImageBroken, ImageRefused, LinkFault, Memory}
use Rattle.sedona_cli.specs.declared.refusal.Refusal.TheVariants.{MethodTooLong}

-- what is put of a line
abbrev pub line_bytes : Line → List ℕ
line_bytes (Fixed text) = text.now
line_bytes (Worded text) = string_bytes text
line_bytes (Spelled bytes) = bytes.items

abbrev pub line_end : List ℕ
line_end = 10 ∷ []

abbrev pub usage_line : List ℕ
usage_line = codes "usage" ++ line_end

abbrev pub memory_line : List ℕ
memory_line = codes "out of memory" ++ line_end

-- why a file is refused, in words
abbrev pub why_text : Why → List ℕ
why_text why.NotToml = codes "NotToml"
why_text why.MissingKey = codes "MissingKey"
why_text why.WrongType = codes "WrongType"
why_text why.BadName = codes "BadName"
why_text why.UnknownKit = codes "UnknownKit"
why_text why.Cycle = codes "Cycle"
why_text why.RepeatedKit = codes "RepeatedKit"
why_text (why.Lex at) = decimal at ++ codes " lex"
why_text (why.Parse at) = decimal at ++ codes " parse"

abbrev pub refused_line : List ℕ → List ℕ → List ℕ
refused_line file words = codes "refused " ++ (file ++ (codes " " ++ (words ++ line_end)))

-- a kit: its name, and its checksum as eight hexadecimal digits; or that there is none
abbrev pub kit_text : Option KitRef → List ℕ
kit_text None = codes "-"
kit_text (Some kit) =
    kit.name ++ (codes "/" ++ encode_lower (bytes_high_first 4 (cast_unsigned w32 kit.checksum)))

-- the line of a refusal
abbrev pub line_of : Refusal → List ℕ
line_of (FileFault file) = codes "file fault " ++ (file ++ line_end)
line_of (Refused file reason) = refused_line file (why_text reason)
line_of (Rule file at rule) = refused_line file (decimal at ++ (codes " " ++ decimal rule))
line_of (MethodTooLong n) = codes "method too long " ++ (decimal n ++ line_end)
line_of (ImageRefused at) = codes "image refused " ++ (decimal at ++ line_end)
line_of (ImageBroken method at rule) =
    codes "image refused "
    ++ (decimal method ++ (codes " " ++ (decimal at ++ (codes " " ++ (decimal rule ++ line_end)))))
line_of (SlotTooSmall needs has) =
    codes "slot too small: needs " ++ (decimal needs ++ (codes ", has " ++ (decimal has ++ line_end)))
line_of DeviceFault = codes "device fault" ++ line_end
line_of StoreExists = codes "store refused: exists" ++ line_end
line_of NoStore = codes "store refused: no store" ++ line_end
line_of NoApplication = codes "store refused: no application" ++ line_end
line_of (WrongKits kit in_file in_kits) =
    codes "store refused: wrong kits "
    ++ (decimal kit ++ (codes " " ++ (kit_text in_file ++ (codes " " ++ (kit_text in_kits ++ line_end)))))
line_of (OverLimit which) = codes "store refused: over limit " ++ (decimal which ++ line_end)
line_of BadUsers = codes "users refused" ++ line_end
line_of ShortSecret = codes "secret refused" ++ line_end
line_of (BadRecord at) = codes "record refused " ++ (decimal at ++ line_end)
line_of LinkFault = codes "link fault" ++ line_end
line_of Memory = memory_line
