-- What stands under a name in a list of names with values.
use Rattle.std.specs.Prelude.{ℕ, List, Option, find, unwrap_or, string_bytes, String, Vec}
use Rattle.std.specs.Option.{option_map}
use Rattle.std.specs.Str.{bytes_eq}
use Rattle.std.specs.declared.alloc.Global.{Global}
use Rattle.sed_outside.specs.Files.{Contents}

-- The value of the first entry of that name.
abbrev pub value_of : {T : Type 0} → List (String Global × T) → List ℕ → Option T
value_of entries name = option_map (λ e. e.1) (find (λ e. bytes_eq (string_bytes e.0) name) entries)

-- What files in memory hold.
abbrev pub contents_of : List (String Global × Vec ℕ Global) → Contents
contents_of files name = option_map (λ bytes. bytes.items) (value_of files name)

-- The count of a name, 0 where it has no entry.
abbrev pub count_of : List (String Global × ℕ) → List ℕ → ℕ
count_of counts name = unwrap_or (value_of counts name) 0
