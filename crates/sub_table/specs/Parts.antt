-- Masks of parts.
use Rattle.std.specs.Prelude.{ℕ, ◌/◌, ◌%◌, ◌==◌, Bool, true, false}
use Rattle.sub_table.specs.declared.part.Part.{Part}
use Rattle.sub_table.specs.declared.part.Part.TheVariants.{Tree, Config, Runtime, Links}
use Rattle.sub_table.specs.declared.part.Widths.{Widths}

-- a part whose bit is set in a mask
abbrev pub is_in : ℕ → Part → Bool
is_in mask Tree = mask % 2 == 1
is_in mask Config = mask / 2 % 2 == 1
is_in mask Runtime = mask / 4 % 2 == 1
is_in mask Links = mask / 8 % 2 == 1

abbrev pub is_part : Part → Part → Bool
is_part Tree Tree = true
is_part Config Config = true
is_part Runtime Runtime = true
is_part Links Links = true
is_part _ _ = false

abbrev pub width_of : Widths → Part → ℕ
width_of w Tree = w.tree
width_of w Config = w.config
width_of w Runtime = w.runtime
width_of w Links = w.links

-- of four values, that of a part
abbrev pub one_of : Bool → Bool → Bool → Bool → Part → Bool
one_of t c r l Tree = t
one_of t c r l Config = c
one_of t c r l Runtime = r
one_of t c r l Links = l
