-- In which order parts come.
use Rattle.std.specs.Prelude.{ℕ, ◌+◌, ◌*◌, ◌==◌, ◌&&◌, nat_lt, Bool, true, List, [], ◌∷◌}
use Rattle.std.specs.List.{list_all}
use Rattle.sub_table.specs.declared.part.Part.{Part}
use Rattle.sub_table.specs.declared.part.Part.TheVariants.{Tree, Config, Runtime, Links}
use Rattle.sub_table.specs.Parts.{is_part}
use Rattle.node_events.specs.Events.{PartAt}

-- t, c, r, l
abbrev pub rank : Part → ℕ
rank Tree = 0
rank Config = 1
rank Runtime = 2
rank Links = 3

-- by their ids, and those of one component by their ranks
abbrev pub order_of : PartAt → ℕ
order_of p = p.id * 4 + rank p.part

-- each number is below all that come after it
abbrev pub ascend : List ℕ → Bool
ascend [] = true
ascend (number ∷ later) = list_all (nat_lt number) later && ascend later

-- the part of an id
abbrev pub is_part_of : ℕ → Part → PartAt → Bool
is_part_of id part p = p.id == id && is_part part p.part
