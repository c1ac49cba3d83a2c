-- How the links are kept: once in the order of their targets, and once in the order of their sources.
use Rattle.std.specs.Prelude.{ℕ, ◌≡◌, ◌≤◌, ◌==◌, ◌||◌, ◌&&◌, Bool, IsTrue, not, nat_lt, List, ◌∷◌, ◌++◌, length, filter}
use Rattle.std.specs.List.{AllPairs}
use Rattle.sub_table.specs.Link.{Link, most_links}
use Rattle.sub_table.specs.Links.{AreInOrder, is_before}

abbrev pub is_from : ℕ → Link → Bool
is_from id l = l.from == id

-- by the source's id, and then by the target
abbrev pub comes_first : Link → Link → Bool
comes_first k l = nat_lt k.from l.from || ((k.from == l.from) && is_before k l)

abbrev pub AreBySource : List Link → Type 0
AreBySource links = AllPairs (λ k l. IsTrue (comes_first k l)) links

-- a link behind those that come before it, and before the others
abbrev pub placed : (Link → Link → Bool) → Link → List Link → List Link
placed before l links = filter (λ k. before k l) links ++ l ∷ filter (λ k. not (before k l)) links

-- from each component the same links lead in the one as in the other; there is room for all that there may be
pub record AreKept (by_target by_source : List Link) (room other_room : ℕ) : Type 0 where
  pub targets : AreInOrder by_target
  pub sources : AreBySource by_source
  pub same : (id : ℕ) → filter (is_from id) by_source ≡ filter (is_from id) by_target
  pub most : length by_target ≤ most_links
  pub has_room : most_links ≤ room
  pub has_other_room : most_links ≤ other_room
