-- The list of links.
use Rattle.std.specs.Prelude.{ℕ, IsTrue, ◌==◌, ◌||◌, ◌&&◌, Bool, not, nat_lt, if◌then◌else◌, List, [], ◌∷◌, filter}
use Rattle.std.specs.List.{AllPairs, list_any}
use Rattle.sub_table.specs.Link.{Link}

abbrev pub is_same_link : Link → Link → Bool
is_same_link k l = (k.from == l.from) && (k.from_slot == l.from_slot) && (k.to == l.to) && (k.to_slot == l.to_slot)

abbrev pub has_target : ℕ → ℕ → Link → Bool
has_target id slot l = (l.to == id) && (l.to_slot == slot)

-- the target of one comes before that of another
abbrev pub is_before : Link → Link → Bool
is_before k l = nat_lt k.to l.to || ((k.to == l.to) && nat_lt k.to_slot l.to_slot)

-- with one link more, at its place in the order of the targets
abbrev pub with_link : Link → List Link → List Link
with_link l [] = l ∷ []
with_link l (k ∷ ks) = if is_before k l then k ∷ with_link l ks else l ∷ k ∷ ks

abbrev pub without_link : Link → List Link → List Link
without_link l links = filter (λ k. not (is_same_link k l)) links

-- without each link from or to one of these components
abbrev pub without_links_at : List ℕ → List Link → List Link
without_links_at ids links = filter (λ l. not (list_any (λ id. (l.from == id) || (l.to == id)) ids)) links

-- the links into a component, by ascending target slot
abbrev pub links_into : ℕ → List Link → List Link
links_into id links = filter (λ l. l.to == id) links

-- the links at a component, those from it and those into it
abbrev pub links_at : ℕ → List Link → List Link
links_at id links = filter (λ l. (l.from == id) || (l.to == id)) links

-- the targets ascend, so no two links have one target
abbrev pub AreInOrder : List Link → Type 0
AreInOrder links = AllPairs (λ k l. IsTrue (is_before k l)) links
