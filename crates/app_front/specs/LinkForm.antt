-- The links of a file as a form of bytes.
use Rattle.std.specs.Prelude.{ℕ, List, refl}
use Rattle.sed_wire.specs.Form.{Form, given, seen_as, ◌&◌}
use Rattle.sed_wire.specs.Leaves.{mark, number}
pub use Rattle.sed_wire.specs.Leaves.{u1, u2}
use Rattle.comp_tree.specs.Application.{Link}
use Rattle.app_front.specs.Ended.{Begin, ended}

abbrev pub LinkParts : Type 0
LinkParts = ℕ × (ℕ × (ℕ × ℕ))

abbrev pub link_parts : Link → LinkParts
link_parts l = (l.from, (l.from_slot, (l.to, l.to_slot)))

abbrev pub link_of : LinkParts → Link
link_of (from, (from_slot, (to, to_slot))) = record { from = from; from_slot = from_slot; to = to; to_slot = to_slot }

-- a link from this id, behind the id
unfoldable pub link_behind : ℕ → Form Link
link_behind from =
    seen_as link_of link_parts (λ l. refl) (given from & (number 1 & (number 2 & number 1))) (λ l bytes h. refl)

pub links_begin : Begin (λ l. l.from) link_behind
unfolding link_behind
links_begin from l bytes h = h.2.0

-- fewer than so many links, and the mark behind them
unfoldable pub links : ℕ → Form (List Link)
links most = ended (λ l. l.from) link_behind links_begin most

unfoldable pub end : Form (Unit {0})
end = mark 1 0x2e
