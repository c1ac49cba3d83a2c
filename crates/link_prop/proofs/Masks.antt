-- Masks of marks.
use Rattle.std.proofs.Common.{ℕ, ◌≡◌, ◌<◌, ◌+◌, ◌/◌, ◌%◌, Bool, true, false, refl, arith}
use Rattle.std.specs.Prelude.{◌==◌, if◌then◌else◌}
use Rattle.node_table.specs.declared.marks.Parts.{Parts}
use Rattle.comp_tree.specs.Marks.{Part, is_among, marks_at, mask_of}
use Rattle.comp_tree.specs.Marks.Part.{Tree, Config, Runtime}
use Rattle.link_prop.specs.Linked.{Linked}
use Rattle.link_prop.specs.Marks.{AppPart, has_mark, is_in_mask, is_marked, mask_at}
use Rattle.link_prop.specs.Marks.AppPart.{OfTree, OfLinks}

abbrev weight : Bool → ℕ → ℕ
weight b n = if b then n else 0

abbrev sum : Bool → Bool → Bool → Bool → ℕ
sum t c r l = ((weight t 1 + weight c 2) + weight r 4) + weight l 8

bits : (t c r l : Bool) → ((sum t c r l % 2 == 1) ≡ t) × ((sum t c r l / 2 % 2 == 1) ≡ c) × ((sum t c r l / 4 % 2 == 1) ≡ r) × ((sum t c r l / 8 % 2 == 1) ≡ l)
bits true true true true = (refl, refl, refl, refl)
bits true true true false = (refl, refl, refl, refl)
bits true true false true = (refl, refl, refl, refl)
bits true true false false = (refl, refl, refl, refl)
bits true false true true = (refl, refl, refl, refl)
bits true false true false = (refl, refl, refl, refl)
bits true false false true = (refl, refl, refl, refl)
bits true false false false = (refl, refl, refl, refl)
bits false true true true = (refl, refl, refl, refl)
bits false true true false = (refl, refl, refl, refl)
bits false true false true = (refl, refl, refl, refl)
bits false true false false = (refl, refl, refl, refl)
bits false false true true = (refl, refl, refl, refl)
bits false false true false = (refl, refl, refl, refl)
bits false false false true = (refl, refl, refl, refl)
bits false false false false = (refl, refl, refl, refl)

-- each part is in the mask where it is among those that make it
pub bit_of_tree : (p : Parts) (links : Bool) (part : Part) → is_in_mask (mask_of p + (if links then 8 else 0)) (OfTree part) ≡ is_among part p
bit_of_tree p links Tree = (bits p.tree p.config p.runtime links).0
bit_of_tree p links Config = (bits p.tree p.config p.runtime links).1
bit_of_tree p links Runtime = (bits p.tree p.config p.runtime links).2

pub bit_of_links : (p : Parts) (links : Bool) → is_in_mask (mask_of p + (if links then 8 else 0)) OfLinks ≡ links
bit_of_links p links = (bits p.tree p.config p.runtime links).3

few : (t c r : Bool) → (weight t 1 + weight c 2) + weight r 4 < 8
few true true true = omega arith
few true true false = omega arith
few true false true = omega arith
few true false false = omega arith
few false true true = omega arith
few false true false = omega arith
few false false true = omega arith
few false false false = omega arith

pub few_own : (p : Parts) → mask_of p < 8
few_own p = few p.tree p.config p.runtime

pub bits_at : {E : Type 0} (h : Linked E) (id place : ℕ) (part : AppPart) → is_in_mask (mask_at h id place) part ≡ is_marked h id place part
bits_at h id place (OfTree part) = bit_of_tree (marks_at h.tree id place) (has_mark h.marks id place) part
bits_at h id place OfLinks = bit_of_links (marks_at h.tree id place) (has_mark h.marks id place)
