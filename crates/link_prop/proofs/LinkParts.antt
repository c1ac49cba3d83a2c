-- The links at a component beside the ends of those that come and go.
use Rattle.std.proofs.Common.{ℕ, zero, suc, ◌≡◌, ◌≤◌, Bool, true, false, length, take, refl, sym, ◌∙◌, ap, arith}
use Rattle.std.specs.Prelude.{not, filter, List, [], ◌∷◌, ◌==◌, ◌||◌, ◌&&◌, ◌++◌, if◌then◌else◌}
use Rattle.std.specs.List.{flat_map, list_any}
use Rattle.std.proofs.lemmas.Bool.{eqb-true}
use Rattle.sub_table.specs.Link.{Link}
use Rattle.sub_table.specs.Links.{is_before, is_same_link, links_at, with_link, without_link, without_links_at}
use Rattle.sub_table.specs.Marks.{AreMarked, is_at_mark, is_marked}
use Rattle.comp_tree.specs.Parts.{link_bytes, link_part, no_id, u2}
use Rattle.link_prop.specs.Marks.{links_at_ends, links_with}
pub use Rattle.std.proofs.lemmas.Bool.{or_parts as neither}

-- ---- truth values

same_ends : (a b c d : Bool) → not (a && b && c && d) ≡ false → (a ≡ true) × (c ≡ true)
same_ends true b true d h = (refl, refl)
same_ends true true false d h = absurd cc
same_ends true false c d h = absurd cc
same_ends false b c d h = absurd cc

pub or_more : (a b c : Bool) → (a || (b || c)) ≡ ((b || a) || c)
or_more true true c = refl
or_more true false c = refl
or_more false true c = refl
or_more false false c = refl

-- ---- lists

pub take_all : (xs : List Link) (k : ℕ) → length xs ≤ k → take k xs ≡ xs
take_all [] zero le = refl
take_all [] (suc k) le = refl
take_all (y ∷ ys) zero le = absurd (omega arith)
take_all (y ∷ ys) (suc k) le = ap (λ (zs : List Link). y ∷ zs) (take_all ys k (omega arith))

-- what is taken out is not at the component
module _ (p q : Link → Bool) (out : (k : Link) → p k ≡ false → q k ≡ false) where
  filter_beside : (k : Link) (ks : List Link) (b : Bool) → p k ≡ b → filter q (filter p ks) ≡ filter q ks → filter q (if b then k ∷ filter p ks else filter p ks) ≡ filter q (k ∷ ks)
  filter_beside k ks true e more = ap (λ (rest : List Link). if q k then k ∷ rest else rest) more
  filter_beside k ks false e more = more ∙ sym (ap (λ (b : Bool). if b then k ∷ filter q ks else filter q ks) (out k e))

  pub filter_same : (links : List Link) → filter q (filter p links) ≡ filter q links
  filter_same [] = refl
  filter_same (k ∷ ks) = filter_beside k ks (p k) refl (filter_same ks)

-- nothing at the component is taken out
module _ (p q : Link → Bool) where
  filter_without : (k : Link) (ks : List Link) (b : Bool) → q k ≡ b → (c : Bool) → p k ≡ c
      → (list_any p (filter q ks) ≡ false → filter q (filter (λ l. not (p l)) ks) ≡ filter q ks)
      → list_any p (if b then k ∷ filter q ks else filter q ks) ≡ false
      → filter q (if not c then k ∷ filter (λ l. not (p l)) ks else filter (λ l. not (p l)) ks) ≡ (if b then k ∷ filter q ks else filter q ks)
  filter_without k ks true at true gone more none =
      absurd (let no : (true || list_any p (filter q ks)) ≡ false = sym (ap (λ (b : Bool). b || list_any p (filter q ks)) gone) ∙ none in cc)
  filter_without k ks true at false gone more none =
      ap (λ (b : Bool). if b then k ∷ filter q (filter (λ l. not (p l)) ks) else filter q (filter (λ l. not (p l)) ks)) at
      ∙ ap (λ (rest : List Link). k ∷ rest) (more (neither (p k) (list_any p (filter q ks)) none).1)
  filter_without k ks false at true gone more none = more none
  filter_without k ks false at false gone more none =
      ap (λ (b : Bool). if b then k ∷ filter q (filter (λ l. not (p l)) ks) else filter q (filter (λ l. not (p l)) ks)) at ∙ more none

  pub filter_left : (links : List Link) → list_any p (filter q links) ≡ false → filter q (filter (λ l. not (p l)) links) ≡ filter q links
  filter_left [] none = refl
  filter_left (k ∷ ks) none = filter_without k ks (q k) refl (p k) refl (filter_left ks) none

  any_at : (k : Link) (ks : List Link) (b c : Bool) → q k ≡ b → p k ≡ c → list_any (λ l. p l && q l) ks ≡ list_any p (filter q ks)
      → ((c && b) || list_any (λ l. p l && q l) ks) ≡ list_any p (if b then k ∷ filter q ks else filter q ks)
  any_at k ks true true at is more = sym (ap (λ (b : Bool). b || list_any p (filter q ks)) is)
  any_at k ks true false at is more = more ∙ sym (ap (λ (b : Bool). b || list_any p (filter q ks)) is)
  any_at k ks false true at is more = more
  any_at k ks false false at is more = more

  pub any_filter : (links : List Link) → list_any (λ l. p l && q l) links ≡ list_any p (filter q links)
  any_filter [] = refl
  any_filter (k ∷ ks) = any_at k ks (q k) (p k) refl refl (any_filter ks)

or_mixed : (a b c d : Bool) → ((a || b) || (c || d)) ≡ ((a || c) || (b || d))
or_mixed true b c d = refl
or_mixed false true true d = refl
or_mixed false true false d = refl
or_mixed false false c d = refl

any_or : (p q : ℕ → Bool) (xs : List ℕ) → list_any (λ x. p x || q x) xs ≡ (list_any p xs || list_any q xs)
any_or p q [] = refl
any_or p q (x ∷ xs) = ap (λ (b : Bool). (p x || q x) || b) (any_or p q xs) ∙ or_mixed (p x) (q x) (list_any p xs) (list_any q xs)

-- ---- the part l

-- a link that comes
with_beside : (l : Link) (links : List Link) (id : ℕ) → links_at_ends l id ≡ false → links_at id (with_link l links) ≡ links_at id links
with_beside l [] id out = ap (λ (b : Bool). if b then l ∷ [] else []) out
with_beside l (k ∷ ks) id out = by_place (is_before k l) (with_beside l ks id out)
  where
    by_place : (b : Bool) → links_at id (with_link l ks) ≡ links_at id ks → links_at id (if b then k ∷ with_link l ks else l ∷ k ∷ ks) ≡ links_at id (k ∷ ks)
    by_place true more = ap (λ (rest : List Link). if (k.from == id) || (k.to == id) then k ∷ rest else rest) more
    by_place false more = ap (λ (b : Bool). if b then l ∷ links_at id (k ∷ ks) else links_at id (k ∷ ks)) out

abbrev part_with : List Link → List ℕ
part_with links = flat_map link_bytes links ++ u2 no_id

pub part_with_link : (l : Link) (links : List Link) (id : ℕ) → links_at_ends l id ≡ false → link_part id links ≡ link_part id (with_link l links)
part_with_link l links id out = sym (ap part_with (with_beside l links id out))

-- a link that goes
pub part_without_link : (l : Link) (links : List Link) (id : ℕ) → links_at_ends l id ≡ false → link_part id links ≡ link_part id (without_link l links)
part_without_link l links id out = sym (ap part_with (filter_same (λ k. not (is_same_link k l)) (λ k. (k.from == id) || (k.to == id)) same links))
  where
    same : (k : Link) → not (is_same_link k l) ≡ false → ((k.from == id) || (k.to == id)) ≡ false
    same k is =
        let ends = same_ends (k.from == l.from) (k.from_slot == l.from_slot) (k.to == l.to) (k.to_slot == l.to_slot) is in
        ap (λ (n : ℕ). (n == id) || (k.to == id)) (eqb-true k.from l.from ends.0) ∙ ap (λ (n : ℕ). (l.from == id) || (n == id)) (eqb-true k.to l.to ends.1) ∙ out

-- links that go with components
pub part_without_links : (gone : List ℕ) (links : List Link) (id : ℕ) → links_with gone links id ≡ false → link_part id links ≡ link_part id (without_links_at gone links)
part_without_links gone links id out =
    sym (ap part_with (filter_left (λ l. list_any (λ other. (l.from == other) || (l.to == other)) gone) (λ k. (k.from == id) || (k.to == id)) links out))

-- ---- what is marked when components go

pub links_marked : (leaving : List Bool) (gone : List ℕ) → AreMarked leaving gone → (links : List Link) (id : ℕ) → list_any (λ l. is_at_mark leaving l && links_at_ends l id) links ≡ links_with gone links id
links_marked leaving gone are links id =
    any_filter (is_at_mark leaving) (λ l. links_at_ends l id) links
    ∙ ap (λ (p : Link → Bool). list_any p (links_at id links)) (λ i l. at_mark l i)
  where
    at_mark : (l : Link) → is_at_mark leaving l ≡ list_any (λ other. (l.from == other) || (l.to == other)) gone
    at_mark l =
        ap (λ (b : Bool). b || is_marked leaving l.to) (sym (are l.from)) ∙ ap (λ (b : Bool). list_any (λ other. l.from == other) gone || b) (sym (are l.to))
        ∙ sym (any_or (λ other. l.from == other) (λ other. l.to == other) gone)
