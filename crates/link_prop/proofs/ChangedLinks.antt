-- What a link that comes, and one that goes, leaves of the links.
use Rattle.std.proofs.Common.{ℕ, ◌≡◌, Bool, true, false, ◌<◌, ◌≤◌, refl, sym, subst, arith}
use Rattle.std.specs.Prelude.{Option, Some, None, IsTrue, not, nat_le, List, [], ◌∷◌, length, ◌==◌, ◌||◌, if◌then◌else◌}
use Rattle.std.specs.List.{All, list_any}
use Rattle.std.proofs.lemmas.Bool.{eqb-true, or_parts as neither}
use Rattle.std.proofs.lemmas.List.Elements.{All-cons, All-filter, All-head, All-tail}
use Rattle.sed_value.specs.declared.refusal.Refusal.{Refusal}
use Rattle.sed_engine.specs.Code.{Meaning}
use Rattle.sub_table.specs.Link.{Link, most_links}
use Rattle.sub_table.specs.Links.{has_target, is_before, is_same_link, links_at, with_link, without_link}
use Rattle.comp_tree.specs.Application.{ById, is_live, most_links_at_component, type_at}
use Rattle.comp_tree.specs.Links.{go_together_if_there}
use Rattle.comp_tree.specs.Refusals.{first_refusal, refusals_of_link}
use Rattle.comp_tree.specs.Whole.{IsLink}
use Rattle.link_prop.specs.Linked.{AreLinked}

-- ---- a table of which no row holds

none_if : (b : Bool) (r : Refusal) (rest : Option Refusal) → (if b then Some r else rest) ≡ None → (b ≡ false) × (rest ≡ None)
none_if true r rest h = absurd (some_none r h)
  where
    some_none : (r : Refusal) → ◌≡◌ {A = Option Refusal} (Some r) None → ⊥
    some_none r h = cc
none_if false r rest h = (refl, h)

-- each row's condition is false
abbrev AllFalse : List (Bool × Refusal) → Type 0
AllFalse [] = Unit {0}
AllFalse (row ∷ rows) = (row.0 ≡ false) × AllFalse rows

none_all : (rows : List (Bool × Refusal)) → first_refusal rows ≡ None → AllFalse rows
none_all [] h = tt {0}
none_all (row ∷ rows) h =
    let e : (row.0 ≡ false) × (first_refusal rows ≡ None) = none_if row.0 row.1 (first_refusal rows) h in
    (e.0, none_all rows e.1)

neither_not : (a b : Bool) → (not a || not b) ≡ false → IsTrue a × IsTrue b
neither_not true true h = (refl, refl)
neither_not true false h = absurd cc
neither_not false b h = absurd cc

not_not : (a : Bool) → not a ≡ false → IsTrue a
not_not true h = refl
not_not false h = absurd cc

-- ---- a link that comes

with_at : (P : Link → Type 0) (l k : Link) (ks : List Link) → P l → All P (k ∷ ks) → All P (with_link l ks) → (b : Bool)
    → All P (if b then k ∷ with_link l ks else l ∷ k ∷ ks)
with_at P l k ks is are more true = All-cons P k (with_link l ks) (All-head P k ks are) more
with_at P l k ks is are more false = All-cons P l (k ∷ ks) is are

every_with : (P : Link → Type 0) (l : Link) (links : List Link) → P l → All P links → All P (with_link l links)
every_with P l [] is are = All-cons P l [] is are
every_with P l (k ∷ ks) is are = with_at P l k ks is are (every_with P l ks is (All-tail P k ks are)) (is_before k l)

-- at a component there is one more where the link is at it
one_more : (l : Link) (links : List Link) (id : ℕ)
    → ((l.from == id) ≡ true → length (links_at id links) < most_links_at_component)
    → ((l.to == id) ≡ true → length (links_at id links) < most_links_at_component)
    → length (links_at id links) ≤ most_links_at_component
    → length (links_at id (l ∷ links)) ≤ most_links_at_component
one_more l links id from to were = by_ends (l.from == id) refl (l.to == id) refl
  where
    by_ends : (a : Bool) → (l.from == id) ≡ a → (b : Bool) → (l.to == id) ≡ b
        → length (if a || b then l ∷ links_at id links else links_at id links) ≤ most_links_at_component
    by_ends true is b is_to = from is
    by_ends false is true is_to = to is_to
    by_ends false is false is_to = were

module _ (m : Meaning) (all : ById) (links : List Link) (l : Link) (none : first_refusal (refusals_of_link m all links l) ≡ None) where
  table : AllFalse (refusals_of_link m all links l)
  table = none_all (refusals_of_link m all links l) none

  live : (not (is_live all l.from) || not (is_live all l.to)) ≡ false
  live = table.0

  typed : not (go_together_if_there (type_at m all l.from l.from_slot) (type_at m all l.to l.to_slot)) ≡ false
  typed = table.1.1.1.0

  pub no_target : list_any (has_target l.to l.to_slot) links ≡ false
  no_target = table.1.1.1.1.0

  few : (nat_le most_links_at_component (length (links_at l.from links)) || nat_le most_links_at_component (length (links_at l.to links))) ≡ false
  few = table.1.1.1.1.1.0

  few_from : nat_le most_links_at_component (length (links_at l.from links)) ≡ false
  few_from = (neither _ (nat_le most_links_at_component (length (links_at l.to links))) few).0

  few_to : nat_le most_links_at_component (length (links_at l.to links)) ≡ false
  few_to = (neither (nat_le most_links_at_component (length (links_at l.from links))) _ few).1

  full : nat_le most_links (length links) ≡ false
  full = table.1.1.1.1.1.1.0

  pub has_room : length links < most_links
  has_room = grind (arith, full)

  few_at : (id : ℕ) → nat_le most_links_at_component (length (links_at id links)) ≡ false → length (links_at id links) < most_links_at_component
  few_at id h = grind (arith, h)

  pub is_link : IsLink m all l
  is_link = record {
    from = (neither_not (is_live all l.from) (is_live all l.to) live).0;
    to = (neither_not (is_live all l.from) (is_live all l.to) live).1;
    typed = not_not _ typed;
  }

  pub linked_with : ((id : ℕ) → length (links_at id (with_link l links)) ≡ length (links_at id (l ∷ links))) → AreLinked m all links → AreLinked m all (with_link l links)
  linked_with count were = record {
    typed = every_with (IsLink m all) l links is_link were.typed;
    at_each = λ id. subst (λ n. n ≤ most_links_at_component) (sym (count id)) (one_more l links id (at_from id) (at_to id) (were.at_each id));
  }
    where
      at_from : (id : ℕ) → (l.from == id) ≡ true → length (links_at id links) < most_links_at_component
      at_from id is = subst (λ id. length (links_at id links) < most_links_at_component) (eqb-true l.from id is) (few_at l.from few_from)

      at_to : (id : ℕ) → (l.to == id) ≡ true → length (links_at id links) < most_links_at_component
      at_to id is = subst (λ id. length (links_at id links) < most_links_at_component) (eqb-true l.to id is) (few_at l.to few_to)

-- ---- a link that goes

pub linked_without : (m : Meaning) (all : ById) (links : List Link) (l : Link) → ((id : ℕ) → length (links_at id (without_link l links)) ≤ length (links_at id links)) → AreLinked m all links → AreLinked m all (without_link l links)
linked_without m all links l fewer were = record {
  typed = All-filter (λ k. not (is_same_link k l)) (IsLink m all) links were.typed;
  at_each = λ id. more (fewer id) (were.at_each id);
}
  where
    more : {a b c : ℕ} → a ≤ b → b ≤ c → a ≤ c
    more p q = omega arith
