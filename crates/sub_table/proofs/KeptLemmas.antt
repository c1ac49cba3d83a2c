-- The two lists in which links are kept, when one goes in and when some go out.
use Rattle.std.proofs.Common.{◌≡◌, ℕ, suc, ◌<◌, ◌≤◌, Bool, true, false, not, ◌||◌, ◌==◌, if◌then◌else◌, List, [], ◌∷◌, ◌++◌, length, length-take, take, drop, get_or, refl, sym, ap, subst, ◌∙◌, ⊎_elim, arith}
use Rattle.std.specs.Prelude.{filter}
use Rattle.std.specs.List.{All, list_any}
use Rattle.std.proofs.lemmas.Bool.{cases_Bool, cond-true, cond-false, eqb-true, eqb-false, eq-eqb, ne_eqb, or_parts}
use Rattle.std.proofs.lemmas.Bool.Decides.{nat_tests}
use Rattle.std.proofs.lemmas.List.{get_or-take, get_or_default}
use Rattle.std.proofs.lemmas.List.Elements.{All-head, All-tail, All-cons, All-nil, All-filter}
use Rattle.std.proofs.lemmas.List.Kept.{AllPairs-filter}
use Rattle.std.proofs.lemmas.Map.Views.{any-filter_same}
use Rattle.sub_table.specs.Link.{Link, most_links}
use Rattle.sub_table.specs.Links.{AreInOrder, has_target, is_before, is_same_link, with_link}
use Rattle.sub_table.specs.Marks.{AreMarked, is_at_mark, is_marked}
use Rattle.sub_table.specs.LinkRows.{AreKept, comes_first, is_from, placed}
use Rattle.sub_table.proofs.FilterLemmas.{filter_yes, filter_no, filter_swap, filter_where}
use Rattle.sub_table.proofs.OrderLemmas.{by_source, by_target, same_is, ascends_placed, filter_placed, filter_placed_not, length_placed}
use Rattle.sub_table.proofs.LinkRowLemmas.{length_filter}

-- from each component the same links lead in the one as in the other
abbrev AreSame : List Link → List Link → Type 0
AreSame ys xs = (id : ℕ) → filter (is_from id) ys ≡ filter (is_from id) xs

-- ---- what holds of the links of each group

itself : (l : Link) → is_from l.from l ≡ true
itself l = eq-eqb l.from l.from refl

all_from_groups : (P : Link → Type 0) (ys : List Link) → ((id : ℕ) → All P (filter (is_from id) ys)) → All P ys
all_from_groups P [] each = All-nil P
all_from_groups P (y ∷ ys) each =
    All-cons P y ys
    (All-head P y (filter (is_from y.from) ys) (subst (All P) (filter_yes (is_from y.from) y ys (itself y)) (each y.from)))
    (all_from_groups P ys (λ id.
    ⊎_elim
    (λ (e : is_from id y ≡ true). All-tail P y (filter (is_from id) ys) (subst (All P) (filter_yes (is_from id) y ys e) (each id)))
    (λ (e : is_from id y ≡ false). subst (All P) (filter_no (is_from id) y ys e) (each id))
    (cases_Bool (is_from id y))))

pub all_across : (P : Link → Type 0) (xs ys : List Link) → AreSame ys xs → All P xs → All P ys
all_across P xs ys same all = all_from_groups P ys (λ id. subst (All P) (sym (same id)) (All-filter (is_from id) P xs all))

-- ---- as many in the one as in the other

-- without the first that leads from a component
without_first : ℕ → List Link → List Link
without_first id [] = []
without_first id (y ∷ ys) = if is_from id y then ys else y ∷ without_first id ys

first_here : (id : ℕ) (y : Link) (ys : List Link) → is_from id y ≡ true → without_first id (y ∷ ys) ≡ ys
unfolding without_first
first_here id y ys e = cond-true (is_from id y) ys (y ∷ without_first id ys) e

first_later : (id : ℕ) (y : Link) (ys : List Link) → is_from id y ≡ false → without_first id (y ∷ ys) ≡ y ∷ without_first id ys
unfolding without_first
first_later id y ys e = cond-false (is_from id y) ys (y ∷ without_first id ys) e

length_first : (id : ℕ) (ys : List Link) → 0 < length (filter (is_from id) ys) → length ys ≡ suc (length (without_first id ys))
length_first id [] some = absurd (omega arith)
length_first id (y ∷ ys) some =
    ⊎_elim
    (λ (e : is_from id y ≡ true). ap (λ zs. suc (length zs)) (sym (first_here id y ys e)))
    (λ (e : is_from id y ≡ false). ap suc (length_first id ys (subst (λ zs. 0 < length zs) (filter_no (is_from id) y ys e) some)) ∙ ap (λ zs. suc (length zs)) (sym (first_later id y ys e)))
    (cases_Bool (is_from id y))

filter_first : (id : ℕ) (ys : List Link) → filter (is_from id) (without_first id ys) ≡ drop 1 (filter (is_from id) ys)
unfolding without_first
filter_first id [] = refl
filter_first id (y ∷ ys) =
    ⊎_elim
    (λ (e : is_from id y ≡ true). ap (filter (is_from id)) (first_here id y ys e) ∙ ap (drop 1) (sym (filter_yes (is_from id) y ys e)))
    (λ (e : is_from id y ≡ false). ap (filter (is_from id)) (first_later id y ys e) ∙ filter_no (is_from id) y (without_first id ys) e ∙ filter_first id ys ∙ ap (drop 1) (sym (filter_no (is_from id) y ys e)))
    (cases_Bool (is_from id y))

filter_other : (id other : ℕ) (ys : List Link) → (other ≡ id → ⊥) → filter (is_from other) (without_first id ys) ≡ filter (is_from other) ys
unfolding without_first
filter_other id other [] apart = refl
filter_other id other (y ∷ ys) apart =
    ⊎_elim
    (λ (e : is_from id y ≡ true).
    let not_other : is_from other y ≡ false = ne_eqb y.from other (λ o. apart (sym o ∙ eqb-true y.from id e)) in
    ap (filter (is_from other)) (first_here id y ys e) ∙ sym (filter_no (is_from other) y ys not_other))
    (λ (e : is_from id y ≡ false).
    ap (filter (is_from other)) (first_later id y ys e)
    ∙ ⊎_elim
    (λ (o : is_from other y ≡ true). filter_yes (is_from other) y (without_first id ys) o ∙ ap (λ zs. y ∷ zs) (filter_other id other ys apart) ∙ sym (filter_yes (is_from other) y ys o))
    (λ (o : is_from other y ≡ false). filter_no (is_from other) y (without_first id ys) o ∙ filter_other id other ys apart ∙ sym (filter_no (is_from other) y ys o))
    (cases_Bool (is_from other y)))
    (cases_Bool (is_from id y))

pub same_length : (xs ys : List Link) → AreSame ys xs → length ys ≡ length xs
same_length [] [] same = refl
same_length [] (y ∷ ys) same = absurd (let no : y ∷ filter (is_from y.from) ys ≡ [] = sym (filter_yes (is_from y.from) y ys (itself y)) ∙ same y.from in cc)
same_length (x ∷ xs) ys same =
    let here : filter (is_from x.from) ys ≡ x ∷ filter (is_from x.from) xs = same x.from ∙ filter_yes (is_from x.from) x xs (itself x) in
    let some : 0 < length (filter (is_from x.from) ys) = omega (arith, ap length here) in
    length_first x.from ys some
    ∙ ap suc (same_length xs (without_first x.from ys) (λ id.
    ⊎_elim
    (λ (e : is_from id x ≡ true).
    subst (λ k. filter (is_from k) (without_first x.from ys) ≡ filter (is_from k) xs) (eqb-true x.from id e) (filter_first x.from ys ∙ ap (drop 1) here))
    (λ (e : is_from id x ≡ false).
    filter_other x.from id ys (λ o. eqb-false x.from id e (sym o)) ∙ same id ∙ filter_no (is_from id) x xs e)
    (cases_Bool (is_from id x))))

-- ---- nothing is kept

pub kept_none : (xs ys : List Link) (r s : ℕ) → xs ≡ [] → ys ≡ [] → most_links ≤ r → most_links ≤ s → AreKept xs ys r s
kept_none xs ys r s no_x no_y room other_room =
    let none : (zs : List Link) → zs ≡ [] → length zs ≡ 0 = λ zs e. ap length e in
    record {
      targets = λ i j d below within. absurd (omega (arith, none xs no_x));
      sources = λ i j d below within. absurd (omega (arith, none ys no_y));
      same = λ id. ap (filter (is_from id)) no_y ∙ sym (ap (filter (is_from id)) no_x);
      most = omega (arith, none xs no_x);
      has_room = room;
      has_other_room = other_room;
    }

-- ---- one goes in

pub untargeted : (id slot : ℕ) (xs : List Link) → list_any (has_target id slot) xs ≡ false → All (λ k. has_target id slot k ≡ false) xs
untargeted id slot [] none = All-nil (λ k. has_target id slot k ≡ false)
untargeted id slot (x ∷ xs) none =
    let parts = or_parts (has_target id slot x) (list_any (has_target id slot) xs) none in
    All-cons (λ k. has_target id slot k ≡ false) x xs parts.0 (untargeted id slot xs parts.1)

pub before_else : (k l : Link) → has_target l.to l.to_slot k ≡ false → is_before k l ≡ false → is_before l k ≡ true
before_else k l free not_before = grind (arith, nat_tests)

first_else : (k l : Link) → has_target l.to l.to_slot k ≡ false → comes_first k l ≡ false → comes_first l k ≡ true
first_else k l free not_before = grind (arith, nat_tests)

-- among the links from one component both orders are one
first_from : (id : ℕ) (l : Link) → is_from id l ≡ true → (k : Link) → is_from id k ≡ true → comes_first k l ≡ is_before k l
first_from id l e k f =
    let same : k.from ≡ l.from = eqb-true k.from id f ∙ sym (eqb-true l.from id e) in
    grind (arith, nat_tests)

placed_from : (id : ℕ) (l : Link) (zs : List Link) → is_from id l ≡ true → placed comes_first l (filter (is_from id) zs) ≡ placed is_before l (filter (is_from id) zs)
placed_from id l zs e =
    let first : filter (λ k. comes_first k l) (filter (is_from id) zs) ≡ filter (λ k. is_before k l) (filter (is_from id) zs) = filter_where (is_from id) (λ k. comes_first k l) (λ k. is_before k l) (first_from id l e) zs in
    let rest : filter (λ k. not (comes_first k l)) (filter (is_from id) zs) ≡ filter (λ k. not (is_before k l)) (filter (is_from id) zs) = filter_where (is_from id) (λ k. not (comes_first k l)) (λ k. not (is_before k l)) (λ k f. ap not (first_from id l e k f)) zs in
    ap (λ us. us ++ l ∷ filter (λ k. not (comes_first k l)) (filter (is_from id) zs)) first
    ∙ ap (λ us. filter (λ k. is_before k l) (filter (is_from id) zs) ++ l ∷ us) rest

pub kept_with : (xs ys : List Link) (r s r' s' : ℕ) → AreKept xs ys r s → (l : Link) → list_any (has_target l.to l.to_slot) xs ≡ false → length xs < most_links → r ≤ r' → s ≤ s'
    → AreKept (placed is_before l xs) (placed comes_first l ys) r' s'
kept_with xs ys r s r' s' kept l free few room other_room =
    let apart = untargeted l.to l.to_slot xs free in
    record {
      targets = ascends_placed is_before by_target l xs kept.targets (λ k d within. before_else (get_or xs k d) l (apart k d within));
      sources = ascends_placed comes_first by_source l ys kept.sources (λ k d within. first_else (get_or ys k d) l (all_across (λ m. has_target l.to l.to_slot m ≡ false) xs ys kept.same apart k d within));
      same = λ id. ⊎_elim
          (λ (e : is_from id l ≡ true).
          filter_placed comes_first by_source (is_from id) l ys e ∙ ap (placed comes_first l) (kept.same id) ∙ placed_from id l xs e ∙ sym (filter_placed is_before by_target (is_from id) l xs e))
          (λ (e : is_from id l ≡ false).
          filter_placed_not comes_first by_source (is_from id) l ys kept.sources e ∙ kept.same id ∙ sym (filter_placed_not is_before by_target (is_from id) l xs kept.targets e))
          (cases_Bool (is_from id l));
      most = omega (arith, length_placed is_before by_target l xs kept.targets);
      has_room = omega (arith, kept.has_room);
      has_other_room = omega (arith, kept.has_other_room);
    }

-- ---- one goes in behind the others

pub free_behind : (l : Link) (xs : List Link) → All (λ k. is_before k l ≡ true) xs → list_any (has_target l.to l.to_slot) xs ≡ false
free_behind l [] all = refl
free_behind l (x ∷ xs) all =
    let first : is_before x l ≡ true = All-head (λ k. is_before k l ≡ true) x xs all in
    let unlike : has_target l.to l.to_slot x ≡ false = grind (arith, nat_tests) in
    rw unlike (free_behind l xs (All-tail (λ k. is_before k l ≡ true) x xs all))

pub with_behind : (l : Link) (xs : List Link) → All (λ k. is_before k l ≡ true) xs → with_link l xs ≡ xs ++ l ∷ []
with_behind l [] all = refl
with_behind l (x ∷ xs) all =
    cond-true (is_before x l) (x ∷ with_link l xs) (l ∷ x ∷ xs) (All-head (λ k. is_before k l ≡ true) x xs all)
    ∙ ap (λ ys. x ∷ ys) (with_behind l xs (All-tail (λ k. is_before k l ≡ true) x xs all))

-- the links before one in a list that ascends
pub before_here : (xs : List Link) (n : ℕ) (l : Link) → AreInOrder xs → n < length xs → get_or xs n l ≡ l → All (λ k. is_before k l ≡ true) (take n xs)
before_here xs n l up within is k d below =
    let lower : k < n = omega (arith, below, length-take n xs) in
    subst (λ m. is_before m l ≡ true) (sym (get_or-take n xs k d lower))
    (subst (λ m. is_before (get_or xs k d) m ≡ true) (get_or_default xs n d l within ∙ is) (up k n d lower within))

-- ---- some go out

pub kept_filter : (p : Link → Bool) (xs ys : List Link) (r s r' s' : ℕ) → AreKept xs ys r s → r' ≡ r → s' ≡ s → AreKept (filter p xs) (filter p ys) r' s'
kept_filter p xs ys r s r' s' kept room other_room = record {
  targets = AllPairs-filter (λ k l. is_before k l ≡ true) p xs kept.targets;
  sources = AllPairs-filter (λ k l. comes_first k l ≡ true) p ys kept.sources;
  same = λ id. filter_swap (is_from id) p ys ∙ ap (filter p) (kept.same id) ∙ filter_swap p (is_from id) xs;
  most = omega (arith, length_filter p xs, kept.most);
  has_room = omega (arith, kept.has_room);
  has_other_room = omega (arith, kept.has_other_room);
}

from_same : (l k : Link) → is_same_link l k ≡ true → is_from l.from k ≡ true
from_same l k e = eq-eqb k.from l.from (ap (λ (m : Link). m.from) (sym (same_is l k e)))

-- a link that is in the one is in the other
pub there_too : (l : Link) (xs ys : List Link) → AreSame ys xs → list_any (is_same_link l) ys ≡ list_any (is_same_link l) xs
there_too l xs ys same =
    sym (any-filter_same (is_same_link l) (is_from l.from) true (from_same l) ys)
    ∙ ap (list_any (is_same_link l)) (same l.from)
    ∙ any-filter_same (is_same_link l) (is_from l.from) true (from_same l) xs

-- ---- components that are marked

or_swap : (p q r s : Bool) → ((p || q) || (r || s)) ≡ ((p || r) || (q || s))
or_swap true q r s = refl
or_swap false true true s = refl
or_swap false true false s = refl
or_swap false false r s = refl

pub any_either : (from to : ℕ) (ids : List ℕ) → list_any (λ id. (from == id) || (to == id)) ids ≡ (list_any (λ id. from == id) ids || list_any (λ id. to == id) ids)
any_either from to [] = refl
any_either from to (id ∷ ids) =
    ap (λ b. ((from == id) || (to == id)) || b) (any_either from to ids)
    ∙ or_swap (from == id) (to == id) (list_any (λ other. from == other) ids) (list_any (λ other. to == other) ids)

pub marked_is : (marks : List Bool) (ids : List ℕ) → AreMarked marks ids → (l : Link) → not (is_at_mark marks l) ≡ not (list_any (λ id. (l.from == id) || (l.to == id)) ids)
marked_is marks ids marked l =
    ap not (ap (λ b. b || is_marked marks l.to) (sym (marked l.from)) ∙ ap (λ b. list_any (λ id. l.from == id) ids || b) (sym (marked l.to)) ∙ sym (any_either l.from l.to ids))
