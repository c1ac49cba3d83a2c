-- The links at a component, out of lists in order.
use Rattle.std.proofs.Common.{◌≡◌, ℕ, ◌≤◌, Bool, true, not, ◌&&◌, ◌||◌, ◌==◌, nat_lt, nat_le, List, ◌++◌, length, append_assoc, get_or, refl, sym, ap, ◌∙◌, ⊎_elim, arith}
use Rattle.std.specs.Prelude.{filter}
use Rattle.std.specs.List.Sorted.{IsNonDecreasingBy}
use Rattle.std.proofs.lemmas.Bool.{cases_eq}
use Rattle.std.proofs.lemmas.Bool.Decides.{nat_tests}
use Rattle.std.proofs.lemmas.List.Elements.{filter-append, filter_passes, All-weaker}
use Rattle.std.proofs.lemmas.List.Filters.{length-filter_both}
use Rattle.std.proofs.lemmas.List.Kept.{IsNonDecreasingBy-filter}
use Rattle.std.proofs.lemmas.List.Sorted.{IsPartitionedBy-leb, IsPartitionedBy-ltb}
use Rattle.sub_table.specs.Link.{Link}
use Rattle.sub_table.specs.Links.{AreInOrder, is_before, links_at}
use Rattle.sub_table.specs.LinkRows.{AreBySource, comes_first, is_from}
use Rattle.sub_table.proofs.FilterLemmas.{filter_all, filter_swap, filter_where, filter_both, halves}

-- ---- numbers of components ascend

to_rises : (k l : Link) → is_before k l ≡ true → k.to ≤ l.to
to_rises k l e = grind (arith, nat_tests)

from_rises : (k l : Link) → comes_first k l ≡ true → k.from ≤ l.from
from_rises k l e = grind (arith, nat_tests)

pub targets_rise : (xs : List Link) → AreInOrder xs → IsNonDecreasingBy (λ (l : Link). l.to) xs
targets_rise xs up i j d le within =
    ⊎_elim
    (λ same. omega (arith, ap (λ k. (get_or xs k d).to) same))
    (λ apart. to_rises (get_or xs i d) (get_or xs j d) (up i j d (omega arith) within))
    (cases_eq i j)

pub sources_rise : (xs : List Link) → AreBySource xs → IsNonDecreasingBy (λ (l : Link). l.from) xs
sources_rise xs up i j d le within =
    ⊎_elim
    (λ same. omega (arith, ap (λ k. (get_or xs k d).from) same))
    (λ apart. from_rises (get_or xs i d) (get_or xs j d) (up i j d (omega arith) within))
    (cases_eq i j)

-- ---- a list in three parts, by a number

equal_is : (a t : ℕ) → (a == t) ≡ (nat_le a t && not (nat_lt a t))
equal_is a t = grind (arith, nat_tests)

below_is : (a t : ℕ) → nat_lt a t ≡ (nat_le a t && nat_lt a t)
below_is a t = grind (arith, nat_tests)

module _ (n : Link → ℕ) (t : ℕ) where
  pub here_is : (xs : List Link) → filter (λ l. not (nat_lt (n l) t)) (filter (λ l. nat_le (n l) t) xs) ≡ filter (λ l. n l == t) xs
  here_is xs = filter_both (λ l. not (nat_lt (n l) t)) (λ l. nat_le (n l) t) (λ l. n l == t) (λ l. equal_is (n l) t) xs

  pub in_parts : (xs : List Link) → IsNonDecreasingBy n xs
      → filter (λ l. nat_lt (n l) t) xs ++ (filter (λ l. n l == t) xs ++ filter (λ l. not (nat_le (n l) t)) xs) ≡ xs
  in_parts xs rises =
      let upto : List Link = filter (λ l. nat_le (n l) t) xs in
      let low : filter (λ l. nat_lt (n l) t) upto ≡ filter (λ l. nat_lt (n l) t) xs = filter_both (λ l. nat_lt (n l) t) (λ l. nat_le (n l) t) (λ l. nat_lt (n l) t) (λ l. below_is (n l) t) xs in
      sym (append_assoc (filter (λ l. nat_lt (n l) t) xs) (filter (λ l. n l == t) xs) (filter (λ l. not (nat_le (n l) t)) xs))
      ∙ ap (λ ys. ys ++ filter (λ l. n l == t) xs ++ filter (λ l. not (nat_le (n l) t)) xs) (sym low)
      ∙ ap (λ ys. filter (λ l. nat_lt (n l) t) upto ++ ys ++ filter (λ l. not (nat_le (n l) t)) xs) (sym (here_is xs))
      ∙ ap (λ ys. ys ++ filter (λ l. not (nat_le (n l) t)) xs) (halves (λ l. nat_lt (n l) t) upto (IsPartitionedBy-ltb n upto t (IsNonDecreasingBy-filter n (λ l. nat_le (n l) t) xs rises)))
      ∙ halves (λ l. nat_le (n l) t) xs (IsPartitionedBy-leb n xs t rises)

-- ---- the links at a component

at_below : (id from to : ℕ) → nat_lt to id ≡ true → ((from == id) || (to == id)) ≡ (from == id)
at_below id from to e = grind (arith, nat_tests)

at_above : (id from to : ℕ) → not (nat_le to id) ≡ true → ((from == id) || (to == id)) ≡ (from == id)
at_above id from to e = grind (arith, nat_tests)

at_here : (id from to : ℕ) → (to == id) ≡ true → ((from == id) || (to == id)) ≡ true
at_here id from to e = grind (arith, nat_tests)

pub at_is : (id : ℕ) (xs : List Link) → AreInOrder xs
    → filter (λ l. nat_lt l.to id) (filter (is_from id) xs) ++ (filter (λ l. l.to == id) xs ++ filter (λ l. not (nat_le l.to id)) (filter (is_from id) xs)) ≡ links_at id xs
at_is id xs up =
    let at : Link → Bool = λ l. (l.from == id) || (l.to == id) in
    let below : Link → Bool = λ l. nat_lt l.to id in
    let here : Link → Bool = λ l. l.to == id in
    let above : Link → Bool = λ l. not (nat_le l.to id) in
    let low : filter at (filter below xs) ≡ filter below (filter (is_from id) xs) = filter_where below at (is_from id) (λ l e. at_below id l.from l.to e) xs ∙ filter_swap (is_from id) below xs in
    let high : filter at (filter above xs) ≡ filter above (filter (is_from id) xs) = filter_where above at (is_from id) (λ l e. at_above id l.from l.to e) xs ∙ filter_swap (is_from id) above xs in
    let into : filter at (filter here xs) ≡ filter here xs = filter_all at (filter here xs) (All-weaker (λ l. here l ≡ true) (λ l. at l ≡ true) (λ l e. at_here id l.from l.to e) (filter here xs) (filter_passes here xs)) in
    ap (λ ys. ys ++ (filter here xs ++ filter above (filter (is_from id) xs))) (sym low)
    ∙ ap (λ ys. filter at (filter below xs) ++ (ys ++ filter above (filter (is_from id) xs))) (sym into)
    ∙ ap (λ ys. filter at (filter below xs) ++ (filter at (filter here xs) ++ ys)) (sym high)
    ∙ ap (λ ys. filter at (filter below xs) ++ ys) (sym (filter-append at (filter here xs) (filter above xs)))
    ∙ sym (filter-append at (filter below xs) (filter here xs ++ filter above xs))
    ∙ ap (filter at) (in_parts (λ l. l.to) id xs (targets_rise xs up))

pub length_filter : (p : Link → Bool) (xs : List Link) → length (filter p xs) ≤ length xs
length_filter p xs = omega (arith, length-filter_both p (λ l. not (p l)) (λ _. refl) xs)
