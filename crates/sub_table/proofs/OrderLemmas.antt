-- Lists that ascend by an order of links.
use Rattle.std.proofs.Common.{◌≡◌, ℕ, zero, suc, ◌+◌, ◌<◌, Bool, true, false, not, ◌==◌, List, [], ◌∷◌, ◌++◌, length, length-append, take, drop, get_or, refl, sym, ap, subst, ◌∙◌, ⊎_elim, arith}
use Rattle.std.specs.Prelude.{filter, remove, IsTrue}
use Rattle.std.specs.List.{All, AllPairs, list_any}
use Rattle.std.specs.List.Sorted.{IsPartitionedBy}
use Rattle.std.proofs.lemmas.Bool.{cases_Bool, cases_eq, cond-true, cond-false, not_from_true, not_from_false, false_from_ne_true, false≢true, or_parts, eq-eqb}
use Rattle.std.proofs.lemmas.Bool.Decides.{nat_tests}
use Rattle.std.proofs.lemmas.List.{length-drop, drop-drop}
use Rattle.std.proofs.lemmas.Map.Views.{any-filter_same}
use Rattle.std.proofs.lemmas.List.Elements.{All-head, All-tail, All-cons, All-append, All-filter, filter-append}
use Rattle.std.proofs.lemmas.List.Kept.{AllPairs-cons, AllPairs-filter}
use Rattle.sub_table.specs.Link.{Link}
use Rattle.sub_table.specs.Links.{is_before, is_same_link, with_link, without_link}
use Rattle.sub_table.specs.LinkRows.{comes_first, placed}
use Rattle.sub_table.proofs.FilterLemmas.{filter_yes, filter_no, filter_none, filter_all, filter_swap, halves, parted_none}

-- ---- the same link

pub same_itself : (l : Link) → is_same_link l l ≡ true
same_itself l = grind (arith, nat_tests)

pub same_is : (k l : Link) → is_same_link k l ≡ true → k ≡ l
same_is k l e =
    let a : k.from ≡ l.from = grind (arith, nat_tests) in
    let b : k.from_slot ≡ l.from_slot = grind (arith, nat_tests) in
    let c : k.to ≡ l.to = grind (arith, nat_tests) in
    let d : k.to_slot ≡ l.to_slot = grind (arith, nat_tests) in
    ap (λ n. let m : Link = record { from = n; from_slot = k.from_slot; to = k.to; to_slot = k.to_slot } in m) a
    ∙ ap (λ n. let m : Link = record { from = l.from; from_slot = n; to = k.to; to_slot = k.to_slot } in m) b
    ∙ ap (λ n. let m : Link = record { from = l.from; from_slot = l.from_slot; to = n; to_slot = k.to_slot } in m) c
    ∙ ap (λ n. let m : Link = record { from = l.from; from_slot = l.from_slot; to = l.to; to_slot = n } in m) d

pub to_same : (l k : Link) → is_same_link l k ≡ true → (k.to == l.to) ≡ true
to_same l k e = eq-eqb k.to l.to (ap (λ (m : Link). m.to) (sym (same_is l k e)))

-- ---- the two orders

pub record IsOrder (lt : Link → Link → Bool) : Type 0 where
  pub trans : (k l m : Link) → lt k l ≡ true → lt l m ≡ true → lt k m ≡ true
  pub irrefl : (l : Link) → lt l l ≡ false

pub before_trans : (k l m : Link) → is_before k l ≡ true → is_before l m ≡ true → is_before k m ≡ true
before_trans k l m p q = grind (arith, nat_tests)

pub before_irrefl : (l : Link) → is_before l l ≡ false
before_irrefl l = grind (arith, nat_tests)

pub first_trans : (k l m : Link) → comes_first k l ≡ true → comes_first l m ≡ true → comes_first k m ≡ true
first_trans k l m p q = grind (arith, nat_tests)

pub first_irrefl : (l : Link) → comes_first l l ≡ false
first_irrefl l = grind (arith, nat_tests)

pub by_target : IsOrder is_before
by_target = record { trans = before_trans; irrefl = before_irrefl }

pub by_source : IsOrder comes_first
by_source = record { trans = first_trans; irrefl = first_irrefl }

-- ---- ascending lists

abbrev pub Ascends : (Link → Link → Bool) → List Link → Type 0
Ascends lt xs = AllPairs (λ k l. IsTrue (lt k l)) xs

module _ (lt : Link → Link → Bool) where
  pub ascends_tail : (x : Link) (xs : List Link) → Ascends lt (x ∷ xs) → Ascends lt xs
  ascends_tail x xs up i j d below within = up (suc i) (suc j) d (omega arith) (omega arith)

  pub ascends_head : (x : Link) (xs : List Link) → Ascends lt (x ∷ xs) → All (λ k. lt x k ≡ true) xs
  ascends_head x xs up k d within = up zero (suc k) d (omega arith) (omega arith)

module _ (lt : Link → Link → Bool) (o : IsOrder lt) where
  pub parted : (l : Link) (xs : List Link) → Ascends lt xs → IsPartitionedBy (λ k. lt k l) xs
  parted l xs up i j d le within passes =
      ⊎_elim
      (λ (same : i ≡ j). subst (λ n. lt (get_or xs n d) l ≡ true) (sym same) passes)
      (λ apart. o.trans (get_or xs i d) (get_or xs j d) l (up i j d (omega arith) within) passes)
      (cases_eq i j)

  -- a link that stands in no place before another, where one of two comes first
  pub ascends_placed : (l : Link) (xs : List Link) → Ascends lt xs → All (λ k. lt k l ≡ false → lt l k ≡ true) xs → Ascends lt (placed lt l xs)
  ascends_placed l [] up apart = AllPairs-cons (λ k m. IsTrue (lt k m)) l [] (λ k d within. absurd (omega arith)) (λ i j d below within. absurd (omega arith))
  ascends_placed l (x ∷ xs) up apart =
      let tail = ascends_tail lt x xs up in
      let head = ascends_head lt x xs up in
      let fails : Link → Bool = λ k. not (lt k l) in
      let passes : Link → Bool = λ k. lt k l in
      ⊎_elim
      (λ (py : lt x l ≡ true).
      subst (Ascends lt)
      (sym (ap (λ ys. ys ++ l ∷ filter fails (x ∷ xs)) (filter_yes passes x xs py) ∙ ap (λ ys. x ∷ (filter passes xs ++ l ∷ ys)) (filter_no fails x xs (not_from_true (lt x l) py))))
      (AllPairs-cons (λ k m. IsTrue (lt k m)) x (placed lt l xs)
      (All-append (λ k. lt x k ≡ true) (filter passes xs) (l ∷ filter fails xs) (All-filter passes (λ k. lt x k ≡ true) xs head) (All-cons (λ k. lt x k ≡ true) l (filter fails xs) py (All-filter fails (λ k. lt x k ≡ true) xs head)))
      (ascends_placed l xs tail (All-tail (λ k. lt k l ≡ false → lt l k ≡ true) x xs apart))))
      (λ (pn : lt x l ≡ false).
      let none = parted_none passes x xs (parted l (x ∷ xs) up) pn in
      let after = All-head (λ k. lt k l ≡ false → lt l k ≡ true) x xs apart pn in
      subst (Ascends lt)
      (sym (ap (λ ys. ys ++ l ∷ filter fails (x ∷ xs)) (filter_no passes x xs pn ∙ filter_none passes xs none)
      ∙ ap (λ ys. l ∷ ys) (filter_yes fails x xs (not_from_false (lt x l) pn) ∙ ap (λ ys. x ∷ ys) (filter_all fails xs (λ k d within. not_from_false (lt (get_or xs k d) l) (none k d within))))))
      (AllPairs-cons (λ k m. IsTrue (lt k m)) l (x ∷ xs)
      (All-cons (λ k. lt l k ≡ true) x xs after (λ k d within. o.trans l x (get_or xs k d) after (head k d within))) up))
      (cases_Bool (lt x l))

  -- the places of what a test keeps
  pub filter_placed : (g : Link → Bool) (l : Link) (xs : List Link) → g l ≡ true → filter g (placed lt l xs) ≡ placed lt l (filter g xs)
  filter_placed g l xs gy =
      filter-append g (filter (λ k. lt k l) xs) (l ∷ filter (λ k. not (lt k l)) xs)
      ∙ ap (λ ys. ys ++ filter g (l ∷ filter (λ k. not (lt k l)) xs)) (filter_swap g (λ k. lt k l) xs)
      ∙ ap (λ ys. filter (λ k. lt k l) (filter g xs) ++ ys) (filter_yes g l (filter (λ k. not (lt k l)) xs) gy ∙ ap (λ ys. l ∷ ys) (filter_swap g (λ k. not (lt k l)) xs))

  pub filter_placed_not : (g : Link → Bool) (l : Link) (xs : List Link) → Ascends lt xs → g l ≡ false → filter g (placed lt l xs) ≡ filter g xs
  filter_placed_not g l xs up gn =
      filter-append g (filter (λ k. lt k l) xs) (l ∷ filter (λ k. not (lt k l)) xs)
      ∙ ap (λ ys. ys ++ filter g (l ∷ filter (λ k. not (lt k l)) xs)) (filter_swap g (λ k. lt k l) xs)
      ∙ ap (λ ys. filter (λ k. lt k l) (filter g xs) ++ ys) (filter_no g l (filter (λ k. not (lt k l)) xs) gn ∙ filter_swap g (λ k. not (lt k l)) xs)
      ∙ halves (λ k. lt k l) (filter g xs) (parted l (filter g xs) (AllPairs-filter (λ k m. IsTrue (lt k m)) g xs up))

  pub length_placed : (l : Link) (xs : List Link) → Ascends lt xs → length (placed lt l xs) ≡ length xs + 1
  length_placed l xs up =
      let whole = halves (λ k. lt k l) xs (parted l xs up) in
      omega (arith, length-append (filter (λ k. lt k l) xs) (l ∷ filter (λ k. not (lt k l)) xs), length-append (filter (λ k. lt k l) xs) (filter (λ k. not (lt k l)) xs), ap length whole)

  -- a link that is there is the first that does not come before itself
  pub removed : (l : Link) (xs : List Link) → Ascends lt xs → list_any (is_same_link l) xs ≡ true → filter (λ k. lt k l) xs ++ drop 1 (filter (λ k. not (lt k l)) xs) ≡ without_link l xs
  removed l [] up there = absurd (false≢true there)
  removed l (x ∷ xs) up there =
      let tail = ascends_tail lt x xs up in
      let head = ascends_head lt x xs up in
      let fails : Link → Bool = λ k. not (lt k l) in
      let passes : Link → Bool = λ k. lt k l in
      let other : Link → Bool = λ k. not (is_same_link k l) in
      ⊎_elim
      (λ (py : lt x l ≡ true).
      let apart : (k : Link) → k ≡ l → lt k l ≡ true → ⊥ = λ k e t. false≢true (sym (o.irrefl l) ∙ subst (λ m. lt m l ≡ true) e t) in
      let unlike : is_same_link l x ≡ false = false_from_ne_true (is_same_link l x) (λ s. apart x (sym (same_is l x s)) py) in
      let unlike_too : is_same_link x l ≡ false = false_from_ne_true (is_same_link x l) (λ s. apart x (same_is x l s) py) in
      ap (λ ys. ys ++ drop 1 (filter fails (x ∷ xs))) (filter_yes passes x xs py)
      ∙ ap (λ ys. x ∷ (filter passes xs ++ drop 1 ys)) (filter_no fails x xs (not_from_true (lt x l) py))
      ∙ ap (λ ys. x ∷ ys) (removed l xs tail (sym (rw unlike refl) ∙ there))
      ∙ sym (filter_yes other x xs (not_from_false (is_same_link x l) unlike_too)))
      (λ (pn : lt x l ≡ false).
      let none = parted_none passes x xs (parted l (x ∷ xs) up) pn in
      ap (λ ys. ys ++ drop 1 (filter fails (x ∷ xs))) (filter_no passes x xs pn ∙ filter_none passes xs none)
      ∙ ap (drop 1) (filter_yes fails x xs (not_from_false (lt x l) pn))
      ∙ filter_all fails xs (λ k d within. not_from_false (lt (get_or xs k d) l) (none k d within))
      ∙ sym (
      ⊎_elim
      (λ (s : is_same_link l x ≡ true). filter_no other x xs (not_from_true (is_same_link x l) (subst (λ m. is_same_link x m ≡ true) (sym (same_is l x s)) (same_itself x)))
      ∙ filter_all other xs (λ k d within. not_from_false (is_same_link (get_or xs k d) l) (false_from_ne_true (is_same_link (get_or xs k d) l)
      (λ t. false≢true (sym (o.irrefl x) ∙ subst (λ m. lt x m ≡ true) (same_is (get_or xs k d) l t ∙ same_is l x s) (head k d within))))))
      (λ (n : is_same_link l x ≡ false). absurd (false≢true (sym (none_there l x xs head pn) ∙ sym (rw n refl) ∙ there)))
      (cases_Bool (is_same_link l x))))
      (cases_Bool (lt x l))
    where
      none_there : (l x : Link) (xs : List Link) → All (λ k. lt x k ≡ true) xs → lt x l ≡ false → list_any (is_same_link l) xs ≡ false
      none_there l x [] head unmet = refl
      none_there l x (k ∷ ks) head unmet =
          let unlike : is_same_link l k ≡ false = false_from_ne_true (is_same_link l k) (λ s. false≢true (sym unmet ∙ subst (λ m. lt x m ≡ true) (sym (same_is l k s)) (All-head (λ m. lt x m ≡ true) k ks head))) in
          rw unlike (none_there l x ks (All-tail (λ m. lt x m ≡ true) k ks head) unmet)

-- ---- where a link is that is there

from_some : (p : Link → Bool) (xs : List Link) → list_any p xs ≡ true → 0 < length xs
from_some p [] some = absurd (false≢true some)
from_some p (x ∷ xs) some = omega arith

module _ (lt : Link → Link → Bool) (o : IsOrder lt) where
  some_left : (l : Link) (xs : List Link) → list_any (is_same_link l) xs ≡ true → 0 < length (filter (λ k. not (lt k l)) xs)
  some_left l xs there =
      from_some (is_same_link l) (filter (λ k. not (lt k l)) xs)
      (any-filter_same (is_same_link l) (λ k. not (lt k l)) true (λ k s. not_from_false (lt k l) (subst (λ m. lt m l ≡ false) (same_is l k s) (o.irrefl l))) xs ∙ there)

  pub is_within : (l : Link) (xs : List Link) (place : ℕ) → list_any (is_same_link l) xs ≡ true → drop place xs ≡ filter (λ k. not (lt k l)) xs → place < length xs
  is_within l xs place there after = omega (arith, some_left l xs there, length-drop place xs, ap length after)

  pub remove_is : (l : Link) (xs : List Link) (place : ℕ) → Ascends lt xs → list_any (is_same_link l) xs ≡ true
      → take place xs ≡ filter (λ k. lt k l) xs → drop place xs ≡ filter (λ k. not (lt k l)) xs → remove xs place ≡ without_link l xs
  remove_is l xs place up there before after =
      let one_more : suc place ≡ place + 1 = omega arith in
      let rest : drop (suc place) xs ≡ drop 1 (filter (λ k. not (lt k l)) xs) = ap (λ n. drop n xs) one_more ∙ sym (drop-drop 1 place xs) ∙ ap (drop 1) after in
      ap (λ ys. ys ++ drop (suc place) xs) before ∙ ap (λ ys. filter (λ k. lt k l) xs ++ ys) rest ∙ removed lt o l xs up there

-- a link that is not there
pub without_none : (l : Link) (xs : List Link) → list_any (is_same_link l) xs ≡ false → xs ≡ without_link l xs
without_none l [] none = refl
without_none l (x ∷ xs) none =
    let parts = or_parts (is_same_link l x) (list_any (is_same_link l) xs) none in
    let unlike : is_same_link x l ≡ false = false_from_ne_true (is_same_link x l) (λ s. false≢true (sym parts.0 ∙ subst (λ m. is_same_link m x ≡ true) (same_is x l s) (same_itself x))) in
    ap (λ ys. x ∷ ys) (without_none l xs parts.1) ∙ sym (filter_yes (λ k. not (is_same_link k l)) x xs (not_from_false (is_same_link x l) unlike))

-- ---- the order of the targets

pub with_is : (l : Link) (xs : List Link) → Ascends is_before xs → with_link l xs ≡ placed is_before l xs
with_is l [] up = refl
with_is l (x ∷ xs) up =
    let fails : Link → Bool = λ k. not (is_before k l) in
    let passes : Link → Bool = λ k. is_before k l in
    ⊎_elim
    (λ (py : is_before x l ≡ true).
    cond-true (is_before x l) (x ∷ with_link l xs) (l ∷ x ∷ xs) py
    ∙ ap (λ ys. x ∷ ys) (with_is l xs (ascends_tail is_before x xs up))
    ∙ sym (ap (λ ys. ys ++ l ∷ filter fails (x ∷ xs)) (filter_yes passes x xs py) ∙ ap (λ ys. x ∷ (filter passes xs ++ l ∷ ys)) (filter_no fails x xs (not_from_true (is_before x l) py))))
    (λ (pn : is_before x l ≡ false).
    let none = parted_none passes x xs (parted is_before by_target l (x ∷ xs) up) pn in
    cond-false (is_before x l) (x ∷ with_link l xs) (l ∷ x ∷ xs) pn
    ∙ sym (ap (λ ys. ys ++ l ∷ filter fails (x ∷ xs)) (filter_no passes x xs pn ∙ filter_none passes xs none)
    ∙ ap (λ ys. l ∷ ys) (filter_yes fails x xs (not_from_false (is_before x l) pn) ∙ ap (λ ys. x ∷ ys) (filter_all fails xs (λ k d within. not_from_false (is_before (get_or xs k d) l) (none k d within))))))
    (cases_Bool (is_before x l))
