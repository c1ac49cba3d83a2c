-- What follows from the order of the targets.
use Rattle.std.proofs.Common.{◌≡◌, ◌↔◌, ℕ, zero, suc, ◌<◌, ◌≤◌, Bool, true, false, not, ◌||◌, ◌==◌, List, [], ◌∷◌, length, get_or, Some, ◌⊎◌, inl, inr, refl, sym, ap, subst, ◌∙◌, ⊎_elim, arith}
use Rattle.std.specs.Prelude.{filter, slice_get, unwrap_or}
use Rattle.std.specs.List.{All, Contains, list_any}
use Rattle.std.specs.List.Sorted.{IsPermutation}
use Rattle.std.proofs.lemmas.Bool.{cases_Bool, cases_order, cond-true, cond-false, false≢true, not-true, not_from_true, or_parts}
use Rattle.std.proofs.lemmas.Bool.Decides.{nat_tests}
use Rattle.std.proofs.lemmas.List.{get_or_default}
use Rattle.std.proofs.lemmas.Option.{slice_get_within, unwrap_or-slice_get}
use Rattle.std.proofs.lemmas.List.Elements.{All-contains, All-weaker, filter_passes}
use Rattle.std.proofs.lemmas.Map.Views.{any-filter_same}
use Rattle.std.proofs.lemmas.List.Sorted.{IsPermutation-refl, IsPermutation-sym, IsPermutation-cons, IsPermutation-trans, IsPermutation-middle}
use Rattle.sub_table.specs.Link.{Link}
use Rattle.sub_table.specs.Links.{AreInOrder, has_target, is_before, is_same_link, with_link, without_link, without_links_at}
use Rattle.sub_table.proofs.FilterLemmas.{filter_yes, filter_no, filter_swap}
use Rattle.sub_table.proofs.OrderLemmas.{ascends_head, ascends_tail, ascends_placed, before_irrefl, before_trans, by_target, same_is, same_itself, with_is}
use Rattle.sub_table.proofs.KeptLemmas.{any_either, before_else, untargeted}
use Rattle.sub_table.proofs.LinkRowLemmas.{length_filter}

-- ---- members

here : (x : Link) (xs : List Link) → Contains (x ∷ xs) x
here x xs = (zero, omega arith, refl)

further : (x y : Link) (xs : List Link) → Contains xs y → Contains (x ∷ xs) y
further x y xs h = (suc h.0, omega (arith, h.1), h.2)

first_or_later : (x y : Link) (xs : List Link) (k : ℕ) → k < length (x ∷ xs) → get_or (x ∷ xs) k y ≡ y → (x ≡ y) ⊎ Contains xs y
first_or_later x y xs zero within e = inl e
first_or_later x y xs (suc k) within e = inr (k, omega arith, e)

member_cases : (x y : Link) (xs : List Link) → Contains (x ∷ xs) y → (x ≡ y) ⊎ Contains xs y
member_cases x y xs h = first_or_later x y xs h.0 h.1 h.2

none_in : (x : Link) → Contains [] x → ⊥
none_in x h = absurd (omega (arith, h.1))

both_ways : (k l : Link) → is_before k l ≡ true → is_before l k ≡ true → ⊥
both_ways k l p q = false≢true (sym (before_irrefl k) ∙ before_trans k l k p q)

-- ---- one list

pub one_list : (ks ls : List Link) → AreInOrder ks → AreInOrder ls → ((l : Link) → Contains ks l ↔ Contains ls l) → ks ≡ ls
one_list [] [] up_k up_l same = refl
one_list [] (l ∷ ls) up_k up_l same = absurd (none_in l ((same l).1 (here l ls)))
one_list (k ∷ ks) [] up_k up_l same = absurd (none_in k ((same k).0 (here k ks)))
one_list (k ∷ ks) (l ∷ ls) up_k up_l same =
    let head_k : All (λ m. is_before k m ≡ true) ks = ascends_head is_before k ks up_k in
    let head_l : All (λ m. is_before l m ≡ true) ls = ascends_head is_before l ls up_l in
    let first : k ≡ l = ⊎_elim
    (λ (e : l ≡ k). sym e)
    (λ (k_later : Contains ls k). ⊎_elim
    (λ (e : k ≡ l). e)
    (λ (l_later : Contains ks l). absurd (both_ways k l (All-contains (λ m. is_before k m ≡ true) ks l head_k l_later) (All-contains (λ m. is_before l m ≡ true) ls k head_l k_later)))
    (member_cases k l ks ((same l).1 (here l ls))))
    (member_cases l k ls ((same k).0 (here k ks))) in
    ap (λ m. m ∷ ks) first
    ∙ ap (λ ms. l ∷ ms) (one_list ks ls (ascends_tail is_before k ks up_k) (ascends_tail is_before l ls up_l) (λ x. (
      λ (h : Contains ks x). ⊎_elim
          (λ (e : l ≡ x). absurd (false≢true (sym (before_irrefl k) ∙ subst (λ m. is_before k m ≡ true) (sym (first ∙ e)) (All-contains (λ m. is_before k m ≡ true) ks x head_k h))))
          (λ (later : Contains ls x). later)
          (member_cases l x ls ((same x).0 (further k x ks h))),
      λ (h : Contains ls x). ⊎_elim
          (λ (e : k ≡ x). absurd (false≢true (sym (before_irrefl l) ∙ subst (λ m. is_before l m ≡ true) (sym (sym first ∙ e)) (All-contains (λ m. is_before l m ≡ true) ls x head_l h))))
          (λ (later : Contains ks x). later)
          (member_cases k x ks ((same x).1 (further l x ls h))),
    )))

-- ---- one link more

pub order_with : (l : Link) (xs : List Link) → AreInOrder xs → list_any (has_target l.to l.to_slot) xs ≡ false → AreInOrder (with_link l xs)
order_with l xs up free =
    let apart = untargeted l.to l.to_slot xs free in
    subst AreInOrder (sym (with_is l xs up)) (ascends_placed is_before by_target l xs up (λ k d within. before_else (get_or xs k d) l (apart k d within)))

pub joined : (l : Link) (xs : List Link) → IsPermutation (l ∷ xs) (with_link l xs)
joined l [] = IsPermutation-refl (l ∷ [])
joined l (x ∷ xs) =
    ⊎_elim
    (λ (e : is_before x l ≡ true).
    subst (IsPermutation (l ∷ x ∷ xs)) (sym (cond-true (is_before x l) (x ∷ with_link l xs) (l ∷ x ∷ xs) e))
    (IsPermutation-trans (l ∷ x ∷ xs) (x ∷ l ∷ xs) (x ∷ with_link l xs)
    (IsPermutation-sym (x ∷ l ∷ xs) (l ∷ x ∷ xs) (IsPermutation-middle (x ∷ []) l xs))
    (IsPermutation-cons x (l ∷ xs) (with_link l xs) (joined l xs))))
    (λ (e : is_before x l ≡ false).
    subst (IsPermutation (l ∷ x ∷ xs)) (sym (cond-false (is_before x l) (x ∷ with_link l xs) (l ∷ x ∷ xs) e)) (IsPermutation-refl (l ∷ x ∷ xs)))
    (cases_Bool (is_before x l))

two_more : (p : Link → Bool) (k l : Link) (xs : List Link) → length (filter p (k ∷ l ∷ xs)) ≡ length (filter p (l ∷ k ∷ xs))
two_more p k l xs =
    ⊎_elim
    (λ (ky : p k ≡ true). ap length (filter_yes p k (l ∷ xs) ky)
    ∙ ⊎_elim
    (λ (ly : p l ≡ true). ap (λ ys. suc (length ys)) (filter_yes p l xs ly) ∙ sym (ap length (filter_yes p l (k ∷ xs) ly) ∙ ap (λ ys. suc (length ys)) (filter_yes p k xs ky)))
    (λ (ln : p l ≡ false). ap (λ ys. suc (length ys)) (filter_no p l xs ln) ∙ sym (ap length (filter_no p l (k ∷ xs) ln ∙ filter_yes p k xs ky)))
    (cases_Bool (p l)))
    (λ (kn : p k ≡ false). ap length (filter_no p k (l ∷ xs) kn)
    ∙ ⊎_elim
    (λ (ly : p l ≡ true). ap length (filter_yes p l xs ly) ∙ sym (ap length (filter_yes p l (k ∷ xs) ly) ∙ ap (λ ys. suc (length ys)) (filter_no p k xs kn)))
    (λ (ln : p l ≡ false). ap length (filter_no p l xs ln) ∙ sym (ap length (filter_no p l (k ∷ xs) ln ∙ filter_no p k xs kn)))
    (cases_Bool (p l)))
    (cases_Bool (p k))

pub counted : (p : Link → Bool) (l : Link) (xs : List Link) → length (filter p (with_link l xs)) ≡ length (filter p (l ∷ xs))
counted p l [] = refl
counted p l (x ∷ xs) =
    ⊎_elim
    (λ (e : is_before x l ≡ true).
    ap (λ ys. length (filter p ys)) (cond-true (is_before x l) (x ∷ with_link l xs) (l ∷ x ∷ xs) e)
    ∙ ⊎_elim
    (λ (xy : p x ≡ true). ap length (filter_yes p x (with_link l xs) xy) ∙ ap suc (counted p l xs) ∙ sym (ap length (filter_yes p x (l ∷ xs) xy)))
    (λ (xn : p x ≡ false). ap length (filter_no p x (with_link l xs) xn) ∙ counted p l xs ∙ sym (ap length (filter_no p x (l ∷ xs) xn)))
    (cases_Bool (p x))
    ∙ two_more p x l xs)
    (λ (e : is_before x l ≡ false). ap (λ ys. length (filter p ys)) (cond-false (is_before x l) (x ∷ with_link l xs) (l ∷ x ∷ xs) e))
    (cases_Bool (is_before x l))

-- ---- some links less

pub gone : (l : Link) (xs : List Link) → list_any (is_same_link l) (without_link l xs) ≡ false
gone l xs =
    any-filter_same (is_same_link l) (λ k. not (is_same_link k l)) false
    (λ k s. not_from_true (is_same_link k l) (subst (λ m. is_same_link m l ≡ true) (same_is l k s) (same_itself l))) xs

pub gone_at : (ids : List ℕ) (xs : List Link)
    → All (λ l. (list_any (λ id. l.from == id) ids ≡ false) × (list_any (λ id. l.to == id) ids ≡ false)) (without_links_at ids xs)
gone_at ids xs =
    let at : Link → Bool = λ l. list_any (λ id. (l.from == id) || (l.to == id)) ids in
    All-weaker (λ l. not (at l) ≡ true) (λ l. (list_any (λ id. l.from == id) ids ≡ false) × (list_any (λ id. l.to == id) ids ≡ false))
    (λ l e. or_parts (list_any (λ id. l.from == id) ids) (list_any (λ id. l.to == id) ids) (sym (any_either l.from l.to ids) ∙ not-true (at l) e))
    (without_links_at ids xs) (filter_passes (λ l. not (at l)) xs)

pub no_more : (p q : Link → Bool) (xs : List Link) → length (filter p (filter q xs)) ≤ length (filter p xs)
no_more p q xs = omega (arith, length_filter q (filter p xs), ap length (filter_swap p q xs))

-- ---- one link into a slot

not_before : (k l : Link) → has_target l.to l.to_slot k ≡ true → is_before k l ≡ true → ⊥
not_before k l e p = false≢true (let no : is_before k l ≡ false = grind (arith, nat_tests) in sym no ∙ p)

not_after : (k l : Link) → has_target l.to l.to_slot k ≡ true → is_before l k ≡ true → ⊥
not_after k l e p = false≢true (let no : is_before l k ≡ false = grind (arith, nat_tests) in sym no ∙ p)

pub one_into : (k l : Link) (xs : List Link) → AreInOrder xs → Contains xs k → Contains xs l → has_target l.to l.to_slot k ≡ true → k ≡ l
one_into k l xs up in_k in_l e =
    let at_k : get_or xs in_k.0 k ≡ k = in_k.2 in
    let at_l : get_or xs in_l.0 l ≡ l = in_l.2 in
    let at_l_too : get_or xs in_l.0 k ≡ l = get_or_default xs in_l.0 k l in_l.1 ∙ at_l in
    ⊎_elim
    (λ (same : in_k.0 ≡ in_l.0). sym at_k ∙ ap (λ n. get_or xs n k) same ∙ at_l_too)
    (λ apart. absurd (⊎_elim
    (λ (lt : in_k.0 < in_l.0). not_before k l e (subst (λ m. is_before m l ≡ true) at_k (subst (λ m. is_before (get_or xs in_k.0 k) m ≡ true) at_l_too (up in_k.0 in_l.0 k lt in_l.1))))
    (λ (lt : in_l.0 < in_k.0). not_after k l e (subst (λ m. is_before m k ≡ true) at_l_too (subst (λ m. is_before (get_or xs in_l.0 k) m ≡ true) at_k (up in_l.0 in_k.0 k lt in_k.1))))
    apart))
    (cases_order in_k.0 in_l.0)

-- ---- each once

pub stays : (p : Link → Bool) (l : Link) (xs : List Link) → p l ≡ true → Contains xs l → Contains (filter p xs) l
stays p l [] py h = absurd (none_in l h)
stays p l (x ∷ xs) py h =
    ⊎_elim
    (λ (e : x ≡ l). subst (λ ys. Contains ys l) (sym (filter_yes p x xs (subst (λ m. p m ≡ true) (sym e) py))) (subst (λ m. Contains (m ∷ filter p xs) l) (sym e) (here l (filter p xs))))
    (λ (later : Contains xs l). ⊎_elim
    (λ (xy : p x ≡ true). subst (λ ys. Contains ys l) (sym (filter_yes p x xs xy)) (further x l (filter p xs) (stays p l xs py later)))
    (λ (xn : p x ≡ false). subst (λ ys. Contains ys l) (sym (filter_no p x xs xn)) (stays p l xs py later))
    (cases_Bool (p x)))
    (member_cases x l xs h)

got : (xs : List Link) (n : ℕ) (l : Link) → slice_get xs n ≡ Some l → get_or xs n l ≡ l
got xs n l e = sym (unwrap_or-slice_get xs n l) ∙ ap (λ o. unwrap_or o l) e

pub one_place : (xs : List Link) (l : Link) (m n : ℕ) → AreInOrder xs → slice_get xs m ≡ Some l → slice_get xs n ≡ Some l → m ≡ n
one_place xs l m n up at_m at_n =
    ⊎_elim
    (λ (same : m ≡ n). same)
    (λ apart. absurd (⊎_elim
    (λ (lt : m < n). false≢true (sym (before_irrefl l) ∙ subst (λ k. is_before k l ≡ true) (got xs m l at_m) (subst (λ k. is_before (get_or xs m l) k ≡ true) (got xs n l at_n) (up m n l lt (slice_get_within xs n l at_n)))))
    (λ (lt : n < m). false≢true (sym (before_irrefl l) ∙ subst (λ k. is_before k l ≡ true) (got xs n l at_n) (subst (λ k. is_before (get_or xs n l) k ≡ true) (got xs m l at_m) (up n m l lt (slice_get_within xs m l at_m)))))
    apart))
    (cases_order m n)
