-- Links one after another, and their ends.
use Rattle.std.proofs.Common.{◌≡◌, ℕ, ◌<◌, ◌≤◌, ◌+◌, ◌-◌, Bool, true, false, IsTrue, List, length, get_or, refl, sym, subst, ◌∙◌, ap, arith, eqb-true}
use Rattle.std.specs.Prelude.{Option, Some, None, All, ◌==◌, ◌&&◌, ◌||◌, nat_lt, is_some, slice_get}
use Rattle.std.specs.Option.{option_and_then}
use Rattle.std.proofs.lemmas.Bool.Decides.{nat_tests}
use Rattle.std.proofs.lemmas.Option.{get_or_from_slice_get, slice_get_within, slice_get-get_or}
use Rattle.sed_value.specs.declared.slot_type.SlotType.{SlotType}
use Rattle.sed_engine.specs.Code.{Meaning, property_type, slot_form}
use Rattle.sub_table.specs.Link.{Link}
use Rattle.sub_table.specs.Links.{AreInOrder, is_before}
use Rattle.comp_tree.specs.Links.{go_together_if_there}
use Rattle.app_front.specs.declared.rows.FileRow.{FileRow}
use Rattle.app_reader.specs.FormedFile.{IsLinkIn, row_with, type_in}
pub use Rattle.sed_value.proofs.Lists.{at_place as at_each}

some_link : (k l : Link) → ◌≡◌ {A = Option Link} (Some k) (Some l) → k ≡ l
some_link k l e = cc

pub all_before : {A : Type 0} (P : A → Type 0) (xs : List A) (n : ℕ) → length xs ≤ n → ((k : ℕ) (x : A) → k < n → slice_get xs k ≡ Some x → P x) → All P xs
all_before P xs n over each = λ k d lt. each k (get_or xs k d) (omega (arith, lt, over)) (slice_get-get_or xs k d lt)

-- ---- the order

before_test : (a b c d : ℕ) → Bool
before_test a b c d = nat_lt a c || ((a == c) && nat_lt b d)

trans : (a b c d e f : ℕ) → before_test a b c d ≡ true → before_test c d e f ≡ true → before_test a b e f ≡ true
unfolding before_test
trans a b c d e f one other = grind (arith, nat_tests)

before_trans : (k l n : Link) → IsTrue (is_before k l) → IsTrue (is_before l n) → IsTrue (is_before k n)
unfolding before_test
before_trans k l n one other = trans k.to k.to_slot l.to l.to_slot n.to n.to_slot one other

pub OrderTo : ℕ → List Link → Type 0
OrderTo n links = (i j : ℕ) (k l : Link) → i < j → j < n → slice_get links i ≡ Some k → slice_get links j ≡ Some l → IsTrue (is_before k l)

pub order_none : (links : List Link) → OrderTo 1 links
unfolding OrderTo
order_none links i j k l lt below at at' = absurd (omega (arith, lt, below))

pub order_more : (links : List Link) (n : ℕ) (last next : Link) → 1 ≤ n → slice_get links (n - 1) ≡ Some last → slice_get links n ≡ Some next → IsTrue (is_before last next)
    → OrderTo n links → OrderTo (n + 1) links
unfolding OrderTo
order_more links n last next some at at' before to i j k l lt below is is' = by_order (j == n) refl
  where
    by_last : (b : Bool) → (i == n - 1) ≡ b → i < n → l ≡ next → IsTrue (is_before k l)
    by_last true tie less same' =
        let place : i ≡ n - 1 = eqb-true i (n - 1) tie in
        let same : k ≡ last = some_link k last (sym is ∙ ap (slice_get links) place ∙ at) in
        subst (λ (l : Link). IsTrue (is_before k l)) (sym same') (subst (λ (k : Link). IsTrue (is_before k next)) (sym same) before)
    by_last false apart less same' =
        let earlier : i < n - 1 = grind (arith, nat_tests) in
        let one = to i (n - 1) k last earlier (omega (arith, some)) is at in
        subst (λ (l : Link). IsTrue (is_before k l)) (sym same') (before_trans k last next one before)

    by_order : (b : Bool) → (j == n) ≡ b → IsTrue (is_before k l)
    by_order true tie =
        let here : j ≡ n = eqb-true j n tie in
        by_last (i == n - 1) refl (omega (arith, lt, here)) (some_link l next (sym is' ∙ ap (slice_get links) here ∙ at'))
    by_order false apart = let earlier : j < n = grind (arith, nat_tests) in to i j k l lt earlier is is'

pub in_order : (links : List Link) (n : ℕ) → length links ≤ n → OrderTo n links → AreInOrder links
unfolding OrderTo
in_order links n over to = λ i j d lt within.
    to i j (get_or links i d) (get_or links j d) lt (omega (arith, within, over)) (slice_get-get_or links i d (omega (arith, lt, within))) (slice_get-get_or links j d within)

pub neighbours : (links : List Link) (n : ℕ) (last next : Link) → 1 ≤ n → slice_get links (n - 1) ≡ Some last → slice_get links n ≡ Some next → AreInOrder links → IsTrue (is_before last next)
neighbours links n last next some at at' order =
    let before = order (n - 1) n last (omega (arith, some)) (slice_get_within links n next at') in
    subst (λ (l : Link). IsTrue (is_before last l)) (get_or_from_slice_get links n next last at')
    (subst (λ (k : Link). IsTrue (is_before k (get_or links n last))) (get_or_from_slice_get links (n - 1) last last at) before)

-- ---- the ends

both_there : (s t : Option SlotType) → IsTrue (go_together_if_there s t) → IsTrue (is_some s) × IsTrue (is_some t)
both_there (Some s) (Some t) is = (refl, refl)
both_there None t is = absurd (let no : false ≡ true = is in cc)
both_there (Some s) None is = absurd (let no : false ≡ true = is in cc)

row_there : (m : Meaning) (slot : ℕ) (o : Option FileRow) → IsTrue (is_some (property_type (option_and_then (λ (r : FileRow). slot_form m r.kind.0 slot) o))) → IsTrue (is_some o)
row_there m slot None is = absurd (let no : false ≡ true = is in cc)
row_there m slot (Some r) is = refl

pub is_link : (m : Meaning) (rows : List FileRow) (l : Link) → IsTrue (go_together_if_there (type_in m rows l.from l.from_slot) (type_in m rows l.to l.to_slot)) → IsLinkIn m rows l
is_link m rows l typed =
    let there = both_there (type_in m rows l.from l.from_slot) (type_in m rows l.to l.to_slot) typed in
    record { from = row_there m l.from_slot (row_with rows l.from) there.0; to = row_there m l.to_slot (row_with rows l.to) there.1; typed = typed }
