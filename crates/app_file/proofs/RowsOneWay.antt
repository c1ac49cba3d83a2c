-- Rows and links: of two lists of them, each with its end behind it, in front of the same bytes both are one.
use Rattle.std.proofs.Common.{◌≡◌, ℕ, zero, suc, ◌+◌, ◌<◌, ◌≤◌, Bool, true, false, cond, IsTrue, List, [], ◌∷◌, ◌++◌, length, refl, sym, subst, ◌∙◌, ap, arith, append_assoc}
use Rattle.std.specs.Prelude.{Option, Some, None, IfSome, ◌==◌, ◌&&◌, slice_get, count_by, All}
use Rattle.std.specs.Option.{option_map_or}
use Rattle.std.specs.List.{AllByRecursion, flat_map}
use Rattle.std.proofs.lemmas.Bool.Decides.{nat_tests}
use Rattle.std.proofs.lemmas.List.Recursion.{is_count_by}
use Rattle.sed_typed.specs.declared.schema.ClassInfo.{ClassInfo}
use Rattle.sed_engine.specs.Code.{Meaning}
use Rattle.sed_engine.specs.Whole.{HasTables}
use Rattle.comp_tree.specs.Application.{Link}
use Rattle.comp_tree.specs.Parts.{class_bytes, config_slots, link_bytes, no_id, text, u1, u2}
use Rattle.comp_tree.specs.Values.{spelling_of_all}
use Rattle.app_file.specs.Rows.{Row}
use Rattle.app_file.specs.Text.{id_text, row_text}
use Rattle.app_file.proofs.OneWay.{Fronts, HasNoZero, fronts-text, fronts-u1, fronts-u2, peel}
use Rattle.app_file.proofs.ValuesOneWay.{AreTyped, fronts-values}
use Rattle.sed_value.proofs.Lists.{at_place}

-- ---- ids

abbrev pub IsIdOrNone : Option ℕ → Type 0
IsIdOrNone id = IfSome id (λ n. n < no_id)

fronts-id : Fronts IsIdOrNone id_text
fronts-id None None x y is_a is_b e = (refl, (fronts-u2 no_id no_id x y (omega arith) (omega arith) e).1)
fronts-id None (Some b) x y is_a is_b e = absurd (let parts = (fronts-u2 no_id b x y (omega arith) (omega (arith, is_b)) e).0 in omega (arith, parts, is_b))
fronts-id (Some a) None x y is_a is_b e = absurd (let parts = (fronts-u2 a no_id x y (omega (arith, is_a)) (omega arith) e).0 in omega (arith, parts, is_a))
fronts-id (Some a) (Some b) x y is_a is_b e =
    let parts = fronts-u2 a b x y (omega (arith, is_a)) (omega (arith, is_b)) e in
    (ap Some parts.0, parts.1)

-- ---- classes

-- how often a test holds
unfoldable pub times : (ClassInfo → Bool) → List ClassInfo → ℕ
times p [] = 0
times p (x ∷ xs) = cond (p x) (1 + times p xs) (times p xs)

pub times_counts : (p : ClassInfo → Bool) (xs : List ClassInfo) → times p xs ≡ count_by p xs
unfolding times
times_counts p xs = is_count_by (times p) p refl (λ x xs. refl) xs

pub counted : (p : ClassInfo → Bool) (xs : List ClassInfo) (c : ℕ) (a : ClassInfo) → slice_get xs c ≡ Some a → IsTrue (p a) → 1 ≤ times p xs
unfolding times
counted p [] c a at is = absurd (let no : ◌≡◌ {A = Option ClassInfo} None (Some a) = at in cc)
counted p (x ∷ xs) zero a at is =
    let same : x ≡ a = cc in
    let passes : p x ≡ true = ap p same ∙ is in
    rw passes (omega arith)
counted p (x ∷ xs) (suc c) a at is = by_test (p x) (counted p xs c a at is)
  where
    by_test : (b : Bool) → 1 ≤ times p xs → 1 ≤ cond b (1 + times p xs) (times p xs)
    by_test true h = omega arith
    by_test false h = h

-- what stands twice is counted twice
first_and_later : (p : ClassInfo → Bool) (x : ClassInfo) (xs : List ClassInfo) (a b : ClassInfo) (d : ℕ) → times p (x ∷ xs) ≤ 1 → x ≡ a → IsTrue (p a)
    → slice_get xs d ≡ Some b → IsTrue (p b) → ⊥
unfolding times
first_and_later p x xs a b d few same is at' is' =
    let passes : p x ≡ true = ap p same ∙ is in
    let others : 1 ≤ times p xs = counted p xs d b at' is' in
    let two : 1 + times p xs ≤ 1 = subst (λ b. cond b (1 + times p xs) (times p xs) ≤ 1) passes few in
    omega (arith, others, two)

same_index : (p : ClassInfo → Bool) (xs : List ClassInfo) (c d : ℕ) (a b : ClassInfo) → times p xs ≤ 1 → slice_get xs c ≡ Some a → IsTrue (p a)
    → slice_get xs d ≡ Some b → IsTrue (p b) → c ≡ d
unfolding times
same_index p [] c d a b few at is at' is' = absurd (let no : ◌≡◌ {A = Option ClassInfo} None (Some a) = at in cc)
same_index p (x ∷ xs) zero zero a b few at is at' is' = refl
same_index p (x ∷ xs) zero (suc d) a b few at is at' is' = absurd (first_and_later p x xs a b d few (let same : x ≡ a = cc in same) is at' is')
same_index p (x ∷ xs) (suc c) zero a b few at is at' is' = absurd (first_and_later p x xs b a c few (let same : x ≡ b = cc in same) is' at is)
same_index p (x ∷ xs) (suc c) (suc d) a b few at is at' is' = ap suc (same_index p xs c d a b (by_test (p x) few) at is at' is')
  where
    by_test : (b : Bool) → cond b (1 + times p xs) (times p xs) ≤ 1 → times p xs ≤ 1
    by_test true h = omega arith
    by_test false h = h

-- the number of a type is a byte
abbrev pub AreNumbered : Meaning → Type 0
AreNumbered m = All (λ (c : ClassInfo). c.number < 256) m.schema.classes

pub record IsClass (m : Meaning) (class : ℕ) : Type 0 where
  pub info : ClassInfo
  pub is : slice_get m.schema.classes class ≡ Some info

bytes_of : (m : Meaning) (class : ℕ) (is : IsClass m class) → class_bytes m class ≡ u1 is.info.kit ++ u1 is.info.number
bytes_of m class is = ap (λ r. option_map_or (λ (c : ClassInfo). u1 c.kit ++ u1 c.number) r []) is.is

fronts-class : (m : Meaning) → HasTables m → AreNumbered m → Fronts (IsClass m) (class_bytes m)
fronts-class m tables numbered a b x y is_a is_b e =
    let kit_a : is_a.info.kit < 256 = let known = at_place (λ (c : ClassInfo). c.kit < length m.schema.kits) m.schema.classes a is_a.info tables.names.known is_a.is in omega (arith, known, tables.limits.kits) in
    let kit_b : is_b.info.kit < 256 = let known = at_place (λ (c : ClassInfo). c.kit < length m.schema.kits) m.schema.classes b is_b.info tables.names.known is_b.is in omega (arith, known, tables.limits.kits) in
    let number_a : is_a.info.number < 256 = at_place (λ (c : ClassInfo). c.number < 256) m.schema.classes a is_a.info numbered is_a.is in
    let number_b : is_b.info.number < 256 = at_place (λ (c : ClassInfo). c.number < 256) m.schema.classes b is_b.info numbered is_b.is in
    let whole : (u1 is_a.info.kit ++ u1 is_a.info.number) ++ x ≡ (u1 is_b.info.kit ++ u1 is_b.info.number) ++ y =
    ap (λ bytes. bytes ++ x) (sym (bytes_of m a is_a)) ∙ e ∙ ap (λ bytes. bytes ++ y) (bytes_of m b is_b) in
    let kits = peel (λ n. n < 256) u1 fronts-u1 is_a.info.kit is_b.info.kit (u1 is_a.info.number) (u1 is_b.info.number) x y kit_a kit_b whole in
    let numbers = fronts-u1 is_a.info.number is_b.info.number x y number_a number_b kits.1 in
    let passes_a : IsTrue ((is_a.info.kit == is_a.info.kit) && (is_a.info.number == is_a.info.number)) = grind (arith, nat_tests) in
    let passes_b : IsTrue ((is_b.info.kit == is_a.info.kit) && (is_b.info.number == is_a.info.number)) =
    let k = kits.0 in let n = numbers.0 in grind (arith, nat_tests) in
    let test : ClassInfo → Bool = λ (c : ClassInfo). (c.kit == is_a.info.kit) && (c.number == is_a.info.number) in
    let once : times test m.schema.classes ≤ 1 = subst (λ n. n ≤ 1) (sym (times_counts test m.schema.classes)) (tables.names.once is_a.info.kit is_a.info.number) in
    (same_index test m.schema.classes a b is_a.info is_b.info once is_a.is passes_a is_b.is passes_b, numbers.1)

-- ---- rows

pub record RowFits (m : Meaning) (r : Row) : Type 0 where
  pub id : r.id < no_id
  pub class : IsClass m r.class
  pub name : HasNoZero r.name
  pub parent : IsIdOrNone r.parent
  pub first_child : IsIdOrNone r.first_child
  pub next_sibling : IsIdOrNone r.next_sibling
  pub config : AreTyped m r.class (config_slots m r.class) r.config

-- what stands behind a field of a row
abbrev behind_next : Row → List ℕ
behind_next r = spelling_of_all r.config ++ u1 0x3b

abbrev behind_first : Row → List ℕ
behind_first r = id_text r.next_sibling ++ behind_next r

abbrev behind_parent : Row → List ℕ
behind_parent r = id_text r.first_child ++ behind_first r

abbrev behind_name : Row → List ℕ
behind_name r = id_text r.parent ++ behind_parent r

abbrev behind_class : Row → List ℕ
behind_class r = text r.name ++ behind_name r

abbrev behind_id : Meaning → Row → List ℕ
behind_id m r = class_bytes m r.class ++ behind_class r

grouped : (b c d e f g h : List ℕ) (a : List ℕ) → a ++ b ++ c ++ d ++ e ++ f ++ g ++ h ≡ a ++ (b ++ (c ++ (d ++ (e ++ (f ++ (g ++ h))))))
grouped b c d e f g h a =
    append_assoc (a ++ b ++ c ++ d ++ e ++ f) g h ∙ append_assoc (a ++ b ++ c ++ d ++ e) f (g ++ h) ∙ append_assoc (a ++ b ++ c ++ d) e (f ++ (g ++ h))
    ∙ append_assoc (a ++ b ++ c) d (e ++ (f ++ (g ++ h))) ∙ append_assoc (a ++ b) c (d ++ (e ++ (f ++ (g ++ h)))) ∙ append_assoc a b (c ++ (d ++ (e ++ (f ++ (g ++ h)))))

row_grouped : (m : Meaning) (r : Row) → row_text m r ≡ u2 r.id ++ behind_id m r
row_grouped m r =
    grouped (class_bytes m r.class) (text r.name) (id_text r.parent) (id_text r.first_child) (id_text r.next_sibling) (spelling_of_all r.config) (u1 0x3b) (u2 r.id)

fronts-row : (m : Meaning) → HasTables m → AreNumbered m → Fronts (RowFits m) (row_text m)
fronts-row m tables numbered a b x y is_a is_b e =
    let whole : (u2 a.id ++ behind_id m a) ++ x ≡ (u2 b.id ++ behind_id m b) ++ y =
    ap (λ bytes. bytes ++ x) (sym (row_grouped m a)) ∙ e ∙ ap (λ bytes. bytes ++ y) (row_grouped m b) in
    let ids = peel (λ n. n < 65536) u2 fronts-u2 a.id b.id (behind_id m a) (behind_id m b) x y (omega (arith, is_a.id)) (omega (arith, is_b.id)) whole in
    let classes = peel (IsClass m) (class_bytes m) (fronts-class m tables numbered) a.class b.class (behind_class a) (behind_class b) x y is_a.class is_b.class ids.1 in
    let names = peel HasNoZero text fronts-text a.name b.name (behind_name a) (behind_name b) x y is_a.name is_b.name classes.1 in
    let parents = peel IsIdOrNone id_text fronts-id a.parent b.parent (behind_parent a) (behind_parent b) x y is_a.parent is_b.parent names.1 in
    let firsts = peel IsIdOrNone id_text fronts-id a.first_child b.first_child (behind_first a) (behind_first b) x y is_a.first_child is_b.first_child parents.1 in
    let nexts = peel IsIdOrNone id_text fronts-id a.next_sibling b.next_sibling (behind_next a) (behind_next b) x y is_a.next_sibling is_b.next_sibling firsts.1 in
    let typed_b : AreTyped m a.class (config_slots m a.class) b.config = subst (λ c. AreTyped m c (config_slots m c) b.config) (sym classes.0) is_b.config in
    let values = peel (AreTyped m a.class (config_slots m a.class)) spelling_of_all (fronts-values m a.class (config_slots m a.class)) a.config b.config (u1 0x3b) (u1 0x3b) x y is_a.config typed_b nexts.1 in
    let rest : x ≡ y = let ends = values.1 in cc in
    (λ i. record { id = ids.0 i; class = classes.0 i; name = names.0 i; parent = parents.0 i; first_child = firsts.0 i; next_sibling = nexts.0 i; config = values.0 i }, rest)

-- ---- links

pub record LinkFits (l : Link) : Type 0 where
  pub from : l.from < no_id
  pub from_slot : l.from_slot < 256
  pub to : l.to < no_id
  pub to_slot : l.to_slot < 256

fronts-link : Fronts LinkFits link_bytes
fronts-link a b x y is_a is_b e =
    let froms = peel (λ n. n < 65536) u2 fronts-u2 a.from b.from (u1 a.from_slot ++ u2 a.to ++ u1 a.to_slot) (u1 b.from_slot ++ u2 b.to ++ u1 b.to_slot) x y (omega (arith, is_a.from)) (omega (arith, is_b.from)) e in
    let slots = peel (λ n. n < 256) u1 fronts-u1 a.from_slot b.from_slot (u2 a.to ++ u1 a.to_slot) (u2 b.to ++ u1 b.to_slot) x y is_a.from_slot is_b.from_slot froms.1 in
    let tos = peel (λ n. n < 65536) u2 fronts-u2 a.to b.to (u1 a.to_slot) (u1 b.to_slot) x y (omega (arith, is_a.to)) (omega (arith, is_b.to)) slots.1 in
    let others = fronts-u1 a.to_slot b.to_slot x y is_a.to_slot is_b.to_slot tos.1 in
    (λ i. record { from = froms.0 i; from_slot = slots.0 i; to = tos.0 i; to_slot = others.0 i }, others.1)

-- ---- lists that end with the number that no component has

abbrev Begins : {A : Type 0} → (A → Type 0) → (A → List ℕ) → Type 0
Begins {A} P f = (a : A) → P a → (id : ℕ) × (rest : List ℕ) × (id < no_id) × (f a ≡ u2 id ++ rest)

not_ended : {A : Type 0} (P : A → Type 0) (f : A → List ℕ) → Begins P f → (a : A) (z w : List ℕ) → P a → f a ++ z ≡ u2 no_id ++ w → ⊥
not_ended P f begins a z w is e =
    let begun = begins a is in
    let whole : u2 begun.0 ++ (begun.1 ++ z) ≡ u2 no_id ++ w = sym (append_assoc (u2 begun.0) begun.1 z) ∙ ap (λ bytes. bytes ++ z) (sym begun.3) ∙ e in
    let same = (fronts-u2 begun.0 no_id (begun.1 ++ z) w (omega (arith, begun.2)) (omega arith) whole).0 in
    omega (arith, same, begun.2)

ended : {A : Type 0} (P : A → Type 0) (f : A → List ℕ) → Fronts P f → Begins P f → (ones others : List A) (x y : List ℕ) → AllByRecursion P ones → AllByRecursion P others
    → flat_map f ones ++ (u2 no_id ++ x) ≡ flat_map f others ++ (u2 no_id ++ y) → (ones ≡ others) × (x ≡ y)
ended P f fronts begins [] [] x y all_a all_b e = (refl, (fronts-u2 no_id no_id x y (omega arith) (omega arith) e).1)
ended P f fronts begins [] (b ∷ bs) x y all_a all_b e =
    absurd (not_ended P f begins b (flat_map f bs ++ (u2 no_id ++ y)) x all_b.0 (sym (append_assoc (f b) (flat_map f bs) (u2 no_id ++ y)) ∙ sym e))
ended P f fronts begins (a ∷ ones) [] x y all_a all_b e =
    absurd (not_ended P f begins a (flat_map f ones ++ (u2 no_id ++ x)) y all_a.0 (sym (append_assoc (f a) (flat_map f ones) (u2 no_id ++ x)) ∙ e))
ended P f fronts begins (a ∷ ones) (b ∷ bs) x y all_a all_b e =
    let here = peel P f fronts a b (flat_map f ones) (flat_map f bs) (u2 no_id ++ x) (u2 no_id ++ y) all_a.0 all_b.0 e in
    let rest = ended P f fronts begins ones bs x y all_a.1 all_b.1 here.1 in
    (λ i. here.0 i ∷ rest.0 i, rest.1)

pub rows_are_one : (m : Meaning) → HasTables m → AreNumbered m → (rows others : List Row) (x y : List ℕ) → AllByRecursion (RowFits m) rows → AllByRecursion (RowFits m) others
    → flat_map (row_text m) rows ++ (u2 no_id ++ x) ≡ flat_map (row_text m) others ++ (u2 no_id ++ y) → (rows ≡ others) × (x ≡ y)
rows_are_one m tables numbered = ended (RowFits m) (row_text m) (fronts-row m tables numbered) (λ r is. (r.id, behind_id m r, is.id, row_grouped m r))

pub links_are_one : (links others : List Link) (x y : List ℕ) → AllByRecursion LinkFits links → AllByRecursion LinkFits others
    → flat_map link_bytes links ++ (u2 no_id ++ x) ≡ flat_map link_bytes others ++ (u2 no_id ++ y) → (links ≡ others) × (x ≡ y)
links_are_one = ended LinkFits link_bytes fronts-link (λ l is. (l.from, _, is.from, refl))
