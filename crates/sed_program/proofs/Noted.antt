-- Places of names, kept where the first member of each name stands.
use Rattle.std.proofs.Common.{◌≡◌, ◌<◌, ◌≤◌, ◌≢◌, ℕ, zero, suc, ◌+◌, ◌-◌, ◌==◌, Bool, true, false, if◌then◌else◌, List, [], ◌∷◌, ◌++◌, filter, take, drop, length, replicate, slice_get, slice_set, get_or, Option, Some, None, ◌⊎◌, inl, inr, refl, sym, ap, subst, ◌∙◌, arith}
use Rattle.std.specs.List.{position}
use Rattle.std.specs.Option.{option_map, option_map_or, unwrap_or}
use Rattle.std.specs.Str.{bytes_eq}
use Rattle.std.proofs.lemmas.Bool.{cases_eq}
use Rattle.std.proofs.lemmas.List.{drop_all, drop_more, length-replicate, length-set, take_all}
use Rattle.std.proofs.lemmas.List.Quantifiers.{position-Some}
use Rattle.std.proofs.lemmas.Option.{slice_get_past, same_Some}
use Rattle.std.proofs.lemmas.Slice.Eq.{bytes_eq-Decides}
use Rattle.sed_units.specs.declared.classes.Member.{Member}
use Rattle.sed_classes.specs.declared.kit_units.KitUnits.{KitUnits}
use Rattle.sed_classes.specs.Declarations.{all_classes}
use Rattle.sed_classes.specs.Members.{has_name, members_of}
use Rattle.sed_outline.specs.Rounds.{item}
use Rattle.sed_outline.proofs.Rounds.{members_behind}
use Rattle.sed_program.specs.declared.parts.Part.{Part}
use Rattle.sed_program.specs.Fields.{place_named}
use Rattle.sed_program.specs.Parts.{is_of, one_if}
use Rattle.sed_program.specs.Places.{IsPlaced, IsPlacedIn, noted, with_member}
use Rattle.sed_program.proofs.Places.{at_start, count_step, found_here, here, later, passed_over, place_behind}

-- ---- rows

zeros : (n at : ℕ) → ◌≡◌ {A = ℕ} (item 0 (replicate n 0) at) 0
zeros zero at = refl
zeros (suc n) zero = refl
zeros (suc n) (suc at) = zeros n at

set_here : (row : List ℕ) (at number : ℕ) → at < length row → item 0 (slice_set row at number) at ≡ number
set_here [] at number lt = absurd (omega (arith, lt))
set_here (x ∷ xs) zero number lt = refl
set_here (x ∷ xs) (suc at) number lt = set_here xs at number (omega (arith, lt))

set_other : (row : List ℕ) (at number other : ℕ) → other ≢ at →
    item 0 (slice_set row at number) other ≡ item 0 row other
set_other [] at number other ne = refl
set_other (x ∷ xs) zero number zero ne = absurd (ne refl)
set_other (x ∷ xs) zero number (suc other) ne = refl
set_other (x ∷ xs) (suc at) number zero ne = refl
set_other (x ∷ xs) (suc at) number (suc other) ne = set_other xs at number other (λ e. ne (ap suc e))

noted_len : (row : List ℕ) (at : Option ℕ) (number : ℕ) → length (noted row at number) ≡ length row
noted_len row None number = refl
noted_len row (Some at) number = length-set row at number

pub with_member_len : (p : Member → Bool) (ms : List Member) (row : List ℕ) (m : Member) (number : ℕ) →
    length (with_member p ms row m number) ≡ length row
with_member_len p ms row m number = by_test (p m)
  where
    by_test : (b : Bool) →
        length (if b then noted row (position (has_name m.name.bytes) ms) number else row) ≡ length row
    by_test true = noted_len row (position (has_name m.name.bytes) ms) number
    by_test false = refl

-- ---- names

same_name : (name : List ℕ) (m : Member) → has_name name m ≡ true → m.name.bytes ≡ name
same_name name m is = (bytes_eq-Decides m.name.bytes name).0 is

-- two names that the same place has are one
one_place : (ms : List Member) (m : Member) (name : List ℕ) (at : ℕ) → position (has_name name) ms ≡ Some at →
    position (has_name m.name.bytes) ms ≡ Some at → has_name name m ≡ true
one_place ms m name at e f =
    let there = position-Some (has_name name) ms at m e in
    let too = position-Some (has_name m.name.bytes) ms at m f in
    let own : (get_or ms at m).name.bytes ≡ m.name.bytes = same_name m.name.bytes (get_or ms at m) too.1 in
    ap (λ bytes. bytes_eq bytes name) (sym own) ∙ there.1

none_left : (p q : Member → Bool) (ms : List Member) → position q ms ≡ None → position q (filter p ms) ≡ None
none_left p q [] e = refl
none_left p q (m ∷ ms) e = by_test (none_left p q ms) (q m) refl
  where
    rest_none : (o : Option ℕ) → option_map suc o ≡ None → o ≡ None
    rest_none None h = refl
    rest_none (Some k) h = cc

    kept : q m ≡ false → position q (filter p ms) ≡ None → (b : Bool) →
        position q (if b then m ∷ filter p ms else filter p ms) ≡ None
    kept fails again true = later q m (filter p ms) fails ∙ ap (option_map suc) again
    kept fails again false = again

    by_test : (position q ms ≡ None → position q (filter p ms) ≡ None) → (b : Bool) → q m ≡ b →
        position q (filter p (m ∷ ms)) ≡ None
    by_test again true is = absurd (let no : ◌≡◌ {A = Option ℕ} (Some 0) None = sym (here q m ms is) ∙ e in cc)
    by_test again false is =
        kept is (again (rest_none (position q ms) (sym (later q m ms is) ∙ e))) (p m)

-- ---- the loop

-- the places that the members behind here give
pub record IsNoted (p : Member → Bool) (ms : List Member) (left before : ℕ) (row : List ℕ) : Type 0 where
  pub within : left ≤ length ms
  pub count : before ≡ length (filter p (take left ms))
  pub len : length row ≡ length ms
  pub found :
      (name : List ℕ) (at : ℕ) → position (has_name name) ms ≡ Some at →
      item 0 row at ≡ place_behind before name (filter p (drop left ms))

pub noted_none : (p : Member → Bool) (ms : List Member) (left before : ℕ) (row : List ℕ) → left ≡ length ms →
    before ≡ length (filter p ms) → row ≡ replicate left 0 → IsNoted p ms left before row
noted_none p ms left before row l b r = record {
  within = omega (arith, l);
  count = b ∙ sym (ap (λ xs. length (filter p xs)) (take_all left ms (omega (arith, l))));
  len = ap length r ∙ length-replicate left 0 ∙ l;
  found = λ name at is.
      ap (λ xs. item 0 xs at) r
      ∙ zeros left at
      ∙ sym (ap (λ xs. place_behind before name (filter p xs)) (drop_all left ms (omega (arith, l))));
}

-- what one more member does to the place of a name
noted_more : (p : Member → Bool) (ms : List Member) (m : Member) (rest : List Member) (row : List ℕ) (before far : ℕ) →
    length row ≡ length ms → far + one_if (p m) ≡ before →
    ((name : List ℕ) (at : ℕ) → position (has_name name) ms ≡ Some at →
    item 0 row at ≡ place_behind before name (filter p rest)) →
    (name : List ℕ) (at : ℕ) → position (has_name name) ms ≡ Some at →
    item 0 (with_member p ms row m far) at ≡ place_behind far name (filter p (m ∷ rest))
noted_more p ms m rest row before far len sum found name at is = by_part (p m) refl
  where
    passed : (counts : Bool) → counts ≡ p m → (counts ≡ true → has_name name m ≡ false) →
        item 0 row at ≡ place_behind far name (filter p (m ∷ rest))
    passed counts e n =
        found name at is
        ∙ ap (λ k. place_behind k name (filter p rest)) (sym sum ∙ ap (λ b. far + one_if b) (sym e))
        ∙ passed_over p far name m rest counts e n

    untouched : has_name name m ≡ false → (o : Option ℕ) → position (has_name m.name.bytes) ms ≡ o →
        item 0 (noted row o far) at ≡ item 0 row at
    untouched other None e = refl
    untouched other (Some k) e =
        set_other row k far at (λ same.
        let named : has_name name m ≡ true = one_place ms m name at is (e ∙ ap Some (sym same)) in
        let clash : ◌≡◌ {A = Bool} true false = sym named ∙ other in cc)

    by_name : p m ≡ true → (b : Bool) → has_name name m ≡ b →
        item 0 (noted row (position (has_name m.name.bytes) ms) far) at ≡ place_behind far name (filter p (m ∷ rest))
    by_name part true e =
        let there = position-Some (has_name name) ms at m is in
        let own : position (has_name m.name.bytes) ms ≡ Some at =
        ap (λ bytes. position (has_name bytes) ms) (same_name name m e) ∙ is in
        ap (λ o. item 0 (noted row o far) at) own
        ∙ set_here row at far (omega (arith, there.0, len))
        ∙ sym (found_here p far name m rest part e)
    by_name part false e =
        untouched e (position (has_name m.name.bytes) ms) refl ∙ passed true (sym part) (λ it. e)

    by_part : (b : Bool) → p m ≡ b →
        item 0 (with_member p ms row m far) at ≡ place_behind far name (filter p (m ∷ rest))
    by_part true e =
        ap (λ b. item 0 (if b then noted row (position (has_name m.name.bytes) ms) far else row) at) e
        ∙ by_name e (has_name name m) refl
    by_part false e =
        ap (λ b. item 0 (if b then noted row (position (has_name m.name.bytes) ms) far else row) at) e
        ∙ passed false (sym e) (λ it. let clash : ◌≡◌ {A = Bool} false true = it in cc)

-- one more member back
pub noted_step : (p : Member → Bool) (ms : List Member) (left before : ℕ) (row : List ℕ) (m : Member) (far : ℕ)
    (new : List ℕ) → 0 < left → m ≡ get_or ms (left - 1) m → far + one_if (p m) ≡ before →
    new ≡ with_member p ms row m far → IsNoted p ms left before row → IsNoted p ms (left - 1) far new
noted_step p ms left before row m far new some there sum e i =
    let next : left - 1 + 1 ≡ left = omega arith in
    let within : left - 1 < length ms = omega (arith, i.within) in
    let behind : drop (left - 1) ms ≡ m ∷ drop left ms =
    drop_more ms (left - 1) m within
    ∙ ap (λ x. x ∷ drop (left - 1 + 1) ms) (sym there)
    ∙ ap (λ n. m ∷ drop n ms) next in
    let count : length (filter p (take (left - 1) ms)) + one_if (p m) ≡ length (filter p (take left ms)) =
    count_step p (left - 1) ms m (length (filter p (take (left - 1) ms))) (one_if (p m)) within there refl refl
    ∙ ap (λ n. length (filter p (take n ms))) next in
    record {
      within = omega (arith, within);
      count = omega (arith, sum, count, i.count);
      len = ap length e ∙ with_member_len p ms row m far ∙ i.len;
      found = λ name at is.
          ap (λ xs. item 0 xs at) e
          ∙ noted_more p ms m (drop left ms) row before far i.len sum i.found name at is
          ∙ sym (ap (λ xs. place_behind far name (filter p xs)) behind);
    }

pub noted_all : (p : Part) (ms : List Member) (left before : ℕ) (row : List ℕ) → left ≤ 0 →
    IsNoted (is_of p) ms left before row → IsPlacedIn p ms row
noted_all p ms left before row none i = λ name at is.
    let zero_left : left ≡ 0 = omega arith in
    let zero_before : before ≡ 0 = i.count ∙ ap (λ n. length (filter (is_of p) (take n ms))) zero_left in
    i.found name at is
    ∙ ap (λ n. place_behind before name (filter (is_of p) (drop n ms))) zero_left
    ∙ ap (λ n. place_behind n name (filter (is_of p) ms)) zero_before
    ∙ at_start name (filter (is_of p) ms)

-- ---- what a name has

-- a name that no member has stands at 0, any other where its place is kept
pub placed_found : (p : Part) (units : List KitUnits) (rows : List (List ℕ)) (class : ℕ) (name : List ℕ)
    (found : Option ℕ) → IsPlaced p units rows → found ≡ position (has_name name) (members_of units class) →
    option_map_or (λ at. item 0 (item [] rows class) at) found 0
    ≡ place_named name (filter (is_of p) (members_of units class))
placed_found p units rows class name (Some at) i e = i class name at (sym e)
placed_found p units rows class name None i e =
    sym (ap (λ o. unwrap_or o 0) (none_left (is_of p) (has_name name) (members_of units class) (sym e)))

-- ---- all classes

-- the rows of the first classes
pub record ArePlaced (p : Part) (units : List KitUnits) (count : ℕ) (rows : List (List ℕ)) : Type 0 where
  pub len : length rows ≡ count
  pub each : (class : ℕ) → class < count → IsPlacedIn p (members_of units class) (item [] rows class)

pub placed_none : (p : Part) (units : List KitUnits) (rows : List (List ℕ)) → rows ≡ [] → ArePlaced p units 0 rows
placed_none p units rows e = record {
  len = ap length e;
  each = λ class lt. absurd (omega (arith, lt));
}

front : (rows : List (List ℕ)) (row : List ℕ) (class : ℕ) → class < length rows →
    item [] (rows ++ row ∷ []) class ≡ item [] rows class
front [] row class lt = absurd (omega (arith, lt))
front (r ∷ rs) row zero lt = refl
front (r ∷ rs) row (suc class) lt = front rs row class (omega (arith, lt))

last_one : (rows : List (List ℕ)) (row : List ℕ) → item [] (rows ++ row ∷ []) (length rows) ≡ row
last_one [] row = refl
last_one (r ∷ rs) row = last_one rs row

len_more : (rows : List (List ℕ)) (row : List ℕ) → length (rows ++ row ∷ []) ≡ length rows + 1
len_more [] row = refl
len_more (r ∷ rs) row = let again = len_more rs row in omega (arith, again)

pub placed_more : (p : Part) (units : List KitUnits) (count : ℕ) (rows new : List (List ℕ)) (row : List ℕ) →
    new ≡ rows ++ row ∷ [] → IsPlacedIn p (members_of units count) row → ArePlaced p units count rows →
    ArePlaced p units (count + 1) new
placed_more p units count rows new row e is i = record {
  len = ap length e ∙ len_more rows row ∙ ap (λ n. n + 1) i.len;
  each = λ class lt. elim (cases_eq class count) [
    | inl same ↦
        let end : class ≡ length rows = same ∙ sym i.len in
        let there : item [] new class ≡ row =
        ap (λ xs. item [] xs class) e ∙ ap (item [] (rows ++ row ∷ [])) end ∙ last_one rows row in
        subst (λ (r : List ℕ). IsPlacedIn p (members_of units class) r) (sym there)
        (subst (λ (n : ℕ). IsPlacedIn p (members_of units n) row) (sym same) is)
    | inr ne ↦
        let before : class < count = omega arith in
        let there : item [] new class ≡ item [] rows class =
        ap (λ xs. item [] xs class) e ∙ front rows row class (omega (arith, before, i.len)) in
        subst (λ (r : List ℕ). IsPlacedIn p (members_of units class) r) (sym there) (i.each class before)
  ];
}

pub placed_all : (p : Part) (units : List KitUnits) (count : ℕ) (rows : List (List ℕ)) →
    length (all_classes units) ≤ count → ArePlaced p units count rows → IsPlaced p units rows
placed_all p units count rows le i = λ class. by_order class (nat_order class count)
  where
    nat_order : (a b : ℕ) → (a < b) ⊎ (b ≤ a)
    nat_order a zero = inr (omega arith)
    nat_order zero (suc b) = inl (omega arith)
    nat_order (suc a) (suc b) =
        elim (nat_order a b) [ inl lt ↦ inl (omega (arith, lt)) | inr ge ↦ inr (omega (arith, ge)) ]

    by_order : (class : ℕ) → (class < count) ⊎ (count ≤ class) →
        IsPlacedIn p (members_of units class) (item [] rows class)
    by_order class (inl lt) = i.each class lt
    by_order class (inr ge) = λ name at is.
        absurd (let none : ◌≡◌ {A = Option ℕ} None (Some at) =
        sym (ap (position (has_name name)) (members_behind units class (omega (arith, le, ge)))) ∙ is in cc)
