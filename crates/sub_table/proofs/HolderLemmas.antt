-- The rows of numbers and the numbers of rows, inverse to one another.
use Rattle.std.proofs.Common.{ℕ, zero, suc, ◌≡◌, ◌≢◌, ◌<◌, ◌≤◌, ◌+◌, ◌-◌, inl, inr, Bool, true, false, List, [], ◌∷◌, ◌++◌, length, replicate, sym, ◌∙◌, ap, subst, arith}
use Rattle.std.proofs.Math.Dec.{eqb}
use Rattle.std.proofs.Math.ListN.{set, get_or, get_or-append}
use Rattle.std.proofs.Math.Seq.{get_or-append_seam}
use Rattle.std.proofs.lemmas.Bool.{cases_eq, cases_lt, cases_Bool, ne_eqb, eqb-true}
use Rattle.std.proofs.lemmas.Grind.{get_or-set_at, get_or_default_zero}
use Rattle.std.proofs.lemmas.List.{get_or-set_other, length-append, length-replicate, length-set}
use Rattle.std.proofs.lemmas.Map.Keys.{IsDistinct-from_apart}
use Rattle.std.proofs.lemmas.Map.Steps.{length-le_from_distinct_below}
use Rattle.std.specs.List.{list_any}
use Rattle.std.specs.Prelude.{◌||◌}
use Rattle.sub_table.specs.Holders.{AreInverse, IsMoved, is_member}

-- ---- nobody has subscribed

pub inverse_new : (words rows numbers : List ℕ) (room : ℕ) → ((number : ℕ) → is_member words number ≡ false) → rows ≡ replicate 65536 0 → numbers ≡ [] → 65536 ≤ room
    → AreInverse words rows numbers room
inverse_new words rows numbers room none zeros empty reserved =
    let no_row : length numbers ≡ 0 = ap length empty in
    record {
      many = ap length zeros ∙ length-replicate {A = ℕ} 65536 0;
      reserved = reserved;
      bound = λ number member. absurd (let f : true ≡ false = sym member ∙ none number in cc);
      back = λ number member. absurd (let f : true ≡ false = sym member ∙ none number in cc);
      below = λ row within. absurd (omega arith);
      held = λ row within. absurd (omega arith);
      forth = λ row within. absurd (omega arith);
    }

-- ---- as many rows as there is room for

-- what all elements are below, one that is found is
below_all : (xs : List ℕ) (n q : ℕ) → ((i : ℕ) → i < length xs → get_or xs i 0 < n) → list_any (eqb q) xs ≡ true → q < n
below_all [] n q each found = absurd (let f : false ≡ true = found in cc)
below_all (x ∷ xs) n q each found = elim (cases_Bool (eqb q x)) [
  | inl same ↦ subst (λ (k : ℕ). k < n) (sym (eqb-true q x same)) (each zero (omega arith))
  | inr differs ↦ below_all xs n q (λ i within. each (suc i) (omega arith)) (ap (λ (b : Bool). b || list_any (eqb q) xs) (sym differs) ∙ found)
]

module _ (words rows numbers : List ℕ) (room : ℕ) (inv : AreInverse words rows numbers room) where
  -- two numbers don't hold one row
  pub same_holder : (a b : ℕ) → is_member words a ≡ true → is_member words b ≡ true → get_or rows a 0 ≡ get_or rows b 0 → a ≡ b
  same_holder a b member_a member_b same = sym (inv.back a member_a) ∙ ap (λ (r : ℕ). get_or numbers r 0) same ∙ inv.back b member_b

  two_rows : (i j : ℕ) → i < length numbers → j < length numbers → get_or numbers i 0 ≡ get_or numbers j 0 → i ≡ j
  two_rows i j within_i within_j same = sym (inv.forth i within_i) ∙ ap (λ (n : ℕ). get_or rows n 0) same ∙ inv.forth j within_j

  module _ (number : ℕ) (few : number < 65536) (fresh : is_member words number ≡ false) where
    none_holds : (row : ℕ) → row < length numbers → get_or numbers row 0 ≢ number
    none_holds row within same = let f : true ≡ false = sym (inv.held row within) ∙ ap (λ (n : ℕ). is_member words n) same ∙ fresh in cc

    -- of the numbers of the rows and a number that has none, no two are equal
    apart_all : (i j d : ℕ) → i < j → j < length (number ∷ numbers) → eqb (get_or (number ∷ numbers) i d) (get_or (number ∷ numbers) j d) ≡ false
    apart_all i zero d lt within = absurd (omega arith)
    apart_all zero (suc j) d lt within =
        let inside : j < length numbers = omega arith in
        ne_eqb number (get_or numbers j d) (λ same. none_holds j inside (sym (get_or_default_zero numbers j d inside) ∙ sym same))
    apart_all (suc i) (suc j) d lt within =
        let inside_j : j < length numbers = omega arith in
        let inside_i : i < length numbers = omega arith in
        ne_eqb (get_or numbers i d) (get_or numbers j d) (λ same.
        let e : i ≡ j = two_rows i j inside_i inside_j (sym (get_or_default_zero numbers i d inside_i) ∙ same ∙ get_or_default_zero numbers j d inside_j) in
        let less : i < j = omega arith in
        omega arith)

    each_below : (i : ℕ) → i < length (number ∷ numbers) → get_or (number ∷ numbers) i 0 < 65536
    each_below zero within = few
    each_below (suc i) within = inv.below i (omega arith)

    -- so there is a row left for it
    pub is_room : length numbers < 65536
    is_room =
        let all : length (number ∷ numbers) ≤ 65536 =
        length-le_from_distinct_below (number ∷ numbers) 65536 (IsDistinct-from_apart eqb (number ∷ numbers) apart_all) (λ q found. below_all (number ∷ numbers) 65536 q each_below found) in
        omega arith

    -- ---- one subscribes

    module _ (words' : List ℕ) (room' : ℕ) (more : room ≤ room') (same : is_member words' number ≡ true) (others : (other : ℕ) → other ≢ number → is_member words' other ≡ is_member words other) where
      rows_len : length (set rows number (length numbers)) ≡ 65536
      rows_len = length-set rows number (length numbers) ∙ inv.many

      longer : length (numbers ++ number ∷ []) ≡ length numbers + 1
      longer = length-append numbers (number ∷ [])

      row_here : (other : ℕ) → other ≡ number → get_or (set rows number (length numbers)) other 0 ≡ length numbers
      row_here other is = get_or-set_at rows number other (length numbers) 0 is (let m = inv.many in omega arith)

      row_other : (other : ℕ) → other ≢ number → get_or (set rows number (length numbers)) other 0 ≡ get_or rows other 0
      row_other other ne = get_or-set_other rows number other (length numbers) 0 ne

      number_last : (row : ℕ) → row ≡ length numbers → get_or (numbers ++ number ∷ []) row 0 ≡ number
      number_last row is = ap (λ (k : ℕ). get_or (numbers ++ number ∷ []) k 0) is ∙ get_or-append_seam numbers number [] 0

      number_other : (row : ℕ) → row < length numbers → get_or (numbers ++ number ∷ []) row 0 ≡ get_or numbers row 0
      number_other row within = get_or-append numbers (number ∷ []) 0 row within

      bound_more : (other : ℕ) → is_member words' other ≡ true → get_or (set rows number (length numbers)) other 0 < length (numbers ++ number ∷ [])
      bound_more other member = elim (cases_eq other number) [
        | inl is ↦ let here = row_here other is in let l = longer in omega arith
        | inr ne ↦ let there = row_other other ne in let b = inv.bound other (sym (others other ne) ∙ member) in let l = longer in omega arith
      ]

      back_more : (other : ℕ) → is_member words' other ≡ true → get_or (numbers ++ number ∷ []) (get_or (set rows number (length numbers)) other 0) 0 ≡ other
      back_more other member = elim (cases_eq other number) [
        | inl is ↦ number_last (get_or (set rows number (length numbers)) other 0) (row_here other is) ∙ sym is
        | inr ne ↦
            let was : is_member words other ≡ true = sym (others other ne) ∙ member in
            ap (λ (r : ℕ). get_or (numbers ++ number ∷ []) r 0) (row_other other ne)
            ∙ number_other (get_or rows other 0) (inv.bound other was)
            ∙ inv.back other was
      ]

      below_more : (row : ℕ) → row < length (numbers ++ number ∷ []) → get_or (numbers ++ number ∷ []) row 0 < 65536
      below_more row within = elim (cases_lt row (length numbers)) [
        | inl inside ↦ let n = number_other row inside in let b = inv.below row inside in omega arith
        | inr last ↦ let l = longer in let is : row ≡ length numbers = omega arith in let n = number_last row is in omega arith
      ]

      held_more : (row : ℕ) → row < length (numbers ++ number ∷ []) → is_member words' (get_or (numbers ++ number ∷ []) row 0) ≡ true
      held_more row within = elim (cases_lt row (length numbers)) [
        | inl inside ↦
            ap (λ (n : ℕ). is_member words' n) (number_other row inside)
            ∙ others (get_or numbers row 0) (none_holds row inside)
            ∙ inv.held row inside
        | inr last ↦ let l = longer in let is : row ≡ length numbers = omega arith in ap (λ (n : ℕ). is_member words' n) (number_last row is) ∙ same
      ]

      forth_more : (row : ℕ) → row < length (numbers ++ number ∷ []) → get_or (set rows number (length numbers)) (get_or (numbers ++ number ∷ []) row 0) 0 ≡ row
      forth_more row within = elim (cases_lt row (length numbers)) [
        | inl inside ↦
            ap (λ (n : ℕ). get_or (set rows number (length numbers)) n 0) (number_other row inside)
            ∙ row_other (get_or numbers row 0) (none_holds row inside)
            ∙ inv.forth row inside
        | inr last ↦ let l = longer in let is : row ≡ length numbers = omega arith in row_here (get_or (numbers ++ number ∷ []) row 0) (number_last row is) ∙ sym is
      ]

      pub inverse_insert : AreInverse words' (set rows number (length numbers)) (numbers ++ number ∷ []) room'
      inverse_insert = record {
        many = rows_len;
        reserved = (let r = inv.reserved in omega arith);
        bound = bound_more;
        back = back_more;
        below = below_more;
        held = held_more;
        forth = forth_more;
      }

  -- ---- one unsubscribes

  module _ (number row mover : ℕ) (there : is_member words number ≡ true) (is : row ≡ get_or rows number 0) (mover_is : mover ≡ get_or numbers (length numbers - 1) 0) where
    pub row_within : row < length numbers
    row_within = let b = inv.bound number there in omega arith

    last_within : length numbers - 1 < length numbers
    last_within = let w = row_within in omega arith

    mover_row : get_or rows mover 0 ≡ length numbers - 1
    mover_row = ap (λ (n : ℕ). get_or rows n 0) mover_is ∙ inv.forth (length numbers - 1) last_within

    pub mover_below : mover < 65536
    mover_below = let b = inv.below (length numbers - 1) last_within in omega arith

    -- whoever holds the last row is the mover
    is_mover : (other : ℕ) → is_member words other ≡ true → get_or rows other 0 + 1 ≡ length numbers → other ≡ mover
    is_mover other member last =
        let at : get_or rows other 0 ≡ length numbers - 1 = omega arith in
        sym (inv.back other member) ∙ ap (λ (r : ℕ). get_or numbers r 0) at ∙ sym mover_is

    pub moved_to : (other : ℕ) → other ≢ number → is_member words other ≡ true → IsMoved row (length numbers) (get_or rows other 0) (get_or (set rows mover row) other 0)
    moved_to other ne member = record {
      apart = λ same. ne (same_holder other number member there (same ∙ is));
      bound = inv.bound other member;
      last = λ end. get_or-set_at rows mover other row 0 (is_mover other member end) (let m = inv.many in let b = mover_below in omega arith);
      others = λ inner. get_or-set_other rows mover other row 0 (λ o.
          inner (let r : get_or rows other 0 ≡ length numbers - 1 = ap (λ (n : ℕ). get_or rows n 0) o ∙ mover_row in let w = last_within in omega arith));
    }

    module _ (words' numbers' : List ℕ) (room' : ℕ) (more : room ≤ room') (gone : is_member words' number ≡ false) (others : (other : ℕ) → other ≢ number → is_member words' other ≡ is_member words other)
        (fewer : length numbers' + 1 ≡ length numbers) (at : row + 1 < length numbers → get_or numbers' row 0 ≡ mover)
        (elsewhere : (k : ℕ) → k ≢ row → k + 1 < length numbers → get_or numbers' k 0 ≡ get_or numbers k 0) where
      not_gone : (other : ℕ) → is_member words' other ≡ true → other ≢ number
      not_gone other member same = let f : true ≡ false = sym member ∙ ap (λ (n : ℕ). is_member words' n) same ∙ gone in cc

      was : (other : ℕ) → is_member words' other ≡ true → is_member words other ≡ true
      was other member = sym (others other (not_gone other member)) ∙ member

      moved : (other : ℕ) → is_member words' other ≡ true → IsMoved row (length numbers) (get_or rows other 0) (get_or (set rows mover row) other 0)
      moved other member = moved_to other (not_gone other member) (was other member)

      bound_less : (other : ℕ) → is_member words' other ≡ true → get_or (set rows mover row) other 0 < length numbers'
      bound_less other member =
          let m = moved other member in
          let b : get_or rows other 0 < length numbers = m.bound in
          let w = row_within in
          elim (cases_eq (get_or rows other 0 + 1) (length numbers)) [
            | inl end ↦
                let new : get_or (set rows mover row) other 0 ≡ row = m.last end in
                let apart : get_or rows other 0 ≢ row = m.apart in
                omega arith
            | inr inner ↦ let same : get_or (set rows mover row) other 0 ≡ get_or rows other 0 = m.others inner in omega arith
          ]

      back_less : (other : ℕ) → is_member words' other ≡ true → get_or numbers' (get_or (set rows mover row) other 0) 0 ≡ other
      back_less other member =
          let m = moved other member in
          let b : get_or rows other 0 < length numbers = m.bound in
          let w = row_within in
          let apart : get_or rows other 0 ≢ row = m.apart in
          elim (cases_eq (get_or rows other 0 + 1) (length numbers)) [
            | inl end ↦
                let inside : row + 1 < length numbers = omega arith in
                ap (λ (r : ℕ). get_or numbers' r 0) (m.last end) ∙ at inside ∙ sym (is_mover other (was other member) end)
            | inr inner ↦
                let inside : get_or rows other 0 + 1 < length numbers = omega arith in
                ap (λ (r : ℕ). get_or numbers' r 0) (m.others inner) ∙ elsewhere (get_or rows other 0) apart inside ∙ inv.back other (was other member)
          ]

      number_moved : (k : ℕ) → k < length numbers' → k ≡ row → get_or numbers' k 0 ≡ mover
      number_moved k within same = let inside : row + 1 < length numbers = omega arith in ap (λ (r : ℕ). get_or numbers' r 0) same ∙ at inside

      number_kept : (k : ℕ) → k < length numbers' → k ≢ row → get_or numbers' k 0 ≡ get_or numbers k 0
      number_kept k within ne = elsewhere k ne (omega arith)

      mover_stays : (k : ℕ) → k < length numbers' → k ≡ row → mover ≢ number
      mover_stays k within same e =
          let r : length numbers - 1 ≡ row = sym mover_row ∙ ap (λ (n : ℕ). get_or rows n 0) e ∙ sym is in
          omega arith

      kept_stays : (k : ℕ) → k < length numbers' → k ≢ row → get_or numbers k 0 ≢ number
      kept_stays k within ne e =
          let inside : k < length numbers = omega arith in
          ne (sym (inv.forth k inside) ∙ ap (λ (n : ℕ). get_or rows n 0) e ∙ sym is)

      below_less : (k : ℕ) → k < length numbers' → get_or numbers' k 0 < 65536
      below_less k within = elim (cases_eq k row) [
        | inl same ↦ let n = number_moved k within same in let b = mover_below in omega arith
        | inr ne ↦ let n = number_kept k within ne in let inside : k < length numbers = omega arith in let b = inv.below k inside in omega arith
      ]

      held_less : (k : ℕ) → k < length numbers' → is_member words' (get_or numbers' k 0) ≡ true
      held_less k within = elim (cases_eq k row) [
        | inl same ↦
            ap (λ (n : ℕ). is_member words' n) (number_moved k within same)
            ∙ others mover (mover_stays k within same)
            ∙ ap (λ (n : ℕ). is_member words n) mover_is
            ∙ inv.held (length numbers - 1) last_within
        | inr ne ↦
            ap (λ (n : ℕ). is_member words' n) (number_kept k within ne)
            ∙ others (get_or numbers k 0) (kept_stays k within ne)
            ∙ inv.held k (omega arith)
      ]

      forth_less : (k : ℕ) → k < length numbers' → get_or (set rows mover row) (get_or numbers' k 0) 0 ≡ k
      forth_less k within = elim (cases_eq k row) [
        | inl same ↦ get_or-set_at rows mover (get_or numbers' k 0) row 0 (number_moved k within same) (let m = inv.many in let b = mover_below in omega arith) ∙ sym same
        | inr ne ↦
            let inside : k < length numbers = omega arith in
            ap (λ (n : ℕ). get_or (set rows mover row) n 0) (number_kept k within ne)
            ∙ get_or-set_other rows mover (get_or numbers k 0) row 0 (λ o.
            let r : k ≡ length numbers - 1 = sym (inv.forth k inside) ∙ ap (λ (n : ℕ). get_or rows n 0) o ∙ mover_row in
            omega arith)
            ∙ inv.forth k inside
      ]

      pub inverse_remove : AreInverse words' (set rows mover row) numbers' room'
      inverse_remove = record {
        many = length-set rows mover row ∙ inv.many;
        reserved = (let r = inv.reserved in omega arith);
        bound = bound_less;
        back = back_less;
        below = below_less;
        held = held_less;
        forth = forth_less;
      }
