-- Marks of session places, set one place after another.
use Rattle.std.proofs.Common.{ℕ, ◌≡◌, ◌+◌, ◌<◌, ◌≤◌, inl, inr, Bool, true, false, List, length, map, sym, ◌∙◌, ap, arith}
use Rattle.std.proofs.Math.ListN.{get_or, set, get_or-eq_default, get_or-map}
use Rattle.std.proofs.lemmas.Bool.{cases_eq, cases_lt}
use Rattle.std.proofs.lemmas.Bool.Decides.{nat_tests}
use Rattle.std.proofs.lemmas.List.{get_or-set_same, get_or-set_other, get_or_default}
use Rattle.std.proofs.lemmas.List.{ext_get_or, length-map, length-set}
use Rattle.std.specs.Prelude.{nat_lt, if◌then◌else◌}
use Rattle.node_table.specs.declared.marks.Parts.{Parts}
use Rattle.node_table.specs.Marks.{all_parts, parts_at, with_parts}

-- the places before this one have their marks
pub record TouchedTo (parts : Parts) (initial now : List Parts) (place : ℕ) : Type 0 where
  pub many : length now ≡ 16
  pub so_far : (q : ℕ) → parts_at now q ≡ (if nat_lt q place then with_parts parts (parts_at initial q) else parts_at initial q)

module _ (parts : Parts) (initial : List Parts) where
  pub touched_none : length initial ≡ 16 → TouchedTo parts initial initial 0
  touched_none many = record {
    many = many;
    so_far = λ q. let no : nat_lt q 0 ≡ false = grind (arith, nat_tests) in ap (λ (b : Bool). if b then with_parts parts (parts_at initial q) else parts_at initial q) (sym no);
  }

  module _ (now : List Parts) (place : ℕ) (lt : place < 16) (was : TouchedTo parts initial now place) (v d : Parts) (is : v ≡ with_parts parts (get_or now place d)) where
    at_place : v ≡ with_parts parts (parts_at initial place)
    at_place =
        let no : nat_lt place place ≡ false = grind (arith, nat_tests) in
        let there : place < length now = omega (arith, was.many) in
        is ∙ ap (with_parts parts) (get_or_default now place d all_parts there ∙ was.so_far place ∙ ap (λ (b : Bool). if b then with_parts parts (parts_at initial place) else parts_at initial place) no)

    next_at : (q : ℕ) → parts_at (set now place v) q ≡ (if nat_lt q (place + 1) then with_parts parts (parts_at initial q) else parts_at initial q)
    next_at q = elim (cases_eq q place) [
      | inl e ↦
          let yes : nat_lt q (place + 1) ≡ true = grind (arith, nat_tests) in
          ap (parts_at (set now place v)) e ∙ get_or-set_same now place v all_parts (omega (arith, was.many)) ∙ at_place
          ∙ ap (λ (k : ℕ). with_parts parts (parts_at initial k)) (sym e)
          ∙ ap (λ (b : Bool). if b then with_parts parts (parts_at initial q) else parts_at initial q) (sym yes)
      | inr ne ↦
          get_or-set_other now place q v all_parts ne ∙ was.so_far q ∙ ap (λ (b : Bool). if b then with_parts parts (parts_at initial q) else parts_at initial q) (same_test q ne)
    ]
      where
        same_test : (q : ℕ) → (q ≡ place → ⊥) → nat_lt q place ≡ nat_lt q (place + 1)
        same_test q ne = elim (cases_lt q place) [
          | inl less ↦ let yes : nat_lt q place ≡ true = grind (arith, nat_tests) in let also : nat_lt q (place + 1) ≡ true = grind (arith, nat_tests) in yes ∙ sym also
          | inr le ↦ let no : nat_lt q place ≡ false = grind (arith, nat_tests) in let nor : nat_lt q (place + 1) ≡ false = grind (arith, nat_tests) in no ∙ sym nor
        ]

    pub touched_next : TouchedTo parts initial (set now place v) (place + 1)
    touched_next = record { many = length-set now place v ∙ was.many; so_far = next_at }

  pub touched_all : (now : List Parts) (place : ℕ) → 16 ≤ place → TouchedTo parts initial now place → (q : ℕ) → parts_at now q ≡ with_parts parts (parts_at initial q)
  touched_all now place end was q = elim (cases_lt q place) [
    | inl less ↦
        let yes : nat_lt q place ≡ true = grind (arith, nat_tests) in
        was.so_far q ∙ ap (λ (b : Bool). if b then with_parts parts (parts_at initial q) else parts_at initial q) yes
    | inr le ↦
        let no : nat_lt q place ≡ false = grind (arith, nat_tests) in
        let past : parts_at now q ≡ all_parts = get_or-eq_default now all_parts (omega (arith, was.many)) in
        let first : parts_at initial q ≡ all_parts = sym (was.so_far q ∙ ap (λ (b : Bool). if b then with_parts parts (parts_at initial q) else parts_at initial q) no) ∙ past in
        past ∙ ap (with_parts parts) (sym first)
  ]

  pub touched_is : (now : List Parts) (place : ℕ) → length initial ≡ 16 → 16 ≤ place → TouchedTo parts initial now place → now ≡ map (with_parts parts) initial
  touched_is now place many end was =
      ext_get_or all_parts now (map (with_parts parts) initial) (was.many ∙ sym (length-map initial (with_parts parts) ∙ many))
      (λ q lt. touched_all now place end was q ∙ sym (get_or-map (with_parts parts) initial q all_parts))
