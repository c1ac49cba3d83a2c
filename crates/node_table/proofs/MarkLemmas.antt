-- The ids that are taken, as keys of an index come and go.
use Rattle.std.proofs.Common.{ℕ, ◌≡◌, ◌≢◌, ◌<◌, ◌≤◌, suc, inl, inr, true, false, List, [], ◌∷◌, length, refl, sym, ◌∙◌, ap, subst, arith}
use Rattle.std.proofs.Math.ListN.{set, get_or}
use Rattle.std.specs.Prelude.{Option, Some, None, is_some, IsSome, count_by}
use Rattle.std.specs.FinMap as finite
use Rattle.std.proofs.lemmas.Bool.{cases_eq, cases_lt}
use Rattle.std.proofs.lemmas.Grind.{common_steps}
use Rattle.std.proofs.lemmas.List.{get_or-set_same, get_or-set_other}
use Rattle.slab.specs.Slab.{Slab}
use Rattle.node_table.specs.Indexed.{IsIndexed, by_number, kept, kept_at}
use Rattle.node_table.specs.Taken.{IsMarked, is_taken}
use Rattle.node_table.proofs.IndexLemmas.{in_range, kept_there, len_is, node_at}

none_of : {A : Type 0} (r : Option A) → is_some r ≡ false → r ≡ None
none_of None e = refl
none_of (Some x) e = absurd (let never = e in cc)

-- where fewer have a key than there are, one has none
without_key : (xs : List (Option ℕ)) → count_by is_some xs < length xs → (id : ℕ) × (id < length xs) × (get_or xs id None ≡ None)
without_key [] lt = absurd (omega arith)
without_key (None ∷ xs) lt = (0, omega arith, refl)
without_key (Some x ∷ xs) lt =
    let rest = without_key xs (grind (arith, common_steps)) in
    (suc rest.0, (let at = rest.1 in omega arith), rest.2)

module _ {T : Type 0} (most : ℕ) (index : List (Option ℕ)) (slab : Slab T) (words : List ℕ) (was : IsMarked most index slab words) where
  pub free_none : (id : ℕ) → is_taken words id ≡ false → get_or index id None ≡ None
  free_none id free = none_of (get_or index id None) (sym (was.marked id) ∙ free)

  pub taken_some : (id : ℕ) → is_taken words id ≡ true → IsSome (get_or index id None)
  taken_some id taken = sym (was.marked id) ∙ taken

  pub some_unmarked : finite.len (by_number (kept index slab)) < most → (id : ℕ) × (id < most) × (is_taken words id ≡ false)
  some_unmarked few =
      let count = was.indexed.count in
      let size = was.indexed.size in
      let len = len_is most index slab was.indexed in
      let r = without_key index (omega arith) in
      (r.0, subst (λ (n : ℕ). r.0 < n) size r.1, was.marked r.0 ∙ ap is_some r.2)

  pub marked_put : (after : List ℕ) (id key : ℕ) → id < most → is_taken after id ≡ true → ((other : ℕ) → other ≢ id → is_taken after other ≡ is_taken words other)
      → (q : ℕ) → is_taken after q ≡ is_some (get_or (set index id (Some key)) q None)
  marked_put after id key lt same others q =
      let size = was.indexed.size in
      let within : id < length index = omega arith in
      elim (cases_eq q id) [
        | inl e ↦ ap (is_taken after) e ∙ same ∙ sym (ap (λ (k : ℕ). is_some (get_or (set index id (Some key)) k None)) e ∙ ap is_some (get_or-set_same index id (Some key) None within))
        | inr ne ↦ others q ne ∙ was.marked q ∙ ap is_some (sym (get_or-set_other index id q (Some key) None ne))
      ]

  pub marked_out : (after : List ℕ) (id key : ℕ) → get_or index id None ≡ Some key → is_taken after id ≡ false → ((other : ℕ) → other ≢ id → is_taken after other ≡ is_taken words other)
      → (q : ℕ) → is_taken after q ≡ is_some (get_or (set index id None) q None)
  marked_out after id key at same others q =
      let within = in_range index id key at in
      elim (cases_eq q id) [
        | inl e ↦ ap (is_taken after) e ∙ same ∙ sym (ap (λ (k : ℕ). is_some (get_or (set index id None) k None)) e ∙ ap is_some (get_or-set_same index id None None within))
        | inr ne ↦ others q ne ∙ was.marked q ∙ ap is_some (sym (get_or-set_other index id q None None ne))
      ]

module _ {T : Type 0} (most : ℕ) (index : List (Option ℕ)) (slab : Slab T) (was : IsIndexed most index slab) (last : ℕ) where
  pub last_live : (0 < last → IsSome (get_or index last None)) → IsSome (finite.get (by_number (kept index slab)) 0) → IsSome (finite.get (by_number (kept index slab)) last)
  last_live there first = elim (cases_eq last 0) [
    | inl e ↦ subst (λ (k : ℕ). IsSome (finite.get (by_number (kept index slab)) k)) (sym e) first
    | inr ne ↦ kept_there most index slab was last (there (omega arith))
  ]

  pub last_greatest : ((q : ℕ) → last < q → get_or index q None ≡ None) → (other : ℕ) → IsSome (finite.get (by_number (kept index slab)) other) → other ≤ last
  last_greatest above other live = elim (cases_lt last other) [
    | inl lt ↦ absurd (let none = ap is_some (node_at index slab other ∙ ap (kept_at slab) (above other lt)) in let no : false ≡ true = sym none ∙ live in cc)
    | inr le ↦ le
  ]
