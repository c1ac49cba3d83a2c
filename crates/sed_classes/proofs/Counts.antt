-- How many bases classes have.
use Rattle.std.proofs.Common.{◌≡◌, ◌<◌, ◌≤◌, ◌≢◌, ℕ, zero, suc, ◌-◌, ◌==◌, ◌||◌, true, false, List, ◌∷◌, length, drop, map, Option, Some, None, slice_set, inl, inr, sym, subst, ap, ◌∙◌, arith, eq-eqb, ne_eqb}
use Rattle.std.specs.List.{range_with_len}
use Rattle.std.specs.Option.{IfSome}
use Rattle.std.proofs.lemmas.Bool.{cases_eq, false≢true}
use Rattle.std.proofs.lemmas.List.{get_or-set_same, get_or-set_other}
use Rattle.std.proofs.lemmas.List.FromFn.{length-map-range_with_len}
use Rattle.std.proofs.lemmas.Option.{unwrap_or-slice_get}
use Rattle.sed_classes.specs.declared.kit_units.KitUnits.{KitUnits}
use Rattle.sed_classes.specs.Declarations.{all_classes}
use Rattle.sed_classes.specs.Bases.{base_of, bases, comes_to, is_below, leads_back, lineage}
use Rattle.sed_classes.specs.Ends.{AreCounts, ends_after, gone_through, item_at}
use Rattle.sed_classes.proofs.Below.{reached_or_first}
use Rattle.sed_classes.proofs.Ends.{ends_along, gone_to_end, never_back, one_more, through_count}
use Rattle.sed_classes.proofs.Places.{base_found}

-- ---- a row of numbers

none_is_known : (o : Option ℕ) (n : ℕ) → o ≡ None → o ≡ Some n → ⊥
none_is_known o n none is = let no : ◌≡◌ {A = Option ℕ} None (Some n) = sym none ∙ is in cc

-- where nothing is known
pub counts_none : (next : ℕ → Option ℕ) (most : ℕ) (counts : List (Option ℕ)) →
    ((place : ℕ) → item_at counts place ≡ None) → AreCounts next most counts
counts_none next most counts none = record {
  within = λ class n is. absurd (none_is_known (item_at counts class) n (none class) is);
  ends = λ class n is. absurd (none_is_known (item_at counts class) n (none class) is);
}

put_here : (row : List (Option ℕ)) (at : ℕ) (item : Option ℕ) → at < length row →
    item_at (slice_set row at item) at ≡ item
put_here row at item lt = unwrap_or-slice_get (slice_set row at item) at None ∙ get_or-set_same row at item None lt

put_elsewhere : (row : List (Option ℕ)) (at : ℕ) (item : Option ℕ) (place : ℕ) → place ≢ at →
    item_at (slice_set row at item) place ≡ item_at row place
put_elsewhere row at item place ne =
    unwrap_or-slice_get (slice_set row at item) place None
    ∙ get_or-set_other row at place item None ne
    ∙ sym (unwrap_or-slice_get row place None)

-- one more is known, or no longer
pub counts_more : (next : ℕ → Option ℕ) (most : ℕ) (counts : List (Option ℕ)) (class : ℕ) (found : Option ℕ) →
    class < length counts → IfSome found (λ n. n < most) →
    IfSome found (λ n. ends_after next n (next class) ≡ true) → AreCounts next most counts →
    AreCounts next most (slice_set counts class found)
counts_more next most counts class found lt within ends are =
    let here : (c n : ℕ) → c ≡ class → item_at (slice_set counts class found) c ≡ Some n → found ≡ Some n =
    λ c n same is. sym (put_here counts class found lt) ∙ ap (item_at (slice_set counts class found)) (sym same) ∙ is in
    record {
      within = λ c n is. elim (cases_eq c class) [
        | inl same ↦ subst (λ (o : Option ℕ). IfSome o (λ m. m < most)) (here c n same is) within
        | inr ne ↦ are.within c n (sym (put_elsewhere counts class found c ne) ∙ is)
      ];
      ends = λ c n is. elim (cases_eq c class) [
        | inl same ↦
            ap (λ (q : ℕ). ends_after next n (next q)) same
            ∙ subst (λ (o : Option ℕ). IfSome o (λ m. ends_after next m (next class) ≡ true)) (here c n same is) ends
        | inr ne ↦ are.ends c n (sym (put_elsewhere counts class found c ne) ∙ is)
      ];
    }

-- one more than of the base
pub count_more : (next : ℕ → Option ℕ) (most : ℕ) (counts : List (Option ℕ)) (base : ℕ) (at of_base found : Option ℕ) →
    at ≡ Some base → of_base ≡ item_at counts base → IfSome found (λ n. (0 < n) × (of_base ≡ Some (n - 1))) →
    AreCounts next most counts → IfSome found (λ n. ends_after next n at ≡ true)
count_more next most counts base at of_base None is of more are = tt
count_more next most counts base at of_base (Some n) is of more are =
    ap (ends_after next n) is ∙ one_more next n base more.0 (are.ends base (n - 1) (sym of ∙ more.1))

-- the numbers by a row of the bases are those of the classes
pub counts_of_classes : (units : List KitUnits) (row counts : List (Option ℕ)) →
    row ≡ map (base_of units) (range_with_len 0 (length (all_classes units))) →
    AreCounts (item_at row) (length row) counts → AreCounts (base_of units) (length (all_classes units)) counts
counts_of_classes units row counts is are =
    let same : (c : ℕ) → item_at row c ≡ base_of units c =
    λ c. ap (λ all. item_at all c) is ∙ base_found units c in
    let len : length row ≡ length (all_classes units) =
    ap length is ∙ length-map-range_with_len (base_of units) 0 (length (all_classes units)) in
    record {
      within = λ c n at. omega (arith, are.within c n at, len);
      ends = λ c n at.
          ap (ends_after (base_of units) n) (sym (same c))
          ∙ sym (ends_along (item_at row) (base_of units) same n (item_at row c))
          ∙ are.ends c n at;
    }

-- ---- a class whose bases end

module _ (units : List KitUnits) where
  -- its lineage is the class, and as many bases as lead to the end
  pub lineage_to_end : (n class : ℕ) → n ≤ length (all_classes units) →
      ends_after (base_of units) n (base_of units class) ≡ true →
      lineage units class ≡ class ∷ gone_through (base_of units) n (base_of units class)
  lineage_to_end n class le ends = gone_to_end (base_of units) n (length (all_classes units)) class le ends

  -- it has so many bases
  pub bases_to_end : (n class : ℕ) → n ≤ length (all_classes units) →
      ends_after (base_of units) n (base_of units class) ≡ true → length (bases units class) ≡ n
  bases_to_end n class le ends =
      ap (λ (row : List ℕ). length (drop 1 row)) (lineage_to_end n class le ends)
      ∙ through_count (base_of units) n (base_of units class) ends

  -- they do not lead back to it
  pub leads_to_end : (n class : ℕ) → ends_after (base_of units) n (base_of units class) ≡ true →
      leads_back units class ≡ false
  leads_to_end n class ends = never_back (base_of units) n (length (all_classes units)) class ends

  -- its base is nearer to the end by one
  pub base_is_nearer : (n class base : ℕ) → base_of units class ≡ Some base →
      ends_after (base_of units) n (base_of units class) ≡ true →
      (0 < n) × (ends_after (base_of units) (n - 1) (base_of units base) ≡ true)
  base_is_nearer zero class base is ends =
      absurd (false≢true (ap (ends_after (base_of units) zero) (sym is) ∙ ends))
  base_is_nearer (suc n) class base is ends =
      let e : suc n - 1 ≡ n = omega arith in (
        omega arith,
        ap (λ m. ends_after (base_of units) m (base_of units base)) e
            ∙ ap (ends_after (base_of units) (suc n)) (sym is) ∙ ends,
      )

  -- its lineage is the class and the lineage of its base
  pub lineage_of_base : (n class base : ℕ) → n < length (all_classes units) → base_of units class ≡ Some base →
      ends_after (base_of units) n (base_of units base) ≡ true → lineage units class ≡ class ∷ lineage units base
  lineage_of_base n class base lt is ends =
      lineage_to_end (suc n) class (omega (arith, lt)) (ap (ends_after (base_of units) (suc n)) is ∙ ends)
      ∙ ap (λ (o : Option ℕ). class ∷ gone_through (base_of units) (suc n) o) is
      ∙ ap (λ (row : List ℕ). class ∷ row) (sym (lineage_to_end n base (omega (arith, lt)) ends))

  -- a number that is known is that of its bases
  pub count_is_known : (counts : List (Option ℕ)) (class : ℕ) (found : Option ℕ) → found ≡ item_at counts class →
      AreCounts (base_of units) (length (all_classes units)) counts → IfSome found (λ n. n ≡ length (bases units class))
  count_is_known counts class None at are = tt
  count_is_known counts class (Some n) at are =
      sym (bases_to_end n class (omega (arith, are.within class n (sym at))) (are.ends class n (sym at)))

  -- ---- any class

  -- a class is below another if it is that, or comes to it
  pub below_is_reached : (above class : ℕ) →
      is_below units above class
      ≡ ((class == above) || comes_to (base_of units) above (length (all_classes units)) (base_of units class))
  below_is_reached above class = reached_or_first (base_of units) above (length (all_classes units)) class

  -- a class is below itself
  pub is_below_itself : (above class : ℕ) → class ≡ above → (class == above) ≡ is_below units above class
  is_below_itself above class same =
      let there : (class == above) ≡ true = eq-eqb class above same in
      let n = length (all_classes units) in
      there
      ∙ sym (
      below_is_reached above class ∙ ap (λ b. b || comes_to (base_of units) above n (base_of units class)) there)

  -- and below another exactly if it comes to it
  pub is_below_from : (above class : ℕ) → class ≢ above →
      comes_to (base_of units) above (length (all_classes units)) (base_of units class) ≡ is_below units above class
  is_below_from above class ne =
      let apart : (class == above) ≡ false = ne_eqb class above ne in
      let n = length (all_classes units) in
      sym (below_is_reached above class ∙ ap (λ b. b || comes_to (base_of units) above n (base_of units class)) apart)
