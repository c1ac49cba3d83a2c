-- How many locals the methods of a verified image have, and how many cells frames need.
use Rattle.std.proofs.Common.{◌≡◌, ◌+◌, ◌<◌, ◌≤◌, inl, inr, ℕ, zero, suc, nat_le, true, List, [], ◌∷◌, length, get_or, Some, refl, sym, ◌∙◌, ap, subst, arith}
use Rattle.std.specs.Prelude.{slice_get}
use Rattle.std.specs.List.{list_all}
use Rattle.std.proofs.lemmas.Bool.{and_parts, cases_eq, leb-true}
use Rattle.std.proofs.lemmas.Option.{same_Some, slice_get_read}
use Rattle.scode_image.specs.declared.image.Image.{Image}
use Rattle.scode_image.specs.declared.image.ImageMethod.{ImageMethod}
use Rattle.scode_code.specs.Faults.{IsVerified}
use Rattle.scode_code.specs.TableRules.{keeps_limits, method_keeps_limits}
use Rattle.scode_whole.proofs.Truths.{no_value, passes}
use Rattle.scode_whole.proofs.Whole.{first_rule}

pub all_keep_limits : (image : Image) → IsVerified image → list_all method_keeps_limits image.methods ≡ true
all_keep_limits image verified =
    let limits : keeps_limits image ≡ true = (and_parts _ (keeps_limits image) (first_rule image verified)).1 in
    let some = (and_parts _ (nat_le (length image.methods) 65535) limits).0 in
    (and_parts _ (list_all method_keeps_limits image.methods) some).1

pub stands_within : (methods : List ImageMethod) (n : ℕ) (m : ImageMethod) → slice_get methods n ≡ Some m
    → n < length methods
stands_within [] n m e = no_value m e
stands_within (x ∷ xs) zero m e = omega arith
stands_within (x ∷ xs) (suc n) m e = (let below = stands_within xs n m e in omega (arith, below))

module _ (methods : List ImageMethod) (i : ℕ) (m : ImageMethod) (within : i < length methods)
    (is : m ≡ get_or methods i m) where
  at_it : slice_get methods i ≡ Some m
  at_it = slice_get_read methods (length methods) i m refl within is

  pub few_locals : list_all method_keeps_limits methods ≡ true → length m.locals ≤ 255
  few_locals all =
      let own : method_keeps_limits m ≡ true = passes method_keeps_limits methods i m all at_it in
      let some = (and_parts _ (nat_le (length m.code) 65535) own).0 in
      leb-true (length m.locals) 255 (and_parts _ (nat_le (length m.locals) 255) some).1

  -- what is enough for those before it and for it
  pub one_more : (most more : ℕ)
      → ((n : ℕ) (x : ImageMethod) → n < i → slice_get methods n ≡ Some x → length x.locals + x.stack ≤ most)
      → most ≤ more → length m.locals + m.stack ≤ more
      → (n : ℕ) (x : ImageMethod) → n < i + 1 → slice_get methods n ≡ Some x → length x.locals + x.stack ≤ more
  one_more most more before on it n x lt at = elim (cases_eq n i) [
    | inl e ↦
        let same : x ≡ m = same_Some x m (sym at ∙ ap (slice_get methods) e ∙ at_it) in
        subst (λ (y : ImageMethod). length y.locals + y.stack ≤ more) (sym same) it
    | inr ne ↦ (let less : n < i = omega (arith, ne) in let old = before n x less at in omega (arith, old, on))
  ]
