-- The first broken rule of an image is the first one of those that are broken.
use Rattle.std.proofs.Common.{◌≡◌, ◌⊎◌, inl, inr, ℕ, suc, ◌+◌, ◌-◌, ◌<◌, ◌≤◌, Bool, true, false, List, [], ◌∷◌, refl, sym, ◌∙◌, ap, subst, arith}
use Rattle.std.specs.Prelude.{◌↔◌, cond, slice_get, Option, Some, None}
use Rattle.scode_image.specs.declared.image.Image.{Image}
use Rattle.scode_image.specs.declared.image.ImageMethod.{ImageMethod}
use Rattle.scode_code.specs.CodeRules.{Fault, code_fault, is_abstract}
use Rattle.scode_code.specs.TableRules.{tables_agree}
use Rattle.scode_code.specs.Faults.{Broken, broken_in, first_broken, methods_broken, or_later}
use Rattle.scode_code.specs.Breaks.{Breaks, BreaksNone, CodeBreaks, IsFirstBroken, IsNotBefore, tables, code}
use Rattle.scode_code.proofs.Places.{less_or_same, none_some, some_eq}
use Rattle.scode_code.proofs.Agreeing.{ascends}
use Rattle.scode_code.proofs.Walks.{FirstFrom, IsBehind, code_first}

-- of the methods from one on, the first rule that is broken, if one is
record FirstBehind (image : Image) (number : ℕ) (b : Broken) : Type 0 where
  broken : Breaks image b.method b.at b.rule
  first : (method place rule : ℕ) → number ≤ method → Breaks image method place rule
      → IsNotBefore (method, place, rule) b

abbrev FirstMethods : Image → ℕ → Option Broken → Type 0
FirstMethods image number None =
    (method place rule : ℕ) → number ≤ method → Breaks image method place rule → ⊥
FirstMethods image number (Some b) = FirstBehind image number b

-- a rule that is broken in the code of a method
record BreaksIn (image : Image) (method place rule : ℕ) : Type 0 where
  m : ImageMethod
  there : slice_get image.methods method ≡ Some m
  concrete : is_abstract m ≡ false
  broken : CodeBreaks image m place rule

breaks_in : (image : Image) (method place rule : ℕ) → tables_agree image ≡ true → Breaks image method place rule
    → BreaksIn image method place rule
breaks_in image method place rule agree (tables other) = absurd cc
breaks_in image method place rule agree (code n p r m agreed there concrete broken) =
    record { m = m; there = there; concrete = concrete; broken = broken }

not_before : (number place rule : ℕ) (f : Fault) → IsBehind f place rule
    → IsNotBefore (number, place, rule) (broken_in number f)
not_before number place rule f behind = inr (refl, behind)

-- one method, and those behind it
method_first : (image : Image) (number : ℕ) (x : ImageMethod) (o : Option Fault) (later : Option Broken)
    → tables_agree image ≡ true → slice_get image.methods number ≡ Some x
    → (is_abstract x ≡ false → FirstFrom image x 0 o) → (is_abstract x ≡ true → o ≡ None)
    → FirstMethods image (suc number) later → FirstMethods image number (or_later number o later)
method_first image number x None later agree there found none behind = from_here later behind
  where
    not_here : (place rule : ℕ) → BreaksIn image number place rule → ⊥
    not_here place rule b =
        let same : b.m ≡ x = some_eq b.m x (sym b.there ∙ there) in
        found (ap is_abstract (sym same) ∙ b.concrete) place rule (omega arith)
        (subst (λ (m : ImageMethod). CodeBreaks image m place rule) same b.broken)

    above : (method place rule : ℕ) → Breaks image method place rule → (number < method) ⊎ (number ≡ method)
        → suc number ≤ method
    above method place rule broken (inl less) = less
    above method place rule broken (inr same) =
        absurd (not_here place rule (breaks_in image number place rule agree
        (subst (λ (n : ℕ). Breaks image n place rule) (sym same) broken)))

    from_here : (o : Option Broken) → FirstMethods image (suc number) o → FirstMethods image number o
    from_here None none = λ method place rule high broken.
        none method place rule (above method place rule broken (less_or_same number method high)) broken
    from_here (Some b) first = record {
      broken = first.broken;
      first = λ method place rule high broken.
          first.first method place rule (above method place rule broken (less_or_same number method high)) broken;
    }
method_first image number x (Some f) later agree there found none behind = record {
  broken = code number f.0 f.1 x agree there concrete (found concrete).broken;
  first = λ method place rule high broken. by_order method place rule broken (less_or_same number method high);
}
  where
    by_test : (b : Bool) → is_abstract x ≡ b → is_abstract x ≡ false
    by_test true is = absurd (none_some f (sym (none is)))
    by_test false is = is

    concrete : is_abstract x ≡ false
    concrete = by_test (is_abstract x) refl

    here : (place rule : ℕ) → BreaksIn image number place rule → IsNotBefore (number, place, rule) (broken_in number f)
    here place rule b =
        let same : b.m ≡ x = some_eq b.m x (sym b.there ∙ there) in
        not_before number place rule f ((found concrete).first place rule (omega arith)
        (subst (λ (m : ImageMethod). CodeBreaks image m place rule) same b.broken))

    by_order : (method place rule : ℕ) → Breaks image method place rule → (number < method) ⊎ (number ≡ method)
        → IsNotBefore (method, place, rule) (broken_in number f)
    by_order method place rule broken (inl less) = inl less
    by_order method place rule broken (inr same) =
        subst (λ (n : ℕ). IsNotBefore (n, place, rule) (broken_in number f)) same
        (here place rule (breaks_in image number place rule agree
        (subst (λ (n : ℕ). Breaks image n place rule) (sym same) broken)))

no_fault : (image : Image) (x : ImageMethod) → is_abstract x ≡ true → code_fault image x ≡ None
no_fault image x is = rw is refl

methods_first : (image : Image) (number : ℕ) (ms : List ImageMethod) → tables_agree image ≡ true
    → ((k : ℕ) → slice_get ms k ≡ slice_get image.methods (number + k))
    → FirstMethods image number (methods_broken image number ms)
methods_first image number [] agree are =
    λ method place rule high broken. beyond method place rule high (breaks_in image method place rule agree broken)
  where
    beyond : (method place rule : ℕ) → number ≤ method → BreaksIn image method place rule → ⊥
    beyond method place rule high b = none_some b.m
        (are (method - number)
        ∙ ap (λ (n : ℕ). slice_get image.methods n)
        (let there : number + (method - number) ≡ method = omega (arith, high) in there)
        ∙ b.there)
methods_first image number (x ∷ xs) agree are =
    method_first image number x (code_fault image x) (methods_broken image (suc number) xs) agree there
    (λ concrete. code_first image x (ascends image number x agree there) concrete) (no_fault image x)
    (methods_first image (suc number) xs agree (λ k.
    are (suc k)
    ∙ ap (λ (n : ℕ). slice_get image.methods n) (let one : number + suc k ≡ suc number + k = omega arith in one)))
  where
    there : slice_get image.methods number ≡ Some x
    there =
        sym (are 0 ∙ ap (λ (n : ℕ). slice_get image.methods n) (let none : number + 0 ≡ number = omega arith in none))

-- ---- the image

abbrev IsFirst : Image → Option Broken → Type 0
IsFirst image None = BreaksNone image
IsFirst image (Some b) = IsFirstBroken image b

image_first : (image : Image) → IsFirst image (first_broken image)
image_first image = by_tables (tables_agree image) refl
  where
    only : tables_agree image ≡ false → (method place rule : ℕ) → Breaks image method place rule
        → IsNotBefore (method, place, rule) (record { method = 65535; at = 0; rule = 1 })
    only other method place rule (tables none) = inr (refl, inr (refl, omega arith))
    only other method place rule (code n p r m agree there concrete broken) = absurd cc

    whole : (o : Option Broken) → FirstMethods image 0 o → IsFirst image o
    whole None none = λ method place rule broken. none method place rule (omega arith) broken
    whole (Some b) first = record {
      broken = first.broken;
      first = λ method place rule broken. first.first method place rule (omega arith) broken;
    }

    by_tables : (t : Bool) → tables_agree image ≡ t
        → IsFirst image (cond t (methods_broken image 0 image.methods)
        (Some (record { method = 65535; at = 0; rule = 1 })))
    by_tables true agree =
        whole (methods_broken image 0 image.methods) (methods_first image 0 image.methods agree
        (λ k. ap (λ (n : ℕ). slice_get image.methods n) (let same : k ≡ 0 + k = omega arith in same)))
    by_tables false other = record { broken = tables other; first = only other }

-- ---- both ways

pub breaks_none : (image : Image) → (first_broken image ≡ None) ↔ BreaksNone image
breaks_none image = (λ none. subst (λ (o : Option Broken). IsFirst image o) none (image_first image), back)
  where
    by_first : (o : Option Broken) → IsFirst image o → BreaksNone image → o ≡ None
    by_first None first none = refl
    by_first (Some b) first none = absurd (none b.method b.at b.rule first.broken)

    back : BreaksNone image → first_broken image ≡ None
    back none = by_first (first_broken image) (image_first image) none

same_broken : (b c : Broken) → b.method ≡ c.method → b.at ≡ c.at → b.rule ≡ c.rule → b ≡ c
same_broken b c method at rule =
    ap (λ (n : ℕ). let x : Broken = record { method = n; at = b.at; rule = b.rule } in x) method
    ∙ ap (λ (n : ℕ). let x : Broken = record { method = c.method; at = n; rule = b.rule } in x) at
    ∙ ap (λ (n : ℕ). let x : Broken = record { method = c.method; at = c.at; rule = n } in x) rule

-- two that are not before one another are one
same_order : (b c : Broken) → IsNotBefore (c.method, c.at, c.rule) b → IsNotBefore (b.method, b.at, b.rule) c → b ≡ c
same_order b c (inl less) (inl more) = absurd (omega (arith, less, more))
same_order b c (inl less) (inr (same, more)) = absurd (omega (arith, less, same))
same_order b c (inr (same, less)) (inl more) = absurd (omega (arith, same, more))
same_order b c (inr (same, inl less)) (inr (other, inl more)) = absurd (omega (arith, less, more))
same_order b c (inr (same, inl less)) (inr (other, inr (at, more))) = absurd (omega (arith, less, at))
same_order b c (inr (same, inr (at, less))) (inr (other, inl more)) = absurd (omega (arith, at, more))
same_order b c (inr (same, inr (at, less))) (inr (other, inr (back, more))) =
    same_broken b c same at (omega (arith, less, more))

pub broken_first : (image : Image) (b : Broken) → (first_broken image ≡ Some b) ↔ IsFirstBroken image b
broken_first image b = (λ is. subst (λ (o : Option Broken). IsFirst image o) is (image_first image), back)
  where
    by_first : (o : Option Broken) → IsFirst image o → IsFirstBroken image b → o ≡ Some b
    by_first None none mine = absurd (none b.method b.at b.rule mine.broken)
    by_first (Some c) first mine =
        ap (λ (x : Broken). Some x)
        (same_order c b (first.first b.method b.at b.rule mine.broken) (mine.first c.method c.at c.rule first.broken))

    back : IsFirstBroken image b → first_broken image ≡ Some b
    back mine = by_first (first_broken image) (image_first image) mine
