-- What an instruction leaves of the kinds that stood before.
use Rattle.std.proofs.Common.{◌≡◌, ℕ, zero, suc, ◌+◌, ◌-◌, ◌<◌, ◌≤◌, ◌==◌, Bool, true, false, if◌then◌else◌, List, [], ◌∷◌, ◌++◌, drop, length, reverse, slice_get, take, get_or, Option, Some, None, refl, ap, sym, subst, ◌∙◌, arith, length-drop}
use Rattle.std.specs.Option.{option_map_or}
use Rattle.std.proofs.Math.Dec.{eqb-suc-suc}
use Rattle.std.proofs.lemmas.Bool.{eqb-false, or_parts}
use Rattle.std.proofs.lemmas.List.{get_or-take, length-reverse, reverse-reverse}
use Rattle.std.proofs.lemmas.Option.{get_or_from_slice_get, slice_get-get_or, slice_get_within}
use Rattle.scode_image.specs.declared.image.Image.{Image}
use Rattle.scode_image.specs.declared.image.ImageKind.{ImageKind}
use Rattle.scode_image.specs.declared.image.ImageMethod.{ImageMethod}
use Rattle.scode_ops.specs.declared.op.Op.{Op}
use Rattle.scode_ops.specs.declared.op.Op.TheVariants as op
use Rattle.scode_code.specs.CodeRules.{after_stack, locals_after, with_kind}
use Rattle.scode_code.specs.Kinds.{Shape}
use Rattle.scode_code.specs.Wants.{cells_of, needs_of, result_cells}
use Rattle.scode_code.specs.declared.needs.Effect.{Effect}
use Rattle.scode_code.specs.declared.needs.Puts.{Puts}
use Rattle.scode_code.specs.declared.needs.Puts.TheVariants as puts
use Rattle.scode_code.specs.declared.needs.Takes.{Takes}
use Rattle.scode_rules.specs.Words.{IsKeptBut, is_ordinary, shape, stored}
use Rattle.scode_rules.proofs.Stacks.{taken_off, twice_takes_one}

-- ---- locals

kept_local : (ls : List ImageKind) (i p : ℕ) (k x : ImageKind) → (i == p) ≡ false
    → slice_get (with_kind ls i k) p ≡ Some x → slice_get ls p ≡ Some x
kept_local [] i p k x other is = is
kept_local (l ∷ ls) zero zero k x other is = cc
kept_local (l ∷ ls) zero (suc p) k x other is = is
kept_local (l ∷ ls) (suc i) zero k x other is = is
kept_local (l ∷ ls) (suc i) (suc p) k x other is = kept_local ls i p k x (sym (eqb-suc-suc i p) ∙ other) is

kept_stored : (ls : List ImageKind) (i p : ℕ) (x : ImageKind) (o : Option ImageKind) → (i == p) ≡ false
    → slice_get (option_map_or (λ k. with_kind ls i k) o ls) p ≡ Some x → slice_get ls p ≡ Some x
kept_stored ls i p x None other is = is
kept_stored ls i p x (Some k) other is = kept_local ls i p k x other is

locals_kept : (s : Shape) (i : Op) → IsKeptBut (stored i) s.locals (locals_after s i)
locals_kept s (op.Store i) p k other is =
    kept_stored s.locals i p k (slice_get s.stack 0) (or_parts (i == p) false other).0 is
locals_kept s _ p k other is = is

pub left_locals : (before after stack : List ImageKind) (i : Op) → after ≡ locals_after (shape before stack) i
    → IsKeptBut (stored i) before after
left_locals before after stack i is =
    subst (λ (ls : List ImageKind). IsKeptBut (stored i) before ls) (sym is) (locals_kept (shape before stack) i)

-- ---- the stack, with the top first

-- behind the top stands the rest of what stood before
record Rest (before after : List ImageKind) : Type 0 where
  pub taken : ℕ
  pub is : drop 1 after ≡ drop taken before

behind_next : (n : ℕ) (s : List ImageKind) → drop 1 (drop n s) ≡ drop (suc n) s
behind_next zero s = refl
behind_next (suc n) [] = refl
behind_next (suc n) (k ∷ ks) = behind_next n ks

of_cells : (n : ℕ) (s cells : List ImageKind) → length cells ≤ 1 → Rest s (cells ++ drop n s)
of_cells n s [] few = record { taken = suc n; is = behind_next n s }
of_cells n s (k ∷ []) few = record { taken = n; is = refl }
of_cells n s (k ∷ l ∷ ks) few = absurd (omega arith)

few_of_kind : (b : Bool) (k : ImageKind) → length (if b then [] else k ∷ []) ≤ 1
few_of_kind true k = omega arith
few_of_kind false k = omega arith

few_answers : (o : Option ImageMethod) → length (option_map_or (λ m. result_cells m.result) o []) ≤ 1
few_answers None = omega arith
few_answers (Some m) = few_of_kind (m.result.kind == 0) m.result

twice_one : (s : List ImageKind) → Rest s ((take 1 s ++ take 1 s) ++ drop 1 s)
twice_one [] = record { taken = 0; is = refl }
twice_one (k ∷ ks) = record { taken = 0; is = refl }

rest_of : (image : Image) (t : Takes) (p : Puts) (s : List ImageKind)
    → is_ordinary (record { takes = t; puts = p }) ≡ true
    → Rest s (cells_of image p (take (length (needs_of image t)) s) ++ drop (length (needs_of image t)) s)
rest_of image t puts.Nothing s h = of_cells (length (needs_of image t)) s [] (omega arith)
rest_of image t (puts.One k) s h = of_cells (length (needs_of image t)) s (k ∷ []) (omega arith)
rest_of image t (puts.Answer method) s h =
    of_cells (length (needs_of image t)) s (option_map_or (λ m. result_cells m.result) (slice_get image.methods method) [])
    (few_answers (slice_get image.methods method))
rest_of image t puts.Twice s h =
    subst (λ (n : ℕ). Rest s ((take n s ++ take n s) ++ drop n s)) (sym (twice_takes_one image t h)) (twice_one s)

-- ---- with the lowest cell first

kept_below : (before after : List ImageKind) (m : ℕ) → drop 1 (reverse after) ≡ drop m (reverse before)
    → IsKeptBut ((length after - 1) ∷ []) before after
kept_below before after m rest p k other at =
    let within : p < length after = slice_get_within after p k at in
    let apart = eqb-false (length after - 1) p (or_parts (length after - 1 == p) false other).0 in
    let below : p < length after - 1 = omega (arith, within, apart) in
    let long : length after - 1 ≡ length before - m =
    omega (arith, length-drop 1 (reverse after), length-drop m (reverse before), length-reverse after, length-reverse before, ap length rest) in
    let front : take (length after - 1) after ≡ take (length before - m) before =
    sym (reverse-reverse (take (length after - 1) after))
    ∙ ap (λ (ks : List ImageKind). reverse ks)
    (taken_off after 1 (omega arith) ∙ rest ∙ sym (taken_off before m (omega arith)))
    ∙ reverse-reverse (take (length before - m) before) in
    let same : get_or before p k ≡ k =
    sym (get_or-take (length before - m) before p k (omega arith))
    ∙ ap (λ (ks : List ImageKind). get_or ks p k) (sym front)
    ∙ get_or-take (length after - 1) after p k below ∙ get_or_from_slice_get after p k k at in
    slice_get-get_or before p k (omega arith) ∙ ap (λ (x : ImageKind). Some x) same

pub stack_kept : (image : Image) (e : Effect) (before after : List ImageKind) → is_ordinary e ≡ true
    → reverse after ≡ after_stack image e (reverse before) → IsKeptBut ((length after - 1) ∷ []) before after
stack_kept image e before after ordinary is =
    let rest = rest_of image e.takes e.puts (reverse before) ordinary in
    kept_below before after rest.taken (ap (λ (ks : List ImageKind). drop 1 ks) is ∙ rest.is)
