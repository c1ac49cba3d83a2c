-- Kinds that go to those of an entry, one by one.
use Rattle.std.proofs.Common.{◌≡◌, ℕ, zero, suc, ◌+◌, ◌==◌, ◌||◌, Bool, true, false, List, [], ◌∷◌, ◌++◌, map, length, reverse, slice_get, Option, Some, None, refl, ap, sym, ◌∙◌, arith, inl, inr}
use Rattle.std.specs.List.{list_all, list_any}
use Rattle.std.proofs.lemmas.Bool.{and_from, and_parts, cases_Bool, eqb-true, false_from_ne_true, or_cases, or_parts}
use Rattle.std.proofs.lemmas.List.Folds.{list_any-append}
use Rattle.scode_image.specs.declared.image.Image.{Image}
use Rattle.scode_image.specs.declared.image.ImageEntry.{ImageEntry}
use Rattle.scode_image.specs.declared.image.ImageKind.{ImageKind}
use Rattle.scode_code.specs.CodeRules.{entry_shape}
use Rattle.scode_code.specs.Kinds.{all_go, goes_to, shape_goes}
use Rattle.scode_rules.specs.Words.{IsKeptBut, shape}
use Rattle.scode_rules.proofs.Turned.{all_go_turned}
use Rattle.scode_verify.specs.declared.changes.Cell.{Cell}
use Rattle.scode_verify.specs.declared.changes.Cell.TheVariants as cell
use Rattle.scode_verify.specs.Words.{GoBut, goes_at, goes_where, is_same_cell}

-- ---- rows

no_truth : {P : Type 0} → false ≡ true → P
no_truth h = let never : ⊥ = cc in absurd never

same_truth : (a b : Bool) → (a ≡ true → b ≡ true) → (b ≡ true → a ≡ true) → a ≡ b
same_truth true b there back = sym (there refl)
same_truth false true there back = back refl
same_truth false false there back = refl

each_goes : (image : Image) (a b : List ImageKind) → all_go image a b ≡ true
    → (i : ℕ) → goes_where image (slice_get a i) (slice_get b i) ≡ true
each_goes image [] b all zero = refl
each_goes image [] b all (suc i) = refl
each_goes image (k ∷ ks) [] all i = no_truth all
each_goes image (k ∷ ks) (l ∷ ls) all zero = (and_parts (goes_to image k l) (all_go image ks ls) all).0
each_goes image (k ∷ ks) (l ∷ ls) all (suc i) =
    each_goes image ks ls (and_parts (goes_to image k l) (all_go image ks ls) all).1 i

all_go_each : (image : Image) (a b : List ImageKind) → length a ≡ length b
    → ((i : ℕ) → goes_where image (slice_get a i) (slice_get b i) ≡ true) → all_go image a b ≡ true
all_go_each image [] [] long each = refl
all_go_each image [] (l ∷ ls) long each = absurd (omega (arith, long))
all_go_each image (k ∷ ks) [] long each = absurd (omega (arith, long))
all_go_each image (k ∷ ks) (l ∷ ls) long each =
    and_from (goes_to image k l) (all_go image ks ls) (each 0)
    (all_go_each image ks ls (omega (arith, long)) (λ i. each (suc i)))

as_long : (image : Image) (a b : List ImageKind) → all_go image a b ≡ true → length a ≡ length b
as_long image [] [] all = refl
as_long image [] (l ∷ ls) all = no_truth all
as_long image (k ∷ ks) [] all = no_truth all
as_long image (k ∷ ks) (l ∷ ls) all = ap suc (as_long image ks ls (and_parts (goes_to image k l) (all_go image ks ls) all).1)

-- ---- locals and cells

turned : (image : Image) (stack : List ImageKind) (e : ImageEntry)
    → all_go image (reverse stack) (reverse e.stack) ≡ all_go image stack e.stack
turned image stack e = all_go_turned image stack e.stack

pub all_goes : (image : Image) (locals stack : List ImageKind) (e : ImageEntry)
    → shape_goes image (shape locals stack) (entry_shape e) ≡ true → (c : Cell) → goes_at image locals stack e c ≡ true
all_goes image locals stack e goes (cell.Local i) =
    each_goes image locals e.locals (and_parts (all_go image locals e.locals) _ goes).0 i
all_goes image locals stack e goes (cell.Stack i) =
    each_goes image stack e.stack
    (sym (turned image stack e) ∙ (and_parts (all_go image locals e.locals) _ goes).1) i

all_goes_from : (image : Image) (locals stack : List ImageKind) (e : ImageEntry) → length locals ≡ length e.locals
    → length stack ≡ length e.stack → ((c : Cell) → goes_at image locals stack e c ≡ true)
    → shape_goes image (shape locals stack) (entry_shape e) ≡ true
all_goes_from image locals stack e many high each =
    and_from (all_go image locals e.locals) _ (all_go_each image locals e.locals many (λ i. each (cell.Local i)))
    (turned image stack e ∙ all_go_each image stack e.stack high (λ i. each (cell.Stack i)))

pub other_locals : (image : Image) (locals stack : List ImageKind) (e : ImageEntry)
    → (length locals ≡ length e.locals → ⊥) → shape_goes image (shape locals stack) (entry_shape e) ≡ false
other_locals image locals stack e differ =
    false_from_ne_true (shape_goes image (shape locals stack) (entry_shape e))
    (λ goes. differ (as_long image locals e.locals (and_parts (all_go image locals e.locals) _ goes).0))

pub other_height : (image : Image) (locals stack : List ImageKind) (e : ImageEntry)
    → (length stack ≡ length e.stack → ⊥) → shape_goes image (shape locals stack) (entry_shape e) ≡ false
other_height image locals stack e differ =
    false_from_ne_true (shape_goes image (shape locals stack) (entry_shape e))
    (λ goes. differ (as_long image stack e.stack
    (sym (turned image stack e) ∙ (and_parts (all_go image locals e.locals) _ goes).1)))

same_is : (c d : Cell) → is_same_cell c d ≡ true → d ≡ c
same_is (cell.Local i) (cell.Local j) h = ap (λ (n : ℕ). cell.Local n) (eqb-true j i h)
same_is (cell.Local i) (cell.Stack j) h = no_truth h
same_is (cell.Stack i) (cell.Local j) h = no_truth h
same_is (cell.Stack i) (cell.Stack j) h = ap (λ (n : ℕ). cell.Stack n) (eqb-true j i h)

one_of : (f : Cell → Bool) (cells : List Cell) (c : Cell) → list_any (is_same_cell c) cells ≡ true
    → list_all f cells ≡ true → f c ≡ true
one_of f [] c any all = no_truth any
one_of f (d ∷ ds) c any all =
    elim (or_cases (is_same_cell c d) (list_any (is_same_cell c) ds) any) [
      | inl here ↦ ap f (sym (same_is c d here)) ∙ (and_parts (f d) (list_all f ds) all).0
      | inr there ↦ one_of f ds c there (and_parts (f d) (list_all f ds) all).1
    ]

all_of : (f : Cell → Bool) (cells : List Cell) → ((c : Cell) → f c ≡ true) → list_all f cells ≡ true
all_of f [] each = refl
all_of f (d ∷ ds) each = and_from (f d) (list_all f ds) (each d) (all_of f ds each)

-- where all others go, those that are asked tell it
pub goes_by : (image : Image) (cells : List Cell) (locals stack : List ImageKind) (e : ImageEntry)
    → length locals ≡ length e.locals → length stack ≡ length e.stack → GoBut image cells locals stack e
    → list_all (goes_at image locals stack e) cells ≡ shape_goes image (shape locals stack) (entry_shape e)
goes_by image cells locals stack e many high others =
    same_truth (list_all (goes_at image locals stack e) cells) (shape_goes image (shape locals stack) (entry_shape e))
    (λ asked. all_goes_from image locals stack e many high (λ c.
    elim (cases_Bool (list_any (is_same_cell c) cells)) [
      | inl there ↦ one_of (goes_at image locals stack e) cells c there asked
      | inr not_there ↦ others c not_there
    ]))
    (λ goes. all_of (goes_at image locals stack e) cells (all_goes image locals stack e goes))

-- ---- what changes

local_among : (i : ℕ) (places : List ℕ)
    → list_any (is_same_cell (cell.Local i)) (map cell.Local places) ≡ list_any (λ q. q == i) places
local_among i [] = refl
local_among i (q ∷ qs) = ap (λ (b : Bool). (q == i) || b) (local_among i qs)

kept_goes : (image : Image) (before after to : Option ImageKind) → ((k : ImageKind) → after ≡ Some k → before ≡ Some k)
    → goes_where image before to ≡ true → goes_where image after to ≡ true
kept_goes image before None to kept goes = refl
kept_goes image before (Some k) to kept goes = ap (λ (o : Option ImageKind). goes_where image o to) (sym (kept k refl)) ∙ goes

pub go_but_more : (image : Image) (cells : List Cell) (stored : List ℕ) (top : ℕ)
    (locals stack locals1 stack1 : List ImageKind) (e : ImageEntry) → IsKeptBut stored locals locals1
    → IsKeptBut (top ∷ []) stack stack1 → GoBut image cells locals stack e
    → GoBut image (cells ++ (map cell.Local stored ++ cell.Stack top ∷ [])) locals1 stack1 e
go_but_more image cells stored top locals stack locals1 stack1 e kept_locals kept_stack others c outside =
    let parts = or_parts (list_any (is_same_cell c) cells) _
    (sym (list_any-append (is_same_cell c) cells (map cell.Local stored ++ cell.Stack top ∷ [])) ∙ outside) in
    let more = or_parts (list_any (is_same_cell c) (map cell.Local stored)) _
    (sym (list_any-append (is_same_cell c) (map cell.Local stored) (cell.Stack top ∷ [])) ∙ parts.1) in
    by_cell c (others c parts.0) more.0 more.1
  where
    by_cell : (c : Cell) → goes_at image locals stack e c ≡ true
        → list_any (is_same_cell c) (map cell.Local stored) ≡ false
        → list_any (is_same_cell c) (cell.Stack top ∷ []) ≡ false → goes_at image locals1 stack1 e c ≡ true
    by_cell (cell.Local i) goes not_stored not_top =
        kept_goes image (slice_get locals i) (slice_get locals1 i) (slice_get e.locals i)
        (λ k at. kept_locals i k (sym (local_among i stored) ∙ not_stored) at) goes
    by_cell (cell.Stack i) goes not_stored not_top =
        kept_goes image (slice_get stack i) (slice_get stack1 i) (slice_get e.stack i)
        (λ k at. kept_stack i k not_top at) goes

-- fewer cells of a stack
pub go_but_below : (image : Image) (cells : List Cell) (locals stack stack1 : List ImageKind) (e : ImageEntry)
    → IsKeptBut [] stack stack1 → GoBut image cells locals stack e → GoBut image cells locals stack1 e
go_but_below image cells locals stack stack1 e kept others c outside = by_cell c (others c outside)
  where
    by_cell : (c : Cell) → goes_at image locals stack e c ≡ true → goes_at image locals stack1 e c ≡ true
    by_cell (cell.Local i) goes = goes
    by_cell (cell.Stack i) goes =
        kept_goes image (slice_get stack i) (slice_get stack1 i) (slice_get e.stack i) (λ k at. kept i k refl at) goes

pub ruleset goes_on = (other_locals, other_height, goes_by)
