-- What is known of entries stays so.
use Rattle.std.proofs.Common.{◌≡◌, ℕ, zero, suc, ◌+◌, ◌-◌, ◌≤◌, Bool, true, false, not, List, [], ◌∷◌, ◌++◌, drop, length, get_or, slice_get, Option, Some, None, refl, ap, sym, ◌∙◌, subst, arith, length-append, length-set, ◌⊎◌, inl, inr}
use Rattle.std.specs.Option.{option_map_or}
use Rattle.std.proofs.Math.ListN.{set}
use Rattle.std.proofs.lemmas.Bool.{cases_eq, cases_lt}
use Rattle.std.proofs.lemmas.List.{get_or-set_same, get_or-set_other, get_or_past}
use Rattle.scode_image.specs.declared.image.Image.{Image}
use Rattle.scode_image.specs.declared.image.ImageEntry.{ImageEntry}
use Rattle.scode_image.specs.declared.image.ImageKind.{ImageKind}
use Rattle.scode_image.specs.declared.image.ImageMethod.{ImageMethod}
use Rattle.scode_ops.specs.declared.op.Op.{Op}
use Rattle.scode_code.specs.CodeRules.{after, arrives, arrives_wrong, entry_at, entry_shape, jumps_to}
use Rattle.scode_code.specs.Kinds.{Shape, shape_goes}
use Rattle.scode_rules.specs.Words.{IsKeptBut, shape, stored}
use Rattle.scode_verify.specs.declared.changes.Cell.{Cell}
use Rattle.scode_verify.specs.declared.changes.Changes.{Changes}
use Rattle.scode_verify.specs.Words.{AreNew, AreWatched, GoBut, arrives_by, changed_by, seen_at}
use Rattle.scode_verify.proofs.Going.{all_goes, go_but_below, go_but_more}

pub new_watched : (image : Image) (m : ImageMethod) (locals stack : List ImageKind) (changes : Changes) → AreNew changes
    → AreWatched image m locals stack changes
new_watched image m locals stack changes new = record {
  seen = λ n. omega (arith, new.seen n);
  known = λ n e at since. absurd (omega (arith, new.seen n, new.begun, since));
}

pub all_changed : (image : Image) (m : ImageMethod) (locals stack locals1 stack1 : List ImageKind)
    (changes changes1 : Changes) → changes1.seen.items ≡ changes.seen.items
    → length changes1.cells.items ≡ length changes.cells.items + 1 → changes1.begun ≡ length changes1.cells.items
    → AreWatched image m locals stack changes → AreWatched image m locals1 stack1 changes1
all_changed image m locals stack locals1 stack1 changes changes1 seen longer begun watched = record {
  seen = λ n. omega (arith, same n, watched.seen n, longer);
  known = λ n e at since. absurd (omega (arith, same n, watched.seen n, longer, begun, since));
}
  where
    same : (n : ℕ) → seen_at changes1 n ≡ seen_at changes n
    same n = ap (λ (ns : List ℕ). get_or ns n 0) seen

drop_more : (n : ℕ) (xs ys : List Cell) → n ≤ length xs → drop n (xs ++ ys) ≡ drop n xs ++ ys
drop_more zero xs ys within = refl
drop_more (suc n) [] ys within = absurd (omega (arith, within))
drop_more (suc n) (x ∷ xs) ys within = drop_more n xs ys (omega (arith, within))

pub some_changed : (image : Image) (m : ImageMethod) (locals stack locals1 stack1 : List ImageKind) (i : Op)
    (changes changes1 : Changes) → changes1.seen.items ≡ changes.seen.items
    → changes1.cells.items ≡ changes.cells.items ++ changed_by i (length stack1) → changes1.begun ≡ changes.begun
    → IsKeptBut (stored i) locals locals1 → IsKeptBut ((length stack1 - 1) ∷ []) stack stack1
    → AreWatched image m locals stack changes → AreWatched image m locals1 stack1 changes1
some_changed image m locals stack locals1 stack1 i changes changes1 seen longer begun kept_locals kept_stack watched =
    record {
      seen = λ n. omega (
        arith,
        same n,
        watched.seen n,
        ap length longer,
        length-append changes.cells.items (changed_by i (length stack1)),
      );
      known = λ n e at since.
          subst (λ (cs : List Cell). GoBut image cs locals1 stack1 e) (sym (rest n))
          (go_but_more image (drop (seen_at changes n) changes.cells.items) (stored i) (length stack1 - 1) locals stack
          locals1 stack1 e kept_locals kept_stack (watched.known n e at (omega (arith, same n, begun, since))));
    }
  where
    same : (n : ℕ) → seen_at changes1 n ≡ seen_at changes n
    same n = ap (λ (ns : List ℕ). get_or ns n 0) seen

    rest : (n : ℕ) → drop (seen_at changes1 n) changes1.cells.items
        ≡ drop (seen_at changes n) changes.cells.items ++ changed_by i (length stack1)
    rest n =
        ap (λ (k : ℕ). drop k changes1.cells.items) (same n)
        ∙ ap (λ (cs : List Cell). drop (seen_at changes n) cs) longer
        ∙ drop_more (seen_at changes n) changes.cells.items (changed_by i (length stack1)) (watched.seen n)

pub fewer_cells : (image : Image) (m : ImageMethod) (locals stack stack1 : List ImageKind) (changes : Changes)
    → IsKeptBut [] stack stack1 → AreWatched image m locals stack changes → AreWatched image m locals stack1 changes
fewer_cells image m locals stack stack1 changes kept watched = record {
  seen = watched.seen;
  known = λ n e at since.
      go_but_below image (drop (seen_at changes n) changes.cells.items) locals stack stack1 e kept
      (watched.known n e at since);
}

pub entry_seen : (image : Image) (m : ImageMethod) (locals stack : List ImageKind) (changes changes1 : Changes) (n : ℕ)
    → changes1.seen.items ≡ set changes.seen.items n (length changes.cells.items)
    → changes1.cells.items ≡ changes.cells.items → changes1.begun ≡ changes.begun
    → ((e : ImageEntry) → slice_get m.entries n ≡ Some e → shape_goes image (shape locals stack) (entry_shape e) ≡ true)
    → AreWatched image m locals stack changes → AreWatched image m locals stack changes1
entry_seen image m locals stack changes changes1 n seen cells begun goes watched = record {
  seen = λ k. elim (either k) [
    | inl at ↦ omega (arith, at.1, ap length cells)
    | inr other ↦ omega (arith, other, watched.seen k, ap length cells)
  ];
  known = λ k e at since. elim (either k) [
    | inl here ↦ λ c outside. all_goes image locals stack e (goes e (ap (λ (j : ℕ). slice_get m.entries j) (sym here.0) ∙ at)) c
    | inr other ↦
        subst (λ (cs : List Cell). GoBut image cs locals stack e)
        (sym (ap (λ (j : ℕ). drop j changes1.cells.items) other ∙ ap (λ (cs : List Cell). drop (seen_at changes k) cs) cells))
        (watched.known k e at (omega (arith, other, begun, since)))
  ];
}
  where
    there : (k : ℕ) → seen_at changes1 k ≡ get_or (set changes.seen.items n (length changes.cells.items)) k 0
    there k = ap (λ (ns : List ℕ). get_or ns k 0) seen

    either : (k : ℕ) → ((k ≡ n) × (seen_at changes1 k ≡ length changes.cells.items)) ⊎ (seen_at changes1 k ≡ seen_at changes k)
    either k = elim (cases_eq k n) [
      | inl same ↦ elim (cases_lt n (length changes.seen.items)) [
        | inl within ↦ inl (
          same,
          there k ∙ ap (λ (j : ℕ). get_or (set changes.seen.items n (length changes.cells.items)) j 0) same
              ∙ get_or-set_same changes.seen.items n (length changes.cells.items) 0 within,
        )
        | inr past ↦ inr (there k ∙ get_or_past (set changes.seen.items n (length changes.cells.items)) k 0
            (omega (arith, past, same, length-set changes.seen.items n (length changes.cells.items)))
            ∙ sym (get_or_past changes.seen.items k 0 (omega (arith, past, same))))
      ]
      | inr other ↦ inr (there k ∙ get_or-set_other changes.seen.items n k (length changes.cells.items) 0 other)
    ]

-- ---- the entry that an instruction jumps to

pub arrives_then : (image : Image) (m : ImageMethod) (s : Shape) (i : Op) → arrives_wrong image m s i ≡ false
    → arrives_by image m (after image s i) i ≡ true
arrives_then image m s i fine = by_target (jumps_to i) fine
  where
    not_wrong : (b : Bool) → not b ≡ false → b ≡ true
    not_wrong true h = refl
    not_wrong false h = cc

    by_target : (o : Option ℕ) → option_map_or (λ to. not (arrives image (after image s i) (entry_at m to))) o false ≡ false
        → option_map_or (λ to. arrives image (after image s i) (entry_at m to)) o true ≡ true
    by_target None h = refl
    by_target (Some to) h = not_wrong (arrives image (after image s i) (entry_at m to)) h

pub target_seen : (image : Image) (m : ImageMethod) (locals stack : List ImageKind) (i : Op)
    (changes changes1 : Changes) (to n : ℕ) → jumps_to i ≡ Some to → slice_get m.entries n ≡ entry_at m to
    → changes1.seen.items ≡ set changes.seen.items n (length changes.cells.items)
    → changes1.cells.items ≡ changes.cells.items → changes1.begun ≡ changes.begun
    → AreWatched image m locals stack changes → arrives_by image m (shape locals stack) i ≡ true
    → AreWatched image m locals stack changes1
target_seen image m locals stack i changes changes1 to n jumps is seen cells begun watched goes =
    entry_seen image m locals stack changes changes1 n seen cells begun
    (λ e at. ap (λ (o : Option ImageEntry). arrives image (shape locals stack) o) (sym at ∙ is)
    ∙ sym (ap (λ (o : Option ℕ). option_map_or (λ to. arrives image (shape locals stack) (entry_at m to)) o true) jumps) ∙ goes)
    watched
