-- The search for a way back: what was reached, and what waits to be gone on from.
use Rattle.std.proofs.Common.{◌≡◌, ℕ, Bool, true, false, List, [], ◌∷◌, ◌++◌, length, replicate, sym, ◌∙◌, inl, inr, subst, arith}
use Rattle.std.specs.Prelude.{Contains, Vec, ◌⊎◌}
use Rattle.std.specs.declared.alloc.Global.{Global}
use Rattle.std.proofs.lemmas.Bool.{false≢true}
use Rattle.std.proofs.lemmas.List.{length-replicate}
use Rattle.std.proofs.lemmas.List.Elements.{All-contains, All-weaker, Contains-push, Contains-push_cases, Contains-append_left}
use Rattle.kit_manifest.specs.Links.{links_at, IsLink, is_marked, AreMarked, Reaches}
use Rattle.kit_manifest.specs.Walk.{Walk, one_step}
use Rattle.kit_manifest.proofs.Marks.{is_marked-replicate}
use Rattle.kit_manifest.proofs.Walks.{Walk-step, Walk-within}

-- Walks lead to what was reached; what waits was reached; the first links were gone, and so were those of each place
-- that was reached and does not wait.
pub record Seeks (links : List (Vec ℕ Global)) (from : ℕ) (reached : List Bool) (waiting : List ℕ) : Type 0 where
  pub same_length : length reached ≡ length links
  pub led : (i : ℕ) → is_marked reached i ≡ true → Walk (IsLink links) from i
  pub marked : (i : ℕ) → Contains waiting i → is_marked reached i ≡ true
  pub first : AreMarked reached (links_at links from)
  pub further : (i : ℕ) → is_marked reached i ≡ true → Contains waiting i ⊎ AreMarked reached (links_at links i)

nothing_there : (i : ℕ) → Contains [] i → ⊥
nothing_there i (k, within, is) = omega (arith, within)

never_marked : (n i : ℕ) → is_marked (replicate n false) i ≡ true → ⊥
never_marked n i marked = false≢true (sym (is_marked-replicate n i) ∙ marked)

pub Seeks-first : (links : List (Vec ℕ Global)) (from : ℕ) (reached : List Bool) (waiting : List ℕ)
    → Reaches (links_at links from) (replicate (length links) false) reached [] waiting → Seeks links from reached waiting
Seeks-first links from reached waiting now = record {
  same_length = now.same_length ∙ length-replicate (length links) false;
  led = λ i marked. elim (now.from_places i marked) [
    | inl before ↦ absurd (never_marked (length links) i before)
    | inr link ↦ one_step from i link
  ];
  marked = λ i waits. elim (now.from_new i waits) [ inl before ↦ absurd (nothing_there i before) | inr marked ↦ marked ];
  first = now.all;
  further = λ i marked. elim (now.new_wait i marked) [
    | inl before ↦ absurd (never_marked (length links) i before)
    | inr waits ↦ inl waits
  ];
}

pub Seeks-start : (links : List (Vec ℕ Global)) (from : ℕ) (places : List ℕ) (before reached : List Bool) (waiting_before waiting : List ℕ)
    → places ≡ links_at links from → before ≡ replicate (length links) false → waiting_before ≡ []
    → Reaches places before reached waiting_before waiting → Seeks links from reached waiting
Seeks-start links from places before reached waiting_before waiting at none empty now =
    Seeks-first links from reached waiting
    (subst (λ p. Reaches p (replicate (length links) false) reached [] waiting) at
    (subst (λ b. Reaches places b reached [] waiting) none
    (subst (λ w. Reaches places before reached w waiting) empty now)))

pub Seeks-more : (links : List (Vec ℕ Global)) (from place : ℕ) (a b : List Bool) (w v all : List ℕ) → Seeks links from a all → all ≡ w ++ place ∷ []
    → Reaches (links_at links place) a b w v → Seeks links from b v
Seeks-more links from place a b w v all so_far popped now = record {
  same_length = now.same_length ∙ so_far.same_length;
  led = λ i marked. elim (now.from_places i marked) [
    | inl before ↦ so_far.led i before
    | inr link ↦ Walk-step (IsLink links) from place i (so_far.led place (so_far.marked place (subst (λ l. Contains l place) (sym popped) (Contains-push w place)))) link
  ];
  marked = λ i waits. elim (now.from_new i waits) [
    | inl before ↦ now.kept i (so_far.marked i (subst (λ l. Contains l i) (sym popped) (Contains-append_left w (place ∷ []) i before)))
    | inr marked ↦ marked
  ];
  first = still (links_at links from) so_far.first;
  further = λ i marked. elim (now.new_wait i marked) [
    | inl before ↦ elim (so_far.further i before) [
      | inl waits ↦ elim (Contains-push_cases w place i (subst (λ l. Contains l i) popped waits)) [
        | inl left ↦ inl (now.still_wait i left)
        | inr same ↦ inr (subst (λ j. AreMarked b (links_at links j)) same now.all)
      ]
      | inr gone ↦ inr (still (links_at links i) gone)
    ]
    | inr waits ↦ inl waits
  ];
}
  where
    still : (places : List ℕ) → AreMarked a places → AreMarked b places
    still places are = All-weaker (λ i. is_marked a i ≡ true) (λ i. is_marked b i ≡ true) now.kept places are

pub Seeks-back : (links : List (Vec ℕ Global)) (from : ℕ) (reached : List Bool) (waiting : List ℕ) → Seeks links from reached waiting → ((i : ℕ) → Contains waiting i → ⊥)
    → Walk (IsLink links) from from → is_marked reached from ≡ true
Seeks-back links from reached waiting so_far done walk =
    Walk-within (IsLink links) (λ i. is_marked reached i ≡ true)
    (λ i marked j link. elim (so_far.further i marked) [
      | inl waits ↦ absurd (done i waits)
      | inr gone ↦ All-contains (λ k. is_marked reached k ≡ true) (links_at links i) j gone link
    ])
    from from (λ k link. All-contains (λ i. is_marked reached i ≡ true) (links_at links from) k so_far.first link) walk
