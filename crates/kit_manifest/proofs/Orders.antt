-- The places that were taken so far, and what holds of an order.
use Rattle.std.proofs.Common.{◌≡◌, ◌≢◌, ℕ, ◌<◌, ◌≤◌, Bool, true, false, List, [], ◌∷◌, ◌++◌, length, replicate, refl, sym, ap, ◌∙◌, inl, inr, subst, arith, append_assoc}
use Rattle.std.specs.Prelude.{AllPairs, Contains, Vec}
use Rattle.std.specs.declared.alloc.Global.{Global}
use Rattle.std.proofs.Math.ListN.{set}
use Rattle.std.proofs.lemmas.Bool.{false≢true, cases_lt}
use Rattle.std.proofs.lemmas.List.{length-append, length-replicate, length-set}
use Rattle.std.proofs.lemmas.List.Elements.{All-contains, Contains-get_or, Contains-push, Contains-push_cases, Contains-append_left}
use Rattle.std.proofs.lemmas.List.Quantifiers.{all_pairs_push}
use Rattle.kit_manifest.specs.Links.{links_at, IsLink, is_marked, IsReady}
use Rattle.kit_manifest.specs.Order.{IsFirst, CanBeTaken, Takes, nothing, next, IsOrder, IsPermutationOf, StandsBefore}
use Rattle.kit_manifest.specs.Walk.{Walk}
use Rattle.kit_manifest.proofs.Marks.{All-from_each, is_marked-set, is_marked-set_kept, is_marked-set_cases, is_marked-replicate, not_marked}
use Rattle.kit_manifest.proofs.Walks.{Walk-within}

-- The marks are those of the places taken so far.
pub record Taken (links : List (Vec ℕ Global)) (marks : List Bool) (order : List ℕ) : Type 0 where
  pub same_length : length marks ≡ length links
  pub ordered : (i : ℕ) → is_marked marks i ≡ true → Contains order i
  pub marked : (i : ℕ) → Contains order i → is_marked marks i ≡ true
  pub takes : Takes (length links) (IsLink links) order

pub Taken-none : (links : List (Vec ℕ Global)) → Taken links (replicate (length links) false) []
Taken-none links = record {
  same_length = length-replicate (length links) false;
  ordered = λ i marked. absurd (false≢true (sym (is_marked-replicate (length links) i) ∙ marked));
  marked = λ i (k, within, is). absurd (omega (arith, within));
  takes = nothing;
}

can_be_taken : (links : List (Vec ℕ Global)) (marks : List Bool) (order : List ℕ) (i : ℕ) → Taken links marks order → IsReady links marks i → CanBeTaken (length links) (IsLink links) order i
can_be_taken links marks order i so_far ready = record {
  within = ready.within;
  left = λ there. false≢true (sym ready.left ∙ so_far.marked i there);
  met = λ j link. so_far.ordered j (All-contains (λ k. is_marked marks k ≡ true) (links_at links i) j ready.met link);
}

is_ready_then : (links : List (Vec ℕ Global)) (marks : List Bool) (order : List ℕ) (i : ℕ) → Taken links marks order → CanBeTaken (length links) (IsLink links) order i → IsReady links marks i
is_ready_then links marks order i so_far can = record {
  within = can.within;
  left = not_marked marks i (λ marked. can.left (so_far.ordered i marked));
  met = All-from_each (λ k. is_marked marks k ≡ true) (links_at links i) (λ j link. so_far.marked j (can.met j link));
}

pub Taken-more : (links : List (Vec ℕ Global)) (marks : List Bool) (order : List ℕ) (i : ℕ) → Taken links marks order → IsFirst (length links) (IsReady links marks) i
    → Taken links (set marks i true) (order ++ i ∷ [])
Taken-more links marks order i so_far first = record {
  same_length = length-set marks i true ∙ so_far.same_length;
  ordered = λ j marked. elim (is_marked-set_cases marks i j marked) [
    | inl before ↦ Contains-append_left order (i ∷ []) j (so_far.ordered j before)
    | inr same ↦ subst (Contains (order ++ i ∷ [])) (sym same) (Contains-push order i)
  ];
  marked = λ j there. elim (Contains-push_cases order i j there) [
    | inl before ↦ is_marked-set_kept marks i j within (so_far.marked j before)
    | inr same ↦ subst (λ k. is_marked (set marks i true) k ≡ true) same (is_marked-set marks i within)
  ];
  takes = next order i so_far.takes (record {
    within = first.within;
    holds = can_be_taken links marks order i so_far first.holds;
    before = λ j earlier can. first.before j earlier (is_ready_then links marks order j so_far can);
  });
}
  where
    within : i < length marks
    within = subst (λ n. i < n) (sym so_far.same_length) first.within

pub Taken-whole : (links : List (Vec ℕ Global)) (marks : List Bool) (order : List ℕ) → Taken links marks order → ((i : ℕ) → i < length marks → is_marked marks i ≡ true)
    → IsOrder (length links) (IsLink links) order
Taken-whole links marks order so_far all = record {
  taken = so_far.takes;
  whole = λ i within. so_far.ordered i (all i (subst (λ n. i < n) (sym so_far.same_length) within));
}

-- The same places are taken along steps that are the same.
pub Takes-map : (n : ℕ) (A B : ℕ → ℕ → Type 0) → ((i j : ℕ) → A i j → B i j) → ((i j : ℕ) → B i j → A i j) → (order : List ℕ) → Takes n A order → Takes n B order
Takes-map n A B to back _ nothing = nothing
Takes-map n A B to back _ (next taken i before first) = next taken i (Takes-map n A B to back taken before) (record {
  within = first.within;
  holds = record { within = first.holds.within; left = first.holds.left; met = λ j needs. first.holds.met j (back i j needs) };
  before = λ j earlier can. first.before j earlier (record { within = can.within; left = can.left; met = λ k needs. can.met k (to j k needs) });
})

-- What is taken is below n, and so is all that it needs taken.
pub Takes-within : (n : ℕ) (Needs : ℕ → ℕ → Type 0) (order : List ℕ) → Takes n Needs order → (i : ℕ) → Contains order i → i < n
Takes-within n Needs _ nothing i (k, within, is) = absurd (omega (arith, within))
Takes-within n Needs _ (next taken x before first) i there =
    elim (Contains-push_cases taken x i there) [ inl earlier ↦ Takes-within n Needs taken before i earlier | inr same ↦ subst (λ j. j < n) same first.within ]

Takes-closed : (n : ℕ) (Needs : ℕ → ℕ → Type 0) (order : List ℕ) → Takes n Needs order → (i : ℕ) → Contains order i → (j : ℕ) → Needs i j → Contains order j
Takes-closed n Needs _ nothing i (k, within, is) j needs = absurd (omega (arith, within))
Takes-closed n Needs _ (next taken x before first) i there j needs =
    elim (Contains-push_cases taken x i there) [
      | inl earlier ↦ Contains-append_left taken (x ∷ []) j (Takes-closed n Needs taken before i earlier j needs)
      | inr same ↦ Contains-append_left taken (x ∷ []) j (first.holds.met j (subst (λ k. Needs k j) (sym same) needs))
    ]

-- No walk leads from a place that was taken back to it.
pub Takes-no_cycle : (n : ℕ) (Needs : ℕ → ℕ → Type 0) (order : List ℕ) → Takes n Needs order → (i : ℕ) → Contains order i → Walk Needs i i → ⊥
Takes-no_cycle n Needs _ nothing i (k, within, is) walk = omega (arith, within)
Takes-no_cycle n Needs _ (next taken x before first) i there walk =
    elim (Contains-push_cases taken x i there) [
      | inl earlier ↦ Takes-no_cycle n Needs taken before i earlier walk
      | inr same ↦ first.holds.left (Walk-within Needs (Contains taken) (Takes-closed n Needs taken before) x x (first.holds.met) (subst (λ k. Walk Needs k k) (sym same) walk))
    ]

-- No place is taken twice.
Takes-once : (n : ℕ) (Needs : ℕ → ℕ → Type 0) (order : List ℕ) → Takes n Needs order → AllPairs (λ i j. i ≢ j) order
Takes-once n Needs _ nothing = λ i j d earlier within. absurd (omega (arith, within))
Takes-once n Needs _ (next taken x before first) =
    all_pairs_push (λ i j. i ≢ j) taken x (Takes-once n Needs taken before)
    (λ k d within same. first.holds.left (subst (Contains taken) same (Contains-get_or taken k d within)))

pub IsOrder-permutation : (n : ℕ) (Needs : ℕ → ℕ → Type 0) (order : List ℕ) → IsOrder n Needs order → IsPermutationOf n order
IsOrder-permutation n Needs order is = record {
  each = is.whole;
  within = Takes-within n Needs order is.taken;
  once = Takes-once n Needs order is.taken;
}

-- Each place stands behind those that it needs.
Takes-before : (n : ℕ) (Needs : ℕ → ℕ → Type 0) (order : List ℕ) → Takes n Needs order → (i j : ℕ) → Contains order i → Needs i j → StandsBefore order j i
Takes-before n Needs _ nothing i j (k, within, is) needs = absurd (omega (arith, within))
Takes-before n Needs _ (next taken x before first) i j there needs =
    elim (Contains-push_cases taken x i there) [
      | inl earlier ↦
          let so_far = Takes-before n Needs taken before i j earlier needs in
          record {
            front = so_far.front;
            back = so_far.back ++ x ∷ [];
            parts = ap (λ l. l ++ x ∷ []) so_far.parts ∙ append_assoc so_far.front (i ∷ so_far.back) (x ∷ []);
            there = so_far.there;
          }
      | inr same ↦ record {
        front = taken;
        back = [];
        parts = ap (λ k. taken ++ k ∷ []) same;
        there = first.holds.met j (subst (λ k. Needs k j) (sym same) needs);
      }
    ]

pub IsOrder-before : (n : ℕ) (Needs : ℕ → ℕ → Type 0) (order : List ℕ) → IsOrder n Needs order → (i j : ℕ) → i < n → Needs i j → StandsBefore order j i
IsOrder-before n Needs order is i j within needs = Takes-before n Needs order is.taken i j (is.whole i within) needs

-- The first place with a fact is one.
IsFirst-one : (n : ℕ) (Holds : ℕ → Type 0) (i j : ℕ) → IsFirst n Holds i → IsFirst n Holds j → i ≡ j
IsFirst-one n Holds i j first other = elim (cases_lt i j) [
  | inl less ↦ absurd (other.before i less first.holds)
  | inr more ↦ elim (cases_lt j i) [ inl less ↦ absurd (first.before j less other.holds) | inr same ↦ omega (arith, more, same) ]
]

-- So many places are taken in one way.
Takes-one : (n : ℕ) (Needs : ℕ → ℕ → Type 0) (order other : List ℕ) → Takes n Needs order → Takes n Needs other → length order ≡ length other → order ≡ other
Takes-one n Needs _ _ nothing nothing same = refl
Takes-one n Needs _ _ nothing (next taken i before first) same = absurd (omega (arith, same, length-append taken (i ∷ [])))
Takes-one n Needs _ _ (next taken i before first) nothing same = absurd (omega (arith, same, length-append taken (i ∷ [])))
Takes-one n Needs _ _ (next taken i before first) (next other j earlier second) same =
    let fronts : taken ≡ other = Takes-one n Needs taken other before earlier (omega (arith, same, length-append taken (i ∷ []), length-append other (j ∷ []))) in
    let last : i ≡ j = IsFirst-one n (CanBeTaken n Needs taken) i j first (subst (λ l. IsFirst n (CanBeTaken n Needs l) j) (sym fronts) second) in
    ap (λ l. l ++ i ∷ []) fronts ∙ ap (λ k. other ++ k ∷ []) last

-- Nothing is taken behind an order.
Takes-no_longer : (n : ℕ) (Needs : ℕ → ℕ → Type 0) (order other : List ℕ) → IsOrder n Needs order → Takes n Needs other → length other ≤ length order
Takes-no_longer n Needs order _ is nothing = omega arith
Takes-no_longer n Needs order _ is (next taken i before first) =
    let shorter : length taken ≤ length order = Takes-no_longer n Needs order taken is before in
    elim (cases_lt (length taken) (length order)) [
      | inl less ↦ omega (arith, less, length-append taken (i ∷ []))
      | inr more ↦
          let same : order ≡ taken = Takes-one n Needs order taken is.taken before (omega (arith, shorter, more)) in
          absurd (first.holds.left (subst (λ l. Contains l i) same (is.whole i first.within)))
    ]

pub IsOrder-one : (n : ℕ) (Needs : ℕ → ℕ → Type 0) (order other : List ℕ) → IsOrder n Needs order → IsOrder n Needs other → order ≡ other
IsOrder-one n Needs order other is also =
    Takes-one n Needs order other is.taken also.taken
    (omega (arith, Takes-no_longer n Needs order other is also.taken, Takes-no_longer n Needs other order also is.taken))
