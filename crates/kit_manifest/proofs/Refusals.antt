-- The refusals of a list, and what its links give of its dependences.
use Rattle.std.proofs.Common.{◌≡◌, ℕ, ◌<◌, List, length, Result, Ok, Err, refl, sym, ap, inl, inr, subst}
use Rattle.std.specs.Prelude.{MatchResult, IfOk, OnOk, IsOk, Vec}
use Rattle.std.specs.declared.alloc.Global.{Global}
use Rattle.std.proofs.lemmas.Bool.{cases_order}
use Rattle.kit_manifest.specs.Fault.{RefusesWhere}
use Rattle.kit_manifest.specs.declared.manifest.Manifest.{Manifest}
use Rattle.kit_manifest.specs.declared.fault.ManifestFault.{ManifestFault}
use Rattle.kit_manifest.specs.declared.fault.ManifestFault.TheVariants.{NotToml, MissingKey, WrongType, BadName, UnknownKit, Cycle, RepeatedKit, Memory}
use Rattle.kit_manifest.specs.Links.{links_at, IsLink, StaysBelow, AreLinksOf, IsOrdered}
use Rattle.kit_manifest.specs.declared.links.Ordered.{Ordered}
use Rattle.kit_manifest.specs.declared.links.Ordered.TheVariants.{Order}
use Rattle.kit_manifest.specs.declared.links.Ordered.TheVariants as ordered
use Rattle.kit_manifest.specs.Order.{DependsOn, HasUnknown, LeadsBack, IsRepeated, IsNowhere, IsFirst, Takes, IsOrder, IsPermutationOf, StandsBefore, UnknownAt, CycleAt, RepeatedAt, IsOrderly, IsOrderOf, IsListRefusal}
use Rattle.kit_manifest.specs.Walk.{Walk}
use Rattle.kit_manifest.proofs.Marks.{All-from_each}
use Rattle.kit_manifest.proofs.Walks.{Walk-map}
use Rattle.kit_manifest.proofs.Orders.{Takes-map, Takes-no_cycle, IsOrder-permutation, IsOrder-before}

-- The links of kits stay among the places.
pub links_stay : (kits : List Manifest) (links : List (Vec ℕ Global)) → AreLinksOf kits links → StaysBelow (length links) links
links_stay kits links are i = All-from_each (λ j. j < length links) (links_at links i) (λ j link. subst (λ n. j < n) (sym are.same_length) (are.depends i j link).0)

pub order_of_kits : (kits : List Manifest) (links : List (Vec ℕ Global)) (order : List ℕ) → AreLinksOf kits links → IsOrder (length links) (IsLink links) order
    → IsOrder (length kits) (DependsOn kits) order
order_of_kits kits links order are is = record {
  taken = subst (λ n. Takes n (DependsOn kits) order) are.same_length (Takes-map (length links) (IsLink links) (DependsOn kits) are.depends are.linked order is.taken);
  whole = λ i within. is.whole i (subst (λ n. i < n) (sym are.same_length) within);
}

pub cycle_of_kits : (kits : List Manifest) (links : List (Vec ℕ Global)) (at : ℕ) → AreLinksOf kits links → IsFirst (length links) (λ i. Walk (IsLink links) i i) at
    → IsFirst (length kits) (LeadsBack kits) at
cycle_of_kits kits links at are is = record {
  within = subst (λ n. at < n) are.same_length is.within;
  holds = Walk-map (IsLink links) (DependsOn kits) are.depends at at is.holds;
  before = λ j earlier back. is.before j earlier (Walk-map (DependsOn kits) (IsLink links) are.linked j j back);
}

pub no_cycle_in : (kits : List Manifest) (order : List ℕ) → IsOrder (length kits) (DependsOn kits) order → IsNowhere (length kits) (LeadsBack kits)
no_cycle_in kits order is i within back = Takes-no_cycle (length kits) (DependsOn kits) order is.taken i (is.whole i within) back

-- There is one first place.
pub IsFirst-only : (n : ℕ) (P : ℕ → Type 0) (a b : ℕ) → IsFirst n P a → IsFirst n P b → a ≡ b
IsFirst-only n P a b is other = elim (cases_order a b) [
  | inl same ↦ same
  | inr (inl below) ↦ absurd (other.before a below is.holds)
  | inr (inr above) ↦ absurd (is.before b above other.holds)
]

abbrev pub Answer : Type 0
Answer = Result (Vec ℕ Global) ManifestFault

abbrev pub IsAnswer : List Manifest → Answer → Type 0
IsAnswer kits result = MatchResult result (λ order. IsOrderOf kits order.items) (IsListRefusal kits)

pub comes_unless : (kits : List Manifest) (result : Answer) → IsAnswer kits result → IsOrderly kits → (result ≡ Err Memory → ⊥) → IsOk result
comes_unless kits (Ok order) is orderly ample = refl
comes_unless kits (Err (UnknownKit at)) is orderly ample = absurd (orderly.known at is.within is.holds)
comes_unless kits (Err (Cycle at)) is orderly ample = absurd (orderly.no_cycle at is.first.within is.first.holds)
comes_unless kits (Err (RepeatedKit at)) is orderly ample = absurd (orderly.different at is.first.within is.first.holds)
comes_unless kits (Err Memory) is orderly ample = absurd (ample refl)
comes_unless kits (Err NotToml) is orderly ample = absurd is
comes_unless kits (Err MissingKey) is orderly ample = absurd is
comes_unless kits (Err WrongType) is orderly ample = absurd is
comes_unless kits (Err BadName) is orderly ample = absurd is

unknown_comes : (kits : List Manifest) (at : ℕ) (result : Answer) → IsAnswer kits result → UnknownAt kits at → (result ≡ Err Memory → ⊥) → result ≡ Err (UnknownKit at)
unknown_comes kits at (Ok order) is here ample = absurd (is.orderly.known at here.within here.holds)
unknown_comes kits at (Err (UnknownKit other)) is here ample = ap (λ i. Err (UnknownKit i)) (IsFirst-only (length kits) (HasUnknown kits) other at is here)
unknown_comes kits at (Err (Cycle other)) is here ample = absurd (is.known at here.within here.holds)
unknown_comes kits at (Err (RepeatedKit other)) is here ample = absurd (is.known at here.within here.holds)
unknown_comes kits at (Err Memory) is here ample = absurd (ample refl)
unknown_comes kits at (Err NotToml) is here ample = absurd is
unknown_comes kits at (Err MissingKey) is here ample = absurd is
unknown_comes kits at (Err WrongType) is here ample = absurd is
unknown_comes kits at (Err BadName) is here ample = absurd is

pub unknown_where : (kits : List Manifest) (result : Answer) → IsAnswer kits result → (at : ℕ) → RefusesWhere result (UnknownKit at) (UnknownAt kits at)
unknown_where kits result is at = record { only = λ same. subst (IsAnswer kits) same is; comes = unknown_comes kits at result is }

cycle_comes : (kits : List Manifest) (at : ℕ) (result : Answer) → IsAnswer kits result → CycleAt kits at → (result ≡ Err Memory → ⊥) → result ≡ Err (Cycle at)
cycle_comes kits at (Ok order) is here ample = absurd (is.orderly.no_cycle at here.first.within here.first.holds)
cycle_comes kits at (Err (UnknownKit other)) is here ample = absurd (here.known other is.within is.holds)
cycle_comes kits at (Err (Cycle other)) is here ample = ap (λ i. Err (Cycle i)) (IsFirst-only (length kits) (LeadsBack kits) other at is.first here.first)
cycle_comes kits at (Err (RepeatedKit other)) is here ample = absurd (is.no_cycle at here.first.within here.first.holds)
cycle_comes kits at (Err Memory) is here ample = absurd (ample refl)
cycle_comes kits at (Err NotToml) is here ample = absurd is
cycle_comes kits at (Err MissingKey) is here ample = absurd is
cycle_comes kits at (Err WrongType) is here ample = absurd is
cycle_comes kits at (Err BadName) is here ample = absurd is

pub cycle_where : (kits : List Manifest) (result : Answer) → IsAnswer kits result → (at : ℕ) → RefusesWhere result (Cycle at) (CycleAt kits at)
cycle_where kits result is at = record { only = λ same. subst (IsAnswer kits) same is; comes = cycle_comes kits at result is }

repeated_comes : (kits : List Manifest) (at : ℕ) (result : Answer) → IsAnswer kits result → RepeatedAt kits at → (result ≡ Err Memory → ⊥) → result ≡ Err (RepeatedKit at)
repeated_comes kits at (Ok order) is here ample = absurd (is.orderly.different at here.first.within here.first.holds)
repeated_comes kits at (Err (UnknownKit other)) is here ample = absurd (here.known other is.within is.holds)
repeated_comes kits at (Err (Cycle other)) is here ample = absurd (here.no_cycle other is.first.within is.first.holds)
repeated_comes kits at (Err (RepeatedKit other)) is here ample = ap (λ i. Err (RepeatedKit i)) (IsFirst-only (length kits) (IsRepeated kits) other at is.first here.first)
repeated_comes kits at (Err Memory) is here ample = absurd (ample refl)
repeated_comes kits at (Err NotToml) is here ample = absurd is
repeated_comes kits at (Err MissingKey) is here ample = absurd is
repeated_comes kits at (Err WrongType) is here ample = absurd is
repeated_comes kits at (Err BadName) is here ample = absurd is

pub repeated_where : (kits : List Manifest) (result : Answer) → IsAnswer kits result → (at : ℕ) → RefusesWhere result (RepeatedKit at) (RepeatedAt kits at)
repeated_where kits result is at = record { only = λ same. subst (IsAnswer kits) same is; comes = repeated_comes kits at result is }

-- What an order is, where there is one.
pub answer-order : (kits : List Manifest) (result : Answer) → IsAnswer kits result → IfOk result (λ order. IsOrder (length kits) (DependsOn kits) order.items)
answer-order kits (Ok order) is = is.order
answer-order kits (Err fault) is = tt

pub answer-permutation : (kits : List Manifest) (result : Answer) → IsAnswer kits result → IfOk result (λ order. IsPermutationOf (length kits) order.items)
answer-permutation kits (Ok order) is = IsOrder-permutation (length kits) (DependsOn kits) order.items is.order
answer-permutation kits (Err fault) is = tt

pub answer-behind : (kits : List Manifest) (result : Answer) → IsAnswer kits result
    → IfOk result (λ order. (i j : ℕ) → i < length kits → DependsOn kits i j → StandsBefore order.items j i)
answer-behind kits (Ok order) is = IsOrder-before (length kits) (DependsOn kits) order.items is.order
answer-behind kits (Err fault) is = tt

pub answer-orderly : (kits : List Manifest) (result : Answer) → IsAnswer kits result → OnOk result (IsOrderly kits)
answer-orderly kits (Ok order) is = is.orderly
answer-orderly kits (Err fault) is = tt

-- The arms of what the links gave.
pub order_in : (kits : List Manifest) (seen links : List (Vec ℕ Global)) (given : Ordered) (order : Vec ℕ Global) → AreLinksOf kits links → seen ≡ links → IsOrdered seen given → given ≡ Order order
    → IsOrder (length kits) (DependsOn kits) order.items
order_in kits seen links given order are same is arm =
    order_of_kits kits links order.items are (subst (λ l. IsOrdered l (Order order)) same (subst (IsOrdered seen) arm is))

pub cycle_in : (kits : List Manifest) (seen links : List (Vec ℕ Global)) (given : Ordered) (at : ℕ) → AreLinksOf kits links → seen ≡ links → IsOrdered seen given → given ≡ ordered.Cycle at
    → IsFirst (length kits) (LeadsBack kits) at
cycle_in kits seen links given at are same is arm =
    cycle_of_kits kits links at are (subst (λ l. IsOrdered l (ordered.Cycle at)) same (subst (IsOrdered seen) arm is))
