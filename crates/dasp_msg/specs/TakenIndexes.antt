-- All indexes that a receiver ever took, in ascending order, and what becomes of them.
use Rattle.std.specs.Prelude.{◌≡◌, ℕ, suc, ◌+◌, ◌<◌, ◌≤◌, Bool, true, false, ◌&&◌, not, ◌==◌, nat_lt, nat_le}
use Rattle.std.specs.Prelude.{if◌then◌else◌, List, [], ◌∷◌, ◌++◌, Option, Some, None}
use Rattle.std.specs.List.{list_any}
use Rattle.dasp_msg.specs.declared.receiver.Taken.{Taken}
use Rattle.dasp_msg.specs.declared.receiver.Taken.TheVariants.{New, Repeat, Outside}
use Rattle.dasp_msg.specs.Numbers.{index_of}

abbrev pub is_taken : List ℕ → ℕ → Bool
is_taken taken index = list_any (λ each. each == index) taken

-- the least index from `least` on that is not in an ascending list
abbrev pub gap_from : ℕ → List ℕ → ℕ
gap_from least [] = least
gap_from least (index ∷ later) = if index == least then gap_from (suc least) later else least

-- the least index that was not taken
abbrev pub first_gap : List ℕ → ℕ
first_gap taken = gap_from 0 taken

-- an index above the first gap was taken
abbrev pub is_ahead : List ℕ → Bool
is_ahead taken = list_any (λ index. nat_lt (first_gap taken) index) taken

-- ascending from `least` on, and each index once
abbrev pub AscendsFrom : ℕ → List ℕ → Type 0
AscendsFrom least [] = Unit {0}
AscendsFrom least (index ∷ later) = (least ≤ index) × AscendsFrom (suc index) later

-- what a receiver can have taken: no index lies 31 or more above the first gap
pub record IsTakenList (taken : List ℕ) : Type 0 where
  pub ascends : AscendsFrom 0 taken
  pub near : (index : ℕ) → is_taken taken index ≡ true → index < first_gap taken + 31

-- an index that a receiver takes when a message of it comes
abbrev pub is_new : List ℕ → ℕ → Bool
is_new taken index =
    nat_le (first_gap taken) index && nat_lt index (first_gap taken + 31) && not (is_taken taken index)

-- the answer to a number that stands for this index, or for none
abbrev pub answer_at : List ℕ → Option ℕ → Taken
answer_at taken None = Outside
answer_at taken (Some index) =
    if is_taken taken index then Repeat else (if is_new taken index then New else Outside)

abbrev pub taken_as : List ℕ → ℕ → Taken
taken_as taken number = answer_at taken (index_of (first_gap taken) number)

-- an ascending list with one index more, at its place
abbrev pub with_index : ℕ → List ℕ → List ℕ
with_index index [] = index ∷ []
with_index index (first ∷ later) =
    if nat_lt index first then index ∷ first ∷ later else first ∷ with_index index later

abbrev pub with_new : List ℕ → Option ℕ → List ℕ
with_new taken None = taken
with_new taken (Some index) = if is_new taken index then with_index index taken else taken

-- what was taken once a message of this number came
abbrev pub after_take : List ℕ → ℕ → List ℕ
after_take taken number = with_new taken (index_of (first_gap taken) number)

-- the index that a message of this number delivers, if it is new
abbrev pub new_at : List ℕ → Option ℕ → List ℕ
new_at taken None = []
new_at taken (Some index) = if is_new taken index then index ∷ [] else []

-- the indexes that messages of these numbers deliver, one message after the other
abbrev pub delivered : List ℕ → List ℕ → List ℕ
delivered taken [] = []
delivered taken (number ∷ later) =
    new_at taken (index_of (first_gap taken) number) ++ delivered (after_take taken number) later

-- no index stands twice
abbrev pub EachOnce : List ℕ → Type 0
EachOnce [] = Unit {0}
EachOnce (index ∷ later) = (is_taken later index ≡ false) × EachOnce later
