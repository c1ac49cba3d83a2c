-- How many messages are sent.
use Rattle.std.proofs.Common.{◌≡◌, ◌<◌, ◌≤◌, ◌-◌, ℕ, zero, suc, Bool, true, false, List, [], ◌∷◌, ◌++◌, length, drop, map, refl, ◌∙◌, ap, arith}
use Rattle.std.specs.Prelude.{ℤ, pos, ◌+ℤ◌, int_le, ◌&&◌, ◌||◌, not, nat_lt, Option, Some, None, if◌then◌else◌}
use Rattle.std.specs.List.{list_any}
use Rattle.std.proofs.lemmas.Bool.Decides.{nat_tests}
use Rattle.dasp_msg.specs.declared.outgoing.Message.{Message as Posted}
use Rattle.dasp_msg.specs.Posted.{acknowledged_if, acknowledged_to, acknowledged_where, after_acks, after_push, count_of, first_open, has_room, is_due, is_for, new_message, open_part, sent_again}
use Rattle.dasp_session.specs.Letters.{datagram}
use Rattle.dasp_session.specs.Ticking.{again_if_due, resends}
use Rattle.dasp_msg.specs.Numbers.{wire_number}

-- how many messages stand from the first open one on
abbrev pub open_count : List Posted → ℕ
open_count posted = length (open_part posted)

-- ---- the first open message

pub open_within : (posted : List Posted) → first_open posted ≤ length posted
open_within [] = omega arith
open_within (message ∷ later) = by_test message.acknowledged (open_within later)
  where
    by_test : (b : Bool) → first_open later ≤ length later → (if b then suc (first_open later) else zero) ≤ length (message ∷ later)
    by_test true rest = omega arith
    by_test false rest = omega arith

dropped : (k : ℕ) (xs : List Posted) → length (drop k xs) ≡ length xs - k
dropped zero xs = omega arith
dropped (suc k) [] = omega arith
dropped (suc k) (x ∷ xs) = dropped k xs ∙ (let same : length xs - k ≡ suc (length xs) - suc k = omega arith in same)

pub open_is : (posted : List Posted) → open_count posted ≡ length posted - first_open posted
open_is posted = dropped (first_open posted) posted

-- ---- a message more

first_open_pushed : (posted : List Posted) (bytes : List ℕ) (now : ℤ) → first_open (posted ++ new_message bytes now ∷ []) ≡ first_open posted
first_open_pushed [] bytes now = refl
first_open_pushed (message ∷ later) bytes now = ap (λ (k : ℕ). if message.acknowledged then suc k else zero) (first_open_pushed later bytes now)

one_longer : (xs : List Posted) (y : Posted) → length (xs ++ y ∷ []) ≡ suc (length xs)
one_longer [] y = refl
one_longer (x ∷ xs) y = ap suc (one_longer xs y)

pub open_pushed : (posted : List Posted) (bytes : List ℕ) (now : ℤ) → open_count (after_push posted bytes now) ≡ suc (open_count posted)
open_pushed posted bytes now =
    let before = open_is posted in
    let after = open_is (after_push posted bytes now) in
    let first = first_open_pushed posted bytes now in
    let longer = one_longer posted (new_message bytes now) in
    let within = open_within posted in
    omega arith

-- ---- messages sent again

again_kept : (moment : ℤ) (message : Posted) → (again_if_due moment message).acknowledged ≡ message.acknowledged
again_kept moment message = by_test (is_due moment message)
  where
    by_test : (b : Bool) → (if b then sent_again moment message else message).acknowledged ≡ message.acknowledged
    by_test true = refl
    by_test false = refl

first_open_again : (moment : ℤ) (posted : List Posted) → first_open (map (again_if_due moment) posted) ≡ first_open posted
first_open_again moment [] = refl
first_open_again moment (message ∷ later) =
    ap (λ (b : Bool). if b then suc (first_open (map (again_if_due moment) later)) else zero) (again_kept moment message)
    ∙ ap (λ (k : ℕ). if message.acknowledged then suc k else zero) (first_open_again moment later)

as_long : (moment : ℤ) (posted : List Posted) → length (map (again_if_due moment) posted) ≡ length posted
as_long moment [] = refl
as_long moment (message ∷ later) = ap suc (as_long moment later)

pub open_again : (moment : ℤ) (posted : List Posted) → open_count (map (again_if_due moment) posted) ≡ open_count posted
open_again moment posted =
    let before = open_is posted in
    let after = open_is (map (again_if_due moment) posted) in
    let first = first_open_again moment posted in
    let longer = as_long moment posted in
    omega arith

module _ (remote_id : ℕ) (taken : List ℕ) (moment : ℤ) where
  each_once : (index : ℕ) (posted : List Posted) → length (resends remote_id taken moment index posted) ≤ length posted
  each_once index [] = omega arith
  each_once index (message ∷ later) = by_test (is_due moment message) (each_once (suc index) later)
    where
      by_test : (b : Bool) → length (resends remote_id taken moment (suc index) later) ≤ length later
          → length (if b then datagram remote_id taken (wire_number index) message.bytes ∷ resends remote_id taken moment (suc index) later else resends remote_id taken moment (suc index) later)
          ≤ length (message ∷ later)
      by_test true rest = omega arith
      by_test false rest = omega arith

  pub resends_few : (index : ℕ) (posted : List Posted) → length (resends remote_id taken moment index posted) ≤ open_count posted
  resends_few index [] = omega arith
  resends_few index (message ∷ later) = by_test message.acknowledged refl (resends_few (suc index) later) (each_once index (message ∷ later))
    where
      by_test : (b : Bool) → message.acknowledged ≡ b → length (resends remote_id taken moment (suc index) later) ≤ open_count later
          → length (resends remote_id taken moment index (message ∷ later)) ≤ length (message ∷ later)
          → length (resends remote_id taken moment index (message ∷ later)) ≤ length (drop (if b then suc (first_open later) else zero) (message ∷ later))
      by_test true is rest all =
          let not_due : is_due moment message ≡ false =
          ap (λ (b : Bool). (not b && int_le (message.last +ℤ pos 1000000000) moment) && nat_lt message.sendings 3) is in
          let same : length (resends remote_id taken moment index (message ∷ later)) ≡ length (resends remote_id taken moment (suc index) later) =
          ap (λ (b : Bool). length (if b then datagram remote_id taken (wire_number index) message.bytes ∷ resends remote_id taken moment (suc index) later else resends remote_id taken moment (suc index) later)) not_due in
          omega arith
      by_test false is rest all = all

  pub none_due : (index : ℕ) (posted : List Posted) → list_any (is_due moment) posted ≡ false → length (resends remote_id taken moment index posted) ≡ 0
  none_due index [] none = refl
  none_due index (message ∷ later) none = by_test (is_due moment message) none (none_due (suc index) later)
    where
      by_test : (b : Bool) → (b || list_any (is_due moment) later) ≡ false
          → (list_any (is_due moment) later ≡ false → length (resends remote_id taken moment (suc index) later) ≡ 0)
          → length (if b then datagram remote_id taken (wire_number index) message.bytes ∷ resends remote_id taken moment (suc index) later else resends remote_id taken moment (suc index) later) ≡ 0
      by_test true any rest = absurd (let no : true ≡ false = any in cc)
      by_test false any rest = rest any

-- ---- acknowledgements

acknowledged_longer : (test : ℕ → Bool) (index : ℕ) (posted : List Posted)
    → (first_open posted ≤ first_open (acknowledged_where test index posted)) × (length (acknowledged_where test index posted) ≡ length posted)
acknowledged_longer test index [] = (omega arith, refl)
acknowledged_longer test index (message ∷ later) = by_tests (test index) message.acknowledged refl (acknowledged_longer test (suc index) later)
  where
    by_tests : (b c : Bool) → message.acknowledged ≡ c
        → (first_open later ≤ first_open (acknowledged_where test (suc index) later)) × (length (acknowledged_where test (suc index) later) ≡ length later)
        → ((if c then suc (first_open later) else zero) ≤ first_open (acknowledged_if b message ∷ acknowledged_where test (suc index) later))
        × (length (acknowledged_if b message ∷ acknowledged_where test (suc index) later) ≡ suc (length later))
    by_tests true true is rest = let more = rest.0 in (omega arith, ap suc rest.1)
    by_tests true false is rest = (omega arith, ap suc rest.1)
    by_tests false true is rest =
        let more = rest.0 in
        let same : first_open (message ∷ acknowledged_where test (suc index) later) ≡ suc (first_open (acknowledged_where test (suc index) later)) =
        ap (λ (b : Bool). if b then suc (first_open (acknowledged_where test (suc index) later)) else zero) is in
        (omega arith, ap suc rest.1)
    by_tests false false is rest = (omega arith, ap suc rest.1)

fewer_where : (test : ℕ → Bool) (posted : List Posted) → open_count (acknowledged_where test 0 posted) ≤ open_count posted
fewer_where test posted =
    let both = acknowledged_longer test 0 posted in
    let first = both.0 in
    let long = both.1 in
    let before = open_is posted in
    let after = open_is (acknowledged_where test 0 posted) in
    omega arith

fewer_to : (posted : List Posted) (more : Option (List ℕ)) (count : Option ℕ) → open_count (acknowledged_to posted more count) ≤ open_count posted
fewer_to posted more None = omega arith
fewer_to posted more (Some count) = fewer_where (is_for count more) posted

pub fewer_after : (posted : List Posted) (ack : Option ℕ) (more : Option (List ℕ)) → open_count (after_acks posted ack more) ≤ open_count posted
fewer_after posted None more = omega arith
fewer_after posted (Some ack) more = fewer_to posted _ (count_of posted ack)

long_to : (posted : List Posted) (more : Option (List ℕ)) (count : Option ℕ) → length (acknowledged_to posted more count) ≡ length posted
long_to posted more None = refl
long_to posted more (Some count) = (acknowledged_longer (is_for count more) 0 posted).1

pub long_after : (posted : List Posted) (ack : Option ℕ) (more : Option (List ℕ)) → length (after_acks posted ack more) ≡ length posted
long_after posted None more = refl
long_after posted (Some ack) more = long_to posted _ (count_of posted ack)

pub room_is : (posted : List Posted) → has_room posted ≡ true → open_count posted < 31
room_is posted is = grind (arith, nat_tests)
