-- Numbers and the distances between them.
use Rattle.std.proofs.Common.{◌≡◌, ℕ, suc, ◌+◌, ◌<◌, ◌≢◌, arith}
use Rattle.dasp_msg.specs.Numbers.{wire_number, distance}

pub distance-wire_number : (from place : ℕ) → place < 65536 → distance from (wire_number (from + place)) ≡ place
distance-wire_number from place lt = omega arith

pub distance-same : (from number : ℕ) → wire_number from ≡ number → distance from number ≡ 0
distance-same from number same = omega arith

pub distance-suc : (from number : ℕ) → number < 65536 → wire_number from ≢ number → distance from number ≡ suc (distance (suc from) number)
distance-suc from number fits other = omega arith

-- a distance is the same from indexes of the same number
pub distance-alike : (from other number : ℕ) → wire_number from ≡ wire_number other → distance from number ≡ distance other number
distance-alike from other number same = omega arith

pub wire_number-suc : (a b : ℕ) → wire_number a ≡ wire_number b → wire_number (suc a) ≡ wire_number (suc b)
wire_number-suc a b same = omega arith

pub wire_number-add : (a b place : ℕ) → wire_number a ≡ wire_number b → wire_number (a + place) ≡ wire_number (b + place)
wire_number-add a b place same = omega arith

pub wire_number-distance : (from to : ℕ) → wire_number (from + distance from (wire_number to)) ≡ wire_number to
wire_number-distance from to = omega arith
