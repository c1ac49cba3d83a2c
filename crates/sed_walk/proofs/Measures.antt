-- How far a call falls below its caller.
use Rattle.std.proofs.Common.{◌≡◌, ℕ, suc, ◌+◌, ◌*◌, ◌<◌, ◌≤◌, arith}

pub lower-by : (left a b k : ℕ) → b ≡ suc a → k < 8 → left + (8 * a + k) < left + 8 * b
lower-by left a b k e h = omega (arith, e, h)

pub lower-within : (left a b c k : ℕ) → b ≡ suc c → a ≤ c → k < 8 → left + (8 * a + k) < left + 8 * b
lower-within left a b c k e le h = omega (arith, e, le, h)

pub lower-alike : (left a b k m : ℕ) → b ≡ a → k < m → left + (8 * a + k) < left + (8 * b + m)
lower-alike left a b k m e h = omega (arith, e, h)
