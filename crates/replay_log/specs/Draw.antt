-- Numbers drawn from a seed.
use Rattle.std.specs.Prelude.{ℕ, zero, suc, ◌+◌, ◌*◌, ◌%◌}

-- the number that is drawn next
unfoldable pub next_draw : ℕ → ℕ
next_draw x = (x * 1103515245 + 12345) % 2147483648

-- what the n-th draw gives; before the first one stands the seed
unfoldable pub draw : ℕ → ℕ → ℕ
draw seed zero = seed
draw seed (suc n) = next_draw (draw seed n)
