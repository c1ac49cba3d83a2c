-- Lists of bytes.
use Rattle.std.proofs.Common.{◌≡◌, ℕ, suc, ◌<◌, Bool, true, List, [], ◌∷◌, get_or, refl, sym, ap}
use Rattle.std.specs.Prelude.{◌&&◌, nat_lt}
use Rattle.std.proofs.lemmas.Bool.{lt-ltb, and_from}
use Rattle.sed_value.specs.Value.{are_bytes}

-- numbers that are below 256 at each place are bytes
pub are_bytes_if : (numbers : List ℕ) → ((k : ℕ) → get_or numbers k 0 < 256) → are_bytes numbers ≡ true
are_bytes_if [] small = refl
are_bytes_if (n ∷ ns) small = and_from (nat_lt n 256) (are_bytes ns) (lt-ltb n 256 (small 0)) (are_bytes_if ns (λ k. small (suc k)))

pub with_bytes : (b c : Bool) → b ≡ true → c ≡ (b && c)
with_bytes b c e = ap (λ (t : Bool). t && c) (sym e)
