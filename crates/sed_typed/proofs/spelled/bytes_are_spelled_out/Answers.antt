use Rattle.std.proofs.Common.{ℕ, ◌<◌, nat_lt, arith, subst, lt-ltb}
use Rattle.std.proofs.lemmas.List.{get_or_default}
use Rattle.std.proofs.lemmas.List.Sums.{list_all-from_AllPass}
use Rattle.sed_typed.proofs.spelled.bytes_are_spelled_out.Goals as goal

pub returns : goal.returns
returns c =
    list_all-from_AllPass (λ n. nat_lt n 256) c.args.bytes.now
    (λ k d within. lt-ltb _ _ (let P : ℕ → Type 0 = λ n. n < 256 in
    subst P (get_or_default c.args.bytes.now k 0 d within) (omega (arith, c.type_inv.bytes k))))
