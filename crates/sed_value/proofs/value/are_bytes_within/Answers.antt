use Rattle.std.proofs.Common.{ℕ, ap, ◌∙◌}
use Rattle.std.specs.Prelude.{nat_le, length}
use Rattle.sed_value.specs.Value.{are_bytes}
use Rattle.sed_value.proofs.ByteLemmas.{are_bytes_if, with_bytes}
use Rattle.sed_value.proofs.value.are_bytes_within.Goals as goal

pub returns : goal.returns
returns c =
    ap (λ (most : ℕ). nat_le (length c.args.bytes.now) most) c.from.ensures
    ∙ with_bytes (are_bytes c.args.bytes.now) (nat_le (length c.args.bytes.now) c.args.most) (are_bytes_if c.args.bytes.now (λ k. (c.type_inv.bytes k).fits))
