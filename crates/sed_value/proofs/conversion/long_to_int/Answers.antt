use Rattle.std.proofs.Common.{rules, ◌≡◌, to_z, of_z}
use Rattle.std.specs.Int.{w32, w64}
use Rattle.sed_value.proofs.WrapLemmas.{cast_signed-low_bits}
use Rattle.sed_value.proofs.conversion.long_to_int.Goals as goal

pub returns : goal.returns
returns c =
    let long : to_z w64 (of_z w64 c.args.a) ≡ c.args.a = search rules in
    let low : to_z w64 (of_z w64 c.rem_euclid.result) ≡ c.rem_euclid.result = search rules in
    let int : to_z w32 (of_z w32 c.cast_signed.result) ≡ c.cast_signed.result = search rules in
    let wrapped = cast_signed-low_bits w32 c.args.a in
    cc
