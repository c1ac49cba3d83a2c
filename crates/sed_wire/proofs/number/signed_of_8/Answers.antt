use Rattle.std.proofs.Common.{◌≡◌, ℤ, ◌∙◌, sym, subst, rules, to_z, of_z}
use Rattle.std.specs.Int.{w64}
use Rattle.byteorder.specs.Endian.{big_from}
use Rattle.sed_wire.specs.Number.{SpellsSigned}
use Rattle.sed_wire.proofs.NumberLemmas.{read_spells_signed}
use Rattle.sed_wire.proofs.number.signed_of_8.Goals as goal

pub returns : goal.returns
returns c =
    let spells = read_spells_signed w64 c.args.bytes.now c.requires (λ i. search rules) in
    let is : c.read_i64.result ≡ to_z w64 (big_from 0 8 c.args.bytes.now) = c.read_i64.ensures in
    let back : to_z w64 (of_z w64 c.read_i64.result) ≡ c.read_i64.result = search rules in
    let P : ℤ → Type 0 = λ z. SpellsSigned w64 z c.args.bytes.now in
    subst P (sym (back ∙ is)) spells
