use Rattle.std.proofs.Common.{◌≡◌, ◌∙◌, ◌<◌, ◌+◌, ℕ, List, [], ◌∷◌, ap, sym, subst}
use Rattle.std.specs.Int.{w8, w32}
use Rattle.std.proofs.lemmas.Int.{to_z-of_z}
use Rattle.sed_value.specs.Wrap.{low_bits}
use Rattle.sed_value.specs.declared.value.Value.TheVariants as kept
use Rattle.sed_engine.specs.Texts.{with_character}
use Rattle.scode_mem.specs.Blocks.{Held, bytes_at, with_bytes, with_number}
use Rattle.scode_state.specs.Stands.{IsStored}
use Rattle.scode_state.proofs.Joined.{one_byte}
use Rattle.scode_state.proofs.Putting.{byte_stored}
use Rattle.scode_state.proofs.strs.set_character.Goals as goal

module _ (c : goal.After-write) where
  low : c.low_byte.result ≡ low_bits w8 c.args.c
  low = c.low_byte.ensures ∙ ap (low_bits w8) (to_z-of_z w32 c.args.c c.ranges.c)

  below : low_bits w8 c.args.c < 256
  below = subst (λ (x : ℕ). x < 256) low c.low_byte.type_inv

  is : c.write.new.self ≡ with_bytes c.args.pool.now c.args.b (c.args.at + c.args.i) (low_bits w8 c.args.c ∷ [])
  is =
      c.write.ensures
      ∙ ap (λ (n : ℕ). with_number c.args.pool.now c.args.b (c.args.at + n) 1 c.from-2.result) c.from.ensures
      ∙ ap (λ (n : ℕ). with_number c.args.pool.now c.args.b (c.args.at + c.args.i) 1 n)
      (c.from-2.ensures ∙ low)
      ∙ ap (with_bytes c.args.pool.now c.args.b (c.args.at + c.args.i)) (one_byte (low_bits w8 c.args.c) below)

pub returns-clause-bytes : goal.returns-clause-bytes
returns-clause-bytes c = is c

pub returns-clause-path : goal.returns-clause-path
returns-clause-path c = λ image class base path bytes at are.
    subst (λ (new : Held). IsStored image class base path c.args.pool.now new c.args.b
    (kept.Buf (with_character (bytes_at bytes c.args.at c.args.size) c.args.i c.args.c))) (sym (is c))
    (byte_stored image class base path c.args.pool.now c.args.b c.args.at c.args.size at c.args.i
    (low_bits w8 c.args.c) bytes c.requires.within are)
