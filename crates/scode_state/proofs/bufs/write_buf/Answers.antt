use Rattle.std.proofs.Common.{◌≡◌, ◌∙◌, ◌+◌, ◌<◌, ◌≤◌, ℕ, List, ◌++◌, length, ap, sym, subst, arith}
use Rattle.std.specs.Int.{bytes_high_first}
use Rattle.byteorder.specs.Numbers.{length-bytes_high_first}
use Rattle.sed_value.specs.declared.value.Value.TheVariants as kept
use Rattle.scode_mem.specs.Blocks.{HasBytes, Held, with_bytes}
use Rattle.scode_state.specs.Stands.{IsStored}
use Rattle.scode_state.proofs.Joined.{has_part, has_still, with_more}
use Rattle.scode_state.proofs.Putting.{buf_stored}
use Rattle.scode_state.proofs.bufs.write_buf.Goals as goal

pub write_run-requires-clause-there : goal.write_run-requires-clause-there
write_run-requires-clause-there c =
    let h = c.args.pool.now in
    let b = c.args.b in
    let at = c.args.at in
    let bytes = c.args.bytes.now in
    let two : length (bytes_high_first 2 (length bytes)) ≡ 2 = length-bytes_high_first 2 (length bytes) in
    subst (λ (x : Held). HasBytes x b (at + 2) (length bytes)) (sym c.write.ensures)
    (has_still h b at (at + 2) (length bytes) (bytes_high_first 2 (length bytes))
    (has_part h b at (2 + length bytes) at (length (bytes_high_first 2 (length bytes))) c.requires.there
    (omega (arith, two)))
    (has_part h b at (2 + length bytes) (at + 2) (length bytes) c.requires.there (omega arith)))

module _ (c : goal.After-write_run) where
  put : c.write_run.new.pool
      ≡ with_bytes c.args.pool.now c.args.b c.args.at (bytes_high_first 2 (length c.args.bytes.now) ++ c.args.bytes.now)
  put =
      let size = bytes_high_first 2 (length c.args.bytes.now) in
      let two : length size ≡ 2 = length-bytes_high_first 2 (length c.args.bytes.now) in
      c.write_run.ensures
      ∙ ap (λ (x : Held). with_bytes x c.args.b (c.args.at + 2) c.args.bytes.now) c.write.ensures
      ∙ ap (λ (n : ℕ). with_bytes (with_bytes c.args.pool.now c.args.b c.args.at size) c.args.b (c.args.at + n)
      c.args.bytes.now) (sym two)
      ∙ with_more c.args.pool.now c.args.b c.args.at size c.args.bytes.now
      (subst (λ (n : ℕ). HasBytes c.args.pool.now c.args.b c.args.at (n + length c.args.bytes.now)) (sym two)
      c.requires.there)

pub returns-clause-bytes : goal.returns-clause-bytes
returns-clause-bytes c = put c

pub returns-clause-path : goal.returns-clause-path
returns-clause-path c = λ image class base path n few at.
    let most = c.requires.few in
    subst (λ (new : Held). IsStored image class base path c.args.pool.now new c.args.b (kept.Buf c.args.bytes.now))
    (sym (put c))
    (buf_stored image class base path c.args.pool.now c.args.b c.args.at n at c.args.bytes.now few
    (omega (arith, most)))
