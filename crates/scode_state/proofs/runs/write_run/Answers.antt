use Rattle.std.proofs.Common.{◌≡◌, ◌+◌, ◌<◌, ◌∙◌, ℕ, length, take, ap, sym, subst, arith}
use Rattle.std.proofs.lemmas.List.{length-take-le}
use Rattle.std.specs.Int.{bytes_high_first}
use Rattle.scode_mem.specs.Blocks.{HasBytes, Held, with_bytes}
use Rattle.scode_state.proofs.Joined.{has_part, has_still, with_none, write_step}
use Rattle.scode_state.proofs.runs.write_run.Goals as goal

pub loop-i-init : goal.loop-i-init
loop-i-init c = sym (with_none c.args.pool.now c.args.b c.args.at)

pub write-requires-clause-there : goal.write-requires-clause-there
write-requires-clause-there c =
    let h = c.args.pool.now in
    let b = c.args.b in
    let at = c.args.at in
    let bytes = c.args.bytes.now in
    let i = c.loop-i.i in
    let within : i < length bytes = c.loop-i-test.true in
    let long : length (take i bytes) ≡ i = length-take-le i bytes (omega (arith, within)) in
    subst (λ (x : Held). HasBytes x b (at + i) 1) (sym c.loop-i.invariant)
    (has_still h b at (at + i) 1 (take i bytes)
    (has_part h b at (length bytes) at (length (take i bytes)) c.requires.there (omega (arith, long, within)))
    (has_part h b at (length bytes) (at + i) 1 c.requires.there (omega (arith, within))))

pub loop-i-preserved : goal.loop-i-preserved
loop-i-preserved c =
    let h = c.args.pool.now in
    let b = c.args.b in
    let at = c.args.at in
    let i = c.loop-i.i in
    let below : c.from.result < 256 = subst (λ (x : ℕ). x < 256) (sym c.from.ensures) (c.type_inv.bytes i).fits in
    c.write.ensures
    ∙ ap (λ (x : Held). with_bytes x b (at + i) (bytes_high_first 1 c.from.result)) c.loop-i.invariant
    ∙ write_step h b at i c.from.result c.args.bytes.now c.requires.there c.loop-i-test.true below (sym c.from.ensures)
