use Rattle.std.proofs.Common.{◌≡◌, ◌∙◌, ◌+◌, ◌<◌, ℕ, List, length, ap, sym, subst}
use Rattle.sed_value.specs.declared.value.Value.TheVariants as kept
use Rattle.sed_engine.specs.Texts.{filled}
use Rattle.scode_mem.specs.Blocks.{HasBytes, Held, with_bytes}
use Rattle.scode_state.specs.Stands.{IsStored}
use Rattle.scode_state.proofs.Putting.{filled_long, str_stored}
use Rattle.scode_state.proofs.strs.fill_str.Goals as goal

module _ (c : goal.After-as_bytes) where
  is : c.as_bytes.result.now ≡ filled c.args.size c.args.text.now
  is = c.as_bytes.ensures.same ∙ c.filled.ensures ∙ ap (λ (n : ℕ). filled n c.args.text.now) c.from.ensures

  long : length c.as_bytes.result.now ≡ c.args.size
  long = ap length is ∙ filled_long c.args.size c.args.text.now c.requires.some

pub write_run-requires-clause-there : goal.write_run-requires-clause-there
write_run-requires-clause-there c =
    subst (λ (n : ℕ). HasBytes c.args.pool.now c.args.b c.args.at n) (sym (long c)) c.requires.there

pub write_run-requires-clause-reach : goal.write_run-requires-clause-reach
write_run-requires-clause-reach c = subst (λ (n : ℕ). c.args.at + n < 65536) (sym (long c)) c.requires.reach

module _ (c : goal.After-write_run) where
  put : c.write_run.new.pool ≡ with_bytes c.args.pool.now c.args.b c.args.at (filled c.args.size c.args.text.now)
  put =
      c.write_run.ensures
      ∙ ap (with_bytes c.args.pool.now c.args.b c.args.at)
      (c.as_bytes.ensures.same ∙ c.filled.ensures ∙ ap (λ (n : ℕ). filled n c.args.text.now) c.from.ensures)

pub returns-clause-bytes : goal.returns-clause-bytes
returns-clause-bytes c = put c

pub returns-clause-path : goal.returns-clause-path
returns-clause-path c = λ image class base path at.
    subst (λ (new : Held). IsStored image class base path c.args.pool.now new c.args.b
    (kept.Buf (filled c.args.size c.args.text.now))) (sym (put c))
    (str_stored image class base path c.args.pool.now c.args.b c.args.at c.args.size at
    (filled c.args.size c.args.text.now) (filled_long c.args.size c.args.text.now c.requires.some))
