use Rattle.std.proofs.Common.{◌≡◌, ℕ, ◌<◌, length, sym, subst, ◌∙◌, refl, arith}
use Rattle.std.specs.Prelude.{All}
use Rattle.scode_mem.specs.Kept.{parts}
use Rattle.scode_mem.proofs.Moving.{closed_up, closing_step}
use Rattle.scode_mem.proofs.moves.close_up.Goals as goal

pub loop-place-preserved : goal.loop-place-preserved
loop-place-preserved c =
    let then = parts c.args.firsts.now c.args.bytes.now c.args.directory.now in
    let now = parts c.args.firsts.now c.loop-place.bytes c.loop-place.directory in
    let long : length c.loop-place.directory ≡ length c.args.directory.now = c.loop-place.auto.directory in
    let within : All (λ q. q < length c.loop-place.directory) c.args.places.now = subst (λ (n : ℕ). All (λ q. q < n) c.args.places.now) (sym long) c.requires.within in
    closing_step then now c.args.places.now c.loop-place.place-index c.loop-place.end c.from.result (sym c.from.ensures) refl c.requires.apart within c.loop-place-test.true
    c.loop-place.invariant c.from-in-loop-place.result c.size_of-size.result c.copy_within.new.self (c.from-in-loop-place.ensures ∙ sym c.from.ensures) c.size_of-size.ensures
    c.copy_within.ensures.after

pub returns-clause-lie : goal.returns-clause-lie
returns-clause-lie c =
    closed_up (parts c.args.firsts.now c.args.bytes.now c.args.directory.now) (parts c.args.firsts.now c.loop-place.bytes c.loop-place.directory) c.args.places.now c.loop-place.place-index c.loop-place.end
    (let ended = c.loop-place-test.false in omega arith) c.loop-place.invariant
