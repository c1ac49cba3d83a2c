use Rattle.std.proofs.Common.{◌∙◌, ℕ, drop, ap}
use Rattle.std.specs.Prelude.{slice_set}
use Rattle.scode_ops.specs.declared.op.Op.TheVariants as op
use Rattle.scode_code.specs.Steps.{effect}
use Rattle.scode_cells.specs.Frames.{Frames, popped, running, stored}
use Rattle.scode_vm.proofs.Ends.{onward}
use Rattle.scode_vm.proofs.Stores.{store_ends, store_within}
use Rattle.scode_vm.proofs.locals.store.Goals as goal

pub returns : goal.returns
returns c =
    let s : Frames = c.args.cells.now in
    let i : ℕ = c.args.i in
    onward (λ w. effect w (op.Store i)) s c.store.new.self
    (slice_set (running s).locals i c.pop-v.result) (drop 1 (running s).stack)
    (c.store.ensures
    ∙ ap (λ (x : Frames). stored x c.from.result c.pop-v.result) c.pop-v.ensures.rest
    ∙ ap (λ (n : ℕ). stored (popped s) n c.pop-v.result) c.from.ensures)
    (λ w place shared typed.
    store_ends w place shared (running s).locals (running s).stack i c.pop-v.result c.pop-v.ensures.top
    (store_within w place shared (running s).locals (running s).stack i typed.ends))
