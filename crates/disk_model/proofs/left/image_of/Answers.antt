use Rattle.std.proofs.Common.{◌≡◌, ◌+◌, ◌-◌, ℕ, List, drop, get_or, if◌then◌else◌, Bool, ◌∙◌, ap}
use Rattle.disk_model.specs.Left.{Pair, with_call, image_left}
use Rattle.disk_model.specs.Recorded.{calls_of, call_of, is_call}
use Rattle.disk_model.specs.declared.journal.Entry.TheVariants.{Wrote}
use Rattle.disk_model.proofs.LeftSteps.{pass}
use Rattle.disk_model.proofs.left.image_of.Goals as goal

pub loop-entry-preserved : goal.loop-entry-preserved
loop-entry-preserved c =
    let one : is_call (get_or c.args.entries.now c.loop-entry.entry-index _) ≡ 1 = c.is_a_call.ensures ∙ ap (λ (b : Bool). if b then 1 else 0) c.if-not-is_a_call.false in
    ap (λ (p : Pair). image_left c.args.fill p (calls_of c.behind-log.result.now (drop (c.loop-entry.entry-index + 1) c.args.entries.now)) (c.loop-entry.left - 1)) c.in_ok-replayed-2.ensures
    ∙ ap (λ (b : List ℕ). image_left c.args.fill (with_call c.args.fill c.loop-entry.replayed (call_of c.loop-entry.log.now (get_or c.args.entries.now c.loop-entry.entry-index (Wrote 0 0)))) (calls_of b (drop (c.loop-entry.entry-index + 1) c.args.entries.now)) (c.loop-entry.left - 1)) c.behind-log.ensures
    ∙ pass c.args.fill c.loop-entry.replayed c.loop-entry.log.now c.args.entries.now c.loop-entry.entry-index _ c.loop-entry-test.true c.loop-entry.left one c.if-left-eq0.false
    ∙ c.loop-entry.invariant
