use Rattle.std.proofs.Common.{ℕ, List, ◌+◌, ◌++◌, map, ◌∙◌, ap}
use Rattle.replay_log.specs.Generated.{place}
use Rattle.replay_log.proofs.GeneratedLemmas.{adds-drawn, adds-folder, folder-test, other-test}
use Rattle.replay_log.proofs.steps.add_component.Goals as goal

pub returns-then-i-eq0 : goal.returns-then-i-eq0
returns-then-i-eq0 c =
    adds-folder c.args.spec.now c.args.i _ _ _ (folder-test c.args.i c.if-i-eq0.true) c.requires.drawn
    c.in_ok-add_folder.ensures.does c.add_folder.ensures.last

pub returns : goal.returns
returns c =
    adds-drawn c.args.spec.now c.args.i c.draw_type-kind.result.now _ _ _ _ _
    (other-test c.args.i c.if-i-eq0.false) c.requires.drawn c.draw_type-kind.ensures.drawn
    c.draw_type-kind.ensures.others c.in_ok-add_drawn.ensures.does c.add_drawn.ensures.last
    (c.in_ok-push_places.ensures
    ∙ ap (λ (t : List ℕ). c.args.places.now.items ++ map (place (c.args.i + 1)) t) c.as_slice.ensures)
