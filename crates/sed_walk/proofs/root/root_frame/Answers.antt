use Rattle.std.proofs.Common.{◌≡◌, ◌∙◌, ℕ, List, [], length, nat_lt, Bool, true, false, cond, refl, ap}
use Rattle.std.proofs.Math.ListN.{set}
use Rattle.std.proofs.lemmas.List.{map-set}
use Rattle.sed_typed.specs.Contents.{Path}
use Rattle.sed_cells.specs.Places.{Plan, place_of, layout_at, climb}
use Rattle.sed_engine.specs.Values.{Val, At, Component}
use Rattle.sed_engine.specs.Expressions.{frame_of}
use Rattle.walk_steps.specs.Seen.{seen}
use Rattle.sed_walk.proofs.root.root_frame.Goals as goal

-- place 0 is the whole
whole-place : (plan : Plan) (top : ℕ) → place_of plan top 0 ≡ []
whole-place plan top = go (nat_lt 0 (length (layout_at plan top).nodes))
  where
    go : (b : Bool) → climb (layout_at plan top).nodes (cond b 0 0) (cond b 0 0) [] ≡ []
    go true = refl
    go false = refl

pub returns : goal.returns
returns c = λ plan class.
    let v = seen plan class c.args.argument in
    map-set (seen plan class) c.frame_of-frame.result 1 c.args.argument
    ∙ ap (λ (vs : List Val). set vs 1 v) (c.frame_of-frame.ensures plan class ∙ ap (λ (p : Path). frame_of (At (record { base = Component; path = p }))) (whole-place plan class))
