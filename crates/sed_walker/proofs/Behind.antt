-- Places one step from the whole.
use Rattle.std.specs.Prelude.{nat_lt, IfSome, IfNone}
use Rattle.std.proofs.Common.{◌≡◌, ◌∙◌, ◌++◌, ℕ, List, [], ◌∷◌, Bool, true, false, Option, Some, None, cond, length, refl, sym, ap}
use Rattle.sed_value.specs.declared.value.Value.{Value}
use Rattle.sed_typed.specs.Contents.{Path, value_at}
use Rattle.sed_cells.specs.Places.{Plan, place_of, contents_of, layout_at, climb}

-- place 0 is the whole
pub whole-place : (plan : Plan) (top : ℕ) → place_of plan top 0 ≡ []
whole-place plan top = go (nat_lt 0 (length (layout_at plan top).nodes))
  where
    go : (b : Bool) → climb (layout_at plan top).nodes (cond b 0 0) (cond b 0 0) [] ≡ []
    go true = refl
    go false = refl

module _ (plan : Plan) (top step : ℕ) (path : Path) (is : path ≡ step ∷ []) where
  one-step : place_of plan top 0 ++ step ∷ [] ≡ path
  one-step = ap (λ (p : Path). p ++ step ∷ []) (whole-place plan top) ∙ sym is

  pub path-found : (o : Option ℕ) → IfSome o (λ m. place_of plan top m ≡ place_of plan top 0 ++ step ∷ []) → IfSome o (λ m. place_of plan top m ≡ path)
  path-found (Some m) h = h ∙ one-step
  path-found None h = h

  pub path-nothing : (o : Option ℕ) → IfNone o ((values : List Value) (rest : Path) → value_at (contents_of plan top values) (place_of plan top 0 ++ step ∷ rest) ≡ None) →
      IfNone o ((values : List Value) → value_at (contents_of plan top values) path ≡ None)
  path-nothing (Some m) h = h
  path-nothing None h = λ values. ap (λ (p : Path). value_at (contents_of plan top values) p) (sym one-step) ∙ h values []
