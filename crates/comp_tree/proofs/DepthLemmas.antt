-- How deep an id stands.
use Rattle.std.proofs.Common.{ℕ, zero, suc, ◌+◌, ◌-◌, ◌<◌, ◌≤◌, ◌≡◌, length, refl, sym, ◌∙◌, ap, arith}
use Rattle.std.specs.Prelude.{Option, Some, None}
use Rattle.std.specs.Option.{option_and_then}
use Rattle.comp_tree.specs.Shape.{up_by}
use Rattle.sed_typed.specs.Classes.{reached}

-- as many are reached as there are steps up to what has no parent
pub depth_is : (parent : ℕ → Option ℕ) (k n id : ℕ) → parent 0 ≡ None → n ≤ k → up_by parent n id ≡ Some 0 → length (reached parent k (parent id)) ≡ n
depth_is parent zero zero id none le e = refl
depth_is parent (suc k) zero id none le e =
    let same : id ≡ 0 = cc in ap (λ r. length (reached parent (suc k) r)) (ap parent same ∙ none)
depth_is parent zero (suc n) id none le e = absurd (omega arith)
depth_is parent (suc k) (suc n) id none le e = go (λ y. depth_is parent k n y none (omega arith)) (parent id) e
  where
    go : ((y : ℕ) → up_by parent n y ≡ Some 0 → length (reached parent k (parent y)) ≡ n) → (r : Option ℕ) → option_and_then (up_by parent n) r ≡ Some 0 → length (reached parent (suc k) r) ≡ suc n
    go more None f = absurd (let no = f in cc)
    go more (Some y) f = let rest = more y f in omega arith

module _ (parent : ℕ → Option ℕ) where
  -- one more is passed
  pub depth_more : (d up : ℕ) (r next : Option ℕ) (whole : ℕ) → d < 17 → r ≡ Some up → next ≡ parent up → d + length (reached parent (17 - d) r) ≡ whole
      → (d + 1) + length (reached parent (17 - (d + 1)) next) ≡ whole
  depth_more d up r next whole lt is then so_far =
      let levels : 17 - d ≡ suc (17 - (d + 1)) = omega arith in
      let here : length (reached parent (17 - d) r) ≡ suc (length (reached parent (17 - (d + 1)) next)) =
      ap (λ (k : ℕ). length (reached parent k r)) levels ∙ ap (λ q. length (reached parent (suc (17 - (d + 1))) q)) is
      ∙ ap (λ q. suc (length (reached parent (17 - (d + 1)) q))) (sym then) in
      omega arith

  -- nothing stands above
  pub depth_end : (d : ℕ) (r : Option ℕ) (whole : ℕ) → d < 17 → r ≡ None → d + length (reached parent (17 - d) r) ≡ whole → d ≡ whole
  depth_end d r whole lt none so_far =
      let levels : 17 - d ≡ suc (17 - (d + 1)) = omega arith in
      let here : length (reached parent (17 - d) r) ≡ 0 =
      ap (λ (k : ℕ). length (reached parent k r)) levels ∙ ap (λ q. length (reached parent (suc (17 - (d + 1))) q)) none in
      omega arith

  -- all levels are passed
  pub depth_whole : (d : ℕ) (r : Option ℕ) (whole : ℕ) → d ≡ 17 → d + length (reached parent (17 - d) r) ≡ whole → 17 ≡ whole
  depth_whole d r whole all so_far =
      let levels : 17 - d ≡ 0 = omega arith in
      let here : length (reached parent (17 - d) r) ≡ 0 = ap (λ (k : ℕ). length (reached parent k r)) levels in
      omega arith
