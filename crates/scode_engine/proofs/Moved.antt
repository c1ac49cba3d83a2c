-- What is said of what was lent, said of what the machine keeps.
use Rattle.std.proofs.Common.{◌≡◌, ℤ, subst}
use Rattle.sed_value.specs.declared.value.Value.{Value}
use Rattle.scode_image.specs.declared.image.Image.{Image}
use Rattle.scode_mem.specs.Blocks.{Held}
use Rattle.scode_engine.specs.Kept.{Loaded, loaded}

pub moved : (P : Image → Loaded → Value → ℤ → Type 0) (i j : Image) → i ≡ j → (h : Held) (m : Loaded)
    → loaded j h ≡ m → (a b : Value) → a ≡ b → (y z : ℤ) → y ≡ z → P i (loaded i h) a y → P j m b z
moved P i j same h m view a b given y z when is =
    subst (λ (m : Loaded). P j m b z) view
    (subst (λ (i : Image). P i (loaded i h) b z) same
    (subst (λ (a : Value). P i (loaded i h) a z) given
    (subst (λ (z : ℤ). P i (loaded i h) a z) when is)))
