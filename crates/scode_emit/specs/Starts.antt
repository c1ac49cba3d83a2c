-- Where the instructions of code stand among its bytes.
use Rattle.std.specs.Prelude.{ℕ, ◌+◌, List, [], ◌∷◌}
use Rattle.scode_ops.specs.declared.op.Op.{Op}
use Rattle.scode_ops.specs.Decoding.{size_of}

-- one behind the other, from a place on
abbrev pub starts_of : ℕ → List Op → List ℕ
starts_of at [] = []
starts_of at (i ∷ is) = at ∷ starts_of (at + size_of i) is
